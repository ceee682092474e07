-- Hosts and address headers that were read; the lengths of what is written, and its writes put together.
-- Assumes nothing.
use mathlib.Core.Path.{◌≡◌, refl, sym, ap, ap₂, ◌∙◌}
use mathlib.Core.Bool.{Bool, true, false, cond}
use mathlib.Core.List.{List, [], ◌∷◌, ◌++◌}
use Prim.Native.Nat.{ℕ, suc, ◌+◌, ◌*◌, ◌%◌, ◌≤◌, ◌<◌}
use native.Mathlib.Nat.{add-zero}
use native.Mathlib.Omega.{arith}
use lib.ListN.{length, take, drop, set, replicate, length-take, length-append}
use lib.Seq.{sets, length-sets, length-take-le, take-add}
use lib.Dec.{leb, eqb}
use borrow.Author.Tests.{lt-ltb, le-leb, lt-leb, leb-true, eq-eqb, eqb-true}
use borrow.Rule.Slice.PartMut.{put_mid}
use Rattle.std.specs.Prelude.{⊤, Result, Ok, Err}
use Rattle.std.specs.Result.{IsOk}
use Rattle.wire_encoding.specs.declared.write.InadequateBufferSize.{InadequateBufferSize}
use Rattle.std.specs.Int.{bytes_high_first}
use Rattle.wire_encoding.specs.Answers.{put_answer}
use Rattle.wire_encoding.specs.Result.{require, or_else}
use Rattle.wire_encoding.specs.BigEndian.{bytes_of, number_at, part, written, placed}
use Rattle.wire_encoding.proofs.Result.{same_value, held}
use Rattle.wire_encoding.proofs.Lists.{Bytes, length_part, written_after, set-sets}
use Rattle.wire_encoding.proofs.BigEndian.{or_zero_is, bytes_read, length_bytes_of, high_first}
use Rattle.wire_encoding.proofs.Writes.{done, no_room, placed_is, placed-whole, lent_run, lent_written}
use Rattle.address.specs.declared.host.HostAddr.TheVariants.{V4, V6, Svc}
use Rattle.errors.specs.declared.packet_error.DecodeError.{DecodeError}
use Rattle.errors.specs.declared.packet_error.DecodeError.TheVariants.{PacketEmptyOrTruncated}
use Rattle.packet_common_header.specs.CommonHeader.{host_length}
use Rattle.packet_common_header.proofs.CommonHeaderLaws.{host_few}
use Rattle.packet_address_header.specs.declared.MaybeEncoded.{MaybeEncoded}
use Rattle.packet_address_header.specs.declared.MaybeEncoded.TheVariants.{Decoded, Encoded}
use Rattle.packet_address_header.specs.declared.HostAddress.{HostAddress}
use Rattle.packet_address_header.specs.declared.AddressHeader.{AddressHeader}
use Rattle.packet_address_header.specs.declared.WireHost.{WireHost}
use Rattle.packet_address_header.specs.declared.WireAddress.{WireAddress}
use Rattle.packet_address_header.specs.AddressHeader.{kind_of, host_of_kind, padded, host_at, with_padding, without_padding}
use Rattle.packet_address_header.specs.AddressHeader.{length_of_kinds, address_length, address_at, read_address}
use Rattle.packet_address_header.specs.AddressHeader.{host_bytes_of, host_bytes, address_bytes, write_address, service_bytes, raw_of, host_on_wire}
use Rattle.packet_address_header.specs.AddressHeader.{on_wire, wire_length, wire_host_bytes, wire_bytes}

-- HOSTS

-- bytes that were copied to the front of sixteen zeros are the padded host
pub padded_copied : (bytes : List ℕ) (at n k : ℕ) → n ≤ 16 → at + n ≤ length bytes → k ≡ n
    → put_mid 0 k (replicate 16 0) (part at n bytes) ≡ padded bytes at n
unfolding padded
padded_copied bytes at n k few there e =
    rw e (lent_run (part at n bytes) (replicate 16 0) 0 n (length_part at n bytes there) (omega arith))

-- two numbers of two bytes, as one of four, are written one after the other
word_bytes : (high low : ℕ) → low < 65536 → bytes_of 4 (high * 65536 + low) ≡ bytes_of 2 high ++ bytes_of 2 low
unfolding bytes_of
word_bytes high low few =
    ap₂ (λ (a : ℕ) (r : List ℕ). a ∷ r) (omega arith)
    (ap₂ (λ (a : ℕ) (r : List ℕ). a ∷ r) (omega arith)
    (ap₂ (λ (a : ℕ) (r : List ℕ). a ∷ r) (omega arith) (ap (λ (a : ℕ). a ∷ []) (omega arith))))

-- so are a service's
pub service_copied : (number padding : ℕ) → padding < 65536
    → put_mid 0 4 (replicate 16 0) (bytes_high_first 4 (number * 65536 + padding)) ≡ service_bytes number padding
unfolding service_bytes bytes_of
service_copied number padding few =
    ap (put_mid 0 4 (replicate 16 0)) (sym (high_first 4 (number * 65536 + padding)) ∙ word_bytes number padding few)

-- a host that was read is of the kind that it was read by
pub kind_of_kind : (kind : ℕ) → kind_of (host_of_kind kind) ≡ kind
unfolding kind_of host_of_kind
kind_of_kind kind = go (eqb kind 0) (eqb kind 3) refl refl
  where
    go : (z t : Bool) → eqb kind 0 ≡ z → eqb kind 3 ≡ t → kind_of (cond z (Decoded V4) (cond t (Decoded V6) (Encoded kind))) ≡ kind
    go true t ez et = sym (eqb-true kind 0 ez)
    go false true ez et = sym (eqb-true kind 3 et)
    go false false ez et = refl

pub kind_read : (kind : ℕ) (bytes : List ℕ) (at : ℕ) → kind_of (host_at kind bytes at).host ≡ kind
unfolding kind_of host_at
kind_read kind bytes at = go (eqb kind 4) refl
  where
    go : (t : Bool) → eqb kind 4 ≡ t → kind_of (host_at kind bytes at).host ≡ kind
    go true e = rw e (sym (eqb-true kind 4 e))
    go false e = rw e (kind_of_kind kind)

pub length-raw_of : (h : MaybeEncoded) (bytes : List ℕ) (padding : ℕ) → length bytes ≡ 16 → length (raw_of h bytes padding) ≡ 16
unfolding raw_of service_bytes
length-raw_of (Decoded V4) bytes padding e = e
length-raw_of (Decoded V6) bytes padding e = e
length-raw_of (Decoded (Svc service)) bytes padding e = length-sets (replicate 16 0) 0 (bytes_of 2 service.0 ++ bytes_of 2 padding)
length-raw_of (Encoded kind) bytes padding e = e

-- its bytes on the wire are the host's own
wire_host : (h : MaybeEncoded) (bytes : List ℕ) (padding : ℕ)
    → take (host_length (kind_of h)) (raw_of h bytes padding) ≡ host_bytes_of h bytes padding
unfolding kind_of raw_of service_bytes host_bytes_of host_length bytes_of
wire_host (Decoded V4) bytes padding = refl
wire_host (Decoded V6) bytes padding = refl
wire_host (Decoded (Svc service)) bytes padding = refl
wire_host (Encoded kind) bytes padding = refl

pub host_on_wire_lem : (a : HostAddress) → wire_host_bytes (host_on_wire a) ≡ host_bytes a
unfolding wire_host_bytes host_on_wire host_bytes
host_on_wire_lem a = wire_host a.host a.bytes a.padding

pub length-wire_host_bytes : (w : WireHost) → length w.bytes ≡ 16 → length (wire_host_bytes w) ≡ host_length w.kind
unfolding wire_host_bytes
length-wire_host_bytes w e = simp length-take (omega (arith, host_few w.kind, e))

pub length-host_bytes : (a : HostAddress) → length a.bytes ≡ 16 → length (host_bytes a) ≡ host_length (kind_of a.host)
unfolding host_on_wire
length-host_bytes a e = ap length (sym (host_on_wire_lem a)) ∙ length-wire_host_bytes (host_on_wire a) (length-raw_of a.host a.bytes a.padding e)

-- a padding has no part in the length
pub length_without_padding : (a : AddressHeader) → address_length (without_padding a) ≡ address_length a
unfolding address_length without_padding with_padding
length_without_padding a = refl

-- READING

module _ (bytes : List ℕ) (destination source : ℕ) where
  pub address_length_lem : address_length (address_at bytes destination source) ≡ length_of_kinds destination source
  unfolding address_length address_at
  address_length_lem = ap₂ length_of_kinds (kind_read destination bytes 16) (kind_read source bytes (16 + host_length destination))

  -- too few bytes for all is too few for the networks, for the destination's host or for the source's
  pub truncated : length bytes < 16 + host_length destination + host_length source
      → read_address bytes destination source ≡ Err PacketEmptyOrTruncated
  unfolding read_address
  truncated short =
      rw (lt-leb (16 + host_length destination + host_length source) (length bytes) short)
      (go (leb 16 (length bytes)) (leb (16 + host_length destination) (length bytes)))
    where
      cut : Result AddressHeader DecodeError
      cut = Err PacketEmptyOrTruncated

      go : (x y : Bool) → require x PacketEmptyOrTruncated (require y PacketEmptyOrTruncated cut) ≡ cut
      go false y = refl
      go true false = refl
      go true true = refl

  -- and enough for all is enough for each
  pub address_read_lem : length_of_kinds destination source ≤ length bytes → read_address bytes destination source ≡ Ok (address_at bytes destination source)
  unfolding read_address length_of_kinds
  address_read_lem long =
      rw (
        le-leb 16 (length bytes) (omega arith),
        le-leb (16 + host_length destination) (length bytes) (omega arith),
        le-leb (16 + host_length destination + host_length source) (length bytes) long,
      )

  -- what an address header that was read says of the bytes
  pub record AddressKnown (a : AddressHeader) : Type 0 where
    pub header : a ≡ address_at bytes destination source
    pub inside : length_of_kinds destination source ≤ length bytes

  pub address_known : {a : AddressHeader} → read_address bytes destination source ≡ Ok a → AddressKnown a
  unfolding read_address length_of_kinds
  address_known h =
      let networks = held (leb 16 (length bytes)) _ _ h in
      let first = held (leb (16 + host_length destination) (length bytes)) _ _ networks.1 in
      let second = held (leb (16 + host_length destination + host_length source) (length bytes)) _ _ first.1 in
      record { header = sym (same_value second.1); inside = leb-true _ _ second.0 }

-- what a reader's goals need: its two answers, and the numbers that are there
pub ruleset reads = (address_length_lem, truncated, address_read_lem, or_zero_is)

-- WRITING

-- both hosts have sixteen bytes beside them: what the arrays' type says
pub record WireSixteen (w : WireAddress) : Type 0 where
  pub destination_sixteen : length w.destination.bytes ≡ 16
  pub source_sixteen : length w.source.bytes ≡ 16

pub record Sixteen (a : AddressHeader) : Type 0 where
  pub destination_sixteen : length a.destination.bytes ≡ 16
  pub source_sixteen : length a.source.bytes ≡ 16

sixteen_on_wire : (a : AddressHeader) → Sixteen a → WireSixteen (on_wire a)
unfolding on_wire host_on_wire
sixteen_on_wire a s = record {
  destination_sixteen = length-raw_of a.destination.host a.destination.bytes a.destination.padding s.destination_sixteen;
  source_sixteen = length-raw_of a.source.host a.source.bytes a.source.padding s.source_sixteen;
}

pub length-wire_bytes : (w : WireAddress) → WireSixteen w → length (wire_bytes w) ≡ wire_length w
unfolding wire_bytes wire_length length_of_kinds
length-wire_bytes w s =
    let d = length-wire_host_bytes w.destination s.destination_sixteen in
    let e = length-wire_host_bytes w.source s.source_sixteen in
    simp (length-append, length_bytes_of 8 w.destination_ia, length_bytes_of 8 w.source_ia) (omega (arith, d, e))

-- its two answers, where there is room for it and where there is none
module _ (w : WireAddress) (s : WireSixteen w) (dst : List ℕ) (at : ℕ) where
  pub header_room : at + wire_length w ≤ length dst → written dst at (wire_bytes w) ≡ Ok (sets dst at (wire_bytes w))
  header_room room = done dst at (wire_bytes w) (wire_length w) (length-wire_bytes w s) room

  pub header_no_room : length dst < at + wire_length w → written dst at (wire_bytes w) ≡ Err 9
  header_no_room short = no_room dst at (wire_bytes w) (wire_length w) (length-wire_bytes w s) short

-- and so it is with a network number
pub network_room : (number : ℕ) (dst : List ℕ) (at : ℕ) → at + 8 ≤ length dst → written dst at (bytes_of 8 number) ≡ Ok (sets dst at (bytes_of 8 number))
network_room number dst at room = done dst at (bytes_of 8 number) 8 (length_bytes_of 8 number) room

-- the length and the bytes of a header on the wire are the header's
pub length_on_wire : (a : AddressHeader) → wire_length (on_wire a) ≡ address_length a
unfolding wire_length on_wire host_on_wire address_length
length_on_wire a = refl

pub bytes_on_wire : (a : AddressHeader) → wire_bytes (on_wire a) ≡ address_bytes a
unfolding wire_bytes on_wire address_bytes
bytes_on_wire a = rw (host_on_wire_lem a.destination, host_on_wire_lem a.source)

pub length-address_bytes : (a : AddressHeader) → Sixteen a → length (address_bytes a) ≡ address_length a
length-address_bytes a s = ap length (sym (bytes_on_wire a)) ∙ length-wire_bytes (on_wire a) (sixteen_on_wire a s) ∙ length_on_wire a

-- where the kinds fit and the size is right, it is written
pub address_written : (a : AddressHeader) (n : ℕ) → kind_of a.destination.host < 16 → kind_of a.source.host < 16 → n ≡ address_length a
    → write_address a n ≡ Ok (address_bytes a)
unfolding write_address
address_written a n to from exact = rw (lt-ltb _ _ to, lt-ltb _ _ from, eq-eqb _ _ exact)

-- and that is all that the destination then holds
pub header_placed : (a : AddressHeader) (dst : List ℕ) → Sixteen a → length dst ≡ address_length a → placed dst 0 (wire_bytes (on_wire a)) ≡ address_bytes a
header_placed a dst s exact = ap (placed dst 0) (bytes_on_wire a) ∙ placed-whole (address_bytes a) dst (length-address_bytes a s ∙ sym exact)

-- where there is room it is put
pub header_put : (a : AddressHeader) (dst : List ℕ) (at : ℕ) → Sixteen a → at + address_length a ≤ length dst
    → {put : Result ⊤ InadequateBufferSize} → put ≡ put_answer (written dst at (wire_bytes (on_wire a))) → IsOk put
header_put a dst at s room e =
    rw (e, header_room (on_wire a) (sixteen_on_wire a s) dst at (rw (length_on_wire a) room)) refl

-- what the writer of a header needs
pub ruleset encodes = (header_placed, header_put, length_on_wire)

-- WRITES

-- one run after another, at `next`, where the first ends
written_next : (xs ys dst : List ℕ) (at n next : ℕ) → length xs ≡ n → at + n ≡ next → sets (sets dst at xs) next ys ≡ sets dst at (xs ++ ys)
written_next xs ys dst at n next size e = ap (λ (m : ℕ). sets (sets dst at xs) m ys) (sym e) ∙ written_after xs ys dst at n size

-- a word goes over as a number, and the bytes of a number that was read are the bytes that were read
pub word_put : (bytes dst : List ℕ) (at done : ℕ) → Bytes bytes → done + 4 ≤ length bytes → at + done + 4 ≤ length dst
    → {n : ℕ} → n ≡ or_else (number_at 4 bytes done) 0
    → (k : ℕ) → k ≡ 4 → {now : List ℕ} → now ≡ placed (part (at + done) k dst) 0 (bytes_of 4 n)
    → put_mid (at + done) k dst now ≡ sets dst (at + done) (part done 4 bytes)
word_put bytes dst at done b there room {n} read k four e =
    let word : bytes_of 4 n ≡ part done 4 bytes =
    ap (bytes_of 4) (read ∙ or_zero_is 4 bytes done there) ∙ bytes_read 4 bytes b done there in
    lent_written (bytes_of 4 n) dst (at + done) k (length_bytes_of 4 n ∙ sym four) (omega arith) e ∙ ap (sets dst (at + done)) word

-- of a run, the first word, and the next one after the words that are there
pub first_word : (bytes dst : List ℕ) (at : ℕ) → sets dst (at + 0) (part 0 4 bytes) ≡ sets dst at (take 4 bytes)
first_word bytes dst at = ap (λ (to : ℕ). sets dst to (take 4 bytes)) (add-zero at)

pub next_word : (bytes dst : List ℕ) (at done : ℕ) → done + 4 ≤ length bytes
    → sets (sets dst at (take done bytes)) (at + done) (part done 4 bytes) ≡ sets dst at (take (done + 4) bytes)
next_word bytes dst at done there =
    written_next (take done bytes) (part done 4 bytes) dst at done (at + done) (length-take-le done bytes (omega arith)) refl
    ∙ ap (sets dst at) (sym (take-add done 4 bytes))

pub ruleset next_words = (first_word, next_word, length-sets)

-- two runs apart from each other may be written in either order
pub sets_apart : (xs ys l : List ℕ) (at to : ℕ) → at + length xs ≤ to → sets (sets l at xs) to ys ≡ sets (sets l to ys) at xs
sets_apart xs [] l at to h = refl
sets_apart xs (y ∷ ys) l at to h =
    ap (λ (r : List ℕ). sets r (suc to) ys) (set-sets xs l at to y h) ∙ sets_apart xs ys (set l to y) at (suc to) (omega arith)

-- an end: a number of eight bytes, written after the host that it stands before
end_written : (host dst : List ℕ) (number at to : ℕ) → at + 8 ≤ to → to ≤ length dst → {one two : List ℕ} → one ≡ sets dst to host
    → two ≡ placed one at (bytes_of 8 number) → two ≡ sets (sets dst at (bytes_of 8 number)) to host
end_written host dst number at to before inside e₁ e₂ =
    let eight : length (bytes_of 8 number) ≡ 8 = length_bytes_of 8 number in
    let kept : length (sets dst to host) ≡ length dst = length-sets dst to host in
    e₂
    ∙ ap (λ (l : List ℕ). placed l at (bytes_of 8 number)) e₁
    ∙ placed_is (sets dst to host) at (bytes_of 8 number) 8 eight (omega arith)
    ∙ sym (sets_apart (bytes_of 8 number) host dst at to (omega arith))

-- both ends
module _ (w : WireAddress) (s : WireSixteen w) (dst : List ℕ) (at source_at : ℕ)
    (after : source_at ≡ at + 16 + host_length w.destination.kind) where
  -- the two networks and the two hosts
  abbrev to : List ℕ
  to = bytes_of 8 w.destination_ia

  abbrev from : List ℕ
  from = bytes_of 8 w.source_ia

  abbrev dst_host : List ℕ
  dst_host = wire_host_bytes w.destination

  abbrev src_host : List ℕ
  src_host = wire_host_bytes w.source

  -- side by side they are the header
  in_row : sets (sets (sets (sets dst at to) (at + 16) dst_host) (at + 8) from) source_at src_host ≡ sets dst at (wire_bytes w)
  unfolding wire_bytes
  in_row =
      let first : List ℕ = sets dst at to in
      let eight : length from ≡ 8 = length_bytes_of 8 w.source_ia in
      let own : length dst_host ≡ host_length w.destination.kind = length-wire_host_bytes w.destination s.destination_sixteen in
      ap (λ (l : List ℕ). sets l source_at src_host) (sym (sets_apart from dst_host first (at + 8) (at + 16) (omega arith)))
      ∙ written_next dst_host src_host (sets first (at + 8) from) (at + 16) _ source_at own (sym after)
      ∙ written_next from (dst_host ++ src_host) first (at + 8) 8 (at + 16) eight (omega arith)
      ∙ written_next to (from ++ (dst_host ++ src_host)) dst at 8 (at + 8) (length_bytes_of 8 _) refl

  -- each host written, and then its network
  pub ends_written : at + wire_length w ≤ length dst → {one two three four : List ℕ} → one ≡ sets dst (at + 16) dst_host → two ≡ placed one at to
      → three ≡ sets two source_at src_host → four ≡ placed three (at + 8) from → four ≡ sets dst at (wire_bytes w)
  unfolding wire_length length_of_kinds
  ends_written room {two = two} e₁ e₂ e₃ e₄ =
      let first : two ≡ sets (sets dst at to) (at + 16) dst_host =
      end_written dst_host dst w.destination_ia at (at + 16) (omega arith) (omega arith) e₁ e₂ in
      let kept : length two ≡ length dst = ap length first ∙ length-sets (sets dst at to) (at + 16) dst_host ∙ length-sets dst at to in
      end_written src_host two w.source_ia (at + 8) source_at (omega arith) (omega (arith, kept)) e₃ e₄
      ∙ ap (λ (l : List ℕ). sets (sets l (at + 8) from) source_at src_host) first
      ∙ in_row

-- what the writer of a header on the wire needs
pub ruleset puts = (header_room, header_no_room, network_room, ends_written)
