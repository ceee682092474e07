-- Headers that were written are read back where they end at 4 × factor, or where the bytes do: each stage of the reading sees exactly
-- what was written for it.
-- Assumes nothing.
use mathlib.Core.Path.{◌≡◌, sym, ap, ◌∙◌}
use mathlib.Core.Bool.{true, false}
use mathlib.Core.List.{List, [], ◌++◌, append_assoc, append-nil}
use Prim.Native.Nat.{ℕ, ◌+◌, ◌*◌, ◌≤◌, ◌<◌}
use native.Mathlib.Omega.{arith}
use lib.ListN.{length, take, drop, length-append, drop_of_length-le}
use lib.Seq.{take_all, take_at, drop_at}
use borrow.Author.Tests.{lt-ltb, le-ltb}
use Rattle.std.specs.Prelude.{Result, Ok}
use Rattle.wire_encoding.proofs.Result.{same_value}
use Rattle.errors.specs.declared.packet_error.DecodeError.{DecodeError}
use Rattle.path.specs.declared.standard.StandardPath.{StandardPath}
use Rattle.packet_common_header.specs.CommonHeader.{read_common, header_length, host_length, common_bytes}
use Rattle.packet_address_header.specs.AddressHeader.{address_length, length_of_kinds, read_address, address_bytes}
use Rattle.packet_address_header.specs.declared.AddressHeader.{AddressHeader}
use Rattle.packet_common_header.proofs.CommonHeaderLaws.{length-common_bytes, common_widths, Fields}
use Rattle.packet_address_header.proofs.AddressHeaderLaws.{Sixteen, length-address_bytes}
use Rattle.packet.specs.Raw.{is_short, read_packet, read_capture, raw_packet, capture_answer}
use Rattle.packet.specs.Captures.{OfBoth}
use Rattle.packet.proofs.RawLaws.{capture_accepted}
use Rattle.packet.proofs.Captures.{goes_on, short_refused, packet_captured}
use Rattle.packet_headers.specs.Headers.{added_bytes, headers_length, common_of, header_bytes}
use Rattle.packet_headers.specs.declared.ScionHeaders.{ScionHeaders}
use Rattle.packet_headers.proofs.Headers.{Known, known, length-header_bytes}
use Rattle.written_read.specs.WrittenRead.{Typed, ReadWhole, Fills, address_read, packet_of, ReadsBack, SaysMore, ReadsBackShort}
use Rattle.written_read.proofs.Commons.{common_read}
use Rattle.written_read.proofs.Addresses.{address_read_long, address_back}

-- headers that were written, whose factor says at least as many bytes as they have, and what follows them
module _ (h : ScionHeaders) (path : List ℕ) (stored : StandardPath) (size : ℕ) (tail : List ℕ) (t : Typed h) (version : h.version ≡ 0)
    (enough : headers_length h.address h.path_type (length path) ≤ 4 * h.header_length_factor)
    (whole : ReadWhole h.path_type (added_bytes h.path_type path) stored) (k : Known h path size) where
  -- what is written: common header, address header, path
  abbrev x : List ℕ
  x = common_bytes (common_of h)

  abbrev y : List ℕ
  y = address_bytes h.address

  abbrev z : List ℕ
  z = added_bytes h.path_type path

  abbrev packet : List ℕ
  packet = header_bytes h path ++ tail

  sixteen : Sixteen h.address
  sixteen = record { destination_sixteen = t.destination; source_sixteen = t.source }

  fields : Fields (common_of h)
  unfolding common_of
  fields = record {
    widths = common_widths (common_of h) k.fits;
    class = t.traffic_class;
    payload = omega (arith, k.payload);
    reserved = t.reserved;
  }

  -- how many bytes were written, 36 at least
  written-length : length (header_bytes h path) ≡ headers_length h.address h.path_type (length path)
  written-length = length-header_bytes h path sixteen

  long_enough : 36 ≤ headers_length h.address h.path_type (length path)
  unfolding headers_length address_length length_of_kinds host_length
  long_enough = omega arith

  reads_common : read_common packet ≡ Ok (common_of h)
  unfolding common_of header_bytes
  reads_common =
      ap read_common (append_assoc x (y ++ z) tail)
      ∙ common_read (common_of h) ((y ++ z) ++ tail) fields version (omega (arith, long_enough))

  -- the address header, by the hosts' own kinds
  abbrev by_kinds : List ℕ → Result AddressHeader DecodeError
  by_kinds l = read_address l (common_of h).destination_kind (common_of h).source_kind

  reads_address : by_kinds (drop 12 (header_bytes h path)) ≡ Ok (address_read h.address)
  unfolding common_of header_bytes
  reads_address =
      ap by_kinds (drop_at x (y ++ z) 12 (length-common_bytes (common_of h)))
      ∙ address_back h.address z sixteen t.destination_ia t.source_ia

  -- the path, after it
  abbrev n : ℕ
  n = address_length (address_read h.address)

  sees_path : drop (12 + n) (header_bytes h path) ≡ z
  unfolding header_bytes
  sees_path =
      let one : length x ≡ 12 = length-common_bytes (common_of h) in
      let two : length y ≡ n = length-address_bytes h.address sixteen ∙ sym (address_read_long h.address) in
      ap (drop (12 + n)) (sym (append_assoc x y z)) ∙ drop_at (x ++ y) z (12 + n) (simp length-append (omega arith))

  -- all of it, where 4 × factor takes the headers and leaves what follows
  all_read : (payload : List ℕ)
      → take (header_length (common_of h)) packet ≡ header_bytes h path
      → drop (header_length (common_of h)) packet ≡ tail
      → h.payload_length ≤ length tail
      → take h.payload_length tail ≡ payload
      → read_capture packet ≡ Ok (packet_of h path stored payload)
  unfolding packet_of common_of
  all_read payload taken left room own =
      capture_accepted packet (header_bytes h path) tail z payload (common_of h) (address_read h.address) stored reads_common
      taken left reads_address sees_path whole room own

-- HEADERS THAT FILL THEIR LENGTH

module _ (h : ScionHeaders) (path : List ℕ) (stored : StandardPath) (size : ℕ) (payload after : List ℕ) (t : Typed h)
    (f : Fills h path stored) (k : Known h path size) (paid : length payload ≡ h.payload_length) where
  abbrev tail : List ℕ
  tail = payload ++ after

  enough : headers_length h.address h.path_type (length path) ≤ 4 * h.header_length_factor
  enough = omega (arith, f.full)

  ends : length (header_bytes h path) ≡ header_length (common_of h)
  unfolding header_length common_of
  ends = written-length h path stored size tail t f.version enough f.path_read k ∙ sym f.full

  filled_read : read_capture (header_bytes h path ++ tail) ≡ Ok (packet_of h path stored payload)
  filled_read =
      all_read h path stored size tail t f.version enough f.path_read k payload
      (take_at (header_bytes h path) tail (header_length (common_of h)) ends)
      (drop_at (header_bytes h path) tail (header_length (common_of h)) ends)
      (simp length-append (omega arith))
      (take_at payload after h.payload_length paid)

  -- as a packet too, for as many bytes are there
  not_short : is_short (common_of h) (header_bytes h path ++ tail) ≡ false
  unfolding is_short
  not_short = le-ltb _ (header_length (common_of h)) (simp length-append (omega (arith, ends)))

  filled_packet : read_packet (header_bytes h path ++ tail) ≡ Ok (packet_of h path stored payload)
  filled_packet = goes_on _ (reads_common h path stored size tail t f.version enough f.path_read k) not_short ∙ filled_read

pub reads_back : OfBoth ReadsBack
reads_back =
    let packet : ReadsBack read_packet = λ h path stored size written payload after t f done paid.
    let k = known h path size done in
    rw (same_value (sym done ∙ k.result)) (filled_packet h path stored size payload after t f k paid) in
    let capture : ReadsBack read_capture = λ h path stored size written payload after t f done paid.
    packet_captured _ (packet h path stored size written payload after t f done paid) in
    (packet, capture)

-- HEADERS WHOSE FACTOR SAYS MORE

module _ (h : ScionHeaders) (path : List ℕ) (stored : StandardPath) (size : ℕ) (t : Typed h) (m : SaysMore h path stored)
    (k : Known h path size) where
  abbrev written : List ℕ
  written = header_bytes h path

  alone : written ++ [] ≡ written
  alone = append-nil written

  at_least : headers_length h.address h.path_type (length path) ≤ 4 * h.header_length_factor
  at_least = omega (arith, m.more)

  few : length written < header_length (common_of h)
  unfolding header_length common_of
  few = omega (arith, m.more, written-length h path stored size [] t m.version at_least m.path_read k)

  common_there : read_common written ≡ Ok (common_of h)
  common_there = ap read_common (sym alone) ∙ reads_common h path stored size [] t m.version at_least m.path_read k

  is_short_lem : is_short (common_of h) written ≡ true
  unfolding is_short
  is_short_lem = lt-ltb (length written) (header_length (common_of h)) few

  captured : read_capture written ≡ Ok (packet_of h path stored [])
  captured =
      let n : ℕ = header_length (common_of h) in
      let all : length written ≤ n = omega (arith, few) in
      ap read_capture (sym alone)
      ∙ all_read h path stored size [] t m.version at_least m.path_read k []
      (ap (take n) alone ∙ take_all n written all)
      (ap (drop n) alone ∙ drop_of_length-le written {i = n} all)
      (omega (arith, m.no_payload))
      (ap (λ (j : ℕ). take j []) m.no_payload)

  marked : capture_answer written ≡ Ok (record { packet = raw_packet (packet_of h path stored []); short = true })
  unfolding capture_answer packet_of
  marked = rw captured (ap (λ short. Ok (record { packet = raw_packet (packet_of h path stored []); short = short })) is_short_lem)

pub reads_back_short : ReadsBackShort
reads_back_short h path stored size written t m done =
    let k = known h path size done in
    rw (same_value (sym done ∙ k.result))
    (short_refused _ (common_there h path stored size t m k) (is_short_lem h path stored size t m k), marked h path stored size t m k)
