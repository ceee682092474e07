-- A packet that was read is written again as the bytes before its payload: each header as the bytes that it was read from, then the
-- path's own bytes.
-- Assumes nothing.
use mathlib.Core.Path.{◌≡◌, refl, sym, ap, ◌∙◌}
use mathlib.Core.Bool.{Bool, true, false, cond}
use mathlib.Core.List.{List, [], ◌∷◌, ◌++◌}
use Prim.Native.Nat.{ℕ, ◌+◌, ◌-◌, min}
use native.Mathlib.Omega.{arith}
use lib.ListN.{length, take, drop}
use lib.Seq.{take-take}
use lib.Dec.{eqb}
use Rattle.std.specs.Prelude.{Result, Ok}
use Rattle.wire_encoding.specs.BigEndian.{part}
use Rattle.wire_encoding.proofs.Result.{same_value}
use Rattle.wire_encoding.proofs.Lists.{Bytes, part_join, bytes_part}
use Rattle.errors.specs.declared.packet_error.DecodeError.{DecodeError}
use Rattle.path.specs.declared.dataplane.Extent.{Extent}
use Rattle.path.specs.Dataplane.{unread, read_dataplane}
use Rattle.packet_common_header.specs.CommonHeader.{common_at, header_length, host_length, common_bytes, common_fits}
use Rattle.packet_common_header.specs.declared.CommonHeader.{CommonHeader}
use Rattle.packet_common_header.proofs.CommonHeaderLaws.{common_known, widths_fit}
use Rattle.packet_address_header.specs.AddressHeader.{kind_of, address_at, length_of_kinds, address_length, address_bytes}
use Rattle.packet_address_header.specs.declared.AddressHeader.{AddressHeader}
use Rattle.packet_address_header.proofs.AddressHeaderLaws.{kind_read, address_length_lem, AddressKnown, address_known}
use Rattle.packet.specs.Raw.{Packet, read_capture, path_part, payload_part}
use Rattle.packet.specs.Captures.{OfBoth}
use Rattle.packet.proofs.RawLaws.{Split, split, where_found, end_inside, sees, start_inside, path_lies}
use Rattle.packet.proofs.Captures.{packet_captured}
use Rattle.packet_headers.specs.Headers as headers
use Rattle.packet_headers.specs.Headers.{added_bytes, added_length, headers_length, header_bytes, write_headers}
use Rattle.packet_headers.proofs.Headers.{headers-written, length-added_bytes}
use Rattle.written_read.specs.WrittenRead.{headers_of, WritesAgain}
use Rattle.written_read.proofs.Commons.{common_fields, common_written}
use Rattle.written_read.proofs.Addresses.{address_written}

-- THE PATH

-- type 0 adds no bytes, and a path of type 0 that was read whole has none
added_whole : (type : ℕ) (path : List ℕ) {read : Extent} → read_dataplane type path ≡ Ok read → read.length ≡ length path
    → added_bytes type path ≡ path
unfolding added_bytes read_dataplane
added_whole type path {read} h whole = go (eqb type 0) path _ h whole
  where
    go : (t : Bool) (path : List ℕ) (other : Result Extent DecodeError) → cond t (Ok (unread 0)) other ≡ Ok read → read.length ≡ length path
        → cond t [] path ≡ path
    go false path other e whole = refl
    go true [] other e whole = refl
    go true (x ∷ path) other e whole = absurd (omega (arith, ap (λ (r : Extent). r.length) (same_value e)))

-- ALL OF IT

module _ (bytes : List ℕ) (b : Bytes bytes) (p : Packet) (s : Split bytes p) where
  -- the kinds of the hosts
  abbrev dk : ℕ
  dk = p.common.destination_kind

  abbrev sk : ℕ
  sk = p.common.source_kind

  -- the length of the address header, the path, and where the payload starts
  abbrev n : ℕ
  n = address_length p.address

  abbrev path : List ℕ
  path = p.path_bytes

  abbrev end : ℕ
  end = min (header_length p.common) (length bytes)

  -- what the address header sees
  abbrev seen : List ℕ
  seen = part 12 (end - 12) bytes

  pub address_was : AddressKnown seen dk sk p.address
  address_was = address_known seen dk sk (rw (sees (where_found s).first 12 (end_inside (where_found s).first).0) s.address)

  n_is : n ≡ length_of_kinds dk sk
  n_is = ap address_length address_was.header ∙ address_length_lem seen dk sk

  path_added : added_bytes p.common.path_type path ≡ path
  path_added = added_whole p.common.path_type path s.path s.whole

  common_again : headers.common_of (headers_of p) ≡ p.common
  unfolding headers.common_of headers_of address_at
  common_again =
      let to : kind_of p.address.destination.host ≡ dk =
      ap (λ (a : AddressHeader). kind_of a.destination.host) address_was.header ∙ kind_read dk seen 16 in
      let from : kind_of p.address.source.host ≡ sk =
      ap (λ (a : AddressHeader). kind_of a.source.host) address_was.header ∙ kind_read sk seen (16 + host_length dk) in
      rw (to, from)

  -- the encoder accepts them
  accepted_again : write_headers (headers_of p) path (12 + n + length path) ≡ Ok (header_bytes (headers_of p) path)
  unfolding headers_of common_at headers_length
  accepted_again =
      let known = common_known bytes s.common in
      let fields = common_fields bytes b in
      let factor = ap (λ (c : CommonHeader). c.header_length_factor) known.fields in
      let payload = ap (λ (c : CommonHeader). c.payload_length) known.fields in
      let added : added_length p.common.path_type (length path) ≡ length path =
      sym (length-added_bytes p.common.path_type path) ∙ ap length path_added in
      headers-written (headers_of p) path (12 + n + length path)
      (ap common_fits (common_again ∙ known.fields) ∙ widths_fit (common_at bytes) fields.widths)
      (λ none. omega (arith, known.factor, factor)) (omega (arith, (b 5).fits, factor)) (omega (arith, fields.payload, payload))
      (omega (arith, added))

  -- the address header's bytes are those that it sees first
  address_again : address_bytes p.address ≡ part 12 n bytes
  address_again =
      ap address_bytes address_was.header
      ∙ address_written seen dk sk (bytes_part 12 (end - 12) bytes b) address_was.inside
      ∙ ap (λ (m : ℕ). take m seen) (sym n_is)
      ∙ take-take n (end - 12) (drop 12 bytes) (omega (arith, start_inside (where_found s)))

  pub same_again : header_bytes (headers_of p) path ≡ take (12 + n + length path) bytes
  unfolding header_bytes headers_of path_part
  same_again =
      let known = common_known bytes s.common in
      let sum : 12 + (n + length path) ≡ 12 + n + length path = omega arith in
      let common : common_bytes (headers.common_of (headers_of p)) ≡ take 12 bytes =
      ap common_bytes (common_again ∙ known.fields) ∙ common_written bytes b known.long in
      rw (common, address_again, path_added)
      (ap (λ (l : List ℕ). take 12 bytes ++ (part 12 n bytes ++ l)) (sym (path_lies s))
      ∙ ap (λ (l : List ℕ). take 12 bytes ++ l) (part_join 12 n (length path) bytes)
      ∙ part_join 0 12 (n + length path) bytes
      ∙ ap (λ (m : ℕ). take m bytes) sum)

captured_again : WritesAgain read_capture
unfolding payload_part
captured_again bytes p small read =
    let b : Bytes bytes = λ i. record { fits = small i } in
    let s : Split bytes p = split bytes read in
    accepted_again bytes b p s ∙ ap (λ (l : List ℕ). Ok l) (same_again bytes b p s)

pub writes_again : OfBoth WritesAgain
writes_again = (λ bytes p small read. captured_again bytes p small (packet_captured bytes read), captured_again)
