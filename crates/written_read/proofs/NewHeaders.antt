-- New headers fill their length exactly where their path adds a multiple of 4 bytes, for the other headers do, as every empty and every
-- standard path does; a service in them is its number, then two zeros.
-- Assumes nothing.
use mathlib.Core.Path.{◌≡◌, refl, sym, ap, ◌∙◌}
use mathlib.Core.List.{List, [], ◌∷◌, ◌++◌, append_assoc}
use Prim.Native.Nat.{ℕ, zero, suc, ◌+◌, ◌%◌, ◌<◌}
use native.Mathlib.Omega.{arith}
use lib.ListN.{length, take, length-append}
use lib.Seq.{drop-append_seam}
use Rattle.wire_encoding.specs.BigEndian.{big_endian, bytes_of, part}
use Rattle.wire_encoding.proofs.BigEndian.{length_bytes_of}
use Rattle.wire_encoding.proofs.Result.{same_value, stepped}
use Rattle.address.specs.declared.service.ServiceAddr.{ServiceAddr}
use Rattle.address.specs.declared.host.HostAddr.TheVariants.{Svc}
use Rattle.path_meta_header.specs.MetaHeader.{path_length}
use Rattle.path.specs.Standard.{read_record}
use Rattle.path.specs.declared.dataplane.Extent.{Extent}
use Rattle.path.specs.Dataplane.{read_dataplane}
use Rattle.path.specs.declared.standard.StandardPath.{StandardPath}
use Rattle.packet_common_header.specs.CommonHeader as common
use Rattle.packet_common_header.specs.CommonHeader.{host_length, common_bytes}
use Rattle.packet_common_header.proofs.CommonHeaderLaws.{length-common_bytes}
use Rattle.packet_address_header.specs.AddressHeader as address
use Rattle.packet_address_header.specs.AddressHeader.{kind_of, with_padding, without_padding, length_of_kinds, address_length}
use Rattle.packet_address_header.specs.AddressHeader.{host_bytes_of, host_bytes, address_bytes}
use Rattle.packet_address_header.specs.declared.MaybeEncoded.TheVariants.{Decoded}
use Rattle.packet_address_header.specs.declared.HostAddress.{HostAddress}
use Rattle.packet_address_header.specs.declared.AddressHeader.{AddressHeader}
use Rattle.packet_address_header.proofs.AddressHeaderLaws.{length_without_padding, length-host_bytes}
use Rattle.packet.specs.Raw.{read_rest, is_short, read_packet}
use Rattle.packet_headers.specs.Headers.{added_length, added_bytes, headers_length, new_headers, common_of, header_bytes, write_headers}
use Rattle.packet_headers.specs.declared.ScionHeaders.{ScionHeaders}
use Rattle.packet_headers.proofs.Headers.{known}
use Rattle.written_read.specs.WrittenRead.{ReadWhole, NewHeadersFull, NewHeadersFill, PaddingZero, NewHeadersPadding, RoundedDown}

-- THEIR LENGTH

pub new_headers_full : NewHeadersFull
unfolding new_headers headers_length address_length length_of_kinds host_length
new_headers_full a type n next payload flow = (λ four. omega arith, λ full. omega arith)

-- a standard path is 4 + 8 · I + 12 · N bytes
standard_four : (path : List ℕ) {stored : StandardPath} → ReadWhole 1 path stored → length path % 4 ≡ 0
unfolding read_dataplane path_length
standard_four path h = let read = stepped (read_record path) _ h in omega (arith, ap (λ (r : Extent). r.length) (same_value read.then))

-- an empty path adds nothing
added_four : (type : ℕ) (path : List ℕ) {stored : StandardPath} → type < 2 → ReadWhole type (added_bytes type path) stored
    → added_length type (length path) % 4 ≡ 0
unfolding added_bytes added_length
added_four zero path few read = refl
added_four (suc zero) path few read = standard_four path read
added_four (suc (suc type)) path few read = absurd (omega arith)

pub new_headers_fill : NewHeadersFill
unfolding new_headers headers_length
new_headers_fill a type path stored next payload flow few read = record {
  version = refl;
  full = rw (length_without_padding a) ((new_headers_full a type (length path) next payload flow).0 (added_four type path few read));
  path_read = read;
}

pub rounded_down : RoundedDown
unfolding big_endian bytes_of read_dataplane read_rest is_short read_packet
    common.common_at common.read_common common.header_length common.host_length common.fields_fit common.common_fits common.common_bytes
    address.kind_of address.host_of_kind address.padded address.host_at address.length_of_kinds address.address_length address.address_at
    address.without_padding address.with_padding address.read_address address.zero_address address.host_bytes_of address.host_bytes address.address_bytes
    added_length added_bytes headers_length new_headers common_of header_bytes write_headers
rounded_down = (refl, refl, refl, refl)

-- THEIR PADDING

-- two zeros that stand where they are said to
zeros_there : (before after : List ℕ) (at : ℕ) → length before ≡ at → part at 2 (before ++ (0 ∷ 0 ∷ after)) ≡ 0 ∷ 0 ∷ []
zeros_there before after at size = rw (← size) (ap (take 2) (drop-append_seam before (0 ∷ 0 ∷ after)))

-- a service without padding
service_unpadded : (a : HostAddress) (service : ServiceAddr) → a.host ≡ Decoded (Svc service)
    → host_bytes (with_padding a 0) ≡ bytes_of 2 service.0 ++ (0 ∷ 0 ∷ [])
unfolding host_bytes with_padding host_bytes_of bytes_of
service_unpadded a service e = rw e

module _ (a : AddressHeader) (type : ℕ) (path : List ℕ) (next payload flow : ℕ) (sixteen : length a.destination.bytes ≡ 16) where
  abbrev made : ScionHeaders
  made = new_headers a type (length path) next payload flow

  -- the common header and both networks, twenty-eight bytes; the two hosts; the path
  abbrev front : List ℕ
  front = common_bytes (common_of made) ++ (bytes_of 8 a.destination_ia.0 ++ bytes_of 8 a.source_ia.0)

  abbrev to : List ℕ
  to = host_bytes (with_padding a.destination 0)

  abbrev from : List ℕ
  from = host_bytes (with_padding a.source 0)

  abbrev added : List ℕ
  added = added_bytes type path

  in_row : header_bytes made path ≡ front ++ (to ++ (from ++ added))
  unfolding header_bytes new_headers address_bytes without_padding
  in_row = simp append_assoc

  front_length : length front ≡ 28
  front_length =
      simp (length-append, length-common_bytes (common_of made), length_bytes_of 8 a.destination_ia.0, length_bytes_of 8 a.source_ia.0)

  to_length : length to ≡ host_length (kind_of a.destination.host)
  unfolding with_padding
  to_length = length-host_bytes (with_padding a.destination 0) sixteen

  destination_zero : PaddingZero a.destination (header_bytes made path) 28
  destination_zero service e =
      let number : List ℕ = bytes_of 2 service.0 in
      let row : header_bytes made path ≡ (front ++ number) ++ (0 ∷ 0 ∷ (from ++ added)) =
      in_row ∙ rw (service_unpadded a.destination service e) (sym (simp append_assoc)) in
      let size : length (front ++ number) ≡ 30 = length-append front number ∙ omega (arith, front_length, length_bytes_of 2 service.0) in
      rw row (zeros_there (front ++ number) (from ++ added) 30 size)

  source_zero : PaddingZero a.source (header_bytes made path) (28 + host_length (kind_of a.destination.host))
  source_zero service e =
      let number : List ℕ = bytes_of 2 service.0 in
      let before : List ℕ = (front ++ to) ++ number in
      let row : header_bytes made path ≡ before ++ (0 ∷ 0 ∷ added) =
      in_row ∙ rw (service_unpadded a.source service e) (sym (simp append_assoc)) in
      let size : length before ≡ 28 + host_length (kind_of a.destination.host) + 2 =
      length-append (front ++ to) number
      ∙ omega (arith, length-append front to, front_length, to_length, length_bytes_of 2 service.0) in
      rw row (zeros_there before added _ size)

pub new_headers_padding : NewHeadersPadding
new_headers_padding a type path next payload flow size written sixteen done =
    let same : written ≡ header_bytes (new_headers a type (length path) next payload flow) path =
    same_value (sym done ∙ (known (new_headers a type (length path) next payload flow) path size done).result) in
    rw same (destination_zero a type path next payload flow sixteen, source_zero a type path next payload flow sixteen)
