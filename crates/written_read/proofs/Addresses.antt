-- An address header is read from its bytes as it was written, and written as the bytes that it was read from: two numbers of eight
-- bytes, then each host from its own bytes.
-- Assumes nothing.
use mathlib.Core.Path.{◌≡◌, sym, ap, ap₂, ◌∙◌}
use mathlib.Core.List.{List, [], ◌++◌, append_assoc}
use Prim.Native.Nat.{ℕ, ◌+◌, ◌^◌, ◌≤◌, ◌<◌}
use native.Mathlib.Nat.{mod-eq_of_lt}
use native.Mathlib.Omega.{arith}
use lib.ListN.{length, take, length-append}
use Rattle.wire_encoding.specs.BigEndian.{big_endian, bytes_of}
use Rattle.wire_encoding.proofs.Lists.{Bytes, part_join}
use Rattle.wire_encoding.proofs.BigEndian.{length_bytes_of, bytes_read, read_bytes_of}
use Rattle.std.specs.Prelude.{Ok}
use Rattle.packet_common_header.specs.CommonHeader.{host_length}
use Rattle.packet_address_header.specs.AddressHeader.{kind_of, host_at, length_of_kinds, address_length, address_at, read_address, host_bytes, address_bytes}
use Rattle.packet_address_header.specs.declared.AddressHeader.{AddressHeader}
use Rattle.packet_address_header.proofs.AddressHeaderLaws.{kind_read, address_read_lem, Sixteen, length-host_bytes, length-address_bytes}
use Rattle.written_read.specs.WrittenRead.{host_read, address_read}
use Rattle.written_read.proofs.Hosts.{host_own, host_written}

-- READ AS IT WAS WRITTEN

-- its hosts are of the kinds that they were written by
pub address_read_long : (a : AddressHeader) → address_length (address_read a) ≡ address_length a
unfolding address_length address_read host_read
address_read_long a =
    ap₂ length_of_kinds (kind_read (kind_of a.destination.host) (host_bytes a.destination) 0)
    (kind_read (kind_of a.source.host) (host_bytes a.source) 0)

module _ (a : AddressHeader) (after : List ℕ) (s : Sixteen a) where
  -- the four runs that are written, and the kinds of the hosts
  abbrev to : List ℕ
  to = bytes_of 8 a.destination_ia.0

  abbrev from : List ℕ
  from = bytes_of 8 a.source_ia.0

  abbrev dst : List ℕ
  dst = host_bytes a.destination

  abbrev src : List ℕ
  src = host_bytes a.source

  abbrev dk : ℕ
  dk = kind_of a.destination.host

  abbrev sk : ℕ
  sk = kind_of a.source.host

  in_row : address_bytes a ++ after ≡ to ++ (from ++ (dst ++ (src ++ after)))
  unfolding address_bytes
  in_row = simp append_assoc

  networks : length (to ++ from) ≡ 16
  networks = length-append to from ∙ ap₂ (λ (x y : ℕ). x + y) (length_bytes_of 8 _) (length_bytes_of 8 _)

  destination_read : host_at dk (address_bytes a ++ after) 16 ≡ host_read a.destination
  unfolding host_read
  destination_read =
      ap₂ (λ (l : List ℕ) (at : ℕ). host_at dk l at) (in_row ∙ sym (append_assoc to from (dst ++ (src ++ after)))) (sym networks)
      ∙ host_own (to ++ from) dst (src ++ after) dk (length-host_bytes a.destination s.destination_sixteen)

  source_read : host_at sk (address_bytes a ++ after) (16 + host_length dk) ≡ host_read a.source
  unfolding host_read
  source_read =
      let before : List ℕ = to ++ (from ++ dst) in
      let row : address_bytes a ++ after ≡ before ++ (src ++ after) = in_row ∙ sym (simp append_assoc) in
      let own : length dst ≡ host_length dk = length-host_bytes a.destination s.destination_sixteen in
      let size : length before ≡ 16 + host_length dk =
      simp (length-append, length_bytes_of 8 a.destination_ia.0, length_bytes_of 8 a.source_ia.0) (omega arith) in
      ap₂ (λ (l : List ℕ) (at : ℕ). host_at sk l at) row (sym size)
      ∙ host_own before src after sk (length-host_bytes a.source s.source_sixteen)

  module _ (destination-fits : a.destination_ia.0 < 2 ^ 64) (source_fits : a.source_ia.0 < 2 ^ 64) where
    destination_network : big_endian 8 (address_bytes a ++ after) 0 ≡ a.destination_ia.0
    destination_network =
        ap (λ (l : List ℕ). big_endian 8 l 0) in_row
        ∙ read_bytes_of 8 a.destination_ia.0 [] (from ++ (dst ++ (src ++ after)))
        ∙ mod-eq_of_lt destination-fits

    source_network : big_endian 8 (address_bytes a ++ after) 8 ≡ a.source_ia.0
    source_network =
        ap₂ (λ (l : List ℕ) (at : ℕ). big_endian 8 l at) in_row (sym (length_bytes_of 8 a.destination_ia.0))
        ∙ read_bytes_of 8 a.source_ia.0 to (dst ++ (src ++ after))
        ∙ mod-eq_of_lt source_fits

    pub address_back : read_address (address_bytes a ++ after) dk sk ≡ Ok (address_read a)
    unfolding address_read address_length address_at
    address_back =
        let own : length (address_bytes a) ≡ address_length a = length-address_bytes a s in
        address_read_lem (address_bytes a ++ after) dk sk (simp length-append (omega arith))
        ∙ rw (destination_network, source_network, destination_read, source_read)

-- WRITTEN AS IT WAS READ

module _ (bytes : List ℕ) (destination source : ℕ) where
  pub address_written : Bytes bytes → length_of_kinds destination source ≤ length bytes
      → address_bytes (address_at bytes destination source) ≡ take (length_of_kinds destination source) bytes
  unfolding address_at address_bytes length_of_kinds
  address_written b long =
      let d : ℕ = host_length destination in
      let s : ℕ = host_length source in
      let sum : 8 + (8 + (d + s)) ≡ 16 + d + s = omega arith in
      rw (
        bytes_read 8 bytes b 0 (omega arith),
        bytes_read 8 bytes b 8 (omega arith),
        host_written destination 16 bytes b (omega arith),
        host_written source (16 + d) bytes b (omega arith),
        part_join 16 d s bytes,
      )
      (ap (λ (l : List ℕ). take 8 bytes ++ l) (part_join 8 8 (d + s) bytes)
      ∙ part_join 0 8 (8 + (d + s)) bytes
      ∙ ap (λ (n : ℕ). take n bytes) sum)
