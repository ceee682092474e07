-- A host that was read is handed to C and taken back as it is, so the headers that C copies are those of the packet.
-- Assumes nothing.
use mathlib.Core.Path.{◌≡◌, refl}
use mathlib.Core.Bool.{Bool, true, false}
use mathlib.Core.List.{List}
use Prim.Native.Nat.{ℕ, ◌+◌, ◌<◌}
use lib.ListN.{get_or}
use lib.Dec.{eqb}
use Rattle.std.specs.Prelude.{Ok}
use Rattle.wire_encoding.proofs.Lists.{Bytes}
use Rattle.packet_common_header.specs.CommonHeader.{host_length}
use Rattle.packet_address_header.specs.AddressHeader.{kind_of, host_at, address_at}
use Rattle.packet_address_header.proofs.AddressHeaderLaws.{kind_of_kind}
use Rattle.packet.specs.Raw.{Packet, read_packet, read_capture, raw_packet, packet_answer}
use Rattle.packet.specs.Captures.{OfBoth}
use Rattle.packet.proofs.RawLaws.{Split, split}
use Rattle.packet.proofs.Captures.{packet_captured, parts_of_the_packet}
use Rattle.scion_packets.specs.Packets.{host_out, host_in, address_in, packet_out, headers_in}
use Rattle.written_read.specs.WrittenRead.{headers_of}
use Rattle.written_read.specs.OverC.{headers_again, WritesAgainOverC}
use Rattle.written_read.proofs.Hosts.{host_service, host_other}
use Rattle.written_read.proofs.WritesAgain.{address_was, writes_again}

-- A HOST

host_back : (kind : ℕ) (bytes : List ℕ) (at : ℕ) → host_in (host_out (host_at kind bytes at)) ≡ host_at kind bytes at
unfolding host_out host_in kind_of
host_back kind bytes at = go (eqb kind 4) refl
  where
    go : (t : Bool) → eqb kind 4 ≡ t → host_in (host_out (host_at kind bytes at)) ≡ host_at kind bytes at
    go true e = rw (host_service kind bytes at e)
    go false e = rw (host_other kind bytes at e, kind_of_kind kind, e)

-- both ends of an address header that was read
address_back : (bytes : List ℕ) (destination source : ℕ) → let a = address_at bytes destination source in
    address_in a.destination_ia.0 (host_out a.destination) a.source_ia.0 (host_out a.source) ≡ a
unfolding address_at address_in
address_back bytes destination source = rw (host_back destination bytes 16, host_back source bytes (16 + host_length destination))

-- ALL HEADERS

module _ (bytes : List ℕ) (b : Bytes bytes) (p : Packet) (s : Split bytes p) where
  ends_back : let a = p.address in
      address_in a.destination_ia.0 (host_out a.destination) a.source_ia.0 (host_out a.source) ≡ a
  ends_back = rw (address_was bytes b p s).header (address_back _ _ _)

  pub headers_back : headers_in (headers_again (packet_out (packet_answer (Ok p)))) ≡ headers_of p
  unfolding headers_in headers_again packet_out raw_packet headers_of
  headers_back = rw ends_back

pub writes_again_over_c : OfBoth WritesAgainOverC
unfolding packet_out raw_packet
writes_again_over_c =
    let small_bytes : (bytes : List ℕ) → ((i : ℕ) → get_or bytes i 0 < 256) → Bytes bytes = λ bytes small i. record { fits = small i } in
    let packet : WritesAgainOverC read_packet = λ bytes p small read.
    rw (read, (parts_of_the_packet.0 bytes p read).1, headers_back bytes (small_bytes bytes small) p (split bytes (packet_captured bytes read)))
    (writes_again.0 bytes p small read) in
    let capture : WritesAgainOverC read_capture = λ bytes p small read.
    rw (read, (parts_of_the_packet.1 bytes p read).1, headers_back bytes (small_bytes bytes small) p (split bytes read))
    (writes_again.1 bytes p small read) in
    (packet, capture)
