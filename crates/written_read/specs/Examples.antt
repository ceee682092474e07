-- Worked examples: a service whose padding is not zero, read, written again, and zero in a reply that is made anew.
use Rattle.std.specs.Prelude.{ℕ, ◌≡◌, List, [], ◌∷◌, ◌++◌, Ok}
use Rattle.wire_encoding.specs.Result.{mapped}
use Rattle.packet_address_header.specs.AddressHeader.{service_host}
use Rattle.packet_address_header.specs.declared.AddressHeader.{AddressHeader}
use Rattle.packet.specs.Raw.{Packet, read_packet}
use Rattle.packet_headers.specs.Headers.{new_headers, header_bytes}
use Rattle.written_read.specs.WrittenRead.{headers_of}

-- THE PACKETS

unfoldable pub here : List ℕ
here = 0x00 ∷ 0x01 ∷ 0xFF ∷ 0x00 ∷ 0x00 ∷ 0x00 ∷ 0x01 ∷ 0x10 ∷ []

unfoldable pub there : List ℕ
there = 0x00 ∷ 0x02 ∷ 0xFF ∷ 0x00 ∷ 0x00 ∷ 0x00 ∷ 0x02 ∷ 0x20 ∷ []

-- no path and no payload, 36 bytes: these host kinds, destination network, source network, destination and source
unfoldable pub smallest : ℕ → List ℕ → List ℕ → List ℕ → List ℕ → List ℕ
smallest kinds to from destination source =
    (0x00 ∷ 0x00 ∷ 0x00 ∷ 0x01 ∷ 0x11 ∷ 0x09 ∷ 0x00 ∷ 0x00 ∷ 0x00 ∷ kinds ∷ 0x00 ∷ 0x00 ∷ [])
    ++ to ++ from ++ destination ++ source

-- to service 2 with padding BEEF, and from service 8002 with padding 0001
unfoldable pub to_service : List ℕ
to_service = smallest 0x40 here there (0x00 ∷ 0x02 ∷ 0xBE ∷ 0xEF ∷ []) (0x50 ∷ 0x51 ∷ 0x52 ∷ 0x53 ∷ [])

unfoldable pub from_service : List ℕ
from_service = smallest 0x04 here there (0xD0 ∷ 0xD1 ∷ 0xD2 ∷ 0xD3 ∷ []) (0x80 ∷ 0x02 ∷ 0x00 ∷ 0x01 ∷ [])

-- COMPUTED

-- the service is read with its padding, at either end; the IPv4 host beside it has none
abbrev pub ServicesRead : Type 0
ServicesRead =
    (mapped (λ (p : Packet). p.address.destination) (read_packet to_service) ≡ Ok (service_host 0x0002 0xBEEF))
    × (mapped (λ (p : Packet). p.address.source.padding) (read_packet to_service) ≡ Ok 0)
    × (mapped (λ (p : Packet). p.address.source) (read_packet from_service) ≡ Ok (service_host 0x8002 0x0001))
    × (mapped (λ (p : Packet). p.address.destination.padding) (read_packet from_service) ≡ Ok 0)

-- what was read is written again as it came
abbrev pub ServicesWrittenAgain : Type 0
ServicesWrittenAgain =
    (mapped (λ (p : Packet). header_bytes (headers_of p) []) (read_packet to_service) ≡ Ok to_service)
    × (mapped (λ (p : Packet). header_bytes (headers_of p) []) (read_packet from_service) ≡ Ok from_service)

-- from the destination to the source
unfoldable pub exchanged : AddressHeader → AddressHeader
exchanged a =
    record {
      destination_ia = a.source_ia;
      source_ia = a.destination_ia;
      destination = a.source;
      source = a.destination;
    }

-- the reply to each, made anew, has padding zero
abbrev pub ServicesAnswered : Type 0
ServicesAnswered =
    let reply : Packet → List ℕ = λ p. header_bytes (new_headers (exchanged p.address) 0 0 0x11 0 1) [] in
    (mapped reply (read_packet to_service)
    ≡ Ok (smallest 0x04 there here (0x50 ∷ 0x51 ∷ 0x52 ∷ 0x53 ∷ []) (0x00 ∷ 0x02 ∷ 0x00 ∷ 0x00 ∷ [])))
    × (mapped reply (read_packet from_service)
    ≡ Ok (smallest 0x40 there here (0x80 ∷ 0x02 ∷ 0x00 ∷ 0x00 ∷ []) (0xD0 ∷ 0xD1 ∷ 0xD2 ∷ 0xD3 ∷ [])))
