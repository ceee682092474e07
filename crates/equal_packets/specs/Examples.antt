-- Worked examples: two packets that differ in one thing alone, and packets beside each border of "accepted is exactly". They show that
-- nothing can be left out of what is filed, and that both theorems need the requests before them, 2026-05 and 2026-06.
use Rattle.std.specs.Prelude.{ℕ, ◌≡◌, List, [], ◌∷◌, ◌++◌, replicate, IsOk}
use Rattle.wire_encoding.specs.Result.{mapped}
use Rattle.errors.specs.Errors.{decoded_number}
use Rattle.path.specs.declared.standard.StandardPath.{StandardPath}
use Rattle.packet_common_header.specs.declared.CommonHeader.{CommonHeader}
use Rattle.packet_address_header.specs.AddressHeader.{without_padding}
use Rattle.packet_address_header.specs.declared.AddressHeader.{AddressHeader}
use Rattle.packet.specs.declared.raw.ScionPacketRaw.{ScionPacketRaw}
use Rattle.packet.specs.Raw.{read_packet, read_capture, packet_answer}
use Rattle.packet.specs.Examples.{headers}
use Rattle.written_read.specs.Examples.{here, there, smallest, to_service}
use Rattle.equal_packets.specs.EqualPackets.{Filed, filed, EqualPackets}
use Rattle.equal_packets.specs.AcceptedExactly.{AcceptedExactly}

-- WAYS OF FILING THAT LEAVE SOMETHING OUT

-- the padding of services: all of them are filed with zero
unfoldable pub leaving_padding : ScionPacketRaw → List ℕ → Filed
leaving_padding answer bytes =
    record {
      common = answer.common;
      address = without_padding answer.address;
      path = (filed answer bytes).path;
      payload = (filed answer bytes).payload;
    }

-- the reserved bytes of the common header
unfoldable pub without_reserved : CommonHeader → CommonHeader
without_reserved c =
    record {
      version = c.version;
      traffic_class = c.traffic_class;
      flow_id = c.flow_id;
      next_header = c.next_header;
      header_length_factor = c.header_length_factor;
      payload_length = c.payload_length;
      path_type = c.path_type;
      destination_kind = c.destination_kind;
      source_kind = c.source_kind;
      reserved = 0;
    }

unfoldable pub leaving_reserved : ScionPacketRaw → List ℕ → Filed
leaving_reserved answer bytes =
    record {
      common = without_reserved answer.common;
      address = answer.address;
      path = (filed answer bytes).path;
      payload = (filed answer bytes).payload;
    }

-- the bytes of the path: it is filed by its record alone, header and expiry
unfoldable pub leaving_path_bytes : ScionPacketRaw → List ℕ → CommonHeader × AddressHeader × StandardPath × List ℕ
leaving_path_bytes answer bytes = (answer.common, answer.address, answer.path, (filed answer bytes).payload)

-- the bytes of the payload
unfoldable pub leaving_payload : ScionPacketRaw → List ℕ → CommonHeader × AddressHeader × List ℕ
leaving_payload answer bytes = (answer.common, answer.address, (filed answer bytes).path)

-- THE PACKETS

-- to service 2 with padding zero: beside `to_service`, whose padding is BEEF
unfoldable pub to_plain_service : List ℕ
to_plain_service = smallest 0x40 here there (0x00 ∷ 0x02 ∷ 0x00 ∷ 0x00 ∷ []) (0x50 ∷ 0x51 ∷ 0x52 ∷ 0x53 ∷ [])

-- a path of two hop fields and a payload of 3 bytes: these are the last reserved byte, the path's last byte, that of the payload, and
-- what stands after it
unfoldable pub longer : ℕ → ℕ → ℕ → List ℕ → List ℕ
longer reserved code last after =
    (0x00 ∷ 0x00 ∷ 0x00 ∷ 0x01 ∷ 0x11 ∷ 0x12 ∷ 0x00 ∷ 0x03 ∷ 0x01 ∷ 0x00 ∷ 0x00 ∷ reserved ∷ [])
    ++ here ++ there ++ (0xD0 ∷ 0xD1 ∷ 0xD2 ∷ 0xD3 ∷ 0x50 ∷ 0x51 ∷ 0x52 ∷ 0x53 ∷ [])
    ++ (0x00 ∷ 0x00 ∷ 0x20 ∷ 0x00 ∷ []) ++ replicate 31 0 ++ (code ∷ 0x01 ∷ 0x02 ∷ last ∷ []) ++ after

-- FILED ALIKE, computed

-- two packets that are accepted, and that are filed alike in a way
pub record Alike {A : Type 0} (file : ScionPacketRaw → List ℕ → A) (x y : List ℕ) : Type 0 where
  pub first : IsOk (packet_answer (read_packet x))
  pub second : IsOk (packet_answer (read_packet y))
  pub alike :
      mapped (λ (a : ScionPacketRaw). file a x) (packet_answer (read_packet x))
      ≡ mapped (λ (b : ScionPacketRaw). file b y) (packet_answer (read_packet y))

-- by `filed`: they differ after the payload alone
abbrev pub AlikeUpToThePayload : Type 0
AlikeUpToThePayload = Alike filed (longer 0 0 3 []) (longer 0 0 3 (0x77 ∷ [])) × (longer 0 0 3 [] ≡ longer 0 0 3 (0x77 ∷ []) → ⊥)

-- by each way that leaves something out: they differ in that alone
abbrev pub AlikeButForOne : Type 0
AlikeButForOne =
    Alike leaving_padding to_plain_service to_service
    × Alike leaving_reserved (longer 0 0 3 []) (longer 1 0 3 [])
    × Alike leaving_path_bytes (longer 0 0 3 []) (longer 0 1 3 [])
    × Alike leaving_payload (longer 0 0 3 []) (longer 0 0 4 [])

-- so that none of these ways does
abbrev pub NothingLeftOut : Type 0
NothingLeftOut =
    (EqualPackets leaving_padding read_packet → ⊥)
    × (EqualPackets leaving_reserved read_packet → ⊥)
    × (EqualPackets leaving_path_bytes read_packet → ⊥)
    × (EqualPackets leaving_payload read_packet → ⊥)

-- ACCEPTED

-- what the reader of packets answers: a packet of each sort of path, the last opaque, of no bytes and of 4; then, beside the border,
-- version 1, factor 8, lengths, info pointer and hop pointer of the path, a path byte left over, and a payload byte missing
unfoldable pub numbers : List ℕ
numbers =
    let number : List ℕ → ℕ = λ bytes. decoded_number (read_packet bytes) in
    let path : ℕ → ℕ → List ℕ = λ pointers lengths. pointers ∷ 0x00 ∷ 0x20 ∷ lengths ∷ replicate 32 0 in
    number (headers 0 9 0 0)
    ∷ number (longer 0 0 3 [])
    ∷ number (headers 0 9 0 2)
    ∷ number (headers 0 10 0 2 ++ replicate 4 0)
    ∷ number (headers 1 9 0 0)
    ∷ number (headers 0 8 0 0)
    ∷ number (headers 0 18 0 1 ++ path 0x00 0x01)
    ∷ number (headers 0 18 0 1 ++ path 0x40 0x00)
    ∷ number (headers 0 18 0 1 ++ path 0x02 0x00)
    ∷ number (headers 0 10 0 0 ++ replicate 4 0)
    ∷ number (headers 0 9 1 0)
    ∷ []

abbrev pub Numbers : Type 0
Numbers = numbers ≡ 0 ∷ 0 ∷ 0 ∷ 0 ∷ 2 ∷ 3 ∷ 4 ∷ 5 ∷ 6 ∷ 7 ∷ 1 ∷ []

-- the reader of captures accepts 36 bytes under factor 10, which fill nothing: of it "accepted is exactly" is false
abbrev pub ShortIsAccepted : Type 0
ShortIsAccepted = IsOk (packet_answer (read_capture (headers 0 10 0 0)))

abbrev pub NotOfCaptures : Type 0
NotOfCaptures = AcceptedExactly read_capture → ⊥
