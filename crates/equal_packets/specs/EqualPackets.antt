-- Equal readings, equal packets (request 2026-14): a store files packets by their reading. Packets that are filed alike are equal in every
-- byte up to the payload's end, and packets that are equal up to there are read alike.
use Rattle.std.specs.Prelude.{ℕ, ◌+◌, ◌*◌, ◌<◌, ◌≡◌, List, get_or, take, Ok}
use Rattle.wire_encoding.specs.Result.{mapped}
use Rattle.path.specs.Dataplane.{part_in}
use Rattle.packet_common_header.specs.declared.CommonHeader.{CommonHeader}
use Rattle.packet_address_header.specs.declared.AddressHeader.{AddressHeader}
use Rattle.packet.specs.declared.raw.ScionPacketRaw.{ScionPacketRaw}
use Rattle.packet.specs.Raw.{read_packet, packet_answer}
use Rattle.packet.specs.Captures.{Reader}

-- WHAT A STORE FILES

-- every value of the headers, the path's type and the reserved bytes among them, hosts with their padding; the bytes of path and payload
pub record Filed : Type 0 where
  pub common : CommonHeader
  pub address : AddressHeader
  pub path : List ℕ
  pub payload : List ℕ

-- of the answer to a packet, and of the packet's bytes. Neither the path's record nor the places of the two parts are filed
unfoldable pub filed : ScionPacketRaw → List ℕ → Filed
filed answer bytes =
    record {
      common = answer.common;
      address = answer.address;
      path = part_in bytes answer.path_part;
      payload = part_in bytes answer.payload_part;
    }

-- where the payload ends: 4 × factor + payload length
abbrev pub packet_end : ScionPacketRaw → ℕ
packet_end answer = 4 * answer.common.header_length_factor + answer.common.payload_length

-- EQUAL READINGS, EQUAL PACKETS

-- two packets that a reader accepts, and that are filed alike, are equal in every byte up to the payload's end. It is said of a way of
-- filing, so that it can be said of others than `filed` that they do not do (Examples.antt)
abbrev pub EqualPackets : {A : Type 0} → (ScionPacketRaw → List ℕ → A) → Reader → Type 0
EqualPackets file read =
    (x y : List ℕ) → ((i : ℕ) → get_or x i 0 < 256) → ((i : ℕ) → get_or y i 0 < 256)
    → (a b : ScionPacketRaw) → packet_answer (read x) ≡ Ok a → packet_answer (read y) ≡ Ok b
    → file a x ≡ file b y → take (packet_end a) x ≡ take (packet_end b) y

-- EQUAL PACKETS, EQUAL READINGS

-- a packet that is accepted is read alike wherever its bytes stand up to the payload's end: those after it are free
abbrev pub BytesAfterPayload : Type 0
BytesAfterPayload =
    (x y : List ℕ) → ((i : ℕ) → get_or x i 0 < 256)
    → (a : ScionPacketRaw) → packet_answer (read_packet x) ≡ Ok a → take (packet_end a) y ≡ take (packet_end a) x
    → (read_packet y ≡ read_packet x) × (mapped (λ (b : ScionPacketRaw). filed b y) (packet_answer (read_packet y)) ≡ Ok (filed a x))
