-- Equal readings, equal packets, over C: what a store that links the library has of a packet, and the number that it was answered.
use Rattle.std.specs.Prelude.{ℕ, ◌+◌, ◌*◌, ◌<◌, ◌≡◌, List, get_or, take}
use Rattle.path.specs.Dataplane.{part_in}
use Rattle.packet.specs.Raw.{packet_answer}
use Rattle.packet.specs.Captures.{Reader}
use Rattle.scion_packets.specs.Packets.{packet_out}
use Rattle.scion_packets.specs.declared.ScionPacket.{ScionPacket}
use Rattle.scion_packets.specs.declared.ScionHeaders.{ScionHeaders}
use Rattle.written_read.specs.OverC.{headers_again}

-- every value of the headers as C has it, the path's type and the reserved bytes among them, hosts with their padding; the bytes of path
-- and payload
pub record FiledOverC : Type 0 where
  pub headers : ScionHeaders
  pub path : List ℕ
  pub payload : List ℕ

unfoldable pub filed_over_c : ScionPacket → List ℕ → FiledOverC
filed_over_c p bytes =
    record {
      headers = headers_again p;
      path = part_in bytes p.path_part;
      payload = part_in bytes p.payload_part;
    }

-- two packets that are answered 0, and that are filed alike, are equal in every byte up to the payload's end
abbrev pub EqualPacketsOverC : Reader → Type 0
EqualPacketsOverC read =
    (x y : List ℕ) → ((i : ℕ) → get_or x i 0 < 256) → ((i : ℕ) → get_or y i 0 < 256)
    → let a = packet_out (packet_answer (read x)) in
    let b = packet_out (packet_answer (read y)) in
    a.answer.number ≡ 0 → b.answer.number ≡ 0 → filed_over_c a x ≡ filed_over_c b y
    → take (4 * a.header_length_factor + a.payload_length) x ≡ take (4 * b.header_length_factor + b.payload_length) y
