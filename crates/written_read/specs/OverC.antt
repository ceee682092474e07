-- Writing again what was read, over C: the struct that `scion_read_packet` hands out, alone or as the packet of
-- `scion_read_capture`, copied value by value into the one that `scion_write_headers` takes.
use Rattle.std.specs.Prelude.{ℕ, ◌<◌, ◌≡◌, List, get_or, take, Ok}
use Rattle.path.specs.Dataplane.{part_in}
use Rattle.packet.specs.Raw.{Packet, packet_answer}
use Rattle.packet.specs.Captures.{Reader}
use Rattle.packet_headers.specs.Headers.{write_headers}
use Rattle.scion_packets.specs.Packets.{packet_out, headers_in}
use Rattle.scion_packets.specs.declared.ScionPacket.{ScionPacket}
use Rattle.scion_packets.specs.declared.ScionHeaders.{ScionHeaders}

-- every value as it was read
unfoldable pub headers_again : ScionPacket → ScionHeaders
headers_again p =
    record {
      version = p.version;
      traffic_class = p.traffic_class;
      next_header = p.next_header;
      path_type = p.path_type;
      reserved = p.reserved;
      flow_id = p.flow_id;
      header_length_factor = p.header_length_factor;
      payload_length = p.payload_length;
      destination_ia = p.destination_ia;
      source_ia = p.source_ia;
      destination = p.destination;
      source = p.source;
    }

-- they are written, with the bytes of the path's part, into as many bytes as stand before the payload, as these bytes
abbrev pub WritesAgainOverC : Reader → Type 0
WritesAgainOverC read =
    (bytes : List ℕ) (p : Packet) → ((i : ℕ) → get_or bytes i 0 < 256) → read bytes ≡ Ok p
    → let out = packet_out (packet_answer (read bytes)) in
    let before = out.payload_part.start in
    write_headers (headers_in (headers_again out)) (part_in bytes out.path_part) before ≡ Ok (take before bytes)
