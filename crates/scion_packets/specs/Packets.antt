-- What the calls on packets hand to C, and what they take from it, field by field.
use Rattle.std.specs.Prelude.{ℕ, ◌≡◌, List, false, eqb, cond, Result}
use Rattle.wire_encoding.specs.Result.{mapped, or_else}
use Rattle.path.specs.Standard.{no_path}
use Rattle.path.specs.Segment.{nowhere}
use Rattle.packet_common_header.specs.CommonHeader.{zero_common}
use Rattle.address.specs.declared.host.HostAddr.TheVariants.{V4, V6, Svc}
use Rattle.packet_address_header.specs.AddressHeader.{kind_of, host_of_kind, zero_address}
use Rattle.errors.specs.Errors.{encoded_number}
use Rattle.packet_address_header.specs.declared.MaybeEncoded.{MaybeEncoded}
use Rattle.packet_address_header.specs.declared.MaybeEncoded.TheVariants as host
use Rattle.packet_address_header.specs.declared.HostAddress.{HostAddress}
use Rattle.packet_address_header.specs.declared.AddressHeader.{AddressHeader}
use Rattle.errors.specs.declared.packet_error.DecodeError.{DecodeError}
use Rattle.errors.specs.declared.packet_error.EncodeError.{EncodeError}
use Rattle.packet.specs.Raw.{capture_answer, short_capture}
use Rattle.packet.specs.declared.raw.ScionPacketRaw.{ScionPacketRaw}
use Rattle.packet.specs.declared.raw.CaptureRead.{CaptureRead}
use Rattle.packet_headers.specs.declared.ScionHeaders as library
use Rattle.scion_paths.specs.Answer.{decoded_out}
use Rattle.scion_paths.specs.declared.ScionAnswer.{ScionAnswer}
use Rattle.scion_packets.specs.declared.ScionHost.{ScionHost}
use Rattle.scion_packets.specs.declared.ScionPacket.{ScionPacket}
use Rattle.scion_packets.specs.declared.ScionCapture.{ScionCapture}
use Rattle.scion_packets.specs.declared.ScionHeaders.{ScionHeaders}

-- HOSTS

-- a service's number; 0 for any other host
abbrev pub service_of : MaybeEncoded → ℕ
service_of (host.Decoded V4) = 0
service_of (host.Decoded V6) = 0
service_of (host.Decoded (Svc service)) = service.0
service_of (host.Encoded kind) = 0

-- a host: its kind on the wire, its service's number, its sixteen bytes, its padding
unfoldable pub host_out : HostAddress → ScionHost
host_out a = record { kind = kind_of a.host; service = service_of a.host; bytes = a.bytes; padding = a.padding }

-- a host to be written: 4 is a service, 0 IPv4, 3 IPv6, any other opaque; the padding of any but a service is zero, whatever C says
unfoldable pub host_in : ScionHost → HostAddress
host_in c =
    cond (eqb c.kind 4)
    (record { host = host.Decoded (Svc (record { 0 = c.service })); bytes = c.bytes; padding = c.padding })
    (record { host = host_of_kind c.kind; bytes = c.bytes; padding = 0 })

-- both ends
unfoldable pub address_in : ℕ → ScionHost → ℕ → ScionHost → AddressHeader
address_in destination_ia destination source_ia source =
    record {
      destination_ia = record { 0 = destination_ia };
      source_ia = record { 0 = source_ia };
      destination = host_in destination;
      source = host_in source;
    }

-- READING

-- every field zero, and no bytes
unfoldable pub no_packet : ScionPacketRaw
no_packet = record { common = zero_common; address = zero_address; path = no_path; path_part = nowhere; payload_part = nowhere }

-- a packet: every value of its headers, the record of its path, and where path and payload lie; the hosts carry their kinds. All zero but
-- the answer where it is refused
unfoldable pub packet_out : Result ScionPacketRaw DecodeError → ScionPacket
packet_out read =
    let p = or_else read no_packet in
    record {
      answer = decoded_out read;
      path = p.path;
      version = p.common.version;
      traffic_class = p.common.traffic_class;
      next_header = p.common.next_header;
      header_length_factor = p.common.header_length_factor;
      path_type = p.common.path_type;
      payload_length = p.common.payload_length;
      reserved = p.common.reserved;
      flow_id = p.common.flow_id;
      destination_ia = p.address.destination_ia.0;
      source_ia = p.address.source_ia.0;
      destination = host_out p.address.destination;
      source = host_out p.address.source;
      path_part = p.path_part;
      payload_part = p.payload_part;
    }

-- a capture: its packet, and whether it is short; no where it is refused
unfoldable pub capture_out : Result CaptureRead DecodeError → ScionCapture
capture_out read =
    record {
      packet = packet_out (mapped (λ (c : CaptureRead). c.packet) read);
      is_short = or_else (mapped (λ (c : CaptureRead). c.short) read) false;
    }

-- a theorem: what C is told of a capture is whether it is short; of one that is refused, no
abbrev pub ShortHandedOut : Type 0
ShortHandedOut = (bytes : List ℕ) → (capture_out (capture_answer bytes)).is_short ≡ short_capture bytes

-- WRITING

-- the headers as the library takes them, and as C does
unfoldable pub headers_in : ScionHeaders → library.ScionHeaders
headers_in c =
    record {
      version = c.version;
      traffic_class = c.traffic_class;
      flow_id = c.flow_id;
      next_header = c.next_header;
      header_length_factor = c.header_length_factor;
      payload_length = c.payload_length;
      path_type = c.path_type;
      reserved = c.reserved;
      address = address_in c.destination_ia c.destination c.source_ia c.source;
    }

unfoldable pub headers_out : library.ScionHeaders → ScionHeaders
headers_out h =
    record {
      version = h.version;
      traffic_class = h.traffic_class;
      next_header = h.next_header;
      path_type = h.path_type;
      reserved = h.reserved;
      flow_id = h.flow_id;
      header_length_factor = h.header_length_factor;
      payload_length = h.payload_length;
      destination_ia = h.address.destination_ia.0;
      source_ia = h.address.source_ia.0;
      destination = host_out h.address.destination;
      source = host_out h.address.source;
    }

-- the answer of a writer: 3 comes with the factor, which is 0
unfoldable pub encoded_out : {A : Type 0} → Result A EncodeError → ScionAnswer
encoded_out e = record { number = encoded_number e; value = 0 }
