-- What the reading of a packet hands to C where it is refused: zeros in every field but the answer.
-- Assumes nothing.
use Prim.Native.Nat.{ℕ, ◌*◌}
use mathlib.Core.Path.{◌≡◌, refl}
use mathlib.Core.List.{List}
use native.Mathlib.Omega.{arith}
use lib.Dec.{ltb}
use borrow.Author.Tests.{le-ltb}
use lib.ListN.{length, replicate}
use Rattle.path_meta_header.specs.MetaHeader.{meta_of, nth_field}
use Rattle.errors.specs.Errors.{decode_number, decode_value}
use Rattle.errors.specs.declared.packet_error.DecodeError.{DecodeError}
use Rattle.std.specs.Prelude.{Result, Ok, Err}
use Rattle.wire_encoding.specs.Result.{mapped}
use Rattle.packet.specs.Raw.{Packet, is_short, read_capture, raw_packet, packet_answer, capture_read, capture_answer}
use Rattle.scion_packets.specs.declared.ScionCapture.{ScionCapture}
use Rattle.wire_encoding.specs.BigEndian.{big_endian}
use Rattle.packet_common_header.specs.CommonHeader.{common_at, header_length, host_length, zero_common}
use Rattle.packet_address_header.specs.AddressHeader.{kind_of, host_of_kind, padded, host_at, address_at, zero_address}
use Rattle.path.specs.declared.standard.Part.{Part}
use Rattle.scion_paths.specs.Answer.{decoded_out}
use Rattle.scion_paths.proofs.Paths.{zeros}
use Rattle.scion_packets.specs.declared.ScionHost.{ScionHost}
use Rattle.scion_packets.specs.Packets.{host_out, no_packet, packet_out, capture_out, ShortHandedOut}

abbrev zero_host : ScionHost
zero_host = record { kind = 0; service = 0; bytes = replicate 16 0; padding = 0 }

abbrev none : Part
none = record { start = 0; len = 0 }

pub packet_refused : (error : DecodeError)
    → packet_out (Err error)
    ≡ record {
      answer = record { number = decode_number error; value = decode_value error };
      path = zeros;
      version = 0;
      traffic_class = 0;
      next_header = 0;
      header_length_factor = 0;
      path_type = 0;
      payload_length = 0;
      reserved = 0;
      flow_id = 0;
      destination_ia = 0;
      source_ia = 0;
      destination = zero_host;
      source = zero_host;
      path_part = none;
      payload_part = none;
    }
unfolding packet_out no_packet decoded_out host_out zero_common common_at zero_address address_at host_at host_of_kind padded host_length big_endian kind_of meta_of
    nth_field
packet_refused error = refl

-- whether a capture is short, by the factor that is handed out: of one that was refused it is 0, and nothing is shorter than that
pub short_handed : (bytes : List ℕ) → let read = packet_answer (read_capture bytes) in
    record { packet = packet_out read; is_short = ltb (length bytes) (4 * (packet_out read).header_length_factor) }
    ≡ capture_out (capture_answer bytes)
unfolding capture_out capture_answer raw_packet packet_out no_packet is_short header_length zero_common common_at
short_handed bytes = go (read_capture bytes)
  where
    go : (r : Result Packet DecodeError) → let read = packet_answer r in
        ◌≡◌ {A = ScionCapture} (record { packet = packet_out read; is_short = ltb (length bytes) (4 * (packet_out read).header_length_factor) })
        (capture_out (mapped (capture_read bytes) r))
    go (Ok p) = refl
    go (Err error) = rw (le-ltb (length bytes) 0 (omega arith)) refl

-- the library's answer and C's say the same
pub short_handed_out : ShortHandedOut
unfolding capture_out
short_handed_out bytes = refl
