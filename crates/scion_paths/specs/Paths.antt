-- What the calls on paths hand to C: each answer of the library, field by field; zeros where a call is refused.
use Rattle.std.specs.Prelude.{ℕ, ℤ, pos, ◌≡◌, false, List, None, Result, Err}
use Rattle.std.specs.Option.{unwrap_or}
use Rattle.wire_encoding.specs.Result.{or_else}
use Rattle.errors.specs.declared.packet_error.DecodeError.{DecodeError}
use Rattle.errors.specs.declared.path_error.PathError.{PathError}
use Rattle.path_fields.specs.Fields.{Interface, new_info_field, zero_info_field, new_hop_field, zero_hop_field}
use Rattle.path.specs.Standard.{no_path}
use Rattle.path.specs.Segment.{nowhere, no_segment}
use Rattle.path.specs.Dataplane.{unread, read_dataplane, part_in}
use Rattle.path.specs.declared.standard.Part.{Part}
use Rattle.path.specs.declared.standard.Found.{Found}
use Rattle.path.specs.declared.standard.StandardPath.{StandardPath}
use Rattle.path.specs.declared.standard.segment.Segment.{Segment}
use Rattle.path.specs.declared.dataplane.Extent.{Extent}
use Rattle.path_interfaces.specs.declared.InterfaceAt.{InterfaceAt}
use Rattle.path_moves.specs.declared.WalkAnswer.{WalkAnswer}
use Rattle.scion_paths.specs.Answer.{answer_out, decoded_out}
use Rattle.scion_paths.specs.declared.ScionPathAnswer.{ScionPathAnswer}
use Rattle.scion_paths.specs.declared.ScionPathRead.{ScionPathRead}
use Rattle.scion_paths.specs.declared.ScionWrittenPath.{ScionWrittenPath}
use Rattle.scion_paths.specs.declared.ScionInfoField.{ScionInfoField}
use Rattle.scion_paths.specs.declared.ScionHopField.{ScionHopField}
use Rattle.scion_paths.specs.declared.ScionSegment.{ScionSegment}
use Rattle.scion_paths.specs.declared.ScionExpiry.{ScionExpiry}
use Rattle.scion_paths.specs.declared.ScionTimeLeft.{ScionTimeLeft}
use Rattle.scion_paths.specs.declared.ScionInterfaceCount.{ScionInterfaceCount}
use Rattle.scion_paths.specs.declared.ScionInterface.{ScionInterface}
use Rattle.scion_paths.specs.declared.ScionWalk.{ScionWalk}

-- alert flags and moves: the answer, and the record of the path
unfoldable pub path_answer_out : Result StandardPath PathError → ScionPathAnswer
path_answer_out left = record { answer = answer_out left; path = or_else left no_path }

-- reading: also how many of the bytes are the path's
unfoldable pub path_read_out : Result Extent DecodeError → ScionPathRead
path_read_out read =
    let extent = or_else read (unread 0) in
    record { answer = decoded_out read; path = extent.path; length = extent.length }

-- a theorem: of a path that is refused, and of one whose type is not 1, reading hands out a record of zeros
abbrev pub NoRecordHandedOut : Type 0
NoRecordHandedOut =
    (type : ℕ) (bytes : List ℕ)
    → let out = (path_read_out (read_dataplane type bytes)).path in
    ((error : DecodeError) → read_dataplane type bytes ≡ Err error → out ≡ no_path) × ((type ≡ 1 → ⊥) → out ≡ no_path)

-- copies and reversals: also how many bytes of the destination are the path's
unfoldable pub written_path_out : Result Extent PathError → ScionWrittenPath
written_path_out written =
    let extent = or_else written (unread 0) in
    record { answer = answer_out written; path = extent.path; length = extent.length }

-- what is found of a path, beside its record: zeros where it is refused, `zero` for the value
abbrev pub found_out : {A : Type 0} → A → Result (Found A) PathError → Found A
found_out zero read = or_else read (record { path = no_path; value = zero })

-- an info field: where it starts, and the values of its part of 8 bytes; the part of a refusal is empty, and its values are zero
unfoldable pub info_field_out : List ℕ → Result (Found Part) PathError → ScionInfoField
info_field_out bytes read =
    let found = found_out nowhere read in
    let field = or_else (new_info_field (part_in bytes found.value)) zero_info_field in
    record {
      answer = answer_out read;
      path = found.path;
      start = found.value.start;
      flags = field.flags;
      reserved = field.reserved;
      accumulator = field.accumulator;
      timestamp = field.timestamp;
    }

-- a hop field, likewise, by its part of 12 bytes
unfoldable pub hop_field_out : List ℕ → Result (Found Part) PathError → ScionHopField
hop_field_out bytes read =
    let found = found_out nowhere read in
    let field = or_else (new_hop_field (part_in bytes found.value)) zero_hop_field in
    record {
      answer = answer_out read;
      path = found.path;
      start = found.value.start;
      flags = field.flags;
      exp_time = field.exp_time;
      cons_ingress = field.cons_ingress;
      cons_egress = field.cons_egress;
      mac = field.mac;
    }

-- a segment: where its info field and its hop fields lie
unfoldable pub segment_out : Result (Found Segment) PathError → ScionSegment
segment_out read =
    let found = found_out no_segment read in
    record {
      answer = answer_out read;
      path = found.path;
      info_field = found.value.info_field;
      hop_fields = found.value.hop_fields;
    }

-- an expiry, and the time left, in ms
unfoldable pub expiry_out : Result (Found ℕ) PathError → ScionExpiry
expiry_out read = let found = found_out 0 read in record { answer = answer_out read; path = found.path; ms = found.value }

unfoldable pub time_left_out : Result (Found ℤ) PathError → ScionTimeLeft
time_left_out read = let found = found_out (pos 0) read in record { answer = answer_out read; path = found.path; ms = found.value }

-- the number of interfaces
unfoldable pub interface_count_out : Result (Found ℕ) PathError → ScionInterfaceCount
interface_count_out read = let found = found_out 0 read in record { answer = answer_out read; path = found.path; count = found.value }

-- an interface's number on the wire: 0 means none
abbrev pub interface_number : Interface → ℕ
interface_number interface = unwrap_or interface 0

-- an interface, and the hop field that it belongs to
unfoldable pub interface_out : Result (Found InterfaceAt) PathError → ScionInterface
interface_out read =
    let found = found_out (record { hop_field = 0; interface = None }) read in
    record {
      answer = answer_out read;
      path = found.path;
      hop_field = found.value.hop_field;
      id = interface_number found.value.interface;
    }

-- a walk: how many moves it made, and whether it stands at the last hop field
unfoldable pub walk_out : Result WalkAnswer PathError → ScionWalk
walk_out walked =
    let walk = or_else walked (record { path = no_path; moves = 0; arrived = false }) in
    record { answer = answer_out walked; path = walk.path; moves = walk.moves; arrived = walk.arrived }
