-- A worked example, computed: the run of a path of two segments, and two refusals.
-- Assumes nothing.
use Prim.Native.Nat.{ℕ}
use mathlib.Core.Path.{◌≡◌, refl}
use mathlib.Core.List.{List, [], ◌∷◌, ◌++◌}
use lib.ListN.{replicate, take}
use Rattle.std.specs.Prelude.{Err}
use Rattle.wire_encoding.specs.BigEndian.{big_endian, room}
use Rattle.wire_encoding.specs.Result.{or_else}
use Rattle.errors.specs.declared.path_error.PathError.TheVariants.{Decode, NoSuchField}
use Rattle.errors.specs.declared.packet_error.DecodeError.TheVariants.{PacketEmptyOrTruncated}
use Rattle.path.specs.Segment.{nowhere}
use Rattle.path_meta_header.specs.MetaHeader as meta
use Rattle.path.specs.Standard as standard
use Rattle.path.specs.Dataplane as dataplane
use Rattle.path_hop_fields.specs.PathRuns as runs
use Rattle.path_hop_fields.proofs.RunExamples.{a, b, c}

-- a path of a segment with one of them and a segment with the others, and a byte that follows it
abbrev path : List ℕ
path = (0x00 ∷ 0x00 ∷ 0x10 ∷ 0x80 ∷ []) ++ (replicate 16 0 ++ ((a ++ (b ++ c)) ++ (0xFF ∷ [])))

-- after two info fields; 8 for a path of another type, 1 for one cut short
pub path_run : (dataplane.part_in path (or_else (runs.hop_fields_in 1 path) nowhere) ≡ a ++ (b ++ c))
    × ((runs.hop_fields_in 2 path ≡ Err NoSuchField)
    × (runs.hop_fields_in 1 (take 55 path) ≡ Err (Decode PacketEmptyOrTruncated)))
unfolding big_endian room runs.hop_fields_in
    meta.nth_field meta.meta_of meta.info_fields_count meta.hop_fields_count meta.segment_of meta.path_length meta.lengths_valid meta.info_valid meta.hop_valid
    meta.checked meta.read_meta standard.read_path standard.read_record dataplane.read_dataplane dataplane.standard
path_run = (refl, (refl, refl))
