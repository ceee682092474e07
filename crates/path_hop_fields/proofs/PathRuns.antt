-- The runs of a path: a part of the path's bytes that begins at a hop field, and so does each hop field of it.
-- Assumes nothing.
use Prim.Native.Nat.{ℕ, ◌+◌, ◌*◌, ◌≤◌, ◌<◌}
use mathlib.Core.Path.{◌≡◌, ap, ◌∙◌}
use mathlib.Core.List.{List}
use native.Mathlib.Omega.{arith}
use lib.ListN.{length}
use lib.Dec.{ltb}
use borrow.Author.Tests.{ltb-true, lt-ltb}
use Rattle.std.specs.Prelude.{Result, Ok}
use Rattle.wire_encoding.specs.Result.{or_else}
use Rattle.wire_encoding.specs.BigEndian.{part}
use Rattle.wire_encoding.proofs.Lists.{length_part, part-part}
use Rattle.wire_encoding.proofs.Result.{held, same_value}
use Rattle.path_meta_header.specs.MetaHeader.{info_fields_count, hop_fields_count, first_hop_field, segment_length, path_length, hop_field_offset}
use Rattle.path_meta_header.specs.MetaHeader.{hop_fields_start, hop_start}
use Rattle.path_meta_header.specs.declared.PathMetaHeader.{PathMetaHeader}
use Rattle.errors.specs.declared.path_error.PathError.{PathError}
use Rattle.path.specs.declared.standard.segment.Segment.{Segment}
use Rattle.path.specs.Segment.{nowhere}
use Rattle.path.specs.Dataplane.{standard, segment_in, hop_field_in, part_in}
use Rattle.path.specs.declared.standard.Part.{Part}
use Rattle.path_meta_header.proofs.MetaHeader.{segment_within}
use Rattle.path.proofs.Reading.{standard_readable}
use Rattle.path_hop_fields.specs.PathRuns.{hop_fields_in, Run, SegmentRuns, PathRuns}

-- a path that was read, of which n hop fields are looked at, hop field `at` and those that follow
module _ (type : ℕ) (bytes : List ℕ) (m : PathMetaHeader) (read : standard type bytes ≡ Ok m) where
  -- the path's hop field j lies where it should
  hop_field_at_lem : (j : ℕ) → j < hop_fields_count m → part (hop_start m j) 12 bytes ≡ part_in bytes (or_else (hop_field_in type bytes j) nowhere)
  unfolding hop_field_in hop_field_offset
  hop_field_at_lem j there = rw (read, lt-ltb _ _ there)

  module _ (at n : ℕ) (within : at + n ≤ hop_fields_count m) where
    abbrev run : List ℕ
    run = part (hop_start m at) (n * 12) bytes

    inside : hop_start m at + n * 12 ≤ length bytes
    unfolding path_length
    inside = omega (arith, (standard_readable bytes type read).whole)

    is_run : Run type bytes (record { start = hop_start m at; len = n * 12 }) at n
    is_run =
        record {
          count = let size : length run ≡ n * 12 = length_part (hop_start m at) (n * 12) bytes inside in omega arith;
          hop_field = λ j below.
              let place : hop_start m at + j * 12 ≡ hop_start m (at + j) = omega arith in
              part-part (hop_start m at) (n * 12) (j * 12) 12 bytes (omega arith) inside
              ∙ ap (λ (k : ℕ). part k 12 bytes) place
              ∙ hop_field_at_lem (at + j) (omega arith);
        }

pub path_runs : PathRuns
unfolding PathRuns hop_fields_in
path_runs type bytes m run read found =
    let first : hop_start m 0 ≡ hop_fields_start m = omega arith in
    let is = same_value (rw read at found) in
    rw (← is, ← first) (is_run type bytes m read 0 (hop_fields_count m) (omega arith))

pub segment_runs : SegmentRuns
unfolding SegmentRuns segment_in
segment_runs type bytes k m segment read found =
    let there = held (ltb k (info_fields_count m)) _ _ (rw read at found) in
    let is : ◌≡◌ {A = Part} (record { start = hop_start m (first_hop_field m k); len = segment_length m k * 12 }) segment.hop_fields =
    ap (λ (r : Result Segment PathError). (or_else r segment).hop_fields) there.1 in
    rw (← is) (is_run type bytes m read (first_hop_field m k) (segment_length m k) (segment_within m k (ltb-true _ _ there.0)).1)
