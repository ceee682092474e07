-- The runs of a path: where its hop fields lie, and that hop field j of a run is the path's own.
use Rattle.std.specs.Prelude.{ℕ, ◌*◌, ◌+◌, ◌<◌, ◌≡◌, List, Result, Ok}
use Rattle.wire_encoding.specs.Result.{◌>>=◌, or_else}
use Rattle.path_meta_header.specs.MetaHeader.{hop_fields_count, first_hop_field, segment_length, hop_fields_start}
use Rattle.path_fields.specs.Fields.{hop_field_length}
use Rattle.path_meta_header.specs.declared.PathMetaHeader.{PathMetaHeader}
use Rattle.errors.specs.declared.path_error.PathError.{PathError}
use Rattle.path.specs.declared.standard.segment.Segment.{Segment}
use Rattle.path.specs.Segment.{nowhere}
use Rattle.path.specs.Dataplane.{standard, segment_in, hop_field_in, part_in}
use Rattle.path.specs.declared.standard.Part.{Part}
use Rattle.path_hop_fields.specs.Run.{count, hop_field}

-- where all hop fields of a standard path lie: reading, then 8 for every other type
unfoldable pub hop_fields_in : ℕ → List ℕ → Result Part PathError
hop_fields_in type bytes = do
  m ← standard type bytes
  Ok (record { start = hop_fields_start m; len = hop_fields_count m * hop_field_length })

-- THE RUNS OF A PATH: hop field j of a segment's run, and of the whole path's, is the path's own at its place

-- the part of bytes is a run of n hop fields, and each is the path's own, from hop field `first` on
pub record Run (type : ℕ) (bytes : List ℕ) (part : Part) (first n : ℕ) : Type 0 where
  pub count : count (part_in bytes part) ≡ n
  pub hop_field : (j : ℕ) → j < n → hop_field (part_in bytes part) j ≡ part_in bytes (or_else (hop_field_in type bytes (first + j)) nowhere)

unfoldable pub SegmentRuns : Type 0
SegmentRuns = (type : ℕ) (bytes : List ℕ) (k : ℕ) (m : PathMetaHeader) (segment : Segment) → standard type bytes ≡ Ok m → segment_in type bytes k
    ≡ Ok segment
    → Run type bytes segment.hop_fields (first_hop_field m k) (segment_length m k)

unfoldable pub PathRuns : Type 0
PathRuns = (type : ℕ) (bytes : List ℕ) (m : PathMetaHeader) (run : Part) → standard type bytes ≡ Ok m → hop_fields_in type bytes ≡ Ok run
    → Run type bytes run 0 (hop_fields_count m)
