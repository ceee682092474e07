-- Segments of a standard path.
use Rattle.std.specs.Prelude.{ℕ, ◌*◌}
use Rattle.path_meta_header.specs.MetaHeader.{first_hop_field, segment_length, info_start, hop_start}
use Rattle.path_fields.specs.Fields.{info_field_length, hop_field_length}
use Rattle.path_meta_header.specs.declared.PathMetaHeader.{PathMetaHeader}
use Rattle.path.specs.declared.standard.Part.{Part}
use Rattle.path.specs.declared.standard.segment.Segment.{Segment}

-- segment k of a path
abbrev pub segment_at : PathMetaHeader → ℕ → Segment
segment_at m k =
    record {
      info_field = record { start = info_start k; len = info_field_length };
      hop_fields = record { start = hop_start m (first_hop_field m k); len = segment_length m k * hop_field_length };
    }

-- the part that stands for one that is refused
abbrev pub nowhere : Part
nowhere = record { start = 0; len = 0 }

-- and the segment
abbrev pub no_segment : Segment
no_segment = record { info_field = nowhere; hop_fields = nowhere }
