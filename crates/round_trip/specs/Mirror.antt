-- The mirror image of a path: the path reversed, with its pointers at the mirrored position.
use Rattle.std.specs.Prelude.{ℕ, ◌-◌, List}
use Rattle.path_meta_header.specs.MetaHeader.{info_fields_count, hop_fields_count}
use Rattle.path_meta_header.specs.Reversal.{reversed_lengths}
use Rattle.path_meta_header.specs.declared.PathMetaHeader.{PathMetaHeader}
use Rattle.path_reverse.specs.Reverse.{reversed_under}

-- the lengths in opposite order, with these pointers
unfoldable pub reversed_meta_at : ℕ → ℕ → PathMetaHeader → PathMetaHeader
reversed_meta_at k h m =
    record {
      current_info_field = k;
      current_hop_field = h;
      reserved = 0;
      segment_lengths = reversed_lengths m;
    }

-- the pointers at the mirrored position
unfoldable pub mirror_meta : PathMetaHeader → PathMetaHeader
mirror_meta m = reversed_meta_at (info_fields_count m - 1 - m.current_info_field) (hop_fields_count m - 1 - m.current_hop_field) m

unfoldable pub mirror : PathMetaHeader → List ℕ → List ℕ
mirror m bytes = reversed_under (mirror_meta m) m bytes
