-- The draft's Path Reversal, of a meta header.
use Rattle.std.specs.Prelude.{ℕ, ◌-◌, List, [], ◌∷◌, ◌++◌, reverse, take, replicate}
use Rattle.path_meta_header.specs.declared.PathMetaHeader.{PathMetaHeader}
use Rattle.path_meta_header.specs.MetaHeader.{segment_length, info_fields_count}

-- a header with these lengths, pointers and reserved bits zero
unfoldable pub at_start : List ℕ → PathMetaHeader
at_start lengths =
    record { current_info_field = 0; current_hop_field = 0; reserved = 0; segment_lengths = lengths }

-- the I lengths in opposite order, then zeros
unfoldable pub reversed_lengths : PathMetaHeader → List ℕ
reversed_lengths m =
    let lengths = segment_length m 0 ∷ segment_length m 1 ∷ segment_length m 2 ∷ [] in
    reverse (take (info_fields_count m) lengths) ++ replicate (3 - info_fields_count m) 0

-- the draft's Path Reversal of a meta header
unfoldable pub reversed_meta : PathMetaHeader → PathMetaHeader
reversed_meta m = at_start (reversed_lengths m)
