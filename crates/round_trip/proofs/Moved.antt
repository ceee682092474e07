-- A move of a path before its last hop field leaves a path of the same kind: as many bytes under as many fields, reserved bits zero.
-- Assumes nothing.
use Prim.Native.Nat.{ℕ, ◌+◌, ◌<◌}
use mathlib.Core.Path.{◌≡◌, sym, ◌∙◌}
use mathlib.Core.List.{List}
use native.Mathlib.Omega.{arith}
use Rattle.path_meta_header.specs.MetaHeader.{hop_fields_count, path_length}
use Rattle.path_meta_header.specs.declared.PathMetaHeader.{PathMetaHeader}
use Rattle.path_moves.specs.Moves.{CanMove, at_position, move_bytes, moved_meta}
use Rattle.path_moves.proofs.Moves.{counts_kept, length-move_bytes, moved_known}
use Rattle.path_moves.proofs.Rules.{known_movable}
use Rattle.path_moves.proofs.Sums.{bytes_moved}
use Rattle.round_trip.proofs.Mirror.{Path}

module _ (x : List ℕ) (m : PathMetaHeader) (path : Path x m) (before_last : m.current_hop_field + 1 < hop_fields_count m) where
  pub can_move : CanMove x m
  can_move = record { able = known_movable x m path.known; before_last = before_last }

  moved_length : path_length (moved_meta x m) ≡ path_length m
  unfolding path_length
  moved_length = let kept = counts_kept x m can_move in omega arith

  pub path-moved : Path (move_bytes x m) (moved_meta x m)
  unfolding moved_meta at_position
  path-moved =
      record {
        known = moved_known x m can_move path.small;
        small = bytes_moved x m can_move path.small;
        exact = length-move_bytes x m ∙ path.exact ∙ sym moved_length;
        clear = path.clear;
      }
