-- A move keeps the path's expiry, and so does a walk, move by move; the record that is handed back fits what is left.
-- Assumes nothing.
use Prim.Native.Nat.{ℕ}
use mathlib.Core.Path.{ap, ◌∙◌}
use mathlib.Core.Bool.{not}
use mathlib.Core.List.{List}
use native.Mathlib.Omega.{arith}
use borrow.Author.Tests.{eqb-false, not-true}
use Rattle.std.specs.Prelude.{Ok}
use Rattle.wire_encoding.specs.Result.{mapped}
use Rattle.wire_encoding.proofs.Result.{held, stepped, mapped_ok}
use Rattle.wire_encoding.proofs.Lists.{Bytes, bytes_of_lem}
use Rattle.path.specs.Dataplane.{KeepsExpiry}
use Rattle.path.proofs.Kept.{keeps}
use Rattle.path_moves.specs.Moves.{Way, is_last, iterate, move, moved, move_bytes, moved_meta, walk, walk_moves, MovesKeepExpiry}
use Rattle.path_moves.specs.Rules.{movable}
use Rattle.path_moves.proofs.Rules.{known, hop_inside}
use Rattle.path_moves.proofs.Moves.{can_move, moved_known, expiry_moved, one_move}
use Rattle.path_moves.proofs.Sums.{after, walk_made}

module _ (bytes : List ℕ) (small : Bytes bytes) where
  move_keeps : KeepsExpiry bytes (move 1 bytes)
  unfolding move is_last
  move_keeps left h =
      let read = stepped (movable 1 bytes) _ h in
      let m = read.value in
      let last = held (not (is_last m m.current_hop_field)) _ _ read.then in
      let can = can_move bytes m read.first (eqb-false _ _ (not-true _ last.0)) in
      keeps bytes (move_bytes bytes m) m (moved_meta bytes m) (known 1 bytes read.first).path (moved_known bytes m can small).path
      (expiry_moved bytes m can) (move 1 bytes) (one_move bytes m can) left h

  walk_keeps : (limit : ℕ) → KeepsExpiry bytes (mapped (λ (w : Way). w.bytes) (walk 1 bytes limit))
  unfolding walk walk_moves
  walk_keeps limit left h =
      let read = stepped (movable 1 bytes) _ (mapped_ok (λ (w : Way). w.bytes) (walk 1 bytes limit) h).first in
      let m = read.value in
      let there = after bytes small m read.first (walk_moves m limit) (omega (arith, hop_inside bytes read.first)) in
      let walking = there.walking in
      let made = walk_made bytes small m read.first limit in
      keeps bytes (iterate (walk_moves m limit) (moved 1) bytes) m there.left (known 1 bytes read.first).path
      (known 1 _ walking.able).path walking.lasts (mapped (λ (w : Way). w.bytes) (walk 1 bytes limit))
      (ap (mapped (λ (w : Way). w.bytes)) made.is ∙ ap Ok made.left) left h

pub moves_keep_expiry : MovesKeepExpiry
moves_keep_expiry bytes small = (move_keeps bytes (bytes_of_lem bytes small), walk_keeps bytes (bytes_of_lem bytes small))
