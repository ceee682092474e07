-- `steps` meets its contract: each turn of the loop is one move of a walk that is not at its end.
use native.Mathlib.Omega.{arith}
use Rattle.path_moves.proofs.Walks.{next}
use Rattle.path_moves.proofs.steps.Goals as goal

pub loop-preserved : goal.loop-preserved
loop-preserved c =
    let walking = c.loop.invariant in
    let made = c.step-meta_header.ensures in
    (next _ _ _ _ walking.0 walking.1 (omega arith) made.value made.bytes_after, c.type_inv.bytes)
