-- `walk` meets its contract: what it hands back is told of the steps that were made.
use mathlib.Core.Path.{sym, ◌∙◌}
use Rattle.path_moves.specs.Moves.{is_last}
use Rattle.path_moves.proofs.Walks.{walk_told}
use Rattle.path_moves.proofs.walk.Goals as goal

pub returns-clause-value : goal.returns-clause-value
unfolding is_last
returns-clause-value c =
    let a = c.args in
    let read = sym c.movable.ensures ∙ c.in_ok-read.was in
    let steps = c.steps-walked.ensures in
    rw (c.wide.ensures.0, c.hop_fields_count.ensures.0)
    (sym (walk_told a.path.path_type a.bytes.now read a.limit steps.moves_value steps.bytes_value))
