-- The loop's invariant: the fields that are left, written to `dst` as it is now, give what is wanted.
use Rattle.path_reverse.proofs.Reverse.{Left}
use Rattle.path_reverse.proofs.reverse_fields.Given as goal

abbrev pub invariant-loop-left : goal.invariant-loop-left
invariant-loop-left g l =
    Left g.F.ReversedField.reversed g.F.ReversedField.LENGTH l.src l.from l.initial.dst l.to l.count l.dst l.next l.left
