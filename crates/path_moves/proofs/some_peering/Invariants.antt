-- `some_peering` meets its contract: none of the info fields before the k-th has peering, and the first that has it decides.
use mathlib.Core.Path.{◌≡◌}
use mathlib.Core.Bool.{false}
use Rattle.path_moves.specs.Rules.{some_peering}
use Rattle.path_moves.proofs.some_peering.Given as goal

abbrev pub invariant-loop-k : goal.invariant-loop-k
invariant-loop-k l = some_peering l.bytes l.k ≡ false
