-- `least_exp_time` meets its contract. The loop's invariant: `least` is the least expiry byte of the hop fields before `last`.
use Prim.Native.Nat.{◌-◌}
use mathlib.Core.Path.{◌≡◌}
use Rattle.path_least_expiry.specs.Expiry as spec
use Rattle.path_least_expiry.proofs.least_exp_time.Given as goal

abbrev pub invariant-loop-last : goal.invariant-loop-last
invariant-loop-last l = l.least ≡ spec.least (spec.exp_time_at l.hop_fields 0) (l.last - 1)
