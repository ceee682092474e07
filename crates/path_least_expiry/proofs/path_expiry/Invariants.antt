-- `path_expiry` meets its contract. The loop's invariant: `least` is the least expiry of the segments before `k`.
use Prim.Native.Nat.{◌-◌, ◌≤◌}
use mathlib.Core.Path.{◌≡◌}
use Rattle.path_least_expiry.specs.Expiry as spec
use Rattle.path_least_expiry.proofs.path_expiry.Given as goal

abbrev pub invariant-loop-k : goal.invariant-loop-k
invariant-loop-k l =
    (l.least ≡ spec.least (spec.segment_expiry l.bytes l.meta_header) (l.k - 1)) × (l.least ≤ spec.largest_expiry)
