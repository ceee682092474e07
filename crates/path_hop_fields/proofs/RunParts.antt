-- Parts at the ends of a run.
-- Assumes nothing.
use Prim.Native.Nat.{ℕ, ◌-◌, ◌≤◌, ◌<◌}
use mathlib.Core.Path.{◌≡◌, sym, ap, subst}
use mathlib.Core.List.{List, []}
use native.Mathlib.Nat.{le_refl}
use native.Mathlib.Omega.{arith}
use lib.ListN.{length, take, drop, length-drop, drop_of_length-le}
use lib.Seq.{take_all}
use Rattle.path_hop_fields.specs.Run.{after_first, before_last}

-- a part that goes to the end of the list is what is left after dropping
pub to_the_end : (n : ℕ) (run : List ℕ) → take (length run - n) (drop n run) ≡ drop n run
to_the_end n run = take_all (length run - n) (drop n run) (subst (λ (k : ℕ). k ≤ length run - n) (sym (length-drop n run)) (le_refl _))

-- a run of less than a hop field leaves nothing
pub nothing_after : (run : List ℕ) → length run < 12 → [] ≡ after_first run
nothing_after run short = sym (drop_of_length-le run {i = 12} (omega arith))

pub nothing_before : (run : List ℕ) → length run < 12 → [] ≡ before_last run
nothing_before run short =
    let none : 0 ≡ length run - 12 = omega arith in
    ap (λ (n : ℕ). take n run) none
