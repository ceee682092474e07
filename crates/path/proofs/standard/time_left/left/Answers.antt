-- `left` meets its contract: both numbers are far below 2 ^ 63, so as signed numbers they are what they were, and their difference fits.
use borrow.Author.Tests.{le-ltb}
use Prim.Native.Nat.{ℕ, zero, suc, ◌+◌, ◌-◌, ◌^◌, ◌<◌}
use mathlib.Core.Bool.{Bool, true, false, cond}
use mathlib.Core.Path.{◌≡◌, refl, ap, ap₂, ◌∙◌}
use native.Mathlib.Omega.{arith}
use lib.Dec.{ltb}
use lib.IntN.{pos, negsuc, sub_ℕ, ◌-ℤ◌}
use lib.Signed.{mag}
use mir.Syntax.{w64}
use mir.Val.{to_z, SFits}
use mir.Facts.{to_z_pos, to_z-of_z}
use Rattle.path.proofs.standard.time_left.left.Goals as goal

-- one natural number less another, as integers
minus : (a b : ℕ) → pos a -ℤ pos b ≡ sub_ℕ a b
minus a zero = let e : a + 0 ≡ a - 0 = omega arith in rw (le-ltb a 0 (omega arith)) (ap pos e)
minus a (suc b) = refl

-- it is no larger than they are
minus-small : (a b : ℕ) → a < 2 ^ 63 → b < 2 ^ 63 → mag (sub_ℕ a b) < 2 ^ 63
minus-small a b g h = go (ltb a b)
  where
    go : (t : Bool) → mag (cond t (negsuc (b - suc a)) (pos (a - b))) < 2 ^ 63
    go true = omega arith
    go false = omega arith

difference : (a b : ℕ) → a < 2 ^ 63 → b < 2 ^ 63 → to_z w64 a -ℤ to_z w64 b ≡ sub_ℕ a b
difference a b g h = ap₂ ◌-ℤ◌ (to_z_pos w64 {n = a} g) (to_z_pos w64 {n = b} h) ∙ minus a b

-- so the difference fits
fits : (a b : ℕ) → a < 2 ^ 63 → b < 2 ^ 63 → SFits w64 (to_z w64 a -ℤ to_z w64 b)
fits a b g h = record { sfits = rw (difference a b g h) (minus-small a b g h) }

pub overflow_sub-result : goal.overflow_sub-result
overflow_sub-result c = fits c.args.expiry c.args.at (omega arith) (omega arith)

pub returns : goal.returns
returns c =
    let a = c.args.expiry in
    let b = c.args.at in
    to_z-of_z (fits a b (omega arith) (omega arith)) ∙ difference a b (omega arith) (omega arith)
