-- `fills` meets its contract: the size is tested without a sum that may wrap.
use mathlib.Core.Path.{◌≡◌, refl, sym}
use mathlib.Core.Bool.{Bool, true, false}
use Prim.Native.Nat.{ℕ, ◌+◌, ◌-◌, ◌≤◌}
use native.Mathlib.Omega.{arith}
use lib.Dec.{eqb}
use borrow.Author.Tests.{eq-eqb, ne_eqb, eqb-true, eqb-false}
use Rattle.packet_headers.proofs.fills.Goals as goal

-- a test of what is left is a test of the sum
left_over : (size fixed added : ℕ) → fixed ≤ size → eqb (size - fixed) added ≡ eqb size (fixed + added)
left_over size fixed added h = go (eqb (size - fixed) added) refl
  where
    go : (t : Bool) → eqb (size - fixed) added ≡ t → t ≡ eqb size (fixed + added)
    go true e = sym (eq-eqb size (fixed + added) (omega (arith, eqb-true (size - fixed) added e)))
    go false e = sym (ne_eqb size (fixed + added) (λ same. eqb-false (size - fixed) added e (omega arith)))

pub returns-then-size-fixed : goal.returns-then-size-fixed
returns-then-size-fixed c =
    let args = c.args in
    sym (ne_eqb args.size (args.fixed + args.added) (λ same. omega arith))

pub returns : goal.returns
returns c = left_over _ _ _ c.if-size-fixed.false
