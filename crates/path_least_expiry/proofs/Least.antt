-- The least of several numbers: one more of them, equal ones, the same in opposite order.
-- Assumes nothing.
use Prim.Native.Nat.{ℕ, zero, suc, ◌+◌, ◌-◌, ◌≤◌, min}
use mathlib.Core.Bool.{Bool, true, false, cond}
use mathlib.Core.Path.{◌≡◌, refl, sym, ap, ap₂, ◌∙◌}
use native.Mathlib.Omega.{arith}
use borrow.Author.Tests.{lt-ltb, le-ltb}
use Rattle.std.specs.Prelude.{◌==◌}
use Rattle.std.specs.Ordering.{ord_min, nat_cmp, is_lt}
use Rattle.std.specs.declared.cmp.Ordering.TheVariants.{Equal, Greater}
use Rattle.wire_encoding.proofs.Lists.{by_lt}
use Rattle.path_least_expiry.specs.Expiry.{least}

-- `min` of two numbers is the lesser of them
lesser : (a b : ℕ) → ord_min nat_cmp a b ≡ min a b
lesser a b = by_lt b a (λ h. rw (lt-ltb b a h) (omega arith)) (λ h. rw (le-ltb b a h) (go (b == a) h))
  where
    go : (t : Bool) → a ≤ b → cond (is_lt (cond t Equal Greater)) b a ≡ min a b
    go true h = omega arith
    go false h = omega arith

-- the first number, and one more, as a loop takes them
pub least_one : (f : ℕ → ℕ) → least f 0 ≡ f 0
unfolding least
least_one f = refl

pub least_more : (f : ℕ → ℕ) (k : ℕ) {so_far next : ℕ} → 1 ≤ k → so_far ≡ ord_min nat_cmp (least f (k - 1)) next → next ≡ f k
    → so_far ≡ least f (k + 1 - 1)
unfolding least
least_more f zero h step is = elim h [ ]
least_more f (suc k) h step is =
    let before : suc k - 1 ≡ k = omega arith in
    let after : suc k + 1 - 1 ≡ suc k = omega arith in
    rw after (rw (before, is) at step ∙ lesser (least f k) (f (suc k)))

-- numbers that are equal one by one have the same least
pub least-same : (f g : ℕ → ℕ) (last : ℕ) → ((j : ℕ) → j ≤ last → f j ≡ g j) → least f last ≡ least g last
unfolding least
least-same f g zero e = e 0 (omega arith)
least-same f g (suc last) e = ap₂ min (least-same f g last (λ j h. e j (omega arith))) (e (suc last) (omega arith))

-- it is above none of them
pub least_below : (f : ℕ → ℕ) (last j : ℕ) → j ≤ last → least f last ≤ f j
unfolding least
least_below f zero j h = let e : j ≡ 0 = omega arith in rw e (omega arith)
least_below f (suc last) j h =
    by_lt j (suc last) (λ l. omega (arith, least_below f last j (omega arith)))
    (λ l. let e : j ≡ suc last = omega arith in rw e (omega arith))

-- and what is above none of them is not above it
pub least_above : (f : ℕ → ℕ) (last bound : ℕ) → ((j : ℕ) → bound ≤ f j) → bound ≤ least f last
unfolding least
least_above f zero bound h = h 0
least_above f (suc last) bound h = omega (arith, least_above f last bound h, h (suc last))

-- IN OPPOSITE ORDER

min_assoc : (a b c : ℕ) → min (min a b) c ≡ min a (min b c)
min_assoc a b c = omega arith

min_comm : (a b : ℕ) → min a b ≡ min b a
min_comm a b = omega arith

-- one more number, in front
least_first : (f : ℕ → ℕ) (last : ℕ) → least f (suc last) ≡ min (f 0) (least (λ (j : ℕ). f (suc j)) last)
unfolding least
least_first f zero = refl
least_first f (suc last) =
    ap (λ (x : ℕ). min x (f (suc (suc last)))) (least_first f last)
    ∙ min_assoc (f 0) (least (λ (j : ℕ). f (suc j)) last) (f (suc (suc last)))

-- numbers that are others in opposite order have the same least
pub least_back : (f g : ℕ → ℕ) (last : ℕ) → ((j : ℕ) → j ≤ last → f j ≡ g (last - j)) → least f last ≡ least g last
unfolding least
least_back f g zero e = e 0 (omega arith)
least_back f g (suc last) e =
    let none : suc last - suc last ≡ 0 = omega arith in
    ap₂ min
    (least_back f (λ (j : ℕ). g (suc j)) last
    (λ j h. let up : suc last - j ≡ suc (last - j) = omega arith in e j (omega arith) ∙ ap g up))
    (e (suc last) (omega arith) ∙ ap g none)
    ∙ min_comm (least (λ (j : ℕ). g (suc j)) last) (g 0)
    ∙ sym (least_first g last)
