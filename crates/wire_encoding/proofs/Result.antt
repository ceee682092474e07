-- What a result that is a value says of each test and of each step before it. At a use the test, or the step, is written; the rest is `_`.
-- Assumes nothing.
use Prim.Native.Nat.{ℕ}
use mathlib.Core.Path.{◌≡◌, refl, sym}
use mathlib.Core.Bool.{Bool, true, false}
use native.Mathlib.Omega.{arith}
use Rattle.std.specs.Prelude.{Result, Ok, Err, is_ok}
use Rattle.wire_encoding.specs.Result.{require, and_then, mapped, or_else, refusing, done}

module _ {E A : Type 0} where
  -- no result is both
  pub not_both : {a : A} {error : E} → ◌≡◌ {A = Result A E} (Err error) (Ok a) → ⊥
  not_both h = let z : ◌≡◌ {A = ℕ} 0 1 = cc in omega arith

  pub same_value : {a b : A} → ◌≡◌ {A = Result A E} (Ok a) (Ok b) → a ≡ b
  same_value h = cc

  -- a test held, and so do those after it
  pub held : (test : Bool) (error : E) (rest : Result A E) {a : A} → require test error rest ≡ Ok a → (test ≡ true) × (rest ≡ Ok a)
  held true error rest h = (refl, h)
  held false error rest h = absurd (not_both h)

  -- a last test that is refused does not hold
  pub unmet : (test : Bool) (error : E) (a : A) {refusal : E} → require test error (Ok a) ≡ Err refusal → test ≡ false
  unmet true error a h = absurd (not_both (sym h))
  unmet false error a h = refl

  -- what holds of each value that a result can have, and of what stands for it, holds of what is handed on
  pub either : (P : A → Type 0) (r : Result A E) (other : A) → P other → ((a : A) → r ≡ Ok a → P a) → P (or_else r other)
  either P (Ok a) other refusal value = value a refl
  either P (Err error) other refusal value = refusal

module _ {E A B : Type 0} where
  -- a step's value, and what followed it
  pub record Stepped (r : Result A E) (next : A → Result B E) (b : B) : Type 0 where
    pub value : A
    pub first : r ≡ Ok value
    pub then : next value ≡ Ok b

  pub stepped : (r : Result A E) (next : A → Result B E) {b : B} → and_then r next ≡ Ok b → Stepped r next b
  stepped (Ok a) next h = record { value = a; first = refl; then = h }
  stepped (Err error) next h = absurd (not_both h)

module _ {E F A : Type 0} (among : E → F) where
  -- what was accepted was accepted below
  pub refusing_ok : (r : Result A E) {a : A} → refusing among r ≡ Ok a → r ≡ Ok a
  refusing_ok (Ok a) h = rw (same_value h)
  refusing_ok (Err error) h = absurd (not_both h)

-- a value put to a use was there
pub mapped_ok : {E A B : Type 0} (f : A → B) (r : Result A E) {b : B} → mapped f r ≡ Ok b → Stepped r (λ a. Ok (f a)) b
mapped_ok f (Ok a) h = record { value = a; first = refl; then = h }
mapped_ok f (Err error) h = absurd (not_both h)

pub mapped_refused : {E A B : Type 0} (f : A → B) (r : Result A E) {error : E} → mapped f r ≡ Err error → r ≡ Err error
mapped_refused f (Ok a) h = absurd (not_both (sym h))
mapped_refused f (Err e) h = cc

module _ {E A B C D : Type 0} (step : A → Result B E) (f : A → B → C) (g : A → B → D) where
  -- two chains of the same two steps are refused alike, whatever they make of the values
  pub refused_alike : (r : Result A E) {error : E} → and_then r (λ a. and_then (step a) (λ b. Ok (f a b))) ≡ Err error
      → and_then r (λ a. and_then (step a) (λ b. Ok (g a b))) ≡ Err error
  refused_alike (Ok a) h = go (step a) h
    where
      go : (s : Result B E) {error : E} → and_then s (λ b. Ok (f a b)) ≡ Err error → and_then s (λ b. Ok (g a b)) ≡ Err error
      go (Ok b) h = absurd (not_both (sym h))
      go (Err e) h = cc
  refused_alike (Err e) h = cc

module _ {E A : Type 0} where
  -- where there is a value, the result is that value
  pub was_ok : (r : Result A E) (other : A) → is_ok r ≡ true → r ≡ Ok (or_else r other)
  was_ok (Ok a) other h = refl
  was_ok (Err error) other h = let z : ◌≡◌ {A = ℕ} 0 1 = cc in absurd (omega arith)

  -- the two ends of a call that writes: what it answers, and what the lent bytes then hold
  pub written_done : (r : Result A E) (old : A) {new after : A} → r ≡ Ok new → after ≡ new → (Ok tt ≡ done r) × (after ≡ or_else r old)
  unfolding done
  written_done r old h e = rw h (refl, e)
