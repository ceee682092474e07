-- Bounded numbers, one law over the bits for each of the two answers.
-- Assumes nothing.
use mathlib.Core.Path.{◌≡◌, sym}
use mathlib.Core.Bool.{true, false}
use Prim.Native.Nat.{ℕ, ◌+◌, ◌-◌, ◌^◌, ◌<◌, ◌≤◌}
use native.Mathlib.Nat.{pow-le-pow_right}
use lib.Pow.{pow-add}
use native.Mathlib.Omega.{arith}
use lib.Count.{count_leading_zeros}
use lib.Dec.{lit<, ltb}
use Rattle.std.proofs.lemmas.Nat.{leading_length}
use borrow.Author.Tests.{lt-ltb, le-ltb}
use Rattle.std.specs.Prelude.{Ok, Err}
use Rattle.wire_encoding.proofs.Result.{held, unmet}
use Rattle.wire_encoding.specs.Bounded.{bounded}

pub fits : (bits n : ℕ) → n < 2 ^ bits → Ok n ≡ bounded bits n
unfolding bounded
fits bits n h = simp (lt-ltb _ _ h)

pub too_wide : (bits n : ℕ) → 2 ^ bits ≤ n → Err 10 ≡ bounded bits n
unfolding bounded
too_wide bits n h = simp (le-ltb _ _ h)

-- a number of 64 bits fits when the bits that it has, below its leading zeros, are no more
module _ (bits n : ℕ) (range : n < 2 ^ 64) where
  pub narrow : 64 - count_leading_zeros 64 n ≤ bits → bounded bits n ≡ Ok n
  narrow h =
      let (m, all, below, _) = leading_length 64 n range in
      let few : m ≤ bits = omega arith in
      sym (fits bits n (omega (arith, below, pow-le-pow_right {n = 2} (lit< tt) few)))

  pub wide : bits < 64 - count_leading_zeros 64 n → bounded bits n ≡ Err 10
  wide h =
      let (m, all, _, above) = leading_length 64 n range in
      let many : bits + 1 ≤ m = omega arith in
      sym (too_wide bits n (omega (arith, above, pow-add 2 bits 1, pow-le-pow_right {n = 2} (lit< tt) many)))

-- what the answers to a value need
pub ruleset widths = (narrow, wide)

-- what an answer says of the number
pub was_value : (bits n : ℕ) {v : ℕ} → Ok v ≡ bounded bits n → true ≡ ltb n (2 ^ bits)
unfolding bounded
was_value bits n e = sym (held (ltb n (2 ^ bits)) 10 _ (sym e)).0

pub was_wide : (bits n : ℕ) → Err 10 ≡ bounded bits n → false ≡ ltb n (2 ^ bits)
unfolding bounded
was_wide bits n e = sym (unmet (ltb n (2 ^ bits)) 10 n (sym e))
