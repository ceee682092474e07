-- Single bits of a number; bit 0 is the lowest.
use Rattle.std.specs.Prelude.{ℕ, ◌+◌, ◌-◌, ◌/◌, ◌%◌, ◌^◌, ◌≡◌, Bool, true, false, cond, eqb}

-- whether bit k is set
abbrev pub bit_of : ℕ → ℕ → Bool
bit_of k n = eqb (n / 2 ^ k % 2) 1

-- the number with bit k set or cleared, every other bit kept
unfoldable pub with_bit : ℕ → Bool → ℕ → ℕ
with_bit k true n = cond (bit_of k n) n (n + 2 ^ k)
with_bit k false n = cond (bit_of k n) (n - 2 ^ k) n

-- "other bits stay": bit k is as wanted, and what lies above it and below it is kept
pub record OneBit (k : ℕ) (on : Bool) (n m : ℕ) : Type 0 where
  pub made : bit_of k m ≡ on
  pub above : m / 2 ^ k / 2 ≡ n / 2 ^ k / 2
  pub below : m % 2 ^ k ≡ n % 2 ^ k

abbrev pub OtherBitsStay : Type 0
OtherBitsStay = (k n : ℕ) (on : Bool) → OneBit k on n (with_bit k on n)
