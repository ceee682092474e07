-- Numbers of a given count of bits.
use Rattle.std.specs.Prelude.{ℕ, ◌^◌, ltb, Option, Some, None, Result, Ok, Err}
use Rattle.wire_encoding.specs.Result.{require, ◌>>◌}
use Rattle.wire_encoding.specs.declared.bounded.Bounded.{Bounded}

-- a value of at most `bits` bits, or 10 for a wider one
unfoldable pub bounded : ℕ → ℕ → Result ℕ ℕ
bounded bits n = do
  require (ltb n (2 ^ bits)) 10
  Ok n

-- what the answer of each type says
abbrev pub bounded_of : {T : Type 0} {width : ℕ} → (T → ℕ) → Option (Bounded T width) → Result ℕ ℕ
bounded_of value (Some n) = Ok (value n.0)
bounded_of value None = Err 10
