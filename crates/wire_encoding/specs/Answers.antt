-- What each answer of this crate says: a number, or document 01's number of the refusal.
use Rattle.std.specs.Prelude.{ℕ, List, ⊤, Option, Some, None, Result, Ok, Err}
use Rattle.wire_encoding.specs.declared.write.InadequateBufferSize.{InadequateBufferSize}

-- a number that was read, by its value
abbrev pub number_of : {T : Type 0} → (T → ℕ) → Option T → Result ℕ ℕ
number_of value (Some n) = Ok (value n)
number_of value None = Err 1

-- a run of bytes that was written
abbrev pub put_answer : Result (List ℕ) ℕ → Result ⊤ InadequateBufferSize
put_answer (Ok bytes) = Ok tt
put_answer (Err number) = Err (record {})
