-- A result: a value, or why there is none. What is read and what a call does is a chain of tests and steps; the first refusal is the result.
use Rattle.std.specs.Prelude.{Bool, true, false, ⊤, Result, Ok, Err}
use Rattle.std.specs.Result.{result_unwrap_or}

-- refused with the error unless the test holds
abbrev pub require : {E A : Type 0} → Bool → E → Result A E → Result A E
require true error rest = rest
require false error rest = Err error

-- the next step; a refusal stays
abbrev pub and_then : {E A B : Type 0} → Result A E → (A → Result B E) → Result B E
and_then (Ok a) next = next a
and_then (Err error) next = Err error

-- a chain is written as a `do` block, one test or one step a line: `require test error`, `a ← step`
abbrev pub ◌>>◌ : {E A : Type 0} → (Result A E → Result A E) → Result A E → Result A E
◌>>◌ test rest = test rest

abbrev pub ◌>>=◌ : {E A B : Type 0} → Result A E → (A → Result B E) → Result B E
◌>>=◌ step next = and_then step next

-- the value put to a use; a refusal stays
abbrev pub mapped : {E A B : Type 0} → (A → B) → Result A E → Result B E
mapped f (Ok a) = Ok (f a)
mapped f (Err error) = Err error

-- the value, or what stands for it on a refusal
abbrev pub or_else : {E A : Type 0} → Result A E → A → A
or_else r other = result_unwrap_or r other

-- the refusals of a call below among this one's
abbrev pub refusing : {E F A : Type 0} → (E → F) → Result A E → Result A F
refusing among (Ok a) = Ok a
refusing among (Err error) = Err (among error)

-- whether there is a value, and else why not
unfoldable pub done : {E A : Type 0} → Result A E → Result ⊤ E
done r = mapped (λ _. tt) r
