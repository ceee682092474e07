-- A run of hop fields, 12 bytes each: what a read at either end gives and what it leaves.
use Rattle.std.specs.Prelude.{ℕ, ◌*◌, ◌-◌, ◌/◌, ◌%◌, cond, List, [], length, take, drop, ltb, eqb, Result, Ok}
use Rattle.wire_encoding.specs.Result.{require, ◌>>◌, or_else}
use Rattle.wire_encoding.specs.BigEndian.{part, records}
use Rattle.path_fields.specs.Fields.{hop_field_length, new_hop_field, zero_hop_field}
use Rattle.errors.specs.declared.path_error.PathError.{PathError}
use Rattle.errors.specs.declared.path_error.PathError.TheVariants.{InadequateBufferSize}
use Rattle.path_hop_fields.specs.declared.view.Ends.{Ends}

-- bytes that are a run: 9 where their number is no multiple of 12
unfoldable pub run_of : List ℕ → Result (List ℕ) PathError
run_of bytes = do
  require (eqb (length bytes % hop_field_length) 0) InadequateBufferSize
  Ok bytes

-- nothing where they are refused
unfoldable pub whole : List ℕ → List ℕ
whole bytes = or_else (run_of bytes) []

-- how many hop fields a run has
abbrev pub count : List ℕ → ℕ
count run = length run / hop_field_length

-- a read at the front: the hop field, nothing where none is left; and what is left
unfoldable pub first : List ℕ → List ℕ
first run = cond (ltb (length run) hop_field_length) [] (take hop_field_length run)

abbrev pub after_first : List ℕ → List ℕ
after_first run = drop hop_field_length run

-- a read at the back
unfoldable pub last : List ℕ → List ℕ
last run = cond (ltb (length run) hop_field_length) [] (drop (length run - hop_field_length) run)

abbrev pub before_last : List ℕ → List ℕ
before_last run = take (length run - hop_field_length) run

-- hop field j of a run
abbrev pub hop_field : List ℕ → ℕ → List ℕ
hop_field run j = part (j * hop_field_length) hop_field_length run

-- all hop fields of a run, in order
abbrev pub hop_fields : List ℕ → List (List ℕ)
hop_fields run = records hop_field_length (count run) run

-- a read at the front, a read at the back, and the count that they leave
unfoldable pub ends_of : List ℕ → List ℕ → ℕ → Ends
ends_of front back n = record { first = or_else (new_hop_field front) zero_hop_field; last = or_else (new_hop_field back) zero_hop_field; between = n }

unfoldable pub ends : List ℕ → Ends
ends run = ends_of (first run) (last (after_first run)) (count (before_last (after_first run)))
