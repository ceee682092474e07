-- Worked examples, computed: runs of one, two and three hop fields read until nothing is left, bytes that are no run.
-- Assumes nothing.
use Prim.Native.Nat.{ℕ}
use mathlib.Core.Path.{◌≡◌, refl}
use mathlib.Core.List.{List, [], ◌∷◌, ◌++◌}
use Rattle.errors.specs.Errors.{answer_number}
use Rattle.wire_encoding.specs.BigEndian.{records}
use Rattle.path_fields.specs.Fields.{hop_field_at, zero_hop_field, new_hop_field}
use Rattle.path_hop_fields.specs.Run as run
use Rattle.path_hop_fields.specs.Reads.{front, back, given, left, left_by}

-- three hop fields
abbrev pub a : List ℕ
a = 0x00 ∷ 0x3F ∷ 0x00 ∷ 0x00 ∷ 0x00 ∷ 0x05 ∷ 0xA0 ∷ 0xA1 ∷ 0xA2 ∷ 0xA3 ∷ 0xA4 ∷ 0xA5 ∷ []

abbrev pub b : List ℕ
b = 0x01 ∷ 0x40 ∷ 0x00 ∷ 0x07 ∷ 0x00 ∷ 0x08 ∷ 0xB0 ∷ 0xB1 ∷ 0xB2 ∷ 0xB3 ∷ 0xB4 ∷ 0xB5 ∷ []

abbrev pub c : List ℕ
c = 0x02 ∷ 0x41 ∷ 0x00 ∷ 0x09 ∷ 0x00 ∷ 0x00 ∷ 0xC0 ∷ 0xC1 ∷ 0xC2 ∷ 0xC3 ∷ 0xC4 ∷ 0xC5 ∷ []

pub three_read : (given front (a ++ (b ++ c)) ≡ a)
    × ((given back (left_by (front ∷ []) (a ++ (b ++ c))) ≡ c)
    × ((run.count (left_by (front ∷ back ∷ []) (a ++ (b ++ c))) ≡ 1)
    × ((given front (left_by (front ∷ back ∷ []) (a ++ (b ++ c))) ≡ b)
    × ((run.count (left_by (front ∷ back ∷ front ∷ []) (a ++ (b ++ c))) ≡ 0)
    × (given back (left_by (front ∷ back ∷ front ∷ []) (a ++ (b ++ c))) ≡ [])))))
unfolding run.first run.last given left left_by
three_read = (refl, (refl, (refl, (refl, (refl, refl)))))

pub two_read : (run.hop_fields (a ++ b) ≡ a ∷ b ∷ [])
    × ((given back (a ++ b) ≡ b) × ((left_by (back ∷ []) (a ++ b) ≡ a) × (given front (left_by (back ∷ back ∷ []) (a ++ b)) ≡ [])))
unfolding run.first run.last records given left left_by
two_read = (refl, (refl, (refl, refl)))

-- the one hop field is taken at the front; none is left at the back
pub one_read : run.ends a ≡ record { first = hop_field_at a 0; last = zero_hop_field; between = 0 }
unfolding run.first run.last run.ends_of run.ends new_hop_field
one_read = refl

pub thirteen_bytes : (answer_number (run.run_of (0xFF ∷ a)) ≡ 9)
    × ((run.whole (0xFF ∷ a) ≡ []) × (answer_number (run.run_of a) ≡ 0))
unfolding run.run_of run.whole
thirteen_bytes = (refl, (refl, refl))
