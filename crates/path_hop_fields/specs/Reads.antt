-- Reads of a run at either end, in any order, and what document 01 asks of them.
use Rattle.std.specs.Prelude.{ℕ, ◌+◌, ◌*◌, ◌-◌, ◌≤◌, ◌<◌, ◌%◌, ◌≡◌, List, [], ◌∷◌, ◌++◌, length}
use Rattle.wire_encoding.specs.BigEndian.{part}
use Rattle.path_fields.specs.Fields.{hop_field_length}
use Rattle.path_hop_fields.specs.Run.{count, first, after_first, last, before_last, hop_field, hop_fields}

-- where a read is made: `next` at the front, `next_back` at the back
pub data ReadEnd : Type 0 where
  front : ReadEnd
  back : ReadEnd

-- what one read gives, and what it leaves
unfoldable pub given : ReadEnd → List ℕ → List ℕ
given front run = first run
given back run = last run

unfoldable pub left : ReadEnd → List ℕ → List ℕ
left front run = after_first run
left back run = before_last run

-- what a list of reads leaves
unfoldable pub left_by : List ReadEnd → List ℕ → List ℕ
left_by [] run = run
left_by (end ∷ reads) run = left_by reads (left end run)

-- how many of a list of reads are made at an end
unfoldable pub is_at : ReadEnd → ReadEnd → ℕ
is_at front front = 1
is_at front back = 0
is_at back front = 0
is_at back back = 1

unfoldable pub made_at : ReadEnd → List ReadEnd → ℕ
made_at end [] = 0
made_at end (e ∷ reads) = is_at end e + made_at end reads

-- what a list of reads gives at the front, in the order of reading
unfoldable pub from_front : List ReadEnd → List ℕ → List (List ℕ)
from_front [] run = []
from_front (front ∷ reads) run = first run ∷ from_front reads (after_first run)
from_front (back ∷ reads) run = from_front reads (before_last run)

-- and at the back, the last read first
unfoldable pub from_back : List ReadEnd → List ℕ → List (List ℕ)
from_back [] run = []
from_back (front ∷ reads) run = from_back reads (after_first run)
from_back (back ∷ reads) run = from_back reads (before_last run) ++ (last run ∷ [])

-- THE CLAIM, of a run and of reads in any order that are no more than it has hop fields

pub record Read (run : List ℕ) (reads : List ReadEnd) : Type 0 where
  -- what is left lies between the hop fields read at the front and those read at the back
  pub between : left_by reads run ≡ part (made_at front reads * hop_field_length) ((count run - length reads) * hop_field_length) run
  -- "tells how many remain"
  pub remain : count (left_by reads run) ≡ count run - length reads
  -- each hop field is given once or left: those of the front in order, those of the back in reverse
  pub each : from_front reads run ++ (hop_fields (left_by reads run) ++ from_back reads run) ≡ hop_fields run
  -- a further read gives the first of those that remain, or the last
  pub next : length reads < count run → first (left_by reads run) ≡ hop_field run (made_at front reads)
  pub next_back : length reads < count run → last (left_by reads run) ≡ hop_field run (count run - 1 - made_at back reads)
  -- once none remains, nothing is given at either end, again and again
  pub nothing : length reads ≡ count run → (more : List ReadEnd) → (end : ReadEnd) → given end (left_by more (left_by reads run)) ≡ []

unfoldable pub FromEitherEnd : Type 0
FromEitherEnd = (run : List ℕ) → length run % hop_field_length ≡ 0 → (reads : List ReadEnd) → length reads ≤ count run → Read run reads
