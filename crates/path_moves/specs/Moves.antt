-- Moves (the draft's processing at routers, seen from hop field to hop field): a single move, a walk, what they hand back, and what
-- hop field i meets by the path alone. Move, walk, owner and spared are document 01's words.
use Rattle.std.specs.Prelude.{ℕ, zero, suc, ◌+◌, ◌-◌, ◌*◌, ◌<◌, min, ◌≡◌, Bool, true, not, ◌&&◌, cond, List, length, get_or, set, eqb, Result, Ok}
use Rattle.std.proofs.lemmas.List.Edits.{sets}
use Rattle.std.specs.Int.Bits.{bit_xor}
use Rattle.wire_encoding.specs.Result.{require, ◌>>◌, ◌>>=◌, mapped, or_else}
use Rattle.wire_encoding.specs.BigEndian.{big_endian, bytes_of}
use Rattle.path_fields.specs.declared.InfoField.{InfoField}
use Rattle.path_meta_header.specs.MetaHeader.{segment_length, hop_fields_count, segment_of, first_hop_field, info_start, hop_start}
use Rattle.path_meta_header.specs.declared.PathMetaHeader.{PathMetaHeader}
use Rattle.errors.specs.declared.path_error.PathError.{PathError}
use Rattle.errors.specs.declared.path_error.PathError.TheVariants.{AtLastHopField}
use Rattle.path.specs.Standard.{info_at}
use Rattle.path.specs.Dataplane.{meta_header_of, path_left, KeepsExpiry}
use Rattle.path_moves.specs.Rules.{owner_of, spared, movable}
use Rattle.path_moves.specs.declared.Position.{Position}
use Rattle.path_moves.specs.declared.Moved.{Moved}
use Rattle.path_moves.specs.declared.WalkAnswer.{WalkAnswer}

-- ONE MOVE

-- the first two bytes of hop field j's code
abbrev pub code_of : List ℕ → PathMetaHeader → ℕ → ℕ
code_of bytes m j = big_endian 2 bytes (hop_start m j + 6)

-- whether a move from hop field h takes its owner's code in: it stays in segment k, and the owner is not spared
unfoldable pub takes_in : List ℕ → PathMetaHeader → ℕ → ℕ → Bool
takes_in bytes m k h =
    let info = info_at bytes k in
    eqb (segment_of m (h + 1)) k && not (spared info (owner_of info h) (segment_length m 0))

-- the bytes after one move of a path that was read under m: the hop pointer gains 1, and the info pointer names its segment; where a code is
-- taken in, accumulator k is XORed with it; all else stays
unfoldable pub move_bytes : List ℕ → PathMetaHeader → List ℕ
move_bytes bytes m =
    let k = m.current_info_field in
    let h = m.current_hop_field in
    let accumulator = info_start k + 2 in
    let code = code_of bytes m (owner_of (info_at bytes k) h) in
    let pointed = set bytes 0 (segment_of m (h + 1) * 64 + (h + 1)) in
    cond (takes_in bytes m k h) (sets pointed accumulator (bytes_of 2 (bit_xor (big_endian 2 bytes accumulator) code))) pointed

-- THE CALLS

-- hop field h is the last one, N − 1
unfoldable pub is_last : PathMetaHeader → ℕ → Bool
is_last m h = eqb (h + 1) (hop_fields_count m)

-- a single move: the bytes that it leaves; 15 at the last hop field
unfoldable pub move : ℕ → List ℕ → Result (List ℕ) PathError
move type bytes = do
  m ← movable type bytes
  require (not (is_last m m.current_hop_field)) AtLastHopField
  Ok (move_bytes bytes m)

-- a refusal changes nothing
unfoldable pub moved : ℕ → List ℕ → List ℕ
moved type bytes = or_else (move type bytes) bytes

-- f applied n times
abbrev pub iterate : {A : Type 0} → ℕ → (A → A) → A → A
iterate zero f x = x
iterate (suc n) f x = f (iterate n f x)

-- a walk with a limit: moves until the last hop field or the limit
unfoldable pub walk_moves : PathMetaHeader → ℕ → ℕ
walk_moves m limit = min limit (hop_fields_count m - 1 - m.current_hop_field)

-- the bytes of that many single moves, their number, and whether the path then stands at N − 1
pub record Way : Type 0 where
  pub bytes : List ℕ
  pub moves : ℕ
  pub arrived : Bool

unfoldable pub walk : ℕ → List ℕ → ℕ → Result Way PathError
walk type bytes limit = do
  m ← movable type bytes
  let n = walk_moves m limit
  Ok (record { bytes = iterate n (moved type) bytes; moves = n; arrived = is_last m (m.current_hop_field + n) })

-- the bytes that a walk leaves; a refusal changes nothing
unfoldable pub walked : ℕ → List ℕ → ℕ → List ℕ
walked type bytes limit = or_else (mapped (λ (w : Way). w.bytes) (walk type bytes limit)) bytes

-- how many moves a walk makes
unfoldable pub walk_count : ℕ → List ℕ → ℕ → ℕ
walk_count type bytes limit = or_else (mapped (λ (w : Way). w.moves) (walk type bytes limit)) 0

-- what is handed back of it, beside the record of the path that it leaves
unfoldable pub walk_answer : ℕ → Result Way PathError → Result WalkAnswer PathError
walk_answer type r = mapped (λ (w : Way). record { path = path_left type w.bytes; moves = w.moves; arrived = w.arrived }) r

-- WHAT HOP FIELD i MEETS BY THE PATH ALONE

-- the info field of hop field j's segment
unfoldable pub info_of : List ℕ → ℕ → InfoField
info_of bytes j = info_at bytes (segment_of (meta_header_of bytes) j)

-- segment k's accumulator in B, "XOR the first two code bytes of the owner of each move inside that segment", n moves from its first
-- hop field, "save owners spared for peering"
unfoldable pub accumulator_after : List ℕ → ℕ → ℕ → ℕ
accumulator_after b k zero = (info_at b k).accumulator
accumulator_after b k (suc n) =
    let m = meta_header_of b in
    let info = info_at b k in
    let owner = owner_of info (first_hop_field m k + n) in
    cond (spared info owner (segment_length m 0)) (accumulator_after b k n) (bit_xor (accumulator_after b k n) (code_of b m owner))

-- "Hop field i of B has its accumulator by B alone … from its first hop field to i"
unfoldable pub accumulator_by : List ℕ → ℕ → ℕ
accumulator_by b i =
    let k = segment_of (meta_header_of b) i in
    accumulator_after b k (i - first_hop_field (meta_header_of b) k)

-- THEOREMS (stated here, proved in proofs/)

-- "all else stays": a move leaves every byte but the first and, where a code is taken in, the two of its segment's accumulator
abbrev pub AllElseStays : Type 0
AllElseStays =
    (type : ℕ) (bytes after : List ℕ) (m : PathMetaHeader) → movable type bytes ≡ Ok m → move type bytes ≡ Ok after
    → (length after ≡ length bytes)
    × ((j : ℕ) → (j ≡ 0 → ⊥)
    → (takes_in bytes m m.current_info_field m.current_hop_field ≡ true
    → (j ≡ info_start m.current_info_field + 2 → ⊥) × (j ≡ info_start m.current_info_field + 3 → ⊥))
    → get_or after j 0 ≡ get_or bytes j 0)

-- the record of the path that a move leaves fits it, and has the expiry of the path that was read; and so after a walk
abbrev pub MovesKeepExpiry : Type 0
MovesKeepExpiry =
    (bytes : List ℕ) → ((i : ℕ) → get_or bytes i 0 < 256)
    → KeepsExpiry bytes (move 1 bytes) × ((limit : ℕ) → KeepsExpiry bytes (mapped (λ (w : Way). w.bytes) (walk 1 bytes limit)))

-- a walk of a + b moves is a walk of a and then one of b: it leaves the same bytes
abbrev pub WalksAdd : Type 0
WalksAdd =
    (bytes : List ℕ) → ((i : ℕ) → get_or bytes i 0 < 256) → (type a b : ℕ) → walked type bytes (a + b) ≡ walked type (walked type bytes a) b

-- and makes as many moves
abbrev pub CountsAdd : Type 0
CountsAdd =
    (bytes : List ℕ) → ((i : ℕ) → get_or bytes i 0 < 256) → (type a b : ℕ)
    → walk_count type bytes (a + b) ≡ walk_count type bytes a + walk_count type (walked type bytes a) b

-- WHAT THE STEPS INSIDE A CALL HAND ON: a change for every move, 0 where no code is taken in

-- what a move from hop field h changes the accumulator of segment k by: the owner's code where it is taken in
unfoldable pub change_of : List ℕ → PathMetaHeader → ℕ → ℕ → ℕ
change_of bytes m k h = cond (takes_in bytes m k h) (code_of bytes m (owner_of (info_at bytes k) h)) 0

-- the pointers
unfoldable pub position_of : PathMetaHeader → Position
position_of m = record { current_info_field = m.current_info_field; current_hop_field = m.current_hop_field }

-- the move from a position: the hop pointer gains 1, the info pointer names the new segment
unfoldable pub move_from : List ℕ → PathMetaHeader → Position → Moved
move_from bytes m p =
    let k = p.current_info_field in
    let h = p.current_hop_field in
    record {
      position = record { current_info_field = segment_of m (h + 1); current_hop_field = h + 1 };
      change = change_of bytes m k h;
    }

-- a header with its pointers at a position
unfoldable pub at_position : PathMetaHeader → Position → PathMetaHeader
at_position m p =
    record {
      current_info_field = p.current_info_field;
      current_hop_field = p.current_hop_field;
      reserved = m.reserved;
      segment_lengths = m.segment_lengths;
    }

-- the bytes after a move out of segment k: the pointers, and accumulator k, XOR the change; all else stays
unfoldable pub applied : List ℕ → ℕ → Moved → List ℕ
applied bytes k move =
    sets (set bytes 0 (move.position.current_info_field * 64 + move.position.current_hop_field)) (info_start k + 2)
    (bytes_of 2 (bit_xor (big_endian 2 bytes (info_start k + 2)) move.change))

-- the header after one move of a path that was read under m
unfoldable pub moved_meta : List ℕ → PathMetaHeader → PathMetaHeader
moved_meta bytes m = at_position m (move_from bytes m (position_of m)).position

-- WHAT THE STEPS INSIDE A CALL ASK

-- a path that can be moved stands in the bytes under this header, and is not at its last hop field
pub record CanMove (bytes : List ℕ) (m : PathMetaHeader) : Type 0 where
  pub able : movable 1 bytes ≡ Ok m
  pub before_last : m.current_hop_field + 1 < hop_fields_count m
