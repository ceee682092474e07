-- A move writes one byte of the header and at most two of an accumulator, so it leaves a path that can be moved, and all else stays.
-- Assumes nothing.
use Prim.Native.Nat.{ℕ, zero, suc, ◌+◌, ◌*◌, ◌/◌, ◌%◌, ◌^◌, ◌≤◌, ◌<◌}
use mathlib.Core.Path.{◌≡◌, refl, sym, ap, ◌∙◌}
use mathlib.Core.Bool.{Bool, true, false, not, cond}
use mathlib.Core.List.{List, ◌++◌}
use native.Mathlib.Nat.{add-zero, add-suc}
use native.Mathlib.Omega.{arith}
use lib.Bits.{bit_xor, xor_zero_r}
use lib.ListN.{length, take, drop, get_or, set, length-set}
use lib.Seq.{sets, drop-set-lt, length-sets, get_or-set_same, get_or-set_other}
use borrow.Author.Tests.{eq-eqb, ne_eqb}
use Rattle.std.specs.Prelude.{Ok, Err}
use Rattle.wire_encoding.proofs.Result.{held, stepped, same_value}
use borrow.Rule.Slice.PartMut.{put_mid}
use Rattle.wire_encoding.specs.Result.{or_else}
use Rattle.wire_encoding.specs.BigEndian.{big_endian, bytes_of, number_at, part, placed}
use Rattle.wire_encoding.proofs.Lists.{Bytes, sets_same}
use Rattle.wire_encoding.proofs.BigEndian.{length_bytes_of, bytes_read, or_zero_is}
use Rattle.wire_encoding.proofs.Writes.{lent_written}
use Rattle.path_fields.specs.Fields.{info_field_at}
use Rattle.path_meta_header.specs.MetaHeader as meta
use Rattle.path_meta_header.specs.declared.PathMetaHeader.{PathMetaHeader}
use Rattle.path.specs.Standard.{info_at, both_peering, peering_path}
use Rattle.path_least_expiry.specs.Expiry.{path_expiry}
use Rattle.path_least_expiry.proofs.Kept.{expiry_same, expiry_lengths}
use Rattle.errors.specs.declared.path_error.PathError.{PathError}
use Rattle.errors.specs.declared.path_error.PathError.TheVariants.{AtLastHopField}
use Rattle.path.specs.declared.standard.StandardPath.{StandardPath}
use Rattle.path.specs.Dataplane.{path_of, path_answer}
use Rattle.path.proofs.Reading.{path_of_lem}
use Rattle.path.proofs.Kept.{path_kept}
use Rattle.path_meta_header.proofs.MetaHeader.{Sound, counted, segment_below}
use Rattle.path_moves.proofs.Rules.{Known, known, hop_inside, movable_refused, movable_ok, goes_on, movable_one}
use Rattle.path_moves.specs.declared.Position.{Position}
use Rattle.path_moves.specs.declared.Moved.{Moved}
use Rattle.path_moves.specs.Moves as spec
use Rattle.path_moves.specs.Rules as rules

-- THE WORD OF A HEADER

-- a word whose first byte is replaced: its first two fields are that byte's, and the others stay
first_fields : (info hop low : ℕ) → info < 4 → hop < 64 → low < 2 ^ 24
    → (meta.nth_field ((info * 64 + hop) * 2 ^ 24 + low) 0 ≡ info) × (meta.nth_field ((info * 64 + hop) * 2 ^ 24 + low) 1 ≡ hop)
unfolding meta.nth_field
first_fields info hop low i h l = (omega arith, omega arith)

abbrev Stays : ℕ → ℕ → ℕ → ℕ → Type 0
Stays v b low n = meta.nth_field (v * 2 ^ 24 + low) n ≡ meta.nth_field (b * 2 ^ 24 + low) n

other_fields : (v b low : ℕ) → Stays v b low 2 × Stays v b low 3 × Stays v b low 4 × Stays v b low 5
unfolding meta.nth_field
other_fields v b low = (omega arith, omega arith, omega arith, omega arith)

-- the three bytes after the first
abbrev low_of : List ℕ → ℕ
low_of bytes = (get_or bytes 1 0 * 256 + get_or bytes 2 0) * 256 + get_or bytes 3 0

first_byte : (bytes : List ℕ) → big_endian 4 bytes 0 ≡ get_or bytes 0 0 * 2 ^ 24 + low_of bytes
unfolding big_endian
first_byte bytes = omega arith

low_below : (bytes : List ℕ) → Bytes bytes → low_of bytes < 2 ^ 24
low_below bytes b = omega (arith, b 1, b 2, b 3)

-- the byte of two pointers
abbrev pointers : Position → ℕ
pointers p = p.current_info_field * 64 + p.current_hop_field

-- a header whose pointers were replaced is spelt by the word whose first byte was
spelt : (w low : ℕ) (m : PathMetaHeader) (p : Position) → p.current_info_field < 4 → p.current_hop_field < 64 → low < 2 ^ 24
    → m ≡ meta.meta_of (w * 2 ^ 24 + low) → spec.at_position m p ≡ meta.meta_of (pointers p * 2 ^ 24 + low)
unfolding meta.meta_of spec.at_position
spelt w low m p i h l r =
    let two = first_fields p.current_info_field p.current_hop_field low i h l in
    let rest = other_fields (pointers p) w low in
    rw (r, two.0, two.1, rest.0, rest.1, rest.2, rest.3)

-- A MOVE'S WRITES: the pointers' byte and, where a code is taken in, the two bytes of an accumulator

module _ (bytes : List ℕ) (m : PathMetaHeader) where
  abbrev k : ℕ
  k = m.current_info_field

  abbrev h : ℕ
  h = m.current_hop_field

  -- where the accumulator stands
  abbrev at : ℕ
  at = meta.info_start k + 2

  abbrev code : ℕ
  code = spec.code_of bytes m (rules.owner_of (info_at bytes k) h)

  -- the byte of the new pointers
  abbrev byte : ℕ
  byte = meta.segment_of m (h + 1) * 64 + (h + 1)

  abbrev pointed : List ℕ
  pointed = set bytes 0 byte

  -- the accumulator with a number taken in
  abbrev taken : ℕ → List ℕ
  taken n = sets pointed at (bytes_of 2 (bit_xor (big_endian 2 bytes at) n))

  length_pointed : length pointed ≡ length bytes
  length_pointed = length-set bytes 0 byte

  pub length-move_bytes : length (spec.move_bytes bytes m) ≡ length bytes
  unfolding spec.move_bytes
  length-move_bytes = go (spec.takes_in bytes m k h)
    where
      go : (t : Bool) → length (cond t (taken code) pointed) ≡ length bytes
      go true = length-sets pointed at (bytes_of 2 (bit_xor (big_endian 2 bytes at) code)) ∙ length_pointed
      go false = length_pointed

  taken_beside : (j n : ℕ) → (j ≡ at → ⊥) → (j ≡ at + 1 → ⊥) → get_or (taken n) j 0 ≡ get_or pointed j 0
  unfolding bytes_of
  taken_beside j n x y =
      let number = bit_xor (big_endian 2 bytes at) n in
      get_or-set_other (set pointed at (number / 256 % 256)) (suc at) j (number % 256) 0 (λ e. y (omega arith))
      ∙ get_or-set_other pointed at j (number / 256 % 256) 0 x

  pointers_written : 0 < length bytes → get_or (spec.move_bytes bytes m) 0 0 ≡ byte
  unfolding spec.move_bytes
  pointers_written some = go (spec.takes_in bytes m k h)
    where
      written : get_or pointed 0 0 ≡ byte
      written = get_or-set_same bytes 0 byte 0 some

      go : (t : Bool) → get_or (cond t (taken code) pointed) 0 0 ≡ byte
      go true = taken_beside 0 code (λ e. omega arith) (λ e. omega arith) ∙ written
      go false = written

  -- all else stays
  pub stays : (j : ℕ) → (j ≡ 0 → ⊥)
      → (spec.takes_in bytes m m.current_info_field m.current_hop_field ≡ true
      → (j ≡ meta.info_start m.current_info_field + 2 → ⊥) × (j ≡ meta.info_start m.current_info_field + 3 → ⊥))
      → get_or (spec.move_bytes bytes m) j 0 ≡ get_or bytes j 0
  unfolding spec.move_bytes
  stays j x y = go (spec.takes_in bytes m k h) refl
    where
      kept : get_or pointed j 0 ≡ get_or bytes j 0
      kept = get_or-set_other bytes 0 j byte 0 x

      go : (t : Bool) → spec.takes_in bytes m k h ≡ t → get_or (cond t (taken code) pointed) j 0 ≡ get_or bytes j 0
      go true e = let apart = y e in taken_beside j code apart.0 (λ z. apart.1 (omega arith)) ∙ kept
      go false e = kept

  -- a byte that is neither
  pub stays_beside : (j : ℕ) → (j ≡ 0 → ⊥) → (j ≡ meta.info_start m.current_info_field + 2 → ⊥)
      → (j ≡ meta.info_start m.current_info_field + 3 → ⊥)
      → get_or (spec.move_bytes bytes m) j 0 ≡ get_or bytes j 0
  stays_beside j x y z = stays j x (λ e. (y, z))

  -- an accumulator that no code is taken in stands XORed with 0
  pub move-applied : Bytes bytes → meta.info_start m.current_info_field + 4 ≤ length bytes
      → spec.move_bytes bytes m ≡ spec.applied bytes m.current_info_field (spec.move_from bytes m (spec.position_of m))
  unfolding spec.move_bytes spec.change_of spec.position_of spec.move_from spec.applied
  move-applied b room = go (spec.takes_in bytes m k h)
    where
      kept : pointed ≡ taken 0
      kept =
          sym (ap (λ (n : ℕ). sets pointed at (bytes_of 2 n)) (xor_zero_r (big_endian 2 bytes at))
          ∙ ap (sets pointed at) (bytes_read 2 bytes b at (omega arith) ∙ ap (take 2) (sym (drop-set-lt at bytes 0 byte (omega arith))))
          ∙ sets_same at 2 pointed (simp length-set (omega arith)))

      go : (t : Bool) → cond t (taken code) pointed ≡ taken (cond t code 0)
      go true = refl
      go false = kept

  -- the meta header's other bytes, and every info field's flags
  header_kept : (j : ℕ) → 0 < j → j < 4 → get_or (spec.move_bytes bytes m) j 0 ≡ get_or bytes j 0
  header_kept j above below = stays_beside j (λ e. omega arith) (λ e. omega arith) (λ e. omega arith)

  low_kept : low_of (spec.move_bytes bytes m) ≡ low_of bytes
  low_kept =
      rw (header_kept 1 (omega arith) (omega arith), header_kept 2 (omega arith) (omega arith), header_kept 3 (omega arith) (omega arith))

  pub flags_kept : (j : ℕ) → (info_at (spec.move_bytes bytes m) j).flags ≡ (info_at bytes j).flags
  unfolding info_field_at
  flags_kept j = stays_beside (meta.info_start j) (λ e. omega arith) (λ e. omega arith) (λ e. omega arith)

  some_peering_kept : (n : ℕ) → rules.some_peering (spec.move_bytes bytes m) n ≡ rules.some_peering bytes n
  unfolding rules.some_peering
  some_peering_kept zero = refl
  some_peering_kept (suc n) = rw (some_peering_kept n, flags_kept n)

-- the two bytes of the accumulator, lent and written
pub applied_lent : (bytes : List ℕ) (k : ℕ) (move : Moved) → meta.info_start k + 4 ≤ length bytes
    → {n : ℕ} → n ≡ or_else (number_at 2 bytes (meta.info_start k + 2)) 0
    → (size : ℕ) → size ≡ 2 → {now : List ℕ}
    → now ≡ placed (part (meta.info_start k + 2) size (set bytes 0 (pointers move.position))) 0 (bytes_of 2 (bit_xor n move.change))
    → put_mid (meta.info_start k + 2) size (set bytes 0 (pointers move.position)) now ≡ spec.applied bytes k move
unfolding spec.applied
applied_lent bytes k move room {n} read size two e =
    let number = bit_xor n move.change in
    let pointed = set bytes 0 (pointers move.position) in
    rw (← or_zero_is 2 bytes (meta.info_start k + 2) (omega arith), ← read)
    (lent_written (bytes_of 2 number) pointed (meta.info_start k + 2) size (length_bytes_of 2 number ∙ sym two) (simp length-set (omega arith)) e)

-- A PATH THAT CAN BE MOVED

-- what the code asks of a path that is not at its last hop field
pub record Standing (bytes : List ℕ) (m : PathMetaHeader) : Type 0 where
  pub info : m.current_info_field < meta.info_fields_count m
  pub infos : meta.info_fields_count m ≤ 3
  pub next : meta.segment_of m (m.current_hop_field + 1) < meta.info_fields_count m
  pub hop : m.current_hop_field + 1 < meta.hop_fields_count m
  pub hops : meta.hop_fields_count m ≤ 64
  pub whole : 4 + meta.info_fields_count m * 8 + meta.hop_fields_count m * 12 ≤ length bytes

-- a path that can be moved and is not at its last hop field
pub can_move : (bytes : List ℕ) (m : PathMetaHeader) → rules.movable 1 bytes ≡ Ok m → (m.current_hop_field + 1 ≡ meta.hop_fields_count m → ⊥)
    → spec.CanMove bytes m
can_move bytes m able other =
    record { able = able; before_last = omega (arith, other, (known 1 bytes able).path.sound_meta.hop) }

module _ (bytes : List ℕ) (m : PathMetaHeader) (can : spec.CanMove bytes m) where
  abbrev able : Known bytes m
  able = known 1 bytes can.able

  pub standing : Standing bytes m
  unfolding meta.path_length
  standing =
      let path = able.path in
      record {
        info = path.sound_meta.info;
        infos = (counted m).few;
        next = segment_below m path.sound_meta.lengths (m.current_hop_field + 1) can.before_last;
        hop = can.before_last;
        hops = able.few;
        whole = path.whole;
      }

  -- the info field that it points to is there
  pub info_there : meta.info_start m.current_info_field + 8 ≤ length bytes
  info_there = let s = standing in omega arith

  -- the same of a position that is the header's own
  module _ {p : Position} (e : p ≡ spec.position_of m) where
    pub pointed_hop : p.current_hop_field + 1 < 64
    unfolding spec.position_of
    pointed_hop = let s = standing in omega (arith, ap (λ (q : Position). q.current_hop_field) e)

    pub pointed_info : meta.info_start p.current_info_field + 8 ≤ length bytes
    unfolding spec.position_of
    pointed_info = let s = standing in omega (arith, ap (λ (q : Position). q.current_info_field) e)

    -- and so is every hop field up to the next one
    pub next_there : meta.hop_start m (p.current_hop_field + 1) + 12 ≤ length bytes
    unfolding spec.position_of
    next_there = let s = standing in omega (arith, ap (λ (q : Position). q.current_hop_field) e)

  abbrev move : Moved
  move = spec.move_from bytes m (spec.position_of m)

  abbrev after : List ℕ
  after = spec.move_bytes bytes m

  abbrev left : PathMetaHeader
  left = spec.moved_meta bytes m

  -- the new pointers fit their bits
  pub fits : {v : Moved} → v ≡ move → (v.position.current_info_field < 4) × (v.position.current_hop_field < 64)
  unfolding spec.move_from spec.position_of
  fits e = let s = standing in rw e (omega arith, omega arith)

  -- the bytes after the move spell the header that it leaves
  word_moved : Bytes bytes → left ≡ meta.meta_of (big_endian 4 after 0)
  unfolding spec.moved_meta spec.move_from spec.position_of
  word_moved b =
      let s = standing in
      let head : get_or after 0 0 ≡ pointers move.position = pointers_written bytes m (omega arith) in
      let old : m ≡ meta.meta_of (get_or bytes 0 0 * 2 ^ 24 + low_of bytes) = able.path.word ∙ ap meta.meta_of (first_byte bytes) in
      rw (first_byte after, head, low_kept bytes m)
      (spelt (get_or bytes 0 0) (low_of bytes) m move.position (omega arith) (omega arith) (low_below bytes b) old)

  -- and are as many, with the same segments, and the same peering
  sound_moved : Sound left
  unfolding spec.moved_meta spec.at_position spec.move_from spec.position_of meta.lengths_valid meta.info_fields_count meta.hop_fields_count meta.segment_of
  sound_moved =
      let path = able.path in
      record {
        lengths = path.sound_meta.lengths;
        info = standing.next;
        hop = can.before_last;
        segment = refl;
      }

  pub counts_kept : (meta.info_fields_count left ≡ meta.info_fields_count m) × (meta.hop_fields_count left ≡ meta.hop_fields_count m)
  unfolding spec.moved_meta spec.at_position meta.info_fields_count meta.hop_fields_count
  counts_kept = (refl, refl)

  whole-moved : meta.path_length left ≤ length after
  unfolding meta.path_length
  whole-moved = omega (arith, counts_kept, length-move_bytes bytes m, standing.whole)

  peering-moved : rules.peering_allowed after left ≡ true
  unfolding rules.peering_allowed peering_path both_peering
  peering-moved =
      rw (counts_kept.0, some_peering_kept bytes m (meta.info_fields_count m), flags_kept bytes m 0, flags_kept bytes m 1) able.peering

  -- what is applied to its bytes
  pub applied_is : Bytes bytes → spec.applied bytes m.current_info_field move ≡ after
  applied_is b = let s = standing in sym (move-applied bytes m b (omega arith))

  -- so it can be moved
  pub moved_known : Bytes bytes → Known after left
  moved_known b =
      record {
        path = record { sound_meta = sound_moved; whole = whole-moved; word = word_moved b };
        few = omega (arith, counts_kept, able.few);
        peering = peering-moved;
      }

  -- it expires when it did: no timestamp and no expiry byte was written
  pub expiry_moved : path_expiry after left ≡ path_expiry bytes m
  unfolding spec.moved_meta spec.at_position
  expiry_moved =
      let s = standing in
      expiry_lengths after m left refl
      ∙ expiry_same bytes after m
      (λ k l i a b. stays_beside bytes m i (λ e. omega arith) (λ e. omega arith) (λ e. omega arith))
      (λ j l. stays_beside bytes m (meta.hop_start m j + 1) (λ e. omega arith) (λ e. omega arith) (λ e. omega arith))
      able.path.sound_meta

  -- so it is read with the header that the move leaves and the expiry that was stored
  pub path-moved : Bytes bytes → path_of 1 after ≡ record { meta_header = left; expiry = path_expiry bytes m }
  path-moved b = path_kept bytes after m left able.path (moved_known b).path expiry_moved

  -- a single move, of type 1
  pub one_move : spec.move 1 bytes ≡ Ok after
  unfolding spec.move spec.is_last
  one_move = rw (can.able, ne_eqb (m.current_hop_field + 1) (meta.hop_fields_count m) (λ e. omega (arith, can.before_last)))

  pub moved_is : spec.moved 1 bytes ≡ after
  unfolding spec.moved
  moved_is = rw one_move

-- what `Position::moved` cites
pub ruleset pointers_there = (pointed_hop, pointed_info, next_there)

-- what `step` cites: where a path that can be moved stands, and what is applied to it
pub ruleset applies = (info_there, fits, applied_is)

-- what a single move does where `movable` refuses the path, and where it hands back a record
pub move_refused : (type : ℕ) (bytes : List ℕ) {error : PathError} → path_answer (path_of type bytes) (rules.movable type bytes) ≡ Err error
    → spec.move type bytes ≡ Err error
unfolding spec.move
move_refused type bytes h = rw (movable_refused type bytes h)

module _ (type : ℕ) (bytes : List ℕ) {path : StandardPath} (h : path_answer (path_of type bytes) (rules.movable type bytes) ≡ Ok path) where
  pub last_move : path.meta_header.current_hop_field + 1 ≡ meta.hop_fields_count path.meta_header → spec.move type bytes ≡ Err AtLastHopField
  unfolding spec.move spec.is_last
  last_move last = rw ((movable_ok type bytes h).0, eq-eqb _ _ last)

  module _ (other : path.meta_header.current_hop_field + 1 ≡ meta.hop_fields_count path.meta_header → ⊥) where
    moves_on : spec.CanMove bytes path.meta_header
    moves_on = can_move bytes path.meta_header (movable_one type bytes h) other

    pub move_made : spec.move type bytes ≡ Ok (spec.move_bytes bytes path.meta_header)
    move_made = rw (goes_on type bytes h).0 (one_move bytes path.meta_header moves_on)

    pub path_made : Bytes bytes
        → path_of type (spec.move_bytes bytes path.meta_header) ≡ record { meta_header = spec.moved_meta bytes path.meta_header; expiry = path.expiry }
    path_made b =
        let known = goes_on type bytes h in
        let stored = ap (λ (p : StandardPath). p.expiry) (sym (path_of_lem bytes path.meta_header (able bytes path.meta_header moves_on).path) ∙ known.2) in
        rw (known.0, ← stored) (path-moved bytes path.meta_header moves_on b)

-- what `single_move` cites
pub ruleset single_moves = (move_refused, last_move, movable_one, hop_inside, move_made, path_made)

-- EVERY PATH

-- the bytes that an accepted move leaves
move-leaves : (type : ℕ) (bytes after : List ℕ) (m : PathMetaHeader) → rules.movable type bytes ≡ Ok m → spec.move type bytes ≡ Ok after
    → spec.move_bytes bytes m ≡ after
unfolding spec.move
move-leaves type bytes after m able accepted =
    let read = stepped (rules.movable type bytes) _ accepted in
    let path = read.value in
    let left = same_value (held (not (spec.is_last path path.current_hop_field)) _ _ read.then).1 in
    rw (same_value (sym read.first ∙ able)) at left

pub all_else_stays : spec.AllElseStays
all_else_stays type bytes after m able accepted =
    rw (← move-leaves type bytes after m able accepted) (length-move_bytes bytes m, λ j x y. stays bytes m j x y)

-- a moves, then b, are a + b moves
pub iterate_add : {A : Type 0} (a b : ℕ) (f : A → A) (x : A) → spec.iterate (a + b) f x ≡ spec.iterate b f (spec.iterate a f x)
iterate_add a zero f x = rw add-zero
iterate_add a (suc b) f x = rw add-suc (ap f (iterate_add a b f x))
