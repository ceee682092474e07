-- What a move leaves of a path's fields: every hop field, and every info field but for the accumulator that it changes by XOR.
-- Assumes nothing.
use Prim.Native.Nat.{ℕ, ◌+◌, ◌*◌, ◌^◌, ◌≤◌, ◌<◌}
use mathlib.Core.Path.{◌≡◌, refl, sym, ap, ◌∙◌}
use mathlib.Core.Bool.{Bool, true, false, cond}
use mathlib.Core.List.{List}
use native.Mathlib.Nat.{mod-eq_of_lt}
use native.Mathlib.Omega.{arith}
use lib.Dec.{eqb}
use lib.Bits.{bit_xor, xor_lt, xor_zero_r}
use lib.ListN.{length, get_or, set, length-set}
use borrow.Author.Tests.{eqb-true, eqb-false}
use Rattle.wire_encoding.specs.BigEndian.{big_endian, part}
use Rattle.wire_encoding.proofs.Lists.{Bytes, part_by_get_or}
use Rattle.wire_encoding.proofs.BigEndian.{below, read_written, number_by_get_or}
use Rattle.path_fields.specs.Fields.{info_field_at}
use Rattle.path_fields.specs.declared.InfoField.{InfoField}
use Rattle.path_meta_header.specs.MetaHeader.{segment_length, info_fields_count, hop_fields_count, segment_of, path_length, info_start, hop_start}
use Rattle.path_meta_header.specs.declared.PathMetaHeader.{PathMetaHeader}
use Rattle.path.specs.Standard.{info_at}
use Rattle.path_moves.specs.declared.Moved.{Moved}
use Rattle.path_moves.specs.Moves.{applied, change_of, code_of, move_bytes, move_from, position_of, takes_in}
use Rattle.path_moves.specs.Rules.{owner_of}
use Rattle.path_moves.proofs.Moves.{length-move_bytes, move-applied, stays_beside}
use Rattle.path_moves.proofs.Rules.{Known, owner_same, spared-same}

-- an info field whose accumulator was changed
unfoldable pub changed_by : ℕ → InfoField → InfoField
changed_by change f =
    record { flags = f.flags; reserved = f.reserved; accumulator = bit_xor f.accumulator change; timestamp = f.timestamp }

-- what the move of a path changes the accumulator of info field k by
unfoldable pub change_at : List ℕ → PathMetaHeader → ℕ → ℕ
change_at x m k = cond (eqb k m.current_info_field) (change_of x m m.current_info_field m.current_hop_field) 0

-- a move that changes nothing changes no info field
pub change_none : (x : List ℕ) (m : PathMetaHeader) (k : ℕ) → change_of x m m.current_info_field m.current_hop_field ≡ 0 → change_at x m k ≡ 0
unfolding change_at
change_none x m k none = rw none (zero_either (eqb k m.current_info_field))
  where
    zero_either : (t : Bool) → ◌≡◌ {A = ℕ} (cond t 0 0) 0
    zero_either true = refl
    zero_either false = refl

-- into another segment nothing changes
pub change_outside : (x : List ℕ) (m : PathMetaHeader) (k h : ℕ) → eqb (segment_of m (h + 1)) k ≡ false → change_of x m k h ≡ 0
unfolding change_of takes_in
change_outside x m k h outside = rw outside

-- inside one it is told by the flags and the owner's code
pub change_same : (x y : List ℕ) (m : PathMetaHeader) (k h : ℕ) → (info_at x k).flags ≡ (info_at y k).flags
    → code_of x m (owner_of (info_at y k) h) ≡ code_of y m (owner_of (info_at y k) h) → change_of x m k h ≡ change_of y m k h
unfolding change_of takes_in
change_same x y m k h flags code =
    rw (owner_same (info_at x k) (info_at y k) flags h, spared-same (info_at x k) (info_at y k) flags (owner_of (info_at y k) h) (segment_length m 0), code)

-- the accumulator that is written
applied_accumulator : (x : List ℕ) (k : ℕ) (move : Moved) → info_start k + 4 ≤ length x → big_endian 2 x (info_start k + 2) < 2 ^ 16
    → move.change < 2 ^ 16 → big_endian 2 (applied x k move) (info_start k + 2) ≡ bit_xor (big_endian 2 x (info_start k + 2)) move.change
unfolding applied
applied_accumulator x k move room a c =
    let at : ℕ = info_start k + 2 in
    let v : ℕ = move.position.current_info_field * 64 + move.position.current_hop_field in
    let n : ℕ = bit_xor (big_endian 2 x at) move.change in
    read_written 2 n at (set x 0 v) (simp length-set (omega arith))
    ∙ mod-eq_of_lt (xor_lt 16 (big_endian 2 x at) move.change a c)

module _ (x : List ℕ) (m : PathMetaHeader) (known : Known x m) (small : Bytes x) where
  abbrev now : ℕ
  now = m.current_info_field

  abbrev hop : ℕ
  hop = m.current_hop_field

  now_below : now < info_fields_count m
  now_below = known.path.sound_meta.info

  whole : 4 + info_fields_count m * 8 + hop_fields_count m * 12 ≤ length x
  unfolding path_length
  whole = known.path.whole

  change_below : change_of x m now hop < 2 ^ 16
  unfolding change_of
  change_below = go (takes_in x m now hop) (owner_of (info_at x now) hop)
    where
      go : (t : Bool) (owner : ℕ) → cond t (code_of x m owner) 0 < 2 ^ 16
      go true owner = below x small (hop_start m owner + 6) 2
      go false owner = omega arith

  -- a byte that is not the pointers' nor the accumulator's
  apart : (i : ℕ) → (i ≡ 0 → ⊥) → (i ≡ info_start now + 2 → ⊥) → (i ≡ info_start now + 3 → ⊥) → get_or (move_bytes x m) i 0 ≡ get_or x i 0
  apart = stays_beside x m

  pub hop_field_kept : (j : ℕ) → j < hop_fields_count m → part (hop_start m j) 12 (move_bytes x m) ≡ part (hop_start m j) 12 x
  hop_field_kept j l =
      part_by_get_or (move_bytes x m) x (hop_start m j) 12 (omega (arith, length-move_bytes x m, whole)) (omega (arith, whole))
      (λ i a b. apart i (λ e. omega arith) (λ e. omega (arith, now_below)) (λ e. omega (arith, now_below)))

  accumulator_moved : (k : ℕ) → k < info_fields_count m
      → big_endian 2 (move_bytes x m) (info_start k + 2) ≡ bit_xor (big_endian 2 x (info_start k + 2)) (change_at x m k)
  unfolding change_at move_from position_of
  accumulator_moved k l = go (eqb k now) refl
    where
      at_now : big_endian 2 (move_bytes x m) (info_start now + 2) ≡ bit_xor (big_endian 2 x (info_start now + 2)) (change_of x m now hop)
      at_now =
          ap (λ (y : List ℕ). big_endian 2 y (info_start now + 2)) (move-applied x m small (omega (arith, whole, now_below)))
          ∙ applied_accumulator x now (move_from x m (position_of m)) (omega (arith, whole, now_below))
          (below x small (info_start now + 2) 2) change_below

      go : (t : Bool) → eqb k now ≡ t
          → big_endian 2 (move_bytes x m) (info_start k + 2) ≡ bit_xor (big_endian 2 x (info_start k + 2)) (cond t (change_of x m now hop) 0)
      go true e = rw (eqb-true k now e) at_now
      go false e =
          let other : k ≡ now → ⊥ = eqb-false k now e in
          number_by_get_or (move_bytes x m) x 2 (info_start k + 2) (λ i a b. apart i (λ q. omega arith) (λ q. omega arith) (λ q. omega arith))
          ∙ sym (xor_zero_r (big_endian 2 x (info_start k + 2)))

  pub info_field_moved : (k : ℕ) → k < info_fields_count m → info_at (move_bytes x m) k ≡ changed_by (change_at x m k) (info_at x k)
  unfolding info_field_at changed_by
  info_field_moved k l =
      let flags = apart (info_start k) (λ q. omega arith) (λ q. omega arith) (λ q. omega arith) in
      let reserved = apart (info_start k + 1) (λ q. omega arith) (λ q. omega arith) (λ q. omega arith) in
      let accumulator = accumulator_moved k l in
      let timestamp =
      number_by_get_or (move_bytes x m) x 4 (info_start k + 4) (λ i a b. apart i (λ q. omega arith) (λ q. omega arith) (λ q. omega arith)) in
      λ i. record { flags = flags i; reserved = reserved i; accumulator = accumulator i; timestamp = timestamp i }
