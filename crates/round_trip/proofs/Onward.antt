-- The path begun with after p moves: its hop fields, its flags and the accumulators of later segments are as they were, and the
-- accumulator of the segment where it stands is by the path alone; by induction on p.
-- Assumes nothing.
use Prim.Native.Nat.{ℕ, zero, suc, ◌+◌, ◌<◌}
use mathlib.Core.Path.{◌≡◌, refl, sym, ap, ap₂, ◌∙◌, subst}
use mathlib.Core.Bool.{Bool, true, false}
use mathlib.Core.List.{List}
use native.Mathlib.Numerals.{add-one}
use native.Mathlib.Omega.{arith}
use lib.Dec.{eqb}
use lib.Bits.{bit_xor, xor_zero_r}
use borrow.Author.Tests.{eqb-true, eqb-false, eq-eqb, ne_eqb}
use Rattle.wire_encoding.specs.BigEndian.{part}
use Rattle.wire_encoding.proofs.BigEndian.{number_by_part}
use Rattle.path_fields.specs.declared.InfoField.{InfoField}
use Rattle.path_meta_header.specs.MetaHeader.{info_fields_count, hop_fields_count, segment_of, lengths_valid, hop_start}
use Rattle.path_meta_header.specs.declared.PathMetaHeader.{PathMetaHeader}
use Rattle.path_meta_header.proofs.MetaHeader.{same_meta, segment_below, segment_up}
use Rattle.path.specs.Standard.{info_at}
use Rattle.path.specs.Dataplane.{meta_header_of}
use Rattle.path_moves.specs.Moves.{accumulator_by, at_position, change_of, iterate, move_bytes, move_from, moved, moved_meta, position_of, takes_in}
use Rattle.path_moves.specs.Rules.{owner_of}
use Rattle.path_moves.proofs.Rules.{owner_below}
use Rattle.path_moves.proofs.Moves.{moved_is, flags_kept}
use Rattle.path_moves.proofs.Fields.{changed_by, change_at, change_none, change_outside, change_same, hop_field_kept, info_field_moved}
use Rattle.path_moves.proofs.Accumulators.{accumulator_start, accumulator_inside, accumulator_entered}
use Rattle.round_trip.specs.RoundTrip.{hop_count}
use Rattle.round_trip.proofs.Mirror.{Path, hop_named}
use Rattle.round_trip.proofs.Moved.{can_move, path-moved}

-- a header with its pointers at hop field p
unfoldable pub standing_at : PathMetaHeader → ℕ → PathMetaHeader
standing_at m p = at_position m (record { current_info_field = segment_of m p; current_hop_field = p })

-- THE PATH AFTER p MOVES

pub record Onward (b : List ℕ) (p : ℕ) (x : List ℕ) : Type 0 where
  pub path : Path x (standing_at (meta_header_of b) p)
  pub fields : (j : ℕ) → j < hop_count b → part (hop_start (meta_header_of b) j) 12 x ≡ part (hop_start (meta_header_of b) j) 12 b
  pub flags : (k : ℕ) → k < info_fields_count (meta_header_of b) → (info_at x k).flags ≡ (info_at b k).flags
  pub later : (k : ℕ) → segment_of (meta_header_of b) p < k → k < info_fields_count (meta_header_of b)
      → (info_at x k).accumulator ≡ (info_at b k).accumulator
  pub meets : (info_at x (segment_of (meta_header_of b) p)).accumulator ≡ accumulator_by b p

onward_start : (b : List ℕ) → Path b (meta_header_of b) → (meta_header_of b).current_hop_field ≡ 0 → Onward b 0 b
unfolding standing_at at_position
onward_start b path start =
    let m : PathMetaHeader = meta_header_of b in
    let named : m.current_info_field ≡ segment_of m 0 = sym (hop_named b m path) ∙ ap (segment_of m) start in
    record {
      path = subst (Path b) (same_meta m (standing_at m 0) named start refl refl) path;
      fields = λ j l. refl;
      flags = λ k l. refl;
      later = λ k n l. refl;
      meets = sym (accumulator_start b);
    }

module _ (b : List ℕ) (valid : lengths_valid (meta_header_of b) ≡ true) (p : ℕ) (x : List ℕ) (o : Onward b p x) (l : p + 1 < hop_count b) where
  abbrev m : PathMetaHeader
  m = meta_header_of b

  abbrev mx : PathMetaHeader
  mx = standing_at m p

  abbrev y : List ℕ
  y = move_bytes x mx

  abbrev now : ℕ
  now = segment_of m p

  abbrev next : ℕ
  next = segment_of m (p + 1)

  next_below : next < info_fields_count m
  next_below = segment_below m valid (p + 1) l

  now_below : now < info_fields_count m
  now_below = segment_below m valid p (omega arith)

  before_last : mx.current_hop_field + 1 < hop_fields_count mx
  unfolding standing_at at_position hop_fields_count
  before_last = l

  info_next : (k : ℕ) → k < info_fields_count m → info_at y k ≡ changed_by (change_at x mx k) (info_at x k)
  unfolding standing_at at_position info_fields_count
  info_next k b = info_field_moved x mx o.path.known o.path.small k b

  field_next : (j : ℕ) → j < hop_fields_count m → part (hop_start m j) 12 y ≡ part (hop_start m j) 12 x
  unfolding standing_at at_position info_fields_count hop_fields_count
  field_next j b = hop_field_kept x mx o.path.known o.path.small j b

  accumulator_next : (k : ℕ) → k < info_fields_count m
      → (info_at y k).accumulator ≡ bit_xor (info_at x k).accumulator (change_at x mx k)
  unfolding changed_by
  accumulator_next k b = ap (λ (f : InfoField). f.accumulator) (info_next k b)

  -- the change is by the path begun with
  change_begun : change_of x mx now p ≡ change_of b m now p
  unfolding change_of takes_in standing_at at_position info_fields_count segment_of
  change_begun =
      let j : ℕ = owner_of (info_at b now) p in
      change_same x b m now p (o.flags now now_below)
      (number_by_part 2 6 12 x b (hop_start m j) (hop_start m j) (omega arith) (o.fields j (owner_below (info_at b now) p (hop_fields_count m) l)))

  change_now : change_at x mx now ≡ change_of b m now p
  unfolding change_at standing_at at_position
  change_now = rw (eq-eqb now now refl) change_begun

  -- into another segment, and of another segment, there is none
  change_new : (next ≡ now → ⊥) → (k : ℕ) → change_at x mx k ≡ 0
  unfolding standing_at at_position segment_of
  change_new new k = change_none x mx k (change_outside x mx now p (ne_eqb next now new))

  change_other : (k : ℕ) → (k ≡ now → ⊥) → change_at x mx k ≡ 0
  unfolding change_at standing_at at_position
  change_other k other = rw (ne_eqb k now other)

  unchanged : (k : ℕ) → k < info_fields_count m → change_at x mx k ≡ 0
      → (info_at y k).accumulator ≡ (info_at x k).accumulator
  unchanged k below none =
      accumulator_next k below
      ∙ ap (bit_xor (info_at x k).accumulator) none
      ∙ xor_zero_r (info_at x k).accumulator

  meets_next : (info_at y next).accumulator ≡ accumulator_by b (p + 1)
  meets_next = go (eqb next now) refl
    where
      go : (t : Bool) → eqb next now ≡ t → (info_at y next).accumulator ≡ accumulator_by b (p + 1)
      go true e =
          let same : next ≡ now = eqb-true next now e in
          ap (λ (k : ℕ). (info_at y k).accumulator) same
          ∙ accumulator_next now now_below
          ∙ ap₂ bit_xor o.meets change_now
          ∙ sym (accumulator_inside b p same)
      go false e =
          let new : next ≡ now → ⊥ = eqb-false next now e in
          unchanged next next_below (change_new new next)
          ∙ o.later next (omega (arith, segment_up m p, new)) next_below
          ∙ sym (accumulator_entered b p new)

  onward_next : Onward b (p + 1) (move_bytes x (standing_at (meta_header_of b) p))
  unfolding standing_at at_position moved_meta move_from position_of segment_of
  onward_next =
      record {
        path = path-moved x mx o.path before_last;
        fields = λ j c. field_next j c ∙ o.fields j c;
        flags = λ k c. flags_kept x mx k ∙ o.flags k c;
        later = λ k n c. unchanged k c (change_other k (λ e. omega (arith, segment_up m p))) ∙ o.later k (omega (arith, segment_up m p)) c;
        meets = meets_next;
      }

  onward_moved : Onward b (p + 1) (moved 1 x)
  onward_moved = subst (Onward b (p + 1)) (sym (moved_is x mx (can_move x mx o.path before_last))) onward_next

pub onward : (b : List ℕ) → Path b (meta_header_of b) → (meta_header_of b).current_hop_field ≡ 0 → (p : ℕ) → p < hop_count b
    → Onward b p (iterate p (moved 1) b)
onward b path start zero l = onward_start b path start
onward b path start (suc p) l =
    rw (← add-one p)
    (onward_moved b path.known.path.sound_meta.lengths p (iterate p (moved 1) b) (onward b path start p (omega arith)) (omega arith))
