-- A move undone: a path moved, mirrored and moved again is the mirror image of the path. The move back goes between the same two hop
-- fields, so its owner is the same, spared or not, and the same code is taken from the accumulator by XOR.
-- Assumes nothing.
use Prim.Native.Nat.{ℕ, ◌+◌, ◌-◌, ◌*◌, ◌<◌}
use mathlib.Core.Path.{◌≡◌, refl, sym, ap, ap₂, ◌∙◌, subst}
use mathlib.Core.Bool.{Bool, true, false, not, cond}
use mathlib.Core.List.{List}
use native.Mathlib.Omega.{arith}
use lib.Dec.{eqb}
use borrow.Author.Tests.{eqb-true, eqb-false, eq-eqb, ne_eqb}
use Rattle.wire_encoding.specs.BigEndian.{big_endian, part}
use Rattle.wire_encoding.proofs.Bits.{xor_twice}
use Rattle.wire_encoding.proofs.BigEndian.{number_by_part}
use Rattle.path_fields.specs.Fields.{constructed_dir, peering, with_constructed_dir}
use Rattle.path_fields.specs.declared.InfoField.{InfoField}
use Rattle.path_fields.proofs.Fields.{direction_flipped, direction_flipped_lem, peering-flipped}
use Rattle.path_meta_header.specs.MetaHeader.{segment_length, info_fields_count, hop_fields_count, segment_of, hop_start}
use Rattle.path_meta_header.specs.Reversal.{reversed_lengths}
use Rattle.path_meta_header.specs.declared.PathMetaHeader.{PathMetaHeader}
use Rattle.path_meta_header.proofs.MetaHeader.{same_meta, segment_below}
use Rattle.path_meta_header.proofs.Reversal.{rows_first}
use Rattle.path.specs.Standard.{info_at}
use Rattle.path_moves.specs.Moves.{at_position, change_of, code_of, move_bytes, move_from, moved_meta, position_of, takes_in}
use Rattle.path_moves.specs.Rules.{owner_of, spared}
use Rattle.path_moves.proofs.Rules.{eqb_iff, owner_below, owner_opposite, spared_opposite, peering_two}
use Rattle.path_moves.proofs.Moves.{counts_kept}
use Rattle.path_moves.proofs.Fields.{changed_by, change_at, change_none, change_outside, hop_field_kept, info_field_moved}
use Rattle.round_trip.specs.Mirror.{reversed_meta_at, mirror_meta, mirror}
use Rattle.round_trip.proofs.Fields.{Spells, same-path}
use Rattle.round_trip.proofs.Mirror.{Path, spells, info_below, hop_named, rows_mirror, mirror_infos, mirror-hops, mirror_field, mirror-info}
use Rattle.round_trip.proofs.Mirror.{mirror-segment, path-mirror}
use Rattle.round_trip.proofs.Moved.{can_move, path-moved}

-- the same change twice
undone : (c : ℕ) (f : InfoField) → changed_by c (direction_flipped (changed_by c f)) ≡ direction_flipped f
unfolding changed_by direction_flipped with_constructed_dir
undone c f =
    let flipped : InfoField = direction_flipped f in
    ap (λ (a : ℕ). record { flags = flipped.flags; reserved = f.reserved; accumulator = a; timestamp = f.timestamp })
    (xor_twice f.accumulator c)

module _ (x : List ℕ) (m : PathMetaHeader) (path : Path x m) (l : m.current_hop_field + 1 < hop_fields_count m) where
  abbrev I : ℕ
  I = info_fields_count m

  abbrev N : ℕ
  N = hop_fields_count m

  abbrev h : ℕ
  h = m.current_hop_field

  -- moved, and mirrored
  abbrev y : List ℕ
  y = move_bytes x m

  abbrev my : PathMetaHeader
  my = moved_meta x m

  abbrev z : List ℕ
  z = mirror my y

  abbrev mz : PathMetaHeader
  mz = mirror_meta my

  py : Path y my
  py = path-moved x m path l

  pz : Path z mz
  pz = path-mirror y my py

  moved_infos : info_fields_count my ≡ I
  moved_infos = (counts_kept x m (can_move x m path l)).0

  moved-hops : hop_fields_count my ≡ N
  moved-hops = (counts_kept x m (can_move x m path l)).1

  back_infos : info_fields_count mz ≡ I
  back_infos = mirror_infos y my py ∙ moved_infos

  back_hops : hop_fields_count mz ≡ N
  back_hops = mirror-hops y my py ∙ moved-hops

  -- ITS POINTERS

  back_info_pointer : mz.current_info_field ≡ I - 1 - segment_of m (h + 1)
  unfolding mirror_meta reversed_meta_at moved_meta at_position move_from position_of
  back_info_pointer = ap (λ (n : ℕ). n - 1 - segment_of m (h + 1)) moved_infos

  back_hop_pointer : mz.current_hop_field ≡ N - 1 - (h + 1)
  unfolding mirror_meta reversed_meta_at moved_meta at_position move_from position_of
  back_hop_pointer = ap (λ (n : ℕ). n - 1 - (h + 1)) moved-hops

  back_segment : segment_of mz (mz.current_hop_field + 1) ≡ I - 1 - m.current_info_field
  unfolding moved_meta at_position segment_of
  back_segment =
      let at : mz.current_hop_field + 1 ≡ hop_fields_count my - 1 - h = omega (arith, back_hop_pointer, moved-hops) in
      ap (segment_of mz) at
      ∙ mirror-segment y my py h (omega (arith, moved-hops))
      ∙ ap₂ (λ (n k : ℕ). n - 1 - k) moved_infos (hop_named x m path)

  pub back_before_last : (mirror_meta (moved_meta x m)).current_hop_field + 1 < hop_fields_count (mirror_meta (moved_meta x m))
  back_before_last = omega (arith, back_hop_pointer, back_hops)

  back_meta : moved_meta z mz ≡ mirror_meta m
  unfolding moved_meta at_position move_from position_of mirror_meta reversed_meta_at reversed_lengths info_fields_count
  back_meta = same_meta (moved_meta z mz) (mirror_meta m) back_segment (omega (arith, back_hop_pointer)) refl refl

  -- ITS FIELDS

  back_hop_field : (j : ℕ) → j < N → part (hop_start m j) 12 z ≡ part (hop_start m (N - 1 - j)) 12 x
  back_hop_field j b =
      ap (λ (n : ℕ). part (4 + n * 8 + j * 12) 12 z) (sym moved_infos)
      ∙ mirror_field y my py j (omega (arith, moved-hops))
      ∙ ap₂ (λ (i n : ℕ). part (4 + i * 8 + (n - 1 - j) * 12) 12 y) moved_infos moved-hops
      ∙ hop_field_kept x m path.known path.small (N - 1 - j) (omega arith)

  back_info_field : (k : ℕ) → k < I → info_at z k ≡ direction_flipped (changed_by (change_at x m (I - 1 - k)) (info_at x (I - 1 - k)))
  back_info_field k b =
      mirror-info y my py k (omega (arith, moved_infos))
      ∙ ap (λ (n : ℕ). direction_flipped (info_at y (n - 1 - k))) moved_infos
      ∙ ap direction_flipped (info_field_moved x m path.known path.small (I - 1 - k) (omega arith))

  -- THE CHANGE

  abbrev now : ℕ
  now = m.current_info_field

  abbrev next : ℕ
  next = segment_of m (h + 1)

  next_below : next < I
  next_below = segment_below m path.known.path.sound_meta.lengths (h + 1) l

  -- a move inside a segment: the same owner, and the same code
  module _ (same : next ≡ now) where
    abbrev f : InfoField
    f = info_at x now

    abbrev f' : InfoField
    f' = info_at z mz.current_info_field

    info_back : f' ≡ direction_flipped (changed_by (change_at x m now) f)
    info_back =
        let k : ℕ = mz.current_info_field in
        let at : I - 1 - k ≡ now = omega (arith, back_info_pointer, info_below x m path) in
        back_info_field k (omega (arith, back_info_pointer, info_below x m path))
        ∙ ap (λ (i : ℕ). direction_flipped (changed_by (change_at x m i) (info_at x i))) at

    direction_back : constructed_dir f' ≡ not (constructed_dir f)
    unfolding changed_by
    direction_back = ap constructed_dir info_back ∙ direction_flipped_lem (changed_by (change_at x m now) f)

    peering_back : peering f' ≡ peering f
    unfolding changed_by
    peering_back = ap peering info_back ∙ peering-flipped (changed_by (change_at x m now) f)

    owner_back : owner_of f' mz.current_hop_field ≡ N - 1 - owner_of f h
    owner_back = owner_opposite f f' h mz.current_hop_field N direction_back l back_hop_pointer

    first_back : peering f ≡ true → segment_length mz 0 + segment_length m 0 ≡ N
    unfolding moved_meta at_position hop_fields_count
    first_back set =
        let two : I ≡ 2 = peering_two x m path.known.peering now (info_below x m path) set in
        rows_first my mz (info_fields_count my) (rows_mirror y my py) (moved_infos ∙ two)

    spared_back : spared f' (owner_of f' mz.current_hop_field) (segment_length mz 0) ≡ spared f (owner_of f h) (segment_length m 0)
    spared_back =
        spared_opposite f f' (owner_of f h) (owner_of f' mz.current_hop_field) (segment_length m 0) (segment_length mz 0) N
        peering_back (owner_below f h N l) owner_back first_back

    code_back : code_of z mz (owner_of f' mz.current_hop_field) ≡ code_of x m (owner_of f h)
    code_back =
        let o : ℕ = owner_of f h in
        let below : o < N = owner_below f h N l in
        let at : N - 1 - (N - 1 - o) ≡ o = omega arith in
        ap₂ (λ (n j : ℕ). big_endian 2 z (4 + n * 8 + j * 12 + 6)) back_infos owner_back
        ∙ number_by_part 2 6 12 z x (hop_start m (N - 1 - o)) (hop_start m o) (omega arith)
        (back_hop_field (N - 1 - o) (omega arith) ∙ ap (λ (j : ℕ). part (hop_start m j) 12 x) at)

    inside_back : change_of z mz mz.current_info_field mz.current_hop_field ≡ change_of x m now h
    unfolding change_of takes_in
    inside_back =
        let there : eqb (segment_of mz (mz.current_hop_field + 1)) mz.current_info_field ≡ true =
        eq-eqb (segment_of mz (mz.current_hop_field + 1)) mz.current_info_field (omega (arith, back_segment, back_info_pointer)) in
        rw (there, eq-eqb next now same) (ap₂ (λ (t : Bool) (c : ℕ). cond (not t) c 0) spared_back code_back)

  change_back : (k : ℕ) → k < I → change_at z mz k ≡ change_at x m (I - 1 - k)
  unfolding change_at
  change_back k b = go (eqb next now) refl
    where
      k' : ℕ
      k' = mz.current_info_field

      h' : ℕ
      h' = mz.current_hop_field

      go : (t : Bool) → eqb next now ≡ t → cond (eqb k k') (change_of z mz k' h') 0 ≡ cond (eqb (I - 1 - k) now) (change_of x m now h) 0
      go true e =
          let same : next ≡ now = eqb-true next now e in
          let here : eqb k k' ≡ eqb (I - 1 - k) now =
          eqb_iff k k' (I - 1 - k) now
          (λ q. omega (arith, back_info_pointer, info_below x m path)) (λ q. omega (arith, back_info_pointer, info_below x m path)) in
          rw (here, inside_back same)
      go false e =
          let other : next ≡ now → ⊥ = eqb-false next now e in
          let outside : eqb (segment_of mz (h' + 1)) k' ≡ false =
          ne_eqb (segment_of mz (h' + 1)) k' (λ q. other (omega (arith, back_segment, back_info_pointer, next_below, info_below x m path))) in
          change_none z mz k (change_outside z mz k' h' outside) ∙ sym (change_none x m (I - 1 - k) (change_outside x m now h e))

  -- MOVED AGAIN

  again_info : (k : ℕ) → k < I → info_at (move_bytes z mz) k ≡ info_at (mirror m x) k
  again_info k b =
      let f : InfoField = info_at x (I - 1 - k) in
      info_field_moved z mz pz.known pz.small k (omega (arith, back_infos))
      ∙ ap₂ changed_by (change_back k b) (back_info_field k b)
      ∙ undone (change_at x m (I - 1 - k)) f
      ∙ sym (mirror-info x m path k b)

  again_field : (j : ℕ) → j < N → part (hop_start m j) 12 (move_bytes z mz) ≡ part (hop_start m j) 12 (mirror m x)
  again_field j b =
      ap (λ (n : ℕ). part (4 + n * 8 + j * 12) 12 (move_bytes z mz)) (sym back_infos)
      ∙ hop_field_kept z mz pz.known pz.small j (omega (arith, back_hops))
      ∙ ap (λ (n : ℕ). part (4 + n * 8 + j * 12) 12 z) back_infos
      ∙ back_hop_field j b
      ∙ sym (mirror_field x m path j b)

  pub moved_back : move_bytes (mirror (moved_meta x m) (move_bytes x m)) (mirror_meta (moved_meta x m)) ≡ mirror m x
  moved_back =
      let i = mirror_infos x m path in
      same-path (move_bytes z mz) (mirror m x) (mirror_meta m)
      (subst (Spells (move_bytes z mz)) back_meta (spells (path-moved z mz pz back_before_last)))
      (spells (path-mirror x m path))
      (λ k b. again_info k (omega (arith, i)))
      (λ j b. ap (λ (n : ℕ). part (4 + n * 8 + j * 12) 12 (move_bytes z mz)) i
      ∙ again_field j (omega (arith, mirror-hops x m path))
      ∙ ap (λ (n : ℕ). part (4 + n * 8 + j * 12) 12 (mirror m x)) (sym i))
