-- A move of p ++ t writes the bytes in p that the move of p writes; so does a walk, move by move, for each leaves a path that can be moved.
-- Assumes nothing.
use Prim.Native.Nat.{ℕ, zero, suc, ◌+◌, ◌*◌, ◌≤◌, ◌<◌}
use mathlib.Core.Path.{◌≡◌, refl, ap, ap₂, ◌∙◌}
use mathlib.Core.Bool.{Bool, true, false, not, cond, ◌||◌}
use mathlib.Core.List.{List, ◌++◌}
use native.Mathlib.Omega.{arith}
use lib.Bits.{bit_xor}
use lib.ListN.{set, length-set}
use lib.Seq.{sets}
use borrow.Author.Tests.{eqb-false}
use Rattle.std.specs.Prelude.{Result, Ok, Err}
use Rattle.wire_encoding.specs.Result.{mapped, and_then, or_else, require}
use Rattle.wire_encoding.specs.BigEndian.{big_endian, bytes_of}
use Rattle.wire_encoding.proofs.Lists.{Bytes, set-left, sets-left}
use Rattle.wire_encoding.proofs.BigEndian.{length_bytes_of, number_left}
use Rattle.errors.specs.declared.path_error.PathError.{PathError}
use Rattle.errors.specs.declared.path_error.PathError.TheVariants.{AtLastHopField}
use Rattle.path_fields.specs.Fields.{peering}
use Rattle.path_meta_header.specs.MetaHeader.{info_fields_count, hop_fields_count, segment_of, info_start, hop_start}
use Rattle.path_meta_header.specs.declared.PathMetaHeader.{PathMetaHeader}
use Rattle.path.specs.Standard.{info_at}
use Rattle.path.specs.Dataplane.{path_of, written_answer}
use Rattle.path.proofs.Reading.{Readable, standard_read}
use Rattle.path.proofs.Kept.{readable_after}
use Rattle.path_moves.specs.Rules.{owner_of, some_peering, peering_allowed, movable}
use Rattle.path_moves.specs.Moves.{CanMove, Way, code_of, takes_in, move_bytes, is_last, move, moved, moved_meta, iterate, walk_moves, walk, walked}
use Rattle.path_moves.specs.Moves.{walk_answer}
use Rattle.path_moves.proofs.Rules.{known, owner_below}
use Rattle.path_moves.proofs.Moves.{Standing, can_move, standing, moved_known}
use Rattle.path_moves.proofs.Sums.{after}
use Rattle.bytes_after_path.specs.BytesAfterPath.{before, way_before, ChangedAlike}
use Rattle.bytes_after_path.proofs.Calls.{path-after, info-after, peering_path_after, alert_after, alert_record_after}

-- WHICH PATHS CAN BE MOVED

module _ (p t : List ℕ) (m : PathMetaHeader) (r : Readable p m) where
  some_peering_after : (n : ℕ) → n ≤ info_fields_count m → some_peering (p ++ t) n ≡ some_peering p n
  unfolding some_peering
  some_peering_after zero l = refl
  some_peering_after (suc n) l =
      ap₂ (λ (a b : Bool). a || b) (some_peering_after n (omega arith)) (ap (λ info. peering info) (info-after p t m r n (omega arith)))

  movable-after : movable 1 (p ++ t) ≡ movable 1 p
  unfolding movable peering_allowed
  movable-after =
      rw (
        standard_read (p ++ t) m (readable_after p t m r),
        standard_read p m r,
        some_peering_after (info_fields_count m) (omega arith),
        peering_path_after p t m r,
      )

-- ONE MOVE

move_bytes_after : (p t : List ℕ) (m : PathMetaHeader) → CanMove p m → move_bytes (p ++ t) m ≡ move_bytes p m ++ t
unfolding move_bytes takes_in
move_bytes_after p t m can =
    rw (
      info-after p t m (known 1 p can.able).path k s.info,
      number_left 2 p t (hop_start m owner + 6) (omega (arith, s.whole, owner_below (info_at p k) h (hop_fields_count m) s.hop)),
      number_left 2 p t at (omega (arith, s.whole, s.info)),
      set-left p t 0 byte (omega (arith, s.whole)),
    )
    (go (takes_in p m k h))
  where
    s : Standing p m
    s = standing p m can

    k : ℕ
    k = m.current_info_field

    h : ℕ
    h = m.current_hop_field

    owner : ℕ
    owner = owner_of (info_at p k) h

    at : ℕ
    at = info_start k + 2

    byte : ℕ
    byte = segment_of m (h + 1) * 64 + (h + 1)

    number : ℕ
    number = bit_xor (big_endian 2 p at) (code_of p m owner)

    go : (taken : Bool) → cond taken (sets (set p 0 byte ++ t) at (bytes_of 2 number)) (set p 0 byte ++ t)
        ≡ cond taken (sets (set p 0 byte) at (bytes_of 2 number)) (set p 0 byte) ++ t
    go true = sets-left (bytes_of 2 number) (set p 0 byte) t at (simp (length-set, length_bytes_of) (omega (arith, s.whole, s.info)))
    go false = refl

module _ (p t : List ℕ) (m : PathMetaHeader) (r : Readable p m) where
  -- what holds where both are moved, and where both are refused, holds of both
  by_move : (P : Result (List ℕ) PathError → Result (List ℕ) PathError → Type 0)
      → ((m : PathMetaHeader) → CanMove p m → P (Ok (move_bytes p m ++ t)) (Ok (move_bytes p m)))
      → ((error : PathError) → P (Err error) (Err error)) → P (move 1 (p ++ t)) (move 1 p)
  unfolding move is_last
  by_move P made refusal = rw (movable-after p t m r) (go (movable 1 p) refl)
    where
      left : List ℕ → PathMetaHeader → Result (List ℕ) PathError
      left bytes m = require (not (is_last m m.current_hop_field)) AtLastHopField (Ok (move_bytes bytes m))

      step : (m : PathMetaHeader) → movable 1 p ≡ Ok m → (last : Bool) → is_last m m.current_hop_field ≡ last
          → P (require (not last) AtLastHopField (Ok (move_bytes (p ++ t) m))) (require (not last) AtLastHopField (Ok (move_bytes p m)))
      step m able true e = refusal AtLastHopField
      step m able false e =
          let can = can_move p m able (eqb-false (m.current_hop_field + 1) (hop_fields_count m) e) in
          rw (move_bytes_after p t m can) (made m can)

      go : (able : Result PathMetaHeader PathError) → movable 1 p ≡ able → P (and_then able (left (p ++ t))) (and_then able (left p))
      go (Ok m) e = step m e (is_last m m.current_hop_field) refl
      go (Err error) e = refusal error

  one_move_after : move 1 (p ++ t) ≡ mapped (before t) (move 1 p)
  one_move_after = by_move (λ x y. x ≡ mapped (before t) y) (λ m can. refl) (λ error. refl)

  moved-after : moved 1 (p ++ t) ≡ moved 1 p ++ t
  unfolding moved
  moved-after = by_move (λ x y. or_else x (p ++ t) ≡ or_else y p ++ t) (λ m can. refl) (λ error. refl)

  move_record_after : Bytes p → written_answer 1 (move 1 (p ++ t)) ≡ written_answer 1 (move 1 p)
  unfolding written_answer
  move_record_after small =
      by_move (λ x y. written_answer 1 x ≡ written_answer 1 y)
      (λ m can. ap Ok (path-after (move_bytes p m) t (moved_meta p m) (moved_known p m can small).path)) (λ error. refl)

-- A WALK

module _ (p t : List ℕ) (small : Bytes p) (m : PathMetaHeader) (able : movable 1 p ≡ Ok m) where
  moves_after : (n : ℕ) → m.current_hop_field + n < hop_fields_count m → iterate n (moved 1) (p ++ t) ≡ iterate n (moved 1) p ++ t
  moves_after zero h = refl
  moves_after (suc n) h =
      let here = after p small m able n (omega arith) in
      ap (moved 1) (moves_after n (omega arith))
      ∙ moved-after (iterate n (moved 1) p) t here.left (known 1 (iterate n (moved 1) p) here.walking.able).path

  -- the moves of a walk end at the last hop field
  walk_inside : (limit : ℕ) → m.current_hop_field + walk_moves m limit < hop_fields_count m
  unfolding walk_moves
  walk_inside limit = omega (arith, (known 1 p able).path.sound_meta.hop)

  left_after : (limit : ℕ) → path_of 1 (iterate (walk_moves m limit) (moved 1) p ++ t) ≡ path_of 1 (iterate (walk_moves m limit) (moved 1) p)
  left_after limit =
      let left = iterate (walk_moves m limit) (moved 1) p in
      let there = after p small m able (walk_moves m limit) (walk_inside limit) in
      path-after left t there.left (known 1 left there.walking.able).path

module _ (p t : List ℕ) (small : Bytes p) (m : PathMetaHeader) (r : Readable p m) (limit : ℕ) where
  abbrev gone : List ℕ → PathMetaHeader → Way
  gone bytes m =
      record {
        bytes = iterate (walk_moves m limit) (moved 1) bytes;
        moves = walk_moves m limit;
        arrived = is_last m (m.current_hop_field + walk_moves m limit);
      }

  by_walk : (P : Result Way PathError → Result Way PathError → Type 0)
      → ((m : PathMetaHeader) → movable 1 p ≡ Ok m → P (Ok (way_before t (gone p m))) (Ok (gone p m)))
      → ((error : PathError) → P (Err error) (Err error)) → P (walk 1 (p ++ t) limit) (walk 1 p limit)
  unfolding walk
  by_walk P made refusal = rw (movable-after p t m r) (go (movable 1 p) refl)
    where
      go : (able : Result PathMetaHeader PathError) → movable 1 p ≡ able
          → P (and_then able (λ m. Ok (gone (p ++ t) m))) (and_then able (λ m. Ok (gone p m)))
      go (Ok m) e = rw (moves_after p t small m e (walk_moves m limit) (walk_inside p t small m e limit)) (made m e)
      go (Err error) e = refusal error

  walk_after : walk 1 (p ++ t) limit ≡ mapped (way_before t) (walk 1 p limit)
  walk_after = by_walk (λ x y. x ≡ mapped (way_before t) y) (λ m able. refl) (λ error. refl)

  walked-after : walked 1 (p ++ t) limit ≡ walked 1 p limit ++ t
  unfolding walked
  walked-after =
      by_walk (λ x y. or_else (mapped (λ (w : Way). w.bytes) x) (p ++ t) ≡ or_else (mapped (λ (w : Way). w.bytes) y) p ++ t) (λ m able. refl)
      (λ error. refl)

  walk_record_after : walk_answer 1 (walk 1 (p ++ t) limit) ≡ walk_answer 1 (walk 1 p limit)
  unfolding walk_answer
  walk_record_after =
      by_walk (λ x y. walk_answer 1 x ≡ walk_answer 1 y) (λ m able. rw (left_after p t small m able limit)) (λ error. refl)

-- ALL OF THEM

pub changed_alike : (p t : List ℕ) → Bytes p → (m : PathMetaHeader) → Readable p m → ChangedAlike p t
changed_alike p t small m r =
    record {
      alert = alert_after p t m r;
      one_move = one_move_after p t m r;
      moves = walk_after p t small m r;
      after_move = moved-after p t m r;
      after_walk = walked-after p t small m r;
      alert_record = alert_record_after p t m r;
      move_record = move_record_after p t m r small;
      walk_record = walk_record_after p t small m r;
    }
