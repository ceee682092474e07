-- Every packet's bytes by its end and its count p: to the other end they are B moved p times, and to the first sender the mirror image
-- of B moved N − 1 − p times; a move, a walk and a reversal lead from one to the next.
-- Assumes nothing.
use Prim.Native.Nat.{ℕ, zero, suc, ◌+◌, ◌-◌, ◌<◌}
use mathlib.Core.Path.{◌≡◌, refl, sym, ap, ap₂, ◌∙◌}
use mathlib.Core.List.{List}
use native.Mathlib.Nat.{add-zero}
use native.Mathlib.Numerals.{add-one}
use native.Mathlib.Omega.{arith}
use lib.ListN.{length, replicate, length-replicate}
use Rattle.path_meta_header.specs.MetaHeader.{info_fields_count, hop_fields_count, path_length, segment_of}
use Rattle.path_meta_header.specs.declared.PathMetaHeader.{PathMetaHeader}
use Rattle.path_moves.specs.Moves.{at_position, iterate, move_bytes, move_from, moved, moved_meta, position_of, walked, walk_moves}
use Rattle.path_moves.proofs.Moves.{moved_is}
use Rattle.path.specs.Dataplane.{meta_header_of}
use Rattle.path_reverse.specs.Reverse.{reversed_path}
use Rattle.round_trip.specs.RoundTrip.{reversed_into, End, first, other, by_end, hop_count, met, Begun, meets, reply}
use Rattle.round_trip.specs.Mirror.{reversed_meta_at, mirror_meta, mirror}
use Rattle.round_trip.proofs.Mirror.{Path, hop_below, mirror_infos, mirror-hops, mirror_twice, path-mirror, reversed_path-mirror}
use Rattle.round_trip.proofs.Moved.{can_move, path-moved}
use Rattle.round_trip.proofs.Back.{back_before_last, moved_back}
use Rattle.round_trip.proofs.Onward.{standing_at, Onward, onward}
use Rattle.round_trip.proofs.Meetings.{met_onward, met-mirror}
use Rattle.round_trip.proofs.Calls.{path_begun, walked_moves, reverse_exact}

-- the bytes of a packet to an end, after so many moves
unfoldable pub track : List ℕ → End → ℕ → List ℕ
track b other p = iterate p (moved 1) b
track b first p = mirror (standing_at (meta_header_of b) (hop_count b - 1 - p)) (iterate (hop_count b - 1 - p) (moved 1) b)

-- and their header
unfoldable pub track_meta : List ℕ → End → ℕ → PathMetaHeader
track_meta b other p = standing_at (meta_header_of b) p
track_meta b first p = mirror_meta (standing_at (meta_header_of b) (hop_count b - 1 - p))

module _ (b : List ℕ) (g : Begun b) where
  abbrev m : PathMetaHeader
  m = meta_header_of b

  abbrev N : ℕ
  N = hop_count b

  path : Path b m
  path = path_begun b g

  at : (p : ℕ) → p < N → Onward b p (iterate p (moved 1) b)
  at p l = onward b path g.hop_start p l

  pub some_hop : 0 < hop_count b
  some_hop = omega (arith, hop_below b m path)

  -- WHAT A PACKET IS

  pub track_path : (to : End) (p : ℕ) → p < hop_count b → Path (track b to p) (track_meta b to p)
  unfolding track track_meta
  track_path other p l = (at p l).path
  track_path first p l =
      let q : ℕ = N - 1 - p in
      path-mirror (iterate q (moved 1) b) (standing_at m q) (at q (omega arith)).path

  pub track_pointer : (to : End) (p : ℕ) → p < hop_count b → (track_meta b to p).current_hop_field ≡ p
  unfolding track_meta standing_at at_position mirror_meta reversed_meta_at hop_fields_count
  track_pointer other p l = refl
  track_pointer first p l = omega arith

  pub track_hops : (to : End) (p : ℕ) → p < hop_count b → hop_fields_count (track_meta b to p) ≡ hop_count b
  unfolding track_meta standing_at at_position hop_fields_count
  track_hops other p l = refl
  track_hops first p l =
      let q : ℕ = N - 1 - p in
      mirror-hops (iterate q (moved 1) b) (standing_at m q) (at q (omega arith)).path

  pub track_met : (to : End) (p : ℕ) → p < hop_count b → met (track b to p) ≡ meets b to p
  unfolding track meets by_end
  track_met other p l = met_onward b path p (iterate p (moved 1) b) (at p l)
  track_met first p l =
      let q : ℕ = N - 1 - p in
      met-mirror b path q (iterate q (moved 1) b) (at q (omega arith))

  -- A MOVE

  -- of the mirror image of B moved q + 1 times
  module _ (q : ℕ) (l : q + 1 < hop_count b) where
    abbrev x : List ℕ
    x = iterate q (moved 1) b

    abbrev mx : PathMetaHeader
    mx = standing_at m q

    x_path : Path x mx
    x_path = (at q (omega arith)).path

    before_last : mx.current_hop_field + 1 < hop_fields_count mx
    unfolding standing_at at_position hop_fields_count
    before_last = l

    header_next : standing_at m (suc q) ≡ moved_meta x mx
    unfolding standing_at at_position moved_meta move_from position_of segment_of
    header_next = ap (standing_at m) (sym (add-one q))

    mirror-moved : moved 1 (mirror (standing_at m (suc q)) (moved 1 x)) ≡ mirror mx x
    mirror-moved =
        let y : List ℕ = move_bytes x mx in
        let my : PathMetaHeader = moved_meta x mx in
        let back : Path (mirror my y) (mirror_meta my) = path-mirror y my (path-moved x mx x_path before_last) in
        ap (moved 1) (ap₂ mirror header_next (moved_is x mx (can_move x mx x_path before_last)))
        ∙ moved_is (mirror my y) (mirror_meta my) (can_move (mirror my y) (mirror_meta my) back (back_before_last x mx x_path before_last))
        ∙ moved_back x mx x_path before_last

  pub track_moved : (to : End) (p : ℕ) → p + 1 < hop_count b → moved 1 (track b to p) ≡ track b to (p + 1)
  unfolding track
  track_moved other p l = ap (λ (n : ℕ). iterate n (moved 1) b) (sym (add-one p))
  track_moved first p l =
      let q : ℕ = N - 1 - (p + 1) in
      let up : N - 1 - p ≡ suc q = omega arith in
      ap (λ (n : ℕ). moved 1 (mirror (standing_at m n) (iterate n (moved 1) b))) up ∙ mirror-moved q (omega arith)

  -- A WALK

  track_moves : (to : End) (p n : ℕ) → p + n < hop_count b → iterate n (moved 1) (track b to p) ≡ track b to (p + n)
  track_moves to p zero l = ap (track b to) (sym (add-zero p))
  track_moves to p (suc n) l =
      let up : p + n + 1 ≡ p + suc n = omega arith in
      ap (moved 1) (track_moves to p n (omega arith)) ∙ track_moved to (p + n) (omega arith) ∙ ap (track b to) up

  -- the moves that a walk makes
  pub walk_inside : (to : End) (p : ℕ) → p < hop_count b → (limit : ℕ) → p + walk_moves (track_meta b to p) limit < hop_count b
  unfolding walk_moves
  walk_inside to p l limit = omega (arith, track_pointer to p l, track_hops to p l)

  pub track_walked : (to : End) (p : ℕ) → p < hop_count b → (limit : ℕ)
      → walked 1 (track b to p) limit ≡ track b to (p + walk_moves (track_meta b to p) limit)
  track_walked to p l limit =
      let n : ℕ = walk_moves (track_meta b to p) limit in
      walked_moves (track b to p) (track_meta b to p) (track_path to p l) limit ∙ track_moves to p n (walk_inside to p l limit)

  -- from the start
  pub track_from_start : (to : End) (p : ℕ) → p < hop_count b → walked 1 (track b to 0) p ≡ track b to p
  unfolding walk_moves
  track_from_start to p l =
      let moves : 0 + walk_moves (track_meta b to 0) p ≡ p = omega (arith, track_pointer to 0 some_hop, track_hops to 0 some_hop) in
      track_walked to 0 some_hop p ∙ ap (track b to) moves

  -- A REVERSAL

  pub track_infos : (to : End) (p : ℕ) → p < hop_count b → info_fields_count (track_meta b to p) ≡ info_fields_count (meta_header_of b)
  unfolding track_meta standing_at at_position info_fields_count
  track_infos other p l = refl
  track_infos first p l =
      let q : ℕ = N - 1 - p in
      mirror_infos (iterate q (moved 1) b) (standing_at m q) (at q (omega arith)).path

  pub track_length : (to : End) (p : ℕ) → p < hop_count b → length b ≡ path_length (track_meta b to p)
  unfolding path_length
  track_length to p l = omega (arith, path.exact, track_hops to p l, track_infos to p l)

  -- at the last hop field
  reversed_mirror : (to : End) (p : ℕ) → p + 1 ≡ hop_count b
      → reversed_path (track_meta b to p) (track b to p) ≡ mirror (track_meta b to p) (track b to p)
  reversed_mirror to p last =
      let l : p < N = omega arith in
      reversed_path-mirror (track b to p) (track_meta b to p) (track_path to p l) (omega (arith, track_pointer to p l, track_hops to p l))

  pub reversed_out : (p : ℕ) → p + 1 ≡ hop_count b → reversed_path (track_meta b other p) (track b other p) ≡ track b first 0
  unfolding track track_meta
  reversed_out p last =
      let all : p ≡ N - 1 - 0 = omega arith in
      reversed_mirror other p last ∙ ap (λ (q : ℕ). mirror (standing_at m q) (iterate q (moved 1) b)) all

  pub reversed_back : (p : ℕ) → p + 1 ≡ hop_count b → reversed_path (track_meta b first p) (track b first p) ≡ b
  unfolding track track_meta
  reversed_back p last =
      let q : ℕ = N - 1 - p in
      let none : q ≡ 0 = omega arith in
      reversed_mirror first p last
      ∙ mirror_twice (iterate q (moved 1) b) (standing_at m q) (at q (omega arith)).path
      ∙ ap (λ (n : ℕ). iterate n (moved 1) b) none

  -- THE REPLY

  pub reply_track : reply b ≡ track b first 0
  unfolding reply track
  reply_track =
      let last : ℕ = N - 1 in
      let below : last < N = omega (arith, some_hop) in
      let dst : List ℕ = replicate (length b) 0 in
      ap (λ (x : List ℕ). reversed_into x dst) (track_from_start other last below)
      ∙ reverse_exact (track b other last) (track_meta b other last) (track_path other last below) dst
      (length-replicate (length b) 0 ∙ track_length other last below)
      ∙ reversed_out last (omega (arith, some_hop))
