-- The accumulator by the path alone, from one hop field to the next: inside a segment it takes in what a move changes it by, in a new
-- segment it is the segment's own.
-- Assumes nothing.
use Prim.Native.Nat.{ℕ, suc, ◌+◌, ◌-◌, ◌≤◌}
use mathlib.Core.Path.{◌≡◌, refl, sym, ap, ◌∙◌}
use mathlib.Core.Bool.{Bool, true, false, not, cond}
use mathlib.Core.List.{List}
use native.Mathlib.Omega.{arith}
use lib.Bits.{bit_xor, xor_zero_r}
use borrow.Author.Tests.{eq-eqb}
use Rattle.path_meta_header.specs.MetaHeader.{segment_length, segment_of, first_hop_field}
use Rattle.path_meta_header.specs.declared.PathMetaHeader.{PathMetaHeader}
use Rattle.path_meta_header.proofs.MetaHeader.{first-before, first_entered}
use Rattle.path.specs.Standard.{info_at}
use Rattle.path.specs.Dataplane.{meta_header_of}
use Rattle.path_moves.specs.Moves.{accumulator_after, accumulator_by, change_of, code_of, takes_in}
use Rattle.path_moves.specs.Rules.{owner_of, spared}

module _ (b : List ℕ) where
  abbrev m : PathMetaHeader
  m = meta_header_of b

  pub accumulator_start : accumulator_by b 0 ≡ (info_at b (segment_of (meta_header_of b) 0)).accumulator
  unfolding accumulator_by accumulator_after
  accumulator_start =
      let none : 0 - first_hop_field m (segment_of m 0) ≡ 0 = omega arith in
      ap (accumulator_after b (segment_of m 0)) none

  -- one move more inside segment k
  accumulator_more : (k n : ℕ) → segment_of m (first_hop_field m k + n + 1) ≡ k
      → accumulator_after b k (suc n) ≡ bit_xor (accumulator_after b k n) (change_of b m k (first_hop_field m k + n))
  unfolding accumulator_after change_of takes_in
  accumulator_more k n inside =
      let info = info_at b k in
      let owner = owner_of info (first_hop_field m k + n) in
      rw (eq-eqb (segment_of m (first_hop_field m k + n + 1)) k inside)
      (go (spared info owner (segment_length m 0)) (accumulator_after b k n) (code_of b m owner))
    where
      go : (t : Bool) (a code : ℕ) → cond t a (bit_xor a code) ≡ bit_xor a (cond (not t) code 0)
      go true a code = sym (xor_zero_r a)
      go false a code = refl

  module _ (p : ℕ) where
    pub accumulator_inside : segment_of (meta_header_of b) (p + 1) ≡ segment_of (meta_header_of b) p
        → accumulator_by b (p + 1) ≡ bit_xor (accumulator_by b p) (change_of b (meta_header_of b) (segment_of (meta_header_of b) p) p)
    unfolding accumulator_by
    accumulator_inside same =
        let k : ℕ = segment_of m p in
        let before : first_hop_field m k ≤ p = first-before m p in
        let more : p + 1 - first_hop_field m k ≡ suc (p - first_hop_field m k) = omega arith in
        let at : first_hop_field m k + (p - first_hop_field m k) ≡ p = omega arith in
        let inside : segment_of m (first_hop_field m k + (p - first_hop_field m k) + 1) ≡ k = ap (λ (j : ℕ). segment_of m (j + 1)) at ∙ same in
        ap (λ (n : ℕ). accumulator_after b n (p + 1 - first_hop_field m n)) same
        ∙ ap (accumulator_after b k) more
        ∙ accumulator_more k (p - first_hop_field m k) inside
        ∙ ap (λ (n : ℕ). bit_xor (accumulator_after b k (p - first_hop_field m k)) (change_of b m k n)) at

    pub accumulator_entered : (segment_of (meta_header_of b) (p + 1) ≡ segment_of (meta_header_of b) p → ⊥)
        → accumulator_by b (p + 1) ≡ (info_at b (segment_of (meta_header_of b) (p + 1))).accumulator
    unfolding accumulator_by accumulator_after
    accumulator_entered new =
        let k : ℕ = segment_of m (p + 1) in
        let none : p + 1 - first_hop_field m k ≡ 0 = omega (arith, first_entered m p new) in
        ap (accumulator_after b k) none
