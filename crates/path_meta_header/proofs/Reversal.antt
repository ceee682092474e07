-- The lengths in opposite order, row by row: none, one, two or three of them. They count as many fields, and hop field N − 1 − j of
-- the one lies in segment I − 1 − k where hop field j of the other lies in segment k, so segment k of the one is segment I − 1 − k of
-- the other, counted from its end; by cases on one, two or three segments.
-- Assumes nothing.
use mathlib.Core.Path.{◌≡◌, refl, sym}
use mathlib.Core.Bool.{Bool, true, false, cond}
use mathlib.Core.List.{List, [], ◌∷◌, ◌++◌, reverse}
use Prim.Native.Nat.{ℕ, zero, suc, ◌+◌, ◌-◌, ◌≤◌, ◌<◌}
use native.Mathlib.Omega.{arith}
use lib.ListN.{length, get_or, take, replicate}
use lib.Dec.{eqb}
use borrow.Author.Tests.{eq-eqb, ne_eqb}
use Rattle.wire_encoding.proofs.Lists.{by_lt}
use Rattle.path_meta_header.specs.declared.PathMetaHeader.{PathMetaHeader}
use Rattle.path_meta_header.specs.MetaHeader.{segment_length, info_fields_count, hop_fields_count, segment_of, first_hop_field, lengths_valid}
use Rattle.path_meta_header.specs.Reversal.{reversed_lengths}
use Rattle.path_meta_header.proofs.MetaHeader.{Lengths, Segments, one, two, three, segments, in_first, in_second, in_third}

unfoldable pub row_of : ℕ → ℕ → ℕ → List ℕ
row_of a b c =
    cond (eqb a 0) (0 ∷ 0 ∷ 0 ∷ [])
    (cond (eqb b 0) (a ∷ 0 ∷ 0 ∷ []) (cond (eqb c 0) (b ∷ a ∷ 0 ∷ []) (c ∷ b ∷ a ∷ [])))

pub row_is : (m : PathMetaHeader) → reversed_lengths m ≡ row_of (segment_length m 0) (segment_length m 1) (segment_length m 2)
unfolding reversed_lengths info_fields_count row_of
row_is m =
    go (segment_length m 0) (segment_length m 1) (segment_length m 2) (eqb (segment_length m 0) 0) (eqb (segment_length m 1) 0) (eqb (segment_length m 2) 0)
  where
    go : (a b c : ℕ) (x y z : Bool)
        → reverse (take (cond x 0 (cond y 1 (cond z 2 3))) (a ∷ b ∷ c ∷ [])) ++ replicate (3 - cond x 0 (cond y 1 (cond z 2 3))) 0
        ≡ cond x (0 ∷ 0 ∷ 0 ∷ []) (cond y (a ∷ 0 ∷ 0 ∷ []) (cond z (b ∷ a ∷ 0 ∷ []) (c ∷ b ∷ a ∷ [])))
    go a b c true y z = refl
    go a b c false true z = refl
    go a b c false false true = refl
    go a b c false false false = refl

-- three they stay
pub length-reversed_lengths : (m : PathMetaHeader) → length (reversed_lengths m) ≡ 3
unfolding row_of
length-reversed_lengths m =
    rw (row_is m)
    (go (segment_length m 0) (segment_length m 1) (segment_length m 2) (eqb (segment_length m 0) 0) (eqb (segment_length m 1) 0)
    (eqb (segment_length m 2) 0))
  where
    go : (a b c : ℕ) (x y z : Bool)
        → length (cond x (0 ∷ 0 ∷ 0 ∷ []) (cond y (a ∷ 0 ∷ 0 ∷ []) (cond z (b ∷ a ∷ 0 ∷ []) (c ∷ b ∷ a ∷ [])))) ≡ 3
    go a b c true y z = refl
    go a b c false true z = refl
    go a b c false false true = refl
    go a b c false false false = refl

-- TWO HEADERS OF OPPOSITE LENGTHS

-- n lengths, and the same in opposite order
pub data Rows (a b c a' b' c' n : ℕ) : Type 0 where
  row_one : 1 ≤ a → b ≡ 0 → c ≡ 0 → a' ≡ a → b' ≡ 0 → c' ≡ 0 → n ≡ 1 → Rows a b c a' b' c' n
  row_two : 1 ≤ a → 1 ≤ b → c ≡ 0 → a' ≡ b → b' ≡ a → c' ≡ 0 → n ≡ 2 → Rows a b c a' b' c' n
  row_three : 1 ≤ a → 1 ≤ b → 1 ≤ c → a' ≡ c → b' ≡ b → c' ≡ a → n ≡ 3 → Rows a b c a' b' c' n

abbrev pub RowsOf : PathMetaHeader → PathMetaHeader → ℕ → Type 0
RowsOf m t n = Rows (segment_length m 0) (segment_length m 1) (segment_length m 2) (segment_length t 0) (segment_length t 1) (segment_length t 2) n

not_zero : (a : ℕ) → 1 ≤ a → eqb a 0 ≡ false
not_zero a h = ne_eqb a 0 (λ e. omega arith)

by_segments : {a b c n : ℕ} → Segments a b c n
    → Rows a b c (get_or (row_of a b c) 0 0) (get_or (row_of a b c) 1 0) (get_or (row_of a b c) 2 0) n
unfolding row_of
by_segments {a} {b} {c} (one x y z) = rw (not_zero a x, eq-eqb b 0 y) (row_one x y z refl refl refl refl)
by_segments {a} {b} {c} (two x y z) = rw (not_zero a x, not_zero b y, eq-eqb c 0 z) (row_two x y z refl refl refl refl)
by_segments {a} {b} {c} (three x y z) = rw (not_zero a x, not_zero b y, not_zero c z) (row_three x y z refl refl refl refl)

-- the lengths reversed are such a row
pub rows : (m t : PathMetaHeader) → lengths_valid m ≡ true → t.segment_lengths ≡ reversed_lengths m → RowsOf m t (info_fields_count m)
rows m t valid e = rw (e, row_is m) (by_segments (segments m valid))

-- and so is the first of the second
pub rows_back : {a b c a' b' c' n : ℕ} → Rows a b c a' b' c' n → Rows a' b' c' a b c n
rows_back (row_one x y z p q r e) = row_one (omega arith) q r (sym p) y z e
rows_back (row_two x y z p q r e) = row_two (omega arith) (omega arith) r (sym q) (sym p) z e
rows_back (row_three x y z p q r e) = row_three (omega arith) (omega arith) (omega arith) (sym r) (sym q) (sym p) e

-- what they say of the counts
pub rows_infos : (m t : PathMetaHeader) (n : ℕ) → RowsOf m t n → info_fields_count m ≡ n
unfolding info_fields_count
rows_infos m t n (row_one x y z p q r e) = rw (not_zero (segment_length m 0) x, eq-eqb (segment_length m 1) 0 y) (sym e)
rows_infos m t n (row_two x y z p q r e) =
    rw (not_zero (segment_length m 0) x, not_zero (segment_length m 1) y, eq-eqb (segment_length m 2) 0 z) (sym e)
rows_infos m t n (row_three x y z p q r e) =
    rw (not_zero (segment_length m 0) x, not_zero (segment_length m 1) y, not_zero (segment_length m 2) z) (sym e)

pub rows_hops : (m t : PathMetaHeader) (n : ℕ) → RowsOf m t n → hop_fields_count t ≡ hop_fields_count m
unfolding hop_fields_count
rows_hops m t n (row_one x y z p q r e) = omega arith
rows_hops m t n (row_two x y z p q r e) = omega arith
rows_hops m t n (row_three x y z p q r e) = omega arith

pub rows_valid : (m t : PathMetaHeader) (n : ℕ) → RowsOf m t n → lengths_valid m ≡ true
unfolding lengths_valid
rows_valid m t n (row_one x y z p q r e) =
    rw (not_zero (segment_length m 0) x, eq-eqb (segment_length m 1) 0 y) (eq-eqb (segment_length m 2) 0 z)
rows_valid m t n (row_two x y z p q r e) = rw (not_zero (segment_length m 0) x, not_zero (segment_length m 1) y)
rows_valid m t n (row_three x y z p q r e) = rw (not_zero (segment_length m 0) x, not_zero (segment_length m 1) y)

-- each of six bits
pub rows_fit : (m t : PathMetaHeader) (n : ℕ) → RowsOf m t n → Lengths m
    → (segment_length t 0 < 64) × (segment_length t 1 < 64) × (segment_length t 2 < 64) × (n ≤ 3)
rows_fit m t n (row_one x y z p q r e) l = omega (arith, l.first)
rows_fit m t n (row_two x y z p q r e) l = omega (arith, l.first, l.second)
rows_fit m t n (row_three x y z p q r e) l = omega (arith, l.first, l.second, l.third)

-- opposite order twice
pub rows_twice : {a b c a' b' c' n : ℕ} → Rows a b c a' b' c' n → row_of a' b' c' ≡ a ∷ b ∷ c ∷ []
unfolding row_of
rows_twice {a} {b} {c} {a'} {b'} {c'} (row_one x y z p q r e) =
    rw (not_zero a' (omega arith), eq-eqb b' 0 q) (rw (p, y, z))
rows_twice {a} {b} {c} {a'} {b'} {c'} (row_two x y z p q r e) =
    rw (not_zero a' (omega arith), not_zero b' (omega arith), eq-eqb c' 0 r) (rw (p, q, z))
rows_twice {a} {b} {c} {a'} {b'} {c'} (row_three x y z p q r e) =
    rw (not_zero a' (omega arith), not_zero b' (omega arith), not_zero c' (omega arith)) (rw (p, q, r))

-- of two segments: the first length of the one and that of the other are all hop fields
pub rows_first : (m t : PathMetaHeader) (n : ℕ) → RowsOf m t n → n ≡ 2 → segment_length t 0 + segment_length m 0 ≡ hop_fields_count m
unfolding hop_fields_count
rows_first m t n (row_one x y z p q r e) h = absurd (omega arith)
rows_first m t n (row_two x y z p q r e) h = omega arith
rows_first m t n (row_three x y z p q r e) h = absurd (omega arith)

-- hop field 0 lies in the first segment
pub rows_start : (m t : PathMetaHeader) (n : ℕ) → RowsOf m t n → segment_of t 0 ≡ 0
rows_start m t n (row_one x y z p q r e) = in_first t 0 (omega arith)
rows_start m t n (row_two x y z p q r e) = in_first t 0 (omega arith)
rows_start m t n (row_three x y z p q r e) = in_first t 0 (omega arith)

-- the segments in opposite order
pub rows_segment : (m t : PathMetaHeader) (n : ℕ) → RowsOf m t n → (j : ℕ) → j < hop_fields_count m
    → segment_of t (hop_fields_count m - 1 - j) ≡ n - 1 - segment_of m j
unfolding hop_fields_count
rows_segment m t n (row_one x y z p q r e) j l =
    let i : ℕ = hop_fields_count m - 1 - j in
    omega (arith, in_first m j (omega arith), in_first t i (omega arith))
rows_segment m t n (row_two x y z p q r e) j l =
    let i : ℕ = hop_fields_count m - 1 - j in
    by_lt j (segment_length m 0)
    (λ h. omega (arith, in_first m j h, in_second t i (omega arith) (omega arith)))
    (λ h. omega (arith, in_second m j h (omega arith), in_first t i (omega arith)))
rows_segment m t n (row_three x y z p q r e) j l =
    let i : ℕ = hop_fields_count m - 1 - j in
    by_lt j (segment_length m 0)
    (λ h. omega (arith, in_first m j h, in_third t i (omega arith)))
    (λ h. by_lt j (segment_length m 0 + segment_length m 1)
    (λ s. omega (arith, in_second m j h s, in_second t i (omega arith) (omega arith)))
    (λ s. omega (arith, in_third m j s, in_first t i (omega arith))))

-- segment k is as long as segment n − 1 − k of the other, and begins where that ends, counted from the other end
pub record Runs (m t : PathMetaHeader) (k k' : ℕ) : Type 0 where
  pub long : segment_length t k ≡ segment_length m k'
  pub apart : first_hop_field t k + first_hop_field m k' + segment_length m k' ≡ hop_fields_count m

pub rows_run : (m t : PathMetaHeader) (n : ℕ) → RowsOf m t n → (k : ℕ) → k < n → Runs m t k (n - 1 - k)
unfolding first_hop_field hop_fields_count
rows_run m t n (row_one x y z p q r e) zero l = rw e (record { long = p; apart = omega arith })
rows_run m t n (row_one x y z p q r e) (suc k) l = absurd (omega arith)
rows_run m t n (row_two x y z p q r e) zero l = rw e (record { long = p; apart = omega arith })
rows_run m t n (row_two x y z p q r e) (suc zero) l = rw e (record { long = q; apart = omega arith })
rows_run m t n (row_two x y z p q r e) (suc (suc k)) l = absurd (omega arith)
rows_run m t n (row_three x y z p q r e) zero l = rw e (record { long = p; apart = omega arith })
rows_run m t n (row_three x y z p q r e) (suc zero) l = rw e (record { long = q; apart = omega arith })
rows_run m t n (row_three x y z p q r e) (suc (suc zero)) l = rw e (record { long = r; apart = omega arith })
rows_run m t n (row_three x y z p q r e) (suc (suc (suc k))) l = absurd (omega arith)
