-- A path's expiry hangs on its timestamps and expiry bytes alone, so bytes in which these are the same have the same; none of its hop
-- fields expires before it, and it is bounded.
-- Assumes nothing.
use Prim.Native.Nat.{ℕ, zero, suc, ◌+◌, ◌-◌, ◌*◌, ◌<◌, ◌≤◌}
use mathlib.Core.Path.{◌≡◌, refl, ap, ap₂, ◌∙◌}
use mathlib.Core.List.{List}
use native.Mathlib.Omega.{arith}
use lib.ListN.{get_or, set}
use lib.Seq.{get_or-set_other}
use Rattle.wire_encoding.proofs.Lists.{bytes_of_lem}
use Rattle.wire_encoding.proofs.BigEndian.{number_by_get_or, below}
use Rattle.path_meta_header.specs.MetaHeader.{info_fields_count, hop_fields_count, first_hop_field, segment_length, path_length, info_start, hop_start}
use Rattle.path_meta_header.specs.declared.PathMetaHeader.{PathMetaHeader}
use Rattle.path_meta_header.proofs.MetaHeader.{Sound, segment_within}
use Rattle.path_fields.specs.Fields.{info_field_at, hop_field_at, expiry_offset, expiry_time}
use Rattle.path_least_expiry.specs.Expiry.{least, hop_expiry, segment_expiry, path_expiry, least_expiry, NoneBefore, NoneBelow, NoneAbove}
use Rattle.path_least_expiry.proofs.Least.{least-same, least_below, least_above}

pub none_before : NoneBefore
unfolding path_expiry segment_expiry
none_before bytes m k j l h =
    omega (
      arith,
      least_below (segment_expiry bytes m) (info_fields_count m - 1) k (omega arith),
      least_below (hop_expiry bytes m k) (segment_length m k - 1) j (omega arith),
    )

-- every hop field of every segment has at least one step of 337,500 ms
pub none_below : NoneBelow
unfolding path_expiry segment_expiry hop_expiry expiry_time expiry_offset
none_below bytes m =
    least_above (segment_expiry bytes m) (info_fields_count m - 1) least_expiry
    (λ k. least_above (hop_expiry bytes m k) (segment_length m k - 1) least_expiry (λ j. omega arith))

-- the first hop field of the first segment is bounded
pub none_above : NoneAbove
unfolding path_expiry segment_expiry hop_expiry expiry_time expiry_offset info_field_at hop_field_at
none_above bytes m small =
    omega (
      arith,
      least_below (segment_expiry bytes m) (info_fields_count m - 1) 0 (omega arith),
      least_below (hop_expiry bytes m 0) (segment_length m 0 - 1) 0 (omega arith),
      below bytes (bytes_of_lem bytes small) (info_start 0 + 4) 4,
      small (hop_start m (first_hop_field m 0 + 0) + 1),
    )

-- THE SAME WHERE IT LOOKS

module _ (x y : List ℕ) (m : PathMetaHeader)
    (times : (k : ℕ) → k < info_fields_count m → (i : ℕ) → info_start k + 4 ≤ i → i < info_start k + 4 + 4 → get_or y i 0 ≡ get_or x i 0)
    (ends : (j : ℕ) → j < hop_fields_count m → get_or y (hop_start m j + 1) 0 ≡ get_or x (hop_start m j + 1) 0) where
  segment-same : (k : ℕ) → k < info_fields_count m → segment_expiry y m k ≡ segment_expiry x m k
  unfolding segment_expiry hop_expiry info_field_at hop_field_at
  segment-same k l =
      let w = segment_within m k l in
      least-same (hop_expiry y m k) (hop_expiry x m k) (segment_length m k - 1)
      (λ j h. ap₂ expiry_time (number_by_get_or y x 4 (info_start k + 4) (times k l)) (ends (first_hop_field m k + j) (omega arith)))

  pub expiry_same : Sound m → path_expiry y m ≡ path_expiry x m
  unfolding path_expiry
  expiry_same sound =
      least-same (segment_expiry y m) (segment_expiry x m) (info_fields_count m - 1) (λ k h. segment-same k (omega (arith, sound.info)))

-- and of the header it hangs on the lengths alone
module _ (bytes : List ℕ) (m n : PathMetaHeader) (e : n.segment_lengths ≡ m.segment_lengths) where
  infos_same : info_fields_count n ≡ info_fields_count m
  unfolding info_fields_count
  infos_same = rw e

  first-same : (k : ℕ) → first_hop_field n k ≡ first_hop_field m k
  unfolding first_hop_field
  first-same zero = refl
  first-same (suc k) = ap₂ (λ (first length : ℕ). first + length) (first-same k) (ap (λ (lengths : List ℕ). get_or lengths k 0) e)

  segment_lengths : (k : ℕ) → segment_expiry bytes n k ≡ segment_expiry bytes m k
  unfolding segment_expiry hop_expiry hop_field_at
  segment_lengths k =
      let time : ℕ = (info_field_at bytes (info_start k)).timestamp in
      ap (λ (lengths : List ℕ). least (hop_expiry bytes n k) (get_or lengths k 0 - 1)) e
      ∙ least-same (hop_expiry bytes n k) (hop_expiry bytes m k) (segment_length m k - 1)
      (λ j h. ap₂ (λ (i first : ℕ). expiry_time time (get_or bytes (info_start i + (first + j) * 12 + 1) 0)) infos_same (first-same k))

  pub expiry_lengths : path_expiry bytes n ≡ path_expiry bytes m
  unfolding path_expiry
  expiry_lengths =
      ap (λ (i : ℕ). least (segment_expiry bytes n) (i - 1)) infos_same
      ∙ least-same (segment_expiry bytes n) (segment_expiry bytes m) (info_fields_count m - 1) (λ k h. segment_lengths k)

-- so it is the same of bytes that begin with the same path: a copy, or one with other bytes after it
pub expiry_within : (x y : List ℕ) (m : PathMetaHeader) → Sound m → ((i : ℕ) → i < path_length m → get_or y i 0 ≡ get_or x i 0)
    → path_expiry y m ≡ path_expiry x m
unfolding path_length
expiry_within x y m sound e = expiry_same x y m (λ k l i a b. e i (omega arith)) (λ j l. e (hop_start m j + 1) (omega arith)) sound

-- and after a write to the flags of a hop field, which are the byte before its expiry byte
pub expiry_flags : (x : List ℕ) (m : PathMetaHeader) (j v : ℕ) → Sound m → path_expiry (set x (hop_start m j) v) m ≡ path_expiry x m
expiry_flags x m j v sound =
    expiry_same x (set x (hop_start m j) v) m
    (λ k l i a b. get_or-set_other x (hop_start m j) i v 0 (λ e. omega arith))
    (λ h l. get_or-set_other x (hop_start m j) (hop_start m h + 1) v 0 (λ e. omega arith))
    sound
