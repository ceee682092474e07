-- The expiry of a segment by the least expiry byte of its run.
-- Assumes nothing.
use Prim.Native.Nat.{ℕ, zero, suc, ◌+◌, ◌*◌, ◌-◌, ◌/◌, ◌<◌, ◌≤◌, min}
use mathlib.Core.Path.{◌≡◌, refl, sym, ap, ◌∙◌}
use mathlib.Core.List.{List}
use native.Mathlib.Omega.{arith}
use lib.ListN.{length, get_or}
use Rattle.wire_encoding.specs.BigEndian.{big_endian, part}
use Rattle.wire_encoding.proofs.Lists.{length_part, get_or_part}
use Rattle.path_meta_header.specs.MetaHeader.{info_fields_count, first_hop_field, segment_length, path_length, info_start, hop_start}
use Rattle.path_meta_header.specs.declared.PathMetaHeader.{PathMetaHeader}
use Rattle.path_meta_header.proofs.Segment.{inside}
use Rattle.path_fields.specs.Fields.{info_field_at, hop_field_at, expiry_offset, expiry_time}
use Rattle.path_least_expiry.specs.Expiry.{least, exp_time_at, hop_expiry, segment_expiry}
use Rattle.path_least_expiry.proofs.Least.{least-same}

-- a later expiry byte is a later expiry, so the least byte gives the least expiry
expiry_min : (time a b : ℕ) → min (expiry_time time a) (expiry_time time b) ≡ expiry_time time (min a b)
unfolding expiry_time expiry_offset
expiry_min time a b = omega arith

least_expiry_lem : (time : ℕ) (e : ℕ → ℕ) (last : ℕ) → least (λ (j : ℕ). expiry_time time (e j)) last ≡ expiry_time time (least e last)
unfolding least
least_expiry_lem time e zero = refl
least_expiry_lem time e (suc last) =
    ap (λ (x : ℕ). min x (expiry_time time (e (suc last)))) (least_expiry_lem time e last) ∙ expiry_min time (least e last) (e (suc last))

-- the bytes of the hop fields of segment k
abbrev pub hop_run : List ℕ → PathMetaHeader → ℕ → List ℕ
hop_run bytes m k = part (hop_start m (first_hop_field m k)) (segment_length m k * 12) bytes

-- a segment that is there, in bytes that hold the path
module _ (bytes : List ℕ) (m : PathMetaHeader) (k : ℕ) (there : k < info_fields_count m) (whole : path_length m ≤ length bytes) where
  -- expiry byte j of the run is that of the segment's hop field j
  byte_in_run : (j : ℕ) → j < segment_length m k → exp_time_at (hop_run bytes m k) 0 j ≡ get_or bytes (hop_start m (first_hop_field m k + j) + 1) 0
  byte_in_run j h =
      let start = hop_start m (first_hop_field m k) in
      let e : start + (0 + j * 12 + 1) ≡ hop_start m (first_hop_field m k + j) + 1 = omega arith in
      get_or_part start (segment_length m k * 12) bytes (0 + j * 12 + 1) (omega arith)
      ∙ ap (λ (i : ℕ). get_or bytes i 0) e

  -- the segment's expiry, by the least expiry byte of its run
  pub expiry_by_run : expiry_time (big_endian 4 bytes (info_start k + 4)) (least (exp_time_at (hop_run bytes m k) 0) (length (hop_run bytes m k) / 12 - 1))
      ≡ segment_expiry bytes m k
  unfolding segment_expiry hop_expiry info_field_at hop_field_at
  expiry_by_run =
      let time = big_endian 4 bytes (info_start k + 4) in
      let size : length (hop_run bytes m k) ≡ segment_length m k * 12 = length_part _ _ bytes (inside bytes m k there whole).hops in
      let last : length (hop_run bytes m k) / 12 - 1 ≡ segment_length m k - 1 = omega arith in
      ap (λ (n : ℕ). expiry_time time (least (exp_time_at (hop_run bytes m k) 0) n)) last
      ∙ sym (least_expiry_lem time (exp_time_at (hop_run bytes m k) 0) (segment_length m k - 1))
      ∙ least-same _ _ (segment_length m k - 1) (λ j h. ap (expiry_time time) (byte_in_run j (omega (arith, (inside bytes m k there whole).one))))
