-- The mirror image of a path: the path reversed, with its pointers at the mirrored position. It is a path like the first, its own mirror
-- image is the first, and at its last hop field a path is reversed into it.
-- Assumes nothing.
use Prim.Native.Nat.{ℕ, ◌+◌, ◌-◌, ◌*◌, ◌≤◌, ◌<◌}
use mathlib.Core.Path.{◌≡◌, refl, sym, ap, ap₂, ◌∙◌, subst}
use mathlib.Core.Bool.{Bool, true, false, not, ◌&&◌, ◌||◌}
use mathlib.Core.List.{List, ◌++◌}
use native.Mathlib.Omega.{arith}
use lib.Dec.{eqb}
use lib.ListN.{length}
use Rattle.wire_encoding.specs.BigEndian.{big_endian, bytes_of, part}
use Rattle.wire_encoding.proofs.Lists.{Bytes}
use Rattle.path_fields.specs.Fields.{peering}
use Rattle.path_fields.proofs.Fields.{direction_flipped, peering-flipped}
use Rattle.path_meta_header.specs.MetaHeader.{info_fields_count, hop_fields_count, path_length, segment_of, hop_start}
use Rattle.path_meta_header.specs.Reversal.{at_start, reversed_meta}
use Rattle.path_meta_header.specs.Encoding.{word_of}
use Rattle.path_meta_header.specs.declared.PathMetaHeader.{PathMetaHeader}
use Rattle.path_meta_header.proofs.MetaHeader.{same_meta, Lengths, lengths_read}
use Rattle.path_meta_header.proofs.Reversal.{row_is, length-reversed_lengths, row_one, row_two, row_three, RowsOf, rows, rows_back, rows_infos}
use Rattle.path_meta_header.proofs.Reversal.{rows_hops, rows_valid, rows_fit, rows_twice, rows_start, rows_segment}
use Rattle.path_meta_header.proofs.Encoding.{Fitting}
use Rattle.path.specs.Standard.{info_at, both_peering, peering_path}
use Rattle.path_reverse.specs.Reverse.{reversed_under, reversed_path}
use Rattle.path_reverse.proofs.Reverse.{length_reversed}
use Rattle.path_reverse.proofs.Reversed.{bytes_reversed, reversed_word, reversed_hop_field, reversed_info_field}
use Rattle.path_reverse.proofs.Twice.{fields_twice}
use Rattle.path_moves.specs.Rules.{some_peering, peering_allowed}
use Rattle.path_moves.proofs.Rules.{Known}
use Rattle.round_trip.specs.Mirror.{reversed_meta_at, mirror_meta, mirror}
use Rattle.round_trip.proofs.Fields.{Spells, spelt_out}

-- a path that can be moved, exactly its bytes, its reserved bits zero
pub record Path (x : List ℕ) (m : PathMetaHeader) : Type 0 where
  pub known : Known x m
  pub small : Bytes x
  pub exact : length x ≡ path_length m
  pub clear : m.reserved ≡ 0

pub spells : {x : List ℕ} {m : PathMetaHeader} → Path x m → Spells x m
spells p = record { small = p.small; exact = p.exact; word = p.known.path.word }

-- PEERING IN EITHER ORDER

two_ways : (a b : Bool) → not (b || a) || (b && a) ≡ not (a || b) || (a && b)
two_ways true true = refl
two_ways true false = refl
two_ways false true = refl
two_ways false false = refl

three_ways : (a b c : Bool) → not ((c || b) || a) || false ≡ not ((a || b) || c) || false
three_ways true true true = refl
three_ways true true false = refl
three_ways true false true = refl
three_ways true false false = refl
three_ways false true true = refl
three_ways false true false = refl
three_ways false false true = refl
three_ways false false false = refl

-- THE MIRRORED PATH

module _ (x : List ℕ) (m : PathMetaHeader) (path : Path x m) where
  abbrev I : ℕ
  I = info_fields_count m

  abbrev N : ℕ
  N = hop_fields_count m

  abbrev t : PathMetaHeader
  t = mirror_meta m

  pub info_below : m.current_info_field < info_fields_count m
  info_below = path.known.path.sound_meta.info

  pub hop_below : m.current_hop_field < hop_fields_count m
  hop_below = path.known.path.sound_meta.hop

  pub hop_named : segment_of m m.current_hop_field ≡ m.current_info_field
  hop_named = path.known.path.sound_meta.segment

  -- exactly its fields
  pub path-whole : length x ≡ 4 + info_fields_count m * 8 + hop_fields_count m * 12
  unfolding path_length
  path-whole = path.exact

  lengths : Lengths m
  lengths = subst Lengths (sym path.known.path.word) (lengths_read (big_endian 4 x 0))

  pub rows_reversed : (k h : ℕ) → RowsOf m (reversed_meta_at k h m) (info_fields_count m)
  unfolding reversed_meta_at
  rows_reversed k h = rows m (reversed_meta_at k h m) path.known.path.sound_meta.lengths refl

  pub rows_mirror : RowsOf m (mirror_meta m) (info_fields_count m)
  unfolding mirror_meta
  rows_mirror = rows_reversed _ _

  pub mirror_infos : info_fields_count (mirror_meta m) ≡ info_fields_count m
  mirror_infos = rows_infos t m I (rows_back rows_mirror)

  pub mirror-hops : hop_fields_count (mirror_meta m) ≡ hop_fields_count m
  mirror-hops = rows_hops m t I rows_mirror

  mirror-length : path_length (mirror_meta m) ≡ path_length m
  unfolding path_length
  mirror-length = omega (arith, mirror_infos, mirror-hops)

  mirror-fits : Fitting (mirror_meta m)
  unfolding mirror_meta reversed_meta_at
  mirror-fits =
      let f = rows_fit m t I rows_mirror lengths in
      record {
        info = omega (arith, info_below);
        hop = omega (arith, path.known.few, hop_below);
        rsv = omega arith;
        first = f.0;
        second = f.1;
        third = f.2;
      }

  whole : path_length m ≤ length x
  whole = path.known.path.whole

  pub mirror_field : (j : ℕ) → j < hop_fields_count m
      → part (hop_start m j) 12 (mirror m x) ≡ part (hop_start m (hop_fields_count m - 1 - j)) 12 x
  unfolding mirror
  mirror_field j l = reversed_hop_field m x whole t j l

  pub mirror-info : (k : ℕ) → k < info_fields_count m
      → info_at (mirror m x) k ≡ direction_flipped (info_at x (info_fields_count m - 1 - k))
  unfolding mirror
  mirror-info k l = reversed_info_field m x whole t k l

  mirror_spells : Spells (mirror m x) (mirror_meta m)
  unfolding mirror mirror_meta reversed_meta_at
  mirror_spells =
      record {
        small = bytes_reversed m x t path.small;
        exact = length_reversed m x whole t ∙ sym mirror-length;
        word = reversed_word m x t (length-reversed_lengths m) mirror-fits;
      }

  -- its peering bits are the path's
  mirror-peering : (k k' : ℕ) → k < info_fields_count m → k' ≡ info_fields_count m - 1 - k → peering (info_at (mirror m x) k) ≡ peering (info_at x k')
  mirror-peering k k' l e =
      ap peering (mirror-info k l)
      ∙ peering-flipped (info_at x (info_fields_count m - 1 - k))
      ∙ ap (λ (i : ℕ). peering (info_at x i)) (sym e)

  -- so peering is allowed where it was
  same_allowed : (n : ℕ) → n ≡ info_fields_count m → RowsOf m (mirror_meta m) n
      → not (some_peering (mirror m x) n) || (eqb n 2 && (peering (info_at (mirror m x) 0) && peering (info_at (mirror m x) 1)))
      ≡ not (some_peering x n) || (eqb n 2 && (peering (info_at x 0) && peering (info_at x 1)))
  unfolding some_peering
  same_allowed n c (row_one a b d p q r e) = rw (e, mirror-peering 0 0 (omega arith) (omega arith))
  same_allowed n c (row_two a b d p q r e) =
      rw (e, mirror-peering 0 1 (omega arith) (omega arith), mirror-peering 1 0 (omega arith) (omega arith))
      (two_ways (peering (info_at x 0)) (peering (info_at x 1)))
  same_allowed n c (row_three a b d p q r e) =
      rw (
        e,
        mirror-peering 0 2 (omega arith) (omega arith),
        mirror-peering 1 1 (omega arith) (omega arith),
        mirror-peering 2 0 (omega arith) (omega arith),
      )
      (three_ways (peering (info_at x 0)) (peering (info_at x 1)) (peering (info_at x 2)))

  mirror_allowed : peering_allowed (mirror m x) (mirror_meta m) ≡ true
  unfolding peering_allowed peering_path both_peering
  mirror_allowed = rw mirror_infos (same_allowed I refl rows_mirror ∙ path.known.peering)

  pub mirror-segment : (j : ℕ) → j < hop_fields_count m
      → segment_of (mirror_meta m) (hop_fields_count m - 1 - j) ≡ info_fields_count m - 1 - segment_of m j
  mirror-segment j l = rows_segment m t I rows_mirror j l

  mirror_hop_below : N - 1 - m.current_hop_field < hop_fields_count t
  mirror_hop_below = omega (arith, mirror-hops, hop_below)

  mirror_named : segment_of t (N - 1 - m.current_hop_field) ≡ I - 1 - m.current_info_field
  mirror_named = mirror-segment m.current_hop_field hop_below ∙ ap (λ (k : ℕ). I - 1 - k) hop_named

  mirror_info_below : (mirror_meta m).current_info_field < info_fields_count (mirror_meta m)
  unfolding mirror_meta reversed_meta_at
  mirror_info_below = omega (arith, mirror_infos, info_below)

  pub path-mirror : Path (mirror m x) (mirror_meta m)
  unfolding mirror_meta reversed_meta_at
  path-mirror =
      record {
        known = record {
          path = record {
            sound_meta = record {
              lengths = rows_valid t m I (rows_back rows_mirror);
              info = mirror_info_below;
              hop = mirror_hop_below;
              segment = mirror_named;
            };
            whole = omega (arith, mirror_spells.exact);
            word = mirror_spells.word;
          };
          few = omega (arith, mirror-hops, path.known.few);
          peering = mirror_allowed;
        };
        small = mirror_spells.small;
        exact = mirror_spells.exact;
        clear = refl;
      }

  -- MIRRORED TWICE

  meta_twice : mirror_meta (mirror_meta m) ≡ m
  unfolding mirror_meta reversed_meta_at
  meta_twice =
      same_meta (mirror_meta t) m (omega (arith, mirror_infos, info_below)) (omega (arith, mirror-hops, hop_below)) (sym path.clear)
      (row_is t ∙ rows_twice rows_mirror ∙ lengths.these)

  pub mirror_twice : mirror (mirror_meta m) (mirror m x) ≡ x
  unfolding mirror
  mirror_twice =
      fields_twice m x whole t (mirror_meta t) t mirror_infos mirror-hops
      ∙ ap (λ (h : PathMetaHeader). bytes_of 4 (word_of h) ++ part 4 (path_length m - 4) x) meta_twice
      ∙ spelt_out x m (spells path)

  -- REVERSED

  -- at its last hop field it is reversed into its mirror image
  pub reversed_path-mirror : m.current_hop_field + 1 ≡ hop_fields_count m → reversed_path m x ≡ mirror m x
  unfolding reversed_path reversed_meta at_start mirror mirror_meta reversed_meta_at
  reversed_path-mirror last =
      let h : ℕ = m.current_hop_field in
      let start : PathMetaHeader = reversed_meta_at 0 0 m in
      let opposite = rows_reversed 0 0 in
      let hop : 0 ≡ N - 1 - h = omega arith in
      let info : 0 ≡ I - 1 - m.current_info_field =
      sym (rows_start m start I opposite)
      ∙ ap (segment_of start) hop
      ∙ rows_segment m start I opposite h hop_below
      ∙ ap (λ (k : ℕ). I - 1 - k) hop_named in
      ap₂ (λ (a b : ℕ). reversed_under (reversed_meta_at a b m) m x) info hop
