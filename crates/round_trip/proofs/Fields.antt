-- A path is known by its header, its info fields and its hop fields: two lists of bytes that spell the same header, are as long as it
-- says and have the same fields are the same list, for every byte is one of the header's or of a field's.
-- Assumes nothing.
use Prim.Native.Nat.{ℕ, ◌+◌, ◌-◌, ◌*◌, ◌/◌, ◌<◌}
use mathlib.Core.Path.{◌≡◌, sym, ap, ◌∙◌}
use mathlib.Core.List.{List, ◌++◌}
use native.Mathlib.Omega.{arith}
use lib.ListN.{length, get_or}
use lib.Seq.{ext_get_or, take_all}
use Rattle.wire_encoding.specs.BigEndian.{big_endian, bytes_of, part}
use Rattle.wire_encoding.proofs.Lists.{Bytes, by_lt, get_or_by_part, part_join}
use Rattle.wire_encoding.proofs.BigEndian.{below, bytes_read, part_by_number}
use Rattle.path_fields.proofs.Fields.{info_bytes}
use Rattle.path_meta_header.specs.MetaHeader.{meta_of, info_fields_count, hop_fields_count, path_length, info_start, hop_start}
use Rattle.path_meta_header.specs.Encoding.{word_of}
use Rattle.path_meta_header.specs.declared.PathMetaHeader.{PathMetaHeader}
use Rattle.path_meta_header.proofs.Encoding.{word_back}
use Rattle.path.specs.Standard.{info_at}

-- bytes that spell a header, as many as it says
pub record Spells (x : List ℕ) (m : PathMetaHeader) : Type 0 where
  pub small : Bytes x
  pub exact : length x ≡ path_length m
  pub word : m ≡ meta_of (big_endian 4 x 0)

spelt : (x : List ℕ) (m : PathMetaHeader) → Spells x m → word_of m ≡ big_endian 4 x 0
spelt x m s = ap word_of s.word ∙ word_back (big_endian 4 x 0) (omega (arith, below x s.small 0 4))

-- they are the header's word and what follows it
pub spelt_out : (x : List ℕ) (m : PathMetaHeader) → Spells x m → bytes_of 4 (word_of m) ++ part 4 (path_length m - 4) x ≡ x
unfolding path_length
spelt_out x m s =
    ap (λ (w : ℕ). bytes_of 4 w ++ part 4 (path_length m - 4) x) (spelt x m s)
    ∙ ap (λ (head : List ℕ). head ++ part 4 (path_length m - 4) x) (bytes_read 4 x s.small 0 (omega (arith, s.exact)))
    ∙ part_join 0 4 (path_length m - 4) x
    ∙ take_all (4 + (path_length m - 4)) x (omega (arith, s.exact))

pub same-path : (x y : List ℕ) (m : PathMetaHeader) → Spells x m → Spells y m
    → ((k : ℕ) → k < info_fields_count m → info_at x k ≡ info_at y k)
    → ((j : ℕ) → j < hop_fields_count m → part (hop_start m j) 12 x ≡ part (hop_start m j) 12 y)
    → x ≡ y
unfolding path_length
same-path x y m sx sy infos hops = ext_get_or 0 x y (sx.exact ∙ sym sy.exact) each
  where
    I : ℕ
    I = info_fields_count m

    N : ℕ
    N = hop_fields_count m

    lx : length x ≡ 4 + I * 8 + N * 12
    lx = sx.exact

    ly : length y ≡ 4 + I * 8 + N * 12
    ly = sy.exact

    head : part 0 4 x ≡ part 0 4 y
    head =
        part_by_number x y sx.small sy.small 4 0 (omega (arith, lx)) (omega (arith, ly))
        (sym (spelt x m sx) ∙ spelt y m sy)

    each : (i : ℕ) → i < length x → get_or x i 0 ≡ get_or y i 0
    each i h =
        by_lt i 4
        (λ p. get_or_by_part x y 0 4 head i (omega arith) (omega arith))
        (λ p. by_lt i (4 + I * 8)
        (λ q. let k : ℕ = (i - 4) / 8 in
        info_bytes x y sx.small sy.small (info_start k) (omega (arith, lx)) (omega (arith, ly)) (infos k (omega arith)) i
        (omega arith) (omega arith))
        (λ q. let j : ℕ = (i - (4 + I * 8)) / 12 in
        get_or_by_part x y (hop_start m j) 12 (hops j (omega (arith, lx))) i (omega arith) (omega arith)))
