-- A path that was read, reversed twice, is its own bytes again but for the pointers and the reserved bits, which are zero: every
-- field returns to its place, a flag flipped twice is as it was, and so are the lengths put in opposite order twice. The fields return
-- under whatever headers are written (`fields-twice`), so the mirror of a mirror is the path too.
-- Assumes nothing.
use mathlib.Core.Path.{◌≡◌, refl, sym, ap, ap₂, ◌∙◌, subst}
use mathlib.Core.List.{List, [], ◌∷◌, ◌++◌, append_assoc, append-nil, flat_map}
use Prim.Native.Nat.{ℕ, zero, suc, ◌+◌, ◌-◌, ◌*◌, ◌≤◌}
use native.Mathlib.Nat.{suc-mul, zero-mul, add_comm}
use native.Mathlib.Omega.{arith}
use lib.ListN.{length, take, drop}
use lib.Seq.{drop-drop, drop-append-add, drop_at, take_at, take-add}
use Rattle.wire_encoding.specs.BigEndian.{big_endian, bytes_of, part, records}
use Rattle.wire_encoding.proofs.Bits.{flip_twice}
use Rattle.wire_encoding.proofs.Lists.{length_part, part_join}
use Rattle.wire_encoding.proofs.BigEndian.{length_bytes_of}
use Rattle.path_meta_header.specs.MetaHeader.{info_fields_count, hop_fields_count, path_length}
use Rattle.path_meta_header.specs.Reversal.{at_start, reversed_meta}
use Rattle.path_meta_header.specs.Encoding.{word_of}
use Rattle.path_meta_header.specs.declared.PathMetaHeader.{PathMetaHeader}
use Rattle.path_meta_header.proofs.MetaHeader.{Lengths, lengths_read}
use Rattle.path_meta_header.proofs.Reversal.{row_is, RowsOf, rows, rows_back, rows_infos, rows_hops, rows_twice}
use Rattle.path.proofs.Reading.{readable}
use Rattle.path_reverse.specs.Reverse.{reversed_records, flipped, same, reversed_under, reversed_path, ReversedTwice}
use Rattle.path_reverse.proofs.Reverse.{Sized, sized_flipped, sized_same, last-first, infos, hops, infos_room, hops-room, length_infos}

-- THE RECORDS

-- f a second time gives the field back
abbrev Undone : (List ℕ → List ℕ) → Type 0
Undone f = (field : List ℕ) → f (f field) ≡ field

-- records of k bytes, each written by f
module _ (f : List ℕ → List ℕ) (k : ℕ) where
  -- a record after one of k bytes
  part-after : (a b : List ℕ) (at : ℕ) → length a ≡ k → part (at + k) k (a ++ b) ≡ part at k b
  part-after a b at e =
      ap (λ (p : ℕ). part p k (a ++ b)) (add_comm at k ∙ ap (λ (x : ℕ). x + at) (sym e)) ∙ ap (take k) (drop-append-add a b at)

  -- the first record comes last
  first-last : (n : ℕ) (a b : List ℕ) → length a ≡ k → reversed_records f k (suc n) (a ++ b) ≡ reversed_records f k n b ++ f a
  unfolding reversed_records records flat_map
  first-last zero a b e = append-nil _ ∙ ap f (take_at a b k e)
  first-last (suc n) a b e =
      last-first f k (suc n) (a ++ b)
      ∙ ap₂ (λ (x y : List ℕ). f x ++ y)
      (ap (λ (p : ℕ). part p k (a ++ b)) (suc-mul n k) ∙ part-after a b (n * k) e)
      (first-last n a b e)
      ∙ sym (append_assoc (f (part (n * k) k b)) (reversed_records f k n b) (f a))
      ∙ ap (λ (l : List ℕ). l ++ f a) (sym (last-first f k n b))

  -- so reversed twice they are as they were, whatever follows them
  records_twice : Sized f → Undone f → (n : ℕ) (bytes rest : List ℕ) → n * k ≤ length bytes
      → reversed_records f k n (reversed_records f k n bytes ++ rest) ≡ take (n * k) bytes
  unfolding reversed_records records flat_map
  records_twice sized undone zero bytes rest h = ap (λ (p : ℕ). take p bytes) (sym (zero-mul k))
  records_twice sized undone (suc n) bytes rest h =
      let more : suc n * k ≡ n * k + k = suc-mul n k in
      let last : List ℕ = part (n * k) k bytes in
      let before : List ℕ = reversed_records f k n bytes in
      ap (λ (l : List ℕ). reversed_records f k (suc n) (l ++ rest)) (last-first f k n bytes)
      ∙ ap (reversed_records f k (suc n)) (append_assoc (f last) before rest)
      ∙ first-last n (f last) (before ++ rest) (sized last ∙ length_part (n * k) k bytes (omega arith))
      ∙ ap₂ (λ (x y : List ℕ). x ++ y) (records_twice sized undone n bytes rest (omega arith)) (undone last)
      ∙ sym (take-add (n * k) k bytes)
      ∙ ap (λ (p : ℕ). take p bytes) (sym more)

undone_flipped : Undone flipped
unfolding flipped
undone_flipped [] = refl
undone_flipped (flags ∷ rest) = ap (λ (n : ℕ). n ∷ rest) (flip_twice 0 flags)

undone_same : Undone same
unfolding same
undone_same field = refl

-- THE FIELDS

module _ (m : PathMetaHeader) (bytes : List ℕ) (whole : path_length m ≤ length bytes) (h : PathMetaHeader) where
  -- the numbers of info fields and of hop fields
  abbrev I : ℕ
  I = info_fields_count m

  abbrev N : ℕ
  N = hop_fields_count m

  -- what follows the header of the reversed path, and what follows its info fields
  after_header : drop 4 (reversed_under h m bytes) ≡ infos m bytes ++ hops m bytes
  unfolding reversed_under
  after_header = drop_at (bytes_of 4 (word_of h)) (infos m bytes ++ hops m bytes) 4 (length_bytes_of 4 (word_of h))

  after_infos : drop (4 + I * 8) (reversed_under h m bytes) ≡ hops m bytes
  after_infos =
      sym (drop-drop (I * 8) 4 (reversed_under h m bytes))
      ∙ ap (drop (I * 8)) after_header
      ∙ drop_at (infos m bytes) (hops m bytes) (I * 8) (length_infos m bytes whole)

  -- the fields of each kind
  infos_twice : reversed_records flipped 8 I (drop 4 (reversed_under h m bytes)) ≡ part 4 (I * 8) bytes
  infos_twice =
      ap (reversed_records flipped 8 I) after_header
      ∙ records_twice flipped 8 sized_flipped undone_flipped I (drop 4 bytes) (hops m bytes) (infos_room m bytes whole)

  hops_twice : reversed_records same 12 N (drop (4 + I * 8) (reversed_under h m bytes)) ≡ part (4 + I * 8) (N * 12) bytes
  hops_twice =
      ap (reversed_records same 12 N) (after_infos ∙ sym (append-nil (hops m bytes)))
      ∙ records_twice same 12 sized_same undone_same N (drop (4 + I * 8) bytes) [] (hops-room m bytes whole)

  -- reversed twice, the second time under a header t that counts as many, they are what followed the header
  pub fields_twice : (h' t : PathMetaHeader) → info_fields_count t ≡ info_fields_count m → hop_fields_count t ≡ hop_fields_count m
      → reversed_under h' t (reversed_under h m bytes) ≡ bytes_of 4 (word_of h') ++ part 4 (path_length m - 4) bytes
  unfolding reversed_under path_length
  fields_twice h' t i n =
      let size : I * 8 + N * 12 ≡ path_length m - 4 = omega arith in
      rw (i, n, infos_twice, hops_twice, part_join 4 (I * 8) (N * 12) bytes, size)

-- THE PATH

-- of any numbers: that they are bytes is not needed
pub reversed_twice : ReversedTwice
unfolding reversed_path reversed_meta at_start
reversed_twice bytes m read =
    let r = readable bytes read in
    let I : ℕ = info_fields_count m in
    let t : PathMetaHeader = reversed_meta m in
    let opposite : RowsOf m t I = rows m t r.sound_meta.lengths refl in
    let lengths : Lengths m = subst Lengths (sym r.word) (lengths_read (big_endian 4 bytes 0)) in
    fields_twice m bytes r.whole t (reversed_meta t) t (rows_infos t m I (rows_back opposite)) (rows_hops m t I opposite)
    ∙ ap (λ (l : List ℕ). bytes_of 4 (word_of (at_start l)) ++ part 4 (path_length m - 4) bytes)
    (row_is t ∙ rows_twice opposite ∙ lengths.these)
