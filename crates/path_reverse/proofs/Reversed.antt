-- What a reversed path holds, under whatever header is written: info field k is info field I − 1 − k with its direction flipped,
-- hop field j is hop field N − 1 − j as it was.
-- Assumes nothing.
use Prim.Native.Nat.{ℕ, zero, suc, ◌+◌, ◌-◌, ◌*◌, ◌≤◌, ◌<◌}
use mathlib.Core.Path.{◌≡◌, refl, sym, ap, ◌∙◌, subst}
use mathlib.Core.List.{List, [], ◌∷◌, ◌++◌, flat_map}
use native.Mathlib.Nat.{suc-mul, zero-mul, add_comm, mod-eq_of_lt}
use native.Mathlib.Omega.{arith}
use lib.ListN.{length, drop}
use lib.Seq.{take_at}
use Rattle.wire_encoding.specs.BigEndian.{big_endian, bytes_of, part, records}
use Rattle.wire_encoding.proofs.Bits.{flip_above}
use Rattle.wire_encoding.proofs.Lists.{Bytes, length_part, part_left, part_right, part-drop, bytes_append, bytes_drop, bytes_part}
use Rattle.wire_encoding.proofs.BigEndian.{length_bytes_of, read_bytes_of, bytes_bytes_of}
use Rattle.path_fields.specs.Fields.{info_field_at, with_constructed_dir}
use Rattle.path_fields.proofs.Fields.{direction_flipped, info_at_part}
use Rattle.path_meta_header.specs.MetaHeader.{meta_of, info_fields_count, hop_fields_count, path_length, info_start, hop_start}
use Rattle.path_meta_header.specs.Encoding.{word_of}
use Rattle.path_meta_header.specs.declared.PathMetaHeader.{PathMetaHeader}
use Rattle.path_meta_header.proofs.Encoding.{Fitting, word_below, meta_back}
use Rattle.path.specs.Standard.{info_at}
use Rattle.path_reverse.specs.Reverse.{reversed_records, flipped, same, reversed_under}
use Rattle.path_reverse.proofs.Reverse.{Sized, sized_flipped, sized_same, last-first, infos, hops, infos_room, hops-room, length_infos}
use Rattle.path_reverse.proofs.Reverse.{length_reversed}

-- THE RECORDS

-- record j of records written last one first
part-reversed_records : (f : List ℕ → List ℕ) → Sized f → (s n j : ℕ) (bytes : List ℕ) → j < n → n * s ≤ length bytes
    → part (j * s) s (reversed_records f s n bytes) ≡ f (part ((n - 1 - j) * s) s bytes)
part-reversed_records f sized s zero j bytes l h = absurd (omega arith)
part-reversed_records f sized s (suc n) zero bytes l h =
    let more : suc n * s ≡ n * s + s = suc-mul n s in
    let none : zero * s ≡ 0 = zero-mul s in
    let last : List ℕ = f (part (n * s) s bytes) in
    let at : n ≡ suc n - 1 - 0 = omega arith in
    ap (part (zero * s) s) (last-first f s n bytes)
    ∙ ap (λ (p : ℕ). part p s (last ++ reversed_records f s n bytes)) none
    ∙ take_at last (reversed_records f s n bytes) s (sized (part (n * s) s bytes) ∙ length_part (n * s) s bytes (omega arith))
    ∙ ap (λ (i : ℕ). f (part (i * s) s bytes)) at
part-reversed_records f sized s (suc n) (suc j) bytes l h =
    let more : suc n * s ≡ n * s + s = suc-mul n s in
    let next : suc j * s ≡ s + j * s = suc-mul j s ∙ add_comm (j * s) s in
    let last : List ℕ = f (part (n * s) s bytes) in
    let at : n - 1 - j ≡ suc n - 1 - suc j = omega arith in
    ap (part (suc j * s) s) (last-first f s n bytes)
    ∙ ap (λ (p : ℕ). part p s (last ++ reversed_records f s n bytes)) next
    ∙ part_right s (j * s) s last (reversed_records f s n bytes) (sized (part (n * s) s bytes) ∙ length_part (n * s) s bytes (omega arith))
    ∙ part-reversed_records f sized s n j bytes (omega arith) (omega arith)
    ∙ ap (λ (i : ℕ). f (part (i * s) s bytes)) at

-- an info field by its eight bytes
info-flipped : (l : List ℕ) → length l ≡ 8 → info_field_at (flipped l) 0 ≡ direction_flipped (info_field_at l 0)
unfolding flipped info_field_at big_endian direction_flipped with_constructed_dir
info-flipped [] h = absurd (omega arith)
info-flipped (flags ∷ rest) h = refl

-- bytes stay bytes
bytes_flipped : (l : List ℕ) → Bytes l → Bytes (flipped l)
unfolding flipped
bytes_flipped [] h k = h k
bytes_flipped (v ∷ l) h zero = omega (arith, h zero, flip_above v)
bytes_flipped (v ∷ l) h (suc k) = h (suc k)

bytes_reversed_records : (f : List ℕ → List ℕ) → ((l : List ℕ) → Bytes l → Bytes (f l)) → (s n : ℕ) (l : List ℕ) → Bytes l
    → Bytes (reversed_records f s n l)
unfolding reversed_records records flat_map
bytes_reversed_records f kept s zero l h = λ k. omega arith
bytes_reversed_records f kept s (suc n) l h =
    subst (λ (x : List ℕ). Bytes x) (sym (last-first f s n l))
    (bytes_append (f (part (n * s) s l)) (reversed_records f s n l) (kept (part (n * s) s l) (bytes_part (n * s) s l h))
    (bytes_reversed_records f kept s n l h))

-- THE PATH

module _ (m : PathMetaHeader) (x : List ℕ) where
  abbrev I : ℕ
  I = info_fields_count m

  abbrev N : ℕ
  N = hop_fields_count m

  pub bytes_reversed : (h : PathMetaHeader) → Bytes x → Bytes (reversed_under h m x)
  unfolding reversed_under same
  bytes_reversed h b =
      bytes_append (bytes_of 4 (word_of h)) (infos m x ++ hops m x) (bytes_bytes_of 4 (word_of h))
      (bytes_append (infos m x) (hops m x)
      (bytes_reversed_records flipped bytes_flipped 8 I (drop 4 x) (bytes_drop 4 x b))
      (bytes_reversed_records same (λ l c. c) 12 N (drop (4 + I * 8) x) (bytes_drop (4 + I * 8) x b)))

  pub reversed_word : (h : PathMetaHeader) → length h.segment_lengths ≡ 3 → Fitting h → h ≡ meta_of (big_endian 4 (reversed_under h m x) 0)
  unfolding reversed_under
  reversed_word h three fits =
      sym (ap meta_of (read_bytes_of 4 (word_of h) [] (infos m x ++ hops m x) ∙ mod-eq_of_lt (word_below h fits)) ∙ meta_back h three fits)

  module _ (whole : path_length m ≤ length x) (h : PathMetaHeader) where
    pub reversed_hop_field : (j : ℕ) → j < N → part (hop_start m j) 12 (reversed_under h m x) ≡ part (hop_start m (N - 1 - j)) 12 x
    unfolding reversed_under same
    reversed_hop_field j l =
        let head : List ℕ = bytes_of 4 (word_of h) in
        let at : hop_start m j ≡ 4 + (I * 8 + j * 12) = omega arith in
        ap (λ (p : ℕ). part p 12 (head ++ (infos m x ++ hops m x))) at
        ∙ part_right 4 (I * 8 + j * 12) 12 head (infos m x ++ hops m x) (length_bytes_of 4 (word_of h))
        ∙ part_right (I * 8) (j * 12) 12 (infos m x) (hops m x) (length_infos m x whole)
        ∙ part-reversed_records same sized_same 12 N j (drop (4 + I * 8) x) l (hops-room m x whole)
        ∙ part-drop (4 + I * 8) ((N - 1 - j) * 12) 12 x

    reversed_info_bytes : (k : ℕ) → k < I → part (info_start k) 8 (reversed_under h m x) ≡ flipped (part (info_start (I - 1 - k)) 8 x)
    unfolding reversed_under
    reversed_info_bytes k l =
        part_right 4 (k * 8) 8 (bytes_of 4 (word_of h)) (infos m x ++ hops m x) (length_bytes_of 4 (word_of h))
        ∙ part_left (k * 8) 8 (infos m x) (hops m x) (omega (arith, length_infos m x whole))
        ∙ part-reversed_records flipped sized_flipped 8 I k (drop 4 x) l (infos_room m x whole)
        ∙ ap flipped (part-drop 4 ((I - 1 - k) * 8) 8 x)

    pub reversed_info_field : (k : ℕ) → k < I → info_at (reversed_under h m x) k ≡ direction_flipped (info_at x (I - 1 - k))
    unfolding path_length
    reversed_info_field k l =
        let at : ℕ = info_start (I - 1 - k) in
        sym (info_at_part (reversed_under h m x) (info_start k) (omega (arith, length_reversed m x whole h)))
        ∙ ap (λ (p : List ℕ). info_field_at p 0) (reversed_info_bytes k l)
        ∙ info-flipped (part at 8 x) (length_part at 8 x (omega arith))
        ∙ ap direction_flipped (info_at_part x at (omega arith))
