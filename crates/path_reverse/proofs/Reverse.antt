-- Laws of a reversed path: a field, the loop that writes records last one first, the size and the header of what is written.
-- Assumes nothing.
use mathlib.Core.Path.{◌≡◌, refl, sym, ap, ap₂, ◌∙◌}
use mathlib.Core.Bool.{Bool, true, false, cond}
use mathlib.Core.List.{List, [], ◌∷◌, ◌++◌, flat_map, reverse as reversed, reverse-append}
use Prim.Native.Nat.{ℕ, zero, suc, ◌+◌, ◌-◌, ◌*◌, ◌≤◌, ◌<◌}
use native.Mathlib.Nat.{suc-mul, zero-mul, add_comm, add-sub_cancel_left}
use native.Mathlib.Numerals.{sub-one}
use native.Mathlib.Omega.{arith}
use lib.Dec.{eqb}
use lib.Bits.{bit_xor}
use lib.ListN.{length, take, drop, get_or, set, take-append-drop, length-append, length-take, length-drop}
use lib.Seq.{sets, drop-drop, length-sets, length-take-le, take_all}
use borrow.Rule.Slice.PartMut.{put_mid}
use borrow.Author.Tests.{lt-ltb, ne_eqb}
use Rattle.wire_encoding.specs.Result.{or_else}
use Rattle.wire_encoding.specs.BigEndian.{big_endian, number_at, bytes_of, placed, part, records}
use Rattle.wire_encoding.proofs.Bits.{flip_bit}
use Rattle.wire_encoding.proofs.Lists.{Bytes, bytes_part, bytes_drop, length_part, sets-whole, written_after}
use Rattle.wire_encoding.proofs.BigEndian.{or_zero_is, length_bytes_of, bytes_read}
use Rattle.wire_encoding.proofs.Writes.{front-written, lent_run, lent_written}
use Rattle.path_meta_header.specs.MetaHeader.{nth_field, meta_of, info_fields_count, hop_fields_count, path_length}
use Rattle.path_meta_header.specs.Reversal.{at_start, reversed_meta}
use Rattle.path_meta_header.proofs.Reversal.{row_of, row_is}
use Rattle.path_meta_header.specs.Encoding.{meta_fits, word_of, write_meta}
use Rattle.path_meta_header.proofs.Encoding.{meta_written}
use Rattle.path_meta_header.specs.declared.PathMetaHeader.{PathMetaHeader}
use Rattle.errors.specs.declared.packet_error.DecodeError.{DecodeError}
use Rattle.errors.specs.declared.path_error.PathError.TheVariants.{Decode, InadequateBufferSize}
use Rattle.std.specs.Prelude.{Ok, Err}
use Rattle.path.specs.Standard.{read_record}
use Rattle.path.specs.Dataplane.{read_dataplane}
use Rattle.path.proofs.Reading.{Readable, record_read}
use Rattle.path_reverse.specs.Copy.{copy}
use Rattle.path_reverse.proofs.Copy.{put_in_front, into_enough, into_fewer, front_run}
use Rattle.path_reverse.specs.Reverse.{reversed_records, flipped, same, reversed_under, reversed_path, reversed_bytes, reverse, Reversible}

-- A FIELD

-- what is written of a field is as long as the field
abbrev pub Sized : (List ℕ → List ℕ) → Type 0
Sized f = (field : List ℕ) → length (f field) ≡ length field

pub sized_flipped : Sized flipped
unfolding flipped
sized_flipped [] = refl
sized_flipped (flags ∷ rest) = refl

pub sized_same : Sized same
unfolding same
sized_same field = refl

-- an info field: its flags are written over themselves, with bit 0 flipped by the mask
pub flipped_written : (field : List ℕ) → length field ≡ 8 → set field 0 (bit_xor (get_or field 0 0) 1) ≡ flipped field
unfolding flipped
flipped_written [] h = absurd (omega arith)
flipped_written (flags ∷ rest) h = ap (λ (b : ℕ). b ∷ rest) (flip_bit 0 flags)

-- a hop field: eight bytes written as the number that they spell, then the four after them
pub hop_field_copied : (src dst : List ℕ) → Bytes src → length src ≡ 12 → length dst ≡ 12 → {v w : ℕ} {a b : List ℕ}
    → v ≡ or_else (number_at 8 (take 8 src) 0) 0 → w ≡ or_else (number_at 4 (part 8 (length src - 8) src) 0) 0
    → a ≡ placed (take 8 dst) 0 (bytes_of 8 v)
    → b ≡ placed (part 8 (length (a ++ drop 8 dst) - 8) (a ++ drop 8 dst)) 0 (bytes_of 4 w)
    → put_mid 8 (length (a ++ drop 8 dst) - 8) (a ++ drop 8 dst) b ≡ same src
unfolding same
hop_field_copied src dst bytes h g {v} {w} {a} {b} e f en fn =
    let few : 8 ≤ length (take 8 src) = simp length-take (omega (arith, h)) in
    let rest : length (drop 8 src) ≡ 4 = simp length-drop (omega (arith, h)) in
    let all : part 8 (length src - 8) src ≡ drop 8 src = take_all (length src - 8) (drop 8 src) (omega arith) in
    let first : bytes_of 8 v ≡ take 8 src =
    ap (bytes_of 8) (e ∙ or_zero_is 8 (take 8 src) 0 few)
    ∙ bytes_read 8 (take 8 src) (bytes_part 0 8 src bytes) 0 few ∙ take_all 8 (take 8 src) (simp length-take (omega arith)) in
    let last : bytes_of 4 w ≡ drop 8 src =
    ap (bytes_of 4) (f ∙ ap (λ (l : List ℕ). or_else (number_at 4 l 0) 0) all ∙ or_zero_is 4 (drop 8 src) 0 (omega arith))
    ∙ bytes_read 4 (drop 8 src) (bytes_drop 8 src bytes) 0 (omega arith) ∙ take_all 4 (drop 8 src) (omega arith) in
    let front : a ++ drop 8 dst ≡ sets dst 0 (bytes_of 8 v) =
    lent_written (bytes_of 8 v) dst 0 8 (length_bytes_of 8 v) (omega arith) en in
    let size : length (a ++ drop 8 dst) ≡ 12 = ap length front ∙ length-sets dst 0 (bytes_of 8 v) ∙ g in
    lent_written (bytes_of 4 w) (a ++ drop 8 dst) 8 (length (a ++ drop 8 dst) - 8) (length_bytes_of 4 w ∙ omega arith) (omega arith) fn
    ∙ ap (λ (l : List ℕ). sets l 8 (bytes_of 4 w)) front
    ∙ written_after (bytes_of 8 v) (bytes_of 4 w) dst 0 8 (length_bytes_of 8 v)
    ∙ ap (sets dst 0) (ap₂ (λ (x y : List ℕ). x ++ y) first last ∙ take-append-drop 8 src)
    ∙ sets-whole src dst (h ∙ sym g)

-- RECORDS, THE LAST ONE FIRST

module _ (f : List ℕ → List ℕ) (k : ℕ) where
  -- the last record comes after the others
  last_record : (n : ℕ) (bytes : List ℕ) → records k (suc n) bytes ≡ records k n bytes ++ (part (n * k) k bytes ∷ [])
  unfolding records
  last_record zero bytes = ap (λ (p : ℕ). part p k bytes ∷ []) (sym (zero-mul k))
  last_record (suc n) bytes =
      let after : k + n * k ≡ suc n * k = add_comm k (n * k) ∙ sym (suc-mul n k) in
      ap (λ (l : List (List ℕ)). take k bytes ∷ l)
      (last_record n (drop k bytes)
      ∙ ap (λ (l : List ℕ). records k n (drop k bytes) ++ (take k l ∷ [])) (drop-drop (n * k) k bytes ∙ ap (λ (p : ℕ). drop p bytes) after))

  -- so it is the first of the reversed
  pub last-first : (n : ℕ) (bytes : List ℕ) → reversed_records f k (suc n) bytes ≡ f (part (n * k) k bytes) ++ reversed_records f k n bytes
  unfolding reversed_records flat_map
  last-first n bytes =
      ap (λ (l : List (List ℕ)). flat_map f l)
      (ap (λ (l : List (List ℕ)). reversed l) (last_record n bytes) ∙ reverse-append (records k n bytes) (part (n * k) k bytes ∷ []))

-- records of k bytes, each written by f
module _ (f : List ℕ → List ℕ) (sized : Sized f) (k : ℕ) where
  length_record : (n : ℕ) (bytes : List ℕ) → n * k + k ≤ length bytes → length (f (part (n * k) k bytes)) ≡ k
  length_record n bytes h = sized (part (n * k) k bytes) ∙ length_part (n * k) k bytes h

  pub length-reversed_records : (n : ℕ) (bytes : List ℕ) → n * k ≤ length bytes → length (reversed_records f k n bytes) ≡ n * k
  unfolding reversed_records records flat_map
  length-reversed_records zero bytes h = omega arith
  length-reversed_records (suc n) bytes h =
      let more : suc n * k ≡ n * k + k = suc-mul n k in
      ap length (last-first f k n bytes)
      ∙ length-append (f (part (n * k) k bytes)) (reversed_records f k n bytes)
      ∙ ap₂ (λ (x y : ℕ). x + y) (length_record n bytes (omega arith)) (length-reversed_records n bytes (omega arith))
      ∙ omega arith

-- the loop: the records that are left, written to dst as it is now, give what is wanted
module _ (f : List ℕ → List ℕ) (k : ℕ) (src : List ℕ) (from : ℕ) (dst₀ : List ℕ) (at count : ℕ) where
  pub record Left (dst : List ℕ) (to left : ℕ) : Type 0 where
    pub writes : sets dst to (reversed_records f k left (drop from src)) ≡ sets dst₀ at (reversed_records f k count (drop from src))
    pub in_src : from + left * k ≤ length src
    pub in_dst : to + left * k ≤ length dst

  -- the last of them is written where the next one goes
  pub step : (dst now : List ℕ) (to left : ℕ) → 0 < left → Left dst to left
      → (let at : ℕ = from + (left - 1) * k in now ≡ f (part at (at + k - at) src)) → length now ≡ length (part to (to + k - to) dst)
      → Left (put_mid to (to + k - to) dst now) (to + k) (left - 1)
  step dst now to zero h i e kept = elim h [ ]
  step dst now to (suc n) h i e kept =
      let more : suc n * k ≡ n * k + k = suc-mul n k in
      let size : length now ≡ k =
      kept ∙ ap (λ (size : ℕ). length (part to size dst)) (add-sub_cancel_left to k) ∙ length_part to k dst (omega arith) in
      let rest : List ℕ = reversed_records f k n (drop from src) in
      let last : now ≡ f (part (n * k) k (drop from src)) =
      simp sub-one at e
      ∙ ap (λ (size : ℕ). f (part (from + n * k) size src)) (add-sub_cancel_left (from + n * k) k)
      ∙ ap (λ (bytes : List ℕ). f (take k bytes)) (sym (drop-drop (n * k) from src)) in
      let written : put_mid to (to + k - to) dst now ≡ sets dst to now =
      lent_run now dst to (to + k - to) (size ∙ sym (add-sub_cancel_left to k)) (omega arith) in
      let same-length = ap length written ∙ length-sets dst to now in
      simp sub-one (record {
        writes = ap (λ (d : List ℕ). sets d (to + k) rest) written ∙ written_after now rest dst to k size
            ∙ ap (λ (field : List ℕ). sets dst to (field ++ rest)) last
            ∙ ap (sets dst to) (sym (last-first f k n (drop from src))) ∙ i.writes;
        in_src = omega arith;
        in_dst = omega arith;
      })

  pub done : (dst : List ℕ) (to left : ℕ) → left ≤ 0 → Left dst to left → dst ≡ sets dst₀ at (reversed_records f k count (drop from src))
  unfolding reversed_records records flat_map
  done dst to zero h i = i.writes
  done dst to (suc _) h i = elim h [ ]

-- THE WHOLE PATH

module _ (m : PathMetaHeader) (bytes : List ℕ) where
  -- what is written of the info fields, and of the hop fields
  abbrev pub infos : List ℕ
  infos = reversed_records flipped 8 (info_fields_count m) (drop 4 bytes)

  abbrev pub hops : List ℕ
  hops = reversed_records same 12 (hop_fields_count m) (drop (4 + info_fields_count m * 8) bytes)

  module _ (whole : path_length m ≤ length bytes) where
    -- the source holds them
    pub infos_room : info_fields_count m * 8 ≤ length (drop 4 bytes)
    unfolding path_length
    infos_room = simp length-drop (omega arith)

    pub hops-room : hop_fields_count m * 12 ≤ length (drop (4 + info_fields_count m * 8) bytes)
    unfolding path_length
    hops-room = simp length-drop (omega arith)

    pub length_infos : length infos ≡ info_fields_count m * 8
    length_infos = length-reversed_records flipped sized_flipped 8 (info_fields_count m) (drop 4 bytes) infos_room

    length-hops : length hops ≡ hop_fields_count m * 12
    length-hops = length-reversed_records same sized_same 12 (hop_fields_count m) (drop (4 + info_fields_count m * 8) bytes) hops-room

    pub length_reversed : (h : PathMetaHeader) → length (reversed_under h m bytes) ≡ path_length m
    unfolding reversed_under path_length
    length_reversed h = simp (length-append, length_bytes_of, length_infos, length-hops) (omega arith)

    pub length-reversed_path : length (reversed_path m bytes) ≡ path_length m
    unfolding reversed_path
    length-reversed_path = length_reversed (reversed_meta m)

  -- the three writes, one after another, of the reversed header and of as many fields as there are, are the path reversed in front
  pub all_written : (dst : List ℕ) {h : PathMetaHeader} {i n at : ℕ} {d₁ d₂ d₃ : List ℕ} → Reversible m (length bytes) (length dst)
      → h ≡ reversed_meta m → i ≡ info_fields_count m → n ≡ hop_fields_count m → at ≡ 4 + info_fields_count m * 8
      → d₁ ≡ or_else (write_meta h (length (take 4 dst))) (take 4 dst)
      → d₂ ≡ sets (d₁ ++ drop 4 dst) 4 (reversed_records flipped 8 i (drop 4 bytes))
      → d₃ ≡ sets d₂ at (reversed_records same 12 n (drop at bytes)) → d₃ ≡ reversed_path m bytes ++ drop (path_length m) dst
  unfolding reversed_path reversed_under path_length
  all_written dst {d₁ = d₁} {d₂ = d₂} r turned is many starts e₁ e₂ e₃ =
      let header : List ℕ = bytes_of 4 (word_of (reversed_meta m)) in
      let size : length header ≡ 4 = length_bytes_of 4 (word_of (reversed_meta m)) in
      let four : 4 ≤ length dst = omega (arith, r.room) in
      let written : or_else (write_meta (reversed_meta m) (length (take 4 dst))) (take 4 dst) ≡ header =
      rw (meta_written (reversed_meta m) (length (take 4 dst)) r.fits (length-take-le 4 dst four)) in
      let first : d₁ ++ drop 4 dst ≡ sets dst 0 header =
      ap (λ (d : List ℕ). d ++ drop 4 dst)
      (e₁ ∙ ap (λ (w : PathMetaHeader). or_else (write_meta w (length (take 4 dst))) (take 4 dst)) turned ∙ written)
      ∙ sym (front-written header dst 4 size four) in
      let second = e₂ ∙ ap (λ (c : ℕ). sets (d₁ ++ drop 4 dst) 4 (reversed_records flipped 8 c (drop 4 bytes))) is
      ∙ ap (λ (d : List ℕ). sets d 4 infos) first in
      e₃
      ∙ ap₂ (λ (a c : ℕ). sets d₂ a (reversed_records same 12 c (drop a bytes))) starts many
      ∙ ap (λ (d : List ℕ). sets d (4 + info_fields_count m * 8) hops) second
      ∙ written_after infos hops (sets dst 0 header) 4 (info_fields_count m * 8) (length_infos r.whole)
      ∙ written_after header (infos ++ hops) dst 0 4 size
      ∙ front-written (reversed_path m bytes) dst (path_length m) (length-reversed_path r.whole) r.room

-- THE REVERSED HEADER

-- what holds of each of the four rows of lengths holds of the lengths reversed
by_row : (P : List ℕ → Type 0) (a b c : ℕ) → P (0 ∷ 0 ∷ 0 ∷ []) → P (a ∷ 0 ∷ 0 ∷ []) → P (b ∷ a ∷ 0 ∷ []) → P (c ∷ b ∷ a ∷ [])
    → P (row_of a b c)
unfolding row_of
by_row P a b c none one two three = go (eqb a 0) (eqb b 0) (eqb c 0)
  where
    go : (x y z : Bool) → P (cond x (0 ∷ 0 ∷ 0 ∷ []) (cond y (a ∷ 0 ∷ 0 ∷ []) (cond z (b ∷ a ∷ 0 ∷ []) (c ∷ b ∷ a ∷ []))))
    go true y z = none
    go false true z = one
    go false false true = two
    go false false false = three

-- the numbers of a reversed header fit their fields where the lengths do
fits_reversed : (a b c : ℕ) → a < 64 → b < 64 → c < 64 → meta_fits (at_start (row_of a b c)) ≡ true
unfolding meta_fits at_start
fits_reversed a b c ha hb hc =
    by_row (λ lengths. meta_fits (at_start lengths) ≡ true) a b c
    refl
    (rw (lt-ltb a 64 ha))
    (rw (lt-ltb a 64 ha, lt-ltb b 64 hb))
    (rw (lt-ltb a 64 ha, lt-ltb b 64 hb, lt-ltb c 64 hc))

-- those of a header that was read do, for each is six bits of a word
fits_read : (word : ℕ) → meta_fits (reversed_meta (meta_of word)) ≡ true
unfolding reversed_meta meta_of nth_field
fits_read word =
    ap (λ (l : List ℕ). meta_fits (at_start l)) (row_is (meta_of word)) ∙ fits_reversed _ _ _ (omega arith) (omega arith) (omega arith)

-- so a path that was read can be reversed into a destination of at least its length
pub reversible : {bytes : List ℕ} {m : PathMetaHeader} {n : ℕ} → Readable bytes m → path_length m ≤ n → Reversible m (length bytes) n
reversible {bytes} r e = record {
  fits = ap (λ (h : PathMetaHeader). meta_fits (reversed_meta h)) r.word ∙ fits_read (big_endian 4 bytes 0);
  whole = r.whole;
  room = e;
}

-- THE CALL

-- a path that is not standard is copied
pub reverse_copies : (type : ℕ) (bytes dst : List ℕ) → (type ≡ 1 → ⊥) → reverse type bytes dst ≡ copy type bytes dst
unfolding reverse copy reversed_bytes
reverse_copies type bytes dst other = rw (ne_eqb type 1 other)

-- a standard path, by what reading finds and by the size
module _ (bytes dst : List ℕ) where
  pub reverse_refused : {error : DecodeError} → read_record bytes ≡ Err error → reverse 1 bytes dst ≡ Err (Decode error)
  unfolding reverse read_dataplane
  reverse_refused h = rw h

  module _ {m : PathMetaHeader} (r : Readable bytes m) where
    long : length (reversed_path m bytes) ≡ path_length m
    long = length-reversed_path m bytes r.whole

    pub front_reversed : take (path_length m) (reversed_path m bytes ++ drop (path_length m) dst) ≡ reversed_path m bytes
    front_reversed = front_run (reversed_path m bytes) dst long

    pub reverse_enough : path_length m ≤ length dst → reverse 1 bytes dst ≡ Ok (put_in_front (reversed_path m bytes) dst (path_length m))
    unfolding reverse reversed_bytes read_dataplane
    reverse_enough room = rw (record_read bytes m r, into_enough (reversed_path m bytes) dst long room)

    pub reverse_fewer : length dst < path_length m → reverse 1 bytes dst ≡ Err InadequateBufferSize
    unfolding reverse reversed_bytes read_dataplane
    reverse_fewer short = rw (record_read bytes m r, into_fewer (reversed_path m bytes) dst long short)
