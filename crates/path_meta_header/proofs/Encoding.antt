-- Laws of a meta header that is written: its bits, and that reading and writing one undo each other.
-- Assumes nothing.
use Prim.Native.Nat.{ℕ, ◌+◌, ◌*◌, ◌/◌, ◌%◌, ◌^◌, ◌<◌}
use mathlib.Core.Path.{◌≡◌, refl, sym}
use mathlib.Core.Bool.{true, false, and-eq-true_iff}
use mathlib.Core.List.{List, [], ◌∷◌}
use native.Mathlib.Omega.{arith}
use lib.ListN.{length, get_or}
use borrow.Author.Tests.{eq-eqb, ltb-true}
use Rattle.std.specs.Prelude.{Option, Some, None, is_some, Ok, Err}
use Rattle.wire_encoding.proofs.Result.{held, unmet}
use Rattle.wire_encoding.specs.BigEndian.{bytes_of}
use Rattle.wire_encoding.proofs.BigEndian.{length_bytes_of}
use Rattle.wire_encoding.specs.Bounded.{bounded, bounded_of}
use Rattle.wire_encoding.specs.declared.bounded.Bounded.{Bounded}
use Rattle.wire_encoding.proofs.Widths.{was_value, was_wide}
use Rattle.wire_encoding.proofs.Writes.{placed-whole}
use Rattle.path_meta_header.specs.declared.PathMetaHeader.{PathMetaHeader}
use Rattle.path_meta_header.specs.MetaHeader.{nth_field, meta_of, segment_length}
use Rattle.path_meta_header.specs.Encoding.{fits, meta_fits, word_of, as_word, write_meta}

-- a bounded number is made of what has at most its bits
pub bounded_fits : {width : ℕ} (r : Option (Bounded ℕ width)) (n : ℕ) → bounded_of (λ (m : ℕ). m) r ≡ bounded width n → is_some r ≡ fits width n
bounded_fits {width} (Some m) n h = was_value width n h
bounded_fits {width} None n h = was_wide width n h

-- numbers that fit their fields
pub record Fitting (m : PathMetaHeader) : Type 0 where
  pub info : m.current_info_field < 4
  pub hop : m.current_hop_field < 64
  pub rsv : m.reserved < 64
  pub first : segment_length m 0 < 64
  pub second : segment_length m 1 < 64
  pub third : segment_length m 2 < 64

pub fitting : (m : PathMetaHeader) → meta_fits m ≡ true → Fitting m
unfolding meta_fits
fitting m e =
    let five = (and-eq-true_iff _ _).0 e in
    let four = (and-eq-true_iff _ _).0 five.0 in
    let three = (and-eq-true_iff _ _).0 four.0 in
    let two = (and-eq-true_iff _ _).0 three.0 in
    let one = (and-eq-true_iff _ _).0 two.0 in
    record {
      info = ltb-true m.current_info_field 4 one.0;
      hop = ltb-true m.current_hop_field 64 one.1;
      rsv = ltb-true m.reserved 64 two.1;
      first = ltb-true (segment_length m 0) 64 three.1;
      second = ltb-true (segment_length m 1) 64 four.1;
      third = ltb-true (segment_length m 2) 64 five.1;
    }

-- a header that fits is below 2 ^ 32
pub word_below : (m : PathMetaHeader) → Fitting m → word_of m < 2 ^ 32
unfolding word_of
word_below m f = omega arith

-- a list of three is its three elements
three : (l : List ℕ) → length l ≡ 3 → get_or l 0 0 ∷ get_or l 1 0 ∷ get_or l 2 0 ∷ [] ≡ l
three [] h = absurd (omega arith)
three (a ∷ []) h = absurd (omega arith)
three (a ∷ b ∷ []) h = absurd (omega arith)
three (a ∷ b ∷ c ∷ []) h = refl
three (a ∷ b ∷ c ∷ d ∷ l) h = absurd (omega arith)

-- reading what was written gives the header
pub meta_back : (m : PathMetaHeader) → length m.segment_lengths ≡ 3 → Fitting m → meta_of (word_of m) ≡ m
unfolding meta_of nth_field word_of
meta_back m l f =
    let w = word_of m in
    let e0 : w / 2 ^ 30 % 64 ≡ m.current_info_field = omega arith in
    let e1 : w / 2 ^ 24 % 64 ≡ m.current_hop_field = omega arith in
    let e2 : w / 2 ^ 18 % 64 ≡ m.reserved = omega arith in
    let e3 : w / 2 ^ 12 % 64 ≡ segment_length m 0 = omega arith in
    let e4 : w / 2 ^ 6 % 64 ≡ segment_length m 1 = omega arith in
    let e5 : w / 2 ^ 0 % 64 ≡ segment_length m 2 = omega arith in
    rw (e0, e1, e2, e3, e4, e5, three m.segment_lengths l)

-- one field after another
next : (w : ℕ) → w < 2 ^ 32 → (w / 2 ^ 30 % 64 ≡ w / 2 ^ 30) × (w / 2 ^ 30 * 64 + w / 2 ^ 24 % 64 ≡ w / 2 ^ 24)
next w h = (omega arith, omega arith)

last : (w : ℕ) → (w / 2 ^ 12 * 64 + w / 2 ^ 6 % 64 ≡ w / 2 ^ 6) × (w / 2 ^ 6 * 64 + w / 2 ^ 0 % 64 ≡ w)
last w = (omega arith, omega arith)

middle : (w : ℕ) → (w / 2 ^ 24 * 64 + w / 2 ^ 18 % 64 ≡ w / 2 ^ 18) × (w / 2 ^ 18 * 64 + w / 2 ^ 12 % 64 ≡ w / 2 ^ 12)
middle w = (omega arith, omega arith)

-- writing what was read gives the word
pub word_back : (w : ℕ) → w < 2 ^ 32 → word_of (meta_of w) ≡ w
unfolding meta_of nth_field word_of
word_back w h = rw ((next w h).0, (next w h).1, (middle w).0, (middle w).1, (last w).0, (last w).1)

-- what `as_u32`'s answer says of the header
pub word_is : (m : PathMetaHeader) {n : ℕ} → Ok n ≡ as_word m → (meta_fits m ≡ true) × (n ≡ word_of m)
unfolding as_word
word_is m e = let r = held (meta_fits m) 10 _ (sym e) in (r.0, cc)

pub word_wide : (m : PathMetaHeader) → Err 10 ≡ as_word m → meta_fits m ≡ false
unfolding as_word
word_wide m e = unmet (meta_fits m) 10 (word_of m) (sym e)

-- a header that fits is written to four bytes
pub meta_written : (m : PathMetaHeader) (n : ℕ) → meta_fits m ≡ true → n ≡ 4 → write_meta m n ≡ Ok (bytes_of 4 (word_of m))
unfolding write_meta
meta_written m n f l = rw (f, eq-eqb n 4 l)

-- what `encode_to` cites: what the answer of `as_u32` says of the numbers, what is then written, and a run that fills its destination
pub ruleset encodes = (word_is, word_wide, meta_written, placed-whole, length_bytes_of)
