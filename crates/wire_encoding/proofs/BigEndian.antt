-- Numbers on the wire, one law over the width for each fact.
-- Assumes nothing.
use mathlib.Core.Path.{◌≡◌, refl, sym, ap, ap₂, ◌∙◌}
use mathlib.Core.Bool.{true, false}
use mathlib.Core.List.{List, [], ◌∷◌, ◌++◌, append_assoc}
use Prim.Native.Nat.{ℕ, zero, suc, ◌+◌, ◌*◌, ◌/◌, ◌%◌, ◌^◌, ◌<◌, ◌≤◌}
use native.Mathlib.Nat.{div-div-eq-div-mul, mul_comm, suc-mul, mod-one, pow-suc, one-le-pow, zero-lt-suc}
use native.Mathlib.Numerals.{add-one}
use native.Mathlib.Omega.{arith}
use lib.Arith.{mod-mul, digits_div, digits_mod}
use lib.Dec.{lit<}
use lib.ListN.{length, get_or, take, drop, length-append, length-drop, get_or-append}
use lib.Seq.{sets, sets-eq, get_or-append-add, get_or-append_seam, get_or-take, get_or-drop, length-take-le, take-append-le, drop-append-le}
use borrow.Author.Tests.{le-leb, lt-leb}
use Rattle.std.specs.Prelude.{Result, Ok, Err}
use Rattle.std.specs.Int.{byte_at, bytes_high_first}
use Rattle.wire_encoding.specs.Result.{or_else}
use Rattle.wire_encoding.specs.BigEndian.{big_endian, bytes_of, room, number_at, part, records, NumbersReadBack, BytesReadBack, NumbersBelow}
use Rattle.wire_encoding.proofs.Result.{held, unmet}
use Rattle.wire_encoding.proofs.Lists.{Bytes, bytes_append, part-last}

module _ (bytes : List ℕ) (b : Bytes bytes) (at : ℕ) where
  -- a number of `width` bytes is below 256 ^ width
  pub below : (width : ℕ) → big_endian width bytes at < 256 ^ width
  unfolding big_endian
  below zero = lit< tt
  below (suc width) = omega (arith, below width, b (at + width), pow-suc 256 width)

-- the two answers of a reader at any width
module _ (width : ℕ) (bytes : List ℕ) (at : ℕ) where
  pub found : at + width ≤ length bytes → {n : ℕ} → n ≡ big_endian width bytes at → Ok n ≡ number_at width bytes at
  unfolding number_at room
  found h e = simp (le-leb _ _ h) (ap Ok e)

  pub truncated : length bytes < at + width → Err 1 ≡ number_at width bytes at
  unfolding number_at room
  truncated h = simp (lt-leb _ _ h)

  -- and what each says of the bytes
  pub was_read : {n : ℕ} → Ok n ≡ number_at width bytes at → (room bytes at width ≡ true) × (n ≡ big_endian width bytes at)
  unfolding number_at
  was_read e = let r = held (room bytes at width) 1 _ (sym e) in (r.0, cc)

  pub was_truncated : Err 1 ≡ number_at width bytes at → room bytes at width ≡ false
  unfolding number_at
  was_truncated e = unmet (room bytes at width) 1 (big_endian width bytes at) (sym e)

  -- where the bytes are there, what was read is the number
  pub or_zero_is : at + width ≤ length bytes → or_else (number_at width bytes at) 0 ≡ big_endian width bytes at
  or_zero_is h = sym (ap (λ (r : Result ℕ ℕ). or_else r 0) (found h refl))

  -- and where they are not, 0
  pub or_zero_short : length bytes < at + width → or_else (number_at width bytes at) 0 ≡ 0
  or_zero_short h = sym (ap (λ (r : Result ℕ ℕ). or_else r 0) (truncated h))

pub length_bytes_of : (width n : ℕ) → length (bytes_of width n) ≡ width
unfolding bytes_of
length_bytes_of zero n = refl
length_bytes_of (suc width) n =
    length-append (bytes_of width (n / 256)) (n % 256 ∷ []) ∙ ap (λ (k : ℕ). k + 1) (length_bytes_of width (n / 256)) ∙ add-one width

-- a number is read back from its bytes, whatever stands before and after them
pub read_bytes_of : NumbersReadBack
unfolding big_endian bytes_of
read_bytes_of zero n before after = sym (mod-one n)
read_bytes_of (suc width) n before after =
    let high : List ℕ = bytes_of width (n / 256) in
    let low : ℕ = n % 256 in
    let regrouped : before ++ ((high ++ (low ∷ [])) ++ after) ≡ before ++ (high ++ (low ∷ after)) =
    ap (λ (r : List ℕ). before ++ r) (append_assoc high (low ∷ []) after) in
    let last : get_or (before ++ (high ++ (low ∷ after))) (length before + width) 0 ≡ low =
    get_or-append-add before (high ++ (low ∷ after)) width 0
    ∙ ap (λ (i : ℕ). get_or (high ++ (low ∷ after)) i 0) (sym (length_bytes_of width (n / 256)))
    ∙ get_or-append_seam high low after 0 in
    ap (λ (l : List ℕ). big_endian width l (length before) * 256 + get_or l (length before + width) 0) regrouped
    ∙ ap₂ (λ (x y : ℕ). x * 256 + y) (read_bytes_of width (n / 256) before (low ∷ after)) last
    ∙ sym (mod-mul n {m = 256 ^ width} {c = 256} (one-le-pow width 256 (zero-lt-suc 255)) (zero-lt-suc 255))
    ∙ ap (λ (m : ℕ). n % m) (sym (pow-suc 256 width))

-- a number that was written is read back
pub read_written : (width n at : ℕ) (l : List ℕ) → at + width ≤ length l → big_endian width (sets l at (bytes_of width n)) at ≡ n % 256 ^ width
read_written width n at l h =
    let e : length (bytes_of width n) ≡ width = length_bytes_of width n in
    let k : length (take at l) ≡ at = length-take-le at l (omega arith) in
    ap (λ (x : List ℕ). big_endian width x at)
    (sets-eq (bytes_of width n) l at (omega arith) ∙ append_assoc (take at l) (bytes_of width n) (drop (at + length (bytes_of width n)) l))
    ∙ ap (λ (i : ℕ). big_endian width (take at l ++ (bytes_of width n ++ drop (at + length (bytes_of width n)) l)) i) (sym k)
    ∙ read_bytes_of width n (take at l) (drop (at + length (bytes_of width n)) l)

-- the bytes of a number that was read are the bytes that were read
pub bytes_read : (width : ℕ) (bytes : List ℕ) → Bytes bytes → (at : ℕ) → at + width ≤ length bytes
    → bytes_of width (big_endian width bytes at) ≡ part at width bytes
unfolding big_endian bytes_of
bytes_read zero bytes b at h = refl
bytes_read (suc width) bytes b at h =
    let last : ℕ = get_or bytes (at + width) 0 in
    let small : last < 256 = omega (arith, b (at + width)) in
    ap₂ (λ (q r : ℕ). bytes_of width q ++ (r ∷ [])) (digits_div (big_endian width bytes at) small) (digits_mod (big_endian width bytes at) small)
    ∙ ap (λ (r : List ℕ). r ++ (last ∷ [])) (bytes_read width bytes b at (omega arith))
    ∙ sym (part-last at width bytes (omega arith))

-- a number inside a part is the number of the whole
pub read_part : (width : ℕ) (bytes : List ℕ) (p n at : ℕ) → at + width ≤ n → big_endian width (part p n bytes) at ≡ big_endian width bytes (p + at)
unfolding big_endian
read_part zero bytes p n at h = refl
read_part (suc width) bytes p n at h =
    let e : get_or (part p n bytes) (at + width) 0 ≡ get_or bytes ((p + at) + width) 0 =
    get_or-take n (drop p bytes) (at + width) 0 (omega arith) ∙ get_or-drop p bytes (at + width) 0 ∙ ap (λ (i : ℕ). get_or bytes i 0) (omega arith) in
    ap₂ (λ (x y : ℕ). x * 256 + y) (read_part width bytes p n at (omega arith)) e

-- the bytes of a number are bytes
pub bytes_bytes_of : (width n : ℕ) → Bytes (bytes_of width n)
unfolding bytes_of
bytes_bytes_of zero n = λ k. omega arith
bytes_bytes_of (suc width) n = bytes_append (bytes_of width (n / 256)) (n % 256 ∷ []) (bytes_bytes_of width (n / 256)) last
  where
    last : Bytes (n % 256 ∷ [])
    last zero = omega arith
    last (suc k) = omega arith

-- TWO LISTS WITH THE SAME NUMBER

-- by its bytes
pub number_by_get_or : (x y : List ℕ) (width at : ℕ) → ((i : ℕ) → at ≤ i → i < at + width → get_or x i 0 ≡ get_or y i 0)
    → big_endian width x at ≡ big_endian width y at
unfolding big_endian
number_by_get_or x y zero at h = refl
number_by_get_or x y (suc width) at h =
    ap₂ (λ (a b : ℕ). a * 256 + b) (number_by_get_or x y width at (λ i l r. h i l (omega arith))) (h (at + width) (omega arith) (omega arith))

-- a number, and records, among the first of two lists
pub number_left : (width : ℕ) (a b : List ℕ) (at : ℕ) → at + width ≤ length a → big_endian width (a ++ b) at ≡ big_endian width a at
number_left width a b at h = number_by_get_or (a ++ b) a width at (λ i l r. get_or-append a b 0 i (omega arith))

pub records-left : (k n : ℕ) (a b : List ℕ) → n * k ≤ length a → records k n (a ++ b) ≡ records k n a
unfolding records
records-left k zero a b h = refl
records-left k (suc n) a b h =
    let more : suc n * k ≡ n * k + k = suc-mul n k in
    ap₂ (λ (first : List ℕ) (rest : List (List ℕ)). first ∷ rest) (take-append-le k a b (omega arith))
    (ap (records k n) (drop-append-le k a b (omega arith)) ∙ records-left k n _ b (simp length-drop (omega arith)))

-- by a part that holds it
pub number_by_part : (width at n : ℕ) (x y : List ℕ) (p q : ℕ) → at + width ≤ n → part p n x ≡ part q n y
    → big_endian width x (p + at) ≡ big_endian width y (q + at)
number_by_part width at n x y p q h e =
    sym (read_part width x p n at h) ∙ ap (λ (l : List ℕ). big_endian width l at) e ∙ read_part width y q n at h

-- and the bytes by it
pub part_by_number : (x y : List ℕ) → Bytes x → Bytes y → (width at : ℕ) → at + width ≤ length x → at + width ≤ length y
    → big_endian width x at ≡ big_endian width y at → part at width x ≡ part at width y
part_by_number x y bx by width at hx hy e = sym (bytes_read width x bx at hx) ∙ ap (bytes_of width) e ∙ bytes_read width y by at hy

-- the theorems of the definitions' file that speak of bytes
pub bytes_read_back : BytesReadBack
bytes_read_back width bytes b at h = bytes_read width bytes (λ i. omega (arith, b i)) at h

pub numbers_below : NumbersBelow
numbers_below bytes b at width = below bytes (λ i. omega (arith, b i)) at width

-- THE LIBRARY'S NUMBERS

-- the bytes of a number are the library's: the highest first, whether the lowest or the highest is taken off
pub high_first : (width n : ℕ) → bytes_of width n ≡ bytes_high_first width n
unfolding bytes_of
high_first zero n = refl
high_first (suc width) n = first width n ∙ ap (λ (r : List ℕ). byte_at width n ∷ r) (high_first width n)
  where
    above : (i n : ℕ) → byte_at i (n / 256) ≡ byte_at (suc i) n
    above zero n = refl
    above (suc i) n =
        ap (λ (m : ℕ). m % 256)
        (div-div-eq-div-mul n 256 (256 ^ suc i) ∙ ap (λ (m : ℕ). n / m) (mul_comm 256 (256 ^ suc i) ∙ sym (pow-suc 256 (suc i))))

    first : (width n : ℕ) → bytes_of width (n / 256) ++ (n % 256 ∷ []) ≡ byte_at width n ∷ bytes_of width n
    first zero n = refl
    first (suc width) n = ap (λ (r : List ℕ). r ++ (n % 256 ∷ [])) (first width (n / 256)) ∙ ap (λ (b : ℕ). b ∷ bytes_of (suc width) n) (above width n)

-- the number that begins the bytes, or 0
pub ruleset whole = (or_zero_is, or_zero_short)

-- what a reader's goals need: its two answers, and the number of a part
pub ruleset reads = (found, truncated, read_part, or_zero_is)
