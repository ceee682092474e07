-- Parts of a list of bytes, and runs of bytes written over a part (`sets`).
-- Assumes nothing.
use mathlib.Core.Path.{◌≡◌, refl, sym, ap, ◌∙◌}
use mathlib.Core.Bool.{Bool, true, false}
use mathlib.Core.List.{List, [], ◌∷◌, ◌++◌, append-nil}
use Prim.Native.Nat.{ℕ, zero, suc, ◌+◌, ◌-◌, ◌≤◌, ◌<◌}
use native.Mathlib.Nat.{add_assoc, add-zero, add-suc, suc-add}
use native.Mathlib.Omega.{arith}
use lib.Dec.{ltb}
use lib.ListN.{length, take, drop, get_or, set, length-take, length-drop, length-set, drop_of_length-le, take-append-drop}
use lib.Seq.{sets, sets-eq, set_comm, drop-cons, take-suc, get_or-drop, get_or-take, drop-drop, take-add, ext_get_or, take-append-le, drop-append-le}
use lib.Seq.{drop-append-add}
use borrow.Author.Tests.{ltb-true, ltb-false}
use mir.Val.{Fits}
use mir.Syntax.{w8}
use Rattle.wire_encoding.specs.BigEndian.{part}

-- every element is a byte: what a slice's rule gives
abbrev pub Bytes : List ℕ → Type 0
Bytes bytes = (k : ℕ) → Fits w8 (get_or bytes k 0)

-- numbers below 256 are
pub bytes_of_lem : (bytes : List ℕ) → ((i : ℕ) → get_or bytes i 0 < 256) → Bytes bytes
bytes_of_lem bytes small i = omega (arith, small i)

pub length_part : (at n : ℕ) (bytes : List ℕ) → at + n ≤ length bytes → length (part at n bytes) ≡ n
length_part at n bytes h = simp (length-take, length-drop) (omega arith)

-- a part begins with its first byte
pub part_cons : (at n : ℕ) (bytes : List ℕ) → at < length bytes → part at (suc n) bytes ≡ get_or bytes at 0 ∷ part (suc at) n bytes
part_cons at n bytes h = rw (drop-cons bytes at 0)

-- a part ends with its last byte
pub part-last : (at n : ℕ) (bytes : List ℕ) → at + n < length bytes → part at (suc n) bytes ≡ part at n bytes ++ (get_or bytes (at + n) 0 ∷ [])
part-last at n bytes h =
    take-suc (drop at bytes) n 0 (simp length-drop (omega arith))
    ∙ ap (λ (b : ℕ). part at n bytes ++ (b ∷ [])) (get_or-drop at bytes n 0)

-- one write after another, where the first ends
pub sets-append : (xs ys l : List ℕ) (at : ℕ) → sets l at (xs ++ ys) ≡ sets (sets l at xs) (at + length xs) ys
sets-append [] ys l at = ap (λ (n : ℕ). sets l n ys) (sym (add-zero at))
sets-append (x ∷ xs) ys l at =
    sets-append xs ys (set l at x) (suc at)
    ∙ ap (λ (n : ℕ). sets (sets (set l at x) (suc at) xs) n ys) (suc-add at (length xs) ∙ sym (add-suc at (length xs)))

-- the same where the first run has n bytes
pub written_after : (xs ys l : List ℕ) (at n : ℕ) → length xs ≡ n → sets (sets l at xs) (at + n) ys ≡ sets l at (xs ++ ys)
written_after xs ys l at n size =
    sym (sets-append xs ys l at ∙ ap (λ (m : ℕ). sets (sets l at xs) (at + m) ys) size)

-- a write of the whole
pub sets-whole : (xs l : List ℕ) → length xs ≡ length l → sets l 0 xs ≡ xs
sets-whole xs l e =
    sets-eq xs l 0 (omega arith)
    ∙ ap (λ (r : List ℕ). xs ++ r) (drop_of_length-le l {i = 0 + length xs} (omega arith))
    ∙ append-nil xs

-- a store above a run of stores may be made before it
pub set-sets : (xs l : List ℕ) (at j b : ℕ) → at + length xs ≤ j → set (sets l at xs) j b ≡ sets (set l j b) at xs
set-sets [] l at j b h = refl
set-sets (x ∷ xs) l at j b h =
    set-sets xs (set l at x) (suc at) j b (omega arith)
    ∙ ap (λ (r : List ℕ). sets r (suc at) xs) (set_comm l at j x b (λ e. omega arith))

-- a part written where it stands changes nothing
pub sets_same : (at n : ℕ) (l : List ℕ) → at + n ≤ length l → sets l at (part at n l) ≡ l
sets_same at n l h =
    let e : length (part at n l) ≡ n = length_part at n l h in
    sets-eq (part at n l) l at (omega arith)
    ∙ ap (λ (m : ℕ). (take at l ++ part at n l) ++ drop (at + m) l) e
    ∙ ap (λ (r : List ℕ). r ++ drop (at + n) l) (sym (take-add at n l))
    ∙ take-append-drop (at + n) l

-- a part, byte by byte
abbrev pub bytes_from : ℕ → ℕ → List ℕ → List ℕ
bytes_from at zero bytes = []
bytes_from at (suc n) bytes = get_or bytes at 0 ∷ bytes_from (suc at) n bytes

pub part_bytes : (n at : ℕ) (bytes : List ℕ) → at + n ≤ length bytes → part at n bytes ≡ bytes_from at n bytes
part_bytes zero at bytes h = refl
part_bytes (suc n) at bytes h =
    part_cons at n bytes (omega arith) ∙ ap (λ (r : List ℕ). get_or bytes at 0 ∷ r) (part_bytes n (suc at) bytes (omega arith))

-- parts side by side are one part
pub part_join : (at m n : ℕ) (bytes : List ℕ) → part at m bytes ++ part (at + m) n bytes ≡ part at (m + n) bytes
part_join at m n bytes =
    ap (λ (l : List ℕ). part at m bytes ++ take n l) (sym (drop-drop m at bytes)) ∙ sym (take-add m n (drop at bytes))

-- a part of bytes is bytes
bytes_take : (n : ℕ) (l : List ℕ) → Bytes l → Bytes (take n l)
bytes_take zero l b k = omega arith
bytes_take (suc n) [] b k = omega arith
bytes_take (suc n) (x ∷ l) b zero = b zero
bytes_take (suc n) (x ∷ l) b (suc k) = bytes_take n l (λ i. b (suc i)) k

pub bytes_part : (at n : ℕ) (bytes : List ℕ) → Bytes bytes → Bytes (part at n bytes)
bytes_part at n bytes b = bytes_take n (drop at bytes) (λ k. rw (get_or-drop at bytes k 0) (b (at + k)))

-- byte i of a part
pub get_or_part : (at n : ℕ) (bytes : List ℕ) (i : ℕ) → i < n → get_or (part at n bytes) i 0 ≡ get_or bytes (at + i) 0
get_or_part at n bytes i h = get_or-take n (drop at bytes) i 0 h ∙ get_or-drop at bytes i 0

-- a part of a part
pub part-part : (p n at m : ℕ) (bytes : List ℕ) → at + m ≤ n → p + n ≤ length bytes → part at m (part p n bytes) ≡ part (p + at) m bytes
part-part p n at m bytes h k =
    let inner : length (part at m (part p n bytes)) ≡ m = length_part at m (part p n bytes) (omega (arith, length_part p n bytes k)) in
    let outer : length (part (p + at) m bytes) ≡ m = length_part (p + at) m bytes (omega arith) in
    ext_get_or 0 (part at m (part p n bytes)) (part (p + at) m bytes) (inner ∙ sym outer)
    (λ i below. get_or_part at m (part p n bytes) i (omega arith)
    ∙ get_or_part p n bytes (at + i) (omega arith)
    ∙ ap (λ (x : ℕ). get_or bytes x 0) (sym (add_assoc p at i))
    ∙ sym (get_or_part (p + at) m bytes i (omega arith)))

-- PARTS OF TWO LISTS, ONE AFTER THE OTHER

-- a part of the first list
pub part_left : (at n : ℕ) (a b : List ℕ) → at + n ≤ length a → part at n (a ++ b) ≡ part at n a
part_left at n a b h =
    ap (take n) (drop-append-le at a b (omega arith)) ∙ take-append-le n (drop at a) b (simp length-drop (omega arith))

-- a part of the second, after one of that size
pub part_right : (size at n : ℕ) (a b : List ℕ) → length a ≡ size → part (size + at) n (a ++ b) ≡ part at n b
part_right size at n a b e = ap (λ (s : ℕ). part (s + at) n (a ++ b)) (sym e) ∙ ap (take n) (drop-append-add a b at)

-- a write among the first list's bytes
pub set-left : (a b : List ℕ) (i v : ℕ) → i < length a → set (a ++ b) i v ≡ set a i v ++ b
set-left [] b i v h = absurd (omega arith)
set-left (x ∷ a) b zero v h = refl
set-left (x ∷ a) b (suc i) v h = ap (λ (l : List ℕ). x ∷ l) (set-left a b i v (omega arith))

pub sets-left : (xs a b : List ℕ) (at : ℕ) → at + length xs ≤ length a → sets (a ++ b) at xs ≡ sets a at xs ++ b
sets-left [] a b at h = refl
sets-left (x ∷ xs) a b at h =
    ap (λ (l : List ℕ). sets l (suc at) xs) (set-left a b at x (omega arith))
    ∙ sets-left xs (set a at x) b (suc at) (simp length-set (omega arith))

-- a part of what is left after the first bytes
pub part-drop : (from at n : ℕ) (x : List ℕ) → part at n (drop from x) ≡ part (from + at) n x
part-drop from at n x = ap (take n) (drop-drop at from x)

-- TWO LISTS WITH THE SAME BYTES

-- by cases on a < b
pub by_lt : {P : Type 0} (a b : ℕ) → (a < b → P) → (b ≤ a → P) → P
by_lt {P} a b f g = go (ltb a b) refl
  where
    go : (t : Bool) → ltb a b ≡ t → P
    go true e = f (ltb-true a b e)
    go false e = g (ltb-false a b e)

module _ (x y : List ℕ) where
  -- a part that is the same has the same bytes
  pub get_or_by_part : (at n : ℕ) → part at n x ≡ part at n y → (i : ℕ) → at ≤ i → i < at + n → get_or x i 0 ≡ get_or y i 0
  get_or_by_part at n e i l h =
      let q : at + (i - at) ≡ i = omega arith in
      rw q at
      (sym (get_or_part at n x (i - at) (omega arith))
      ∙ ap (λ (p : List ℕ). get_or p (i - at) 0) e
      ∙ get_or_part at n y (i - at) (omega arith))

  -- and the other way round
  pub part_by_get_or : (at n : ℕ) → at + n ≤ length x → at + n ≤ length y
      → ((i : ℕ) → at ≤ i → i < at + n → get_or x i 0 ≡ get_or y i 0) → part at n x ≡ part at n y
  part_by_get_or at n hx hy h =
      let lx : length (part at n x) ≡ n = length_part at n x hx in
      let ly : length (part at n y) ≡ n = length_part at n y hy in
      ext_get_or 0 (part at n x) (part at n y) (lx ∙ sym ly)
      (λ i l. get_or_part at n x i (omega arith) ∙ h (at + i) (omega arith) (omega arith) ∙ sym (get_or_part at n y i (omega arith)))

-- LISTS OF BYTES

pub bytes_append : (a b : List ℕ) → Bytes a → Bytes b → Bytes (a ++ b)
bytes_append [] b ha hb k = hb k
bytes_append (v ∷ a) b ha hb zero = ha zero
bytes_append (v ∷ a) b ha hb (suc k) = bytes_append a b (λ i. ha (suc i)) hb k

pub bytes_drop : (n : ℕ) (l : List ℕ) → Bytes l → Bytes (drop n l)
bytes_drop n l h k = rw (get_or-drop n l k 0) (h (n + k))

pub bytes_set : (l : List ℕ) (i v : ℕ) → Bytes l → Fits w8 v → Bytes (set l i v)
bytes_set [] i v old new k = old k
bytes_set (x ∷ l) zero v old new zero = new
bytes_set (x ∷ l) zero v old new (suc k) = old (suc k)
bytes_set (x ∷ l) (suc i) v old new zero = old zero
bytes_set (x ∷ l) (suc i) v old new (suc k) = bytes_set l i v (λ j. old (suc j)) new k

pub bytes_sets : (xs l : List ℕ) (at : ℕ) → Bytes l → Bytes xs → Bytes (sets l at xs)
bytes_sets [] l at old new = old
bytes_sets (x ∷ xs) l at old new = bytes_sets xs (set l at x) (suc at) (bytes_set l at x old (new zero)) (λ k. new (suc k))
