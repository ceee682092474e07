-- The counts of a meta header, where its segments and links lie, what a sound one is, and what a reader hands back.
-- Assumes nothing.
use Prim.Native.Nat.{ℕ, zero, suc, ◌+◌, ◌-◌, ◌≤◌, ◌<◌}
use mathlib.Core.Path.{◌≡◌, refl, sym, ap, ◌∙◌}
use mathlib.Core.Bool.{Bool, true, false, cond, not, ◌&&◌, ◌||◌}
use mathlib.Core.List.{[], ◌∷◌}
use native.Mathlib.Nat.{add-zero}
use native.Mathlib.Omega.{arith}
use lib.Dec.{ltb, eqb}
use lib.ListN.{length, get_or-eq_default}
use borrow.Author.Tests.{ltb-true, ltb-false, eqb-true, eqb-false, lt-ltb, le-ltb, eq-eqb}
use Rattle.wire_encoding.proofs.Lists.{by_lt}
use Rattle.wire_encoding.proofs.Result.{held}
use Rattle.path_meta_header.specs.declared.PathMetaHeader.{PathMetaHeader}
use Rattle.std.specs.Prelude.{Ok, Err}
use Rattle.errors.specs.declared.packet_error.DecodeError.TheVariants.{InvalidPath}
use Rattle.errors.specs.declared.path_error.DataplanePathErrorKind.TheVariants.{InvalidSegmentLengths}
use Rattle.path_meta_header.specs.MetaHeader.{segment_length, info_fields_count, hop_fields_count, segment_of, first_hop_field, segment_of_link}
use Rattle.path_meta_header.specs.MetaHeader.{lengths_valid, info_valid, hop_valid, checked, nth_field, meta_of, Link, Links}

-- there are at most as many info fields as hop fields, since only lengths that are not zero count
pub info_le_hop : (m : PathMetaHeader) → info_fields_count m ≤ hop_fields_count m
unfolding info_fields_count hop_fields_count
info_le_hop m = go (eqb (segment_length m 0) 0) (eqb (segment_length m 1) 0) (eqb (segment_length m 2) 0) refl refl refl
  where
    go : (x y z : Bool) → eqb (segment_length m 0) 0 ≡ x → eqb (segment_length m 1) 0 ≡ y → eqb (segment_length m 2) 0 ≡ z
        → cond x 0 (cond y 1 (cond z 2 3)) ≤ segment_length m 0 + segment_length m 1 + segment_length m 2
    go true y z ex ey ez = omega arith
    go false true z ex ey ez = omega (arith, eqb-false (segment_length m 0) 0 ex)
    go false false true ex ey ez = omega (arith, eqb-false (segment_length m 0) 0 ex, eqb-false (segment_length m 1) 0 ey)
    go false false false ex ey ez =
        omega (arith, eqb-false (segment_length m 0) 0 ex, eqb-false (segment_length m 1) 0 ey, eqb-false (segment_length m 2) 0 ez)

-- the lengths that are counted are not zero, and there are at most three
pub record Counted (m : PathMetaHeader) : Type 0 where
  pub first : 0 < info_fields_count m → 1 ≤ segment_length m 0
  pub second : 1 < info_fields_count m → 1 ≤ segment_length m 1
  pub third : 2 < info_fields_count m → 1 ≤ segment_length m 2
  pub few : info_fields_count m ≤ 3

pub counted : (m : PathMetaHeader) → Counted m
unfolding info_fields_count
counted m = go (eqb (segment_length m 0) 0) (eqb (segment_length m 1) 0) (eqb (segment_length m 2) 0) refl refl refl refl
  where
    go : (x y z : Bool) → eqb (segment_length m 0) 0 ≡ x → eqb (segment_length m 1) 0 ≡ y → eqb (segment_length m 2) 0 ≡ z
        → info_fields_count m ≡ cond x 0 (cond y 1 (cond z 2 3)) → Counted m
    go true y z ex ey ez n = record { first = λ l. omega arith; second = λ l. omega arith; third = λ l. omega arith; few = omega arith }
    go false true z ex ey ez n =
        record {
          first = λ l. omega (arith, eqb-false (segment_length m 0) 0 ex);
          second = λ l. omega arith;
          third = λ l. omega arith;
          few =
              omega arith;
        }
    go false false true ex ey ez n =
        record {
          first = λ l. omega (arith, eqb-false (segment_length m 0) 0 ex);
          second = λ l. omega (arith, eqb-false (segment_length m 1) 0 ey);
          third = λ l. omega arith;
          few = omega arith;
        }
    go false false false ex ey ez n =
        record {
          first = λ l. omega (arith, eqb-false (segment_length m 0) 0 ex);
          second = λ l. omega (arith, eqb-false (segment_length m 1) 0 ey);
          third = λ l. omega (arith, eqb-false (segment_length m 2) 0 ez);
          few = omega arith;
        }

-- WHERE THE SEGMENTS LIE

-- the first hop field of each segment, and the one after the last
pub first_hop_field_rows : (m : PathMetaHeader)
    → (first_hop_field m 1 ≡ segment_length m 0) × (first_hop_field m 2 ≡ segment_length m 0 + segment_length m 1) × (first_hop_field m 3 ≡ hop_fields_count m)
unfolding first_hop_field hop_fields_count
first_hop_field_rows m = (omega arith, omega arith, omega arith)

-- no length stands after the third
pub first_hop_field_beyond : (m : PathMetaHeader) → length m.segment_lengths ≡ 3 → (k : ℕ) → 3 ≤ k → first_hop_field m k ≡ hop_fields_count m
unfolding first_hop_field
first_hop_field_beyond m three k beyond = rw (from_three) (go (k - 3))
  where
    from_three : k ≡ suc (suc (suc (k - 3)))
    from_three = omega arith

    go : (j : ℕ) → first_hop_field m (suc (suc (suc j))) ≡ hop_fields_count m
    go zero = (first_hop_field_rows m).2
    go (suc j) =
        ap (λ (n : ℕ). first_hop_field m (suc (suc (suc j))) + n) (get_or-eq_default m.segment_lengths 0 (omega arith))
        ∙ add-zero _
        ∙ go j

-- segment k has a hop field, and its hop fields are among the path's
pub segment_within : (m : PathMetaHeader) (k : ℕ) → k < info_fields_count m
    → (1 ≤ segment_length m k) × (first_hop_field m k + segment_length m k ≤ hop_fields_count m)
unfolding hop_fields_count first_hop_field
segment_within m zero h = ((counted m).first h, omega arith)
segment_within m (suc zero) h = ((counted m).second h, omega arith)
segment_within m (suc (suc zero)) h = ((counted m).third h, omega arith)
segment_within m (suc (suc (suc k))) h = absurd (omega (arith, (counted m).few))

-- lengths that are valid: one segment, two or three, none of them empty
pub data Segments (a b c : ℕ) : ℕ → Type 0 where
  one : 1 ≤ a → b ≡ 0 → c ≡ 0 → Segments a b c 1
  two : 1 ≤ a → 1 ≤ b → c ≡ 0 → Segments a b c 2
  three : 1 ≤ a → 1 ≤ b → 1 ≤ c → Segments a b c 3

module _ (m : PathMetaHeader) (valid : lengths_valid m ≡ true) where
  abbrev first : ℕ
  first = segment_length m 0

  abbrev second : ℕ
  second = segment_length m 1

  abbrev third : ℕ
  third = segment_length m 2

  pub segments : Segments first second third (info_fields_count m)
  unfolding info_fields_count lengths_valid
  segments = go (eqb first 0) (eqb second 0) (eqb third 0) refl refl refl valid
    where
      go : (x y z : Bool) → eqb first 0 ≡ x → eqb second 0 ≡ y → eqb third 0 ≡ z → not x && (not y || z) ≡ true
          → Segments first second third (cond x 0 (cond y 1 (cond z 2 3)))
      go true y z ex ey ez h = let w : ◌≡◌ {A = ℕ} 0 1 = cc in absurd (omega arith)
      go false true true ex ey ez h = one (omega (arith, eqb-false first 0 ex)) (eqb-true second 0 ey) (eqb-true third 0 ez)
      go false true false ex ey ez h = let w : ◌≡◌ {A = ℕ} 0 1 = cc in absurd (omega arith)
      go false false true ex ey ez h =
          two (omega (arith, eqb-false first 0 ex)) (omega (arith, eqb-false second 0 ey)) (eqb-true third 0 ez)
      go false false false ex ey ez h =
          three (omega (arith, eqb-false first 0 ex)) (omega (arith, eqb-false second 0 ey)) (omega (arith, eqb-false third 0 ez))

  -- the segment of a hop field is one of the path's
  pub segment_below : (j : ℕ) → j < hop_fields_count m → segment_of m j < info_fields_count m
  unfolding hop_fields_count segment_of
  segment_below j h = go (info_fields_count m) segments (ltb j first) (ltb j (first + second)) refl refl
    where
      go : (n : ℕ) → Segments first second third n → (p q : Bool) → ltb j first ≡ p → ltb j (first + second) ≡ q → cond p 0 (cond q 1 2) < n
      go n (one a b c) true q ep eq = omega arith
      go n (one a b c) false q ep eq = absurd (omega (arith, ltb-false j first ep))
      go n (two a b c) true q ep eq = omega arith
      go n (two a b c) false true ep eq = omega arith
      go n (two a b c) false false ep eq = absurd (omega (arith, ltb-false j (first + second) eq))
      go n (three a b c) true q ep eq = omega arith
      go n (three a b c) false true ep eq = omega arith
      go n (three a b c) false false ep eq = omega arith

-- which segment hop field j lies in, by the lengths
module _ (m : PathMetaHeader) (j : ℕ) where
  pub in_first : j < segment_length m 0 → segment_of m j ≡ 0
  unfolding segment_of
  in_first h = rw (lt-ltb _ _ h)

  pub in_second : segment_length m 0 ≤ j → j < segment_length m 0 + segment_length m 1 → segment_of m j ≡ 1
  unfolding segment_of
  in_second a h = rw (le-ltb _ _ a, lt-ltb _ _ h)

  pub in_third : segment_length m 0 + segment_length m 1 ≤ j → segment_of m j ≡ 2
  unfolding segment_of
  in_third a = let after : segment_length m 0 ≤ j = omega arith in rw (le-ltb _ _ after, le-ltb _ _ a)

-- from one hop field to the next
module _ (m : PathMetaHeader) (p : ℕ) where
  abbrev s : ℕ
  s = segment_length m 0

  abbrev s' : ℕ
  s' = segment_length m 0 + segment_length m 1

  -- the segment is the same or a later one
  pub segment_up : segment_of m p ≤ segment_of m (p + 1)
  segment_up =
      by_lt p s (λ h. omega (arith, in_first m p h))
      (λ h. by_lt p s'
      (λ l. by_lt (p + 1) s'
      (λ r. omega (arith, in_second m p h l, in_second m (p + 1) (omega arith) r))
      (λ r. omega (arith, in_second m p h l, in_third m (p + 1) r)))
      (λ l. omega (arith, in_third m p l, in_third m (p + 1) (omega arith))))

  -- a segment begins at or before each of its hop fields
  pub first-before : first_hop_field m (segment_of m p) ≤ p
  unfolding first_hop_field
  first-before =
      by_lt p s (λ h. rw (in_first m p h) (omega arith))
      (λ h. by_lt p s' (λ l. rw (in_second m p h l) (omega arith)) (λ l. rw (in_third m p l) (omega arith)))

  -- a new segment begins where it is entered
  pub first_entered : (segment_of m (p + 1) ≡ segment_of m p → ⊥) → first_hop_field m (segment_of m (p + 1)) ≡ p + 1
  unfolding first_hop_field
  first_entered new =
      by_lt (p + 1) s (λ h. absurd (new (in_first m (p + 1) h ∙ sym (in_first m p (omega arith)))))
      (λ h. by_lt (p + 1) s'
      (λ l. rw (in_second m (p + 1) h l)
      (by_lt p s (λ r. omega arith) (λ r. absurd (new (in_second m (p + 1) h l ∙ sym (in_second m p r (omega arith)))))))
      (λ l. rw (in_third m (p + 1) l)
      (by_lt p s' (λ r. omega arith) (λ r. absurd (new (in_third m (p + 1) l ∙ sym (in_third m p r)))))))

-- LINKS

-- the link in its segment
joins : (m : PathMetaHeader) (l k : ℕ) → segment_of_link m l ≡ k → k < info_fields_count m → segment_of m (l + k) ≡ k → segment_of m (l + k + 1) ≡ k
    → l + k + 1 < hop_fields_count m → Link m l
joins m l k e segment near far inside = record { segment = rw e segment; near = rw e near; far = rw e far; inside = rw e inside }

pub links : Links
unfolding segment_of_link hop_fields_count
links m valid l below =
    go (info_fields_count m) (segments m valid) refl below (ltb (l + 1) s0) (ltb (l + 2) (s0 + s1)) refl refl
  where
    s0 : ℕ
    s0 = segment_length m 0

    s1 : ℕ
    s1 = segment_length m 1

    s2 : ℕ
    s2 = segment_length m 2

    in_0 : l + 1 < s0 → 0 < info_fields_count m → Link m l
    in_0 h some =
        joins m l 0 (rw (lt-ltb (l + 1) s0 h)) some (in_first m (l + 0) (omega arith)) (in_first m (l + 0 + 1) (omega arith)) (omega arith)

    in_1 : s0 ≤ l + 1 → l + 2 < s0 + s1 → 1 < info_fields_count m → Link m l
    in_1 a h some =
        joins m l 1 (rw (le-ltb (l + 1) s0 a, lt-ltb (l + 2) (s0 + s1) h)) some
        (in_second m (l + 1) (omega arith) (omega arith)) (in_second m (l + 1 + 1) (omega arith) (omega arith)) (omega arith)

    in_2 : s0 ≤ l + 1 → s0 + s1 ≤ l + 2 → 2 < info_fields_count m → l + 3 < s0 + s1 + s2 → Link m l
    in_2 a b some last =
        joins m l 2 (rw (le-ltb (l + 1) s0 a, le-ltb (l + 2) (s0 + s1) b)) some
        (in_third m (l + 2) (omega arith)) (in_third m (l + 2 + 1) (omega arith)) (omega arith)

    go : (n : ℕ) → Segments s0 s1 s2 n → info_fields_count m ≡ n → l < s0 + s1 + s2 - n
        → (p q : Bool) → ltb (l + 1) s0 ≡ p → ltb (l + 2) (s0 + s1) ≡ q → Link m l
    go n (one a b c) e h true q ep eq = in_0 (ltb-true (l + 1) s0 ep) (omega arith)
    go n (one a b c) e h false q ep eq = absurd (omega (arith, ltb-false (l + 1) s0 ep))
    go n (two a b c) e h true q ep eq = in_0 (ltb-true (l + 1) s0 ep) (omega arith)
    go n (two a b c) e h false true ep eq = in_1 (ltb-false (l + 1) s0 ep) (ltb-true (l + 2) (s0 + s1) eq) (omega arith)
    go n (two a b c) e h false false ep eq = absurd (omega (arith, ltb-false (l + 1) s0 ep, ltb-false (l + 2) (s0 + s1) eq))
    go n (three a b c) e h true q ep eq = in_0 (ltb-true (l + 1) s0 ep) (omega arith)
    go n (three a b c) e h false true ep eq = in_1 (ltb-false (l + 1) s0 ep) (ltb-true (l + 2) (s0 + s1) eq) (omega arith)
    go n (three a b c) e h false false ep eq =
        in_2 (ltb-false (l + 1) s0 ep) (ltb-false (l + 2) (s0 + s1) eq) (omega arith) (omega arith)

-- two neighbouring hop fields j and j + 1 of one segment k are joined by link j − k
pub record Between (m : PathMetaHeader) (j k : ℕ) : Type 0 where
  pub link : segment_of_link m (j - k) ≡ k
  pub there : j - k < hop_fields_count m - info_fields_count m
  pub before : k ≤ j

pub between : (m : PathMetaHeader) → lengths_valid m ≡ true → (j k : ℕ) → j + 1 < hop_fields_count m → segment_of m j ≡ k
    → segment_of m (j + 1) ≡ k → Between m j k
unfolding segment_of_link hop_fields_count
between m valid j k below near far = go (info_fields_count m) (segments m valid) refl
  where
    s0 : ℕ
    s0 = segment_length m 0

    s1 : ℕ
    s1 = segment_length m 1

    -- which segment it is, by where the second of the two lies; the first lies in it too
    in_0 : j + 1 < s0 → k ≡ 0
    in_0 h = sym far ∙ in_first m (j + 1) h

    in_1 : s0 ≤ j + 1 → j + 1 < s0 + s1 → (k ≡ 1) × (s0 ≤ j)
    in_1 a h =
        let one = sym far ∙ in_second m (j + 1) a h in
        (one, by_lt j s0 (λ l. absurd (omega (arith, in_first m j l))) (λ l. l))

    in_2 : s0 + s1 ≤ j + 1 → (k ≡ 2) × (s0 + s1 ≤ j)
    in_2 a =
        let two = sym far ∙ in_third m (j + 1) a in
        let behind : s0 ≤ j = by_lt j s0 (λ l. absurd (omega (arith, in_first m j l))) (λ l. l) in
        (two, by_lt j (s0 + s1) (λ b. absurd (omega (arith, in_second m j behind b))) (λ b. b))

    -- the link's segment, from where it is known that the link is there
    found : 1 ≤ s0 → (s0 + s1 ≤ j → 1 ≤ s1) → j - k < hop_fields_count m - info_fields_count m → Between m j k
    found a b there =
        by_lt (j + 1) s0
        (λ h. let e : j - k ≡ j = omega (arith, in_0 h) in
        record { link = rw (e, lt-ltb (j + 1) s0 h) (sym (in_0 h)); there = there; before = omega (arith, in_0 h) })
        (λ h. by_lt (j + 1) (s0 + s1)
        (λ l. let p = in_1 h l in
        let x : s0 ≤ j - k + 1 = omega arith in
        let y : j - k + 2 < s0 + s1 = omega arith in
        record { link = rw (le-ltb _ _ x, lt-ltb _ _ y) (sym p.0); there = there; before = omega arith })
        (λ l. let p = in_2 l in
        let one = b p.1 in
        let x : s0 ≤ j - k + 1 = omega arith in
        let y : s0 + s1 ≤ j - k + 2 = omega arith in
        record { link = rw (le-ltb _ _ x, le-ltb _ _ y) (sym p.0); there = there; before = omega arith }))

    go : (n : ℕ) → Segments s0 s1 (segment_length m 2) n → info_fields_count m ≡ n → Between m j k
    go n (one a b c) e = found a (λ h. absurd (omega arith)) (omega (arith, in_0 (omega arith)))
    go n (two a b c) e =
        found a (λ h. b)
        (by_lt (j + 1) s0 (λ h. omega (arith, in_0 h)) (λ h. let p = in_1 h (omega arith) in omega arith))
    go n (three a b c) e =
        found a (λ h. b)
        (by_lt (j + 1) s0 (λ h. omega (arith, in_0 h))
        (λ h. by_lt (j + 1) (s0 + s1) (λ l. let p = in_1 h l in omega arith) (λ l. let p = in_2 l in omega arith)))

-- A HEADER BY ITS FIELDS

pub same_meta : (m n : PathMetaHeader) → m.current_info_field ≡ n.current_info_field → m.current_hop_field ≡ n.current_hop_field
    → m.reserved ≡ n.reserved → m.segment_lengths ≡ n.segment_lengths → m ≡ n
same_meta m n a b c d =
    λ i. record { current_info_field = a i; current_hop_field = b i; reserved = c i; segment_lengths = d i }

-- three lengths, each of six bits
pub record Lengths (m : PathMetaHeader) : Type 0 where
  pub first : segment_length m 0 < 64
  pub second : segment_length m 1 < 64
  pub third : segment_length m 2 < 64
  pub these : segment_length m 0 ∷ segment_length m 1 ∷ segment_length m 2 ∷ [] ≡ m.segment_lengths

-- as a word spells them
pub lengths_read : (word : ℕ) → Lengths (meta_of word)
unfolding meta_of nth_field
lengths_read word = record { first = omega arith; second = omega arith; third = omega arith; these = refl }

-- wrong lengths are refused first, whatever else is wrong
pub wrong_lengths : (m : PathMetaHeader) → lengths_valid m ≡ false → checked m ≡ Err (InvalidPath InvalidSegmentLengths)
unfolding checked
wrong_lengths m e = rw e

-- A SOUND HEADER

-- one that passes its rules
pub record Sound (m : PathMetaHeader) : Type 0 where
  pub lengths : lengths_valid m ≡ true
  pub info : m.current_info_field < info_fields_count m
  pub hop : m.current_hop_field < hop_fields_count m
  pub segment : segment_of m m.current_hop_field ≡ m.current_info_field

both : (a b : Bool) → a && b ≡ true → (a ≡ true) × (b ≡ true)
both true b h = (refl, h)
both false b h = let z : ◌≡◌ {A = ℕ} 0 1 = cc in absurd (omega arith)

pub checked_sound : (m : PathMetaHeader) {read : PathMetaHeader} → checked m ≡ Ok read → Sound m × (m ≡ read)
unfolding checked info_valid hop_valid
checked_sound m h =
    let lengths = held (lengths_valid m) _ _ h in
    let info = held (info_valid m) _ _ lengths.1 in
    let hop = held (hop_valid m) _ _ info.1 in
    let parts = both (ltb m.current_hop_field (hop_fields_count m)) _ hop.0 in (
      record {
        lengths = lengths.0;
        info = ltb-true _ _ info.0;
        hop = ltb-true _ _ parts.0;
        segment = eqb-true _ _ parts.1;
      },
      cc,
    )

pub sound_checked : (m : PathMetaHeader) → Sound m → checked m ≡ Ok m
unfolding checked info_valid hop_valid
sound_checked m s = rw (s.lengths, lt-ltb _ _ s.info, lt-ltb _ _ s.hop, eq-eqb _ _ s.segment)
