-- A bit set, cleared or flipped by a mask, one law over the bit for each; what the other bits keep; and what is the same after two
-- flips and after two exclusive ors.
-- Assumes nothing.
use mathlib.Core.Path.{◌≡◌, refl, sym, ap, ap₂, ◌∙◌}
use mathlib.Core.Bool.{Bool, true, false, not, cond}
use Prim.Native.Nat.{ℕ, zero, suc, ◌+◌, ◌-◌, ◌*◌, ◌/◌, ◌%◌, ◌^◌, ◌<◌, min, max}
use native.Mathlib.Nat.{add-mul-div_right, add-mul-mod_self_right, add-mul, one-mul, add-zero, mod-lt, mod-eq_of_lt, min-zero, div-add-mod'}
use native.Mathlib.Nat.{zero-lt-suc}
use native.Mathlib.Omega.{arith}
use lib.Bits.{bit_and, bit_or, bit_xor, differ, or_block, and_block, xor_block, or_step, and_step, xor_step, or_zero_r, xor_zero_r, xor_self, and_mask}
use lib.Arith.{bin_ind, digits_div, digits_mod}
use borrow.Author.Tests.{eq-eqb, ne_eqb, eqb-true, eqb-false}
use lib.Dec.{lit<}
use lib.Pow.{split, pow_pos, pow-add}
use Rattle.std.proofs.lemmas.Nat.{one_shl, div_below}
use Rattle.wire_encoding.specs.Bits.{bit_of, with_bit, OneBit, OtherBitsStay}

-- how each operation acts on the lowest bit
or_one : (m : ℕ) → bit_or m 1 ≡ m / 2 * 2 + max (m % 2) 1
or_one m = or_step m 1 ∙ ap (λ (x : ℕ). x * 2 + max (m % 2) 1) (or_zero_r (m / 2))

xor_one : (m : ℕ) → bit_xor m 1 ≡ m / 2 * 2 + differ (m % 2) 1
xor_one m = xor_step m 1 ∙ ap (λ (x : ℕ). x * 2 + differ (m % 2) 1) (xor_zero_r (m / 2))

and_all_but_one : (j m : ℕ) → m / 2 < 2 ^ j → bit_and m ((2 ^ j - 1) * 2) ≡ m / 2 * 2
and_all_but_one j m h =
    let half : (2 ^ j - 1) * 2 / 2 ≡ 2 ^ j - 1 = omega arith in
    let even : (2 ^ j - 1) * 2 % 2 ≡ 0 = omega arith in
    and_step m ((2 ^ j - 1) * 2)
    ∙ ap₂ (λ (x y : ℕ). bit_and (m / 2) x * 2 + min (m % 2) y) half even
    ∙ ap₂ (λ (x y : ℕ). x * 2 + y) (and_mask (m / 2) j ∙ mod-eq_of_lt h) (min-zero (m % 2))
    ∙ add-zero (m / 2 * 2)

-- a number by its bits from k on and its bits below k
module _ (k n : ℕ) where
  fits_low : n % 2 ^ k < 2 ^ k
  fits_low = mod-lt n (pow_pos k)

  one_block : 1 * 2 ^ k + 0 ≡ 2 ^ k
  one_block = add-zero (1 * 2 ^ k) ∙ one-mul (2 ^ k)

  -- with the lowest of the bits from k on moved by what is known of it
  set_0 : n / 2 ^ k % 2 ≡ 0 → (n / 2 ^ k / 2 * 2 + 1) * 2 ^ k + n % 2 ^ k ≡ n + 2 ^ k
  set_0 e =
      let h : n / 2 ^ k / 2 * 2 ≡ n / 2 ^ k = omega arith in
      ap (λ (m : ℕ). (m + 1) * 2 ^ k + n % 2 ^ k) h
      ∙ ap (λ (m : ℕ). m + n % 2 ^ k) (add-mul (n / 2 ^ k) 1 (2 ^ k))
      ∙ omega (arith, split n k, one-mul (2 ^ k))

  set_1 : n / 2 ^ k % 2 ≡ 1 → (n / 2 ^ k / 2 * 2 + 1) * 2 ^ k + n % 2 ^ k ≡ n
  set_1 e =
      let h : n / 2 ^ k / 2 * 2 + 1 ≡ n / 2 ^ k = omega arith in
      ap (λ (m : ℕ). m * 2 ^ k + n % 2 ^ k) h ∙ split n k

  clear_0 : n / 2 ^ k % 2 ≡ 0 → n / 2 ^ k / 2 * 2 * 2 ^ k + n % 2 ^ k ≡ n
  clear_0 e =
      let h : n / 2 ^ k / 2 * 2 ≡ n / 2 ^ k = omega arith in
      ap (λ (m : ℕ). m * 2 ^ k + n % 2 ^ k) h ∙ split n k

  clear_1 : n / 2 ^ k % 2 ≡ 1 → n / 2 ^ k / 2 * 2 * 2 ^ k + n % 2 ^ k ≡ n - 2 ^ k
  clear_1 e =
      let h : n / 2 ^ k ≡ n / 2 ^ k / 2 * 2 + 1 = omega arith in
      let s : n / 2 ^ k * 2 ^ k ≡ n / 2 ^ k / 2 * 2 * 2 ^ k + 1 * 2 ^ k =
      ap (λ (m : ℕ). m * 2 ^ k) h ∙ add-mul (n / 2 ^ k / 2 * 2) 1 (2 ^ k) in
      omega (arith, split n k, one-mul (2 ^ k))

  -- the mask 2 ^ k sets bit k
  pub set_bit : bit_or n (2 ^ k) ≡ with_bit k true n
  unfolding with_bit
  set_bit =
      ap₂ bit_or (sym (split n k)) (sym one_block)
      ∙ or_block k (n / 2 ^ k) 1 (n % 2 ^ k) 0 fits_low (pow_pos k)
      ∙ ap₂ (λ (x y : ℕ). x * 2 ^ k + y) (or_one (n / 2 ^ k)) (or_zero_r (n % 2 ^ k))
      ∙ go (n / 2 ^ k % 2) refl (mod-lt (n / 2 ^ k) (lit< tt))
    where
      go : (b : ℕ) → n / 2 ^ k % 2 ≡ b → b < 2 → (n / 2 ^ k / 2 * 2 + max (n / 2 ^ k % 2) 1) * 2 ^ k + n % 2 ^ k ≡ cond (bit_of k n) n (n + 2 ^ k)
      go zero e h = rw e (set_0 e)
      go (suc zero) e h = rw e (set_1 e)
      go (suc (suc b)) e h = omega arith

  -- the mask of all bits but k clears it
  pub clear_bit : (j : ℕ) → n / 2 ^ k / 2 < 2 ^ j → bit_and n ((2 ^ j - 1) * 2 * 2 ^ k + (2 ^ k - 1)) ≡ with_bit k false n
  unfolding with_bit
  clear_bit j h =
      ap (λ (m : ℕ). bit_and m ((2 ^ j - 1) * 2 * 2 ^ k + (2 ^ k - 1))) (sym (split n k))
      ∙ and_block k (n / 2 ^ k) ((2 ^ j - 1) * 2) (n % 2 ^ k) (2 ^ k - 1) fits_low (omega (arith, pow_pos k))
      ∙ ap₂ (λ (x y : ℕ). x * 2 ^ k + y) (and_all_but_one j (n / 2 ^ k) h) (and_mask (n % 2 ^ k) k ∙ mod-eq_of_lt fits_low)
      ∙ go (n / 2 ^ k % 2) refl (mod-lt (n / 2 ^ k) (lit< tt))
    where
      go : (b : ℕ) → n / 2 ^ k % 2 ≡ b → b < 2 → n / 2 ^ k / 2 * 2 * 2 ^ k + n % 2 ^ k ≡ cond (bit_of k n) (n - 2 ^ k) n
      go zero e h = rw e (clear_0 e)
      go (suc zero) e h = rw e (clear_1 e)
      go (suc (suc b)) e h = omega arith

  -- the mask 2 ^ k, by exclusive or, flips it
  pub flip_bit : bit_xor n (2 ^ k) ≡ with_bit k (not (bit_of k n)) n
  unfolding with_bit
  flip_bit =
      ap₂ bit_xor (sym (split n k)) (sym one_block)
      ∙ xor_block k (n / 2 ^ k) 1 (n % 2 ^ k) 0 fits_low (pow_pos k)
      ∙ ap₂ (λ (x y : ℕ). x * 2 ^ k + y) (xor_one (n / 2 ^ k)) (xor_zero_r (n % 2 ^ k))
      ∙ go (n / 2 ^ k % 2) refl (mod-lt (n / 2 ^ k) (lit< tt))
    where
      go : (b : ℕ) → n / 2 ^ k % 2 ≡ b → b < 2 → (n / 2 ^ k / 2 * 2 + differ (n / 2 ^ k % 2) 1) * 2 ^ k + n % 2 ^ k ≡ with_bit k (not (bit_of k n)) n
      go zero e h = rw e (rw e (set_0 e))
      go (suc zero) e h = rw e (rw e (simp add-zero (clear_1 e)))
      go (suc (suc b)) e h = omega arith

  -- 2 ^ k more is one more from k on, and nothing below
  div_more : (m : ℕ) → (m + 2 ^ k) / 2 ^ k ≡ m / 2 ^ k + 1
  div_more m = ap (λ (x : ℕ). (m + x) / 2 ^ k) (sym (one-mul (2 ^ k))) ∙ add-mul-div_right m 1 (pow_pos k)

  mod_more : (m : ℕ) → (m + 2 ^ k) % 2 ^ k ≡ m % 2 ^ k
  mod_more m = ap (λ (x : ℕ). (m + x) % 2 ^ k) (sym (one-mul (2 ^ k))) ∙ add-mul-mod_self_right m 1 (2 ^ k)

  -- a number whose bit k is set is 2 ^ k more than another
  taken : n / 2 ^ k % 2 ≡ 1 → n ≡ n - 2 ^ k + 2 ^ k
  taken e = omega (arith, set_1 e, add-mul (n / 2 ^ k / 2 * 2) 1 (2 ^ k), one-mul (2 ^ k))

  above_taken : n / 2 ^ k % 2 ≡ 1 → n / 2 ^ k ≡ (n - 2 ^ k) / 2 ^ k + 1
  above_taken e = ap (λ (m : ℕ). m / 2 ^ k) (taken e) ∙ div_more (n - 2 ^ k)

  kept_set : n / 2 ^ k % 2 ≡ 0 → OneBit k true n (n + 2 ^ k)
  kept_set e = record {
    made = eq-eqb ((n + 2 ^ k) / 2 ^ k % 2) 1 (omega (arith, div_more n));
    above = omega (arith, div_more n);
    below = mod_more n;
  }

  kept_cleared : n / 2 ^ k % 2 ≡ 1 → OneBit k false n (n - 2 ^ k)
  kept_cleared e = record {
    made = ne_eqb ((n - 2 ^ k) / 2 ^ k % 2) 1 (λ q. omega (arith, above_taken e));
    above = omega (arith, above_taken e);
    below = sym (ap (λ (m : ℕ). m % 2 ^ k) (taken e) ∙ mod_more (n - 2 ^ k));
  }

-- the same two in a byte, where a shift makes the mask
module _ (k n : ℕ) (inside : k < 8) where
  pub shift_sets : with_bit k true n ≡ bit_or n (1 * 2 ^ k % 256)
  shift_sets = sym (ap (bit_or n) (one_shl k 8 inside) ∙ set_bit k n)

  pub shift_clears : n < 256 → with_bit k false n ≡ bit_and n (255 - 1 * 2 ^ k % 256)
  shift_clears byte =
      let seven : 7 - k + k ≡ 7 = omega arith in
      let whole : 2 ^ (7 - k) * 2 ^ k ≡ 2 ^ 7 = sym (pow-add 2 (7 - k) k) ∙ ap (λ (i : ℕ). 2 ^ i) seven in
      let high : n / 2 ^ k / 2 < 2 ^ (7 - k) =
      div_below (n / 2 ^ k) 2 (2 ^ (7 - k)) (lit< tt)
      (div_below n (2 ^ k) (2 ^ (7 - k) * 2) (pow_pos k) (omega (arith, doubled (2 ^ (7 - k)) (2 ^ k) whole))) in
      sym (clear_bit k n (7 - k) high) ∙ ap (bit_and n) (others (2 ^ (7 - k)) (2 ^ k) whole ∙ ap (λ (m : ℕ). 255 - m) (sym (one_shl k 8 inside)))
    where
      doubled : (a b : ℕ) → a * b ≡ 128 → a * 2 * b ≡ 256
      doubled a b h = grind arith

      others : (a b : ℕ) → a * b ≡ 128 → (a - 1) * 2 * b + (b - 1) ≡ 255 - b
      others zero b h = omega arith
      others (suc a) b h = grind arith

-- what a byte's bit set or cleared needs
pub ruleset shifts = (shift_sets, shift_clears)

pub bit_kept : OtherBitsStay
unfolding with_bit
bit_kept k n v = go v (n / 2 ^ k % 2) refl (mod-lt (n / 2 ^ k) (lit< tt))
  where
    go : (v : Bool) (b : ℕ) → n / 2 ^ k % 2 ≡ b → b < 2 → OneBit k v n (with_bit k v n)
    go true zero e h = rw e (kept_set k n e)
    go true (suc zero) e h = rw e (record { made = eq-eqb _ _ e; above = refl; below = refl })
    go false zero e h = rw e (record { made = ne_eqb (n / 2 ^ k % 2) 1 (λ q. omega arith); above = refl; below = refl })
    go false (suc zero) e h = rw e (kept_cleared k n e)
    go v (suc (suc b)) e h = absurd (omega arith)

-- A BIT FLIPPED

-- numbers with the same bit k, and the same above and below it, are the same
pub same_bits : (k a b : ℕ) → bit_of k a ≡ bit_of k b → a / 2 ^ k / 2 ≡ b / 2 ^ k / 2 → a % 2 ^ k ≡ b % 2 ^ k → a ≡ b
same_bits k a b bit above below = sym (split a k) ∙ ap₂ (λ (x y : ℕ). x * 2 ^ k + y) (go (bit_of k a) refl) below ∙ split b k
  where
    go : (t : Bool) → bit_of k a ≡ t → a / 2 ^ k ≡ b / 2 ^ k
    go true e = omega (arith, eqb-true (a / 2 ^ k % 2) 1 e, eqb-true (b / 2 ^ k % 2) 1 (sym bit ∙ e))
    go false e =
        let x : a / 2 ^ k % 2 ≡ 1 → ⊥ = eqb-false (a / 2 ^ k % 2) 1 e in
        let y : b / 2 ^ k % 2 ≡ 1 → ⊥ = eqb-false (b / 2 ^ k % 2) 1 (sym bit ∙ e) in
        omega arith

-- a number with bit k flipped
abbrev pub flipped_at : ℕ → ℕ → ℕ
flipped_at k n = with_bit k (not (bit_of k n)) n

not_not : (t : Bool) → not (not t) ≡ t
not_not true = refl
not_not false = refl

pub flip_made : (k n : ℕ) → bit_of k (flipped_at k n) ≡ not (bit_of k n)
flip_made k n = (bit_kept k n (not (bit_of k n))).made

-- flipped twice it is the number
pub flip_twice : (k n : ℕ) → flipped_at k (flipped_at k n) ≡ n
flip_twice k n =
    let once = bit_kept k n (not (bit_of k n)) in
    let twice = bit_kept k (flipped_at k n) (not (bit_of k (flipped_at k n))) in
    same_bits k (flipped_at k (flipped_at k n)) n (twice.made ∙ ap not once.made ∙ not_not (bit_of k n))
    (twice.above ∙ once.above) (twice.below ∙ once.below)

-- the lowest bit flipped: all above it is kept
pub flip_above : (n : ℕ) → flipped_at 0 n / 2 ≡ n / 2
flip_above n = omega (arith, (bit_kept 0 n (not (bit_of 0 n))).above)

-- EXCLUSIVE OR TWICE

-- one bit
differ_lt : (x y : ℕ) → x < 2 → y < 2 → differ x y < 2
differ_lt zero y hx hy = hy
differ_lt (suc x) zero hx hy = hx
differ_lt (suc zero) (suc y) hx hy = omega arith
differ_lt (suc (suc x)) (suc y) hx hy = omega arith

differ_twice : (x y : ℕ) → x < 2 → y < 2 → differ (differ x y) y ≡ x
differ_twice zero zero hx hy = refl
differ_twice zero (suc zero) hx hy = refl
differ_twice zero (suc (suc y)) hx hy = omega arith
differ_twice (suc zero) zero hx hy = refl
differ_twice (suc zero) (suc zero) hx hy = refl
differ_twice (suc zero) (suc (suc y)) hx hy = omega arith
differ_twice (suc (suc x)) y hx hy = omega arith

-- by the same number twice gives the first number back, for it does so bit by bit
pub xor_twice : (a b : ℕ) → bit_xor (bit_xor a b) b ≡ a
xor_twice a = bin_ind (λ (n : ℕ). (b : ℕ) → bit_xor (bit_xor n b) b ≡ n) xor_self step a
  where
    step : (n : ℕ) → ((b : ℕ) → bit_xor (bit_xor (n / 2) b) b ≡ n / 2) → (b : ℕ) → bit_xor (bit_xor n b) b ≡ n
    step n ih b =
        let low = mod-lt n (zero-lt-suc 1) in
        let by = mod-lt b (zero-lt-suc 1) in
        let lt : differ (n % 2) (b % 2) < 2 = differ_lt (n % 2) (b % 2) low by in
        let high : ℕ = bit_xor (n / 2) (b / 2) in
        ap (λ (x : ℕ). bit_xor x b) (xor_step n b)
        ∙ xor_step (high * 2 + differ (n % 2) (b % 2)) b
        ∙ ap₂ (λ (x y : ℕ). bit_xor x (b / 2) * 2 + differ y (b % 2)) (digits_div high lt) (digits_mod high lt)
        ∙ ap₂ (λ (x y : ℕ). x * 2 + y) (ih (b / 2)) (differ_twice (n % 2) (b % 2) low by)
        ∙ div-add-mod' n 2
