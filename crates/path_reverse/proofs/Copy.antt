-- What is written of a path, by the size of the destination: where there is room the path stands in front, and what was behind it stays.
-- Assumes nothing.
use Prim.Native.Nat.{ℕ, ◌≤◌, ◌<◌}
use mathlib.Core.Path.{◌≡◌, refl}
use mathlib.Core.List.{List, [], ◌∷◌, ◌++◌}
use native.Mathlib.Omega.{arith}
use lib.Dec.{leb}
use lib.ListN.{length, take, drop, length-append, length-drop}
use lib.Seq.{take-append_seam, drop-append_seam}
use borrow.Author.Tests.{le-leb, lt-leb, leb-true}
use Rattle.std.specs.Prelude.{Ok, Err}
use Rattle.wire_encoding.proofs.Result.{same_value, held}
use Rattle.errors.specs.declared.path_error.PathError.TheVariants.{InadequateBufferSize}
use Rattle.path_reverse.specs.Copy.{Written, into, front}

-- two bytes into one, into two and into four; none into one
pub sizes : (into (1 ∷ 2 ∷ []) (9 ∷ []) ≡ Err InadequateBufferSize)
    × (into (1 ∷ 2 ∷ []) (9 ∷ 9 ∷ []) ≡ Ok (record { length = 2; left = 1 ∷ 2 ∷ [] }))
    × (into (1 ∷ 2 ∷ []) (9 ∷ 8 ∷ 7 ∷ 6 ∷ []) ≡ Ok (record { length = 2; left = 1 ∷ 2 ∷ 7 ∷ 6 ∷ [] }))
    × (into [] (9 ∷ []) ≡ Ok (record { length = 0; left = 9 ∷ [] }))
unfolding into
sizes = (refl, refl, refl, refl)

-- a run of n bytes in front, and behind it what was there
abbrev pub put_in_front : List ℕ → List ℕ → ℕ → Written
put_in_front run dst n = record { length = n; left = run ++ drop n dst }

module _ (run dst : List ℕ) {n : ℕ} (size : length run ≡ n) where
  pub into_enough : n ≤ length dst → into run dst ≡ Ok (put_in_front run dst n)
  unfolding into
  into_enough room = rw (size, le-leb n (length dst) room)

  pub into_fewer : length dst < n → into run dst ≡ Err InadequateBufferSize
  unfolding into
  into_fewer short = rw (size, lt-leb n (length dst) short)

  pub front_run : take n (run ++ drop n dst) ≡ run
  front_run = rw (← size) (take-append_seam run (drop (length run) dst))

-- so of what is accepted the front is the run, and the bytes behind it are the destination's
module _ (run dst : List ℕ) {w : Written} (h : into run dst ≡ Ok w) where
  room : length run ≤ length dst
  unfolding into
  room = leb-true (length run) (length dst) (held (leb (length run) (length dst)) _ _ h).0

  pub into-left : put_in_front run dst (length run) ≡ w
  unfolding into
  into-left = same_value (held (leb (length run) (length dst)) _ _ h).1

  pub front_is : front w ≡ run
  front_is = rw (← into-left) (front_run run dst refl)

  pub behind_is : drop w.length w.left ≡ drop w.length dst
  behind_is = rw (← into-left) (drop-append_seam run (drop (length run) dst))

  pub whole_is : length w.left ≡ length dst
  whole_is = rw (← into-left) (simp (length-append, length-drop) (omega (arith, room)))
