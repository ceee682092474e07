-- The two answers of a writer, and what a run that is written leaves.
-- Assumes nothing.
use mathlib.Core.Path.{◌≡◌, refl, sym, ap, ◌∙◌}
use mathlib.Core.List.{List, ◌++◌, append_assoc}
use Prim.Native.Nat.{ℕ, ◌+◌, ◌≤◌, ◌<◌}
use native.Mathlib.Nat.{mod-eq_of_lt, add-zero, add-suc}
use native.Mathlib.Numerals.{add-one}
use native.Mathlib.Omega.{arith}
use lib.ListN.{length, take, drop, get_or, set, length-set, drop_of_length-le}
use lib.Seq.{sets, sets-eq, drop-drop, drop-cons}
use borrow.Author.Tests.{le-leb, lt-leb}
use Rattle.std.specs.Prelude.{⊤, Result, Ok, Err}
use Rattle.std.specs.Result.{IsOk}
use Rattle.std.specs.Int.{bytes_high_first}
use Rattle.wire_encoding.specs.BigEndian.{part, room, written, placed, bytes_of}
use Rattle.wire_encoding.specs.declared.write.InadequateBufferSize.{InadequateBufferSize}
use Rattle.wire_encoding.specs.Answers.{put_answer}
use Rattle.wire_encoding.proofs.Lists.{length_part, sets-whole}
use Rattle.wire_encoding.proofs.BigEndian.{length_bytes_of, high_first}

-- the two answers of a writer of a run of n bytes
module _ (dst : List ℕ) (at : ℕ) (run : List ℕ) (n : ℕ) (size : length run ≡ n) where
  pub done : at + n ≤ length dst → written dst at run ≡ Ok (sets dst at run)
  unfolding written room
  done h = simp (size, le-leb (at + n) (length dst) h)

  pub no_room : length dst < at + n → written dst at run ≡ Err 9
  unfolding written room
  no_room h = simp (size, lt-leb (at + n) (length dst) h)

  -- where there is room the bytes are written
  pub placed_is : at + n ≤ length dst → placed dst at run ≡ sets dst at run
  placed_is h = rw (done h)

-- a run written over a destination of exactly its size is all that the destination then holds
pub placed-whole : (run dst : List ℕ) → length run ≡ length dst → placed dst 0 run ≡ run
placed-whole run dst e = placed_is dst 0 run (length dst) e (omega arith) ∙ sets-whole run dst e

-- a run of n bytes written to the front of a destination leaves what stands behind it
pub front-written : (run dst : List ℕ) (n : ℕ) → length run ≡ n → n ≤ length dst → sets dst 0 run ≡ run ++ drop n dst
front-written run dst n size room =
    let end : 0 + length run ≡ n = omega arith in
    sets-eq run dst 0 (omega arith) ∙ ap (λ (i : ℕ). run ++ drop i dst) end

-- a part that was lent, with a run of its length in its place, is the run written
pub lent_run : (run dst : List ℕ) (to k : ℕ) → length run ≡ k → to + k ≤ length dst → take to dst ++ (run ++ drop k (drop to dst)) ≡ sets dst to run
lent_run run dst to k size room =
    ap (λ (r : List ℕ). take to dst ++ (run ++ r)) (drop-drop k to dst ∙ ap (λ (i : ℕ). drop (to + i) dst) (sym size))
    ∙ sym (append_assoc (take to dst) run (drop (to + length run) dst))
    ∙ sym (sets-eq run dst to (omega arith))

-- a number written to the front where there is room, by the bytes that the library makes of it, and nothing where there is none
module _ (dst : List ℕ) (width number : ℕ) where
  pub front_number : width ≤ length dst → written dst 0 (bytes_of width number) ≡ Ok (bytes_high_first width number ++ drop width dst)
  front_number h =
      let size : length (bytes_of width number) ≡ width = length_bytes_of width number in
      done dst 0 (bytes_of width number) width size (omega arith)
      ∙ ap Ok (front-written (bytes_of width number) dst width size h ∙ ap (λ (run : List ℕ). run ++ drop width dst) (high_first width number))

  pub front_refused : length dst < width → written dst 0 (bytes_of width number) ≡ Err 9
  front_refused h = no_room dst 0 (bytes_of width number) width (length_bytes_of width number) (omega arith)

-- of one byte
pub front_byte : (dst : List ℕ) (number : ℕ) → 1 ≤ length dst → number < 256 → written dst 0 (bytes_of 1 number) ≡ Ok (set dst 0 number)
unfolding bytes_of
front_byte dst number h small =
    done dst 0 (bytes_of 1 number) 1 refl (omega arith) ∙ ap (λ (n : ℕ). Ok (set dst 0 n)) (mod-eq_of_lt small)

-- what a number's own writer needs
pub ruleset fronts = (front_number, front_refused)

-- a part that was lent, with a run that fills it, is the run written
pub lent_written : (run dst : List ℕ) (to k : ℕ) → length run ≡ k → to + k ≤ length dst → {now : List ℕ} → now ≡ placed (part to k dst) 0 run
    → take to dst ++ (now ++ drop k (drop to dst)) ≡ sets dst to run
lent_written run dst to k size room e =
    ap (λ (r : List ℕ). take to dst ++ (r ++ drop k (drop to dst))) (e ∙ placed-whole run (part to k dst) (size ∙ sym (length_part to k dst room)))
    ∙ lent_run run dst to k size room

-- a run of n bytes that there is room for is written, and the writer says so
pub put_done : (dst : List ℕ) (at : ℕ) (run : List ℕ) → at + length run ≤ length dst → {put : Result ⊤ InadequateBufferSize}
    → put ≡ put_answer (written dst at run) → IsOk put
put_done dst at run room e = rw (e, done dst at run (length run) refl room) refl

-- what is left of a run of bytes, written to dst as it is now, gives what is wanted
pub record RunLeft (src goal dst₀ dst : List ℕ) (at i : ℕ) : Type 0 where
  pub writes : sets dst (at + i) (drop i src) ≡ goal
  pub passed : i ≤ length src
  pub inside : at + length src ≤ length dst
  pub len : length dst ≡ length dst₀

pub run_begins : (src dst : List ℕ) (at : ℕ) → at + length src ≤ length dst → RunLeft src (sets dst at src) dst dst at 0
run_begins src dst at room = record { writes = simp add-zero; passed = omega arith; inside = room; len = refl }

pub run_step : (src goal dst₀ dst : List ℕ) (at i : ℕ) → i < length src → RunLeft src goal dst₀ dst at i
    → RunLeft src goal dst₀ (set dst (at + i) (get_or src i 0)) at (i + 1)
run_step src goal dst₀ dst at i h r = record {
  writes =
      simp (add-one, add-suc) (ap (sets dst (at + i)) (sym (drop-cons src i 0 h)) ∙ r.writes);
  passed = omega arith;
  inside = simp length-set r.inside;
  len = simp length-set r.len;
}

pub run_done : (src goal dst₀ dst : List ℕ) (at i : ℕ) → length src ≤ i → RunLeft src goal dst₀ dst at i → dst ≡ goal
run_done src goal dst₀ dst at i h r = sym (ap (sets dst (at + i)) (drop_of_length-le src {i = i} h)) ∙ r.writes

pub ruleset runs = (run_begins, run_step, run_done)

-- what a writer's goals need: its two answers, and a lent part that was written
pub ruleset writes = (done, no_room, lent_run, placed-whole, length_bytes_of)
