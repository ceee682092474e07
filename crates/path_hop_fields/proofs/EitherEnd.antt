-- Reads at either end of a run, in any order: each read takes one hop field off its end, so what is left is a part of the run,
-- and the part's place tells what a further read gives.
-- Assumes nothing.
use Prim.Native.Nat.{ℕ, zero, suc, ◌+◌, ◌*◌, ◌-◌, ◌≤◌, ◌<◌}
use mathlib.Core.Path.{◌≡◌, refl, sym, ap, ◌∙◌}
use mathlib.Core.List.{List, [], ◌∷◌, ◌++◌, append_assoc, append-nil}
use native.Mathlib.Omega.{arith}
use lib.ListN.{length, take, drop, length-drop}
use lib.Seq.{take_all, length-take-le, take-take, take-add, drop-drop, drop_at}
use borrow.Author.Tests.{le-ltb}
use Rattle.wire_encoding.specs.BigEndian.{part, records}
use Rattle.wire_encoding.proofs.Lists.{length_part, part-part}
use Rattle.path_hop_fields.specs.Run.{count, first, after_first, last, before_last, hop_field, hop_fields}
use Rattle.path_hop_fields.specs.Reads.{ReadEnd, front, back, given, left, left_by, is_at, made_at, from_front, from_back, FromEitherEnd}
use Rattle.path_hop_fields.proofs.RunParts.{to_the_end}

-- ONE READ of a run of n + 1 hop fields

length-after : (n : ℕ) (run : List ℕ) → length run ≡ suc n * 12 → length (after_first run) ≡ n * 12
length-after n run e = length-drop 12 run ∙ (omega arith)

length_before : (n : ℕ) (run : List ℕ) → length run ≡ suc n * 12 → length (before_last run) ≡ n * 12
length_before n run e = length-take-le (length run - 12) run (omega arith) ∙ (omega arith)

hop_fields_lem : (n : ℕ) (run : List ℕ) → length run ≡ n * 12 → hop_fields run ≡ records 12 n run
hop_fields_lem n run e = let number : count run ≡ n = omega arith in ap (λ (k : ℕ). records 12 k run) number

-- the hop field at the front stands before the others
at_front : (n : ℕ) (run : List ℕ) → length run ≡ suc n * 12 → first run ∷ hop_fields (after_first run) ≡ hop_fields run
unfolding first records
at_front n run e =
    let long : 12 ≤ length run = omega arith in
    rw (le-ltb _ _ long, hop_fields_lem n (after_first run) (length-after n run e), hop_fields_lem (suc n) run e)

-- the hop field at the back stands after them
drop-take : (k : ℕ) (run : List ℕ) → 12 ≤ length run → drop 12 (take (12 + k) run) ≡ take k (drop 12 run)
drop-take k run long =
    ap (λ (l : List ℕ). drop 12 l) (take-add 12 k run)
    ∙ drop_at (take 12 run) (take k (drop 12 run)) 12 (length-take-le 12 run long)

last_of : (n : ℕ) (run : List ℕ) → length run ≡ suc n * 12
    → records 12 n (take (n * 12) run) ++ (drop (n * 12) run ∷ []) ≡ records 12 (suc n) run
unfolding records
last_of zero run e = ap (λ (l : List ℕ). l ∷ []) (sym (take_all 12 run (omega arith)))
last_of (suc n) run e =
    let long : 12 ≤ length run = omega arith in
    let more : suc n * 12 ≡ 12 + n * 12 = omega arith in
    rw (more, take-take 12 (12 + n * 12) run (omega arith), drop-take (n * 12) run long, ← drop-drop (n * 12) 12 run)
    (ap (λ (l : List (List ℕ)). take 12 run ∷ l) (last_of n (drop 12 run) (length-after (suc n) run e)))

at_back : (n : ℕ) (run : List ℕ) → length run ≡ suc n * 12 → hop_fields (before_last run) ++ (last run ∷ []) ≡ hop_fields run
unfolding last
at_back n run e =
    let long : 12 ≤ length run = omega arith in
    let others : length run - 12 ≡ n * 12 = omega arith in
    rw (hop_fields_lem n (before_last run) (length_before n run e), hop_fields_lem (suc n) run e, le-ltb _ _ long, others) (last_of n run e)

-- ANY READS, after which n hop fields are left

-- each read is made at one of the ends
made : (reads : List ReadEnd) → made_at front reads + made_at back reads ≡ length reads
unfolding made_at is_at
made [] = refl
made (front ∷ reads) = let rest = made reads in omega arith
made (back ∷ reads) = let rest = made reads in omega arith

-- what is left is the part between
left_between : (reads : List ReadEnd) (n : ℕ) (run : List ℕ) → length run ≡ (length reads + n) * 12
    → left_by reads run ≡ part (made_at front reads * 12) (n * 12) run
unfolding left left_by made_at is_at
left_between [] n run e = sym (take_all (n * 12) run (omega arith))
left_between (front ∷ reads) n run e =
    let before : 12 + made_at front reads * 12 ≡ (1 + made_at front reads) * 12 = omega arith in
    left_between reads n (after_first run) (length-after (length reads + n) run (e ∙ (omega arith)))
    ∙ ap (take (n * 12)) (drop-drop (made_at front reads * 12) 12 run)
    ∙ ap (λ (k : ℕ). part k (n * 12) run) before
left_between (back ∷ reads) n run e =
    let both = made reads in
    let before : 0 + made_at front reads * 12 ≡ (0 + made_at front reads) * 12 = omega arith in
    left_between reads n (before_last run) (length_before (length reads + n) run (e ∙ (omega arith)))
    ∙ part-part 0 (length run - 12) (made_at front reads * 12) (n * 12) run (omega arith) (omega arith)
    ∙ ap (λ (k : ℕ). part k (n * 12) run) before

-- each hop field is given once or left
once : (reads : List ReadEnd) (n : ℕ) (run : List ℕ) → length run ≡ (length reads + n) * 12
    → from_front reads run ++ (hop_fields (left_by reads run) ++ from_back reads run) ≡ hop_fields run
unfolding left left_by from_front from_back
once [] n run e = append-nil (hop_fields run)
once (front ∷ reads) n run e =
    let size : length run ≡ suc (length reads + n) * 12 = omega arith in
    ap (λ (l : List (List ℕ)). first run ∷ l) (once reads n (after_first run) (length-after (length reads + n) run size))
    ∙ at_front (length reads + n) run size
once (back ∷ reads) n run e =
    let size : length run ≡ suc (length reads + n) * 12 = omega arith in
    let ahead = from_front reads (before_last run) in
    let rest = hop_fields (left_by reads (before_last run)) in
    let behind = from_back reads (before_last run) in
    ap (λ (l : List (List ℕ)). ahead ++ l) (sym (append_assoc rest behind (last run ∷ [])))
    ∙ sym (append_assoc ahead (rest ++ behind) (last run ∷ []))
    ∙ ap (λ (l : List (List ℕ)). l ++ (last run ∷ [])) (once reads n (before_last run) (length_before (length reads + n) run size))
    ∙ at_back (length reads + n) run size

-- nothing is left of nothing, and nothing is given
nothing_left : (more : List ReadEnd) → left_by more [] ≡ []
unfolding left left_by
nothing_left [] = refl
nothing_left (front ∷ more) = nothing_left more
nothing_left (back ∷ more) = nothing_left more

nothing_given : (end : ReadEnd) → given end [] ≡ []
unfolding given first last
nothing_given front = refl
nothing_given back = refl

-- FURTHER READS of the part between, of n hop fields after those before it
module _ (run : List ℕ) (before n : ℕ) (inside : before * 12 + n * 12 ≤ length run) (some : 0 < n) where
  abbrev between : List ℕ
  between = part (before * 12) (n * 12) run

  size : length between ≡ n * 12
  size = length_part (before * 12) (n * 12) run inside

  first_between : first between ≡ hop_field run before
  unfolding first
  first_between =
      let long : 12 ≤ length between = omega (arith, size) in
      rw (le-ltb _ _ long) (take-take 12 (n * 12) (drop (before * 12) run) (omega arith))

  last_between : last between ≡ hop_field run (before + (n - 1))
  unfolding last
  last_between =
      let long : 12 ≤ length between = omega (arith, size) in
      let one : length between - (length between - 12) ≡ 12 = omega arith in
      let start : length between - 12 ≡ (n - 1) * 12 = omega (arith, size) in
      let place : before * 12 + (n - 1) * 12 ≡ (before + (n - 1)) * 12 = omega arith in
      rw (le-ltb _ _ long)
      (sym (to_the_end (length between - 12) between)
      ∙ ap (λ (k : ℕ). part (length between - 12) k between) one
      ∙ ap (λ (k : ℕ). part k 12 between) start
      ∙ part-part (before * 12) (n * 12) ((n - 1) * 12) 12 run (omega arith) inside
      ∙ ap (λ (k : ℕ). part k 12 run) place)

pub from_either_end : FromEitherEnd
unfolding FromEitherEnd
from_either_end run whole reads enough =
    let n = count run - length reads in
    let all : length run ≡ (length reads + n) * 12 = omega arith in
    let both : made_at front reads + made_at back reads ≡ length reads = made reads in
    let inside : made_at front reads * 12 + n * 12 ≤ length run = omega arith in
    let between : left_by reads run ≡ part (made_at front reads * 12) (n * 12) run = left_between reads n run all in
    let remain : length (left_by reads run) ≡ n * 12 = ap length between ∙ length_part (made_at front reads * 12) (n * 12) run inside in
    record {
      between = between;
      remain = omega arith;
      each = once reads n run all;
      next = λ some. ap first between ∙ first_between run (made_at front reads) n inside (omega arith);
      next_back = λ some.
          let place : made_at front reads + (n - 1) ≡ count run - 1 - made_at back reads = omega arith in
          ap last between ∙ last_between run (made_at front reads) n inside (omega arith) ∙ ap (hop_field run) place;
      nothing = λ all_read more end.
          let none : n * 12 ≡ 0 = omega arith in
          let empty : left_by reads run ≡ [] = between ∙ ap (λ (k : ℕ). part (made_at front reads * 12) k run) none in
          ap (λ (l : List ℕ). given end (left_by more l)) empty ∙ ap (given end) (nothing_left more) ∙ nothing_given end;
    }
