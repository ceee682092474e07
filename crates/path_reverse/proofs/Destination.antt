-- What is promised of a copy and of a reversal, by the length of the destination: a call that writes as many bytes as reading says puts
-- them in front, and into a destination of that length there is nothing behind them.
-- Assumes nothing.
use Prim.Native.Nat.{ℕ, ◌≤◌, ◌<◌}
use mathlib.Core.Path.{◌≡◌, refl, sym, ap, ◌∙◌}
use mathlib.Core.Bool.{Bool, true, false, cond}
use mathlib.Core.List.{List, [], ◌∷◌, ◌++◌, append-nil}
use native.Mathlib.Omega.{arith}
use lib.Dec.{eqb}
use lib.ListN.{length, take, drop, drop_of_length-le}
use lib.Seq.{take_all}
use borrow.Author.Tests.{eqb-true, eqb-false, eq-eqb, ne_eqb}
use Rattle.std.specs.Prelude.{Result, Ok, Err}
use Rattle.wire_encoding.specs.Result.{and_then, refusing}
use Rattle.wire_encoding.specs.BigEndian.{big_endian}
use Rattle.wire_encoding.proofs.Result.{stepped, refusing_ok}
use Rattle.errors.specs.declared.packet_error.DecodeError.{DecodeError}
use Rattle.errors.specs.declared.path_error.PathError.{PathError}
use Rattle.errors.specs.declared.path_error.PathError.TheVariants.{Decode, InadequateBufferSize}
use Rattle.path_meta_header.specs.MetaHeader.{meta_of, nth_field, hop_fields_count, path_length}
use Rattle.path_meta_header.specs.Reversal.{reversed_meta}
use Rattle.path_meta_header.specs.declared.PathMetaHeader.{PathMetaHeader}
use Rattle.path_meta_header.proofs.MetaHeader.{counted}
use Rattle.path.specs.Standard.{read_record}
use Rattle.path.specs.declared.dataplane.Extent.{Extent}
use Rattle.path.specs.Dataplane.{unread, read_dataplane, path_of, contents, written_answer}
use Rattle.path.proofs.Reading.{no_record, length_front, Readable}
use Rattle.path.proofs.Kept.{record_after}
use Rattle.path_reverse.specs.Copy.{Written, into, copy, front, contents_after, written_path}
use Rattle.path_reverse.specs.Reverse.{reversed_path, reversed_bytes, reverse}
use Rattle.path_reverse.specs.Destination.{Call, Bytes, own_bytes, exactly, NotLonger, without_length, Destinations}
use Rattle.path_reverse.specs.Destination.{CopyDestinations, ReversalDestinations, LongestPath}
use Rattle.path_reverse.proofs.Copy.{put_in_front, into_enough, into_fewer, into-left, front_run, front_is, behind_is, whole_is}
use Rattle.path_reverse.proofs.Reverse.{length-reversed_path}
use Rattle.path_reverse.proofs.Expiry.{standard, copied_readable, reversed_readable}

-- no bytes
none : (l : List ℕ) → length l ≡ 0 → l ≡ []
none l h = sym (take_all 0 l (omega arith))

-- A CALL THAT READS A PATH AND WRITES IT

-- as many bytes as reading says; those of a standard path are read under a header of their own
record Writes (call : Call) (written : Bytes) : Type 0 where
  made : (type : ℕ) (bytes dst : List ℕ)
      → call type bytes dst ≡ and_then (refusing Decode (read_dataplane type bytes)) (λ (read : Extent). into (written type read bytes) dst)
  long : (type : ℕ) (bytes : List ℕ) (read : Extent) → read_dataplane type bytes ≡ Ok read
      → length (written type read bytes) ≡ read.length
  header : PathMetaHeader → PathMetaHeader
  there : (bytes : List ℕ) (read : Extent) → read_dataplane 1 bytes ≡ Ok read
      → Readable (written 1 read bytes) (header read.path.meta_header)

module _ (call : Call) (written : Bytes) (c : Writes call written) where
  enough : (type : ℕ) (bytes dst : List ℕ) (read : Extent) → read_dataplane type bytes ≡ Ok read → read.length ≤ length dst
      → call type bytes dst ≡ Ok (put_in_front (written type read bytes) dst read.length)
  enough type bytes dst read h room = c.made type bytes dst ∙ rw h (into_enough (written type read bytes) dst (c.long type bytes read h) room)

  fewer : (type : ℕ) (bytes dst : List ℕ) (read : Extent) → read_dataplane type bytes ≡ Ok read → length dst < read.length
      → call type bytes dst ≡ Err InadequateBufferSize
  fewer type bytes dst read h short = c.made type bytes dst ∙ rw h (into_fewer (written type read bytes) dst (c.long type bytes read h) short)

  empty : (bytes dst : List ℕ) → call 0 bytes dst ≡ Ok (record { length = 0; left = dst })
  unfolding read_dataplane
  empty bytes dst =
      enough 0 bytes dst (unread 0) refl (omega arith)
      ∙ ap (λ (run : List ℕ). Ok (record { length = 0; left = run ++ dst }))
      (none (written 0 (unread 0) bytes) (c.long 0 bytes (unread 0) refl))

  -- what was accepted was written by `into`
  by_into : (type : ℕ) (bytes dst : List ℕ) (read : Extent) {w : Written} → read_dataplane type bytes ≡ Ok read
      → call type bytes dst ≡ Ok w → into (written type read bytes) dst ≡ Ok w
  by_into type bytes dst read h done = rw h at (sym (c.made type bytes dst) ∙ done)

  in_front : (type : ℕ) (bytes dst : List ℕ) (read : Extent) (w : Written) → read_dataplane type bytes ≡ Ok read
      → call type bytes dst ≡ Ok w
      → (front w ≡ written type read bytes) × (drop w.length w.left ≡ drop w.length dst) × (length w.left ≡ length dst)
  in_front type bytes dst read w h done =
      let run : List ℕ = written type read bytes in
      let into-run = by_into type bytes dst read h done in
      (front_is run dst into-run, behind_is run dst into-run, whole_is run dst into-run)

  -- AS BEFORE

  module _ (type : ℕ) (bytes dst : List ℕ) where
    -- the answers and the contents of both rules, where each of them gives this
    abbrev Alike : Result Written PathError → Result (List ℕ) PathError → Type 0
    Alike r s = (without_length (written_path type r) ≡ written_answer type s) × (contents_after r dst ≡ contents s dst)

    alike : {r : Result Written PathError} {s : Result (List ℕ) PathError} → call type bytes dst ≡ r
        → exactly written type bytes dst ≡ s → Alike r s → Alike (call type bytes dst) (exactly written type bytes dst)
    alike e f same = rw (e, f) same

    both_refused : (error : PathError) → Alike (Err error) (Err error)
    unfolding written_path written_answer
    both_refused error = (refl, refl)

    both_written : (w : Written) (left : List ℕ) → path_of type (front w) ≡ path_of type left → w.left ≡ left → Alike (Ok w) (Ok left)
    unfolding written_path written_answer
    both_written w left path same = (rw path, same)

    module _ (read : Extent) (h : read_dataplane type bytes ≡ Ok read) where
      abbrev run : List ℕ
      run = written type read bytes

      size : length run ≡ read.length
      size = c.long type bytes read h

      alike_empty : type ≡ 0 → Alike (call type bytes dst) (exactly written type bytes dst)
      unfolding exactly
      alike_empty e =
          let other : type ≡ 1 → ⊥ = λ one. omega arith in
          alike (rw e (empty bytes dst)) (rw (h, eq-eqb type 0 e))
          (both_written (record { length = 0; left = dst }) dst ((no_record type []).1 other ∙ sym ((no_record type dst).1 other)) refl)

      alike_exact : (type ≡ 0 → ⊥) → length dst ≡ length run → Alike (call type bytes dst) (exactly written type bytes dst)
      unfolding exactly
      alike_exact some e =
          let all : run ++ drop read.length dst ≡ run =
          ap (λ (l : List ℕ). run ++ l) (drop_of_length-le dst {i = read.length} (omega (arith, size))) ∙ append-nil run in
          alike (enough type bytes dst read h (omega (arith, size))) (rw (h, ne_eqb type 0 some, eq-eqb (length dst) (length run) e))
          (both_written (put_in_front run dst read.length) run (ap (path_of type) (front_run run dst size)) all)

      alike_fewer : (type ≡ 0 → ⊥) → length dst < read.length → Alike (call type bytes dst) (exactly written type bytes dst)
      unfolding exactly
      alike_fewer some short =
          alike (fewer type bytes dst read h short) (rw (h, ne_eqb type 0 some, ne_eqb (length dst) (length run) (λ e. omega (arith, size))))
          (both_refused InadequateBufferSize)

      alike_read : ((type ≡ 0 → ⊥) → length dst ≤ read.length) → Alike (call type bytes dst) (exactly written type bytes dst)
      alike_read fits = go (eqb type 0) refl (eqb (length dst) (length run)) refl
        where
          go : (e : Bool) → eqb type 0 ≡ e → (x : Bool) → eqb (length dst) (length run) ≡ x
              → Alike (call type bytes dst) (exactly written type bytes dst)
          go true e x f = alike_empty (eqb-true type 0 e)
          go false e true f = alike_exact (eqb-false type 0 e) (eqb-true (length dst) (length run) f)
          go false e false f =
              let some = eqb-false type 0 e in
              alike_fewer some (omega (arith, fits some, eqb-false (length dst) (length run) f, size))

    as_before : NotLonger type bytes dst → Alike (call type bytes dst) (exactly written type bytes dst)
    unfolding exactly
    as_before fits = go (read_dataplane type bytes) refl
      where
        go : (r : Result Extent DecodeError) → read_dataplane type bytes ≡ r → Alike (call type bytes dst) (exactly written type bytes dst)
        go (Ok read) h = alike_read read h (fits read h)
        go (Err error) h = alike (c.made type bytes dst ∙ rw h) (rw h) (both_refused (Decode error))

  -- READ AS A WHOLE

  read_whole : (bytes dst : List ℕ) (w : Written) → call 1 bytes dst ≡ Ok w → read_record w.left ≡ read_record (front w)
  read_whole bytes dst w done =
      let found = stepped (refusing Decode (read_dataplane 1 bytes)) _ (sym (c.made 1 bytes dst) ∙ done) in
      let read = refusing_ok Decode (read_dataplane 1 bytes) found.first in
      let m : PathMetaHeader = c.header found.value.path.meta_header in
      let run : List ℕ = written 1 found.value bytes in
      ap (λ (v : Written). read_record v.left) (sym (into-left run dst found.then))
      ∙ record_after run (drop (length run) dst) m (c.there bytes found.value read)
      ∙ ap read_record (sym (front_is run dst found.then))

  destinations : Destinations call written
  destinations =
      record {
        long = c.long;
        enough = enough;
        fewer = fewer;
        empty = empty;
        as_before = as_before;
        in_front = in_front;
        read_whole = read_whole;
      }

-- THE TWO CALLS

-- reading says no more bytes than there are
own_long : (type : ℕ) (bytes : List ℕ) (read : Extent) → read_dataplane type bytes ≡ Ok read
    → length (own_bytes type read bytes) ≡ read.length
own_long type bytes read h = length_front bytes type h

reversed_long : (type : ℕ) (bytes : List ℕ) (read : Extent) → read_dataplane type bytes ≡ Ok read
    → length (reversed_bytes type read bytes) ≡ read.length
unfolding reversed_bytes
reversed_long type bytes read h = go (eqb type 1) refl
  where
    go : (t : Bool) → eqb type 1 ≡ t
        → length (cond t (reversed_path read.path.meta_header bytes) (take read.length bytes)) ≡ read.length
    go true e =
        let s = standard bytes (rw (eqb-true type 1 e) at h) in
        length-reversed_path read.path.meta_header bytes s.known.whole ∙ sym s.long
    go false e = own_long type bytes read h

pub copy_destinations : CopyDestinations
unfolding copy
copy_destinations =
    destinations copy own_bytes
    (record {
      made = λ type bytes dst. refl;
      long = own_long;
      header = λ m. m;
      there = λ bytes read h. let s = standard bytes h in rw s.long (copied_readable bytes read.path.meta_header s.known);
    })

pub reversal_destinations : ReversalDestinations
unfolding reverse reversed_bytes
reversal_destinations =
    destinations reverse reversed_bytes
    (record {
      made = λ type bytes dst. refl;
      long = reversed_long;
      header = reversed_meta;
      there = λ bytes read h. reversed_readable bytes read.path.meta_header (standard bytes h).known;
    })

-- THE LONGEST PATH: each length is six bits of a word

length_read : (word : ℕ) → path_length (meta_of word) ≤ 2296
unfolding path_length hop_fields_count meta_of nth_field
length_read word = omega (arith, (counted (meta_of word)).few)

pub longest-path : LongestPath
longest-path bytes read h =
    let s = standard bytes h in
    rw (s.long, s.known.word) (omega (arith, length_read (big_endian 4 bytes 0)))

-- ABOVE THE PATH'S LENGTH THE TWO RULES PART: two bytes into three
pub parted : (exactly own_bytes 7 (1 ∷ 2 ∷ []) (9 ∷ 9 ∷ 9 ∷ []) ≡ Err InadequateBufferSize)
    × (copy 7 (1 ∷ 2 ∷ []) (9 ∷ 9 ∷ 9 ∷ []) ≡ Ok (record { length = 2; left = 1 ∷ 2 ∷ 9 ∷ [] }))
unfolding exactly copy into read_dataplane
parted = (refl, refl)
