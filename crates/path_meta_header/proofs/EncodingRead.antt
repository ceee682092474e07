-- A meta header that is written is read again, and one that is read and written again gives the bytes that were read.
-- Assumes nothing.
use Prim.Native.Nat.{ℕ, ◌/◌, ◌%◌, ◌^◌, ◌<◌, ◌≤◌}
use mathlib.Core.Path.{◌≡◌, refl, sym, ap, ◌∙◌}
use mathlib.Core.Bool.{true}
use mathlib.Core.List.{List, [], append-nil}
use native.Mathlib.Nat.{mod-eq_of_lt}
use native.Mathlib.Omega.{arith}
use lib.ListN.{length}
use lib.Dec.{eqb}
use borrow.Author.Tests.{lt-ltb, le-leb}
use Rattle.std.specs.Prelude.{Ok}
use Rattle.wire_encoding.proofs.Result.{same_value, held}
use Rattle.wire_encoding.specs.BigEndian.{big_endian, bytes_of, room}
use Rattle.wire_encoding.proofs.BigEndian.{length_bytes_of, read_bytes_of, bytes_read_back, numbers_below}
use Rattle.path_meta_header.specs.MetaHeader.{nth_field, meta_of, read_meta}
use Rattle.path_meta_header.specs.Encoding.{meta_fits, word_of, write_meta, MetaReadsBack, MetaWritesAgain}
use Rattle.path_meta_header.proofs.Encoding.{fitting, word_below, meta_back, word_back, meta_written}

-- the four bytes of a word spell it
spelt : (word : ℕ) → word < 2 ^ 32 → big_endian 4 (bytes_of 4 word) 0 ≡ word
spelt word h =
    ap (λ (bytes : List ℕ). big_endian 4 bytes 0) (sym (append-nil (bytes_of 4 word)))
    ∙ read_bytes_of 4 word [] []
    ∙ mod-eq_of_lt h

pub meta_reads_back : MetaReadsBack
unfolding read_meta room write_meta
meta_reads_back m n written lengths h =
    let fits = held (meta_fits m) _ _ h in
    let size = held (eqb n 4) _ _ fits.1 in
    let word : ℕ = word_of m in
    let small : word < 2 ^ 32 = word_below m (fitting m fits.0) in
    let long : 4 ≤ length (bytes_of 4 word) = omega (arith, length_bytes_of 4 word) in
    rw (← same_value size.1) (rw (le-leb 4 (length (bytes_of 4 word)) long, spelt word small, meta_back m lengths (fitting m fits.0)))

-- a word of 32 bits makes a header whose numbers fit their fields
fits_word : (word : ℕ) → word < 2 ^ 32 → meta_fits (meta_of word) ≡ true
unfolding meta_fits meta_of nth_field
fits_word word h =
    rw (
      lt-ltb (word / 2 ^ 30 % 64) 4 (omega arith),
      lt-ltb (word / 2 ^ 24 % 64) 64 (omega arith),
      lt-ltb (word / 2 ^ 18 % 64) 64 (omega arith),
      lt-ltb (word / 2 ^ 12 % 64) 64 (omega arith),
      lt-ltb (word / 2 ^ 6 % 64) 64 (omega arith),
      lt-ltb (word / 2 ^ 0 % 64) 64 (omega arith),
    )

pub meta_writes_again : MetaWritesAgain
meta_writes_again bytes b long =
    let word : ℕ = big_endian 4 bytes 0 in
    let small : word < 2 ^ 32 = omega (arith, numbers_below bytes b 0 4) in
    meta_written (meta_of word) 4 (fits_word word small) refl
    ∙ ap Ok (ap (bytes_of 4) (word_back word small) ∙ bytes_read_back 4 bytes b 0 (omega arith))
