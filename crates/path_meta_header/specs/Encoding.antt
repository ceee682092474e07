-- A meta header written: the draft's six fields as one number, and as bytes.
use Rattle.std.specs.Prelude.{ℕ, ◌+◌, ◌*◌, ◌^◌, ◌≤◌, ◌<◌, ◌≡◌, List, Bool, ◌&&◌, ltb, eqb, length, get_or, take, Result, Ok}
use Rattle.wire_encoding.specs.Result.{require, ◌>>◌}
use Rattle.wire_encoding.specs.BigEndian.{big_endian, bytes_of}
use Rattle.errors.specs.declared.packet_error.EncodeError.{EncodeError}
use Rattle.errors.specs.declared.packet_error.EncodeError.TheVariants.{NumberTooWide, InadequateBufferSize}
use Rattle.path_meta_header.specs.declared.PathMetaHeader.{PathMetaHeader}
use Rattle.path_meta_header.specs.MetaHeader.{meta_header_length, segment_length, meta_of, checked, read_meta}

-- whether a number has at most `bits` bits
abbrev pub fits : ℕ → ℕ → Bool
fits bits n = ltb n (2 ^ bits)

-- whether each number fits its field
unfoldable pub meta_fits : PathMetaHeader → Bool
meta_fits m =
    fits 2 m.current_info_field && fits 6 m.current_hop_field && fits 6 m.reserved
    && fits 6 (segment_length m 0) && fits 6 (segment_length m 1) && fits 6 (segment_length m 2)

-- the word of a header
unfoldable pub word_of : PathMetaHeader → ℕ
word_of m =
    ((((m.current_info_field * 64 + m.current_hop_field) * 64 + m.reserved) * 64 + segment_length m 0) * 64 + segment_length m 1) * 64
    + segment_length m 2

-- the word, or 10 for a number wider than its field
unfoldable pub as_word : PathMetaHeader → Result ℕ ℕ
as_word m = do
  require (meta_fits m) 10
  Ok (word_of m)

-- what a destination of n bytes then holds; 01's order: a number too wide, another size
unfoldable pub write_meta : PathMetaHeader → ℕ → Result (List ℕ) EncodeError
write_meta m n = do
  require (meta_fits m) NumberTooWide
  require (eqb n meta_header_length) InadequateBufferSize
  Ok (bytes_of meta_header_length (word_of m))

-- THEOREMS

-- reading what was written: the header, by its rules
abbrev pub MetaReadsBack : Type 0
MetaReadsBack =
    (m : PathMetaHeader) (n : ℕ) (written : List ℕ) → length m.segment_lengths ≡ 3 → write_meta m n ≡ Ok written → read_meta written ≡ checked m

-- writing what was read: the bytes that were read
abbrev pub MetaWritesAgain : Type 0
MetaWritesAgain =
    (bytes : List ℕ) → ((i : ℕ) → get_or bytes i 0 < 256) → 4 ≤ length bytes → write_meta (meta_of (big_endian 4 bytes 0)) 4 ≡ Ok (take 4 bytes)
