-- The draft's Path Reversal (document 01's turn): segments, Info Fields and Hop Fields in opposite order, each Construction
-- Direction flag flipped, CurrINF, CurrHF and RSV zero.
use Rattle.std.specs.Prelude.{ℕ, ◌-◌, ◌≤◌, ◌≡◌, true, not, cond, take, drop, eqb, Result, Ok}
use mathlib.Core.List.{List, [], ◌∷◌, ◌++◌, flat_map, reverse as reversed}
use Rattle.wire_encoding.specs.Result.{◌>>=◌, mapped, refusing}
use Rattle.wire_encoding.specs.Bits.{bit_of, with_bit}
use Rattle.wire_encoding.specs.BigEndian.{bytes_of, part, records}
use Rattle.path_meta_header.specs.MetaHeader.{meta_header_length, info_fields_count, hop_fields_count, info_start, hop_fields_start, path_length}
use Rattle.path_fields.specs.Fields.{info_field_length, hop_field_length}
use Rattle.path_meta_header.specs.Reversal.{at_start, reversed_meta}
use Rattle.path_meta_header.specs.Encoding.{meta_fits, word_of}
use Rattle.path_meta_header.specs.declared.PathMetaHeader.{PathMetaHeader}
use Rattle.errors.specs.declared.path_error.PathError.{PathError}
use Rattle.errors.specs.declared.path_error.PathError.TheVariants.{Decode}
use Rattle.path_least_expiry.specs.Expiry.{path_expiry}
use Rattle.path.specs.Standard.{read_path}
use Rattle.path.specs.declared.dataplane.Extent.{Extent}
use Rattle.path.specs.Dataplane.{read_dataplane, KeepsExpiry}
use Rattle.path_reverse.specs.Copy.{Written, into, front}

-- f of each of the first n records of k bytes, in opposite order
unfoldable pub reversed_records : (List ℕ → List ℕ) → ℕ → ℕ → List ℕ → List ℕ
reversed_records f k n bytes = flat_map f (reversed (records k n bytes))

-- an info field with its direction bit flipped, every other bit kept
unfoldable pub flipped : List ℕ → List ℕ
flipped [] = []
flipped (flags ∷ rest) = with_bit 0 (not (bit_of 0 flags)) flags ∷ rest

-- a hop field as it is
unfoldable pub same : List ℕ → List ℕ
same field = field

-- the fields of a path that was read under m reversed, after the header h
unfoldable pub reversed_under : PathMetaHeader → PathMetaHeader → List ℕ → List ℕ
reversed_under h m bytes =
    bytes_of meta_header_length (word_of h)
    ++ (reversed_records flipped info_field_length (info_fields_count m) (drop (info_start 0) bytes)
    ++ reversed_records same hop_field_length (hop_fields_count m) (drop (hop_fields_start m) bytes))

-- the whole path reversed
unfoldable pub reversed_path : PathMetaHeader → List ℕ → List ℕ
reversed_path m bytes = reversed_under (reversed_meta m) m bytes

-- a theorem: it expires when the path does, for the least over the segments in opposite order is the least
abbrev pub ReversedExpiry : Type 0
ReversedExpiry =
    (bytes : List ℕ) (m : PathMetaHeader) → read_path bytes ≡ Ok m → path_expiry (reversed_path m bytes) (reversed_meta m) ≡ path_expiry bytes m

-- reversed twice: the path that was read, with its pointers at the start and its reserved bits zero
abbrev pub ReversedTwice : Type 0
ReversedTwice =
    (bytes : List ℕ) (m : PathMetaHeader) → read_path bytes ≡ Ok m
    → reversed_path (reversed_meta m) (reversed_path m bytes)
    ≡ bytes_of meta_header_length (word_of (at_start m.segment_lengths)) ++ part (info_start 0) (path_length m - meta_header_length) bytes

-- a path that can be reversed into a destination of at least its length
pub record Reversible (m : PathMetaHeader) (source destination : ℕ) : Type 0 where
  pub fits : meta_fits (reversed_meta m) ≡ true
  pub whole : path_length m ≤ source
  pub room : path_length m ≤ destination

-- what is written of a path of any type: a standard path reversed, an opaque one as it is
unfoldable pub reversed_bytes : ℕ → Extent → List ℕ → List ℕ
reversed_bytes type read bytes = cond (eqb type 1) (reversed_path read.path.meta_header bytes) (take read.length bytes)

unfoldable pub reverse : ℕ → List ℕ → List ℕ → Result Written PathError
reverse type bytes dst = do
  read ← refusing Decode (read_dataplane type bytes)
  into (reversed_bytes type read bytes) dst

-- a theorem: the record of the path that is written fits it, and has the expiry of the path that was read
abbrev pub ReversalKeepsExpiry : Type 0
ReversalKeepsExpiry = (bytes dst : List ℕ) → KeepsExpiry bytes (mapped front (reverse 1 bytes dst))
