-- The draft's Path Meta Header: CurrINF (2 bits), CurrHF (6), RSV (6), Seg0Len, Seg1Len, Seg2Len (6 each); and what reading one finds.
use Rattle.std.specs.Prelude.{ℕ, zero, suc, ◌+◌, ◌*◌, ◌-◌, ◌/◌, ◌%◌, ◌^◌, ◌<◌, ◌≡◌, List, [], ◌∷◌, Bool, true, cond, not, ◌&&◌, ◌||◌, get_or, ltb, eqb, Result, Ok}
use Rattle.wire_encoding.specs.Result.{require, ◌>>◌}
use Rattle.wire_encoding.specs.BigEndian.{big_endian, room}
use Rattle.path_fields.specs.Fields.{info_field_length, hop_field_length}
use Rattle.path_meta_header.specs.declared.PathMetaHeader.{PathMetaHeader}
use Rattle.errors.specs.declared.path_error.PathError.{PathError}
use Rattle.errors.specs.declared.path_error.PathError.TheVariants as error
use Rattle.errors.specs.declared.packet_error.DecodeError.{DecodeError}
use Rattle.errors.specs.declared.packet_error.DecodeError.TheVariants.{PacketEmptyOrTruncated, InvalidPath}
use Rattle.errors.specs.declared.path_error.DataplanePathErrorKind.TheVariants.{InvalidSegmentLengths, InfoFieldOutOfRange, HopFieldOutOfRange}

-- field n of the six fields of a 32-bit number: the highest 2 bits, then five times 6
unfoldable pub nth_field : ℕ → ℕ → ℕ
nth_field fields n = fields / 2 ^ ((5 - n) * 6) % 64

-- the header that a word spells
unfoldable pub meta_of : ℕ → PathMetaHeader
meta_of fields =
    record {
      current_info_field = nth_field fields 0;
      current_hop_field = nth_field fields 1;
      reserved = nth_field fields 2;
      segment_lengths = nth_field fields 3 ∷ nth_field fields 4 ∷ nth_field fields 5 ∷ [];
    }

-- the number of hop fields of segment k; none of a segment that isn't there
abbrev pub segment_length : PathMetaHeader → ℕ → ℕ
segment_length m k = get_or m.segment_lengths k 0

-- I, the number of info fields: the lengths before the first zero
unfoldable pub info_fields_count : PathMetaHeader → ℕ
info_fields_count m =
    cond (eqb (segment_length m 0) 0) 0 (cond (eqb (segment_length m 1) 0) 1 (cond (eqb (segment_length m 2) 0) 2 3))

-- N, the number of hop fields: s0 + s1 + s2
unfoldable pub hop_fields_count : PathMetaHeader → ℕ
hop_fields_count m = segment_length m 0 + segment_length m 1 + segment_length m 2

-- the segment in which hop field j lies
unfoldable pub segment_of : PathMetaHeader → ℕ → ℕ
segment_of m j = cond (ltb j (segment_length m 0)) 0 (cond (ltb j (segment_length m 0 + segment_length m 1)) 1 2)

-- the index of the first hop field of segment k: the sum of the lengths before it
unfoldable pub first_hop_field : PathMetaHeader → ℕ → ℕ
first_hop_field m zero = 0
first_hop_field m (suc k) = first_hop_field m k + segment_length m k

-- how many bytes the header has
abbrev pub meta_header_length : ℕ
meta_header_length = 4

-- where info field k starts, where the hop fields start, and where hop field j does
abbrev pub info_start : ℕ → ℕ
info_start k = meta_header_length + k * info_field_length

abbrev pub hop_fields_start : PathMetaHeader → ℕ
hop_fields_start m = info_start (info_fields_count m)

abbrev pub hop_start : PathMetaHeader → ℕ → ℕ
hop_start m j = hop_fields_start m + j * hop_field_length

-- 4 + 8 · I + 12 · N
unfoldable pub path_length : PathMetaHeader → ℕ
path_length m = hop_start m (hop_fields_count m)

-- the same starts, 8 for a field that isn't there
unfoldable pub info_field_offset : PathMetaHeader → ℕ → Result ℕ PathError
info_field_offset m k = do
  require (ltb k (info_fields_count m)) error.NoSuchField
  Ok (info_start k)

unfoldable pub hop_field_offset : PathMetaHeader → ℕ → Result ℕ PathError
hop_field_offset m j = do
  require (ltb j (hop_fields_count m)) error.NoSuchField
  Ok (hop_start m j)

-- INTERFACES by the header alone: the links inside segments. A peering path has one link more, between its segments, which the calls by
-- bytes count (crate path_interfaces)

-- 2 · (N − I) interfaces: a segment of s hop fields has s − 1 links, and each link two interfaces
unfoldable pub interfaces_count : PathMetaHeader → ℕ
interfaces_count m = (hop_fields_count m - info_fields_count m) * 2

-- the segment of link l, where links are counted along the path; link l of segment k joins hop fields l + k and l + k + 1
unfoldable pub segment_of_link : PathMetaHeader → ℕ → ℕ
segment_of_link m l = cond (ltb (l + 1) (segment_length m 0)) 0 (cond (ltb (l + 2) (segment_length m 0 + segment_length m 1)) 1 2)

-- the hop field of interface i: the first of link i / 2 if i is even, else the second
unfoldable pub link_end : PathMetaHeader → ℕ → ℕ
link_end m i = i / 2 + i % 2 + segment_of_link m (i / 2)

-- the same, 8 for an interface that isn't there
unfoldable pub hop_field_of : PathMetaHeader → ℕ → Result ℕ PathError
hop_field_of m i = do
  require (ltb i (interfaces_count m)) error.NoSuchField
  Ok (link_end m i)

-- READING

-- the first length is not zero, and no length follows a zero one
unfoldable pub lengths_valid : PathMetaHeader → Bool
lengths_valid m = not (eqb (segment_length m 0) 0) && (not (eqb (segment_length m 1) 0) || eqb (segment_length m 2) 0)

-- the info pointer is under I
unfoldable pub info_valid : PathMetaHeader → Bool
info_valid m = ltb m.current_info_field (info_fields_count m)

-- the hop pointer is under N and lies in the segment that the info pointer names
unfoldable pub hop_valid : PathMetaHeader → Bool
hop_valid m = ltb m.current_hop_field (hop_fields_count m) && eqb (segment_of m m.current_hop_field) m.current_info_field

-- the rules of a meta header, in 01's order
unfoldable pub checked : PathMetaHeader → Result PathMetaHeader DecodeError
checked m = do
  require (lengths_valid m) (InvalidPath InvalidSegmentLengths)
  require (info_valid m) (InvalidPath InfoFieldOutOfRange)
  require (hop_valid m) (InvalidPath HopFieldOutOfRange)
  Ok m

-- reading the meta header that begins bytes: 4 of them, then its rules
unfoldable pub read_meta : List ℕ → Result PathMetaHeader DecodeError
read_meta bytes = do
  require (room bytes 0 meta_header_length) PacketEmptyOrTruncated
  checked (meta_of (big_endian meta_header_length bytes 0))

-- LINKS INSIDE SEGMENTS

-- what they are, of an accepted header: link l lies in one segment k, and joins hop fields l + k and l + k + 1 of it
pub record Link (m : PathMetaHeader) (l : ℕ) : Type 0 where
  pub segment : segment_of_link m l < info_fields_count m
  pub near : segment_of m (l + segment_of_link m l) ≡ segment_of_link m l
  pub far : segment_of m (l + segment_of_link m l + 1) ≡ segment_of_link m l
  pub inside : l + segment_of_link m l + 1 < hop_fields_count m

abbrev pub Links : Type 0
Links = (m : PathMetaHeader) → lengths_valid m ≡ true → (l : ℕ) → l < hop_fields_count m - info_fields_count m → Link m l
