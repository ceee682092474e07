-- The calls on a path of any type: a type byte beside the bytes. Reading comes first, then each call's own order.
use Rattle.std.specs.Prelude.{ℕ, ◌+◌, ◌≤◌, ◌≡◌, Bool, cond, List, length, get_or, set, ltb, eqb, Result, Ok, Err}
use Rattle.wire_encoding.specs.Result.{require, ◌>>◌, ◌>>=◌, mapped, or_else, refusing}
use Rattle.wire_encoding.specs.BigEndian.{part}
use Rattle.wire_encoding.specs.Bits.{with_bit}
use Rattle.path_meta_header.specs.MetaHeader.{meta_of, info_fields_count, path_length, info_field_offset, hop_field_offset}
use Rattle.path_meta_header.specs.declared.PathMetaHeader.{PathMetaHeader}
use Rattle.path_fields.specs.Fields.{info_field_length, hop_field_length}
use Rattle.errors.specs.declared.packet_error.DecodeError.{DecodeError}
use Rattle.errors.specs.declared.path_error.PathError.{PathError}
use Rattle.errors.specs.declared.path_error.PathError.TheVariants.{Decode, NoSuchField}
use Rattle.path_least_expiry.specs.Expiry.{path_expiry, least_expiry}
use Rattle.path.specs.Standard.{no_path, read_record}
use Rattle.path.specs.Segment.{segment_at}
use Rattle.path.specs.declared.standard.StandardPath.{StandardPath}
use Rattle.path.specs.declared.standard.Part.{Part}
use Rattle.path.specs.declared.standard.segment.Segment.{Segment}
use Rattle.path.specs.declared.dataplane.Extent.{Extent}

-- READING

-- a path that is not looked into: its length alone
abbrev pub unread : ℕ → Extent
unread n = record { path = no_path; length = n }

-- a standard path is as long as its header says
abbrev pub read_standard : List ℕ → Result Extent DecodeError
read_standard bytes = do
  path ← read_record bytes
  Ok (record { path = path; length = path_length path.meta_header })

-- type 0 is empty, 1 standard, any other opaque: all the bytes there are
unfoldable pub read_dataplane : ℕ → List ℕ → Result Extent DecodeError
read_dataplane type bytes = cond (eqb type 0) (Ok (unread 0)) (cond (eqb type 1) (read_standard bytes) (Ok (unread (length bytes))))

-- the record that reading hands back; zeros where the path is refused
unfoldable pub path_of : ℕ → List ℕ → StandardPath
path_of type bytes = or_else (mapped (λ (read : Extent). read.path) (read_dataplane type bytes)) no_path

-- a theorem: zeros where the path is refused, and zeros for every type but 1
abbrev pub NoRecord : Type 0
NoRecord =
    (type : ℕ) (bytes : List ℕ)
    → ((error : DecodeError) → read_dataplane type bytes ≡ Err error → path_of type bytes ≡ no_path)
    × ((type ≡ 1 → ⊥) → path_of type bytes ≡ no_path)

-- CALLS ON STANDARD PATHS: reading, then 8 for every other type, then the call

unfoldable pub standard : ℕ → List ℕ → Result PathMetaHeader PathError
standard type bytes = do
  read ← refusing Decode (read_dataplane type bytes)
  require (eqb type 1) NoSuchField
  Ok read.path.meta_header

-- the header that reading a standard path hands back
unfoldable pub meta_header_of : List ℕ → PathMetaHeader
meta_header_of bytes = or_else (standard 1 bytes) (meta_of 0)

-- a call that leaves the bytes as they are: the record of the path
unfoldable pub path_answer : {A : Type 0} → StandardPath → Result A PathError → Result StandardPath PathError
path_answer path r = mapped (λ _. path) r

-- "a record fitting the bytes it leaves": reading these bytes is accepted with that record, and its expiry is the rule's on them
pub record Fits (left : List ℕ) (path : StandardPath) : Type 0 where
  pub read : read_record left ≡ Ok path
  pub expires : path.expiry ≡ path_expiry left path.meta_header

-- a theorem: the record of a standard path that was read, which goes beside all that is found of it, fits its bytes
abbrev pub RecordFits : Type 0
RecordFits = (bytes : List ℕ) (m : PathMetaHeader) → standard 1 bytes ≡ Ok m → Fits bytes (path_of 1 bytes)

-- a theorem: it has an expiry, so that a stored 0 is of no standard path
abbrev pub RecordExpires : Type 0
RecordExpires = (bytes : List ℕ) (m : PathMetaHeader) → standard 1 bytes ≡ Ok m → least_expiry ≤ (path_of 1 bytes).expiry

-- CALLS THAT WRITE: what the lent bytes then hold; a refusal changes nothing
abbrev pub contents : Result (List ℕ) PathError → List ℕ → List ℕ
contents r lent = or_else r lent

-- the record of the path that such a call leaves, and hands back: what reading hands back of the bytes that it left
abbrev pub path_left : ℕ → List ℕ → StandardPath
path_left type left = path_of type left

-- as it is handed back: the record, or the refusal
unfoldable pub written_answer : ℕ → Result (List ℕ) PathError → Result StandardPath PathError
written_answer type r = mapped (path_left type) r

-- what is promised of each call that writes, where a standard path is changed or written: the record fits, and the expiry is still that
-- of the path that was read
abbrev pub KeepsExpiry : List ℕ → Result (List ℕ) PathError → Type 0
KeepsExpiry bytes call = (left : List ℕ) → call ≡ Ok left → Fits left (path_left 1 left) × ((path_left 1 left).expiry ≡ (path_of 1 bytes).expiry)

-- VIEWS: where a field lies; 8 where there is none

unfoldable pub info_field_in : ℕ → List ℕ → ℕ → Result Part PathError
info_field_in type bytes k = do
  m ← standard type bytes
  start ← info_field_offset m k
  Ok (record { start = start; len = info_field_length })

unfoldable pub hop_field_in : ℕ → List ℕ → ℕ → Result Part PathError
hop_field_in type bytes j = do
  m ← standard type bytes
  start ← hop_field_offset m j
  Ok (record { start = start; len = hop_field_length })

unfoldable pub segment_in : ℕ → List ℕ → ℕ → Result Segment PathError
segment_in type bytes k = do
  m ← standard type bytes
  require (ltb k (info_fields_count m)) NoSuchField
  Ok (segment_at m k)

-- the bytes of a part
abbrev pub part_in : List ℕ → Part → List ℕ
part_in bytes p = part p.start p.len bytes

-- a theorem: what a view names lies among the caller's bytes
abbrev pub Among : List ℕ → Part → Type 0
Among bytes p = p.start + p.len ≤ length bytes

abbrev pub ViewsInside : Type 0
ViewsInside =
    (type : ℕ) (bytes : List ℕ) (i : ℕ)
    → ((p : Part) → info_field_in type bytes i ≡ Ok p → Among bytes p)
    × ((p : Part) → hop_field_in type bytes i ≡ Ok p → Among bytes p)
    × ((s : Segment) → segment_in type bytes i ≡ Ok s → Among bytes s.info_field × Among bytes s.hop_fields)

-- ALERT FLAGS of hop field j: bit 1 ingress, bit 0 egress. The one bit changes; 8 where there is no such hop field

unfoldable pub alerted : ℕ → Bool → ℕ → List ℕ → ℕ → Result (List ℕ) PathError
alerted bit on type bytes j = do
  m ← standard type bytes
  flags ← hop_field_offset m j
  Ok (set bytes flags (with_bit bit on (get_or bytes flags 0)))

-- a theorem: the record of the path that is left fits it, and has the expiry of the path that was read
abbrev pub AlertFlagsKeepExpiry : Type 0
AlertFlagsKeepExpiry = (bit : ℕ) (on : Bool) (bytes : List ℕ) (j : ℕ) → KeepsExpiry bytes (alerted bit on 1 bytes j)
