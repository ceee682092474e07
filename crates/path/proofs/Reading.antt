-- What is known of a path that was read, and where the views of one lie.
-- Assumes nothing.
use Prim.Native.Nat.{ℕ, ◌+◌, ◌*◌, ◌≤◌}
use mathlib.Core.Path.{◌≡◌, refl, sym, ap, ◌∙◌}
use mathlib.Core.Bool.{Bool, true, false, cond}
use mathlib.Core.List.{List}
use native.Mathlib.Omega.{arith}
use lib.Dec.{leb, ltb, eqb}
use lib.ListN.{length, take}
use lib.Seq.{length-take-le}
use borrow.Author.Tests.{leb-true, ltb-true, eqb-true, ne_eqb, le-leb}
use Rattle.std.specs.Prelude.{Result, Ok, Err}
use Rattle.wire_encoding.specs.Result.{mapped, or_else, refusing}
use Rattle.wire_encoding.specs.BigEndian.{big_endian, room}
use Rattle.wire_encoding.proofs.Result.{same_value, held, stepped, refusing_ok, mapped_ok, mapped_refused, refused_alike}
use Rattle.path_meta_header.specs.MetaHeader.{meta_of, info_fields_count, hop_fields_count, path_length, read_meta, info_field_offset, hop_field_offset}
use Rattle.path_meta_header.specs.declared.PathMetaHeader.{PathMetaHeader}
use Rattle.path_meta_header.proofs.MetaHeader.{Sound, checked_sound, sound_checked}
use Rattle.path_least_expiry.specs.Expiry.{path_expiry, path_expiry_or_zero}
use Rattle.path_least_expiry.proofs.There.{path_found}
use Rattle.errors.specs.declared.packet_error.DecodeError.{DecodeError}
use Rattle.errors.specs.declared.path_error.PathError.{PathError}
use Rattle.errors.specs.declared.path_error.PathError.TheVariants.{Decode}
use Rattle.path.specs.declared.standard.Part.{Part}
use Rattle.path.specs.declared.standard.StandardPath.{StandardPath}
use Rattle.path.specs.declared.standard.Found.{Found}
use Rattle.path.specs.declared.standard.segment.Segment.{Segment}
use Rattle.path.specs.declared.dataplane.Extent.{Extent}
use Rattle.path.specs.Standard.{read_path, path_under, no_path, read_record, beside}
use Rattle.path.specs.Dataplane.{unread, read_standard, read_dataplane, path_of, NoRecord, standard, meta_header_of}
use Rattle.path.specs.Dataplane.{path_answer, info_field_in, hop_field_in, segment_in, alerted, Among, ViewsInside}
use Rattle.path_meta_header.proofs.Segment as segments

-- A RECORD THAT WAS READ

-- its header is the one that was read, and its expiry the rule's
pub by_record : (bytes : List ℕ) {path : StandardPath} → read_record bytes ≡ Ok path
    → (read_path bytes ≡ Ok path.meta_header) × (path ≡ path_under bytes path.meta_header)
unfolding read_record
by_record bytes h =
    let read = stepped (read_path bytes) _ h in
    rw (← same_value read.then) (read.first, refl)

-- WHAT AN ANSWER SAYS

-- of a reading: the record is the one that it hands back
pub path_given : (type : ℕ) (bytes : List ℕ) {read : Extent} → read_dataplane type bytes ≡ Ok read → path_of type bytes ≡ read.path
unfolding path_of
path_given type bytes h = rw h

-- no record but of a standard path that is read
no_path_lem : (type : ℕ) (bytes : List ℕ) → (type ≡ 1 → ⊥) → path_of type bytes ≡ no_path
unfolding path_of read_dataplane
no_path_lem type bytes other = rw (ne_eqb type 1 other) (go (eqb type 0))
  where
    other_read : Bool → Result Extent DecodeError
    other_read z = cond z (Ok (unread 0)) (Ok (unread (length bytes)))

    go : (z : Bool) → or_else (mapped (λ (read : Extent). read.path) (other_read z)) no_path ≡ no_path
    go true = refl
    go false = refl

pub no_record : NoRecord
unfolding path_of
no_record type bytes = (λ error h. rw h, no_path_lem type bytes)

-- of what is found of a path
module _ {A : Type 0} (path : StandardPath) (r : Result A PathError) where
  pub beside_ok : {found : Found A} → beside path r ≡ Ok found → (r ≡ Ok found.value) × (path ≡ found.path)
  beside_ok h = let read = mapped_ok (λ value. record { path = path; value = value }) r h in
      (read.first ∙ ap (λ (f : Found A). Ok f.value) (same_value read.then), ap (λ (f : Found A). f.path) (same_value read.then))

  pub beside_refused : {error : PathError} → beside path r ≡ Err error → r ≡ Err error
  beside_refused h = mapped_refused (λ value. record { path = path; value = value }) r h

-- A PATH THAT WAS READ

-- the bytes hold a whole path under this meta header
pub record Readable (bytes : List ℕ) (m : PathMetaHeader) : Type 0 where
  pub sound_meta : Sound m
  pub whole : path_length m ≤ length bytes
  pub word : m ≡ meta_of (big_endian 4 bytes 0)

module _ (bytes : List ℕ) {m : PathMetaHeader} where
  -- a path that is read is readable
  pub readable : read_path bytes ≡ Ok m → Readable bytes m
  unfolding read_path read_meta
  readable h =
      let header = stepped (read_meta bytes) _ h in
      let checks = checked_sound _ (held (room bytes 0 4) _ _ header.first).1 in
      let fields = held (leb (path_length header.value) (length bytes)) _ _ header.then in
      let same : header.value ≡ m = cc in
      rw (← same) (record {
        sound_meta = rw checks.1 at checks.0;
        whole = leb-true _ _ fields.0;
        word = sym checks.1;
      })

  -- and so is one that a call on standard paths goes on with, and its type is 1
  pub standard_type : (type : ℕ) → standard type bytes ≡ Ok m → type ≡ 1
  unfolding standard
  standard_type type h = eqb-true type 1 (held (eqb type 1) _ _ (stepped (refusing Decode (read_dataplane type bytes)) _ h).then).0

  pub standard_readable : (type : ℕ) → standard type bytes ≡ Ok m → Readable bytes m
  unfolding standard read_dataplane
  standard_readable type h =
      let read = stepped (refusing Decode (read_dataplane 1 bytes)) _ (rw (standard_type type h) at h) in
      let path = stepped (read_record bytes) _ (refusing_ok Decode (read_dataplane 1 bytes) read.first) in
      let header = ap (λ (r : Extent). r.path.meta_header) (same_value path.then) ∙ same_value read.then in
      readable ((by_record bytes path.first).0 ∙ ap Ok header)

-- it has fields, so its expiry is found
pub expiry_found_lem : (bytes : List ℕ) (m : PathMetaHeader) → Readable bytes m → path_expiry_or_zero bytes m ≡ path_expiry bytes m
expiry_found_lem bytes m r = path_found bytes m (omega (arith, r.sound_meta.info)) r.whole

-- what `StandardPath::decode` finds
pub record_found : (bytes : List ℕ) {m : PathMetaHeader} → read_meta bytes ≡ Ok m → path_length m ≤ length bytes
    → read_record bytes ≡ Ok (record { meta_header = m; expiry = path_expiry_or_zero bytes m })
unfolding read_record read_path
record_found bytes {m} h whole =
    let read : read_path bytes ≡ Ok m = rw (h, le-leb _ _ whole) in
    rw (read, expiry_found_lem bytes m (readable bytes read))

-- one that is read by its record is readable too
pub record_readable : (bytes : List ℕ) {path : StandardPath} → read_record bytes ≡ Ok path → Readable bytes path.meta_header
record_readable bytes h = readable bytes (by_record bytes h).0

-- the other way round: such a path is read
module _ (bytes : List ℕ) (m : PathMetaHeader) (r : Readable bytes m) where
  four : 4 ≤ length bytes
  unfolding path_length
  four = omega (arith, r.whole)

  pub path_read_lem : read_path bytes ≡ Ok m
  unfolding read_path read_meta room
  path_read_lem = rw (le-leb 4 (length bytes) four, ← r.word, sound_checked m r.sound_meta, le-leb _ _ r.whole)

  pub record_read : read_record bytes ≡ Ok (path_under bytes m)
  unfolding read_record
  record_read = rw path_read_lem

  pub standard_read : standard 1 bytes ≡ Ok m
  unfolding standard read_dataplane
  standard_read = rw record_read

  -- and its record is the one that reading hands back
  pub path_of_lem : path_of 1 bytes ≡ path_under bytes m
  unfolding path_of read_dataplane
  path_of_lem = rw record_read

  -- and its header is the one that reading hands back
  pub header_read : meta_header_of bytes ≡ m
  unfolding meta_header_of
  header_read = rw standard_read

-- what a caller of `standard` knows
module _ (type : ℕ) (bytes : List ℕ) where
  pub standard-path : {m : PathMetaHeader} → standard type bytes ≡ Ok m → path_of type bytes ≡ path_under bytes m
  standard-path {m} h = rw (standard_type bytes type h) (path_of_lem bytes m (standard_readable bytes type h))

  -- the record is that of the path, and holds the header that was read
  pub answer_ok : {path : StandardPath} → path_answer (path_of type bytes) (standard type bytes) ≡ Ok path
      → (standard type bytes ≡ Ok path.meta_header) × (path_of type bytes ≡ path)
  unfolding path_answer
  answer_ok h =
      let read = mapped_ok (λ _. path_of type bytes) (standard type bytes) h in
      let same = same_value read.then in
      (read.first ∙ ap Ok (ap (λ (p : StandardPath). p.meta_header) (sym (standard-path read.first) ∙ same)), same)

  pub answer_refused : {error : PathError} → path_answer (path_of type bytes) (standard type bytes) ≡ Err error
      → standard type bytes ≡ Err error
  unfolding path_answer
  answer_refused h = mapped_refused (λ _. path_of type bytes) (standard type bytes) h

-- WHERE THE PARTS LIE

module _ (bytes : List ℕ) where
  -- a path is at most all the bytes
  pub length_inside : (type : ℕ) {read : Extent} → read_dataplane type bytes ≡ Ok read → read.length ≤ length bytes
  unfolding read_dataplane
  length_inside type {read} = go (eqb type 0) (eqb type 1)
    where
      go : (z o : Bool) → cond z (Ok (unread 0)) (cond o (read_standard bytes) (Ok (unread (length bytes)))) ≡ Ok read → read.length ≤ length bytes
      go true o h = omega (arith, ap (λ (r : Extent). r.length) (same_value h))
      go false true h =
          let path = stepped (read_record bytes) _ h in
          let whole = (record_readable bytes path.first).whole in
          omega (arith, whole, ap (λ (r : Extent). r.length) (same_value path.then))
      go false false h = omega (arith, ap (λ (r : Extent). r.length) (same_value h))

  -- so as many bytes stand at its front
  pub length_front : (type : ℕ) {read : Extent} → read_dataplane type bytes ≡ Ok read → length (take read.length bytes) ≡ read.length
  length_front type {read} h = length-take-le read.length bytes (length_inside type h)

-- a view lies among n bytes, and is of its size
pub record Inside (size n : ℕ) (v : Part) : Type 0 where
  pub inside : v.start + v.len ≤ n
  pub sized : v.len ≡ size

module _ (bytes : List ℕ) (type : ℕ) where
  info_view : (k : ℕ) (v : Part) → info_field_in type bytes k ≡ Ok v → Inside 8 (length bytes) v
  unfolding info_field_in info_field_offset path_length
  info_view k v h =
      let read = stepped (standard type bytes) _ h in
      let found = stepped (info_field_offset read.value k) _ read.then in
      let there = held (ltb k (info_fields_count read.value)) _ _ found.first in
      let same : ◌≡◌ {A = Part} (record { start = 4 + k * 8; len = 8 }) v = cc in
      rw (← same)
      (record {
        inside =
            omega (arith, ltb-true k (info_fields_count read.value) there.0, (standard_readable bytes type read.first).whole);
        sized = refl;
      })

  pub hop_view : (j : ℕ) (v : Part) → hop_field_in type bytes j ≡ Ok v → Inside 12 (length bytes) v
  unfolding hop_field_in hop_field_offset path_length
  hop_view j v h =
      let read = stepped (standard type bytes) _ h in
      let found = stepped (hop_field_offset read.value j) _ read.then in
      let there = held (ltb j (hop_fields_count read.value)) _ _ found.first in
      let same : ◌≡◌ {A = Part} (record { start = 4 + info_fields_count read.value * 8 + j * 12; len = 12 }) v = cc in
      rw (← same)
      (record {
        inside =
            omega (arith, ltb-true j (hop_fields_count read.value) there.0, (standard_readable bytes type read.first).whole);
        sized = refl;
      })

  -- a hop field that is there: the header that was read, and where the field starts under it
  pub record HopFound (j : ℕ) (v : Part) : Type 0 where
    pub header : PathMetaHeader
    pub read : standard type bytes ≡ Ok header
    pub offset : hop_field_offset header j ≡ Ok v.start

  pub hop_found : (j : ℕ) {v : Part} → hop_field_in type bytes j ≡ Ok v → HopFound j v
  unfolding hop_field_in
  hop_found j h =
      let read = stepped (standard type bytes) _ h in
      let found = stepped (hop_field_offset read.value j) _ read.then in
      record {
        header = read.value;
        read = read.first;
        offset = found.first ∙ ap Ok (ap (λ (p : Part). p.start) (same_value found.then));
      }

  -- and one that isn't: a flag of it can't be set
  pub alerted_refused : (bit : ℕ) (on : Bool) (j : ℕ) {error : PathError} → hop_field_in type bytes j ≡ Err error
      → alerted bit on type bytes j ≡ Err error
  unfolding hop_field_in alerted
  alerted_refused bit on j h =
      refused_alike (λ m. hop_field_offset m j) (λ m start. record { start = start; len = 12 }) _ (standard type bytes) h

  segment_view : (k : ℕ) (v : Segment) → segment_in type bytes k ≡ Ok v → Among bytes v.info_field × Among bytes v.hop_fields
  unfolding segment_in
  segment_view k v h =
      let read = stepped (standard type bytes) _ h in
      let m = read.value in
      let there = held (ltb k (info_fields_count m)) _ _ read.then in
      let lies = segments.inside bytes m k (ltb-true _ _ there.0) (standard_readable bytes type read.first).whole in
      rw (← same_value there.1) (lies.info, lies.hops)

pub views_inside : ViewsInside
views_inside type bytes i =
    ((λ p h. (info_view bytes type i p h).inside), (λ p h. (hop_view bytes type i p h).inside), (λ s h. segment_view bytes type i s h))

-- what an answer of `standard` says of the bytes
pub ruleset answers_read = (answer_ok, answer_refused, standard_readable)
