-- A path is read by its first bytes, so it is read alike in a copy, with other bytes after it, and after a write to a hop field's flags.
-- Assumes nothing.
use Prim.Native.Nat.{ℕ, ◌≤◌, ◌<◌}
use mathlib.Core.Path.{◌≡◌, refl, sym, ap, ◌∙◌}
use mathlib.Core.List.{List, ◌++◌}
use native.Mathlib.Omega.{arith}
use lib.Dec.{ltb}
use lib.ListN.{length, get_or, set, length-append, length-set, get_or-append}
use lib.Seq.{get_or-set_other}
use Rattle.std.specs.Prelude.{Bool, Result, Ok, Err}
use Rattle.wire_encoding.specs.Bits.{with_bit}
use Rattle.wire_encoding.proofs.Result.{same_value, held, stepped}
use Rattle.wire_encoding.proofs.BigEndian.{number_by_get_or}
use Rattle.path_meta_header.specs.MetaHeader.{meta_of, hop_fields_count, path_length, hop_start, hop_field_offset}
use Rattle.path_meta_header.specs.declared.PathMetaHeader.{PathMetaHeader}
use Rattle.errors.specs.declared.path_error.PathError.{PathError}
use Rattle.path_least_expiry.specs.Expiry.{path_expiry}
use Rattle.path_least_expiry.proofs.Kept.{none_below, expiry_within, expiry_flags}
use Rattle.path.specs.Standard.{read_record, beside}
use Rattle.path.specs.declared.standard.Found.{Found}
use Rattle.path.specs.declared.standard.Part.{Part}
use Rattle.path.specs.Dataplane.{path_of, standard, hop_field_in, alerted, written_answer, Fits, RecordFits, RecordExpires, KeepsExpiry, AlertFlagsKeepExpiry}
use Rattle.path.proofs.Reading.{beside_ok, beside_refused, HopFound, hop_found, hop_view, alerted_refused, Readable, record_read, path_of_lem, standard_type, standard_readable}

-- A PATH THAT WAS READ: its record fits

fits : (bytes : List ℕ) (m : PathMetaHeader) → Readable bytes m → Fits bytes (path_of 1 bytes)
fits bytes m r = rw (path_of_lem bytes m r) (record { read = record_read bytes m r; expires = refl })

pub record_fits : RecordFits
record_fits bytes m h = fits bytes m (standard_readable bytes 1 h)

pub record_expires : RecordExpires
record_expires bytes m h = rw (path_of_lem bytes m (standard_readable bytes 1 h)) (none_below bytes m)

-- FROM ONE PATH THAT WAS READ TO ANOTHER

module _ (x y : List ℕ) (m n : PathMetaHeader) (r : Readable x m) (s : Readable y n) (same : path_expiry y n ≡ path_expiry x m) where
  -- the expiry that was stored for the first is that of the second
  pub path_kept : path_of 1 y ≡ record { meta_header = n; expiry = path_expiry x m }
  path_kept = path_of_lem y n s ∙ ap (λ (e : ℕ). record { meta_header = n; expiry = e }) same

  -- so a call that leaves the second keeps its promise
  pub keeps : (call : Result (List ℕ) PathError) → call ≡ Ok y → KeepsExpiry x call
  keeps call done left h = rw (← same_value (sym done ∙ h)) (fits y n s, path_expires)
    where
      path_expires : (path_of 1 y).expiry ≡ (path_of 1 x).expiry
      path_expires = rw (path_of_lem y n s, path_of_lem x m r) same

-- THE PATH'S OWN BYTES

module _ (x y : List ℕ) (m : PathMetaHeader) (r : Readable x m) (room : path_length m ≤ length y) where
  -- a path is read where there is room for it and its first four bytes stand
  pub readable_front : ((i : ℕ) → i < 4 → get_or y i 0 ≡ get_or x i 0) → Readable y m
  readable_front e =
      record {
        sound_meta = r.sound_meta;
        whole = room;
        word = r.word ∙ ap meta_of (sym (number_by_get_or y x 4 0 (λ i a l. e i l)));
      }

  -- and is the same path where all its bytes do
  module _ (e : (i : ℕ) → i < path_length m → get_or y i 0 ≡ get_or x i 0) where
    pub readable_within : Readable y m
    unfolding path_length
    readable_within = readable_front (λ i l. e i (omega arith))

    pub within : path_expiry y m ≡ path_expiry x m
    within = expiry_within x y m r.sound_meta e

-- BYTES AFTER A PATH: it is read as without them

module _ (p t : List ℕ) (m : PathMetaHeader) (r : Readable p m) where
  after-room : path_length m ≤ length (p ++ t)
  after-room = simp length-append (omega (arith, r.whole))

  stays : (i : ℕ) → i < path_length m → get_or (p ++ t) i 0 ≡ get_or p i 0
  stays i l = get_or-append p t 0 i (omega (arith, r.whole))

  pub readable_after : Readable (p ++ t) m
  readable_after = readable_within p (p ++ t) m r after-room stays

  pub expires_after : path_expiry (p ++ t) m ≡ path_expiry p m
  expires_after = within p (p ++ t) m r after-room stays

  pub record_after : read_record (p ++ t) ≡ read_record p
  record_after = rw (record_read (p ++ t) m readable_after, record_read p m r, expires_after)

-- AN ALERT FLAG

module _ (bytes : List ℕ) (m : PathMetaHeader) (r : Readable bytes m) (j v : ℕ) where
  abbrev after : List ℕ
  after = set bytes (hop_start m j) v

  readable_flags : Readable after m
  readable_flags =
      readable_front bytes after m r (omega (arith, length-set bytes (hop_start m j) v, r.whole))
      (λ i l. get_or-set_other bytes (hop_start m j) i v 0 (λ e. omega arith))

  flags_expiry : path_expiry after m ≡ path_expiry bytes m
  flags_expiry = expiry_flags bytes m j v r.sound_meta

  pub path_flags : path_of 1 after ≡ path_of 1 bytes
  path_flags = path_kept bytes after m m r readable_flags flags_expiry ∙ sym (path_of_lem bytes m r)

  pub flags_keep : (call : Result (List ℕ) PathError) → call ≡ Ok after → KeepsExpiry bytes call
  flags_keep = keeps bytes after m m r readable_flags flags_expiry

-- of a hop field that is there
hop_start_lem : (m : PathMetaHeader) (j : ℕ) {start : ℕ} → hop_field_offset m j ≡ Ok start → hop_start m j ≡ start
unfolding hop_field_offset
hop_start_lem m j h = same_value (held (ltb j (hop_fields_count m)) _ _ h).1

-- the record beside it stays
pub path-alerted : (type : ℕ) (bytes : List ℕ) (m : PathMetaHeader) (j v : ℕ) {start : ℕ} → standard type bytes ≡ Ok m
    → hop_field_offset m j ≡ Ok start → path_of type (set bytes start v) ≡ path_of type bytes
path-alerted type bytes m j v read offset =
    rw (standard_type bytes type read, ← hop_start_lem m j offset) (path_flags bytes m (standard_readable bytes type read) j v)

-- what a call that sets or clears the flag finds, and does
pub flag_inside : (type : ℕ) (bytes : List ℕ) (j : ℕ) {found : Found Part} → beside (path_of type bytes) (hop_field_in type bytes j) ≡ Ok found
    → found.value.start < length bytes
flag_inside type bytes j {found} h =
    let view = hop_view bytes type j found.value (beside_ok (path_of type bytes) (hop_field_in type bytes j) h).0 in
    omega (arith, view.inside, view.sized)

module _ (bit : ℕ) (on : Bool) (type : ℕ) (bytes : List ℕ) (j : ℕ) where
  abbrev flagged : Found Part → List ℕ
  flagged found = set bytes found.value.start (with_bit bit on (get_or bytes found.value.start 0))

  module _ {found : Found Part} (h : beside (path_of type bytes) (hop_field_in type bytes j) ≡ Ok found) where
    abbrev there : HopFound bytes type j found.value
    there = hop_found bytes type j (beside_ok (path_of type bytes) (hop_field_in type bytes j) h).0

    pub flag_written : alerted bit on type bytes j ≡ Ok (flagged found)
    unfolding alerted
    flag_written = rw (there.read, there.offset)

    pub flag_record : written_answer type (alerted bit on type bytes j) ≡ Ok found.path
    unfolding written_answer
    flag_record =
        rw flag_written
        (ap Ok (path-alerted type bytes there.header j _ there.read there.offset
        ∙ (beside_ok (path_of type bytes) (hop_field_in type bytes j) h).1))

  pub flag_refused : {error : PathError} → beside (path_of type bytes) (hop_field_in type bytes j) ≡ Err error → alerted bit on type bytes j ≡ Err error
  flag_refused h = alerted_refused bytes type bit on j (beside_refused (path_of type bytes) (hop_field_in type bytes j) h)

-- what `set_alert` cites
pub ruleset flags = (flag_inside, flag_written, flag_record, flag_refused)

pub alert_flags_keep_expiry : AlertFlagsKeepExpiry
unfolding alerted
alert_flags_keep_expiry bit on bytes j left h =
    let read = stepped (standard 1 bytes) _ h in
    let m = read.value in
    let found = stepped (hop_field_offset m j) _ read.then in
    let v : ℕ = with_bit bit on (get_or bytes found.value 0) in
    let done : alerted bit on 1 bytes j ≡ Ok (set bytes (hop_start m j) v) =
    h ∙ sym found.then ∙ ap (λ (start : ℕ). Ok (set bytes start v)) (sym (hop_start_lem m j found.first)) in
    flags_keep bytes m (standard_readable bytes 1 read.first) j v (alerted bit on 1 bytes j) done left h
