-- A reversed path expires when the path does: segment k of it is segment I − 1 − k of the path with its hop fields in opposite order, and
-- numbers in opposite order have the same least. A copy is the path's own bytes.
-- Assumes nothing.
use Prim.Native.Nat.{ℕ, ◌+◌, ◌-◌, ◌*◌, ◌≤◌, ◌<◌}
use mathlib.Core.Path.{◌≡◌, refl, sym, ap, ap₂, ◌∙◌}
use mathlib.Core.Bool.{Bool, true, false}
use mathlib.Core.List.{List}
use native.Mathlib.Nat.{le_refl}
use native.Mathlib.Omega.{arith}
use lib.Dec.{eqb}
use lib.ListN.{length, take, get_or}
use lib.Seq.{get_or-take, length-take-le}
use borrow.Author.Tests.{eqb-true, eqb-false}
use Rattle.std.specs.Prelude.{Ok}
use Rattle.wire_encoding.specs.Result.{mapped, refusing}
use Rattle.wire_encoding.proofs.Result.{same_value, stepped, refusing_ok, mapped_ok}
use Rattle.wire_encoding.proofs.Lists.{get_or_part}
use Rattle.errors.specs.declared.path_error.PathError.TheVariants.{Decode}
use Rattle.path_fields.specs.Fields.{with_constructed_dir, hop_field_at, expiry_time}
use Rattle.path_fields.specs.declared.InfoField.{InfoField}
use Rattle.path_fields.proofs.Fields.{direction_flipped}
use Rattle.path_meta_header.specs.MetaHeader.{info_fields_count, hop_fields_count, first_hop_field, segment_length, path_length, hop_start}
use Rattle.path_meta_header.specs.Reversal.{at_start, reversed_meta}
use Rattle.path_meta_header.specs.declared.PathMetaHeader.{PathMetaHeader}
use Rattle.path_meta_header.proofs.MetaHeader.{segment_within}
use Rattle.path_meta_header.proofs.Encoding.{fitting}
use Rattle.path_meta_header.proofs.Reversal.{length-reversed_lengths, RowsOf, rows, rows_back, rows_infos, rows_hops, rows_valid, rows_start}
use Rattle.path_meta_header.proofs.Reversal.{Runs, rows_run}
use Rattle.path_least_expiry.specs.Expiry.{least, hop_expiry, segment_expiry, path_expiry}
use Rattle.path_least_expiry.proofs.Least.{least_back}
use Rattle.path.specs.Standard.{info_at, read_record}
use Rattle.path.specs.declared.dataplane.Extent.{Extent}
use Rattle.path.specs.Dataplane.{read_dataplane, path_of}
use Rattle.path.specs.declared.standard.StandardPath.{StandardPath}
use Rattle.path.proofs.Reading.{by_record, no_record, Readable, readable, record_readable, path_of_lem}
use Rattle.path.proofs.Kept.{path_kept, keeps, readable_within, within}
use Rattle.path_reverse.specs.Copy.{copy, front, CopyKeepsExpiry}
use Rattle.path_reverse.specs.Reverse.{reversed_path, reversed_bytes, reverse, ReversedExpiry, ReversalKeepsExpiry}
use Rattle.path_reverse.proofs.Copy.{front_is}
use Rattle.path_reverse.proofs.Reverse.{length-reversed_path, reversible}
use Rattle.path_reverse.proofs.Reversed.{reversed_word, reversed_hop_field, reversed_info_field}

-- A REVERSED PATH

module _ (x : List ℕ) (m : PathMetaHeader) (r : Readable x m) where
  abbrev I : ℕ
  I = info_fields_count m

  abbrev N : ℕ
  N = hop_fields_count m

  abbrev t : PathMetaHeader
  t = reversed_meta m

  abbrev y : List ℕ
  y = reversed_path m x

  opposite : RowsOf m t I
  unfolding reversed_meta at_start
  opposite = rows m t r.sound_meta.lengths refl

  infos : info_fields_count t ≡ I
  infos = rows_infos t m I (rows_back opposite)

  reversed_length : path_length t ≡ path_length m
  unfolding path_length
  reversed_length = omega (arith, infos, rows_hops m t I opposite)

  -- a path that was read can be read when it is reversed
  pub reversed_readable : Readable (reversed_path m x) (reversed_meta m)
  unfolding reversed_path reversed_meta at_start
  reversed_readable =
      record {
        sound_meta = record {
          lengths = rows_valid t m I (rows_back opposite);
          info = omega (arith, infos, r.sound_meta.info);
          hop = omega (arith, rows_hops m t I opposite, r.sound_meta.hop);
          segment = rows_start m t I opposite;
        };
        whole = omega (arith, length-reversed_path m x r.whole, reversed_length);
        word = reversed_word m x t (length-reversed_lengths m) (fitting t (reversible r (le_refl (path_length m))).fits);
      }

  -- the timestamps and the expiry bytes, in opposite order
  time_back : (k : ℕ) → k < I → (info_at y k).timestamp ≡ (info_at x (I - 1 - k)).timestamp
  unfolding reversed_path direction_flipped with_constructed_dir
  time_back k l = ap (λ (f : InfoField). f.timestamp) (reversed_info_field m x r.whole t k l)

  end_back : (j : ℕ) → j < N → get_or y (hop_start t j + 1) 0 ≡ get_or x (hop_start m (N - 1 - j) + 1) 0
  unfolding reversed_path
  end_back j l =
      ap (λ (n : ℕ). get_or y (4 + n * 8 + j * 12 + 1) 0) infos
      ∙ sym (get_or_part (hop_start m j) 12 y 1 (omega arith))
      ∙ ap (λ (p : List ℕ). get_or p 1 0) (reversed_hop_field m x r.whole t j l)
      ∙ get_or_part (hop_start m (N - 1 - j)) 12 x 1 (omega arith)

  segment_back : (k : ℕ) → k < I → segment_expiry y t k ≡ segment_expiry x m (I - 1 - k)
  unfolding segment_expiry hop_expiry hop_field_at
  segment_back k l =
      let k' : ℕ = I - 1 - k in
      let w = segment_within m k' (omega arith) in
      let run : Runs m t k k' = rows_run m t I opposite k l in
      let last : ℕ = segment_length m k' - 1 in
      ap (λ (n : ℕ). least (hop_expiry y t k) (n - 1)) run.long
      ∙ least_back (hop_expiry y t k) (hop_expiry x m k') last
      (λ j h. let at : N - 1 - (first_hop_field t k + j) ≡ first_hop_field m k' + (last - j) = omega arith in
      ap₂ expiry_time (time_back k l)
      (end_back (first_hop_field t k + j) (omega arith) ∙ ap (λ (i : ℕ). get_or x (hop_start m i + 1) 0) at))

  pub expiry_reversed : path_expiry (reversed_path m x) (reversed_meta m) ≡ path_expiry x m
  unfolding path_expiry
  expiry_reversed =
      ap (λ (n : ℕ). least (segment_expiry y t) (n - 1)) infos
      ∙ least_back (segment_expiry y t) (segment_expiry x m) (I - 1) (λ k h. segment_back k (omega (arith, r.sound_meta.info)))

pub reversed_expiry : ReversedExpiry
reversed_expiry bytes m read = expiry_reversed bytes m (readable bytes read)

-- A COPY

module _ (x : List ℕ) (m : PathMetaHeader) (r : Readable x m) where
  abbrev own : List ℕ
  own = take (path_length m) x

  room : path_length m ≤ length own
  room = omega (arith, length-take-le (path_length m) x r.whole)

  same : (i : ℕ) → i < path_length m → get_or own i 0 ≡ get_or x i 0
  same i l = get_or-take (path_length m) x i 0 l

  pub copied_readable : Readable (take (path_length m) x) m
  copied_readable = readable_within x own m r room same

  expiry_copied : path_expiry (take (path_length m) x) m ≡ path_expiry x m
  expiry_copied = within x own m r room same

-- A STANDARD PATH THAT WAS READ

-- it is as long as its header says
pub record Standard (bytes : List ℕ) (read : Extent) : Type 0 where
  pub known : Readable bytes read.path.meta_header
  pub long : read.length ≡ path_length read.path.meta_header

pub standard : (bytes : List ℕ) {read : Extent} → read_dataplane 1 bytes ≡ Ok read → Standard bytes read
unfolding read_dataplane
standard bytes h =
    let found = stepped (read_record bytes) _ h in
    rw (← same_value found.then) (record { known = record_readable bytes found.first; long = refl })

-- THE RECORD THAT A CALL HANDS BACK

-- of a path that is reversed: the reversed header, and the expiry that was stored
pub path_reversed : (bytes : List ℕ) {path : StandardPath} → read_record bytes ≡ Ok path
    → path_of 1 (reversed_path path.meta_header bytes) ≡ record { meta_header = reversed_meta path.meta_header; expiry = path.expiry }
path_reversed bytes {path} h =
    let m = path.meta_header in
    let read = by_record bytes h in
    let r = record_readable bytes h in
    path_kept bytes (reversed_path m bytes) m (reversed_meta m) r (reversed_readable bytes m r) (expiry_reversed bytes m r)
    ∙ ap (λ (p : StandardPath). record { meta_header = reversed_meta m; expiry = p.expiry }) (sym read.1)

-- of a path that is copied: the record of what was read
standard_copied : (bytes : List ℕ) {read : Extent} → read_dataplane 1 bytes ≡ Ok read → path_of 1 (take read.length bytes) ≡ path_of 1 bytes
standard_copied bytes {read} h =
    let m = read.path.meta_header in
    let s = standard bytes h in
    let r = s.known in
    ap (λ (n : ℕ). path_of 1 (take n bytes)) s.long
    ∙ path_kept bytes (take (path_length m) bytes) m m r (copied_readable bytes m r) (expiry_copied bytes m r)
    ∙ sym (path_of_lem bytes m r)

pub path_copied : (type : ℕ) (bytes : List ℕ) {read : Extent} → read_dataplane type bytes ≡ Ok read
    → path_of type (take read.length bytes) ≡ path_of type bytes
path_copied type bytes {read} h = go (eqb type 1) refl
  where
    go : (t : Bool) → eqb type 1 ≡ t → path_of type (take read.length bytes) ≡ path_of type bytes
    go true e =
        let one = eqb-true type 1 e in
        rw one (standard_copied bytes (rw one at h))
    go false e =
        let other = eqb-false type 1 e in
        (no_record type (take read.length bytes)).1 other ∙ sym ((no_record type bytes).1 other)

-- THE CALLS

pub copy_keeps_expiry : CopyKeepsExpiry
unfolding copy
copy_keeps_expiry bytes dst left h =
    let call = mapped_ok front (copy 1 bytes dst) h in
    let read = stepped (refusing Decode (read_dataplane 1 bytes)) _ call.first in
    let s = standard bytes (refusing_ok Decode (read_dataplane 1 bytes) read.first) in
    let m = read.value.path.meta_header in
    let r = s.known in
    let own : List ℕ = take (path_length m) bytes in
    let made : own ≡ left =
    ap (λ (n : ℕ). take n bytes) (sym s.long)
    ∙ sym (front_is (take read.value.length bytes) dst read.then) ∙ same_value call.then in
    keeps bytes own m m r (copied_readable bytes m r) (expiry_copied bytes m r) (mapped front (copy 1 bytes dst)) (h ∙ ap Ok (sym made)) left h

pub reversal_keeps_expiry : ReversalKeepsExpiry
unfolding reverse reversed_bytes
reversal_keeps_expiry bytes dst left h =
    let call = mapped_ok front (reverse 1 bytes dst) h in
    let read = stepped (refusing Decode (read_dataplane 1 bytes)) _ call.first in
    let s = standard bytes (refusing_ok Decode (read_dataplane 1 bytes) read.first) in
    let m = read.value.path.meta_header in
    let r = s.known in
    let y : List ℕ = reversed_path m bytes in
    let made : y ≡ left = sym (front_is y dst read.then) ∙ same_value call.then in
    keeps bytes y m (reversed_meta m) r (reversed_readable bytes m r) (expiry_reversed bytes m r) (mapped front (reverse 1 bytes dst))
    (h ∙ ap Ok (sym made)) left h
