-- The path that is read of p ++ t is the one that is read of p, and every byte that a call looks at lies in p.
-- Assumes nothing.
use Prim.Native.Nat.{ℕ, ◌+◌, ◌*◌, ◌-◌, ◌≤◌, ◌<◌}
use mathlib.Core.Path.{◌≡◌, refl, sym, ap, ap₂, ◌∙◌}
use mathlib.Core.Bool.{Bool, true, false, ◌&&◌}
use mathlib.Core.List.{List, ◌++◌, flat_map, reverse as reversed}
use native.Mathlib.Omega.{arith}
use lib.Dec.{ltb, eqb}
use lib.ListN.{length, take, drop, get_or, set, length-drop, get_or-append}
use lib.Seq.{take-append-le, drop-append-le}
use borrow.Author.Tests.{ltb-true, eqb-true}
use Rattle.std.specs.Prelude.{Result, Ok, Err}
use Rattle.wire_encoding.specs.Result.{require, and_then, mapped, or_else}
use Rattle.wire_encoding.specs.BigEndian.{records}
use Rattle.wire_encoding.specs.Bits.{with_bit}
use Rattle.wire_encoding.proofs.Lists.{part_left, set-left}
use Rattle.wire_encoding.proofs.BigEndian.{records-left}
use Rattle.errors.specs.declared.packet_error.DecodeError.{DecodeError}
use Rattle.errors.specs.declared.path_error.PathError.{PathError}
use Rattle.errors.specs.declared.path_error.PathError.TheVariants.{NoSuchField}
use Rattle.path_fields.specs.Fields.{expiry_time, peering}
use Rattle.path_fields.proofs.Fields.{info-left, hop-left}
use Rattle.path_meta_header.specs.MetaHeader.{info_fields_count, hop_fields_count, segment_of, segment_length, first_hop_field, info_start, hop_start}
use Rattle.path_meta_header.specs.MetaHeader.{path_length, hop_field_offset}
use Rattle.path_meta_header.specs.declared.PathMetaHeader.{PathMetaHeader}
use Rattle.path_meta_header.proofs.Segment.{inside}
use Rattle.path_least_expiry.specs.Expiry.{hop_expiry, segment_expiry}
use Rattle.path_least_expiry.proofs.Least.{least-same}
use Rattle.path.specs.Standard.{no_path, info_at, both_peering, peering_path}
use Rattle.path.specs.declared.dataplane.Extent.{Extent}
use Rattle.path.specs.Dataplane.{read_dataplane, path_of, written_answer, standard, info_field_in, hop_field_in, segment_in, alerted}
use Rattle.path.proofs.Reading.{Readable, record_read, standard_read}
use Rattle.path.proofs.Kept.{readable_after, expires_after, record_after, path-alerted}
use Rattle.path_hop_fields.specs.PathRuns.{hop_fields_in}
use Rattle.path_expiry.specs.Expiry.{segment_expiry_in, expiry_in, time_left_in}
use Rattle.path_interfaces.specs.declared.InterfaceAt.{InterfaceAt}
use Rattle.path_interfaces.specs.Interfaces.{count_on, hop_field_on, interface_at, interfaces_in, interface_in}
use Rattle.path_interfaces.proofs.Interfaces.{interface_there}
use Rattle.path_reverse.specs.Copy.{copy}
use Rattle.path_reverse.specs.Reverse.{reversed_records, flipped, same, reversed_under, reversed_path, reversed_bytes, reverse}
use Rattle.bytes_after_path.specs.BytesAfterPath.{before, ReadAlike, WrittenAlike}

module _ (p t : List ℕ) (m : PathMetaHeader) (r : Readable p m) where
  whole : 4 + info_fields_count m * 8 + hop_fields_count m * 12 ≤ length p
  unfolding path_length
  whole = r.whole

  -- READING

  after : Readable (p ++ t) m
  after = readable_after p t m r

  standard-after : standard 1 (p ++ t) ≡ standard 1 p
  standard-after = standard_read (p ++ t) m after ∙ sym (standard_read p m r)

  reading-after : read_dataplane 1 (p ++ t) ≡ read_dataplane 1 p
  unfolding read_dataplane
  reading-after = rw (record_after p t m r)

  -- so the record is the same
  pub path-after : path_of 1 (p ++ t) ≡ path_of 1 p
  unfolding path_of
  path-after = ap (λ (found : Result Extent DecodeError). or_else (mapped (λ (read : Extent). read.path) found) no_path) reading-after

  -- FIELDS

  pub info-after : (k : ℕ) → k < info_fields_count m → info_at (p ++ t) k ≡ info_at p k
  info-after k l = info-left p t (info_start k) (omega (arith, whole))

  pub peering_path_after : peering_path (p ++ t) m ≡ peering_path p m
  unfolding peering_path both_peering
  peering_path_after = go (eqb (info_fields_count m) 2) refl
    where
      go : (two : Bool) → eqb (info_fields_count m) 2 ≡ two
          → two && (peering (info_at (p ++ t) 0) && peering (info_at (p ++ t) 1)) ≡ two && (peering (info_at p 0) && peering (info_at p 1))
      go true e =
          let two = eqb-true (info_fields_count m) 2 e in
          rw (info-after 0 (omega arith), info-after 1 (omega arith))
      go false e = refl

  -- EXPIRY

  segment_expiry_same : (k : ℕ) → k < info_fields_count m → segment_expiry (p ++ t) m k ≡ segment_expiry p m k
  unfolding segment_expiry hop_expiry
  segment_expiry_same k l =
      let lies = inside p m k l r.whole in
      least-same _ _ (segment_length m k - 1)
      (λ j h. ap₂ (λ info hop. expiry_time info.timestamp hop.exp_time) (info-after k l)
      (hop-left p t (hop_start m (first_hop_field m k + j)) (omega (arith, lies.hops, lies.one))))

  segment_expiry_after : (k : ℕ) → segment_expiry_in 1 (p ++ t) k ≡ segment_expiry_in 1 p k
  unfolding segment_expiry_in
  segment_expiry_after k = rw (standard_read (p ++ t) m after, standard_read p m r) (go (ltb k (info_fields_count m)) refl)
    where
      go : (there : Bool) → ltb k (info_fields_count m) ≡ there
          → require {A = ℕ} there NoSuchField (Ok (segment_expiry (p ++ t) m k)) ≡ require there NoSuchField (Ok (segment_expiry p m k))
      go true e = ap Ok (segment_expiry_same k (ltb-true _ _ e))
      go false e = refl

  expiry_after : expiry_in 1 (p ++ t) ≡ expiry_in 1 p
  unfolding expiry_in
  expiry_after = rw (standard_read (p ++ t) m after, standard_read p m r) (ap Ok (expires_after p t m r))

  -- INTERFACES

  count-after : count_on (p ++ t) m ≡ count_on p m
  unfolding count_on
  count-after = rw peering_path_after

  interfaces_after : interfaces_in 1 (p ++ t) ≡ interfaces_in 1 p
  unfolding interfaces_in
  interfaces_after = rw (standard_read (p ++ t) m after, standard_read p m r, count-after)

  hop_field_after : (i : ℕ) → hop_field_on (p ++ t) m i ≡ hop_field_on p m i
  unfolding hop_field_on
  hop_field_after i = rw (count-after, peering_path_after)

  interface_after : (i : ℕ) → interface_in 1 (p ++ t) i ≡ interface_in 1 p i
  unfolding interface_in interface_at
  interface_after i = rw (standard_read (p ++ t) m after, standard_read p m r, hop_field_after i) (go (hop_field_on p m i) refl)
    where
      found : List ℕ → ℕ → Result InterfaceAt PathError
      found bytes j = Ok (record { hop_field = j; interface = interface_at bytes m j i })

      go : (of : Result ℕ PathError) → hop_field_on p m i ≡ of → and_then of (found (p ++ t)) ≡ and_then of (found p)
      go (Ok j) e =
          let there = interface_there p m r i e in
          rw (info-after (segment_of m j) there.segment_inside, hop-left p t (hop_start m j) there.hop_inside)
      go (Err error) e = refl

  -- COPY AND REVERSAL

  front_same : take (path_length m) (p ++ t) ≡ take (path_length m) p
  front_same = take-append-le (path_length m) p t r.whole

  copy-after : (dst : List ℕ) → copy 1 (p ++ t) dst ≡ copy 1 p dst
  unfolding copy read_dataplane
  copy-after dst = rw (record_read (p ++ t) m after, record_read p m r, front_same)

  records-same : (f : List ℕ → List ℕ) (k n from : ℕ) → from + n * k ≤ length p
      → reversed_records f k n (drop from (p ++ t)) ≡ reversed_records f k n (drop from p)
  unfolding reversed_records
  records-same f k n from h =
      ap (λ (l : List (List ℕ)). flat_map f (reversed l))
      (ap (records k n) (drop-append-le from p t (omega arith)) ∙ records-left k n (drop from p) t (simp length-drop (omega arith)))

  reversed_same : reversed_path m (p ++ t) ≡ reversed_path m p
  unfolding reversed_path reversed_under
  reversed_same =
      rw (
        records-same flipped 8 (info_fields_count m) (info_start 0) (omega (arith, whole)),
        records-same same 12 (hop_fields_count m) (info_start (info_fields_count m)) (omega (arith, whole)),
      )

  reverse-after : (dst : List ℕ) → reverse 1 (p ++ t) dst ≡ reverse 1 p dst
  unfolding reverse read_dataplane reversed_bytes
  reverse-after dst = rw (record_read (p ++ t) m after, record_read p m r, reversed_same)

  -- ALERT FLAGS

  pub alert_after : (bit : ℕ) (on : Bool) (j : ℕ) → alerted bit on 1 (p ++ t) j ≡ mapped (before t) (alerted bit on 1 p j)
  unfolding alerted hop_field_offset
  alert_after bit on j = rw (standard_read (p ++ t) m after, standard_read p m r) (go (ltb j (hop_fields_count m)) refl)
    where
      at : ℕ
      at = hop_start m j

      go : (there : Bool) → ltb j (hop_fields_count m) ≡ there
          → and_then (require there NoSuchField (Ok at))
          (λ flags. Ok (set (p ++ t) flags (with_bit bit on (get_or (p ++ t) flags 0))))
          ≡ mapped (before t) (and_then (require there NoSuchField (Ok at)) (λ flags. Ok (set p flags (with_bit bit on (get_or p flags 0)))))
      go true e =
          let l = ltb-true j (hop_fields_count m) e in
          rw (get_or-append p t 0 at (omega (arith, whole)), set-left p t at (with_bit bit on (get_or p at 0)) (omega (arith, whole)))
      go false e = refl

  -- the record stays on both sides
  pub alert_record_after : (bit : ℕ) (on : Bool) (j : ℕ) → written_answer 1 (alerted bit on 1 (p ++ t) j) ≡ written_answer 1 (alerted bit on 1 p j)
  unfolding alerted written_answer
  alert_record_after bit on j = rw (standard_read (p ++ t) m after, standard_read p m r) (go (hop_field_offset m j) refl)
    where
      flagged : List ℕ → ℕ → Result (List ℕ) PathError
      flagged bytes flags = Ok (set bytes flags (with_bit bit on (get_or bytes flags 0)))

      go : (offset : Result ℕ PathError) → hop_field_offset m j ≡ offset
          → written_answer 1 (and_then offset (flagged (p ++ t))) ≡ written_answer 1 (and_then offset (flagged p))
      go (Ok flags) e =
          ap Ok
          (path-alerted 1 (p ++ t) m j _ (standard_read (p ++ t) m after) e
          ∙ path-after
          ∙ sym (path-alerted 1 p m j _ (standard_read p m r) e))
      go (Err error) e = refl

  -- ALL OF THEM

  pub read_alike : ReadAlike p t
  unfolding info_field_in hop_field_in segment_in hop_fields_in time_left_in
  read_alike =
      record {
        reading = reading-after;
        info_field = λ k. rw standard-after;
        hop_field = λ j. rw standard-after;
        segment = λ k. rw standard-after;
        hop_fields = rw standard-after;
        part = λ v h. part_left v.start v.len p t h;
        segment_expiry = segment_expiry_after;
        expiry = expiry_after;
        time_left = λ now. rw expiry_after;
        interfaces = interfaces_after;
        interface = interface_after;
      }

  pub written_alike : WrittenAlike p t
  written_alike = record { copied = copy-after; reversed = reverse-after }
