-- The hop field of an interface is one of the path's: it is an end of the interface's link. On a peering path links are counted as hop
-- fields are; on other paths the links before a segment are fewer by one for each segment before it.
-- Assumes nothing.
use Prim.Native.Nat.{ℕ, ◌+◌, ◌-◌, ◌*◌, ◌/◌, ◌%◌, ◌<◌}
use mathlib.Core.Path.{◌≡◌, refl, sym, ap, subst, ◌∙◌}
use mathlib.Core.Bool.{Bool, true, false}
use mathlib.Core.List.{List}
use native.Mathlib.Omega.{arith}
use lib.Dec.{ltb}
use borrow.Author.Tests.{lt-ltb, ltb-true}
use Rattle.std.specs.Prelude.{Result, Ok, Err}
use Rattle.wire_encoding.specs.Result.{and_then, mapped}
use Rattle.wire_encoding.proofs.Result.{held, stepped, same_value}
use Rattle.errors.specs.declared.path_error.PathError.{PathError}
use Rattle.path_meta_header.specs.MetaHeader.{hop_fields_count, info_fields_count, segment_of, interfaces_count, segment_of_link, link_end, hop_field_of}
use Rattle.path_meta_header.specs.MetaHeader.{path_length, lengths_valid}
use Rattle.path_meta_header.specs.declared.PathMetaHeader.{PathMetaHeader}
use Rattle.path_meta_header.proofs.MetaHeader.{links, between, segment_below}
use Rattle.path.specs.Standard.{peering_path}
use Rattle.path.specs.Dataplane.{standard}
use Rattle.path.proofs.Reading.{Readable, standard_readable}
use Rattle.path_interfaces.specs.declared.InterfaceAt.{InterfaceAt}
use Rattle.path_interfaces.specs.Interfaces.{count_on, hop_field_on, interfaces_in, interface_at, interface_in, hop_is_there}
use Rattle.path_interfaces.specs.Interfaces.{Joins, OfLink, EveryLink, EveryIndex, OtherPaths}

-- BY THE KIND OF PATH: which indexes are there, and of which hop fields

module _ (bytes : List ℕ) (m : PathMetaHeader) where
  module _ (peering : peering_path bytes m ≡ true) where
    -- a peering path has those under 2 · (N − 1), of hop fields i / 2 rounded up
    peering-there : (i : ℕ) → i < (hop_fields_count m - 1) * 2 → hop_field_on bytes m i ≡ Ok ((i + 1) / 2)
    unfolding hop_field_on count_on
    peering-there i below = rw (peering, lt-ltb _ _ below)

    peering_found : (i : ℕ) {j : ℕ} → hop_field_on bytes m i ≡ Ok j → (i < (hop_fields_count m - 1) * 2) × ((i + 1) / 2 ≡ j)
    unfolding hop_field_on count_on
    peering_found i h =
        let there = held (ltb i ((hop_fields_count m - 1) * 2)) _ _ (rw peering at h) in
        (ltb-true i _ there.0, same_value there.1)

  -- on other paths all is the header's
  pub other_hop_field : peering_path bytes m ≡ false → (i : ℕ) → hop_field_on bytes m i ≡ hop_field_of m i
  unfolding hop_field_on count_on hop_field_of
  other_hop_field other i = rw other

  -- an index under the header's count, and its hop field
  other_found : peering_path bytes m ≡ false → (i : ℕ) {j : ℕ} → hop_field_on bytes m i ≡ Ok j
      → (i < interfaces_count m) × (link_end m i ≡ j)
  unfolding hop_field_of
  other_found other i h =
      let there = held (ltb i (interfaces_count m)) _ _ (sym (other_hop_field other i) ∙ h) in
      (ltb-true i _ there.0, same_value there.1)

  -- interface i of link l, which is of segment k
  other_there : peering_path bytes m ≡ false → (i l k : ℕ) → i / 2 ≡ l → segment_of_link m l ≡ k
      → l < hop_fields_count m - info_fields_count m → hop_field_on bytes m i ≡ Ok (l + i % 2 + k)
  unfolding hop_field_of link_end interfaces_count
  other_there other i l k half segment there =
      let below : i < (hop_fields_count m - info_fields_count m) * 2 = omega arith in
      other_hop_field other i ∙ rw (lt-ltb _ _ below, half, segment)

-- HOP FIELDS THAT ARE THERE

-- the link of an index that is under the header's count is one of the header's
link_there : (m : PathMetaHeader) (i : ℕ) → i < interfaces_count m → i / 2 < hop_fields_count m - info_fields_count m
unfolding interfaces_count
link_there m i below = omega arith

interface_below : (bytes : List ℕ) (m : PathMetaHeader) → lengths_valid m ≡ true → (i : ℕ) {j : ℕ} → hop_field_on bytes m i ≡ Ok j
    → j < hop_fields_count m
unfolding link_end
interface_below bytes m valid i {j} h = go (peering_path bytes m) refl
  where
    go : (peering : Bool) → peering_path bytes m ≡ peering → j < hop_fields_count m
    go true e = omega (arith, (peering_found bytes m e i h).0, (peering_found bytes m e i h).1)
    go false e =
        let found = other_found bytes m e i h in
        omega (arith, found.1, (links m valid (i / 2) (link_there m i found.0)).inside)

-- so it and its segment's info field are among the bytes
pub interface_there : (bytes : List ℕ) (m : PathMetaHeader) → Readable bytes m → (i : ℕ) {j : ℕ} → hop_field_on bytes m i ≡ Ok j
    → hop_is_there bytes m j
unfolding path_length
interface_there bytes m read i {j} h =
    let below = interface_below bytes m read.sound_meta.lengths i h in
    record { hop_inside = omega (arith, read.whole); segment_inside = segment_below m read.sound_meta.lengths j below }

-- LINKS

module _ (bytes : List ℕ) (m : PathMetaHeader) (read : standard 1 bytes ≡ Ok m) where
  valid : lengths_valid m ≡ true
  valid = (standard_readable bytes 1 read).sound_meta.lengths

  -- a link joins the hop fields of its two indexes
  joins : (l j : ℕ) → hop_field_on bytes m (2 * l) ≡ Ok j → hop_field_on bytes m (2 * l + 1) ≡ Ok (j + 1) → Joins bytes m l j
  unfolding interface_in interface_at
  joins l j near far =
      let even : 2 * l % 2 ≡ 0 = omega arith in
      let odd : (2 * l + 1) % 2 ≡ 1 = omega arith in
      record { egress = rw (read, near, even); ingress = rw (read, far, odd) }

  peering_link : peering_path bytes m ≡ true → (l : ℕ) → l + 1 < hop_fields_count m → Joins bytes m l l
  peering_link peering l below =
      let near : (2 * l + 1) / 2 ≡ l = omega arith in
      let far : (2 * l + 1 + 1) / 2 ≡ l + 1 = omega arith in
      joins l l (peering-there bytes m peering (2 * l) (omega arith) ∙ ap Ok near)
      (peering-there bytes m peering (2 * l + 1) (omega arith) ∙ ap Ok far)

  segment_link : peering_path bytes m ≡ false → (j k : ℕ) → j + 1 < hop_fields_count m → segment_of m j ≡ k → segment_of m (j + 1) ≡ k
      → Joins bytes m (j - k) j
  segment_link other j k below near far =
      let link = between m valid j k below near far in
      let l : ℕ = j - k in
      let first : l + 2 * l % 2 + k ≡ j = omega (arith, link.before) in
      let second : l + (2 * l + 1) % 2 + k ≡ j + 1 = omega (arith, link.before) in
      joins l j (other_there bytes m other (2 * l) l k (omega arith) link.link link.there ∙ ap Ok first)
      (other_there bytes m other (2 * l + 1) l k (omega arith) link.link link.there ∙ ap Ok second)

pub every_link : EveryLink
every_link bytes m read = (peering_link bytes m read, segment_link bytes m read)

pub every_index : EveryIndex
unfolding interface_in link_end
every_index bytes m read i place h = go (peering_path bytes m) refl
  where
    found : hop_field_on bytes m i ≡ Ok place.hop_field
    found =
        let known = stepped (standard 1 bytes) _ h in
        let hop = stepped (hop_field_on bytes known.value i) _ known.then in
        let same : known.value ≡ m = same_value (sym known.first ∙ read) in
        rw (← same) (hop.first ∙ ap (λ (p : InterfaceAt). Ok p.hop_field) (same_value hop.then))

    -- from the first hop field of its link
    from : {j : ℕ} → place.hop_field - i % 2 ≡ j → OfLink bytes m i j → OfLink bytes m i (place.hop_field - i % 2)
    from e link = rw e link

    go : (peering : Bool) → peering_path bytes m ≡ peering → OfLink bytes m i (place.hop_field - i % 2)
    go true e =
        let half = peering_found bytes m e i found in
        let below : i / 2 + 1 < hop_fields_count m = omega (arith, half.0) in
        from {j = i / 2} (omega (arith, half.1))
        (record {
          joins = peering_link bytes m read e (i / 2) below;
          inside = below;
          one_segment = λ other. let z : ◌≡◌ {A = ℕ} 0 1 = cc in absurd (omega arith);
        })
    go false e =
        let end = other_found bytes m e i found in
        let link = links m (valid bytes m read) (i / 2) (link_there m i end.0) in
        let k : ℕ = segment_of_link m (i / 2) in
        let l : i / 2 + k - k ≡ i / 2 = omega arith in
        from {j = i / 2 + k} (omega (arith, end.1))
        (record {
          joins =
              subst (λ (n : ℕ). Joins bytes m n (i / 2 + k)) l
              (segment_link bytes m read e (i / 2 + k) k link.inside link.near link.far);
          inside = link.inside;
          one_segment = λ _. link.far ∙ sym link.near;
        })

pub other_paths : OtherPaths
unfolding interfaces_in interface_in count_on
other_paths type bytes m read other =
    (rw (read, other) refl, λ i. rw (read, other_hop_field bytes m other i) (go i (hop_field_of m i)))
  where
    go : (i : ℕ) (of : Result ℕ PathError)
        → mapped (λ (place : InterfaceAt). place.hop_field) (and_then of (λ j. Ok (record { hop_field = j; interface = interface_at bytes m j i }))) ≡ of
    go i (Ok j) = refl
    go i (Err error) = refl
