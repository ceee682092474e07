-- What is met by the path begun with after p moves, and by its mirror image: the same hop field with the same accumulator, the
-- interfaces exchanged by the flipped direction.
-- Assumes nothing.
use Prim.Native.Nat.{ℕ, ◌+◌, ◌-◌, ◌*◌, ◌<◌}
use mathlib.Core.Path.{◌≡◌, refl, ap, ◌∙◌}
use mathlib.Core.Bool.{not}
use mathlib.Core.List.{List}
use native.Mathlib.Omega.{arith}
use lib.ListN.{length}
use Rattle.wire_encoding.specs.Bits.{bit_of}
use Rattle.wire_encoding.specs.BigEndian.{part}
use Rattle.path_fields.specs.Fields.{constructed_dir, with_constructed_dir, ingress_interface, egress_interface}
use Rattle.path_fields.specs.declared.InfoField.{InfoField}
use Rattle.path_fields.proofs.Fields.{direction_flipped, direction_flipped_lem, same-hop, ingress_same, egress_same, ingress_exchanged, egress_exchanged}
use Rattle.path_meta_header.specs.MetaHeader.{info_fields_count, hop_fields_count, segment_of, hop_start}
use Rattle.path_meta_header.specs.declared.PathMetaHeader.{PathMetaHeader}
use Rattle.path_meta_header.proofs.MetaHeader.{segment_below}
use Rattle.path.specs.Standard.{info_at, hop_at}
use Rattle.path.specs.Dataplane.{meta_header_of}
use Rattle.path.proofs.Reading.{header_read}
use Rattle.path_moves.specs.Moves.{accumulator_by, at_position, info_of}
use Rattle.round_trip.specs.RoundTrip.{Meeting, meeting, met, by_path, exchanged}
use Rattle.round_trip.specs.Mirror.{reversed_meta_at, mirror_meta, mirror}
use Rattle.round_trip.proofs.Mirror.{Path, path-whole, hop_below, mirror_infos, mirror-hops, mirror_field, mirror-info, mirror-segment}
use Rattle.round_trip.proofs.Mirror.{path-mirror}
use Rattle.round_trip.proofs.Onward.{standing_at, Onward}

-- reading a path finds its header
pub path_header : (x : List ℕ) (m : PathMetaHeader) → Path x m → meta_header_of x ≡ m
path_header x m path = header_read x m path.known.path

-- hop field j under a header
abbrev under : List ℕ → PathMetaHeader → ℕ → ℕ → Meeting
under x m j accumulator =
    record {
      field = part (hop_start m j) 12 x;
      accumulator = accumulator;
      entry = ingress_interface (info_at x (segment_of m j)) (hop_at x m j);
      exit = egress_interface (info_at x (segment_of m j)) (hop_at x m j);
    }

-- and the accumulator of its segment
abbrev accumulator_of : List ℕ → PathMetaHeader → ℕ → ℕ
accumulator_of x m j = (info_at x (segment_of m j)).accumulator

met_under : (x : List ℕ) (m : PathMetaHeader) → Path x m → met x ≡ under x m m.current_hop_field (accumulator_of x m m.current_hop_field)
unfolding met meeting info_of
met_under x m path =
    ap (λ (h : PathMetaHeader). under x h h.current_hop_field (accumulator_of x h h.current_hop_field)) (path_header x m path)

module _ (b : List ℕ) (path : Path b (meta_header_of b)) (p : ℕ) (x : List ℕ) (o : Onward b p x) where
  abbrev m : PathMetaHeader
  m = meta_header_of b

  abbrev mx : PathMetaHeader
  mx = standing_at m p

  abbrev N : ℕ
  N = hop_fields_count m

  abbrev I : ℕ
  I = info_fields_count m

  p_below : p < N
  unfolding standing_at at_position hop_fields_count
  p_below = hop_below x mx o.path

  segment_inside : segment_of m p < I
  segment_inside = segment_below m path.known.path.sound_meta.lengths p p_below

  out_long : length x ≡ 4 + I * 8 + N * 12
  unfolding standing_at at_position info_fields_count hop_fields_count
  out_long = path-whole x mx o.path

  begun_long : length b ≡ 4 + I * 8 + N * 12
  begun_long = path-whole b m path

  -- OUTWARD

  hop_out : hop_at x m p ≡ hop_at b m p
  hop_out = same-hop x b (hop_start m p) (hop_start m p) (omega (arith, out_long, p_below)) (omega (arith, begun_long, p_below)) (o.fields p p_below)

  direction_out : constructed_dir (info_at x (segment_of m p)) ≡ constructed_dir (info_at b (segment_of m p))
  direction_out = ap (bit_of 0) (o.flags (segment_of m p) segment_inside)

  under_out : under x m p (accumulator_of x m p) ≡ under b m p (accumulator_by b p)
  under_out =
      let f : InfoField = info_at x (segment_of m p) in
      let g : InfoField = info_at b (segment_of m p) in
      let field = o.fields p p_below in
      let accumulator = o.meets in
      let entry = ap (ingress_interface f) hop_out ∙ ingress_same f g (hop_at b m p) direction_out in
      let exit = ap (egress_interface f) hop_out ∙ egress_same f g (hop_at b m p) direction_out in
      λ i. record { field = field i; accumulator = accumulator i; entry = entry i; exit = exit i }

  pub met_onward : met x ≡ by_path b p
  unfolding by_path meeting info_of standing_at at_position segment_of info_fields_count
  met_onward = met_under x mx o.path ∙ under_out

  -- ON THE WAY BACK

  abbrev z : List ℕ
  z = mirror mx x

  abbrev mz : PathMetaHeader
  mz = mirror_meta mx

  mirror-hop : mz.current_hop_field ≡ N - 1 - p
  unfolding mirror_meta reversed_meta_at standing_at at_position hop_fields_count
  mirror-hop = refl

  back_infos : info_fields_count mz ≡ I
  unfolding standing_at at_position info_fields_count
  back_infos = mirror_infos x mx o.path

  back_segment : segment_of mz (N - 1 - p) ≡ I - 1 - segment_of m p
  unfolding standing_at at_position segment_of hop_fields_count info_fields_count
  back_segment = mirror-segment x mx o.path p p_below

  back_long : length z ≡ 4 + info_fields_count mz * 8 + N * 12
  unfolding standing_at at_position hop_fields_count
  back_long = path-whole z mz (path-mirror x mx o.path) ∙ ap (λ (n : ℕ). 4 + info_fields_count mz * 8 + n * 12) (mirror-hops x mx o.path)

  field_back : part (hop_start mz (N - 1 - p)) 12 z ≡ part (hop_start m p) 12 b
  unfolding standing_at at_position info_fields_count hop_fields_count
  field_back =
      let at : N - 1 - (N - 1 - p) ≡ p = omega (arith, p_below) in
      ap (λ (n : ℕ). part (4 + n * 8 + (N - 1 - p) * 12) 12 z) back_infos
      ∙ mirror_field x mx o.path (N - 1 - p) (omega (arith, p_below))
      ∙ ap (λ (j : ℕ). part (hop_start m j) 12 x) at
      ∙ o.fields p p_below

  hop_back : hop_at z mz (N - 1 - p) ≡ hop_at b m p
  hop_back =
      same-hop z b (hop_start mz (N - 1 - p)) (hop_start m p) (omega (arith, back_long, p_below)) (omega (arith, begun_long, p_below)) field_back

  info_back : info_at z (segment_of mz (N - 1 - p)) ≡ direction_flipped (info_at x (segment_of m p))
  unfolding standing_at at_position info_fields_count
  info_back =
      let k : ℕ = segment_of m p in
      let at : I - 1 - (I - 1 - k) ≡ k = omega (arith, segment_inside) in
      ap (info_at z) back_segment
      ∙ mirror-info x mx o.path (I - 1 - k) (omega (arith, segment_inside))
      ∙ ap (λ (n : ℕ). direction_flipped (info_at x n)) at

  accumulator_back : accumulator_of z mz (N - 1 - p) ≡ accumulator_by b p
  unfolding direction_flipped with_constructed_dir
  accumulator_back = ap (λ (f : InfoField). f.accumulator) info_back ∙ o.meets

  direction_back : constructed_dir (info_at z (segment_of mz (N - 1 - p))) ≡ not (constructed_dir (info_at b (segment_of m p)))
  direction_back = ap constructed_dir info_back ∙ direction_flipped_lem (info_at x (segment_of m p)) ∙ ap not direction_out

  under_back : under z mz (N - 1 - p) (accumulator_of z mz (N - 1 - p)) ≡ exchanged (under b m p (accumulator_by b p))
  unfolding exchanged
  under_back =
      let f : InfoField = info_at z (segment_of mz (N - 1 - p)) in
      let g : InfoField = info_at b (segment_of m p) in
      let field = field_back in
      let accumulator = accumulator_back in
      let entry = ap (ingress_interface f) hop_back ∙ ingress_exchanged f g (hop_at b m p) direction_back in
      let exit = ap (egress_interface f) hop_back ∙ egress_exchanged f g (hop_at b m p) direction_back in
      λ i. record { field = field i; accumulator = accumulator i; entry = entry i; exit = exit i }

  pub met-mirror : met (mirror (standing_at (meta_header_of b) p) x) ≡ exchanged (by_path b p)
  unfolding by_path meeting info_of
  met-mirror =
      met_under z mz (path-mirror x mx o.path)
      ∙ ap (λ (h : ℕ). under z mz h (accumulator_of z mz h)) mirror-hop
      ∙ under_back
