-- The worked examples hold, by computing each; and the premises can be met, for each of them can be asked of a path and answered.
-- Assumes nothing.
use Prim.Native.Nat.{ℕ, zero, suc, ◌<◌}
use mathlib.Core.Path.{◌≡◌, refl, ap}
use mathlib.Core.Bool.{Bool, true, false, cond}
use mathlib.Core.List.{List, [], ◌∷◌, flat_map}
use native.Mathlib.Omega.{arith}
use lib.Dec.{ltb, leb, eqb}
use lib.ListN.{length, get_or}
use borrow.Author.Tests.{ltb-true, leb-true, eqb-true}
use Rattle.wire_encoding.specs.BigEndian.{big_endian, bytes_of, room, records}
use Rattle.wire_encoding.specs.Bits.{with_bit}
use Rattle.path_fields.specs.Fields as fields
use Rattle.path_meta_header.specs.MetaHeader as meta
use Rattle.path_meta_header.specs.Reversal as reversal
use Rattle.path_meta_header.specs.Encoding as encoding
use Rattle.std.specs.Prelude.{is_ok}
use Rattle.wire_encoding.proofs.Result.{was_ok}
use Rattle.path.specs.Standard as standard
use Rattle.path.specs.Dataplane as dataplane
use Rattle.path_reverse.specs.Copy as copy
use Rattle.path_reverse.specs.Reverse as reverse
use Rattle.path_moves.specs.Moves as moves
use Rattle.path_moves.specs.Rules as rules
use Rattle.round_trip.specs.RoundTrip as round
use Rattle.round_trip.specs.Examples as examples

pub computed : examples.Computed
unfolding big_endian bytes_of room with_bit fields.info_field_at fields.hop_field_at fields.interface_of fields.ingress_interface fields.egress_interface
    meta.nth_field meta.meta_of meta.info_fields_count meta.hop_fields_count meta.segment_of meta.first_hop_field meta.path_length meta.lengths_valid
    meta.hop_valid meta.info_valid meta.checked meta.read_meta encoding.word_of reversal.at_start reversal.reversed_lengths reversal.reversed_meta
    standard.read_path standard.read_record dataplane.read_dataplane dataplane.standard dataplane.meta_header_of copy.into flat_map records
    reverse.reversed_records reverse.flipped reverse.same reverse.reversed_under reverse.reversed_path reverse.reversed_bytes reverse.reverse
    rules.owner_of rules.spared rules.some_peering standard.both_peering standard.peering_path rules.peering_allowed rules.movable
    moves.takes_in moves.move_bytes moves.is_last moves.move moves.moved moves.walk_moves moves.walk moves.walked
    moves.info_of moves.accumulator_after moves.accumulator_by
    round.begin round.by_end round.on_the_way round.on_packet round.sent round.packet_moved round.packet_walked round.without
    round.at_last round.holding round.arrived round.step round.after round.meeting round.by_path round.exchanged round.meets
    round.reversed_into round.reply
    examples.info examples.hop examples.hops examples.peered examples.travels examples.begins examples.leaves
computed = (refl, refl, refl, refl, refl)

-- THE PREMISES CAN BE MET

-- every number is below 256
all_bytes : List ℕ → Bool
all_bytes [] = true
all_bytes (v ∷ l) = cond (ltb v 256) (all_bytes l) false

-- what the premises ask, as a value
record Asked : Type 0 where
  bytes : Bool
  accepted : Bool
  exact : Bool
  few : Bool
  peering : Bool
  reserved : ℕ
  info_start : ℕ
  hop_start : ℕ

asked : List ℕ → Asked
asked b =
    record {
      bytes = all_bytes b;
      accepted = is_ok (dataplane.standard 1 b);
      exact = eqb (length b) (meta.path_length (dataplane.meta_header_of b));
      few = leb (round.hop_count b) 64;
      peering = rules.peering_allowed b (dataplane.meta_header_of b);
      reserved = (dataplane.meta_header_of b).reserved;
      info_start = (dataplane.meta_header_of b).current_info_field;
      hop_start = (dataplane.meta_header_of b).current_hop_field;
    }

given : Asked
given =
    record { bytes = true; accepted = true; exact = true; few = true; peering = true; reserved = 0; info_start = 0; hop_start = 0 }

every_byte : (l : List ℕ) → all_bytes l ≡ true → (i : ℕ) → get_or l i 0 < 256
unfolding all_bytes
every_byte [] e i = omega arith
every_byte (v ∷ l) e zero = go (ltb v 256) refl e
  where
    go : (t : Bool) → ltb v 256 ≡ t → cond t (all_bytes l) false ≡ true → v < 256
    go true p e = ltb-true v 256 p
    go false p e = let z : ◌≡◌ {A = ℕ} 0 1 = cc in absurd (omega arith)
every_byte (v ∷ l) e (suc i) = every_byte l (go (ltb v 256) e) i
  where
    go : (t : Bool) → cond t (all_bytes l) false ≡ true → all_bytes l ≡ true
    go true e = e
    go false e = let z : ◌≡◌ {A = ℕ} 0 1 = cc in absurd (omega arith)

begun : (b : List ℕ) → asked b ≡ given → round.Begun b
unfolding asked given dataplane.meta_header_of
begun b e =
    record {
      bytes = every_byte b (ap (λ (a : Asked). a.bytes) e);
      read = was_ok (dataplane.standard 1 b) (meta.meta_of 0) (ap (λ (a : Asked). a.accepted) e);
      exact = eqb-true (length b) (meta.path_length (dataplane.meta_header_of b)) (ap (λ (a : Asked). a.exact) e);
      few = leb-true (round.hop_count b) 64 (ap (λ (a : Asked). a.few) e);
      peering = ap (λ (a : Asked). a.peering) e;
      unreserved = ap (λ (a : Asked). a.reserved) e;
      info_start = ap (λ (a : Asked). a.info_start) e;
      hop_start = ap (λ (a : Asked). a.hop_start) e;
    }

all_given : (asked examples.single ≡ given)
    × (asked examples.double ≡ given)
    × (asked examples.triple ≡ given)
    × (asked examples.peered ≡ given)
    × (asked examples.shortest ≡ given)
    × (asked examples.longest ≡ given)
unfolding big_endian room fields.info_field_at
    meta.nth_field meta.meta_of meta.info_fields_count meta.hop_fields_count meta.segment_of meta.path_length meta.lengths_valid
    meta.hop_valid meta.info_valid meta.checked meta.read_meta
    standard.read_path standard.read_record dataplane.read_dataplane dataplane.standard dataplane.meta_header_of
    rules.some_peering standard.both_peering standard.peering_path rules.peering_allowed
    examples.info examples.hop examples.hops
    examples.single examples.double examples.triple examples.peered examples.shortest examples.longest asked given all_bytes
all_given = (refl, refl, refl, refl, refl, refl)

pub premises_met : examples.PremisesMet
premises_met =
    let all = all_given in (
      begun examples.single all.0,
      begun examples.double all.1,
      begun examples.triple all.2,
      begun examples.peered all.3,
      begun examples.shortest all.4,
      begun examples.longest all.5,
    )
