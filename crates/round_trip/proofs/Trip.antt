-- The trip happens: sent, walked to the last hop field and reversed, out and back, each call is accepted, so both ends hold what they
-- should and each packet was taken with count N − 1. An arrival leaves the front alone, so the destination behind it does not count.
-- Assumes nothing.
use Prim.Native.Nat.{ℕ, ◌+◌, ◌-◌, ◌≤◌, ◌<◌}
use mathlib.Core.Path.{◌≡◌, refl, sym, ap, ◌∙◌, subst}
use mathlib.Core.Bool.{Bool, true, false, cond}
use mathlib.Core.List.{List, [], ◌∷◌}
use mathlib.Core.Option.{none, some}
use native.Mathlib.Omega.{arith}
use lib.ListN.{length}
use borrow.Author.Tests.{eq-eqb}
use Rattle.std.specs.Prelude.{Ok}
use Rattle.wire_encoding.specs.Result.{mapped}
use Rattle.path_meta_header.specs.MetaHeader.{hop_fields_count, path_length}
use Rattle.path_meta_header.specs.declared.PathMetaHeader.{PathMetaHeader}
use Rattle.path_moves.specs.Moves as moves
use Rattle.path.specs.Dataplane.{meta_header_of}
use Rattle.path.proofs.Reading.{Readable, standard_readable}
use Rattle.path_reverse.specs.Copy.{front}
use Rattle.path_reverse.specs.Reverse.{reversed_path, reverse}
use Rattle.path_reverse.proofs.Reverse.{reverse_enough, reverse_fewer, front_reversed}
use Rattle.round_trip.specs.RoundTrip.{End, first, other, Packet, State, begin, by_end, sending, walk, arrival, on_the_way, on_packet}
use Rattle.round_trip.specs.RoundTrip.{sent, packet_walked, without, hop_count, pointer, at_last, holding, arrived, step, after, Begun, reply}
use Rattle.round_trip.specs.Reply.{at_end, TripHappens, TripCounts, AnyDestination}
use Rattle.round_trip.proofs.Mirror.{Path}
use Rattle.round_trip.proofs.Meetings.{path_header}
use Rattle.round_trip.proofs.Calls.{walk_accepted, walked_moves, reverse_accepted}
use Rattle.round_trip.proofs.Packets.{track, track_meta, some_hop, track_path, track_pointer, track_hops, track_from_start, track_length}
use Rattle.round_trip.proofs.Packets.{reversed_out, reversed_back, reply_track}

module _ (b : List ℕ) (g : Begun b) where
  abbrev N : ℕ
  N = hop_count b

  abbrev last : ℕ
  last = hop_count b - 1

  last_below : last < N
  last_below = omega (arith, some_hop b g)

  -- ONE LEG

  module _ (to : End) (x : List ℕ) (e : x ≡ track b to 0) where
    abbrev m : PathMetaHeader
    m = track_meta b to 0

    path : Path x m
    path = subst (λ (y : List ℕ). Path y m) (sym e) (track_path b g to 0 (some_hop b g))

    walked_all : packet_walked last (record { bytes = x; to = to; count = 0 }) ≡ at_end b to x
    unfolding packet_walked moves.walk_moves
    walked_all =
        let made = walk_accepted x m path last in
        let start = track_pointer b g to 0 (some_hop b g) in
        let count : 0 + made.gone.moves ≡ last = omega (arith, made.count, start, track_hops b g to 0 (some_hop b g)) in
        rw (made.is, count, made.left, walked_moves x m path last)

    end_track : moves.walked 1 x last ≡ track b to last
    end_track = ap (λ (y : List ℕ). moves.walked 1 y last) e ∙ track_from_start b g to last last_below

    end_path : Path (moves.walked 1 x last) (track_meta b to last)
    end_path = subst (λ (y : List ℕ). Path y (track_meta b to last)) (sym end_track) (track_path b g to last last_below)

    at_last_lem : at_last (moves.walked 1 x last) ≡ true
    unfolding at_last moves.is_last
    at_last_lem =
        let y : List ℕ = moves.walked 1 x last in
        let header : meta_header_of y ≡ track_meta b to last = path_header y (track_meta b to last) end_path in
        eq-eqb (pointer y + 1) (hop_count y)
        (omega (
          arith,
          ap (λ (h : PathMetaHeader). h.current_hop_field) header,
          ap hop_fields_count header,
          track_pointer b g to last last_below,
          track_hops b g to last last_below,
          some_hop b g,
        ))

    arrives_all : (s : State) (i : ℕ) (dst : List ℕ) → length b ≤ length dst
        → arrived s i dst (at_end b to x) ≡ holding s i (at_end b to x) (reversed_path (track_meta b to last) (track b to last))
    unfolding arrived
    arrives_all s i dst room =
        rw (
          at_last_lem,
          reverse_accepted (moves.walked 1 x last) (track_meta b to last) end_path dst (omega (arith, track_length b g to last last_below)),
          end_track,
        )

  all : last + 1 ≡ N
  all = omega (arith, some_hop b g)

  -- OUT

  -- the state with these packets on the way and these taken, before the other end holds anything and after
  abbrev outward : List Packet → List Packet → State
  outward packets taken = record { first_holds = some b; other_holds = none; packets = packets; taken = taken }

  abbrev answered : List Packet → List Packet → State
  answered packets taken = record { first_holds = some b; other_holds = some (reply b); packets = packets; taken = taken }

  there_holds : (dst : List ℕ) → length b ≤ length dst
      → after (begin b) (sending first ∷ walk 0 last ∷ arrival 0 dst ∷ []) ≡ answered [] (at_end b other b ∷ [])
  unfolding after step begin sent on_the_way on_packet holding by_end without track
  there_holds dst room =
      ap (λ (q : Packet). arrived (outward (q ∷ []) []) 0 dst q) (walked_all other b refl)
      ∙ arrives_all other b refl (outward (at_end b other b ∷ []) []) 0 dst room
      ∙ ap {B = State} (λ (y : List ℕ). record { first_holds = some b; other_holds = some y; packets = []; taken = at_end b other b ∷ [] })
      (reversed_out b g last all ∙ sym (reply_track b g))

  -- AND BACK

  back_holds : (taken : List Packet) (dst : List ℕ) → length b ≤ length dst
      → after (answered [] taken) (sending other ∷ walk 0 last ∷ arrival 0 dst ∷ []) ≡ answered [] (at_end b first (reply b) ∷ taken)
  unfolding after step sent on_the_way on_packet holding by_end without
  back_holds taken dst room =
      ap (λ (q : Packet). arrived (answered (q ∷ []) taken) 0 dst q) (walked_all first (reply b) (reply_track b g))
      ∙ arrives_all first (reply b) (reply_track b g) (answered (at_end b first (reply b) ∷ []) taken) 0 dst room
      ∙ ap {B = State}
      (λ (y : List ℕ). record { first_holds = some y; other_holds = some (reply b); packets = []; taken = at_end b first (reply b) ∷ taken })
      (reversed_back b g last all)

pub trip_happens : TripHappens
unfolding after
trip_happens b g there back room-there room_back =
    ap (λ (s : State). after s (sending other ∷ walk 0 (hop_count b - 1) ∷ arrival 0 back ∷ [])) (there_holds b g there room-there)
    ∙ back_holds b g (at_end b other b ∷ []) back room_back

pub trip-counts : TripCounts
trip-counts b g to x = omega (arith, some_hop b g)

-- THE DESTINATION

pub any_destination : AnyDestination
unfolding arrived
any_destination s i q header read =
    (λ d e room-d room-e. rw (at d room-d, at e room-e), λ d short. rw (reverse_fewer q.bytes d there short) (either (at_last q.bytes)))
  where
    -- there is nothing to choose
    either : (a : Bool) → cond a s s ≡ s
    either true = refl
    either false = refl

    there : Readable q.bytes header
    there = standard_readable q.bytes 1 read

    at : (dst : List ℕ) → path_length header ≤ length dst → mapped front (reverse 1 q.bytes dst) ≡ Ok (reversed_path header q.bytes)
    at dst room = rw (reverse_enough q.bytes dst there room) (ap Ok (front_reversed q.bytes dst there))
