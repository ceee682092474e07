-- The induction over a list of events: whatever happens, each packet is as its end and its count say, so each stands where it should,
-- and what an end takes in is the reply or B.
-- Assumes nothing.
use Prim.Native.Nat.{ℕ, zero, suc, ◌+◌, ◌<◌}
use mathlib.Core.Path.{◌≡◌, refl, sym, ap, ◌∙◌, subst}
use mathlib.Core.Bool.{Bool, true, false, cond}
use mathlib.Core.List.{List, [], ◌∷◌, ◌++◌}
use mathlib.Core.Option.{Option, none, some, IsSome, some-injective}
use native.Mathlib.Omega.{arith}
use lib.Dec.{leb}
use lib.ListN.{length, set, get_elem?}
use borrow.Author.Tests.{eqb-true, leb-true, leb-false}
use Rattle.wire_encoding.proofs.Lists.{by_lt}
use Rattle.path_meta_header.specs.MetaHeader.{hop_fields_count, path_length}
use Rattle.path_meta_header.specs.declared.PathMetaHeader.{PathMetaHeader}
use Rattle.path_moves.specs.Moves as moves
use Rattle.wire_encoding.specs.Result.{mapped, or_else}
use Rattle.path.specs.Dataplane.{meta_header_of}
use Rattle.path_reverse.specs.Copy.{front}
use Rattle.path_reverse.specs.Reverse.{reversed_path, reverse}
use Rattle.round_trip.specs.RoundTrip.{End, first, other, Packet, State, begin, by_end, Event, sending, single_move, walk, loss}
use Rattle.round_trip.specs.RoundTrip.{doubling, arrival, on_the_way, on_packet, sent, packet_moved, packet_walked, without, hop_count, pointer}
use Rattle.round_trip.specs.RoundTrip.{at_last, holding, arrived, step, after, met, meets, Begun, Stands, All, reply, reached, Claim}
use Rattle.round_trip.proofs.Mirror.{Path}
use Rattle.round_trip.proofs.Meetings.{path_header}
use Rattle.round_trip.proofs.Calls.{read_accepted, move_accepted, move_refused, walk_accepted, walked_moves, reverse_accepted, reverse_refused}
use Rattle.round_trip.proofs.Packets.{track, track_meta, some_hop, track_path, track_pointer, track_hops, track_met, track_moved, walk_inside}
use Rattle.round_trip.proofs.Packets.{track_walked, track_length, reversed_out, reversed_back, reply_track}

-- EVERY ELEMENT OF A LIST

module _ {A : Type 0} (P : A → Type 0) where
  all_append : (l m : List A) → All P l → All P m → All P (l ++ m)
  unfolding All
  all_append [] m h k = k
  all_append (a ∷ l) m h k = (h.0, all_append l m h.1 k)

  all_set : (l : List A) (i : ℕ) (a : A) → All P l → P a → All P (set l i a)
  unfolding All
  all_set [] i a h p = tt
  all_set (b ∷ l) zero a h p = (p, h.1)
  all_set (b ∷ l) (suc i) a h p = (h.0, all_set l i a h.1 p)

  all_get : (l : List A) (i : ℕ) (a : A) → All P l → get_elem? l i ≡ some a → P a
  unfolding All
  all_get [] i a h e = absurd (subst IsSome (sym e) tt)
  all_get (b ∷ l) zero a h e = subst P (some-injective b a e) h.0
  all_get (b ∷ l) (suc i) a h e = all_get l i a h.1 e

  all_one : (a : A) → P a → All P (a ∷ [])
  unfolding All
  all_one a p = (p, tt)

all_map : {A : Type 0} (P Q : A → Type 0) → ((a : A) → P a → Q a) → (l : List A) → All P l → All Q l
unfolding All
all_map P Q f [] h = tt
all_map P Q f (a ∷ l) h = (f a h.0, all_map P Q f l h.1)

all_without : (P : Packet → Type 0) (l : List Packet) (i : ℕ) → All P l → All P (without i l)
unfolding without All
all_without P [] i h = tt
all_without P (q ∷ l) zero h = h.1
all_without P (q ∷ l) (suc i) h = (h.0, all_without P l i h.1)

-- A PACKET

record Tracked (b : List ℕ) (to : End) (bytes : List ℕ) (count : ℕ) : Type 0 where
  below : count < hop_count b
  is : bytes ≡ track b to count

abbrev Each : List ℕ → Packet → Type 0
Each b q = Tracked b q.to q.bytes q.count

module _ (b : List ℕ) (g : Begun b) where
  abbrev N : ℕ
  N = hop_count b

  module _ (q : Packet) (t : Each b q) where
    abbrev m : PathMetaHeader
    m = track_meta b q.to q.count

    path : Path q.bytes m
    path = subst (λ (x : List ℕ). Path x m) (sym t.is) (track_path b g q.to q.count t.below)

    header : meta_header_of q.bytes ≡ m
    header = path_header q.bytes m path

    hop : m.current_hop_field ≡ q.count
    hop = track_pointer b g q.to q.count t.below

    hops : hop_fields_count m ≡ N
    hops = track_hops b g q.to q.count t.below

    at-hop : pointer q.bytes ≡ q.count
    at-hop = ap (λ (h : PathMetaHeader). h.current_hop_field) header ∙ hop

    stands : Stands b q
    stands =
        record {
          read = read_accepted q.bytes m path;
          long = ap hop_fields_count header ∙ hops;
          counted = sym at-hop;
          standing =
              ap met t.is ∙ track_met b g q.to q.count t.below ∙ ap (meets b q.to) (sym at-hop);
        }

    moved_tracked : Each b (packet_moved q)
    unfolding packet_moved
    moved_tracked =
        by_lt (q.count + 1) N
        (λ l. rw (move_accepted q.bytes m path (omega (arith, hop, hops)))
        (record { below = l; is = ap (moves.moved 1) t.is ∙ track_moved b g q.to q.count l }))
        (λ l. rw (move_refused q.bytes m path (omega (arith, hop, hops, t.below))) t)

    walked_tracked : (limit : ℕ) → Each b (packet_walked limit q)
    unfolding packet_walked
    walked_tracked limit =
        let made = walk_accepted q.bytes m path limit in
        rw made.is (record {
          below = omega (arith, made.count, walk_inside b g q.to q.count t.below limit);
          is =
              made.left
              ∙ sym (walked_moves q.bytes m path limit)
              ∙ ap (λ (x : List ℕ). moves.walked 1 x limit) t.is
              ∙ track_walked b g q.to q.count t.below limit
              ∙ ap (λ (c : ℕ). track b q.to (q.count + c)) (sym made.count);
        })

    -- where it arrives
    last-count : at_last q.bytes ≡ true → q.count + 1 ≡ N
    unfolding at_last moves.is_last
    last-count e =
        omega (arith, eqb-true (pointer q.bytes + 1) (hop_count q.bytes) e, at-hop, ap hop_fields_count header ∙ hops)

  -- THE STATE

  record Holds (s : State) : Type 0 where
    packets : All (Each b) s.packets
    counts : All (λ q. q.count + 1 ≡ hop_count b) s.taken
    first_end : s.first_holds ≡ some b
    other_end : s.other_holds ≡ cond (reached s.taken) (some (reply b)) none

  at_first : Holds (begin b)
  unfolding begin All reached
  at_first = record { packets = tt; counts = tt; first_end = refl; other_end = refl }

  -- other packets, and nothing else changed
  on_the_way_lem : (s : State) → Holds s → (l : List Packet) → All (Each b) l → Holds (on_the_way s l)
  unfolding on_the_way
  on_the_way_lem s v l h = record { packets = h; counts = v.counts; first_end = v.first_end; other_end = v.other_end }

  -- one packet replaced
  replaced : (s : State) → Holds s → (i : ℕ) (q : Packet) → Each b q → Holds (on_the_way s (set s.packets i q))
  replaced s v i q t = on_the_way_lem s v (set s.packets i q) (all_set (Each b) s.packets i q v.packets t)

  sends : (s : State) → Holds s → (to : End) (x : List ℕ) → Tracked b to x 0 → Holds (sent s to (some x))
  unfolding sent
  sends s v to x t =
      let q : Packet = record { bytes = x; to = to; count = 0 } in
      on_the_way_lem s v (s.packets ++ (q ∷ [])) (all_append (Each b) s.packets (q ∷ []) v.packets (all_one (Each b) q t))

  first_sends : (s : State) → Holds s → Holds (sent s other s.first_holds)
  unfolding track
  first_sends s v =
      subst (λ (o : Option (List ℕ)). Holds (sent s other o)) (sym v.first_end)
      (sends s v other b (record { below = some_hop b g; is = refl }))

  other_sends : (s : State) → Holds s → Holds (sent s first s.other_holds)
  unfolding sent
  other_sends s v = subst (λ (o : Option (List ℕ)). Holds (sent s first o)) (sym v.other_end) (go (reached s.taken))
    where
      go : (r : Bool) → Holds (sent s first (cond r (some (reply b)) none))
      go true = sends s v first (reply b) (record { below = some_hop b g; is = reply_track b g })
      go false = v

  -- an event on a packet that is there
  on_packet_lem : (s : State) (i : ℕ) (event : Packet → State) → Holds s → ((q : Packet) → Each b q → Holds (event q))
      → Holds (on_packet s (get_elem? s.packets i) event)
  unfolding on_packet
  on_packet_lem s i event v h = go (get_elem? s.packets i) refl
    where
      go : (o : Option Packet) → get_elem? s.packets i ≡ o → Holds (on_packet s o event)
      go none e = v
      go (some q) e = h q (all_get (Each b) s.packets i q v.packets e)

  -- the end takes the packet in
  takes_in_lem : (s : State) → Holds s → (i : ℕ) (to : End) (x : List ℕ) (c : ℕ) → Tracked b to x c → c + 1 ≡ hop_count b
      → Holds (holding s i (record { bytes = x; to = to; count = c }) (reversed_path (track_meta b to c) x))
  unfolding holding by_end All reached
  takes_in_lem s v i other x c t last =
      record {
        packets = all_without (Each b) s.packets i v.packets;
        counts = (last, v.counts);
        first_end = v.first_end;
        other_end =
            ap {B = Option (List ℕ)} some
            (ap (reversed_path (track_meta b other c)) t.is ∙ reversed_out b g c last ∙ sym (reply_track b g));
      }
  takes_in_lem s v i first x c t last =
      record {
        packets = all_without (Each b) s.packets i v.packets;
        counts = (last, v.counts);
        first_end = ap {B = Option (List ℕ)} some (ap (reversed_path (track_meta b first c)) t.is ∙ reversed_back b g c last);
        other_end = v.other_end;
      }

  arrives : (s : State) → Holds s → (i : ℕ) (dst : List ℕ) (q : Packet) → Each b q → Holds (arrived s i dst q)
  unfolding arrived
  arrives s v i dst q t = go (at_last q.bytes) refl (leb (length b) (length dst)) refl
    where
      long : length b ≡ path_length (m q t)
      long = track_length b g q.to q.count t.below

      go : (a : Bool) → at_last q.bytes ≡ a → (r : Bool) → leb (length b) (length dst) ≡ r
          → Holds (cond a (or_else (mapped (holding s i q) (mapped front (reverse 1 q.bytes dst))) s) s)
      go false e r f = v
      go true e true f =
          rw (reverse_accepted q.bytes (m q t) (path q t) dst (omega (arith, leb-true (length b) (length dst) f, long)))
          (takes_in_lem s v i q.to q.bytes q.count t (last-count q t e))
      go true e false f =
          rw (reverse_refused q.bytes (m q t) (path q t) dst (omega (arith, leb-false (length b) (length dst) f, long))) v

  -- THE EVENTS

  on_step : (s : State) → Holds s → (e : Event) → Holds (step s e)
  unfolding step
  on_step s v (sending first) = first_sends s v
  on_step s v (sending other) = other_sends s v
  on_step s v (single_move i) =
      on_packet_lem s i (λ q. on_the_way s (set s.packets i (packet_moved q))) v (λ q t. replaced s v i (packet_moved q) (moved_tracked q t))
  on_step s v (walk i limit) =
      on_packet_lem s i (λ q. on_the_way s (set s.packets i (packet_walked limit q))) v
      (λ q t. replaced s v i (packet_walked limit q) (walked_tracked q t limit))
  on_step s v (loss i) = on_the_way_lem s v (without i s.packets) (all_without (Each b) s.packets i v.packets)
  on_step s v (doubling i) =
      on_packet_lem s i (λ q. on_the_way s (s.packets ++ (q ∷ []))) v
      (λ q t. on_the_way_lem s v (s.packets ++ (q ∷ [])) (all_append (Each b) s.packets (q ∷ []) v.packets (all_one (Each b) q t)))
  on_step s v (arrival i dst) = on_packet_lem s i (arrived s i dst) v (arrives s v i dst)

  on_events : (s : State) → Holds s → (events : List Event) → Holds (after s events)
  unfolding after
  on_events s v [] = v
  on_events s v (e ∷ events) = on_events (step s e) (on_step s v e) events

  pub journey : (events : List Event) → Claim b (after (begin b) events)
  journey events =
      let s : State = after (begin b) events in
      let v : Holds s = on_events (begin b) at_first events in
      record {
        standing = all_map (Each b) (Stands b) stands s.packets v.packets;
        walking =
            λ limit. all_map (Each b) (λ q. Stands b (packet_walked limit q))
            (λ q t. stands (packet_walked limit q) (walked_tracked q t limit)) s.packets v.packets;
        counts = v.counts;
        first_end = v.first_end;
        other_end = v.other_end;
      }
