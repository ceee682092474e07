-- Demand 3, as document 01 spells it out under "Move": two ends, their packets, the events, what a list of events leaves, and the
-- claim about it. Quoted are 01's words; a turn is a path reversed. A move, a walk and a turn are the definitions that the contracts of
-- these calls cite.
use Rattle.std.specs.Prelude.{ℕ, zero, suc, ◌+◌, ◌-◌, ◌≤◌, ◌<◌, ◌≡◌, Bool, true, false, cond, List, [], ◌∷◌, ◌++◌, length, get_or, set, replicate, Ok}
use Rattle.std.proofs.Math.Option.{Option, none, some}
use Rattle.std.proofs.Math.ListN.{get_elem?}
use Rattle.wire_encoding.specs.Result.{mapped, or_else}
use Rattle.wire_encoding.specs.BigEndian.{part}
use Rattle.path_fields.specs.Fields.{Interface, ingress_interface, egress_interface}
use Rattle.path_meta_header.specs.MetaHeader.{hop_fields_count, path_length, hop_start}
use Rattle.path.specs.Standard.{hop_at}
use Rattle.path.specs.Dataplane.{standard, meta_header_of}
use Rattle.path_reverse.specs.Copy.{front, contents_after}
use Rattle.path_reverse.specs.Reverse as reverse
use Rattle.path_moves.specs.Moves as moves
use Rattle.path_moves.specs.Rules as rules

-- THE ENDS AND THE PACKETS

-- the first sender, and the other end
pub data End : Type 0 where
  first : End
  other : End

-- "A packet here is a path's bytes, the end it goes to and its count of moves."
pub record Packet : Type 0 where
  pub bytes : List ℕ
  pub to : End
  pub count : ℕ

-- what the ends hold, the packets on the way, and the packets whose arrival was taken
pub record State : Type 0 where
  pub first_holds : Option (List ℕ)
  pub other_holds : Option (List ℕ)
  pub packets : List Packet
  pub taken : List Packet

-- "At first one end, the first sender, holds B, the other end holds nothing, and no packet is on the way."
unfoldable pub begin : List ℕ → State
begin b = record { first_holds = some b; other_holds = none; packets = []; taken = [] }

-- by an end: the first where it is the first sender
unfoldable pub by_end : {A : Type 0} → End → A → A → A
by_end first a b = a
by_end other a b = b

-- THE EVENTS: packets are named by their place among those on the way, so any may be next; an arrival names the lent destination

pub data Event : Type 0 where
  sending : End → Event
  single_move : ℕ → Event
  walk : ℕ → ℕ → Event
  loss : ℕ → Event
  doubling : ℕ → Event
  arrival : ℕ → List ℕ → Event

unfoldable pub on_the_way : State → List Packet → State
on_the_way s packets = record { first_holds = s.first_holds; other_holds = s.other_holds; packets = packets; taken = s.taken }

-- "a packet that isn't there … change nothing"
unfoldable pub on_packet : State → Option Packet → (Packet → State) → State
on_packet s none event = s
on_packet s (some packet) event = event packet

-- "Sending by an end: a copy of what it holds goes on the way to the other end, count 0."; "An end with nothing to send … change nothing"
unfoldable pub sent : State → End → Option (List ℕ) → State
sent s to none = s
sent s to (some path) = on_the_way s (s.packets ++ (record { bytes = path; to = to; count = 0 } ∷ []))

-- "Single move … of a packet: the call on its bytes; the count gains 1"; "a refused call (15 …) change nothing"
unfoldable pub packet_moved : Packet → Packet
packet_moved q =
    or_else (mapped (λ (bytes : List ℕ). record { bytes = bytes; to = q.to; count = q.count + 1 }) (moves.move 1 q.bytes)) q

-- "or walk with any limit, of a packet: the call on its bytes; the count gains … what the walk reports"
unfoldable pub packet_walked : ℕ → Packet → Packet
packet_walked limit q =
    or_else
    (mapped (λ (way : moves.Way). record { bytes = way.bytes; to = q.to; count = q.count + way.moves }) (moves.walk 1 q.bytes limit)) q

-- "Loss: the packet is gone."
unfoldable pub without : ℕ → List Packet → List Packet
without i [] = []
without zero (q ∷ packets) = packets
without (suc i) (q ∷ packets) = q ∷ without i packets

-- N, and the hop pointer
abbrev pub hop_count : List ℕ → ℕ
hop_count bytes = hop_fields_count (meta_header_of bytes)

abbrev pub pointer : List ℕ → ℕ
pointer bytes = (meta_header_of bytes).current_hop_field

-- "a packet arrives when the pointer is N − 1"
unfoldable pub at_last : List ℕ → Bool
at_last bytes = moves.is_last (meta_header_of bytes) (pointer bytes)

-- "the end holds the path so written in place of what it held, and the packet is gone"
unfoldable pub holding : State → ℕ → Packet → List ℕ → State
holding s i q path =
    record {
      first_holds = by_end q.to (some path) s.first_holds;
      other_holds = by_end q.to s.other_holds (some path);
      packets = without i s.packets;
      taken = q ∷ s.taken;
    }

-- "Arrival: a packet whose hop pointer is N − 1 is turned into a destination that its end lends"; "an arrival elsewhere than at N − 1
-- … change nothing". Request 2026-08: "an end then holds the front alone", as many bytes of what the turn leaves as its answer says
unfoldable pub arrived : State → ℕ → List ℕ → Packet → State
arrived s i destination q =
    cond (at_last q.bytes)
    (or_else (mapped (holding s i q) (mapped front (reverse.reverse 1 q.bytes destination))) s)
    s

unfoldable pub step : State → Event → State
step s (sending first) = sent s other s.first_holds
step s (sending other) = sent s first s.other_holds
step s (single_move i) = on_packet s (get_elem? s.packets i) (λ q. on_the_way s (set s.packets i (packet_moved q)))
step s (walk i limit) = on_packet s (get_elem? s.packets i) (λ q. on_the_way s (set s.packets i (packet_walked limit q)))
step s (loss i) = on_the_way s (without i s.packets)
step s (doubling i) = on_packet s (get_elem? s.packets i) (λ q. on_the_way s (s.packets ++ (q ∷ [])))
step s (arrival i destination) = on_packet s (get_elem? s.packets i) (arrived s i destination)

-- "Each event gets what the last one left"
unfoldable pub after : State → List Event → State
after s [] = s
after s (event ∷ events) = after (step s event) events

-- WHAT A HOP FIELD MEETS

pub record Meeting : Type 0 where
  pub field : List ℕ
  pub accumulator : ℕ
  pub entry : Interface
  pub exit : Interface

-- hop field j with an accumulator: its 12 bytes; "A hop field's entry interface is its construction ingress where its segment's
-- direction is set, else its construction egress; its exit interface is the other."
unfoldable pub meeting : List ℕ → ℕ → ℕ → Meeting
meeting bytes j accumulator =
    let field = hop_at bytes (meta_header_of bytes) j in
    record {
      field = part (hop_start (meta_header_of bytes) j) 12 bytes;
      accumulator = accumulator;
      entry = ingress_interface (moves.info_of bytes j) field;
      exit = egress_interface (moves.info_of bytes j) field;
    }

-- "A hop field meets its segment's accumulator as it is while the hop pointer stands there"
unfoldable pub met : List ℕ → Meeting
met bytes = meeting bytes (pointer bytes) (moves.info_of bytes (pointer bytes)).accumulator

-- hop field i by B alone
unfoldable pub by_path : List ℕ → ℕ → Meeting
by_path b i = meeting b i (moves.accumulator_by b i)

unfoldable pub exchanged : Meeting → Meeting
exchanged x = record { field = x.field; accumulator = x.accumulator; entry = x.exit; exit = x.entry }

-- THE PREMISES: "accepted standard paths with at most 64 hop fields, peering bits on none or on both of exactly two segments, reserved
-- bits zero and pointers at the start"; "B is the path begun with, exactly its 4 + 8·I + 12·N bytes"

pub record Begun (b : List ℕ) : Type 0 where
  pub bytes : (i : ℕ) → get_or b i 0 < 256
  pub read : standard 1 b ≡ Ok (meta_header_of b)
  pub exact : length b ≡ path_length (meta_header_of b)
  pub few : hop_count b ≤ 64
  pub peering : rules.peering_allowed b (meta_header_of b) ≡ true
  pub unreserved : (meta_header_of b).reserved ≡ 0
  pub info_start : (meta_header_of b).current_info_field ≡ 0
  pub hop_start : (meta_header_of b).current_hop_field ≡ 0

-- THE CLAIM

-- "One from the first sender stands on B's hop field p, one from the other end on B's hop field N − 1 − p, its 12 bytes as in B. The
-- accumulator met there is that hop field's by B; entry and exit interfaces are as in B outward, and exchanged on the way back."
unfoldable pub meets : List ℕ → End → ℕ → Meeting
meets b to p = by_end to (exchanged (by_path b (hop_count b - 1 - p))) (by_path b p)

pub record Stands (b : List ℕ) (q : Packet) : Type 0 where
  -- its bytes are a path that is read, with B's number of hop fields
  pub read : standard 1 q.bytes ≡ Ok (meta_header_of q.bytes)
  pub long : hop_count q.bytes ≡ hop_count b
  -- "a packet's count is its hop pointer p"
  pub counted : q.count ≡ pointer q.bytes
  pub standing : met q.bytes ≡ meets b q.to (pointer q.bytes)

-- every element of a list
unfoldable pub All : {A : Type 0} → (A → Type 0) → List A → Type 0
All P [] = Unit {0}
All P (a ∷ l) = P a × All P l

-- "B walked to N − 1 and turned": the calls one after the other, the turn into a destination of B's length
unfoldable pub reversed_into : List ℕ → List ℕ → List ℕ
reversed_into bytes destination = contents_after (reverse.reverse 1 bytes destination) destination

unfoldable pub reply : List ℕ → List ℕ
reply b = reversed_into (moves.walked 1 b (hop_count b - 1)) (replicate (length b) 0)

-- whether the other end has taken an arrival
unfoldable pub reached : List Packet → Bool
reached [] = false
reached (q ∷ taken) = by_end q.to (reached taken) true

pub record Claim (b : List ℕ) (s : State) : Type 0 where
  -- "After every list"
  pub standing : All (Stands b) s.packets
  -- "and after each move inside a walk (what the walk leaves with that many moves as its limit)"
  pub walking : (limit : ℕ) → All (λ q. Stands b (packet_walked limit q)) s.packets
  -- "Each arrival taken had count N − 1."
  pub counts : All (λ q. q.count + 1 ≡ hop_count b) s.taken
  -- "The first sender holds B"
  pub first_end : s.first_holds ≡ some b
  -- "the other end holds nothing until it takes an arrival, and from then on B walked to N − 1 and turned"
  pub other_end : s.other_holds ≡ cond (reached s.taken) (some (reply b)) none

-- "All this is a single claim about the list, and not one for each call."
abbrev pub RoundTrip : Type 0
RoundTrip = (b : List ℕ) → Begun b → (events : List Event) → Claim b (after (begin b) events)
