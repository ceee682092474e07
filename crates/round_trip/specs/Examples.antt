-- Worked examples: paths that meet the premises; accumulators by a path alone, a reply's first bytes, what a list of events leaves and
-- what is met on the way back.
use Rattle.std.specs.Prelude.{ℕ, zero, suc, ◌+◌, ◌*◌, ◌≡◌, Some, List, [], ◌∷◌, ◌++◌, map, take, replicate}
use Rattle.std.proofs.Math.Option.{Option, none, some}
use Rattle.path_moves.specs.Moves.{accumulator_by}
use Rattle.round_trip.specs.RoundTrip.{first, other, Packet, State, begin, Event, sending, single_move, walk, doubling, arrival, after, Begun}
use Rattle.round_trip.specs.RoundTrip.{meets, reply}
use Rattle.round_trip.specs.Reply.{trip, at_end}

-- THE PATHS

-- an info field: flags, reserved, accumulator, time
unfoldable pub info : ℕ → ℕ → ℕ → ℕ → List ℕ
info flags reserved high low = flags ∷ reserved ∷ high ∷ low ∷ 0x00 ∷ 0x00 ∷ 0x00 ∷ 0x01 ∷ []

-- hop field n: interfaces 2n + 1 and 2n + 2, and a code of its own
unfoldable pub hop : ℕ → List ℕ
hop n =
    0x00 ∷ 0x00 ∷ 0x00 ∷ (2 * n + 1) ∷ 0x00 ∷ (2 * n + 2) ∷ (0xA0 + n) ∷ (0x0B + n) ∷ (0x10 + n) ∷ (0x20 + n) ∷ (0x30 + n) ∷ (0x40 + n) ∷ []

unfoldable pub hops : ℕ → ℕ → List ℕ
hops from zero = []
hops from (suc n) = hop from ++ hops (suc from) n

-- one segment of three hop fields
unfoldable pub single : List ℕ
single = (0x00 ∷ 0x00 ∷ 0x30 ∷ 0x00 ∷ []) ++ info 0x01 0x00 0x11 0x11 ++ hops 0 3

-- two, of two and three, with unused flags and reserved bytes set
unfoldable pub double : List ℕ
double = (0x00 ∷ 0x00 ∷ 0x20 ∷ 0xC0 ∷ []) ++ info 0xA4 0x5A 0x11 0x11 ++ info 0xA5 0x5A 0x22 0x22 ++ hops 0 5

-- three, of two each
unfoldable pub triple : List ℕ
triple =
    (0x00 ∷ 0x00 ∷ 0x20 ∷ 0x82 ∷ [])
    ++ info 0x00 0x00 0x11 0x11
    ++ info 0x00 0x00 0x22 0x22
    ++ info 0x01 0x00 0x33 0x33
    ++ hops 0 6

-- two of three each, peering on both
unfoldable pub peered : List ℕ
peered = (0x00 ∷ 0x00 ∷ 0x30 ∷ 0xC0 ∷ []) ++ info 0x02 0x00 0x11 0x11 ++ info 0x03 0x00 0x22 0x22 ++ hops 0 6

-- one hop field, and sixty-four
unfoldable pub shortest : List ℕ
shortest = (0x00 ∷ 0x00 ∷ 0x10 ∷ 0x00 ∷ []) ++ info 0x00 0x00 0x11 0x11 ++ hops 0 1

unfoldable pub longest : List ℕ
longest = (0x00 ∷ 0x03 ∷ 0xF0 ∷ 0x40 ∷ []) ++ info 0x00 0x00 0x11 0x11 ++ info 0x01 0x00 0x22 0x22 ++ hops 0 64

-- THE PREMISES CAN BE MET

abbrev pub PremisesMet : Type 0
PremisesMet = Begun single × Begun double × Begun triple × Begun peered × Begun shortest × Begun longest

-- COMPUTED

-- the accumulators of the peering path, by it alone: no owner beside the border of its segments is taken in
abbrev pub AccumulatorsByAlone : Type 0
AccumulatorsByAlone =
    map (accumulator_by peered) (0 ∷ 1 ∷ 2 ∷ 3 ∷ 4 ∷ 5 ∷ []) ≡ 0x1111 ∷ 0xB01D ∷ 0xB01D ∷ 0x2222 ∷ 0x2222 ∷ 0x862D ∷ []

-- its reply's header and info fields
abbrev pub ReplyBegins : Type 0
ReplyBegins =
    take 20 (reply peered)
    ≡ (0x00 ∷ 0x00 ∷ 0x30 ∷ 0xC0 ∷ [])
    ++ (0x02 ∷ 0x00 ∷ 0x86 ∷ 0x2D ∷ 0x00 ∷ 0x00 ∷ 0x00 ∷ 0x01 ∷ [])
    ++ (0x03 ∷ 0x00 ∷ 0xB0 ∷ 0x1D ∷ 0x00 ∷ 0x00 ∷ 0x00 ∷ 0x01 ∷ [])

-- a list with an arrival before N − 1, one into 91 bytes, a limit above what is left, and a doubled packet that stays behind
unfoldable pub travels : List Event
travels =
    sending first
    ∷ walk 0 2
    ∷ doubling 0
    ∷ arrival 0 (replicate 92 0)
    ∷ walk 0 9
    ∷ arrival 0 (replicate 91 0)
    ∷ arrival 0 (replicate 92 0)
    ∷ single_move 0
    ∷ sending other
    ∷ walk 1 1
    ∷ []

-- the trip out and back into buffers of 2,304 bytes, which hold other bytes: each end holds the 92 bytes of its path
abbrev pub TripIntoBuffers : Type 0
TripIntoBuffers =
    after (begin peered) (trip peered (replicate 2304 0xEE) (replicate 2304 0xDD))
    ≡ record {
      first_holds = some peered;
      other_holds = some (reply peered);
      packets = [];
      taken = at_end peered first (reply peered) ∷ at_end peered other peered ∷ [];
    }

-- the counts of packets
abbrev pub counts : List Packet → List ℕ
counts packets = map (λ (q : Packet). q.count) packets

-- the first bytes of what an end holds
unfoldable pub begins : Option (List ℕ) → List ℕ
begins none = []
begins (some path) = take 14 path

-- the counts of the packets on the way, of those taken, and the first bytes that the other end holds
unfoldable pub leaves : State → List (List ℕ)
leaves s = counts s.packets ∷ counts s.taken ∷ begins s.other_holds ∷ []

abbrev pub Travelled : Type 0
Travelled =
    leaves (after (begin peered) travels)
    ≡ (3 ∷ 1 ∷ [])
    ∷ (5 ∷ [])
    ∷ (0x00 ∷ 0x00 ∷ 0x30 ∷ 0xC0 ∷ 0x02 ∷ 0x00 ∷ 0x86 ∷ 0x2D ∷ 0x00 ∷ 0x00 ∷ 0x00 ∷ 0x01 ∷ 0x03 ∷ 0x00 ∷ [])
    ∷ []

-- one move back: hop field 4, its accumulator, its interfaces exchanged
abbrev pub MetBack : Type 0
MetBack = meets peered first 1 ≡ record { field = hop 4; accumulator = 0x2222; entry = Some 10; exit = Some 9 }

abbrev pub Computed : Type 0
Computed = AccumulatorsByAlone × ReplyBegins × Travelled × MetBack × TripIntoBuffers
