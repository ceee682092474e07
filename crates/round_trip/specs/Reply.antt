-- Beside the claim of demand 3: what the path and its reply meet hop field by hop field, what the reply is, and that the trip happens.
use Rattle.std.specs.Prelude.{ℕ, zero, suc, ◌+◌, ◌-◌, ◌≤◌, ◌<◌, ◌≡◌, List, [], ◌∷◌, ◌++◌, length, Ok}
use Rattle.std.proofs.Math.Option.{some}
use Rattle.wire_encoding.specs.Result.{mapped}
use Rattle.wire_encoding.specs.BigEndian.{part}
use Rattle.path_meta_header.specs.MetaHeader.{hop_start, path_length}
use Rattle.path_meta_header.specs.declared.PathMetaHeader.{PathMetaHeader}
use Rattle.path.specs.Dataplane.{standard, meta_header_of}
use Rattle.path_reverse.specs.Copy.{front}
use Rattle.path_reverse.specs.Reverse.{reverse}
use Rattle.path_moves.specs.Moves.{walked}
use Rattle.round_trip.specs.Mirror.{mirror}
use Rattle.round_trip.specs.RoundTrip.{End, first, other, Packet, begin, Event, sending, walk, arrival, hop_count, after, Meeting, met, by_path}
use Rattle.round_trip.specs.RoundTrip.{exchanged, Begun, reply, State, arrived}

-- WHAT IS MET

-- B after p moves stands on its hop field p, and the accumulator met there is the one by B alone
abbrev pub MetWalked : Type 0
MetWalked = (b : List ℕ) → Begun b → (p : ℕ) → p < hop_count b → met (walked 1 b p) ≡ by_path b p

-- the reply after p moves stands on B's hop field N − 1 − p, interfaces exchanged
abbrev pub ReplyMetWalked : Type 0
ReplyMetWalked =
    (b : List ℕ) → Begun b → (p : ℕ) → p < hop_count b → met (walked 1 (reply b) p) ≡ exchanged (by_path b (hop_count b - 1 - p))

-- what is met on the way of n hop fields, in order of travel; and the same in opposite order
unfoldable pub along : (ℕ → Meeting) → ℕ → List Meeting
along at zero = []
along at (suc n) = along at n ++ (at n ∷ [])

unfoldable pub against : (ℕ → Meeting) → ℕ → List Meeting
against at zero = []
against at (suc n) = at n ∷ against at n

-- the reply meets the same hop fields in opposite order, interfaces exchanged
abbrev pub OppositeOrder : Type 0
OppositeOrder =
    (b : List ℕ) → Begun b
    → along (λ p. met (walked 1 (reply b) p)) (hop_count b) ≡ against (λ p. exchanged (met (walked 1 b p))) (hop_count b)

-- WHAT THE REPLY IS

-- hop field j of the reply is hop field N − 1 − j of what was sent
abbrev pub ReplyHopField : Type 0
ReplyHopField =
    (b : List ℕ) → Begun b → (j : ℕ) → j < hop_count b
    → part (hop_start (meta_header_of (reply b)) j) 12 (reply b) ≡ part (hop_start (meta_header_of b) (hop_count b - 1 - j)) 12 b

-- the reply after p moves is the mirror image of the path after N − 1 − p
abbrev pub ReplyMirror : Type 0
ReplyMirror =
    (b : List ℕ) → Begun b → (p : ℕ) → p < hop_count b
    → walked 1 (reply b) p ≡ mirror (meta_header_of (walked 1 b (hop_count b - 1 - p))) (walked 1 b (hop_count b - 1 - p))

-- the reply walked to its last hop field and reversed, into any destination that has room for it, is the path
abbrev pub ReplyReversed : Type 0
ReplyReversed =
    (b : List ℕ) → Begun b → (dst : List ℕ) → length b ≤ length dst
    → mapped front (reverse 1 (walked 1 (reply b) (hop_count b - 1)) dst) ≡ Ok b

-- THE TRIP

-- out and back, into destinations that the ends lend, of any length that has room
abbrev pub trip : List ℕ → List ℕ → List ℕ → List Event
trip b there back =
    sending first ∷ walk 0 (hop_count b - 1) ∷ arrival 0 there ∷ sending other ∷ walk 0 (hop_count b - 1) ∷ arrival 0 back ∷ []

-- a path walked to its last hop field, on the way to an end
abbrev pub at_end : List ℕ → End → List ℕ → Packet
at_end b to x = record { bytes = walked 1 x (hop_count b - 1); to = to; count = hop_count b - 1 }

-- each call of the trip is accepted: both ends hold what they should, and both packets were taken
abbrev pub TripHappens : Type 0
TripHappens =
    (b : List ℕ) → Begun b → (there back : List ℕ) → length b ≤ length there → length b ≤ length back
    → after (begin b) (trip b there back)
    ≡ record { first_holds = some b; other_holds = some (reply b); packets = []; taken = at_end b first (reply b) ∷ at_end b other b ∷ [] }

-- each was taken with as many moves as there are hop fields, less one
abbrev pub TripCounts : Type 0
TripCounts = (b : List ℕ) → Begun b → (to : End) (x : List ℕ) → (at_end b to x).count + 1 ≡ hop_count b

-- THE DESTINATION

-- an arrival does not hang on the lent destination, as long as it has room for the path; a shorter one changes nothing
abbrev pub AnyDestination : Type 0
AnyDestination =
    (s : State) (i : ℕ) (q : Packet) (m : PathMetaHeader) → standard 1 q.bytes ≡ Ok m
    → ((d e : List ℕ) → path_length m ≤ length d → path_length m ≤ length e → arrived s i d q ≡ arrived s i e q)
    × ((d : List ℕ) → length d < path_length m → arrived s i d q ≡ s)
