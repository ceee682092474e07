-- The claim about every list of events holds for every path begun with: each event keeps what the claim needs of every packet.
-- Assumes nothing.
use Rattle.round_trip.specs.RoundTrip.{RoundTrip}
use Rattle.round_trip.proofs.Journey.{journey}

pub round_trip : RoundTrip
round_trip b g events = journey b g events
