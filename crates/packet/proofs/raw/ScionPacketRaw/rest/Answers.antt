-- `ScionPacketRaw::rest` meets its contract: where the address header is refused, so is the packet.
use native.Mathlib.Omega.{arith}
use Rattle.packet.proofs.RawLaws.{address_stops}
use Rattle.packet.proofs.raw.ScionPacketRaw.rest.Goals as goal

pub returns-in_err-address_read : goal.returns-in_err-address_read
returns-in_err-address_read c = grind (arith, address_stops)
