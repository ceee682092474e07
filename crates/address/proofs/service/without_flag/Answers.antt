-- `without_flag` meets its contract: the law of the mask, at bit 15.
use native.Mathlib.Omega.{arith}
use Rattle.wire_encoding.proofs.Bits.{clear_bit}
use Rattle.address.proofs.service.without_flag.Goals as goal

pub returns : goal.returns
returns c = clear_bit 15 c.args.number 0 (omega arith)
