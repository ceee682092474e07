-- `with_flag` meets its contract: the law of the mask, at bit 15.
use Rattle.wire_encoding.proofs.Bits.{set_bit}
use Rattle.address.proofs.service.with_flag.Goals as goal

pub returns : goal.returns
returns c = set_bit 15 c.args.number
