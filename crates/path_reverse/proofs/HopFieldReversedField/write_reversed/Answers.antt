-- `HopField::write_reversed` meets its contract: eight bytes go by way of a number, then the four after them.
use Rattle.path_reverse.proofs.Reverse.{hop_field_copied}
use Rattle.path_reverse.proofs.HopFieldReversedField.write_reversed.Goals as goal

pub returns : goal.returns
returns c =
    hop_field_copied c.args.src.now c.args.dst.now c.type_inv.src c.requires.0 c.requires.1
    c.from_be-first.ensures c.from_be-last.ensures c.write_be.ensures c.write_be-2.ensures
