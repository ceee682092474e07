-- `interface` meets its contract: the hop field of an interface is there.
use mathlib.Core.Path.{◌≡◌, sym, ◌∙◌}
use Rattle.std.specs.Prelude.{Ok}
use Rattle.path.proofs.Reading.{answer_ok, standard_readable}
use Rattle.path_interfaces.specs.Interfaces.{hop_field_on}
use Rattle.path_interfaces.proofs.Interfaces.{interface_there}
use Rattle.path_interfaces.proofs.interface.Goals as goal

pub interface_at-interface-requires : goal.interface_at-interface-requires
interface_at-interface-requires c =
    let header = c.in_ok-read.read.meta_header in
    let read = answer_ok _ _ (sym c.standard.ensures ∙ c.in_ok-read.was) in
    let found : hop_field_on c.args.bytes.now header c.args.index ≡ Ok c.in_ok-hop_field.hop_field =
    sym c.hop_field_on.ensures ∙ sym c.ok_or.ensures.value ∙ c.in_ok-hop_field.was in
    interface_there _ _ (standard_readable _ _ read.0) c.args.index found
