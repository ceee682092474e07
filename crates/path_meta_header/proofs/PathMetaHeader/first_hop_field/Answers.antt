-- `first_hop_field` meets its contract: beyond the third segment the lengths before it are all of them.
use mathlib.Core.Path.{sym, ◌∙◌}
use native.Mathlib.Omega.{arith}
use borrow.Author.Rules.{rules}
use Rattle.path_meta_header.proofs.MetaHeader.{first_hop_field_beyond}
use Rattle.path_meta_header.proofs.PathMetaHeader.first_hop_field.Goals as goal

pub returns : goal.returns
returns c =
    let a = c.args in
    (c.hop_fields_count.ensures.0 ∙ sym (first_hop_field_beyond a.self (search rules) a.k (omega arith)), omega arith)
