-- The worked examples hold, by computing each.
-- Assumes nothing.
use mathlib.Core.Path.{refl}
use Rattle.wire_encoding.specs.BigEndian.{big_endian, bytes_of, room}
use Rattle.path_fields.specs.Fields as fields
use Rattle.path_meta_header.specs.MetaHeader as meta
use Rattle.path_least_expiry.specs.Expiry as expiry
use Rattle.path.specs.Standard as standard
use Rattle.path.specs.Dataplane as dataplane
use Rattle.path_moves.specs.Moves as moves
use Rattle.path_moves.specs.Rules as rules
use Rattle.path_moves.specs.Examples.{Computed, along, against, peered, peered_other_way, unpeered, met, reported, steps}

pub computed : Computed
unfolding along against peered peered_other_way unpeered met reported steps big_endian bytes_of room fields.info_field_at
    fields.hop_field_at fields.expiry_offset fields.expiry_time expiry.least expiry.hop_expiry expiry.segment_expiry expiry.path_expiry
    meta.nth_field meta.meta_of meta.info_fields_count meta.hop_fields_count meta.segment_of meta.first_hop_field meta.path_length
    meta.lengths_valid meta.info_valid meta.hop_valid meta.checked meta.read_meta
    standard.read_path standard.read_record dataplane.read_dataplane dataplane.path_of dataplane.standard dataplane.meta_header_of
    rules.owner_of rules.spared rules.some_peering standard.both_peering standard.peering_path rules.peering_allowed rules.movable
    moves.takes_in moves.move_bytes moves.is_last moves.move moves.moved moves.walk_moves moves.walk moves.walked moves.walk_answer moves.info_of
computed = ((refl, refl), (refl, refl, refl), refl)
