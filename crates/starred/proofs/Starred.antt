-- The starred inputs: one table, one theorem, by computing every row.
-- Assumes nothing.
use mathlib.Core.Path.{refl}
use Rattle.wire_encoding.specs.BigEndian.{big_endian, bytes_of, number_at, room}
use Rattle.path_meta_header.specs.MetaHeader as meta
use Rattle.path_fields.specs.Fields as fields
use Rattle.path_least_expiry.specs.Expiry as least
use Rattle.path.specs.Standard as standard
use Rattle.path.specs.Dataplane as dataplane
use Rattle.path_expiry.specs.Expiry as expiry
use Rattle.path_interfaces.specs.Interfaces as interfaces
use Rattle.path_moves.specs.Moves as moves
use Rattle.path_moves.specs.Rules as rules
use Rattle.packet_common_header.specs.CommonHeader as common
use Rattle.packet.specs.Raw as raw
use Rattle.starred.specs.Table.{reading, splitting, expiring, interface_of_two_by_two, moving, answers, wanted, Starred}

pub starred : Starred
unfolding answers wanted reading splitting expiring interface_of_two_by_two moving big_endian bytes_of number_at room
    meta.nth_field meta.meta_of meta.info_fields_count meta.hop_fields_count meta.segment_of meta.first_hop_field meta.path_length
    meta.interfaces_count meta.segment_of_link meta.link_end meta.lengths_valid meta.hop_valid meta.info_valid meta.checked meta.read_meta
    fields.info_field_at fields.hop_field_at fields.expiry_offset fields.expiry_time
    standard.read_path standard.read_record dataplane.read_dataplane dataplane.standard
    least.least least.hop_expiry least.segment_expiry least.path_expiry expiry.expiry_in
    interfaces.count_on interfaces.hop_field_on interfaces.interface_at interfaces.interface_in
    rules.owner_of rules.spared rules.some_peering standard.both_peering standard.peering_path rules.peering_allowed rules.movable
    moves.takes_in moves.move_bytes moves.is_last moves.move moves.moved
    common.read_common raw.read_packet
starred = refl
