-- The worked examples hold, by computing each.
-- Assumes nothing.
use mathlib.Core.Path.{refl}
use mathlib.Core.List.{flat_map}
use Rattle.wire_encoding.specs.BigEndian.{big_endian, room}
use Rattle.path_fields.specs.Fields as fields
use Rattle.path_meta_header.specs.MetaHeader as meta
use Rattle.path.specs.Standard as standard
use Rattle.path.specs.Dataplane as dataplane
use Rattle.path_interfaces.specs.Interfaces as interfaces
use Rattle.path_interfaces.specs.Examples.{Computed, hops, path, two_by_two, one_by_one, one_by_two, single, triple, hop_field_for, at}

pub computed : Computed
unfolding hops path two_by_two one_by_one one_by_two single triple hop_field_for at flat_map big_endian room
    fields.info_field_at fields.hop_field_at fields.interface_of fields.ingress_interface fields.egress_interface
    meta.nth_field meta.meta_of meta.info_fields_count meta.hop_fields_count meta.segment_of meta.path_length
    meta.lengths_valid meta.info_valid meta.hop_valid meta.checked meta.read_meta meta.interfaces_count meta.segment_of_link meta.link_end
    standard.read_path standard.read_record standard.both_peering standard.peering_path dataplane.read_dataplane dataplane.standard
    interfaces.count_on interfaces.interfaces_in interfaces.hop_field_on interfaces.interface_at interfaces.interface_in
computed = (refl, refl, (refl, refl, refl), (refl, refl))
