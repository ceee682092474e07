-- The worked examples compute.
-- Assumes nothing.
use mathlib.Core.Path.{refl}
use Rattle.wire_encoding.specs.BigEndian.{big_endian, number_at, room}
use Rattle.path_meta_header.specs.MetaHeader as meta
use Rattle.path_fields.specs.Fields as fields
use Rattle.path_least_expiry.specs.Expiry as least
use Rattle.path.specs.Standard as standard
use Rattle.path.specs.Dataplane as dataplane
use Rattle.packet_common_header.specs.CommonHeader as common
use Rattle.packet_address_header.specs.AddressHeader as address
use Rattle.packet.specs.Raw.{read_rest, is_short, read_packet, read_capture, raw_packet, path_part, payload_part, capture_answer}
use Rattle.packet.specs.Examples.{headers, two_hop_fields, readings, answers, wanted, Worked}

pub worked : Worked
unfolding headers two_hop_fields readings answers wanted big_endian number_at room
    meta.meta_of meta.nth_field meta.info_fields_count meta.hop_fields_count meta.segment_of meta.first_hop_field meta.path_length
    meta.lengths_valid meta.hop_valid meta.info_valid meta.checked meta.read_meta
    fields.info_field_at fields.hop_field_at fields.expiry_offset fields.expiry_time
    least.least least.hop_expiry least.segment_expiry least.path_expiry
    standard.read_path standard.read_record dataplane.read_dataplane
    common.common_at common.read_common common.header_length common.host_length
    address.kind_of address.host_of_kind address.padded address.host_at address.length_of_kinds address.address_length address.address_at
    address.read_address
    read_rest is_short read_packet read_capture raw_packet path_part payload_part capture_answer
worked = refl
