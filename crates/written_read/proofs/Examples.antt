-- The worked examples compute.
-- Assumes nothing.
use mathlib.Core.Path.{refl}
use Rattle.wire_encoding.specs.BigEndian.{big_endian, bytes_of}
use Rattle.path.specs.Dataplane.{read_dataplane}
use Rattle.packet_common_header.specs.CommonHeader as common
use Rattle.packet_address_header.specs.AddressHeader as address
use Rattle.packet.specs.Raw.{read_rest, is_short, read_packet}
use Rattle.packet_headers.specs.Headers.{added_length, added_bytes, headers_length, new_headers, common_of, header_bytes}
use Rattle.written_read.specs.WrittenRead.{headers_of}
use Rattle.written_read.specs.Examples.{here, there, smallest, to_service, from_service, exchanged}
use Rattle.written_read.specs.Examples.{ServicesRead, ServicesWrittenAgain, ServicesAnswered}

pub services_read : ServicesRead
unfolding big_endian read_dataplane read_rest is_short read_packet here there smallest to_service from_service
    common.common_at common.read_common common.header_length common.host_length
    address.kind_of address.host_of_kind address.padded address.host_at address.length_of_kinds address.address_length address.address_at
    address.read_address
services_read = (refl, refl, refl, refl)

pub services_written_again : ServicesWrittenAgain
unfolding big_endian bytes_of read_dataplane read_rest is_short read_packet here there smallest to_service from_service
    common.common_at common.read_common common.header_length common.host_length common.common_bytes
    address.kind_of address.host_of_kind address.padded address.host_at address.length_of_kinds address.address_length address.address_at
    address.read_address address.host_bytes_of address.host_bytes address.address_bytes
    added_bytes common_of header_bytes headers_of
services_written_again = (refl, refl)

pub services_answered : ServicesAnswered
unfolding big_endian bytes_of read_dataplane read_rest is_short read_packet here there smallest to_service from_service exchanged
    common.common_at common.read_common common.header_length common.host_length common.common_bytes
    address.kind_of address.host_of_kind address.padded address.host_at address.length_of_kinds address.address_length address.address_at
    address.read_address address.with_padding address.without_padding address.host_bytes_of address.host_bytes address.address_bytes
    added_length added_bytes headers_length new_headers common_of header_bytes
services_answered = (refl, refl)
