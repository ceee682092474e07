-- The draft's Address Header: DstISD and DstAS, SrcISD and SrcAS (a network number of 64 bits each), DstHostAddr, SrcHostAddr; what
-- reading one finds, and what writing one does.
use Rattle.std.specs.Prelude.{ℕ, ◌+◌, cond, ◌&&◌, List, [], ◌++◌, length, take, replicate, ltb, leb, eqb, Option, Some, None, Result, Ok}
use Rattle.std.proofs.lemmas.List.Edits.{sets}
use Rattle.wire_encoding.specs.Result.{require, ◌>>◌, mapped}
use Rattle.wire_encoding.specs.BigEndian.{big_endian, bytes_of, part}
use Rattle.address.specs.Host.{host_kind}
use Rattle.address.specs.ScionAddress.{address_of}
use Rattle.address.specs.declared.ia.IsdAsn.{IsdAsn}
use Rattle.address.specs.declared.host.HostAddr.TheVariants.{V4, V6, Svc}
use Rattle.address.specs.declared.scion_address.ScionAddr.{ScionAddr}
use Rattle.errors.specs.declared.packet_error.DecodeError.{DecodeError}
use Rattle.errors.specs.declared.packet_error.DecodeError.TheVariants.{PacketEmptyOrTruncated}
use Rattle.errors.specs.declared.packet_error.EncodeError.{EncodeError}
use Rattle.errors.specs.declared.packet_error.EncodeError.TheVariants.{NumberTooWide, InadequateBufferSize}
use Rattle.packet_common_header.specs.CommonHeader.{host_length}
use Rattle.packet_address_header.specs.declared.MaybeEncoded.{MaybeEncoded}
use Rattle.packet_address_header.specs.declared.MaybeEncoded.TheVariants.{Decoded, Encoded}
use Rattle.packet_address_header.specs.declared.HostAddress.{HostAddress}
use Rattle.packet_address_header.specs.declared.AddressHeader.{AddressHeader}
use Rattle.packet_address_header.specs.declared.AddressHeaderRead.{AddressHeaderRead}
use Rattle.packet_address_header.specs.declared.WireHost.{WireHost}
use Rattle.packet_address_header.specs.declared.WireAddress.{WireAddress}

-- HOSTS

-- the host kind on the wire
unfoldable pub kind_of : MaybeEncoded → ℕ
kind_of (Decoded host) = host_kind host
kind_of (Encoded kind) = kind

-- a kind that is no service: 0 is IPv4, 3 IPv6, any other opaque
unfoldable pub host_of_kind : ℕ → MaybeEncoded
host_of_kind kind = cond (eqb kind 0) (Decoded V4) (cond (eqb kind 3) (Decoded V6) (Encoded kind))

-- sixteen bytes that begin with the n bytes at `at`; the others are zero
unfoldable pub padded : List ℕ → ℕ → ℕ → List ℕ
padded bytes at n = sets (replicate 16 0) 0 (part at n bytes)

-- a service by its number and its padding: it has no bytes beside them
abbrev pub service_host : ℕ → ℕ → HostAddress
service_host number padding = record { host = Decoded (Svc (record { 0 = number })); bytes = replicate 16 0; padding = padding }

-- the host of a kind at `at`; 4 is a service, 2 bytes, then 2 padding bytes, which no other host has
unfoldable pub host_at : ℕ → List ℕ → ℕ → HostAddress
host_at kind bytes at =
    cond (eqb kind 4) (service_host (big_endian 2 bytes at) (big_endian 2 bytes (at + 2)))
    (record { host = host_of_kind kind; bytes = padded bytes at (host_length kind); padding = 0 })

-- a host that has a name, with its network
unfoldable pub endhost_in : MaybeEncoded → List ℕ → IsdAsn → Option ScionAddr
endhost_in (Decoded host) bytes ia = Some (address_of ia host bytes)
endhost_in (Encoded kind) bytes ia = None

abbrev pub endhost_of : HostAddress → IsdAsn → Option ScionAddr
endhost_of a ia = endhost_in a.host a.bytes ia

-- the host of an address; its padding is zero
abbrev pub host_of : ScionAddr → HostAddress
host_of address = record { host = Decoded address.host; bytes = address.bytes; padding = 0 }

-- THE HEADER

-- the header of two ends whose hosts have names; both paddings are zero
unfoldable pub address_header_of : ScionAddr → ScionAddr → AddressHeader
address_header_of destination source =
    record {
      destination_ia = destination.isd_asn;
      source_ia = source.isd_asn;
      destination = host_of destination;
      source = host_of source;
    }

-- the same host with this padding
unfoldable pub with_padding : HostAddress → ℕ → HostAddress
with_padding a padding = record { host = a.host; bytes = a.bytes; padding = padding }

-- the same header with both paddings zero
unfoldable pub without_padding : AddressHeader → AddressHeader
without_padding a =
    record {
      destination_ia = a.destination_ia;
      source_ia = a.source_ia;
      destination = with_padding a.destination 0;
      source = with_padding a.source 0;
    }

-- its length: two network numbers and two hosts
unfoldable pub length_of_kinds : ℕ → ℕ → ℕ
length_of_kinds destination source = 16 + host_length destination + host_length source

unfoldable pub address_length : AddressHeader → ℕ
address_length a = length_of_kinds (kind_of a.destination.host) (kind_of a.source.host)

-- READING

-- the header whose hosts are of these kinds
unfoldable pub address_at : List ℕ → ℕ → ℕ → AddressHeader
address_at bytes destination source =
    record {
      destination_ia = record { 0 = big_endian 8 bytes 0 };
      source_ia = record { 0 = big_endian 8 bytes 8 };
      destination = host_at destination bytes 16;
      source = host_at source bytes (16 + host_length destination);
    }

-- 01's order: under 16 bytes, destination host too short, source host too short
unfoldable pub read_address : List ℕ → ℕ → ℕ → Result AddressHeader DecodeError
read_address bytes destination source = do
  require (leb 16 (length bytes)) PacketEmptyOrTruncated
  require (leb (16 + host_length destination) (length bytes)) PacketEmptyOrTruncated
  require (leb (16 + host_length destination + host_length source) (length bytes)) PacketEmptyOrTruncated
  Ok (address_at bytes destination source)

-- every field zero
unfoldable pub zero_address : AddressHeader
zero_address = address_at [] 0 0

-- as it is handed back, beside its length
abbrev pub address_answer : Result AddressHeader DecodeError → Result AddressHeaderRead DecodeError
address_answer r = mapped (λ a. record { header = a; length = address_length a }) r

-- WRITING

-- a host's own bytes: IPv4 has 4, IPv6 16; a service is its number, 2 bytes, then its 2 padding bytes. Of any other host the padding
-- is not looked at
unfoldable pub host_bytes_of : MaybeEncoded → List ℕ → ℕ → List ℕ
host_bytes_of (Decoded V4) bytes padding = take 4 bytes
host_bytes_of (Decoded V6) bytes padding = take 16 bytes
host_bytes_of (Decoded (Svc service)) bytes padding = bytes_of 2 service.0 ++ bytes_of 2 padding
host_bytes_of (Encoded kind) bytes padding = take (host_length kind) bytes

unfoldable pub host_bytes : HostAddress → List ℕ
host_bytes a = host_bytes_of a.host a.bytes a.padding

-- the header's bytes, in the draft's order
unfoldable pub address_bytes : AddressHeader → List ℕ
address_bytes a =
    bytes_of 8 a.destination_ia.0 ++ (bytes_of 8 a.source_ia.0 ++ (host_bytes a.destination ++ host_bytes a.source))

-- what a destination of this size then holds; 01's order: a host kind of more than 4 bits, another size
unfoldable pub write_address : AddressHeader → ℕ → Result (List ℕ) EncodeError
write_address a size = do
  require (ltb (kind_of a.destination.host) 16 && ltb (kind_of a.source.host) 16) NumberTooWide
  require (eqb size (address_length a)) InadequateBufferSize
  Ok (address_bytes a)

-- THE HEADER AS IT IS ON THE WIRE, BY NUMBERS ALONE

-- a service's number and its padding, then zeros
unfoldable pub service_bytes : ℕ → ℕ → List ℕ
service_bytes number padding = sets (replicate 16 0) 0 (bytes_of 2 number ++ bytes_of 2 padding)

-- sixteen bytes that begin with the host's own
unfoldable pub raw_of : MaybeEncoded → List ℕ → ℕ → List ℕ
raw_of (Decoded V4) bytes padding = bytes
raw_of (Decoded V6) bytes padding = bytes
raw_of (Decoded (Svc service)) bytes padding = service_bytes service.0 padding
raw_of (Encoded kind) bytes padding = bytes

unfoldable pub host_on_wire : HostAddress → WireHost
host_on_wire a = record { kind = kind_of a.host; bytes = raw_of a.host a.bytes a.padding }

unfoldable pub on_wire : AddressHeader → WireAddress
on_wire a =
    record {
      destination_ia = a.destination_ia.0;
      source_ia = a.source_ia.0;
      destination = host_on_wire a.destination;
      source = host_on_wire a.source;
    }

-- its length and its bytes
unfoldable pub wire_length : WireAddress → ℕ
wire_length w = length_of_kinds w.destination.kind w.source.kind

unfoldable pub wire_host_bytes : WireHost → List ℕ
wire_host_bytes w = take (host_length w.kind) w.bytes

unfoldable pub wire_bytes : WireAddress → List ℕ
wire_bytes w =
    bytes_of 8 w.destination_ia ++ (bytes_of 8 w.source_ia ++ (wire_host_bytes w.destination ++ wire_host_bytes w.source))
