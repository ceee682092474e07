-- All headers of a packet as bytes: the draft's Common Header, Address Header and path, one after the other; and what writing them does.
use Rattle.std.specs.Prelude.{ℕ, ◌+◌, ◌-◌, ◌/◌, ◌^◌, min, cond, not, List, [], ◌++◌, length, leb, eqb, Result, Ok}
use Rattle.wire_encoding.specs.Result.{require, ◌>>◌}
use Rattle.packet_common_header.specs.CommonHeader.{common_fits, common_bytes}
use Rattle.packet_address_header.specs.AddressHeader.{kind_of, without_padding, address_length, address_bytes}
use Rattle.packet_common_header.specs.declared.CommonHeader.{CommonHeader}
use Rattle.packet_address_header.specs.declared.AddressHeader.{AddressHeader}
use Rattle.errors.specs.declared.packet_error.EncodeError.{EncodeError}
use Rattle.errors.specs.declared.packet_error.EncodeError.TheVariants.{NumberTooWide, InvalidHeaderLength, HeaderTooLarge, PayloadTooLarge}
use Rattle.errors.specs.declared.packet_error.EncodeError.TheVariants.{InadequateBufferSize}
use Rattle.packet_headers.specs.declared.ScionHeaders.{ScionHeaders}

-- a path to be written is a type byte and bytes: type 0 adds no bytes, any other adds its bytes as given, unread
unfoldable pub added_bytes : ℕ → List ℕ → List ℕ
added_bytes type path = cond (eqb type 0) [] path

-- how many bytes a path of n bytes adds
unfoldable pub added_length : ℕ → ℕ → ℕ
added_length type n = cond (eqb type 0) 0 n

-- the length of all headers with a path of n bytes: it need not be a multiple of 4
unfoldable pub headers_length : AddressHeader → ℕ → ℕ → ℕ
headers_length address type n = 12 + address_length address + added_length type n

-- the headers of a new packet: the factor, HdrLen, is the header length / 4, rounded down; both paddings are zero, whatever the hosts have
unfoldable pub new_headers : AddressHeader → ℕ → ℕ → ℕ → ℕ → ℕ → ScionHeaders
new_headers address type n next_header payload flow =
    record {
      version = 0;
      traffic_class = 0;
      flow_id = flow;
      next_header = next_header;
      header_length_factor = headers_length address type n / 4;
      payload_length = payload;
      path_type = type;
      reserved = 0;
      address = without_padding address;
    }

-- their length as a 64-bit number: the largest stands for all that are larger
unfoldable pub encoded_length : ScionHeaders → ℕ → ℕ
encoded_length h n = min (headers_length h.address h.path_type n) (2 ^ 64 - 1)

-- the common header: the host kinds are the hosts'
unfoldable pub common_of : ScionHeaders → CommonHeader
common_of h =
    record {
      version = h.version;
      traffic_class = h.traffic_class;
      flow_id = h.flow_id;
      next_header = h.next_header;
      header_length_factor = h.header_length_factor;
      payload_length = h.payload_length;
      path_type = h.path_type;
      destination_kind = kind_of h.address.destination.host;
      source_kind = kind_of h.address.source.host;
      reserved = h.reserved;
    }

-- the bytes of all headers
unfoldable pub header_bytes : ScionHeaders → List ℕ → List ℕ
header_bytes h path = common_bytes (common_of h) ++ (address_bytes h.address ++ added_bytes h.path_type path)

-- what a destination of this size then holds; 01's order: a number too wide, factor 0, factor above 255, payload above 65,535, another
-- size
unfoldable pub write_headers : ScionHeaders → List ℕ → ℕ → Result (List ℕ) EncodeError
write_headers h path size = do
  require (common_fits (common_of h)) NumberTooWide
  require (not (eqb h.header_length_factor 0)) InvalidHeaderLength
  require (leb h.header_length_factor 255) HeaderTooLarge
  require (leb h.payload_length 65535) PayloadTooLarge
  require (eqb size (headers_length h.address h.path_type (length path))) InadequateBufferSize
  Ok (header_bytes h path)
