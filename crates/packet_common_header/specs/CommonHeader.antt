-- The draft's Common Header: Version (4 bits), TrafficClass (8), FlowID (20), NextHdr, HdrLen, PayloadLen (2 bytes), PathType,
-- DT and DL, ST and SL (the host kinds), RSV (2 bytes); what reading one finds, and what writing one does.
use Rattle.std.specs.Prelude.{ℕ, ◌+◌, ◌*◌, ◌-◌, ◌/◌, ◌%◌, ◌^◌, Bool, ◌&&◌, not, List, [], ◌∷◌, ◌++◌, length, get_or, ltb, leb, eqb, Result, Ok}
use Rattle.wire_encoding.specs.Result.{require, ◌>>◌}
use Rattle.wire_encoding.specs.BigEndian.{big_endian, bytes_of}
use Rattle.errors.specs.declared.packet_error.DecodeError.{DecodeError}
use Rattle.errors.specs.declared.packet_error.DecodeError.TheVariants as decode
use Rattle.errors.specs.declared.packet_error.EncodeError.{EncodeError}
use Rattle.errors.specs.declared.packet_error.EncodeError.TheVariants as encode
use Rattle.packet_common_header.specs.declared.CommonHeader.{CommonHeader}

-- the fields of the twelve bytes; a host kind is DT and DL, or ST and SL, as one number of 4 bits
unfoldable pub common_at : List ℕ → CommonHeader
common_at bytes =
    record {
      version = big_endian 4 bytes 0 / 2 ^ 28 % 16;
      traffic_class = big_endian 4 bytes 0 / 2 ^ 20 % 256;
      flow_id = big_endian 4 bytes 0 % 2 ^ 20;
      next_header = get_or bytes 4 0;
      header_length_factor = get_or bytes 5 0;
      payload_length = big_endian 2 bytes 6;
      path_type = get_or bytes 8 0;
      destination_kind = get_or bytes 9 0 / 16;
      source_kind = get_or bytes 9 0 % 16;
      reserved = big_endian 2 bytes 10;
    }

-- the length of all headers; the factor is HdrLen
unfoldable pub header_length : CommonHeader → ℕ
header_length c = 4 * c.header_length_factor

-- the length of those after the common header
unfoldable pub remaining_header_length : CommonHeader → ℕ
remaining_header_length c = header_length c - 12

-- the length of a host of a kind; kind mod 4 is DL, or SL
unfoldable pub host_length : ℕ → ℕ
host_length kind = 4 * (kind % 4 + 1)

-- READING

-- Version, the first byte's high half
abbrev pub version_of : List ℕ → ℕ
version_of bytes = get_or bytes 0 0 / 16

-- HdrLen
abbrev pub factor_of : List ℕ → ℕ
factor_of bytes = get_or bytes 5 0

-- 01's order: empty, version not 0, under 12 bytes, factor under 9
unfoldable pub read_common : List ℕ → Result CommonHeader DecodeError
read_common bytes = do
  require (not (eqb (length bytes) 0)) decode.PacketEmptyOrTruncated
  require (eqb (version_of bytes) 0) (decode.UnsupportedVersion (version_of bytes))
  require (leb 12 (length bytes)) decode.PacketEmptyOrTruncated
  require (leb 9 (factor_of bytes)) (decode.InvalidHeaderLength (factor_of bytes))
  Ok (common_at bytes)

-- every field zero
unfoldable pub zero_common : CommonHeader
zero_common = common_at []

-- WRITING

-- the twelve bytes of the fields
unfoldable pub common_bytes : CommonHeader → List ℕ
common_bytes c =
    bytes_of 4 ((c.version * 256 + c.traffic_class) * 2 ^ 20 + c.flow_id)
    ++ ((c.next_header ∷ c.header_length_factor ∷ [])
    ++ (bytes_of 2 c.payload_length
    ++ ((c.path_type ∷ (c.destination_kind * 16 + c.source_kind) ∷ []) ++ bytes_of 2 c.reserved)))

-- version and host kinds are of 4 bits, the flow of 20
unfoldable pub fields_fit : ℕ → ℕ → ℕ → ℕ → Bool
fields_fit version flow destination source = ltb version 16 && ltb flow (2 ^ 20) && ltb destination 16 && ltb source 16

-- no number of the header is wider than its field
unfoldable pub common_fits : CommonHeader → Bool
common_fits c = fields_fit c.version c.flow_id c.destination_kind c.source_kind

-- what a destination of this size then holds; 01's order: a number too wide, factor 0, another size
unfoldable pub write_common : CommonHeader → ℕ → Result (List ℕ) EncodeError
write_common c size = do
  require (common_fits c) encode.NumberTooWide
  require (not (eqb c.header_length_factor 0)) encode.InvalidHeaderLength
  require (eqb size 12) encode.InadequateBufferSize
  Ok (common_bytes c)
