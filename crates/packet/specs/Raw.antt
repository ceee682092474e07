-- A packet: the draft's Common Header, Address Header, path and payload, one after the other.
use Rattle.std.specs.Prelude.{ℕ, ◌+◌, Bool, false, not, cond, List, length, take, drop, ltb, leb, eqb, Result, Ok}
use Rattle.wire_encoding.specs.Result.{require, ◌>>◌, ◌>>=◌, mapped, or_else}
use Rattle.errors.specs.declared.packet_error.DecodeError.{DecodeError}
use Rattle.errors.specs.declared.packet_error.DecodeError.TheVariants.{PacketEmptyOrTruncated, InconsistentPathLength}
use Rattle.path.specs.declared.standard.StandardPath.{StandardPath}
use Rattle.path.specs.Dataplane.{read_dataplane}
use Rattle.path.specs.declared.standard.Part.{Part}
use Rattle.packet_common_header.specs.CommonHeader.{read_common, header_length}
use Rattle.packet_address_header.specs.AddressHeader.{address_length, read_address}
use Rattle.packet_common_header.specs.declared.CommonHeader.{CommonHeader}
use Rattle.packet_address_header.specs.declared.AddressHeader.{AddressHeader}
use Rattle.packet.specs.declared.raw.ScionPacketRaw.{ScionPacketRaw}
use Rattle.packet.specs.declared.raw.CaptureRead.{CaptureRead}

-- its headers, the record of its path, zeros unless the path's type is 1, and the bytes of path and payload
pub record Packet : Type 0 where
  pub common : CommonHeader
  pub address : AddressHeader
  pub path : StandardPath
  pub path_bytes : List ℕ
  pub payload : List ℕ

-- THE TWO READERS

-- 01's order, after the common header's tests. The headers are the first 4 × factor bytes, or all there are; the path is what the other
-- headers leave of them
unfoldable pub read_rest : CommonHeader → List ℕ → Result Packet DecodeError
read_rest c bytes = do
  let headers = take (header_length c) bytes
  let rest = drop (header_length c) bytes
  a ← read_address (drop 12 headers) c.destination_kind c.source_kind
  let path = drop (12 + address_length a) headers
  read ← read_dataplane c.path_type path
  require (eqb read.length (length path)) InconsistentPathLength
  require (leb c.payload_length (length rest)) PacketEmptyOrTruncated
  Ok (record { common = c; address = a; path = read.path; path_bytes = path; payload = take c.payload_length rest })

-- short: fewer than 4 × factor bytes
unfoldable pub is_short : CommonHeader → List ℕ → Bool
is_short c bytes = ltb (length bytes) (header_length c)

-- a packet. 2026-06: one that is short is refused with 1, directly after the factor test, the last of the common header's
unfoldable pub read_packet : List ℕ → Result Packet DecodeError
read_packet bytes = do
  c ← read_common bytes
  require (not (is_short c bytes)) PacketEmptyOrTruncated
  read_rest c bytes

-- a capture: without that test
unfoldable pub read_capture : List ℕ → Result Packet DecodeError
read_capture bytes = do
  common ← read_common bytes
  read_rest common bytes

-- the reader of captures, or that of packets
abbrev pub reader_of : Bool → List ℕ → Result Packet DecodeError
reader_of capture bytes = cond capture (read_capture bytes) (read_packet bytes)

-- WHAT IS HANDED BACK

-- where the path lies: after the other headers
unfoldable pub path_part : Packet → Part
path_part p = record { start = 12 + address_length p.address; len = length p.path_bytes }

-- where the payload lies: after the path
unfoldable pub payload_part : Packet → Part
payload_part p = record { start = 12 + address_length p.address + length p.path_bytes; len = length p.payload }

-- its headers, the record of its path, and both parts
unfoldable pub raw_packet : Packet → ScionPacketRaw
raw_packet p =
    record { common = p.common; address = p.address; path = p.path; path_part = path_part p; payload_part = payload_part p }

abbrev pub packet_answer : Result Packet DecodeError → Result ScionPacketRaw DecodeError
packet_answer r = mapped raw_packet r

-- of a capture also whether it is short
abbrev pub capture_read : List ℕ → Packet → CaptureRead
capture_read bytes p = record { packet = raw_packet p; short = is_short p.common bytes }

unfoldable pub capture_answer : List ℕ → Result CaptureRead DecodeError
capture_answer bytes = mapped (capture_read bytes) (read_capture bytes)

-- whether a capture is short; no where it is refused
abbrev pub short_capture : List ℕ → Bool
short_capture bytes = or_else (mapped (λ (read : CaptureRead). read.short) (capture_answer bytes)) false
