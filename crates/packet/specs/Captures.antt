-- The reader of packets and the reader of captures, side by side.
use Rattle.std.specs.Prelude.{ℕ, ◌*◌, ◌≤◌, ◌<◌, ◌≡◌, true, false, List, [], length, get_or, ltb, Result, Ok, Err}
use Rattle.errors.specs.declared.packet_error.DecodeError.{DecodeError}
use Rattle.errors.specs.declared.packet_error.DecodeError.TheVariants.{PacketEmptyOrTruncated}
use Rattle.path.specs.Dataplane.{part_in}
use Rattle.packet_common_header.specs.CommonHeader.{read_common}
use Rattle.packet_common_header.specs.declared.CommonHeader.{CommonHeader}
use Rattle.packet.specs.Raw.{Packet, read_packet, read_capture, raw_packet, packet_answer, short_capture}

abbrev pub Reader : Type 0
Reader = List ℕ → Result Packet DecodeError

-- what is said of a reader, said of both
abbrev pub OfBoth : (Reader → Type 0) → Type 0
OfBoth Said = Said read_packet × Said read_capture

-- WHAT A READER ACCEPTS

-- the parts that are handed back hold the path and the payload
abbrev pub PartsOfThePacket : Reader → Type 0
PartsOfThePacket read =
    (bytes : List ℕ) (p : Packet) → read bytes ≡ Ok p
    → (packet_answer (read bytes) ≡ Ok (raw_packet p))
    × (part_in bytes (raw_packet p).path_part ≡ p.path_bytes)
    × (part_in bytes (raw_packet p).payload_part ≡ p.payload)

-- a packet that is accepted is a capture that is read alike, and not short
abbrev pub PacketsAreCaptures : Type 0
PacketsAreCaptures =
    (bytes : List ℕ) (p : Packet) → read_packet bytes ≡ Ok p → (read_capture bytes ≡ Ok p) × (short_capture bytes ≡ false)

-- a capture that is accepted and not short is a packet that is read alike
abbrev pub CapturesArePackets : Type 0
CapturesArePackets =
    (bytes : List ℕ) (p : Packet) → read_capture bytes ≡ Ok p → short_capture bytes ≡ false → read_packet bytes ≡ Ok p

-- SHORT

-- no, where a capture is refused
abbrev pub ShortOfARefusal : Type 0
ShortOfARefusal = (bytes : List ℕ) (error : DecodeError) → read_capture bytes ≡ Err error → short_capture bytes ≡ false

-- where it is accepted: fewer bytes than 4 × HdrLen, which is byte 5
abbrev pub ShortByItsBytes : Type 0
ShortByItsBytes =
    (bytes : List ℕ) (p : Packet) → read_capture bytes ≡ Ok p → short_capture bytes ≡ ltb (length bytes) (4 * get_or bytes 5 0)

-- a short capture that is accepted has no payload, and says so
abbrev pub ShortHasNoPayload : Type 0
ShortHasNoPayload =
    (bytes : List ℕ) (p : Packet) → read_capture bytes ≡ Ok p → short_capture bytes ≡ true
    → (p.common.payload_length ≡ 0) × (p.payload ≡ [])

-- WHERE THE READERS PART

-- not where there are 4 × HdrLen bytes or more: they answer alike, refusals too
abbrev pub LongEnoughAlike : Type 0
LongEnoughAlike = (bytes : List ℕ) → 4 * get_or bytes 5 0 ≤ length bytes → read_packet bytes ≡ read_capture bytes

-- nor where the common header is refused
abbrev pub CommonHeaderFirst : Type 0
CommonHeaderFirst =
    (error : DecodeError) → OfBoth (λ read. (bytes : List ℕ) → read_common bytes ≡ Err error → read bytes ≡ Err error)

-- everywhere else the reader of packets answers 1
abbrev pub FewerBytesRefused : Type 0
FewerBytesRefused =
    (bytes : List ℕ) (c : CommonHeader) → read_common bytes ≡ Ok c → length bytes < 4 * get_or bytes 5 0
    → read_packet bytes ≡ Err PacketEmptyOrTruncated
