-- The two readers differ by one test, so what one accepts the other does where that test holds; short is that test.
-- Assumes nothing.
use mathlib.Core.Path.{◌≡◌, refl, sym, ap, ◌∙◌}
use mathlib.Core.Bool.{Bool, true, false, not}
use mathlib.Core.List.{List}
use Prim.Native.Nat.{ℕ, ◌*◌, ◌<◌}
use native.Mathlib.Omega.{arith}
use lib.ListN.{length, get_or, take, drop, length-drop}
use lib.Dec.{ltb}
use borrow.Author.Tests.{lt-ltb, le-ltb, ltb-true}
use Rattle.std.specs.Prelude.{Result, Ok, Err}
use Rattle.wire_encoding.proofs.Result.{same_value, held, stepped}
use Rattle.errors.specs.declared.packet_error.DecodeError.{DecodeError}
use Rattle.errors.specs.declared.packet_error.DecodeError.TheVariants.{PacketEmptyOrTruncated}
use Rattle.packet_common_header.specs.CommonHeader.{common_at, read_common, header_length}
use Rattle.packet_common_header.specs.declared.CommonHeader.{CommonHeader}
use Rattle.packet_common_header.proofs.CommonHeaderLaws.{common_known}
use Rattle.packet.specs.Raw.{Packet, is_short, read_packet, read_capture, path_part, payload_part, raw_packet, capture_answer, short_capture}
use Rattle.packet.specs.Captures.{OfBoth, PartsOfThePacket, PacketsAreCaptures, CapturesArePackets}
use Rattle.packet.specs.Captures.{ShortOfARefusal, ShortByItsBytes, ShortHasNoPayload}
use Rattle.packet.specs.Captures.{LongEnoughAlike, CommonHeaderFirst, FewerBytesRefused}
use Rattle.packet.proofs.RawLaws.{first_refused, then_short, then_rest, split, path_lies, payload_lies}

-- SHORT

pub short_of_a_refusal : ShortOfARefusal
unfolding capture_answer
short_of_a_refusal bytes error h = rw h

-- by the header that was read
short_of : (bytes : List ℕ) {p : Packet} → read_capture bytes ≡ Ok p → short_capture bytes ≡ is_short p.common bytes
unfolding capture_answer
short_of bytes h = rw h

-- by byte 5
length_said : (bytes : List ℕ) {c : CommonHeader} → read_common bytes ≡ Ok c → header_length c ≡ 4 * get_or bytes 5 0
unfolding common_at header_length
length_said bytes h = let fields = (common_known bytes h).fields in rw fields

pub short_by_its_bytes : ShortByItsBytes
unfolding is_short
short_by_its_bytes bytes p h = short_of bytes h ∙ ap (ltb (length bytes)) (length_said bytes (split bytes h).common)

-- after the headers of a short capture there is nothing
pub short_has_no_payload : ShortHasNoPayload
unfolding is_short
short_has_no_payload bytes p h short =
    let s = split bytes h in
    let few : length bytes < header_length p.common = ltb-true _ _ (sym (short_of bytes h) ∙ short) in
    let none : p.common.payload_length ≡ 0 = omega (arith, s.room, length-drop (header_length p.common) bytes) in
    (none, s.payload_is ∙ ap (λ (n : ℕ). take n (drop (header_length p.common) bytes)) none)

-- WHAT A READER ACCEPTS

-- a test that holds of what is not so
is_not : (t : Bool) → not t ≡ true → t ≡ false
is_not true h = let z : ◌≡◌ {A = ℕ} 0 1 = cc in absurd (omega arith)
is_not false h = refl

-- the common header of what was read is the one that was read first
common_is : (bytes : List ℕ) {c : CommonHeader} {p : Packet} → read_common bytes ≡ Ok c → read_capture bytes ≡ Ok p → c ≡ p.common
common_is bytes common h = same_value (sym common ∙ (split bytes h).common)

-- a packet that was read: the steps of a capture, and one test more
record Longer (bytes : List ℕ) (p : Packet) : Type 0 where
  captured : read_capture bytes ≡ Ok p
  long : is_short p.common bytes ≡ false

longer : (bytes : List ℕ) {p : Packet} → read_packet bytes ≡ Ok p → Longer bytes p
unfolding read_packet read_capture
longer bytes {p} h =
    let common = stepped (read_common bytes) _ h in
    let long = held (not (is_short common.value bytes)) _ _ common.then in
    let captured : read_capture bytes ≡ Ok p = rw common.first long.1 in
    record { captured = captured; long = rw (← common_is bytes common.first captured) (is_not _ long.0) }

pub packet_captured : (bytes : List ℕ) {p : Packet} → read_packet bytes ≡ Ok p → read_capture bytes ≡ Ok p
packet_captured bytes h = (longer bytes h).captured

pub packets_are_captures : PacketsAreCaptures
packets_are_captures bytes p h = let l = longer bytes h in (l.captured, short_of bytes l.captured ∙ l.long)

-- where the common header is read and not short, the readers go on alike
pub goes_on : (bytes : List ℕ) {c : CommonHeader} → read_common bytes ≡ Ok c → is_short c bytes ≡ false
    → read_packet bytes ≡ read_capture bytes
unfolding is_short
goes_on bytes common long = then_rest false bytes common long ∙ sym (then_rest true bytes common refl)

pub captures_are_packets : CapturesArePackets
captures_are_packets bytes p h long = goes_on bytes (split bytes h).common (sym (short_of bytes h) ∙ long) ∙ h

pub parts_of_the_packet : OfBoth PartsOfThePacket
unfolding raw_packet path_part payload_part
parts_of_the_packet =
    let packet : PartsOfThePacket read_packet =
    λ bytes p h. let s = split bytes (packet_captured bytes h) in (rw h, path_lies s, payload_lies s) in
    let capture : PartsOfThePacket read_capture = λ bytes p h. let s = split bytes h in (rw h, path_lies s, payload_lies s) in
    (packet, capture)

-- WHERE THE READERS PART

pub common_header_first : CommonHeaderFirst
common_header_first error = (λ bytes h. first_refused false bytes h, λ bytes h. first_refused true bytes h)

pub long_enough_alike : LongEnoughAlike
unfolding is_short
long_enough_alike bytes long = go (read_common bytes) refl
  where
    go : (r : Result CommonHeader DecodeError) → read_common bytes ≡ r → read_packet bytes ≡ read_capture bytes
    go (Ok c) e = goes_on bytes e (le-ltb (length bytes) (header_length c) (rw (length_said bytes e) long))
    go (Err error) e = (common_header_first error).0 bytes e ∙ sym ((common_header_first error).1 bytes e)

-- where it is read and short, the reader of packets stops
pub short_refused : (bytes : List ℕ) {c : CommonHeader} → read_common bytes ≡ Ok c → is_short c bytes ≡ true
    → read_packet bytes ≡ Err PacketEmptyOrTruncated
unfolding is_short
short_refused bytes common short = then_short false bytes common short

pub fewer_bytes_refused : FewerBytesRefused
unfolding is_short
fewer_bytes_refused bytes c common few =
    short_refused bytes common (lt-ltb (length bytes) (header_length c) (rw (length_said bytes common) few))
