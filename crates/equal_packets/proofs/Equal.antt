-- All bytes of an accepted packet up to its payload's end are what its filed reading writes, so equal readings are of equal packets.
-- Assumes nothing.
use mathlib.Core.Path.{◌≡◌, sym, ap, ap₂, ◌∙◌}
use mathlib.Core.List.{List, ◌++◌}
use Prim.Native.Nat.{ℕ, ◌<◌}
use lib.ListN.{get_or, take}
use lib.Seq.{take-add}
use Rattle.std.specs.Prelude.{Ok}
use Rattle.wire_encoding.proofs.Lists.{bytes_of_lem}
use Rattle.wire_encoding.proofs.Result.{mapped_ok, same_value}
use Rattle.packet.specs.declared.raw.ScionPacketRaw.{ScionPacketRaw}
use Rattle.path.specs.Standard.{no_path}
use Rattle.packet_common_header.specs.CommonHeader.{header_length}
use Rattle.packet.specs.Raw.{Packet, read_packet, read_capture, raw_packet, packet_answer}
use Rattle.packet.specs.Captures.{Reader, OfBoth, PartsOfThePacket}
use Rattle.packet.proofs.RawLaws.{Split, split, headers_are}
use Rattle.packet.proofs.Captures.{packet_captured, parts_of_the_packet}
use Rattle.packet_headers.specs.Headers.{header_bytes}
use Rattle.written_read.specs.WrittenRead.{headers_of}
use Rattle.written_read.proofs.WritesAgain.{same_again}
use Rattle.equal_packets.specs.EqualPackets.{Filed, filed, packet_end, EqualPackets}

-- THE BYTES OF A PACKET THAT WAS READ

-- up to the payload's end: the headers written again, then the payload
pub all_again : (bytes : List ℕ) (p : Packet) → ((i : ℕ) → get_or bytes i 0 < 256) → Split bytes p
    → take (packet_end (raw_packet p)) bytes ≡ header_bytes (headers_of p) p.path_bytes ++ p.payload
unfolding raw_packet header_length
all_again bytes p small s =
    let n : ℕ = header_length p.common in
    let k : ℕ = p.common.payload_length in
    take-add n k bytes
    ∙ ap₂ (λ (x y : List ℕ). x ++ y) (sym (headers_are s) ∙ sym (same_again bytes (bytes_of_lem bytes small) p s)) (sym s.payload_is)

-- BY WHAT IS FILED

-- what is filed has all that is written again
filed_bytes : Filed → List ℕ
filed_bytes f =
    let p : Packet = record { common = f.common; address = f.address; path = no_path; path_bytes = f.path; payload = f.payload } in
    header_bytes (headers_of p) f.path ++ f.payload

module _ (read : Reader) (captured : (bytes : List ℕ) (p : Packet) → read bytes ≡ Ok p → read_capture bytes ≡ Ok p) (parts : PartsOfThePacket read) where
  all_filed : (bytes : List ℕ) → ((i : ℕ) → get_or bytes i 0 < 256) → (p : Packet) → read bytes ≡ Ok p
      → take (packet_end (raw_packet p)) bytes ≡ filed_bytes (filed (raw_packet p) bytes)
  unfolding filed filed_bytes raw_packet headers_of
  all_filed bytes small p e =
      let lies = parts bytes p e in
      rw (lies.1, lies.2) (all_again bytes p small (split bytes (captured bytes p e)))

  -- the same of what a reader answers
  all_answered : (bytes : List ℕ) → ((i : ℕ) → get_or bytes i 0 < 256) → (a : ScionPacketRaw) → packet_answer (read bytes) ≡ Ok a
      → take (packet_end a) bytes ≡ filed_bytes (filed a bytes)
  all_answered bytes small a answered =
      let found = mapped_ok raw_packet (read bytes) answered in
      rw (← same_value found.then) (all_filed bytes small found.value found.first)

  equal : EqualPackets filed read
  equal x y small-x small-y a b accepted-x accepted-y alike =
      all_answered x small-x a accepted-x ∙ ap filed_bytes alike ∙ sym (all_answered y small-y b accepted-y)

pub equal_packets : OfBoth (EqualPackets filed)
equal_packets =
    (equal read_packet (λ bytes p e. packet_captured bytes e) parts_of_the_packet.0, equal read_capture (λ bytes p e. e) parts_of_the_packet.1)
