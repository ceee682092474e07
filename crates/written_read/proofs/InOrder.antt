-- The parts of a packet that was read stand one after the other.
-- Assumes nothing.
use mathlib.Core.Path.{◌≡◌, sym, ap, ap₂, ◌∙◌}
use mathlib.Core.List.{List, ◌++◌}
use Prim.Native.Nat.{ℕ, ◌+◌}
use native.Mathlib.Omega.{arith}
use lib.ListN.{length, take}
use Rattle.wire_encoding.specs.BigEndian.{part}
use Rattle.wire_encoding.proofs.Lists.{part_join}
use Rattle.packet_address_header.specs.AddressHeader.{address_length}
use Rattle.packet.specs.Raw.{Packet, path_part, payload_part}
use Rattle.packet.specs.Captures.{OfBoth}
use Rattle.packet.proofs.RawLaws.{Split, split, path_lies, payload_lies}
use Rattle.packet.proofs.Captures.{packet_captured}
use Rattle.written_read.specs.WrittenRead.{InOrder}

-- of what was read, by either
parts_in_order : (bytes : List ℕ) (p : Packet) → Split bytes p
    → take ((payload_part p).start + (payload_part p).len) bytes
    ≡ take 12 bytes ++ (part 12 (address_length p.address) bytes ++ (p.path_bytes ++ p.payload))
unfolding path_part payload_part
parts_in_order bytes p s =
    let n : ℕ = address_length p.address in
    let m : ℕ = length p.path_bytes in
    let k : ℕ = length p.payload in
    let sum : 12 + n + m + k ≡ 12 + (n + (m + k)) = omega arith in
    ap (λ (j : ℕ). take j bytes) sum
    ∙ sym (part_join 0 12 (n + (m + k)) bytes)
    ∙ ap (λ (l : List ℕ). take 12 bytes ++ l) (sym (part_join 12 n (m + k) bytes))
    ∙ ap (λ (l : List ℕ). take 12 bytes ++ (part 12 n bytes ++ l))
    (sym (part_join (12 + n) m k bytes) ∙ ap₂ (λ (x y : List ℕ). x ++ y) (path_lies s) (payload_lies s))

pub in_order : OfBoth InOrder
in_order = (
  λ bytes p read. parts_in_order bytes p (split bytes (packet_captured bytes read)),
  λ bytes p read. parts_in_order bytes p (split bytes read),
)
