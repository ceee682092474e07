-- Service numbers: 16 bits, of which the highest, bit 15, says multicast.
use Rattle.std.specs.Prelude.{ℕ, ◌≡◌, Bool, true, false}
use Rattle.wire_encoding.specs.Bits.{bit_of, with_bit}

abbrev pub is_multicast : ℕ → Bool
is_multicast number = bit_of 15 number

-- the multicast bit set, and cleared; the other fifteen are kept
abbrev pub multicast_of : ℕ → ℕ
multicast_of number = with_bit 15 true number

abbrev pub anycast_of : ℕ → ℕ
anycast_of number = with_bit 15 false number

-- each is what it says
abbrev pub MulticastOrNot : Type 0
MulticastOrNot = (number : ℕ) → (is_multicast (multicast_of number) ≡ true) × (is_multicast (anycast_of number) ≡ false)
