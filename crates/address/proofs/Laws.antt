-- What is put into an address comes out of it again, and worked examples.
-- Assumes nothing.
use mathlib.Core.Path.{◌≡◌, refl}
use mathlib.Core.Bool.{true, false}
use Prim.Native.Nat.{ℕ, ◌+◌, ◌*◌, ◌^◌, ◌<◌}
use native.Mathlib.Omega.{arith}
use lib.Dec.{ltb}
use borrow.Author.Tests.{ltb-true, lt-ltb}
use Rattle.wire_encoding.proofs.Bits.{bit_kept}
use Rattle.wire_encoding.specs.Bits.{with_bit}
use Rattle.std.specs.Prelude.{Ok, Err}
use Rattle.wire_encoding.proofs.Result.{held, same_value}
use Rattle.address.specs.Ia.{isd_of, asn_of, is_wildcard, joined, JoinedApart, ApartJoined}
use Rattle.address.specs.Service.{multicast_of, anycast_of, MulticastOrNot}
use Rattle.address.specs.Host.{host_type_of, TypesReadBack}
use Rattle.address.specs.declared.host.HostType.TheVariants as type

-- an ISD has 16 bits
pub isd_below : (number : ℕ) → number < 2 ^ 64 → isd_of number < 2 ^ 16
isd_below number h = omega arith

pub joined_apart : JoinedApart
unfolding joined
joined_apart isd asn number h =
    let narrow = held (ltb asn (2 ^ 48)) _ _ h in
    let is : isd * 2 ^ 48 + asn ≡ number = same_value narrow.1 in
    let small : asn < 2 ^ 48 = ltb-true asn (2 ^ 48) narrow.0 in
    rw (← is) (omega arith, omega arith)

pub apart_joined : ApartJoined
unfolding joined
apart_joined number =
    let whole : isd_of number * 2 ^ 48 + asn_of number ≡ number = omega arith in
    rw (lt-ltb (asn_of number) (2 ^ 48) (omega arith), whole)

pub multicast_or_not : MulticastOrNot
multicast_or_not number = ((bit_kept 15 number true).made, (bit_kept 15 number false).made)

pub types_read_back : TypesReadBack
unfolding host_type_of
types_read_back type.None = refl
types_read_back type.Ipv4 = refl
types_read_back type.Ipv6 = refl
types_read_back type.Svc = refl

-- 1-ff00:0:110, its wildcards, an AS of 49 bits, and the control service by multicast
pub examples :
    (isd_of 0x0001_FF00_0000_0110 ≡ 1) × (asn_of 0x0001_FF00_0000_0110 ≡ 0xFF00_0000_0110) × (is_wildcard 0x0001_FF00_0000_0110 ≡ false)
    × (is_wildcard 0x0001_0000_0000_0000 ≡ true) × (is_wildcard 0x0000_0000_0000_0001 ≡ true)
    × (joined 1 0xFF00_0000_0110 ≡ Ok 0x0001_FF00_0000_0110) × (joined 0 0x1_0000_0000_0000 ≡ Err 10)
    × (multicast_of 0x0002 ≡ 0x8002) × (anycast_of 0x8002 ≡ 0x0002)
unfolding joined with_bit
examples = (refl, refl, refl, refl, refl, refl, refl, refl, refl)
