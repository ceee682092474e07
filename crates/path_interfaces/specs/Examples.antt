-- Worked examples: how many interfaces a path has, which hop fields they belong to, and their numbers, on peering paths and beside them.
use Rattle.std.specs.Prelude.{ℕ, zero, suc, ◌+◌, ◌*◌, ◌≡◌, replicate, Result, Ok, Err}
use mathlib.Core.List.{List, [], ◌∷◌, ◌++◌, map, flat_map}
use Rattle.wire_encoding.specs.Result.{mapped}
use Rattle.errors.specs.declared.path_error.PathError.{PathError}
use Rattle.errors.specs.declared.path_error.PathError.TheVariants.{NoSuchField}
use Rattle.std.specs.Prelude.{Some}
use Rattle.path_interfaces.specs.declared.InterfaceAt.{InterfaceAt}
use Rattle.path_interfaces.specs.Interfaces.{interfaces_in, interface_in}

-- THE PATHS

-- hop field j has construction ingress 2j + 1 and construction egress 2j + 2
unfoldable pub hops : ℕ → ℕ → List ℕ
hops j zero = []
hops j (suc n) = (0x00 ∷ 0x00 ∷ 0x00 ∷ (2 * j + 1) ∷ 0x00 ∷ (2 * j + 2) ∷ []) ++ replicate 6 0 ++ hops (suc j) n

-- a path: its meta header, the flags of its info fields (bit 1 peering, bit 0 direction), and how many hop fields it has
unfoldable pub path : List ℕ → List ℕ → ℕ → List ℕ
path meta flags n = meta ++ flat_map (λ (f : ℕ). f ∷ replicate 7 0) flags ++ hops 0 n

unfoldable pub two_by_two : ℕ → ℕ → List ℕ
two_by_two first second = path (0x00 ∷ 0x00 ∷ 0x20 ∷ 0x80 ∷ []) (first ∷ second ∷ []) 4

-- lengths 1, 1 and 1, 2 with peering on both; 2 with peering; 2, 2, 2 with peering on all
unfoldable pub one_by_one : List ℕ
one_by_one = path (0x00 ∷ 0x00 ∷ 0x10 ∷ 0x40 ∷ []) (0x02 ∷ 0x03 ∷ []) 2

unfoldable pub one_by_two : List ℕ
one_by_two = path (0x00 ∷ 0x00 ∷ 0x10 ∷ 0x80 ∷ []) (0x02 ∷ 0x03 ∷ []) 3

unfoldable pub single : List ℕ
single = path (0x00 ∷ 0x00 ∷ 0x20 ∷ 0x00 ∷ []) (0x02 ∷ []) 2

unfoldable pub triple : List ℕ
triple = path (0x00 ∷ 0x00 ∷ 0x20 ∷ 0x82 ∷ []) (0x02 ∷ 0x03 ∷ 0x02 ∷ []) 6

-- COMPUTED

-- how many: with peering on both of 1, 1; 1, 2; 2, 2; 3, 3; 63, 63
abbrev pub PeeringCounts : Type 0
PeeringCounts =
    map (interfaces_in 1)
    (one_by_one
    ∷ one_by_two
    ∷ two_by_two 0x02 0x03
    ∷ path (0x00 ∷ 0x00 ∷ 0x30 ∷ 0xC0 ∷ []) (0x02 ∷ 0x03 ∷ []) 6
    ∷ path (0x00 ∷ 0x03 ∷ 0xFF ∷ 0xC0 ∷ []) (0x02 ∷ 0x03 ∷ []) 126
    ∷ [])
    ≡ Ok 2 ∷ Ok 4 ∷ Ok 6 ∷ Ok 10 ∷ Ok 250 ∷ []

-- with peering on one of two, on none, and on all of one or three
abbrev pub OtherCounts : Type 0
OtherCounts =
    map (interfaces_in 1) (two_by_two 0x02 0x01 ∷ two_by_two 0x00 0x03 ∷ two_by_two 0x00 0x01 ∷ single ∷ triple ∷ [])
    ≡ Ok 4 ∷ Ok 4 ∷ Ok 4 ∷ Ok 2 ∷ Ok 6 ∷ []

-- the hop field of interface i
unfoldable pub hop_field_for : List ℕ → ℕ → Result ℕ PathError
hop_field_for bytes i = mapped (λ (place : InterfaceAt). place.hop_field) (interface_in 1 bytes i)

-- each, and one beyond the count: with peering on both of 1, 1 and of 1, 2, and on all of 2, 2, 2
abbrev pub HopFieldsFound : Type 0
HopFieldsFound =
    (map (hop_field_for one_by_one) (0 ∷ 1 ∷ 2 ∷ []) ≡ Ok 0 ∷ Ok 1 ∷ Err NoSuchField ∷ [])
    × (map (hop_field_for one_by_two) (0 ∷ 1 ∷ 2 ∷ 3 ∷ 4 ∷ []) ≡ Ok 0 ∷ Ok 1 ∷ Ok 1 ∷ Ok 2 ∷ Err NoSuchField ∷ [])
    × (map (hop_field_for triple) (0 ∷ 1 ∷ 2 ∷ 3 ∷ 4 ∷ 5 ∷ 6 ∷ [])
    ≡ Ok 0 ∷ Ok 1 ∷ Ok 2 ∷ Ok 3 ∷ Ok 4 ∷ Ok 5 ∷ Err NoSuchField ∷ [])

-- interface `number`, of hop field j
unfoldable pub at : ℕ → ℕ → Result InterfaceAt PathError
at j number = Ok (record { hop_field = j; interface = Some number })

-- of 2, 2, the first segment against construction direction: with peering on both, also at the count and at the largest index; on one
abbrev pub InterfacesFound : Type 0
InterfacesFound =
    (map (interface_in 1 (two_by_two 0x02 0x03)) (0 ∷ 1 ∷ 2 ∷ 3 ∷ 4 ∷ 5 ∷ 6 ∷ 18446744073709551615 ∷ [])
    ≡ at 0 1 ∷ at 1 4 ∷ at 1 3 ∷ at 2 5 ∷ at 2 6 ∷ at 3 7 ∷ Err NoSuchField ∷ Err NoSuchField ∷ [])
    × (map (interface_in 1 (two_by_two 0x02 0x01)) (0 ∷ 1 ∷ 2 ∷ 3 ∷ 4 ∷ [])
    ≡ at 0 1 ∷ at 1 4 ∷ at 2 6 ∷ at 3 7 ∷ Err NoSuchField ∷ [])

abbrev pub Computed : Type 0
Computed = PeeringCounts × OtherCounts × HopFieldsFound × InterfacesFound
