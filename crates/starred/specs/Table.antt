-- Document 01, "Inputs tried beside each border": the rows marked *, each by the definition that the call's contract cites.
use Rattle.std.specs.Prelude.{ℕ, ◌≡◌, List, [], ◌∷◌, ◌++◌, replicate}
use Rattle.wire_encoding.specs.Result.{mapped, or_else}
use Rattle.wire_encoding.specs.BigEndian.{big_endian}
use Rattle.errors.specs.Errors.{decoded_number, decoded_value, answer_number}
use Rattle.path.specs.declared.dataplane.Extent.{Extent}
use Rattle.path.specs.Dataplane.{read_dataplane}
use Rattle.path_expiry.specs.Expiry.{expiry_in}
use Rattle.path_interfaces.specs.declared.InterfaceAt.{InterfaceAt}
use Rattle.path_interfaces.specs.Interfaces.{interface_in}
use Rattle.path_moves.specs.Moves.{move, moved}
use Rattle.packet.specs.Raw.{read_packet}

-- reading a standard path of these meta bytes, enough following: the answer's number, and the path's length in bytes
unfoldable pub reading : List ℕ → List ℕ
reading meta =
    let read = read_dataplane 1 (meta ++ replicate 60 0) in
    decoded_number read ∷ or_else (mapped (λ (path : Extent). path.length) read) 0 ∷ []

-- splitting a packet of these bytes: the answer's number, and its value
unfoldable pub splitting : List ℕ → List ℕ
splitting bytes =
    let answer = read_packet bytes in
    decoded_number answer ∷ decoded_value answer ∷ []

-- the expiry of a path of one hop field with these four timestamp bytes and this expiry byte
unfoldable pub expiring : List ℕ → ℕ → List ℕ
expiring time e =
    let expiry = expiry_in 1 ((0x00 ∷ 0x00 ∷ 0x10 ∷ 0x00 ∷ 0x01 ∷ 0x00 ∷ 0x00 ∷ 0x00 ∷ []) ++ time ++ (0x00 ∷ e ∷ []) ++ replicate 10 0) in
    answer_number expiry ∷ or_else expiry 0 ∷ []

-- interface i of a path of lengths 2, 2, 0, peering on neither segment: the answer's number, and the hop field that it belongs to
unfoldable pub interface_of_two_by_two : ℕ → List ℕ
interface_of_two_by_two i =
    let found = interface_in 1 ((0x00 ∷ 0x00 ∷ 0x20 ∷ 0x80 ∷ []) ++ replicate 64 0) i in
    answer_number found ∷ or_else (mapped (λ (place : InterfaceAt). place.hop_field) found) 0 ∷ []

-- a single move of a path of two hop fields in construction direction, accumulator 1111, first code A0 0B: the answer's number, and the
-- accumulator
unfoldable pub moving : List ℕ
moving =
    let path : List ℕ =
    (0x00 ∷ 0x00 ∷ 0x20 ∷ 0x00 ∷ 0x01 ∷ 0x00 ∷ 0x11 ∷ 0x11 ∷ []) ++ replicate 10 0 ++ (0xA0 ∷ 0x0B ∷ []) ++ replicate 16 0 in
    answer_number (move 1 path) ∷ big_endian 2 (moved 1 path) 6 ∷ []

-- what is answered
unfoldable pub answers : List (List ℕ)
answers =
    reading (0x00 ∷ 0x00 ∷ 0x20 ∷ 0x00 ∷ [])
    ∷ reading (0x02 ∷ 0x00 ∷ 0x20 ∷ 0x00 ∷ [])
    ∷ reading (0x40 ∷ 0x00 ∷ 0x20 ∷ 0x00 ∷ [])
    ∷ reading (0x42 ∷ 0x00 ∷ 0x20 ∷ 0x00 ∷ [])
    ∷ reading (0x00 ∷ 0x00 ∷ 0x20 ∷ 0x01 ∷ [])
    ∷ reading (0xC0 ∷ 0x00 ∷ 0x10 ∷ 0x41 ∷ [])
    ∷ reading (0x02 ∷ 0x00 ∷ 0x20 ∷ 0x40 ∷ [])
    ∷ reading (0x42 ∷ 0x00 ∷ 0x20 ∷ 0x40 ∷ [])
    ∷ splitting (0x10 ∷ [])
    ∷ expiring (0x00 ∷ 0x00 ∷ 0x00 ∷ 0x01 ∷ []) 0x00
    ∷ expiring (0xFF ∷ 0xFF ∷ 0xFF ∷ 0xFF ∷ []) 0xFF
    ∷ interface_of_two_by_two 2
    ∷ moving
    ∷ []

-- what document 01 says
unfoldable pub wanted : List (List ℕ)
wanted =
    (0 ∷ 36 ∷ [])
    ∷ (6 ∷ 0 ∷ [])
    ∷ (5 ∷ 0 ∷ [])
    ∷ (5 ∷ 0 ∷ [])
    ∷ (4 ∷ 0 ∷ [])
    ∷ (5 ∷ 0 ∷ [])
    ∷ (6 ∷ 0 ∷ [])
    ∷ (0 ∷ 56 ∷ [])
    ∷ (2 ∷ 1 ∷ [])
    ∷ (0 ∷ 338500 ∷ [])
    ∷ (0 ∷ 4295053695000 ∷ [])
    ∷ (0 ∷ 2 ∷ [])
    ∷ (0 ∷ 0xB11A ∷ [])
    ∷ []

-- every starred row is answered as document 01 says
abbrev pub Starred : Type 0
Starred = answers ≡ wanted
