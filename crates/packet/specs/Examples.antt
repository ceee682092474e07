-- Worked examples of 2026-06: what both readers answer about headers shorter than their own length, and beside that border.
use Rattle.std.specs.Prelude.{ℕ, ◌*◌, ◌≡◌, cond, List, [], ◌∷◌, ◌++◌, take, replicate}
use Rattle.errors.specs.Errors.{decoded_number, decoded_value}
use Rattle.packet.specs.Raw.{read_packet, capture_answer, short_capture}

-- THE PACKETS

-- common header and address header, 36 bytes: version, factor, payload length and path type as given, IPv4 hosts
unfoldable pub headers : ℕ → ℕ → ℕ → ℕ → List ℕ
headers version factor payload type =
    ((16 * version) ∷ 0x00 ∷ 0x00 ∷ 0x01 ∷ 0x11 ∷ factor ∷ 0x00 ∷ payload ∷ type ∷ 0x00 ∷ 0x00 ∷ 0x00 ∷ [])
    ++ (0x00 ∷ 0x01 ∷ 0xFF ∷ 0x00 ∷ 0x00 ∷ 0x00 ∷ 0x01 ∷ 0x10 ∷ [])
    ++ (0x00 ∷ 0x02 ∷ 0xFF ∷ 0x00 ∷ 0x00 ∷ 0x00 ∷ 0x02 ∷ 0x20 ∷ [])
    ++ (0xD0 ∷ 0xD1 ∷ 0xD2 ∷ 0xD3 ∷ 0x50 ∷ 0x51 ∷ 0x52 ∷ 0x53 ∷ [])

-- a path of two hop fields, 36 bytes
unfoldable pub two_hop_fields : List ℕ
two_hop_fields = (0x00 ∷ 0x00 ∷ 0x20 ∷ 0x00 ∷ []) ++ replicate 32 0

-- COMPUTED

-- the number and the value that the reader of packets answers, those of the reader of captures, and whether it is short: 1 or 0
unfoldable pub readings : List ℕ → List ℕ
readings bytes =
    let packet = read_packet bytes in
    let capture = capture_answer bytes in
    decoded_number packet
    ∷ decoded_value packet
    ∷ decoded_number capture
    ∷ decoded_value capture
    ∷ cond (short_capture bytes) 1 0
    ∷ []

-- 36 bytes under factor 9 and 10, 35 under 9; 40 bytes whose path has wrong lengths, under 11; 39 bytes without a path, under 10;
-- 30 bytes under factor 8; 36 of version 1; a whole path under one factor too many; 36 bytes and four of a payload, and 36 that
-- announce one byte of it, both under 10; one byte of version 1
unfoldable pub answers : List (List ℕ)
answers =
    readings (headers 0 9 0 0)
    ∷ readings (headers 0 10 0 0)
    ∷ readings (take 35 (headers 0 9 0 0))
    ∷ readings (headers 0 11 0 1 ++ (0x00 ∷ 0x00 ∷ 0x20 ∷ 0x01 ∷ []))
    ∷ readings (headers 0 10 0 0 ++ replicate 3 0)
    ∷ readings (take 30 (headers 0 8 0 0))
    ∷ readings (headers 1 10 0 0)
    ∷ readings (headers 0 19 0 1 ++ two_hop_fields)
    ∷ readings (headers 0 10 4 0 ++ replicate 4 0)
    ∷ readings (headers 0 10 1 0)
    ∷ readings (0x10 ∷ [])
    ∷ []

unfoldable pub wanted : List (List ℕ)
wanted =
    (0 ∷ 0 ∷ 0 ∷ 0 ∷ 0 ∷ [])
    ∷ (1 ∷ 0 ∷ 0 ∷ 0 ∷ 1 ∷ [])
    ∷ (1 ∷ 0 ∷ 1 ∷ 0 ∷ 0 ∷ [])
    ∷ (1 ∷ 0 ∷ 4 ∷ 0 ∷ 0 ∷ [])
    ∷ (1 ∷ 0 ∷ 7 ∷ 0 ∷ 0 ∷ [])
    ∷ (3 ∷ 8 ∷ 3 ∷ 8 ∷ 0 ∷ [])
    ∷ (2 ∷ 1 ∷ 2 ∷ 1 ∷ 0 ∷ [])
    ∷ (1 ∷ 0 ∷ 0 ∷ 0 ∷ 1 ∷ [])
    ∷ (7 ∷ 0 ∷ 7 ∷ 0 ∷ 0 ∷ [])
    ∷ (1 ∷ 0 ∷ 1 ∷ 0 ∷ 0 ∷ [])
    ∷ (2 ∷ 1 ∷ 2 ∷ 1 ∷ 0 ∷ [])
    ∷ []

abbrev pub Worked : Type 0
Worked = answers ≡ wanted
