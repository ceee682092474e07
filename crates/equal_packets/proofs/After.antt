-- Every stage of the reading sees bytes before the payload's end alone, so a packet whose bytes stand up to there is read alike.
-- Assumes nothing.
use mathlib.Core.Path.{◌≡◌}
use mathlib.Core.List.{List}
use Prim.Native.Nat.{ℕ, ◌<◌}
use native.Mathlib.Omega.{arith}
use lib.ListN.{get_or}
use Rattle.wire_encoding.proofs.BigEndian.{number_by_get_or}
use Rattle.packet_common_header.specs.CommonHeader.{common_at}

-- THE COMMON HEADER

-- its fields are in the first twelve bytes
common_front : (x y : List ℕ) → ((i : ℕ) → i < 12 → get_or y i 0 ≡ get_or x i 0) → common_at y ≡ common_at x
unfolding common_at
common_front x y e =
    let first = number_by_get_or y x 4 0 (λ i a l. e i (omega arith)) in
    let payload = number_by_get_or y x 2 6 (λ i a l. e i (omega arith)) in
    let reserved = number_by_get_or y x 2 10 (λ i a l. e i (omega arith)) in
    rw (first, payload, reserved, e 4 (omega arith), e 5 (omega arith), e 8 (omega arith), e 9 (omega arith))
