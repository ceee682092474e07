-- A common header is read from its twelve bytes as it was written, and written as the twelve bytes that it was read from: each field
-- has its own digits.
-- Assumes nothing.
use mathlib.Core.Path.{◌≡◌, ap, ◌∙◌}
use mathlib.Core.List.{List, [], ◌∷◌, ◌++◌}
use Prim.Native.Nat.{ℕ, ◌+◌, ◌*◌, ◌/◌, ◌%◌, ◌^◌, ◌≤◌, ◌<◌}
use native.Mathlib.Nat.{mod-eq_of_lt}
use native.Mathlib.Omega.{arith}
use lib.ListN.{length, get_or, take}
use Rattle.wire_encoding.specs.BigEndian.{big_endian, bytes_of}
use Rattle.wire_encoding.proofs.Lists.{Bytes, bytes_from, part_bytes}
use Rattle.wire_encoding.proofs.BigEndian.{below, bytes_read, read_bytes_of}
use Rattle.std.specs.Prelude.{Ok}
use Rattle.packet_common_header.specs.CommonHeader.{common_at, read_common, version_of, common_bytes}
use Rattle.packet_common_header.specs.declared.CommonHeader.{CommonHeader}
use Rattle.packet_common_header.proofs.CommonHeaderLaws.{common_accepted, Widths, Fields, first_fits}

-- READ AS IT WAS WRITTEN

module _ (c : CommonHeader) (after : List ℕ) (f : Fields c) where
  -- the number of the first four bytes
  abbrev first : ℕ
  first = (c.version * 256 + c.traffic_class) * 2 ^ 20 + c.flow_id

  first_read : big_endian 4 (common_bytes c ++ after) 0 ≡ first
  unfolding common_bytes bytes_of
  first_read = read_bytes_of 4 first [] _ ∙ mod-eq_of_lt (first_fits c f)

  payload_read : big_endian 2 (common_bytes c ++ after) 6 ≡ c.payload_length
  unfolding common_bytes bytes_of
  payload_read =
      read_bytes_of 2 c.payload_length (bytes_of 4 first ++ (c.next_header ∷ c.header_length_factor ∷ [])) _
      ∙ mod-eq_of_lt f.payload

  reserved_read : big_endian 2 (common_bytes c ++ after) 10 ≡ c.reserved
  unfolding common_bytes bytes_of
  reserved_read =
      read_bytes_of 2 c.reserved
      (bytes_of 4 first ++ ((c.next_header ∷ c.header_length_factor ∷ [])
      ++ (bytes_of 2 c.payload_length ++ (c.path_type ∷ (c.destination_kind * 16 + c.source_kind) ∷ []))))
      after
      ∙ mod-eq_of_lt f.reserved

  fields_read : common_at (common_bytes c ++ after) ≡ c
  unfolding common_at common_bytes bytes_of
  fields_read =
      let w : Widths c = f.widths in
      let version : first / 2 ^ 28 % 16 ≡ c.version = omega arith in
      let class : first / 2 ^ 20 % 256 ≡ c.traffic_class = omega arith in
      let flow : first % 2 ^ 20 ≡ c.flow_id = omega arith in
      let destination : (c.destination_kind * 16 + c.source_kind) / 16 ≡ c.destination_kind = omega arith in
      let source : (c.destination_kind * 16 + c.source_kind) % 16 ≡ c.source_kind = omega arith in
      rw (first_read, payload_read, reserved_read, version, class, flow, destination, source)

  -- version 0 leaves the first byte's high half empty
  version_read : c.version ≡ 0 → version_of (common_bytes c ++ after) ≡ 0
  unfolding common_bytes bytes_of
  version_read zero = omega (arith, f.widths.flow, f.class)

  pub common_read : c.version ≡ 0 → 9 ≤ c.header_length_factor → read_common (common_bytes c ++ after) ≡ Ok c
  unfolding common_bytes bytes_of
  common_read zero long =
      common_accepted (common_bytes c ++ after) (version_read zero) (omega arith) long ∙ ap (λ (x : CommonHeader). Ok x) fields_read

-- WRITTEN AS IT WAS READ

module _ (bytes : List ℕ) (b : Bytes bytes) where
  -- the bytes of a number that was read, one by one
  number : (width at : ℕ) → at + width ≤ length bytes → bytes_of width (big_endian width bytes at) ≡ bytes_from at width bytes
  number width at h = bytes_read width bytes b at h ∙ part_bytes width at bytes h

  pub common_fields : Fields (common_at bytes)
  unfolding common_at
  common_fields =
      let kinds : get_or bytes 9 0 < 256 = (b 9).fits in
      record {
        widths = record { version = omega arith; flow = omega arith; destination = omega arith; source = omega arith };
        class = omega arith;
        payload = below bytes b 6 2;
        reserved = below bytes b 10 2;
      }

  pub common_written : 12 ≤ length bytes → common_bytes (common_at bytes) ≡ take 12 bytes
  unfolding common_bytes common_at
  common_written long =
      let n : ℕ = big_endian 4 bytes 0 in
      let k : ℕ = get_or bytes 9 0 in
      let narrow : n < 2 ^ 32 = below bytes b 0 4 in
      let one : (n / 2 ^ 28 % 16 * 256 + n / 2 ^ 20 % 256) * 2 ^ 20 + n % 2 ^ 20 ≡ n = omega arith in
      let kinds : k / 16 * 16 + k % 16 ≡ k = omega arith in
      rw (one, kinds, number 4 0 (omega arith), number 2 6 (omega arith), number 2 10 (omega arith), part_bytes 12 0 bytes long)
