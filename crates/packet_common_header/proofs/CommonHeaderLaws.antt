-- A common header that was read, the widths and the size of one that is written, and numbers as their bytes.
-- Assumes nothing.
use mathlib.Core.Path.{◌≡◌, refl, sym}
use mathlib.Core.Bool.{true, not, and-eq-true_iff}
use mathlib.Core.List.{List, [], ◌∷◌}
use Prim.Native.Nat.{ℕ, ◌+◌, ◌*◌, ◌/◌, ◌%◌, ◌^◌, ◌≤◌, ◌<◌}
use native.Mathlib.Omega.{arith}
use lib.ListN.{length}
use lib.Dec.{eqb, leb}
use borrow.Author.Tests.{lt-ltb, ltb-true, le-leb, leb-true, eq-eqb, ne_eqb, eqb-true}
use Rattle.std.specs.Prelude.{Ok}
use Rattle.wire_encoding.specs.BigEndian.{bytes_of}
use Rattle.wire_encoding.proofs.Result.{same_value, held}
use Rattle.packet_common_header.specs.declared.CommonHeader.{CommonHeader}
use Rattle.packet_common_header.specs.CommonHeader.{common_at, host_length, version_of, factor_of, read_common, common_bytes, fields_fit, common_fits}
use Rattle.packet_common_header.specs.CommonHeader.{write_common}

-- a host has at most 16 bytes
pub host_few : (kind : ℕ) → host_length kind ≤ 16
unfolding host_length
host_few kind = omega arith

-- READ

-- what a common header that was read says of the bytes
pub record CommonKnown (bytes : List ℕ) (c : CommonHeader) : Type 0 where
  pub fields : c ≡ common_at bytes
  pub version : version_of bytes ≡ 0
  pub long : 12 ≤ length bytes
  pub factor : 9 ≤ factor_of bytes

pub common_known : (bytes : List ℕ) {c : CommonHeader} → read_common bytes ≡ Ok c → CommonKnown bytes c
unfolding read_common
common_known bytes h =
    let some = held (not (eqb (length bytes) 0)) _ _ h in
    let version = held (eqb (version_of bytes) 0) _ _ some.1 in
    let long = held (leb 12 (length bytes)) _ _ version.1 in
    let factor = held (leb 9 (factor_of bytes)) _ _ long.1 in
    record {
      fields = sym (same_value factor.1);
      version = eqb-true _ _ version.0;
      long = leb-true _ _ long.0;
      factor = leb-true _ _ factor.0;
    }

-- the other way round: such bytes are read
pub common_accepted : (bytes : List ℕ) → version_of bytes ≡ 0 → 12 ≤ length bytes → 9 ≤ factor_of bytes → read_common bytes ≡ Ok (common_at bytes)
unfolding read_common
common_accepted bytes version long factor =
    rw (
      ne_eqb (length bytes) 0 (λ e. omega arith),
      eq-eqb (version_of bytes) 0 version,
      le-leb 12 (length bytes) long,
      le-leb 9 (factor_of bytes) factor,
    )

-- WRITTEN

pub length-common_bytes : (c : CommonHeader) → length (common_bytes c) ≡ 12
unfolding common_bytes bytes_of
length-common_bytes c = refl

-- each number is of its field's width
pub record Widths (c : CommonHeader) : Type 0 where
  pub version : c.version < 16
  pub flow : c.flow_id < 2 ^ 20
  pub destination : c.destination_kind < 16
  pub source : c.source_kind < 16

pub common_widths : (c : CommonHeader) → common_fits c ≡ true → Widths c
unfolding common_fits fields_fit
common_widths c h =
    let three = (and-eq-true_iff _ _).0 h in
    let two = (and-eq-true_iff _ _).0 three.0 in
    let one = (and-eq-true_iff _ _).0 two.0 in
    record {
      version = ltb-true _ _ one.0;
      flow = ltb-true _ _ one.1;
      destination = ltb-true _ _ two.1;
      source = ltb-true _ _ three.1;
    }

pub widths_fit : (c : CommonHeader) → Widths c → common_fits c ≡ true
unfolding common_fits fields_fit
widths_fit c w = rw (lt-ltb _ _ w.version, lt-ltb _ _ w.flow, lt-ltb _ _ w.destination, lt-ltb _ _ w.source)

-- where the numbers fit, the factor is not 0 and the size is right, it is written
pub common_written : (c : CommonHeader) (n : ℕ) → common_fits c ≡ true → (c.header_length_factor ≡ 0 → ⊥) → n ≡ 12
    → write_common c n ≡ Ok (common_bytes c)
unfolding write_common
common_written c n fits factor exact = rw (fits, ne_eqb _ _ factor, eq-eqb _ _ exact)

four_digits : (n : ℕ) → n < 2 ^ 32 → n / 0x1000000 ∷ n / 0x10000 % 256 ∷ n / 0x100 % 256 ∷ n % 256 ∷ [] ≡ bytes_of 4 n
unfolding bytes_of
four_digits n h =
    let first : n / 256 / 256 / 256 % 256 ≡ n / 0x1000000 = omega arith in
    let second : n / 256 / 256 % 256 ≡ n / 0x10000 % 256 = omega arith in
    rw (first, second)

two_digits : (n : ℕ) → n < 2 ^ 16 → n / 0x100 ∷ n % 256 ∷ [] ≡ bytes_of 2 n
unfolding bytes_of
two_digits n h = let first : n / 256 % 256 ≡ n / 0x100 = omega arith in rw first

-- every field fits its bits
pub record Fields (c : CommonHeader) : Type 0 where
  pub widths : Widths c
  pub class : c.traffic_class < 256
  pub payload : c.payload_length < 2 ^ 16
  pub reserved : c.reserved < 2 ^ 16

module _ (c : CommonHeader) (f : Fields c) where
  -- the number of the first four bytes
  abbrev first : ℕ
  first = (c.version * 256 + c.traffic_class) * 0x100000 + c.flow_id

  pub first_fits : first < 2 ^ 32
  first_fits = omega (arith, f.widths.version, f.widths.flow, f.class)

  -- the twelve bytes, digit by digit
  pub common_digits : first / 0x1000000 ∷ first / 0x10000 % 256 ∷ first / 0x100 % 256 ∷ first % 256
      ∷ c.next_header ∷ c.header_length_factor
      ∷ c.payload_length / 0x100 ∷ c.payload_length % 256
      ∷ c.path_type ∷ (c.destination_kind * 16 + c.source_kind)
      ∷ c.reserved / 0x100 ∷ c.reserved % 256 ∷ []
      ≡ common_bytes c
  unfolding common_bytes
  common_digits =
      rw (← four_digits first first_fits, ← two_digits c.payload_length f.payload, ← two_digits c.reserved f.reserved)
