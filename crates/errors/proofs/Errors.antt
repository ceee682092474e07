-- The value beside a number; what the number 0 says.
-- Assumes nothing.
use mathlib.Core.Path.{◌≡◌, refl}
use native.Mathlib.Omega.{arith}
use Rattle.std.specs.Prelude.{true, Result, Ok, Err, is_ok}
use Rattle.errors.specs.Errors.{kind_number, decode_number, decode_value, decoded_number, ValueOfTwoAndThree}
use Rattle.errors.specs.declared.path_error.DataplanePathErrorKind.{DataplanePathErrorKind}
use Rattle.errors.specs.declared.path_error.DataplanePathErrorKind.TheVariants as kind
use Rattle.errors.specs.declared.packet_error.DecodeError.{DecodeError}
use Rattle.errors.specs.declared.packet_error.DecodeError.TheVariants as decode
use Rattle.errors.specs.declared.path_error.PathError.TheVariants as path

-- VALUES

decode_value_lem : (error : DecodeError) → (decode_number error ≡ 2 → ⊥) → (decode_number error ≡ 3 → ⊥) → decode_value error ≡ 0
decode_value_lem decode.PacketEmptyOrTruncated not-2 not-3 = refl
decode_value_lem (decode.UnsupportedVersion version) not-2 not-3 = absurd (not-2 refl)
decode_value_lem (decode.InvalidHeaderLength factor) not-2 not-3 = absurd (not-3 refl)
decode_value_lem (decode.InvalidPath kind) not-2 not-3 = refl
decode_value_lem decode.InconsistentPathLength not-2 not-3 = refl

pub value_of_two_and_three : ValueOfTwoAndThree
value_of_two_and_three (path.Decode error) not-2 not-3 = decode_value_lem error not-2 not-3
value_of_two_and_three path.NoSuchField not-2 not-3 = refl
value_of_two_and_three path.InadequateBufferSize not-2 not-3 = refl
value_of_two_and_three path.NumberTooWide not-2 not-3 = refl
value_of_two_and_three path.TooManyHopFields not-2 not-3 = refl
value_of_two_and_three path.PeeringNotOnBoth not-2 not-3 = refl
value_of_two_and_three path.AtLastHopField not-2 not-3 = refl

-- NUMBERS

-- 0 is the number of what is accepted, and of no refusal
kind_number_lem : (k : DataplanePathErrorKind) → kind_number k ≡ 0 → ⊥
kind_number_lem kind.InvalidSegmentLengths h = omega arith
kind_number_lem kind.InfoFieldOutOfRange h = omega arith
kind_number_lem kind.HopFieldOutOfRange h = omega arith

decode_number_lem : (error : DecodeError) → decode_number error ≡ 0 → ⊥
decode_number_lem decode.PacketEmptyOrTruncated h = omega arith
decode_number_lem (decode.UnsupportedVersion version) h = omega arith
decode_number_lem (decode.InvalidHeaderLength factor) h = omega arith
decode_number_lem (decode.InvalidPath kind) h = kind_number_lem kind h
decode_number_lem decode.InconsistentPathLength h = omega arith

pub zero_accepted : {A : Type 0} (r : Result A DecodeError) → decoded_number r ≡ 0 → is_ok r ≡ true
zero_accepted (Ok a) h = refl
zero_accepted (Err error) h = absurd (decode_number_lem error h)
