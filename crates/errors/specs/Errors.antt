-- The answers: document 01's number of each refusal, and the value that 2 and 3 carry; 0 for what is accepted.
use Rattle.std.specs.Prelude.{ℕ, ◌≡◌, Result, Ok, Err}
use Rattle.errors.specs.declared.path_error.DataplanePathErrorKind.{DataplanePathErrorKind}
use Rattle.errors.specs.declared.path_error.DataplanePathErrorKind.TheVariants as kind
use Rattle.errors.specs.declared.packet_error.DecodeError.{DecodeError}
use Rattle.errors.specs.declared.packet_error.DecodeError.TheVariants as decode
use Rattle.errors.specs.declared.path_error.PathError.{PathError}
use Rattle.errors.specs.declared.path_error.PathError.TheVariants as path
use Rattle.errors.specs.declared.packet_error.EncodeError.{EncodeError}
use Rattle.errors.specs.declared.packet_error.EncodeError.TheVariants as encode

abbrev pub kind_number : DataplanePathErrorKind → ℕ
kind_number kind.InvalidSegmentLengths = 4
kind_number kind.InfoFieldOutOfRange = 5
kind_number kind.HopFieldOutOfRange = 6

abbrev pub decode_number : DecodeError → ℕ
decode_number decode.PacketEmptyOrTruncated = 1
decode_number (decode.UnsupportedVersion version) = 2
decode_number (decode.InvalidHeaderLength factor) = 3
decode_number (decode.InvalidPath kind) = kind_number kind
decode_number decode.InconsistentPathLength = 7

abbrev pub decode_value : DecodeError → ℕ
decode_value decode.PacketEmptyOrTruncated = 0
decode_value (decode.UnsupportedVersion version) = version
decode_value (decode.InvalidHeaderLength factor) = factor
decode_value (decode.InvalidPath kind) = 0
decode_value decode.InconsistentPathLength = 0

abbrev pub path_number : PathError → ℕ
path_number (path.Decode error) = decode_number error
path_number path.NoSuchField = 8
path_number path.InadequateBufferSize = 9
path_number path.NumberTooWide = 10
path_number path.TooManyHopFields = 13
path_number path.PeeringNotOnBoth = 14
path_number path.AtLastHopField = 15

abbrev pub path_value : PathError → ℕ
path_value (path.Decode error) = decode_value error
path_value path.NoSuchField = 0
path_value path.InadequateBufferSize = 0
path_value path.NumberTooWide = 0
path_value path.TooManyHopFields = 0
path_value path.PeeringNotOnBoth = 0
path_value path.AtLastHopField = 0

abbrev pub encode_number : EncodeError → ℕ
encode_number encode.NumberTooWide = 10
encode_number encode.InvalidHeaderLength = 3
encode_number encode.HeaderTooLarge = 12
encode_number encode.PayloadTooLarge = 11
encode_number encode.InadequateBufferSize = 9

-- OF A RESULT: 0 where there is a value

abbrev pub decoded_number : {A : Type 0} → Result A DecodeError → ℕ
decoded_number (Ok a) = 0
decoded_number (Err error) = decode_number error

abbrev pub answer_number : {A : Type 0} → Result A PathError → ℕ
answer_number (Ok a) = 0
answer_number (Err error) = path_number error

abbrev pub encoded_number : {A : Type 0} → Result A EncodeError → ℕ
encoded_number (Ok a) = 0
encoded_number (Err error) = encode_number error

-- 2 and 3 come with their value; it is zero for every other answer
abbrev pub decoded_value : {A : Type 0} → Result A DecodeError → ℕ
decoded_value (Ok a) = 0
decoded_value (Err error) = decode_value error

abbrev pub answer_value : {A : Type 0} → Result A PathError → ℕ
answer_value (Ok a) = 0
answer_value (Err error) = path_value error

-- a theorem: the value is zero unless the number is 2 or 3
abbrev pub ValueOfTwoAndThree : Type 0
ValueOfTwoAndThree = (error : PathError) → (path_number error ≡ 2 → ⊥) → (path_number error ≡ 3 → ⊥) → path_value error ≡ 0
