-- What answers to C begin with: document 01's number and value; zeros where a call is carried out.
use Rattle.std.specs.Prelude.{Result}
use Rattle.errors.specs.declared.packet_error.DecodeError.{DecodeError}
use Rattle.errors.specs.declared.path_error.PathError.{PathError}
use Rattle.errors.specs.Errors.{answer_number, answer_value, decoded_number, decoded_value}
use Rattle.scion_paths.specs.declared.ScionAnswer.{ScionAnswer}

-- the answer of a call, and of a reader
unfoldable pub answer_out : {A : Type 0} → Result A PathError → ScionAnswer
answer_out r = record { number = answer_number r; value = answer_value r }

unfoldable pub decoded_out : {A : Type 0} → Result A DecodeError → ScionAnswer
decoded_out r = record { number = decoded_number r; value = decoded_value r }
