-- What a call on a path hands to C where it is refused: zeros in every field but the answer.
-- Assumes nothing.
use Prim.Native.Nat.{ℕ}
use mathlib.Core.Path.{◌≡◌, refl, ◌∙◌}
use mathlib.Core.Bool.{false}
use mathlib.Core.List.{List, [], ◌∷◌}
use lib.IntN.{pos}
use lib.ListN.{replicate}
use Rattle.std.specs.Prelude.{Result, Ok, Err}
use Rattle.wire_encoding.specs.Result.{mapped, or_else}
use Rattle.path_meta_header.specs.MetaHeader.{meta_of, nth_field}
use Rattle.path_fields.specs.Fields.{new_info_field, new_hop_field, zero_info_field, zero_hop_field}
use Rattle.errors.specs.Errors.{path_number, path_value}
use Rattle.errors.specs.declared.packet_error.DecodeError.{DecodeError}
use Rattle.errors.specs.declared.path_error.PathError.{PathError}
use Rattle.errors.specs.declared.path_error.PathError.TheVariants.{Decode}
use Rattle.path.specs.declared.dataplane.Extent.{Extent}
use Rattle.path.specs.Standard.{no_path}
use Rattle.path.specs.Dataplane.{unread, read_dataplane, path_of}
use Rattle.path.proofs.Reading.{no_record}
use Rattle.path.specs.declared.standard.StandardPath.{StandardPath}
use Rattle.path.specs.declared.standard.Part.{Part}
use Rattle.scion_paths.specs.declared.ScionAnswer.{ScionAnswer}
use Rattle.scion_paths.specs.Answer.{answer_out, decoded_out}
use Rattle.scion_paths.specs.Paths.{path_read_out, NoRecordHandedOut}
use Rattle.scion_paths.specs.Paths.{path_answer_out, written_path_out, info_field_out, hop_field_out, segment_out, expiry_out, time_left_out}
use Rattle.scion_paths.specs.Paths.{interface_count_out, interface_out, walk_out}

-- the record of no path, and no part
abbrev pub zeros : StandardPath
zeros =
    record {
      meta_header = record { current_info_field = 0; current_hop_field = 0; reserved = 0; segment_lengths = 0 ∷ 0 ∷ 0 ∷ [] };
      expiry = 0;
    }

abbrev none : Part
none = record { start = 0; len = 0 }

module _ (error : DecodeError) where
  pub path_read_refused : path_read_out (Err error)
      ≡ record { answer = record { number = path_number (Decode error); value = path_value (Decode error) }; path = zeros; length = 0 }
  unfolding path_read_out decoded_out answer_out meta_of nth_field
  path_read_refused = refl

-- what reading hands out of a path is the record that the other calls speak of
handed_out : (type : ℕ) (bytes : List ℕ) → (path_read_out (read_dataplane type bytes)).path ≡ path_of type bytes
unfolding path_read_out path_of
handed_out type bytes = go (read_dataplane type bytes)
  where
    go : (r : Result Extent DecodeError) → (or_else r (unread 0)).path ≡ or_else (mapped (λ (read : Extent). read.path) r) no_path
    go (Ok read) = refl
    go (Err error) = refl

pub no_record_handed_out : NoRecordHandedOut
no_record_handed_out type bytes =
    let out = handed_out type bytes in
    let none = no_record type bytes in
    ((λ error h. out ∙ none.0 error h), (λ other. out ∙ none.1 other))

module _ (error : PathError) where
  -- the number and the value of the refusal
  abbrev told : ScionAnswer
  told = record { number = path_number error; value = path_value error }

  pub path_answer_refused : path_answer_out (Err error) ≡ record { answer = told; path = zeros }
  unfolding path_answer_out answer_out meta_of nth_field
  path_answer_refused = refl

  pub written_path_refused : written_path_out (Err error) ≡ record { answer = told; path = zeros; length = 0 }
  unfolding written_path_out answer_out meta_of nth_field
  written_path_refused = refl

  pub info_field_refused : (bytes : List ℕ) → info_field_out bytes (Err error)
      ≡ record { answer = told; path = zeros; start = 0; flags = 0; reserved = 0; accumulator = 0; timestamp = 0 }
  unfolding info_field_out answer_out meta_of nth_field new_info_field zero_info_field
  info_field_refused bytes = refl

  pub hop_field_refused : (bytes : List ℕ) → hop_field_out bytes (Err error)
      ≡ record { answer = told; path = zeros; start = 0; flags = 0; exp_time = 0; cons_ingress = 0; cons_egress = 0; mac = replicate 6 0 }
  unfolding hop_field_out answer_out meta_of nth_field new_hop_field zero_hop_field
  hop_field_refused bytes = refl

  pub segment_refused : segment_out (Err error) ≡ record { answer = told; path = zeros; info_field = none; hop_fields = none }
  unfolding segment_out answer_out meta_of nth_field
  segment_refused = refl

  pub expiry_refused : expiry_out (Err error) ≡ record { answer = told; path = zeros; ms = 0 }
  unfolding expiry_out answer_out meta_of nth_field
  expiry_refused = refl

  pub time_left_refused : time_left_out (Err error) ≡ record { answer = told; path = zeros; ms = pos 0 }
  unfolding time_left_out answer_out meta_of nth_field
  time_left_refused = refl

  pub interface_count_refused : interface_count_out (Err error) ≡ record { answer = told; path = zeros; count = 0 }
  unfolding interface_count_out answer_out meta_of nth_field
  interface_count_refused = refl

  pub interface_refused : interface_out (Err error) ≡ record { answer = told; path = zeros; hop_field = 0; id = 0 }
  unfolding interface_out answer_out meta_of nth_field
  interface_refused = refl

  pub walk_refused : walk_out (Err error) ≡ record { answer = told; path = zeros; moves = 0; arrived = false }
  unfolding walk_out answer_out meta_of nth_field
  walk_refused = refl
