-- What a copy and a reversal hand back and leave, by what reading finds and by the size of the destination.
-- Assumes nothing.
use Prim.Native.Nat.{ℕ, ◌≤◌, ◌<◌}
use mathlib.Core.Path.{◌≡◌, refl, ap, ◌∙◌}
use mathlib.Core.Bool.{true}
use mathlib.Core.List.{List, ◌++◌}
use native.Mathlib.Nat.{le_refl}
use native.Mathlib.Omega.{arith}
use lib.ListN.{length, take, drop}
use Rattle.std.specs.Prelude.{⊤, Result, Ok, Err}
use Rattle.std.specs.Result.{IsOk}
use Rattle.wire_encoding.specs.declared.write.InadequateBufferSize.{InadequateBufferSize as NoRoom}
use Rattle.wire_encoding.specs.Answers.{put_answer}
use Rattle.wire_encoding.specs.BigEndian.{written}
use Rattle.wire_encoding.proofs.Writes.{done, front-written, put_done}
use Rattle.errors.specs.declared.path_error.PathError.TheVariants.{InadequateBufferSize}
use Rattle.path_meta_header.specs.MetaHeader.{path_length}
use Rattle.path_meta_header.specs.Reversal.{reversed_meta}
use Rattle.path_meta_header.specs.Encoding.{meta_fits}
use Rattle.path_meta_header.specs.declared.PathMetaHeader.{PathMetaHeader}
use Rattle.path.specs.Standard.{read_record}
use Rattle.path.specs.declared.dataplane.Extent.{Extent}
use Rattle.path.specs.Dataplane.{read_dataplane}
use Rattle.path.specs.declared.standard.StandardPath.{StandardPath}
use Rattle.path.proofs.Reading.{Readable, record_readable, path_given, length_inside, length_front}
use Rattle.path_reverse.specs.Copy.{copy, contents_after, written_path}
use Rattle.path_reverse.specs.Reverse.{reversed_path, reverse}
use Rattle.path_reverse.proofs.Copy.{put_in_front, into_enough, into_fewer, front_run}
use Rattle.path_reverse.proofs.Reverse.{reversible, front_reversed, reverse_copies, reverse_enough, reverse_fewer, reverse_refused}
use Rattle.path_reverse.proofs.Expiry.{path_copied, path_reversed}

-- A COPY
module _ (type : ℕ) (bytes dst : List ℕ) {read : Extent} (h : read_dataplane type bytes ≡ Ok read) where
  pub copy_fewer : length dst < read.length → copy type bytes dst ≡ Err InadequateBufferSize
  unfolding copy
  copy_fewer short = rw (h, into_fewer (take read.length bytes) dst (length_front bytes type h) short)

  copy_enough : read.length ≤ length dst → copy type bytes dst ≡ Ok (put_in_front (take read.length bytes) dst read.length)
  unfolding copy
  copy_enough room = rw (h, into_enough (take read.length bytes) dst (length_front bytes type h) room)

  -- there is room for the bytes, and they stand in front
  pub copy_put : read.length ≤ length dst → {put : Result ⊤ NoRoom} → put ≡ put_answer (written dst 0 (take read.length bytes)) → IsOk put
  copy_put room e = put_done dst 0 (take read.length bytes) (omega (arith, length_front bytes type h)) e

  pub copy_answer : read.length ≤ length dst → Ok read ≡ written_path type (copy type bytes dst)
  unfolding written_path
  copy_answer room =
      rw (copy_enough room, front_run (take read.length bytes) dst (length_front bytes type h), path_copied type bytes h, path_given type bytes h) refl

  pub copy_written : read.length ≤ length dst → written dst 0 (take read.length bytes) ≡ Ok (take read.length bytes ++ drop read.length dst)
  copy_written room =
      let run : List ℕ = take read.length bytes in
      let long = length_front bytes type h in
      done dst 0 run read.length long (omega arith) ∙ ap Ok (front-written run dst read.length long room)

  pub copy_left : read.length ≤ length dst → take read.length bytes ++ drop read.length dst ≡ contents_after (copy type bytes dst) dst
  copy_left room = rw (copy_enough room) refl

-- A REVERSAL OF A STANDARD PATH
module _ (bytes dst : List ℕ) {path : StandardPath} (h : read_record bytes ≡ Ok path) where
  abbrev m : PathMetaHeader
  m = path.meta_header

  known : Readable bytes m
  known = record_readable bytes h

  pub turn_fits : meta_fits (reversed_meta path.meta_header) ≡ true
  turn_fits = (reversible known (le_refl (path_length m))).fits

  pub turn_whole : path_length path.meta_header ≤ length bytes
  turn_whole = known.whole

  pub turn_fewer : length dst < path_length path.meta_header → reverse 1 bytes dst ≡ Err InadequateBufferSize
  turn_fewer short = reverse_fewer bytes dst known short

  pub turn_answer : path_length path.meta_header ≤ length dst
      → Ok (record {
        path = record { meta_header = reversed_meta path.meta_header; expiry = path.expiry };
        length = path_length path.meta_header;
      })
      ≡ written_path 1 (reverse 1 bytes dst)
  unfolding written_path
  turn_answer room = rw (reverse_enough bytes dst known room, front_reversed bytes dst known, path_reversed bytes h) refl

  pub turn_left : path_length path.meta_header ≤ length dst
      → reversed_path path.meta_header bytes ++ drop (path_length path.meta_header) dst ≡ contents_after (reverse 1 bytes dst) dst
  turn_left room = rw (reverse_enough bytes dst known room) refl

-- what the two functions cite
pub ruleset copies = (copy_fewer, copy_put, copy_written, copy_answer, copy_left, length_inside, length_front)

pub ruleset turns = (turn_fits, turn_whole, turn_fewer, turn_answer, turn_left, reverse_copies, reverse_refused)
