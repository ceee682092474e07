-- Request 2026-08: the destination of a copy and of a reversal may be longer than the path. What is promised of both calls, by the length of
-- the destination; what each writes of a path is a parameter.
use Rattle.std.specs.Prelude.{ℕ, ◌≤◌, ◌<◌, ◌≡◌, cond, ◌||◌, List, ◌++◌, length, take, drop, eqb, Result, Ok, Err}
use Rattle.wire_encoding.specs.Result.{require, ◌>>◌, ◌>>=◌, mapped, refusing}
use Rattle.errors.specs.declared.path_error.PathError.{PathError}
use Rattle.errors.specs.declared.path_error.PathError.TheVariants.{Decode, InadequateBufferSize}
use Rattle.path.specs.Standard.{read_record}
use Rattle.path.specs.declared.dataplane.Extent.{Extent}
use Rattle.path.specs.Dataplane.{read_dataplane, contents, written_answer}
use Rattle.path.specs.declared.standard.StandardPath.{StandardPath}
use Rattle.path_reverse.specs.Copy.{Written, copy, front, contents_after, written_path}
use Rattle.path_reverse.specs.Reverse.{reversed_bytes, reverse}

-- a call that writes a path of some type into a destination, and the bytes that it writes of a path that was read
abbrev pub Call : Type 0
Call = ℕ → List ℕ → List ℕ → Result Written PathError

abbrev pub Bytes : Type 0
Bytes = ℕ → Extent → List ℕ → List ℕ

-- a copy writes the path's own bytes
abbrev pub own_bytes : Bytes
own_bytes type read bytes = take read.length bytes

-- THE RULE FOR A DESTINATION OF EXACTLY THE PATH'S LENGTH: 9 for every other; an empty path disregards its destination
unfoldable pub exactly : Bytes → ℕ → List ℕ → List ℕ → Result (List ℕ) PathError
exactly written type bytes dst = do
  read ← refusing Decode (read_dataplane type bytes)
  require (eqb type 0 || eqb (length dst) (length (written type read bytes))) InadequateBufferSize
  Ok (cond (eqb type 0) dst (written type read bytes))

-- the destination is not longer than the path; nothing is asked where the path is empty or is not read
abbrev pub NotLonger : ℕ → List ℕ → List ℕ → Type 0
NotLonger type bytes dst = (read : Extent) → read_dataplane type bytes ≡ Ok read → (type ≡ 0 → ⊥) → length dst ≤ read.length

-- an answer without its length
abbrev pub without_length : Result Extent PathError → Result StandardPath PathError
without_length r = mapped (λ (written : Extent). written.path) r

-- WHAT IS PROMISED OF A CALL

pub record Destinations (call : Call) (written : Bytes) : Type 0 where
  -- what is written has as many bytes as were read
  pub long : (type : ℕ) (bytes : List ℕ) (read : Extent) → read_dataplane type bytes ≡ Ok read
      → length (written type read bytes) ≡ read.length
  -- "A turn or copy into more bytes than needed now succeeds, writing the front and leaving the remainder"
  pub enough : (type : ℕ) (bytes dst : List ℕ) (read : Extent) → read_dataplane type bytes ≡ Ok read → read.length ≤ length dst
      → call type bytes dst ≡ Ok (record { length = read.length; left = written type read bytes ++ drop read.length dst })
  -- "9 remains for fewer"
  pub fewer : (type : ℕ) (bytes dst : List ℕ) (read : Extent) → read_dataplane type bytes ≡ Ok read → length dst < read.length
      → call type bytes dst ≡ Err InadequateBufferSize
  -- an empty path disregards its destination
  pub empty : (bytes dst : List ℕ) → call 0 bytes dst ≡ Ok (record { length = 0; left = dst })
  -- "Exact-size calls answer as before", and so do those into fewer bytes, and those of empty paths: answer, record and contents
  pub as_before : (type : ℕ) (bytes dst : List ℕ) → NotLonger type bytes dst
      → (without_length (written_path type (call type bytes dst)) ≡ written_answer type (exactly written type bytes dst))
      × (contents_after (call type bytes dst) dst ≡ contents (exactly written type bytes dst) dst)
  -- the front is the path that is written, nothing changes behind it, and the destination keeps its length
  pub in_front : (type : ℕ) (bytes dst : List ℕ) (read : Extent) (w : Written) → read_dataplane type bytes ≡ Ok read
      → call type bytes dst ≡ Ok w
      → (front w ≡ written type read bytes) × (drop w.length w.left ≡ drop w.length dst) × (length w.left ≡ length dst)
  -- the destination as a whole is read as the front is
  pub read_whole : (bytes dst : List ℕ) (w : Written) → call 1 bytes dst ≡ Ok w → read_record w.left ≡ read_record (front w)

abbrev pub CopyDestinations : Type 0
CopyDestinations = Destinations copy own_bytes

abbrev pub ReversalDestinations : Type 0
ReversalDestinations = Destinations reverse reversed_bytes

-- a theorem: "fixed 2,304-byte buffers" have room for every standard path, of 4 + 3 · 8 + 3 · 63 · 12 bytes at most
abbrev pub LongestPath : Type 0
LongestPath = (bytes : List ℕ) (read : Extent) → read_dataplane 1 bytes ≡ Ok read → read.length ≤ 2296
