-- A path of any type written into a destination, and copying. Document 01's order for turning and copying: reading, then 9; request
-- 2026-08: 9 only where the destination is shorter than the path.
use Rattle.std.specs.Prelude.{ℕ, List, ◌++◌, length, take, drop, leb, Result, Ok}
use Rattle.wire_encoding.specs.Result.{require, ◌>>◌, ◌>>=◌, mapped, refusing}
use Rattle.errors.specs.declared.path_error.PathError.{PathError}
use Rattle.errors.specs.declared.path_error.PathError.TheVariants.{Decode, InadequateBufferSize}
use Rattle.path.specs.declared.dataplane.Extent.{Extent}
use Rattle.path.specs.Dataplane.{read_dataplane, contents, path_left, KeepsExpiry}

-- a path that was written: how many bytes it has, and what the destination then holds
pub record Written : Type 0 where
  pub length : ℕ
  pub left : List ℕ

-- a path's bytes into a destination of at least their length, "writing the front and leaving the remainder"; "9 remains for fewer"
unfoldable pub into : List ℕ → List ℕ → Result Written PathError
into run dst = do
  require (leb (length run) (length dst)) InadequateBufferSize
  Ok (record { length = length run; left = run ++ drop (length run) dst })

unfoldable pub copy : ℕ → List ℕ → List ℕ → Result Written PathError
copy type bytes dst = do
  read ← refusing Decode (read_dataplane type bytes)
  into (take read.length bytes) dst

-- "the front alone": of what the destination holds, as many bytes as the path has
abbrev pub front : Written → List ℕ
front written = take written.length written.left

-- what the destination holds after the call; a refusal changes nothing
abbrev pub contents_after : Result Written PathError → List ℕ → List ℕ
contents_after r dst = contents (mapped (λ (written : Written). written.left) r) dst

-- what is handed out: the record of the front, and its length
unfoldable pub written_path : ℕ → Result Written PathError → Result Extent PathError
written_path type r = mapped (λ (written : Written). record { path = path_left type (front written); length = written.length }) r

-- a theorem: the record of a copy fits it, and has the expiry of the path that was read
abbrev pub CopyKeepsExpiry : Type 0
CopyKeepsExpiry = (bytes dst : List ℕ) → KeepsExpiry bytes (mapped front (copy 1 bytes dst))
