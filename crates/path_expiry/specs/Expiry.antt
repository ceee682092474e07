-- The expiry of a path and of its segments, and the time left, by the path's bytes: reading, 8, 10.
use Rattle.std.specs.Prelude.{ℕ, ◌<◌, ◌≡◌, List, get_or, ℤ, ltb, leb, Result, Ok}
use Rattle.std.proofs.Math.IntN.{sub_ℕ}
use Rattle.wire_encoding.specs.Result.{require, and_then, ◌>>◌, ◌>>=◌, mapped}
use Rattle.path_meta_header.specs.MetaHeader.{info_fields_count}
use Rattle.errors.specs.declared.path_error.PathError.{PathError}
use Rattle.errors.specs.declared.path_error.PathError.TheVariants.{NoSuchField, NumberTooWide}
use Rattle.path_least_expiry.specs.Expiry.{segment_expiry, path_expiry}
use Rattle.path.specs.TimeLeft.{largest_time, time_left_of}
use Rattle.path.specs.Dataplane.{standard, path_of}
use Rattle.path.specs.declared.standard.StandardPath.{StandardPath}

-- of segment k; 8 where there is none
unfoldable pub segment_expiry_in : ℕ → List ℕ → ℕ → Result ℕ PathError
segment_expiry_in type bytes k = do
  m ← standard type bytes
  require (ltb k (info_fields_count m)) NoSuchField
  Ok (segment_expiry bytes m k)

unfoldable pub expiry_in : ℕ → List ℕ → Result ℕ PathError
expiry_in type bytes = do
  m ← standard type bytes
  Ok (path_expiry bytes m)

-- what is left of it at a time, which may be below zero; 10 for a time above its bound
unfoldable pub time_left_in : ℕ → List ℕ → ℕ → Result ℤ PathError
time_left_in type bytes now = do
  expiry ← expiry_in type bytes
  require (leb now largest_time) NumberTooWide
  Ok (sub_ℕ expiry now)

-- a theorem: both are what the record tells that reading hands back. It is bounded, so the record's own bound refuses none of these
abbrev pub AskedOfTheRecord : Type 0
AskedOfTheRecord =
    (type : ℕ) (bytes : List ℕ) → ((i : ℕ) → get_or bytes i 0 < 256)
    → let record_of = mapped (λ _. path_of type bytes) (standard type bytes) in
    (expiry_in type bytes ≡ mapped (λ (path : StandardPath). path.expiry) record_of)
    × ((now : ℕ) → time_left_in type bytes now ≡ and_then record_of (λ path. time_left_of path now))
