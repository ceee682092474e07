-- The time left of a path's record: no bytes are looked at.
use Rattle.std.specs.Prelude.{ℕ, ℤ, leb, Result, Ok}
use Rattle.std.proofs.Math.IntN.{sub_ℕ}
use Rattle.wire_encoding.specs.Result.{require, ◌>>◌}
use Rattle.errors.specs.declared.path_error.PathError.{PathError}
use Rattle.errors.specs.declared.path_error.PathError.TheVariants.{NumberTooWide}
use Rattle.path_least_expiry.specs.Expiry.{largest_expiry}
use Rattle.path.specs.declared.standard.StandardPath.{StandardPath}

-- the largest time that is looked at
abbrev pub largest_time : ℕ
largest_time = 9000000000000

-- the stored expiry less a time, which may be below zero; 10 for an expiry above the largest that a path can have, or a time above its bound
unfoldable pub time_left_of : StandardPath → ℕ → Result ℤ PathError
time_left_of path now = do
  require (leb path.expiry largest_expiry) NumberTooWide
  require (leb now largest_time) NumberTooWide
  Ok (sub_ℕ path.expiry now)
