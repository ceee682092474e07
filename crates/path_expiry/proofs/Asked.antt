-- By its bytes, a path's expiry and the time left are what its record tells: reading stores the expiry, which is bounded.
-- Assumes nothing.
use Prim.Native.Nat.{ℕ, ◌≤◌, ◌<◌}
use mathlib.Core.Path.{◌≡◌, refl, ap}
use mathlib.Core.List.{List}
use lib.ListN.{get_or}
use borrow.Author.Tests.{le-leb}
use Rattle.std.specs.Prelude.{Result, Ok, Err}
use Rattle.wire_encoding.specs.Result.{mapped, and_then}
use Rattle.path_meta_header.specs.declared.PathMetaHeader.{PathMetaHeader}
use Rattle.errors.specs.declared.path_error.PathError.{PathError}
use Rattle.path_meta_header.specs.MetaHeader.{info_fields_count}
use Rattle.path_least_expiry.specs.Expiry.{path_expiry, largest_expiry, segment_expiry, segment_expiry_or_zero}
use Rattle.path_least_expiry.proofs.There.{segment_found}
use Rattle.path_least_expiry.proofs.Kept.{none_above}
use Rattle.path.specs.declared.standard.StandardPath.{StandardPath}
use Rattle.path.specs.TimeLeft.{time_left_of}
use Rattle.path.specs.Dataplane.{standard, path_of}
use Rattle.path.proofs.Reading.{standard-path, standard_readable}
use Rattle.path_expiry.specs.Expiry.{expiry_in, time_left_in, AskedOfTheRecord}

-- a path that was read
module _ (type : ℕ) (bytes : List ℕ) (m : PathMetaHeader) (read : standard type bytes ≡ Ok m) where
  -- its record has its expiry
  pub stored : (path_of type bytes).expiry ≡ path_expiry bytes m
  stored = ap (λ (path : StandardPath). path.expiry) (standard-path type bytes read)

  pub expiry_stored : expiry_in type bytes ≡ Ok (path_of type bytes).expiry
  unfolding expiry_in
  expiry_stored = rw (read, stored)

  -- which is within the record's own bound, so that this test is always met
  pub time_left_stored : (path_of type bytes).expiry ≤ largest_expiry → (now : ℕ) → time_left_in type bytes now ≡ time_left_of (path_of type bytes) now
  unfolding time_left_in time_left_of
  time_left_stored bounded now = rw (expiry_stored, le-leb _ _ bounded) refl

  -- the expiry of a segment that is there is found
  pub segment_there : (k : ℕ) → k < info_fields_count m → segment_expiry_or_zero bytes m k ≡ segment_expiry bytes m k
  segment_there k there = segment_found bytes m k there (standard_readable bytes type read).whole

  pub time_left_told : ((i : ℕ) → get_or bytes i 0 < 256) → (now : ℕ) → time_left_in type bytes now ≡ time_left_of (path_of type bytes) now
  time_left_told small = time_left_stored (rw stored (none_above bytes m small))

-- one that was not
neither : (type : ℕ) (bytes : List ℕ) {error : PathError} → standard type bytes ≡ Err error
    → (expiry_in type bytes ≡ Err error) × ((now : ℕ) → time_left_in type bytes now ≡ Err error)
unfolding expiry_in time_left_in
neither type bytes read = (rw read, λ now. rw read)

pub asked_of_the_record : AskedOfTheRecord
asked_of_the_record type bytes small = go (standard type bytes) refl
  where
    go : (r : Result PathMetaHeader PathError) → standard type bytes ≡ r
        → let found = mapped (λ _. path_of type bytes) (standard type bytes) in
        (expiry_in type bytes ≡ mapped (λ (path : StandardPath). path.expiry) found)
        × ((now : ℕ) → time_left_in type bytes now ≡ and_then found (λ path. time_left_of path now))
    go (Ok m) read =
        rw read (expiry_stored type bytes m read, time_left_told type bytes m read small)
    go (Err error) read = rw read (neither type bytes read)
