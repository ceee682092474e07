-- What the test for a segment's place says.
-- Assumes nothing.
use Prim.Native.Nat.{ℕ, ◌<◌, ◌≤◌}
use mathlib.Core.Path.{◌≡◌}
use mathlib.Core.Bool.{true, and-eq-true_iff}
use mathlib.Core.List.{List}
use lib.ListN.{length}
use borrow.Author.Tests.{lt-ltb, le-leb, ltb-true, leb-true}
use Rattle.path_meta_header.specs.MetaHeader.{info_fields_count, path_length}
use Rattle.path_meta_header.specs.declared.PathMetaHeader.{PathMetaHeader}
use Rattle.path_least_expiry.specs.Expiry.{is_there, segment_expiry, segment_expiry_or_zero, path_expiry, path_expiry_or_zero}

module _ (bytes : List ℕ) (m : PathMetaHeader) (k : ℕ) where
  pub there : is_there bytes m k ≡ true → (k < info_fields_count m) × (path_length m ≤ length bytes)
  unfolding is_there
  there h =
      let both = (and-eq-true_iff _ _).0 h in
      (ltb-true k (info_fields_count m) both.0, leb-true (path_length m) (length bytes) both.1)

  is_there_lem : k < info_fields_count m → path_length m ≤ length bytes → is_there bytes m k ≡ true
  unfolding is_there
  is_there_lem below whole = rw (lt-ltb k (info_fields_count m) below, le-leb (path_length m) (length bytes) whole)

  -- of a path that was read the expiry is found
  pub segment_found : k < info_fields_count m → path_length m ≤ length bytes → segment_expiry_or_zero bytes m k ≡ segment_expiry bytes m k
  unfolding segment_expiry_or_zero
  segment_found below whole = rw (is_there_lem below whole)

pub path_found : (bytes : List ℕ) (m : PathMetaHeader) → 0 < info_fields_count m → path_length m ≤ length bytes
    → path_expiry_or_zero bytes m ≡ path_expiry bytes m
unfolding path_expiry_or_zero
path_found bytes m some whole = rw (is_there_lem bytes m 0 some whole)
