-- Where a segment's fields lie.
-- Assumes nothing.
use Prim.Native.Nat.{ℕ, ◌+◌, ◌*◌, ◌<◌, ◌≤◌}
use mathlib.Core.List.{List}
use native.Mathlib.Omega.{arith}
use lib.ListN.{length}
use Rattle.path_meta_header.specs.MetaHeader.{info_fields_count, first_hop_field, segment_length, path_length, info_start, hop_start}
use Rattle.path_meta_header.specs.declared.PathMetaHeader.{PathMetaHeader}
use Rattle.path_meta_header.proofs.MetaHeader.{segment_within}

-- where segment k lies in the path's bytes
pub record Inside (bytes : List ℕ) (m : PathMetaHeader) (k : ℕ) : Type 0 where
  pub info : info_start k + 8 ≤ length bytes
  pub hops : hop_start m (first_hop_field m k) + segment_length m k * 12 ≤ length bytes
  pub one : 1 ≤ segment_length m k

-- a segment that is there, in bytes that hold the path
module _ (bytes : List ℕ) (m : PathMetaHeader) (k : ℕ) (there : k < info_fields_count m) (whole : path_length m ≤ length bytes) where
  pub inside : Inside bytes m k
  unfolding path_length
  inside =
      let w = segment_within m k there in
      record { info = omega arith; hops = omega (arith, w.1); one = w.0 }
