-- A peering path has two segments: that is one of its tests.
-- Assumes nothing.
use Prim.Native.Nat.{ℕ}
use mathlib.Core.Path.{◌≡◌}
use mathlib.Core.Bool.{true, and-eq-true_iff}
use mathlib.Core.List.{List}
use borrow.Author.Tests.{eqb-true}
use Rattle.path_meta_header.specs.MetaHeader.{info_fields_count}
use Rattle.path_meta_header.specs.declared.PathMetaHeader.{PathMetaHeader}
use Rattle.path.specs.Standard.{both_peering, peering_path}

pub two_segments : (bytes : List ℕ) (m : PathMetaHeader) → peering_path bytes m ≡ true → info_fields_count m ≡ 2
unfolding peering_path both_peering
two_segments bytes m peering = eqb-true (info_fields_count m) 2 ((and-eq-true_iff _ _).0 peering).0
