-- The interfaces of a path in the order of travel: each link between two hop fields has two, the egress of the one and the ingress of
-- the other.
use Rattle.std.specs.Prelude.{ℕ, ◌+◌, ◌-◌, ◌*◌, ◌/◌, ◌%◌, ◌≤◌, ◌<◌, ◌≡◌, true, false, cond, List, length, ltb, eqb, Result, Ok}
use Rattle.wire_encoding.specs.Result.{require, ◌>>◌, ◌>>=◌, mapped}
use Rattle.path_meta_header.specs.MetaHeader.{info_fields_count, hop_fields_count, segment_of, interfaces_count, link_end, hop_field_of, hop_start}
use Rattle.path_meta_header.specs.declared.PathMetaHeader.{PathMetaHeader}
use Rattle.path_fields.specs.Fields.{Interface, ingress_interface, egress_interface}
use Rattle.errors.specs.declared.path_error.PathError.{PathError}
use Rattle.errors.specs.declared.path_error.PathError.TheVariants.{NoSuchField}
use Rattle.path.specs.Dataplane.{standard}
use Rattle.path_interfaces.specs.declared.InterfaceAt.{InterfaceAt}
use Rattle.path.specs.Standard.{info_at, hop_at, peering_path}

-- how many there are: 2 · (N − 1) on a peering path, whose segments a link joins too; on other paths the header's 2 · (N − I)
unfoldable pub count_on : List ℕ → PathMetaHeader → ℕ
count_on bytes m = cond (peering_path bytes m) ((hop_fields_count m - 1) * 2) (interfaces_count m)

unfoldable pub interfaces_in : ℕ → List ℕ → Result ℕ PathError
interfaces_in type bytes = do
  m ← standard type bytes
  Ok (count_on bytes m)

-- the hop field that interface i belongs to: i / 2 rounded up on a peering path, on other paths the header's; 8 where there is none
unfoldable pub hop_field_on : List ℕ → PathMetaHeader → ℕ → Result ℕ PathError
hop_field_on bytes m i = do
  require (ltb i (count_on bytes m)) NoSuchField
  Ok (cond (peering_path bytes m) ((i + 1) / 2) (link_end m i))

-- the egress and the ingress of hop field j, in the direction of its segment
abbrev pub egress_at : List ℕ → PathMetaHeader → ℕ → Interface
egress_at bytes m j = egress_interface (info_at bytes (segment_of m j)) (hop_at bytes m j)

abbrev pub ingress_at : List ℕ → PathMetaHeader → ℕ → Interface
ingress_at bytes m j = ingress_interface (info_at bytes (segment_of m j)) (hop_at bytes m j)

-- of hop field j: even i is its egress, odd its ingress
unfoldable pub interface_at : List ℕ → PathMetaHeader → ℕ → ℕ → Interface
interface_at bytes m j i = cond (eqb (i % 2) 0) (egress_at bytes m j) (ingress_at bytes m j)

-- interface i and its hop field
unfoldable pub interface_in : ℕ → List ℕ → ℕ → Result InterfaceAt PathError
interface_in type bytes i = do
  m ← standard type bytes
  j ← hop_field_on bytes m i
  Ok (record { hop_field = j; interface = interface_at bytes m j i })

-- hop field j and its segment's info field are among the bytes
pub record hop_is_there (bytes : List ℕ) (m : PathMetaHeader) (j : ℕ) : Type 0 where
  pub hop_inside : hop_start m j + 12 ≤ length bytes
  pub segment_inside : segment_of m j < info_fields_count m

-- LINKS: each has its two indexes, and every index is of a link

-- link l joins hop fields j and j + 1: index 2l is the egress of the one, index 2l + 1 the ingress of the other
pub record Joins (bytes : List ℕ) (m : PathMetaHeader) (l j : ℕ) : Type 0 where
  pub egress : interface_in 1 bytes (2 * l) ≡ Ok (record { hop_field = j; interface = egress_at bytes m j })
  pub ingress : interface_in 1 bytes (2 * l + 1) ≡ Ok (record { hop_field = j + 1; interface = ingress_at bytes m (j + 1) })

-- a theorem: link l of a peering path joins hop fields l and l + 1, the middle two among them; on other paths, hop fields j and j + 1 of
-- one segment k are joined by link j − k
abbrev pub EveryLink : Type 0
EveryLink =
    (bytes : List ℕ) (m : PathMetaHeader) → standard 1 bytes ≡ Ok m
    → (peering_path bytes m ≡ true → (l : ℕ) → l + 1 < hop_fields_count m → Joins bytes m l l)
    × (peering_path bytes m ≡ false → (j k : ℕ) → j + 1 < hop_fields_count m → segment_of m j ≡ k → segment_of m (j + 1) ≡ k
    → Joins bytes m (j - k) j)

-- index i is of link i / 2, which joins the neighbouring hop fields j and j + 1; unless the path is a peering path, both are of one segment
pub record OfLink (bytes : List ℕ) (m : PathMetaHeader) (i j : ℕ) : Type 0 where
  pub joins : Joins bytes m (i / 2) j
  pub inside : j + 1 < hop_fields_count m
  pub one_segment : peering_path bytes m ≡ false → segment_of m (j + 1) ≡ segment_of m j

-- a theorem, the other way round: every index that is accepted is of a link, whose first hop field is the index's own if the index is
-- even, else the one before it
abbrev pub EveryIndex : Type 0
EveryIndex =
    (bytes : List ℕ) (m : PathMetaHeader) → standard 1 bytes ≡ Ok m → (i : ℕ) (place : InterfaceAt) → interface_in 1 bytes i ≡ Ok place
    → OfLink bytes m i (place.hop_field - i % 2)

-- a theorem: other paths than peering paths have the header's count and its hop fields
abbrev pub OtherPaths : Type 0
OtherPaths =
    (type : ℕ) (bytes : List ℕ) (m : PathMetaHeader) → standard type bytes ≡ Ok m → peering_path bytes m ≡ false
    → (interfaces_in type bytes ≡ Ok (interfaces_count m))
    × ((i : ℕ) → mapped (λ (place : InterfaceAt). place.hop_field) (interface_in type bytes i) ≡ hop_field_of m i)
