-- The rules of moves (the draft's processing at routers): whose code a move takes in, and which paths can be moved.
-- Move, owner and spared are document 01's words.
use Rattle.std.specs.Prelude.{ℕ, zero, suc, ◌+◌, Bool, false, cond, not, ◌&&◌, ◌||◌, List, leb, eqb, Result, Ok}
use Rattle.wire_encoding.specs.Result.{require, ◌>>◌, ◌>>=◌}
use Rattle.path_fields.specs.Fields.{constructed_dir, peering}
use Rattle.path_fields.specs.declared.InfoField.{InfoField}
use Rattle.path_meta_header.specs.MetaHeader.{info_fields_count, hop_fields_count}
use Rattle.path_meta_header.specs.declared.PathMetaHeader.{PathMetaHeader}
use Rattle.errors.specs.declared.path_error.PathError.{PathError}
use Rattle.errors.specs.declared.path_error.PathError.TheVariants.{TooManyHopFields, PeeringNotOnBoth}
use Rattle.path.specs.Standard.{info_at, peering_path}
use Rattle.path.specs.Dataplane.{standard}

-- the owner of the move from hop field h to h + 1 inside a segment: h in construction direction, else h + 1
unfoldable pub owner_of : InfoField → ℕ → ℕ
owner_of info h = cond (constructed_dir info) h (h + 1)

-- peering spares the owners s0 − 1 and s0
unfoldable pub spared : InfoField → ℕ → ℕ → Bool
spared info owner s0 = peering info && (eqb (owner + 1) s0 || eqb owner s0)

-- peering is set on one of the first n info fields
unfoldable pub some_peering : List ℕ → ℕ → Bool
some_peering bytes zero = false
some_peering bytes (suc n) = some_peering bytes n || peering (info_at bytes n)

-- peering is set on no info field, or the path is a peering path
unfoldable pub peering_allowed : List ℕ → PathMetaHeader → Bool
peering_allowed bytes m = not (some_peering bytes (info_fields_count m)) || peering_path bytes m

-- where moves and walks begin: reading, 8 for every type but 1, 13, 14
unfoldable pub movable : ℕ → List ℕ → Result PathMetaHeader PathError
movable type bytes = do
  m ← standard type bytes
  require (leb (hop_fields_count m) 64) TooManyHopFields
  require (peering_allowed bytes m) PeeringNotOnBoth
  Ok m
