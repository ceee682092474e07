-- The draft's SCION Path Type: a Path Meta Header, its Info Fields, its Hop Fields; and what reading one finds.
use Rattle.std.specs.Prelude.{Bool, ◌&&◌, List, ℕ, length, leb, eqb, Result, Ok}
use Rattle.wire_encoding.specs.Result.{require, ◌>>◌, ◌>>=◌, mapped}
use Rattle.path_meta_header.specs.MetaHeader.{meta_of, info_fields_count, info_start, hop_start, path_length, read_meta}
use Rattle.path_meta_header.specs.declared.PathMetaHeader.{PathMetaHeader}
use Rattle.path_fields.specs.Fields.{info_field_at, hop_field_at, peering}
use Rattle.path_fields.specs.declared.InfoField.{InfoField}
use Rattle.path_fields.specs.declared.HopField.{HopField}
use Rattle.errors.specs.declared.packet_error.DecodeError.{DecodeError}
use Rattle.errors.specs.declared.packet_error.DecodeError.TheVariants.{PacketEmptyOrTruncated}
use Rattle.errors.specs.declared.path_error.PathError.{PathError}
use Rattle.path_least_expiry.specs.Expiry.{path_expiry}
use Rattle.path.specs.declared.standard.StandardPath.{StandardPath}
use Rattle.path.specs.declared.standard.Found.{Found}

-- reading the path that begins bytes: its meta header, then 8 · I + 12 · N bytes more; the bytes after it are no part of it
unfoldable pub read_path : List ℕ → Result PathMetaHeader DecodeError
read_path bytes = do
  m ← read_meta bytes
  require (leb (path_length m) (length bytes)) PacketEmptyOrTruncated
  Ok m

-- info field k and hop field j of a path's bytes
abbrev pub info_at : List ℕ → ℕ → InfoField
info_at bytes k = info_field_at bytes (info_start k)

abbrev pub hop_at : List ℕ → PathMetaHeader → ℕ → HopField
hop_at bytes m j = hop_field_at bytes (hop_start m j)

-- there are two info fields, n being their number, and both have peering
unfoldable pub both_peering : List ℕ → ℕ → Bool
both_peering bytes n = eqb n 2 && (peering (info_at bytes 0) && peering (info_at bytes 1))

-- a peering path: I is 2, and both info fields have peering
unfoldable pub peering_path : List ℕ → PathMetaHeader → Bool
peering_path bytes m = both_peering bytes (info_fields_count m)

-- THE RECORD of a path: its header, and when the path expires. It is made here alone
abbrev pub path_under : List ℕ → PathMetaHeader → StandardPath
path_under bytes m = record { meta_header = m; expiry = path_expiry bytes m }

-- zeros, where a path is refused or is not a standard path: an expiry of 0 is none
abbrev pub no_path : StandardPath
no_path = record { meta_header = meta_of 0; expiry = 0 }

-- what reading finds is its record
unfoldable pub read_record : List ℕ → Result StandardPath DecodeError
read_record bytes = do
  m ← read_path bytes
  Ok (path_under bytes m)

-- what is found of a path, beside its record
abbrev pub beside : {A : Type 0} → StandardPath → Result A PathError → Result (Found A) PathError
beside path r = mapped (λ value. record { path = path; value = value }) r
