-- Expiry in ms: of a hop field, of a segment, of a path.
use Rattle.std.specs.Prelude.{ℕ, zero, suc, ◌+◌, ◌*◌, ◌-◌, ◌≤◌, ◌<◌, min, Bool, ◌&&◌, cond, List, length, get_or, ltb, leb}
use Rattle.path_meta_header.specs.MetaHeader.{info_fields_count, first_hop_field, segment_length, path_length, info_start, hop_start}
use Rattle.path_meta_header.specs.declared.PathMetaHeader.{PathMetaHeader}
use Rattle.path_fields.specs.Fields.{info_field_at, hop_field_at, expiry_time}

-- the least of f 0, f 1, .. f last
unfoldable pub least : (ℕ → ℕ) → ℕ → ℕ
least f zero = f 0
least f (suc last) = min (least f last) (f (suc last))

-- the expiry of hop field j of segment k
unfoldable pub hop_expiry : List ℕ → PathMetaHeader → ℕ → ℕ → ℕ
hop_expiry bytes m k j =
    expiry_time (info_field_at bytes (info_start k)).timestamp (hop_field_at bytes (hop_start m (first_hop_field m k + j))).exp_time

-- of segment k: the least of its hop fields'
unfoldable pub segment_expiry : List ℕ → PathMetaHeader → ℕ → ℕ
segment_expiry bytes m k = least (hop_expiry bytes m k) (segment_length m k - 1)

-- of the path: the least of its segments'
unfoldable pub path_expiry : List ℕ → PathMetaHeader → ℕ
path_expiry bytes m = least (segment_expiry bytes m) (info_fields_count m - 1)

-- a theorem: no hop field expires before its path
abbrev pub NoneBefore : Type 0
NoneBefore =
    (bytes : List ℕ) (m : PathMetaHeader) (k j : ℕ) → k < info_fields_count m → j < segment_length m k → path_expiry bytes m ≤ hop_expiry bytes m k j

-- the least expiry that a hop field can have: timestamp 0 and expiry byte 0
abbrev pub least_expiry : ℕ
least_expiry = 337500

-- a theorem: none is below it
abbrev pub NoneBelow : Type 0
NoneBelow = (bytes : List ℕ) (m : PathMetaHeader) → least_expiry ≤ path_expiry bytes m

-- the largest expiry that a hop field can have: the largest timestamp and the largest expiry byte
abbrev pub largest_expiry : ℕ
largest_expiry = 4295053695000

-- a theorem: of bytes, no expiry is above it
abbrev pub NoneAbove : Type 0
NoneAbove = (bytes : List ℕ) (m : PathMetaHeader) → ((i : ℕ) → get_or bytes i 0 < 256) → path_expiry bytes m ≤ largest_expiry

-- WHAT THE CODE GOES BY

-- segment k is there, and all fields of the path are among the bytes
unfoldable pub is_there : List ℕ → PathMetaHeader → ℕ → Bool
is_there bytes m k = ltb k (info_fields_count m) && leb (path_length m) (length bytes)

-- the same expiries, 0 where this is not so
unfoldable pub segment_expiry_or_zero : List ℕ → PathMetaHeader → ℕ → ℕ
segment_expiry_or_zero bytes m k = cond (is_there bytes m k) (segment_expiry bytes m k) 0

unfoldable pub path_expiry_or_zero : List ℕ → PathMetaHeader → ℕ
path_expiry_or_zero bytes m = cond (is_there bytes m 0) (path_expiry bytes m) 0

-- the expiry byte of hop field j of a run of hop fields at `at`
abbrev pub exp_time_at : List ℕ → ℕ → ℕ → ℕ
exp_time_at bytes at j = get_or bytes (at + j * 12 + 1) 0
