-- What the calls answer on a path that can be moved: it is read, it is moved before its last hop field and refused there, it is walked
-- with any limit, and it is reversed into the front of a destination that has room for it and into no other.
-- Assumes nothing.
use Prim.Native.Nat.{ℕ, ◌+◌, ◌≤◌, ◌<◌}
use mathlib.Core.Path.{◌≡◌, sym, ap, ◌∙◌}
use mathlib.Core.List.{List, ◌++◌, append-nil}
use native.Mathlib.Omega.{arith}
use lib.ListN.{length, drop_of_length-le}
use borrow.Author.Tests.{eq-eqb, ne_eqb}
use Rattle.std.specs.Prelude.{Ok, Err}
use Rattle.wire_encoding.specs.Result.{mapped}
use Rattle.path_meta_header.specs.MetaHeader.{hop_fields_count, path_length}
use Rattle.path_meta_header.specs.declared.PathMetaHeader.{PathMetaHeader}
use Rattle.errors.specs.declared.path_error.PathError.TheVariants.{AtLastHopField, InadequateBufferSize}
use Rattle.path.specs.Dataplane.{standard, meta_header_of}
use Rattle.path.proofs.Reading.{standard_readable, standard_read}
use Rattle.path_reverse.specs.Copy.{front}
use Rattle.path_reverse.specs.Reverse.{reversed_path, reverse}
use Rattle.path_reverse.proofs.Reverse.{reverse_enough, reverse_fewer, front_reversed}
use Rattle.path_moves.specs.Moves.{is_last, iterate, move, moved, walk_moves, walked}
use Rattle.path_moves.proofs.Sums.{Made, walk_made}
use Rattle.path_moves.specs.Rules.{movable}
use Rattle.path_moves.proofs.Rules.{known_movable}
use Rattle.round_trip.specs.RoundTrip.{reversed_into, Begun}
use Rattle.round_trip.proofs.Mirror.{Path}

-- the path begun with
pub path_begun : (b : List ℕ) → Begun b → Path b (meta_header_of b)
path_begun b g =
    record {
      known = record { path = standard_readable b 1 g.read; few = g.few; peering = g.peering };
      small = λ k. omega (arith, g.bytes k);
      exact = g.exact;
      clear = g.unreserved;
    }

module _ (x : List ℕ) (m : PathMetaHeader) (path : Path x m) where
  read : standard 1 x ≡ Ok m
  read = standard_read x m path.known.path

  pub read_accepted : standard 1 x ≡ Ok (meta_header_of x)
  unfolding meta_header_of
  read_accepted = read ∙ rw read

  able : movable 1 x ≡ Ok m
  able = known_movable x m path.known

  -- A MOVE

  pub move_accepted : m.current_hop_field + 1 < hop_fields_count m → move 1 x ≡ Ok (moved 1 x)
  unfolding move moved is_last
  move_accepted l = rw (able, ne_eqb (m.current_hop_field + 1) (hop_fields_count m) (λ e. omega arith))

  pub move_refused : hop_fields_count m ≡ m.current_hop_field + 1 → move 1 x ≡ Err AtLastHopField
  unfolding move is_last
  move_refused l = rw (able, eq-eqb (m.current_hop_field + 1) (hop_fields_count m) (sym l))

  -- A WALK

  pub walk_accepted : (limit : ℕ) → Made x m limit
  walk_accepted = walk_made x path.small m able

  pub walked_moves : (limit : ℕ) → walked 1 x limit ≡ iterate (walk_moves m limit) (moved 1) x
  unfolding walked
  walked_moves limit = rw (walk_accepted limit).is (walk_accepted limit).left

  -- A REVERSAL

  module _ (dst : List ℕ) where
    pub reverse_accepted : path_length m ≤ length dst → mapped front (reverse 1 x dst) ≡ Ok (reversed_path m x)
    reverse_accepted room = rw (reverse_enough x dst path.known.path room) (ap Ok (front_reversed x dst path.known.path))

    pub reverse_refused : length dst < path_length m → reverse 1 x dst ≡ Err InadequateBufferSize
    reverse_refused = reverse_fewer x dst path.known.path

    -- into a destination of its length nothing stands behind it
    pub reverse_exact : length dst ≡ path_length m → reversed_into x dst ≡ reversed_path m x
    unfolding reversed_into
    reverse_exact size =
        rw (reverse_enough x dst path.known.path (omega arith))
        (ap (λ (behind : List ℕ). reversed_path m x ++ behind) (drop_of_length-le dst {i = path_length m} (omega arith))
        ∙ append-nil (reversed_path m x))
