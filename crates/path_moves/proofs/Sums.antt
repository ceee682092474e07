-- A walk of a + b moves is a walk of a and then one of b: each move leaves a path that can be moved, one hop field on; a refused path
-- stays as it is.
-- Assumes nothing.
use Prim.Native.Nat.{ℕ, zero, suc, ◌+◌, ◌-◌, ◌*◌, ◌<◌, min}
use mathlib.Core.Path.{◌≡◌, refl, sym, ap, ◌∙◌, subst}
use mathlib.Core.List.{List}
use native.Mathlib.Numerals.{add-one}
use native.Mathlib.Omega.{arith}
use lib.Bits.{bit_xor}
use lib.ListN.{set}
use Rattle.wire_encoding.specs.BigEndian.{big_endian, bytes_of}
use Rattle.wire_encoding.proofs.BigEndian.{bytes_bytes_of}
use Rattle.wire_encoding.proofs.Lists.{Bytes, bytes_of_lem, bytes_set, bytes_sets}
use Rattle.path_meta_header.specs.MetaHeader.{hop_fields_count, info_start}
use Rattle.path_meta_header.specs.declared.PathMetaHeader.{PathMetaHeader}
use Rattle.std.specs.Prelude.{Result, Ok, Err}
use Rattle.errors.specs.declared.path_error.PathError.{PathError}
use Rattle.path_moves.specs.Moves.{CanMove, CountsAdd, Way, WalksAdd, applied, is_last, iterate, move_bytes, move_from, moved, moved_meta}
use Rattle.path_moves.specs.Moves.{position_of, walk, walk_count, walk_moves, walked}
use Rattle.path_moves.specs.Rules.{movable}
use Rattle.path_moves.proofs.Moves.{standing, fits, move-applied, moved_is, iterate_add}
use Rattle.path_moves.proofs.Rules.{type_one, hop_inside}
use Rattle.path_moves.proofs.Walks.{Walking, begin, can, next, way}

-- the walks of a and then of b moves make as many as the walk of a + b
abbrev CountAdds : ℕ → List ℕ → ℕ → ℕ → Type 0
CountAdds type bytes a b = walk_count type bytes (a + b) ≡ walk_count type bytes a + walk_count type (walked type bytes a) b

abbrev BytesAdd : ℕ → List ℕ → ℕ → ℕ → Type 0
BytesAdd type bytes a b = walked type bytes (a + b) ≡ walked type (walked type bytes a) b

-- A MOVE WRITES BYTES

pub bytes_moved : (bytes : List ℕ) (m : PathMetaHeader) → CanMove bytes m → Bytes bytes → Bytes (move_bytes bytes m)
unfolding applied
bytes_moved bytes m c old =
    let made = move_from bytes m (position_of m) in
    let small = fits bytes m c refl in
    let s = standing bytes m c in
    let byte : ℕ = made.position.current_info_field * 64 + made.position.current_hop_field in
    let at : ℕ = info_start m.current_info_field + 2 in
    let number : ℕ = bit_xor (big_endian 2 bytes at) made.change in
    subst (λ (l : List ℕ). Bytes l) (sym (move-applied bytes m old (omega arith)))
    (bytes_sets (bytes_of 2 number) (set bytes 0 byte) at (bytes_set bytes 0 byte old (omega arith)) (bytes_bytes_of 2 number))

-- A PATH THAT CAN BE MOVED

-- the second walk has the hop fields that the first left
least-sum : (a b last hop : ℕ) → min (a + b) (last - hop) ≡ min a (last - hop) + min b (last - (hop + min a (last - hop)))
least-sum a b last hop = omega arith

-- a walk that is accepted
pub record Made (bytes : List ℕ) (m : PathMetaHeader) (limit : ℕ) : Type 0 where
  pub gone : Way
  pub is : walk 1 bytes limit ≡ Ok gone
  pub count : gone.moves ≡ walk_moves m limit
  pub left : gone.bytes ≡ iterate (walk_moves m limit) (moved 1) bytes

-- the path after n moves
pub record After (bytes : List ℕ) (m : PathMetaHeader) (n : ℕ) : Type 0 where
  pub left : PathMetaHeader
  pub walking : Walking bytes m (iterate n (moved 1) bytes) left n
  pub kept : Bytes (iterate n (moved 1) bytes)

module _ (bytes : List ℕ) (small : Bytes bytes) (m : PathMetaHeader) (able : movable 1 bytes ≡ Ok m) where
  pub after : (n : ℕ) → m.current_hop_field + n < hop_fields_count m → After bytes m n
  after zero h = record { left = m; walking = begin bytes m able; kept = small }
  after (suc n) h = go (after n (omega arith))
    where
      go : After bytes m n → After bytes m (suc n)
      go before =
          let now = iterate n (moved 1) bytes in
          let at = before.left in
          let below : m.current_hop_field + n + 1 < hop_fields_count m = omega arith in
          let c : CanMove now at = can bytes m now at before.walking below in
          let step : moved 1 now ≡ move_bytes now at = moved_is now at c in
          record {
            left = moved_meta now at;
            walking =
                rw (← add-one n) (next bytes m now at before.walking before.kept below refl step);
            kept = rw step (bytes_moved now at c before.kept);
          }

  -- so a walk is accepted
  pub walk_made : (limit : ℕ) → Made bytes m limit
  walk_made limit =
      let n = walk_moves m limit in
      record {
        gone = record { bytes = iterate n (moved 1) bytes; moves = n; arrived = is_last m (m.current_hop_field + n) };
        is = way bytes m limit able refl;
        count = refl;
        left = refl;
      }

  walk_is : (limit : ℕ) → (walk_count 1 bytes limit ≡ walk_moves m limit) × (walked 1 bytes limit ≡ iterate (walk_moves m limit) (moved 1) bytes)
  unfolding walk_count walked
  walk_is limit = let made = walk_made limit in rw made.is (made.count, made.left)

module _ (bytes : List ℕ) (small : Bytes bytes) (m : PathMetaHeader) (able : movable 1 bytes ≡ Ok m) (a b : ℕ) where
  -- what the first walk leaves
  first : After bytes m (walk_moves m a)
  unfolding walk_moves
  first = after bytes small m able (walk_moves m a) (omega (arith, hop_inside bytes able))

  moves_sum : walk_moves m (a + b) ≡ walk_moves m a + walk_moves first.left b
  unfolding walk_moves
  moves_sum = let walk = first.walking in rw (walk.count, walk.gone) (least-sum a b (hop_fields_count m - 1) m.current_hop_field)

  sums_movable : CountAdds 1 bytes a b × BytesAdd 1 bytes a b
  sums_movable =
      let left = iterate (walk_moves m a) (moved 1) bytes in
      let whole = walk_is bytes small m able (a + b) in
      let one = walk_is bytes small m able a in
      let two = walk_is left first.kept first.left first.walking.able b in
      rw (whole.0, whole.1, one.0, one.1, two.0, two.1)
      (moves_sum, ap (λ (n : ℕ). iterate n (moved 1) bytes) moves_sum ∙ iterate_add (walk_moves m a) (walk_moves first.left b) (moved 1) bytes)

-- EVERY PATH

sums : (bytes : List ℕ) → Bytes bytes → (type a b : ℕ) → CountAdds type bytes a b × BytesAdd type bytes a b
unfolding walk_count walked walk
sums bytes small type a b = go (movable type bytes) refl
  where
    go : (r : Result PathMetaHeader PathError) → movable type bytes ≡ r → CountAdds type bytes a b × BytesAdd type bytes a b
    go (Ok m) e = let one = type_one type bytes e in rw one (sums_movable bytes small m (rw one at e) a b)
    go (Err error) e = rw e (rw e (refl, refl))

pub walks_add : WalksAdd
walks_add bytes small type a b = (sums bytes (bytes_of_lem bytes small) type a b).1

pub counts_add : CountsAdd
counts_add bytes small type a b = (sums bytes (bytes_of_lem bytes small) type a b).0
