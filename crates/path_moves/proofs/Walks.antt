-- A walk, move by move: what is known after each move, and what is reported at the end.
-- Assumes nothing.
use Prim.Native.Nat.{ℕ, ◌+◌, ◌<◌}
use mathlib.Core.Path.{◌≡◌, refl, sym, ap, ◌∙◌}
use mathlib.Core.List.{List}
use native.Mathlib.Numerals.{add-one}
use native.Mathlib.Omega.{arith}
use Rattle.std.specs.Prelude.{Ok, Err}
use Rattle.wire_encoding.proofs.Lists.{Bytes}
use Rattle.path_meta_header.specs.MetaHeader.{hop_fields_count}
use Rattle.path_meta_header.specs.declared.PathMetaHeader.{PathMetaHeader}
use Rattle.errors.specs.declared.path_error.PathError.{PathError}
use Rattle.path_least_expiry.specs.Expiry.{path_expiry}
use Rattle.path.specs.declared.standard.StandardPath.{StandardPath}
use Rattle.path.specs.Dataplane.{path_of, path_answer}
use Rattle.path.proofs.Reading.{path_of_lem}
use Rattle.path.proofs.Kept.{path_kept}
use Rattle.path_moves.specs.Moves as spec
use Rattle.path_moves.specs.Rules.{movable}
use Rattle.path_moves.proofs.Moves.{counts_kept, moved_known, moved_is, expiry_moved}
use Rattle.path_moves.proofs.Rules.{known, known_movable, hop_inside, movable_refused, goes_on, movable_one}

-- a walk that began at bytes₀, under m₀, stands at `bytes`, under m, after so many moves
pub record Walking (bytes₀ : List ℕ) (m₀ : PathMetaHeader) (bytes : List ℕ) (m : PathMetaHeader) (moves : ℕ) : Type 0 where
  pub able : movable 1 bytes ≡ Ok m
  pub made : bytes ≡ spec.iterate moves (spec.moved 1) bytes₀
  pub gone : m.current_hop_field ≡ m₀.current_hop_field + moves
  pub count : hop_fields_count m ≡ hop_fields_count m₀
  pub lasts : path_expiry bytes m ≡ path_expiry bytes₀ m₀

pub begin : (bytes : List ℕ) (m : PathMetaHeader) → movable 1 bytes ≡ Ok m → Walking bytes m bytes m 0
begin bytes m able = record { able = able; made = refl; gone = omega arith; count = refl; lasts = refl }

module _ (bytes₀ : List ℕ) (m₀ : PathMetaHeader) (bytes : List ℕ) (m : PathMetaHeader) {moves : ℕ} (w : Walking bytes₀ m₀ bytes m moves) where
  pub can : m₀.current_hop_field + moves + 1 < hop_fields_count m₀ → spec.CanMove bytes m
  can h = record { able = w.able; before_last = omega (arith, h, w.gone, w.count) }

  pub next : Bytes bytes → m₀.current_hop_field + moves + 1 < hop_fields_count m₀ → {bytes' : List ℕ} {m' : PathMetaHeader}
      → m' ≡ spec.moved_meta bytes m → bytes' ≡ spec.move_bytes bytes m → Walking bytes₀ m₀ bytes' m' (moves + 1)
  unfolding spec.moved_meta spec.at_position spec.move_from spec.position_of
  next b h em eb =
      let c = can h in
      rw (em, eb) (record {
        able = known_movable (spec.move_bytes bytes m) (spec.moved_meta bytes m) (moved_known bytes m c b);
        made = rw (add-one moves, ← w.made) (sym (moved_is bytes m c));
        gone = omega (arith, w.gone);
        count = (counts_kept bytes m c).1 ∙ w.count;
        lasts = expiry_moved bytes m c ∙ w.lasts;
      })

  -- what `steps` hands back
  pub stands : movable 1 bytes₀ ≡ Ok m₀
      → (path_of 1 (spec.iterate moves (spec.moved 1) bytes₀) ≡ record { meta_header = m; expiry = (path_of 1 bytes₀).expiry })
      × (bytes ≡ spec.iterate moves (spec.moved 1) bytes₀)
  stands able₀ =
      let path₀ = (known 1 bytes₀ able₀).path in
      (rw (← w.made, path_of_lem bytes₀ m₀ path₀) (path_kept bytes₀ bytes m₀ m path₀ (known 1 bytes w.able).path w.lasts), w.made)

-- what `steps` cites
pub ruleset walking = (begin, hop_inside, can, stands)

-- a walk of n moves
pub way : (bytes : List ℕ) (m : PathMetaHeader) (limit : ℕ) → movable 1 bytes ≡ Ok m → {n : ℕ} → n ≡ spec.walk_moves m limit
    → spec.walk 1 bytes limit
    ≡ Ok (record { bytes = spec.iterate n (spec.moved 1) bytes; moves = n; arrived = spec.is_last m (m.current_hop_field + n) })
unfolding spec.walk
way bytes m limit able en = rw (able, ← en)

-- what a walk does where `movable` refuses the path, and where it hands back a record
pub walk_refused : (type : ℕ) (bytes : List ℕ) (limit : ℕ) {error : PathError} → path_answer (path_of type bytes) (movable type bytes) ≡ Err error
    → spec.walk type bytes limit ≡ Err error
unfolding spec.walk
walk_refused type bytes limit h = rw (movable_refused type bytes h)

module _ (type : ℕ) (bytes : List ℕ) {path : StandardPath} (h : path_answer (path_of type bytes) (movable type bytes) ≡ Ok path)
    (limit : ℕ) {n : ℕ} (en : n ≡ spec.walk_moves path.meta_header limit) where
  pub short : path.meta_header.current_hop_field + n < 64
  unfolding spec.walk_moves
  short = let inside = hop_inside bytes (movable_one type bytes h) in omega arith

  pub walk_left : spec.walked type bytes limit ≡ spec.iterate n (spec.moved 1) bytes
  unfolding spec.walked
  walk_left = rw ((goes_on type bytes h).0, way bytes path.meta_header limit (movable_one type bytes h) en)

  pub walk_told : {left : PathMetaHeader}
      → path_of 1 (spec.iterate n (spec.moved 1) bytes) ≡ record { meta_header = left; expiry = (path_of 1 bytes).expiry }
      → spec.walk_answer type (spec.walk type bytes limit)
      ≡ Ok (record {
        path = record { meta_header = left; expiry = path.expiry };
        moves = n;
        arrived = spec.is_last path.meta_header (path.meta_header.current_hop_field + n);
      })
  unfolding spec.walk_answer
  walk_told e =
      let known = goes_on type bytes h in
      rw (known.0, way bytes path.meta_header limit known.1 en, e, ap (λ (p : StandardPath). p.expiry) known.2)

-- what `walk` cites
pub ruleset walks = (walk_refused, movable_one, short, walk_left)
