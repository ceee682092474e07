-- What is known of a path that can be moved: each test of the chain held. Where peering is set, the path is a peering path. A move has
-- the same owner from either end, spared or not.
-- Assumes nothing.
use Prim.Native.Nat.{ℕ, zero, suc, ◌+◌, ◌-◌, ◌≤◌, ◌<◌}
use mathlib.Core.Path.{◌≡◌, refl, sym, ap, ap₂, ◌∙◌}
use mathlib.Core.Bool.{Bool, true, false, cond, not, ◌&&◌, ◌||◌}
use mathlib.Core.List.{List}
use native.Mathlib.Omega.{arith}
use lib.Dec.{leb, eqb}
use lib.ListN.{length}
use borrow.Author.Tests.{le-leb, leb-true, eq-eqb, ne_eqb, eqb-true, eqb-false}
use Rattle.std.specs.Prelude.{Ok, Err}
use Rattle.wire_encoding.proofs.Result.{same_value, held, stepped, mapped_ok, mapped_refused}
use Rattle.wire_encoding.proofs.Lists.{by_lt}
use Rattle.path_fields.specs.Fields.{constructed_dir, peering}
use Rattle.path_fields.specs.declared.InfoField.{InfoField}
use Rattle.path_meta_header.specs.MetaHeader.{info_fields_count, hop_fields_count, path_length}
use Rattle.path_meta_header.specs.declared.PathMetaHeader.{PathMetaHeader}
use Rattle.errors.specs.declared.path_error.PathError.{PathError}
use Rattle.path.specs.Standard.{info_at}
use Rattle.path.specs.Dataplane.{standard, path_of, path_answer}
use Rattle.path.specs.declared.standard.StandardPath.{StandardPath}
use Rattle.path.proofs.Reading.{Readable, standard-path, standard_type, standard_readable, standard_read}
use Rattle.path.proofs.Peering.{two_segments}
use Rattle.path_moves.specs.Rules.{owner_of, spared, some_peering, peering_allowed, movable}

pub record Known (bytes : List ℕ) (m : PathMetaHeader) : Type 0 where
  pub path : Readable bytes m
  pub few : hop_fields_count m ≤ 64
  pub peering : peering_allowed bytes m ≡ true

module _ (type : ℕ) (bytes : List ℕ) {m : PathMetaHeader} (h : movable type bytes ≡ Ok m) where
  -- its type is 1
  pub type_one : type ≡ 1
  unfolding movable
  type_one = standard_type bytes type (stepped (standard type bytes) _ h).first

  pub movable-standard : standard type bytes ≡ Ok m
  unfolding movable
  movable-standard =
      let read = stepped (standard type bytes) _ h in
      let few = held (leb (hop_fields_count read.value) 64) _ _ read.then in
      read.first ∙ (held (peering_allowed bytes read.value) _ _ few.1).1

  pub known : Known bytes m
  unfolding movable
  known =
      let read = stepped (standard type bytes) _ h in
      let few = held (leb (hop_fields_count read.value) 64) _ _ read.then in
      let peering = held (peering_allowed bytes read.value) _ _ few.1 in
      let same : read.value ≡ m = cc in
      rw (← same) (record { path = standard_readable bytes type read.first; few = leb-true _ _ few.0; peering = peering.0 })

-- its hop field is one of 64 at most
pub hop_inside : (bytes : List ℕ) {m : PathMetaHeader} → movable 1 bytes ≡ Ok m → (m.current_hop_field < hop_fields_count m) × (hop_fields_count m ≤ 64)
hop_inside bytes h = let k = known 1 bytes h in (k.path.sound_meta.hop, k.few)

-- the other way round
pub known_movable : (bytes : List ℕ) (m : PathMetaHeader) → Known bytes m → movable 1 bytes ≡ Ok m
unfolding movable
known_movable bytes m k = rw (standard_read bytes m k.path, le-leb _ _ k.few, k.peering)

-- a standard path is whole
pub standard_whole : (type : ℕ) (bytes : List ℕ) {m : PathMetaHeader} → standard type bytes ≡ Ok m → path_length m ≤ length bytes
standard_whole type bytes h = (standard_readable bytes type h).whole

-- what a caller of `movable` knows
module _ (type : ℕ) (bytes : List ℕ) where
  pub movable_refused : {error : PathError} → path_answer (path_of type bytes) (movable type bytes) ≡ Err error → movable type bytes ≡ Err error
  unfolding path_answer
  movable_refused h = mapped_refused (λ _. path_of type bytes) (movable type bytes) h

  module _ {path : StandardPath} (h : path_answer (path_of type bytes) (movable type bytes) ≡ Ok path) where
    -- the record is that of the path, and holds the header that was read
    pub movable_ok : (movable type bytes ≡ Ok path.meta_header) × (path_of type bytes ≡ path)
    unfolding path_answer
    movable_ok =
        let able = mapped_ok (λ _. path_of type bytes) (movable type bytes) h in
        let same = same_value able.then in
        let header = ap (λ (p : StandardPath). p.meta_header) (sym (standard-path type bytes (movable-standard type bytes able.first)) ∙ same) in
        (able.first ∙ ap Ok header, same)

    -- so the path is a standard one
    pub goes_on : (type ≡ 1) × (movable 1 bytes ≡ Ok path.meta_header) × (path_of 1 bytes ≡ path)
    goes_on = let one = type_one type bytes movable_ok.0 in (one, rw one at movable_ok.0, rw one at movable_ok.1)

    pub movable_one : movable 1 bytes ≡ Ok path.meta_header
    movable_one = goes_on.1

-- PEERING

-- one info field with peering among the first n
pub some_peering_lem : (bytes : List ℕ) (n k : ℕ) → k < n → peering (info_at bytes k) ≡ true → some_peering bytes n ≡ true
unfolding some_peering
some_peering_lem bytes zero k l set = absurd (omega arith)
some_peering_lem bytes (suc n) k l set =
    by_lt k n (λ h. rw (some_peering_lem bytes n k h set))
    (λ h. let e : k ≡ n = omega arith in rw (rw e at set) (either_one (some_peering bytes n)))
  where
    either_one : (t : Bool) → t || true ≡ true
    either_one true = refl
    either_one false = refl

-- where peering is set there are two segments
pub peering_two : (bytes : List ℕ) (m : PathMetaHeader) → peering_allowed bytes m ≡ true → (k : ℕ) → k < info_fields_count m
    → peering (info_at bytes k) ≡ true → info_fields_count m ≡ 2
unfolding peering_allowed
peering_two bytes m allowed k l set = two_segments bytes m (rw (some_peering_lem bytes (info_fields_count m) k l set) at allowed)

-- BY THE FLAGS ALONE

module _ (f g : InfoField) (flags : f.flags ≡ g.flags) where
  pub owner_same : (h : ℕ) → owner_of f h ≡ owner_of g h
  unfolding owner_of
  owner_same h = rw flags

  pub spared-same : (owner s0 : ℕ) → spared f owner s0 ≡ spared g owner s0
  unfolding spared
  spared-same owner s0 = rw flags

-- THE OWNER, FROM THE OTHER END

pub owner_below : (info : InfoField) (h n : ℕ) → h + 1 < n → owner_of info h < n
unfolding owner_of
owner_below info h n l = go (constructed_dir info)
  where
    go : (t : Bool) → cond t h (h + 1) < n
    go true = omega arith
    go false = l

-- the move between the same two hop fields in the other direction has the same owner
pub owner_opposite : (f g : InfoField) (h h' n : ℕ) → constructed_dir g ≡ not (constructed_dir f) → h + 1 < n → h' ≡ n - 1 - (h + 1)
    → owner_of g h' ≡ n - 1 - owner_of f h
unfolding owner_of
owner_opposite f g h h' n d l e = go (constructed_dir f) refl
  where
    go : (t : Bool) → constructed_dir f ≡ t → cond (constructed_dir g) h' (h' + 1) ≡ n - 1 - cond (constructed_dir f) h (h + 1)
    go true q = rw (d, q) (omega arith)
    go false q = rw (d, q) (omega arith)

-- two tests for equality agree when each equation gives the other
pub eqb_iff : (a b c d : ℕ) → (a ≡ b → c ≡ d) → (c ≡ d → a ≡ b) → eqb a b ≡ eqb c d
eqb_iff a b c d f g = go (eqb a b) refl
  where
    go : (t : Bool) → eqb a b ≡ t → eqb a b ≡ eqb c d
    go true e = e ∙ sym (eq-eqb c d (f (eqb-true a b e)))
    go false e = e ∙ sym (ne_eqb c d (λ q. eqb-false a b e (g q)))

either_way : (a b : Bool) → a || b ≡ b || a
either_way true true = refl
either_way true false = refl
either_way false true = refl
either_way false false = refl

-- and is spared where it was
pub spared_opposite : (f g : InfoField) (o o' s s' n : ℕ) → peering g ≡ peering f → o < n → o' ≡ n - 1 - o → (peering f ≡ true → s' + s ≡ n)
    → spared g o' s' ≡ spared f o s
unfolding spared
spared_opposite f g o o' s s' n p l e two = go (peering f) refl
  where
    go : (t : Bool) → peering f ≡ t
        → peering g && (eqb (o' + 1) s' || eqb o' s') ≡ peering f && (eqb (o + 1) s || eqb o s)
    go true q =
        let w : s' + s ≡ n = two q in
        rw (p, q)
        (ap₂ (λ (a b : Bool). a || b) (eqb_iff (o' + 1) s' o s (λ r. omega arith) (λ r. omega arith))
        (eqb_iff o' s' (o + 1) s (λ r. omega arith) (λ r. omega arith))
        ∙ either_way (eqb o s) (eqb (o + 1) s))
    go false q = rw (p, q)
