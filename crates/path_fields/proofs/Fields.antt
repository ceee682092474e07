-- A field read from its part is the field read where the part stands; so two fields of the same bytes are the same, and an info field
-- tells its bytes. The direction decides which interface is which.
-- Assumes nothing.
use Prim.Native.Nat.{ℕ, ◌+◌, ◌%◌, ◌≤◌, ◌<◌}
use mathlib.Core.Path.{◌≡◌, refl, sym, ap, ◌∙◌}
use mathlib.Core.Bool.{Bool, true, false, not, cond}
use mathlib.Core.List.{List, ◌++◌}
use native.Mathlib.Nat.{add-zero}
use native.Mathlib.Omega.{arith}
use lib.Dec.{eqb}
use lib.ListN.{length, get_or, length-append}
use borrow.Author.Tests.{eq-eqb}
use Rattle.std.specs.Prelude.{Ok}
use Rattle.wire_encoding.specs.BigEndian.{part}
use Rattle.wire_encoding.proofs.Bits.{flip_made, flip_above}
use Rattle.wire_encoding.proofs.Lists.{Bytes, by_lt, length_part, get_or_part, part-part, part_left, get_or_by_part}
use Rattle.wire_encoding.proofs.BigEndian.{read_part, part_by_number}
use Rattle.path_fields.specs.declared.InfoField.{InfoField}
use Rattle.path_fields.specs.declared.HopField.{HopField}
use Rattle.path_fields.specs.Fields.{info_field_at, new_info_field, info_field_in, constructed_dir, peering, with_constructed_dir, hop_field_at}
use Rattle.path_fields.specs.Fields.{new_hop_field, hop_field_in, interface_of, ingress_interface, egress_interface}

first_byte : (at n : ℕ) (bytes : List ℕ) → 1 ≤ n → get_or (part at n bytes) 0 0 ≡ get_or bytes at 0
first_byte at n bytes h = get_or_part at n bytes 0 (omega arith) ∙ ap (λ (i : ℕ). get_or bytes i 0) (add-zero at)

module _ (bytes : List ℕ) (at : ℕ) where
  pub info_at_part : at + 8 ≤ length bytes → info_field_at (part at 8 bytes) 0 ≡ info_field_at bytes at
  unfolding info_field_at
  info_at_part h =
      rw (
        first_byte at 8 bytes (omega arith),
        get_or_part at 8 bytes 1 (omega arith),
        read_part 2 bytes at 8 2 (omega arith),
        read_part 4 bytes at 8 4 (omega arith),
      )

  pub info_of_part : at + 8 ≤ length bytes → new_info_field (part at 8 bytes) ≡ Ok (info_field_at bytes at)
  unfolding new_info_field
  info_of_part h = rw (eq-eqb (length (part at 8 bytes)) 8 (length_part at 8 bytes h), info_at_part h)

  pub info_in : at + 8 ≤ length bytes → info_field_in bytes at ≡ info_field_at bytes at
  info_in h = rw (info_of_part h)

  pub hop_at_part : at + 12 ≤ length bytes → hop_field_at (part at 12 bytes) 0 ≡ hop_field_at bytes at
  unfolding hop_field_at
  hop_at_part h =
      rw (
        first_byte at 12 bytes (omega arith),
        get_or_part at 12 bytes 1 (omega arith),
        read_part 2 bytes at 12 2 (omega arith),
        read_part 2 bytes at 12 4 (omega arith),
        part-part at 12 6 6 bytes (omega arith) h,
      )

  pub hop_of_part : at + 12 ≤ length bytes → new_hop_field (part at 12 bytes) ≡ Ok (hop_field_at bytes at)
  unfolding new_hop_field
  hop_of_part h = rw (eq-eqb (length (part at 12 bytes)) 12 (length_part at 12 bytes h), hop_at_part h)

  pub hop_in : at + 12 ≤ length bytes → hop_field_in bytes at ≡ hop_field_at bytes at
  hop_in h = rw (hop_of_part h)

-- a field by its bytes
module _ (x y : List ℕ) (p q : ℕ) where
  pub same-info : p + 8 ≤ length x → q + 8 ≤ length y → part p 8 x ≡ part q 8 y → info_field_at x p ≡ info_field_at y q
  same-info hx hy e = sym (info_at_part x p hx) ∙ ap (λ (l : List ℕ). info_field_at l 0) e ∙ info_at_part y q hy

  pub same-hop : p + 12 ≤ length x → q + 12 ≤ length y → part p 12 x ≡ part q 12 y → hop_field_at x p ≡ hop_field_at y q
  same-hop hx hy e = sym (hop_at_part x p hx) ∙ ap (λ (l : List ℕ). hop_field_at l 0) e ∙ hop_at_part y q hy

-- a field among the first of two lists
pub info-left : (a b : List ℕ) (at : ℕ) → at + 8 ≤ length a → info_field_at (a ++ b) at ≡ info_field_at a at
info-left a b at h = same-info (a ++ b) a at at (simp length-append (omega arith)) h (part_left at 8 a b h)

pub hop-left : (a b : List ℕ) (at : ℕ) → at + 12 ≤ length a → hop_field_at (a ++ b) at ≡ hop_field_at a at
hop-left a b at h = same-hop (a ++ b) a at at (simp length-append (omega arith)) h (part_left at 12 a b h)

-- the bytes of an info field, by the field
pub info_bytes : (x y : List ℕ) → Bytes x → Bytes y → (at : ℕ) → at + 8 ≤ length x → at + 8 ≤ length y → info_field_at x at ≡ info_field_at y at
    → (i : ℕ) → at ≤ i → i < at + 8 → get_or x i 0 ≡ get_or y i 0
unfolding info_field_at
info_bytes x y bx by at hx hy e i l h =
    let accumulator = part_by_number x y bx by 2 (at + 2) (omega arith) (omega arith) (ap (λ (f : InfoField). f.accumulator) e) in
    let timestamp = part_by_number x y bx by 4 (at + 4) (omega arith) (omega arith) (ap (λ (f : InfoField). f.timestamp) e) in
    by_lt i (at + 1)
    (λ p. let q : i ≡ at = omega arith in rw q (ap (λ (f : InfoField). f.flags) e))
    (λ p. by_lt i (at + 2)
    (λ r. let q : i ≡ at + 1 = omega arith in rw q (ap (λ (f : InfoField). f.reserved) e))
    (λ r. by_lt i (at + 4)
    (λ s. get_or_by_part x y (at + 2) 2 accumulator i r (omega arith))
    (λ s. get_or_by_part x y (at + 4) 4 timestamp i s (omega arith))))

-- THE DIRECTION

-- flipped
unfoldable pub direction_flipped : InfoField → InfoField
direction_flipped info = with_constructed_dir (not (constructed_dir info)) info

pub direction_flipped_lem : (info : InfoField) → constructed_dir (direction_flipped info) ≡ not (constructed_dir info)
unfolding direction_flipped with_constructed_dir
direction_flipped_lem info = flip_made 0 info.flags

-- peering stays
pub peering-flipped : (info : InfoField) → peering (direction_flipped info) ≡ peering info
unfolding direction_flipped with_constructed_dir
peering-flipped info = ap (λ (n : ℕ). eqb (n % 2) 1) (flip_above info.flags)

exchanged : (t : Bool) (a b : ℕ) → cond (not t) a b ≡ cond t b a
exchanged true a b = refl
exchanged false a b = refl

-- the interfaces of a hop field: the same in the same direction, exchanged in the other
module _ (f g : InfoField) (hop : HopField) where
  pub ingress_same : constructed_dir f ≡ constructed_dir g → ingress_interface f hop ≡ ingress_interface g hop
  unfolding ingress_interface
  ingress_same e = ap (λ (t : Bool). interface_of (cond t hop.cons_ingress hop.cons_egress)) e

  pub egress_same : constructed_dir f ≡ constructed_dir g → egress_interface f hop ≡ egress_interface g hop
  unfolding egress_interface
  egress_same e = ap (λ (t : Bool). interface_of (cond t hop.cons_egress hop.cons_ingress)) e

  pub ingress_exchanged : constructed_dir f ≡ not (constructed_dir g) → ingress_interface f hop ≡ egress_interface g hop
  unfolding ingress_interface egress_interface
  ingress_exchanged e =
      ap (λ (t : Bool). interface_of (cond t hop.cons_ingress hop.cons_egress)) e
      ∙ ap interface_of (exchanged (constructed_dir g) hop.cons_ingress hop.cons_egress)

  pub egress_exchanged : constructed_dir f ≡ not (constructed_dir g) → egress_interface f hop ≡ ingress_interface g hop
  unfolding ingress_interface egress_interface
  egress_exchanged e =
      ap (λ (t : Bool). interface_of (cond t hop.cons_egress hop.cons_ingress)) e
      ∙ ap interface_of (exchanged (constructed_dir g) hop.cons_egress hop.cons_ingress)

-- a field inside its bytes is read from there
pub ruleset field_reads = (info_in, hop_in)
