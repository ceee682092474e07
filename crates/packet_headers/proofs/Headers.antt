-- Headers that the tests let through: each part of them is written, and the parts fill the destination.
-- Assumes nothing.
use mathlib.Core.Path.{◌≡◌, refl, sym, ap, ap₂, ◌∙◌}
use mathlib.Core.Bool.{Bool, true, false, cond, not}
use mathlib.Core.List.{List, [], ◌++◌}
use Prim.Native.Nat.{ℕ, ◌+◌, ◌-◌, ◌/◌, ◌≤◌}
use native.Mathlib.Nat.{zero-add, sub-zero}
use native.Mathlib.Omega.{arith}
use lib.ListN.{length, take, drop, length-append}
use lib.Seq.{sets, sets-eq, take-length, length-take-le, length-sets}
use lib.Dec.{leb, eqb}
use borrow.Author.Tests.{leb-true, le-leb, eq-eqb, ne_eqb}
use Rattle.std.specs.Prelude.{⊤, Result, Ok}
use Rattle.std.specs.Result.{IsOk}
use Rattle.wire_encoding.specs.Result.{or_else}
use Rattle.wire_encoding.specs.BigEndian.{written, placed}
use Rattle.wire_encoding.specs.Answers.{put_answer}
use Rattle.wire_encoding.specs.declared.write.InadequateBufferSize.{InadequateBufferSize}
use Rattle.wire_encoding.proofs.Result.{held}
use Rattle.wire_encoding.proofs.Lists.{sets-append, sets-whole}
use Rattle.wire_encoding.proofs.Writes.{placed_is, put_done}
use Rattle.packet_common_header.specs.CommonHeader.{host_length, common_fits, common_bytes, write_common}
use Rattle.packet_address_header.specs.AddressHeader.{address_length, length_of_kinds, address_bytes}
use Rattle.packet_common_header.specs.declared.CommonHeader.{CommonHeader}
use Rattle.packet_address_header.specs.declared.AddressHeader.{AddressHeader}
use Rattle.packet_common_header.proofs.CommonHeaderLaws.{length-common_bytes, common_written}
use Rattle.packet_address_header.proofs.AddressHeaderLaws.{Sixteen, length-address_bytes, header_put, sets_apart}
use Rattle.packet_headers.specs.declared.ScionHeaders.{ScionHeaders}
use Rattle.packet_headers.specs.Headers.{added_length, added_bytes, headers_length, common_of, header_bytes, write_headers}

-- THE TESTS

module _ (h : ScionHeaders) (path : List ℕ) (size : ℕ) where
  -- what headers that were written say
  pub record Known : Type 0 where
    pub fits : common_fits (common_of h) ≡ true
    pub payload : h.payload_length ≤ 65535
    pub result : write_headers h path size ≡ Ok (header_bytes h path)

  pub known : {written : List ℕ} → write_headers h path size ≡ Ok written → Known
  unfolding write_headers
  known e =
      let fits = held (common_fits (common_of h)) _ _ e in
      let some = held (not (eqb h.header_length_factor 0)) _ _ fits.1 in
      let factor = held (leb h.header_length_factor 255) _ _ some.1 in
      let payload = held (leb h.payload_length 65535) _ _ factor.1 in
      let exact = held (eqb size (headers_length h.address h.path_type (length path))) _ _ payload.1 in
      record { fits = fits.0; payload = leb-true _ _ payload.0; result = e ∙ sym exact.1 }

  -- and what lets them be written
  pub headers-written : common_fits (common_of h) ≡ true → (h.header_length_factor ≡ 0 → ⊥) → h.header_length_factor ≤ 255
      → h.payload_length ≤ 65535 → size ≡ headers_length h.address h.path_type (length path)
      → write_headers h path size ≡ Ok (header_bytes h path)
  unfolding write_headers
  headers-written fits some factor payload exact =
      rw (fits, ne_eqb _ _ some, le-leb _ _ factor, le-leb _ _ payload, eq-eqb _ _ exact)

-- LENGTHS

-- the address header fills whole factors, so a factor is lost only to the path
pub factor_is : (a : AddressHeader) (type n : ℕ) → (12 + address_length a) / 4 + added_length type n / 4 ≡ headers_length a type n / 4
unfolding headers_length address_length length_of_kinds host_length
factor_is a type n = omega arith

pub length-added_bytes : (type : ℕ) (path : List ℕ) → length (added_bytes type path) ≡ added_length type (length path)
unfolding added_bytes added_length
length-added_bytes type path = go (eqb type 0)
  where
    go : (t : Bool) → length (cond t [] path) ≡ cond t 0 (length path)
    go true = refl
    go false = refl

-- the bytes that a path adds are its first ones
pub added_part : (type : ℕ) (path : List ℕ) → take (added_length type (length path)) path ≡ added_bytes type path
unfolding added_bytes added_length
added_part type path = go (eqb type 0)
  where
    go : (t : Bool) → take (cond t 0 (length path)) path ≡ cond t [] path
    go true = refl
    go false = take-length path

pub added_few : (type n : ℕ) → added_length type n ≤ n
unfolding added_length
added_few type n = go (eqb type 0)
  where
    go : (t : Bool) → cond t 0 n ≤ n
    go true = omega arith
    go false = omega arith

pub length-header_bytes : (h : ScionHeaders) (path : List ℕ) → Sixteen h.address
    → length (header_bytes h path) ≡ headers_length h.address h.path_type (length path)
unfolding header_bytes headers_length
length-header_bytes h path s =
    let c = length-common_bytes (common_of h) in
    let a = length-address_bytes h.address s in
    let p = length-added_bytes h.path_type path in
    simp length-append (omega arith)

-- WRITES

-- a common header whose numbers fit is written to the first twelve bytes
pub common_first : (c : CommonHeader) (dst : List ℕ) → common_fits c ≡ true → (c.header_length_factor ≡ 0 → ⊥) → 12 ≤ length dst
    → write_common c (length (take 12 dst)) ≡ Ok (common_bytes c)
common_first c dst fits some room = common_written c _ fits some (length-take-le 12 dst room)

-- and they are lent for it
common_lent : (c : CommonHeader) (dst : List ℕ) {back : List ℕ} → common_fits c ≡ true → (c.header_length_factor ≡ 0 → ⊥) → 12 ≤ length dst
    → back ≡ or_else (write_common c (length (take 12 dst))) (take 12 dst) → back ++ drop 12 dst ≡ sets dst 0 (common_bytes c)
common_lent c dst {back} fits some room e =
    let whole : back ≡ common_bytes c = rw (common_first c dst fits some room) at e in
    let long : length (common_bytes c) ≡ 12 = length-common_bytes c in
    rw whole
    (ap (λ (m : ℕ). common_bytes c ++ drop m dst) (sym long ∙ sym (zero-add (length (common_bytes c))))
    ∙ sym (sets-eq (common_bytes c) dst 0 (omega arith)))

module _ (h : ScionHeaders) (path dst : List ℕ) (s : Sixteen h.address)
    (size : length dst ≡ headers_length h.address h.path_type (length path)) where
  -- the three parts, and where the path starts
  abbrev x : List ℕ
  x = common_bytes (common_of h)

  abbrev y : List ℕ
  y = address_bytes h.address

  abbrev z : List ℕ
  z = added_bytes h.path_type path

  abbrev fixed : ℕ
  fixed = 12 + address_length h.address

  -- side by side they fill the destination
  all_written : sets (sets (sets dst 12 y) 0 x) fixed z ≡ header_bytes h path
  unfolding header_bytes
  all_written =
      let one : length x ≡ 12 = length-common_bytes (common_of h) in
      let two : length y ≡ address_length h.address = length-address_bytes h.address s in
      let whole : sets dst 0 (x ++ (y ++ z)) ≡ x ++ (y ++ z) = sets-whole (x ++ (y ++ z)) dst (length-header_bytes h path s ∙ sym size) in
      let apart : sets dst 0 (x ++ (y ++ z)) ≡ sets (sets (sets dst 0 x) (0 + length x) y) (0 + length x + length y) z =
      sets-append x (y ++ z) dst 0 ∙ sets-append y z (sets dst 0 x) (0 + length x) in
      ap (λ (l : List ℕ). sets l fixed z) (sym (sets_apart x y dst 0 12 (omega arith))) ∙ sym (rw (one, two) at apart) ∙ whole

  -- the address header, and the common header in the first twelve bytes
  module _ (fits : common_fits (common_of h) ≡ true) (some : h.header_length_factor ≡ 0 → ⊥) {one back : List ℕ} (e₁ : one ≡ placed dst 12 y)
      (e₂ : back ≡ or_else (write_common (common_of h) (length (take 12 one))) (take 12 one)) where
    two_written : back ++ drop 12 one ≡ sets (sets dst 12 y) 0 x
    unfolding headers_length common_of
    two_written =
        let own : length y ≡ address_length h.address = length-address_bytes h.address s in
        let first : one ≡ sets dst 12 y = e₁ ∙ placed_is dst 12 y (address_length h.address) own (omega (arith, size)) in
        let kept : length one ≡ length dst = ap length first ∙ length-sets dst 12 y in
        common_lent (common_of h) one fits some (omega (arith, size, kept)) e₂ ∙ ap (λ (l : List ℕ). sets l 0 x) first

    long : length (back ++ drop 12 one) ≡ length dst
    long = ap length two_written ∙ length-sets (sets dst 12 y) 0 x ∙ length-sets dst 12 y

    -- then the path, whose part is lent from 0 on
    abbrev run : List ℕ
    run = take (added_length h.path_type (length path) - 0) path

    run_added : run ≡ z
    run_added = rw sub-zero (added_part h.path_type path)

    room : fixed + length run ≤ length (back ++ drop 12 one)
    unfolding headers_length
    room = let added = ap length run_added ∙ length-added_bytes h.path_type path in omega (arith, size, long, added)

    -- there is room for it
    pub path_put : {put : Result ⊤ InadequateBufferSize} → put ≡ put_answer (written (back ++ drop 12 one) fixed run) → IsOk put
    path_put e = put_done (back ++ drop 12 one) fixed run room e

    pub three_written : {three : List ℕ} → three ≡ placed (back ++ drop 12 one) fixed run → three ≡ header_bytes h path
    three_written e =
        e
        ∙ placed_is (back ++ drop 12 one) fixed run (length run) refl room
        ∙ ap₂ (λ (l r : List ℕ). sets l fixed r) two_written run_added
        ∙ all_written

-- what the writer's goals need
pub ruleset encodes = (added_few, headers-written, common_first, header_put)
