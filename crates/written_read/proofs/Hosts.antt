-- A host is read from its own bytes alone, and written as the bytes that it was read from: sixteen bytes that begin with them keep
-- them, and a service is its two numbers of two bytes.
-- Assumes nothing.
use mathlib.Core.Path.{◌≡◌, refl, sym, ap, ap₂, ◌∙◌}
use mathlib.Core.Bool.{Bool, true, false, cond}
use mathlib.Core.List.{List, [], ◌++◌, append-nil}
use Prim.Native.Nat.{ℕ, ◌+◌, ◌^◌, ◌≤◌, ◌<◌}
use native.Mathlib.Nat.{mod-eq_of_lt}
use native.Mathlib.Omega.{arith}
use lib.ListN.{length, get_or, take, drop, replicate, length-append, get_or-append}
use lib.Seq.{sets, sets-eq, take_at, take_all, take-take, drop-append_seam, get_or-append-add}
use lib.Dec.{eqb}
use borrow.Author.Tests.{eqb-true}
use Rattle.wire_encoding.specs.BigEndian.{big_endian, bytes_of, part}
use Rattle.wire_encoding.proofs.Lists.{Bytes, length_part, part_join}
use Rattle.wire_encoding.proofs.BigEndian.{length_bytes_of, below, bytes_read, read_bytes_of}
use Rattle.address.specs.declared.host.HostAddr.TheVariants.{V4, V6}
use Rattle.packet_common_header.specs.CommonHeader.{host_length}
use Rattle.packet_address_header.specs.AddressHeader.{kind_of, host_of_kind, padded, service_host, host_at, host_bytes_of, host_bytes}
use Rattle.packet_address_header.specs.declared.MaybeEncoded.TheVariants.{Decoded, Encoded}
use Rattle.packet_address_header.specs.declared.HostAddress.{HostAddress}
use Rattle.packet_common_header.proofs.CommonHeaderLaws.{host_few}
use Rattle.packet_address_header.proofs.AddressHeaderLaws.{kind_of_kind}
use Rattle.written_read.specs.WrittenRead.{host_read, ServiceReadBack, HostsReadBack}

-- THE TWO FORMS OF A HOST THAT IS READ

abbrev other_host : ℕ → List ℕ → ℕ → HostAddress
other_host kind bytes at = record { host = host_of_kind kind; bytes = padded bytes at (host_length kind); padding = 0 }

module _ (kind : ℕ) (bytes : List ℕ) (at : ℕ) where
  pub host_service : eqb kind 4 ≡ true → host_at kind bytes at ≡ service_host (big_endian 2 bytes at) (big_endian 2 bytes (at + 2))
  unfolding host_at
  host_service e = rw e

  pub host_other : eqb kind 4 ≡ false → host_at kind bytes at ≡ other_host kind bytes at
  unfolding host_at
  host_other e = rw e

-- READ FROM ITS OWN BYTES

module _ (before own after : List ℕ) (kind : ℕ) (size : length own ≡ host_length kind) where
  own_part : part (length before) (host_length kind) (before ++ (own ++ after)) ≡ part 0 (host_length kind) own
  own_part =
      ap (take (host_length kind)) (drop-append_seam before (own ++ after))
      ∙ take_at own after (host_length kind) size
      ∙ sym (take_all (host_length kind) own (omega arith))

  own_byte : (i : ℕ) → i < length own → get_or (before ++ (own ++ after)) (length before + i) 0 ≡ get_or own i 0
  own_byte i h = get_or-append-add before (own ++ after) i 0 ∙ get_or-append own after 0 i h

  own_number : big_endian 2 (before ++ (own ++ after)) (length before) ≡ big_endian 2 own 0
  unfolding big_endian host_length
  own_number = rw (own_byte 0 (omega arith), own_byte 1 (omega arith))

  own_padding : big_endian 2 (before ++ (own ++ after)) (length before + 2) ≡ big_endian 2 own 2
  unfolding big_endian host_length
  own_padding =
      let high : length before + 2 + 0 ≡ length before + 2 = omega arith in
      let low : length before + 2 + 1 ≡ length before + 3 = omega arith in
      rw (high, low, own_byte 2 (omega arith), own_byte 3 (omega arith))

  pub host_own : host_at kind (before ++ (own ++ after)) (length before) ≡ host_at kind own 0
  unfolding host_at padded
  host_own = rw (own_part, own_number, own_padding)

-- WRITTEN AS IT WAS READ

-- a host that is no service: the first of its bytes
bytes_of_kind : (kind : ℕ) (bytes : List ℕ) (padding : ℕ) → host_bytes_of (host_of_kind kind) bytes padding ≡ take (host_length kind) bytes
unfolding host_bytes_of host_of_kind host_length
bytes_of_kind kind bytes padding = go (eqb kind 0) (eqb kind 3) refl refl
  where
    go : (z t : Bool) → eqb kind 0 ≡ z → eqb kind 3 ≡ t
        → host_bytes_of (cond z (Decoded V4) (cond t (Decoded V6) (Encoded kind))) bytes padding ≡ take (host_length kind) bytes
    go true t ez et = ap (λ (k : ℕ). take (host_length k) bytes) (sym (eqb-true kind 0 ez))
    go false true ez et = ap (λ (k : ℕ). take (host_length k) bytes) (sym (eqb-true kind 3 et))
    go false false ez et = refl

-- a service's four bytes
service_bytes_lem : (number padding : ℕ) → host_bytes (service_host number padding) ≡ bytes_of 2 number ++ bytes_of 2 padding
unfolding host_bytes host_bytes_of
service_bytes_lem number padding = refl

service_part : (at : ℕ) (bytes : List ℕ) → Bytes bytes → at + 4 ≤ length bytes
    → host_bytes (service_host (big_endian 2 bytes at) (big_endian 2 bytes (at + 2))) ≡ part at 4 bytes
service_part at bytes b inside =
    service_bytes_lem (big_endian 2 bytes at) (big_endian 2 bytes (at + 2))
    ∙ ap₂ (λ (x y : List ℕ). x ++ y) (bytes_read 2 bytes b at (omega arith)) (bytes_read 2 bytes b (at + 2) (omega arith))
    ∙ part_join at 2 2 bytes

module _ (kind at : ℕ) (bytes : List ℕ) (inside : at + host_length kind ≤ length bytes) where
  -- sixteen bytes that begin with the host's own
  padded-take : take (host_length kind) (padded bytes at (host_length kind)) ≡ part at (host_length kind) bytes
  unfolding padded
  padded-take =
      let own : List ℕ = part at (host_length kind) bytes in
      let size : length own ≡ host_length kind = length_part at (host_length kind) bytes inside in
      ap (take (host_length kind)) (sets-eq own (replicate 16 0) 0 (omega (arith, host_few kind)))
      ∙ take_at own (drop (0 + length own) (replicate 16 0)) (host_length kind) size

  other_bytes : host_bytes (other_host kind bytes at) ≡ part at (host_length kind) bytes
  unfolding host_bytes
  other_bytes = bytes_of_kind kind (padded bytes at (host_length kind)) 0 ∙ padded-take

pub host_written : (kind at : ℕ) (bytes : List ℕ) → Bytes bytes → at + host_length kind ≤ length bytes
    → host_bytes (host_at kind bytes at) ≡ part at (host_length kind) bytes
unfolding host_length
host_written kind at bytes b inside = go (eqb kind 4) refl
  where
    go : (t : Bool) → eqb kind 4 ≡ t → host_bytes (host_at kind bytes at) ≡ part at (host_length kind) bytes
    go true e =
        let four : host_length kind ≡ 4 = ap host_length (eqb-true kind 4 e) in
        rw (host_service kind bytes at e, four) (service_part at bytes b (omega arith))
    go false e = rw (host_other kind bytes at e) (other_bytes kind at bytes inside)

-- READ AGAIN

padded_again : (kind at : ℕ) (bytes : List ℕ) → padded (part at (host_length kind) bytes) 0 (host_length kind) ≡ padded bytes at (host_length kind)
unfolding padded
padded_again kind at bytes = ap (sets (replicate 16 0) 0) (take-take (host_length kind) (host_length kind) (drop at bytes) (omega arith))

other_read : (kind at : ℕ) (bytes : List ℕ) → at + host_length kind ≤ length bytes → eqb kind 4 ≡ false
    → host_read (other_host kind bytes at) ≡ other_host kind bytes at
unfolding host_read host_at
other_read kind at bytes inside e = rw (other_bytes kind at bytes inside, kind_of_kind kind, e, padded_again kind at bytes)

-- the two numbers of a service, one after the other
service_read : (number padding : ℕ) → number < 2 ^ 16 → padding < 2 ^ 16
    → host_at 4 (host_bytes (service_host number padding)) 0 ≡ service_host number padding
unfolding host_at
service_read number padding narrow fits =
    let xs : List ℕ = bytes_of 2 number in
    let ys : List ℕ = bytes_of 2 padding in
    let first : big_endian 2 (xs ++ ys) 0 ≡ number = read_bytes_of 2 number [] ys ∙ mod-eq_of_lt narrow in
    let second : big_endian 2 (xs ++ ys) 2 ≡ padding =
    ap₂ (λ (l : List ℕ) (at : ℕ). big_endian 2 (xs ++ l) at) (sym (append-nil ys)) (sym (length_bytes_of 2 number))
    ∙ read_bytes_of 2 padding xs []
    ∙ mod-eq_of_lt fits in
    rw (service_bytes_lem number padding, first, second)

pub service_read_back : ServiceReadBack
unfolding host_length
service_read_back number padding before after narrow fits =
    host_own before (host_bytes (service_host number padding)) after 4
    (ap length (service_bytes_lem number padding)
    ∙ length-append (bytes_of 2 number) (bytes_of 2 padding)
    ∙ ap₂ (λ (x y : ℕ). x + y) (length_bytes_of 2 number) (length_bytes_of 2 padding))
    ∙ service_read number padding narrow fits

pub hosts_read_back : HostsReadBack
unfolding host_read kind_of
hosts_read_back kind at bytes small inside = go (eqb kind 4) refl
  where
    b : Bytes bytes
    b = λ i. record { fits = small i }

    go : (t : Bool) → eqb kind 4 ≡ t → host_read (host_at kind bytes at) ≡ host_at kind bytes at
    go true e = rw (host_service kind bytes at e) (service_read _ _ (below bytes b at 2) (below bytes b (at + 2) 2))
    go false e = rw (host_other kind bytes at e) (other_read kind at bytes inside e)
