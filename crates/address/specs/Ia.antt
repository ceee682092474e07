-- Network numbers (the draft's DstISD, DstAS, SrcISD, SrcAS): 64 bits, ISD the highest 16, AS the other 48.
use Rattle.std.specs.Prelude.{ℕ, ◌+◌, ◌*◌, ◌/◌, ◌%◌, ◌^◌, ◌≡◌, Bool, ◌||◌, ltb, eqb, Option, Some, None, Result, Ok, Err}
use Rattle.wire_encoding.specs.Result.{require, ◌>>◌}
use Rattle.address.specs.declared.ia.IsdAsn.{IsdAsn}

abbrev pub isd_of : ℕ → ℕ
isd_of number = number / 2 ^ 48

abbrev pub asn_of : ℕ → ℕ
asn_of number = number % 2 ^ 48

-- a wildcard has ISD 0 or AS 0
abbrev pub is_wildcard : ℕ → Bool
is_wildcard number = eqb (isd_of number) 0 || eqb (asn_of number) 0

-- the number of an ISD and an AS, or 10 for an AS wider than 48 bits
unfoldable pub joined : ℕ → ℕ → Result ℕ ℕ
joined isd asn = do
  require (ltb asn (2 ^ 48)) 10
  Ok (isd * 2 ^ 48 + asn)

-- what was joined is taken apart again, and the other way round
abbrev pub JoinedApart : Type 0
JoinedApart = (isd asn number : ℕ) → joined isd asn ≡ Ok number → (isd_of number ≡ isd) × (asn_of number ≡ asn)

abbrev pub ApartJoined : Type 0
ApartJoined = (number : ℕ) → joined (isd_of number) (asn_of number) ≡ Ok number

-- what the answer says
abbrev pub joined_of : Option IsdAsn → Result ℕ ℕ
joined_of (Some ia) = Ok ia.0
joined_of None = Err 10
