-- Numbers on the wire, over their width in bytes: highest byte first.
use Rattle.std.specs.Prelude.{ℕ, zero, suc, ◌+◌, ◌*◌, ◌/◌, ◌%◌, ◌^◌, ◌≤◌, ◌<◌, ◌≡◌, Bool, List, [], ◌∷◌, ◌++◌, length, get_or, take, drop, leb, Result, Ok}
use Rattle.std.proofs.lemmas.List.Edits.{sets}
use Rattle.wire_encoding.specs.Result.{require, ◌>>◌, or_else}

-- the number that the `width` bytes at `at` spell
unfoldable pub big_endian : ℕ → List ℕ → ℕ → ℕ
big_endian zero bytes at = 0
big_endian (suc width) bytes at = big_endian width bytes at * 256 + get_or bytes (at + width) 0

-- the `width` low bytes of a number
unfoldable pub bytes_of : ℕ → ℕ → List ℕ
bytes_of zero number = []
bytes_of (suc width) number = bytes_of width (number / 256) ++ (number % 256 ∷ [])

-- whether `bytes` has n bytes at `at`
unfoldable pub room : List ℕ → ℕ → ℕ → Bool
room bytes at n = leb (at + n) (length bytes)

-- reading: the number, or 1 for too few bytes
unfoldable pub number_at : ℕ → List ℕ → ℕ → Result ℕ ℕ
number_at width bytes at = do
  require (room bytes at width) 1
  Ok (big_endian width bytes at)

-- writing a run of bytes: what the lent bytes then hold, or 9 where there is no room for all of them
unfoldable pub written : List ℕ → ℕ → List ℕ → Result (List ℕ) ℕ
written dst at run = do
  require (room dst at (length run)) 9
  Ok (sets dst at run)

-- a refusal changes nothing
abbrev pub placed : List ℕ → ℕ → List ℕ → List ℕ
placed dst at run = or_else (written dst at run) dst

-- the n bytes at `at`
abbrev pub part : ℕ → ℕ → List ℕ → List ℕ
part at n bytes = take n (drop at bytes)

-- the first n records of k bytes each
unfoldable pub records : ℕ → ℕ → List ℕ → List (List ℕ)
records k zero bytes = []
records k (suc n) bytes = take k bytes ∷ records k n (drop k bytes)

-- THEOREMS, over the width

-- a number is read back from its bytes, whatever stands before and after them; of a wider number the low bytes are written
abbrev pub NumbersReadBack : Type 0
NumbersReadBack =
    (width number : ℕ) (before after : List ℕ)
    → big_endian width (before ++ (bytes_of width number ++ after)) (length before) ≡ number % 256 ^ width

-- the bytes of a number that was read are the bytes that were read
abbrev pub BytesReadBack : Type 0
BytesReadBack =
    (width : ℕ) (bytes : List ℕ) → ((i : ℕ) → get_or bytes i 0 < 256) → (at : ℕ) → at + width ≤ length bytes
    → bytes_of width (big_endian width bytes at) ≡ part at width bytes

-- a number of `width` bytes is below 256 ^ width
abbrev pub NumbersBelow : Type 0
NumbersBelow = (bytes : List ℕ) → ((i : ℕ) → get_or bytes i 0 < 256) → (at width : ℕ) → big_endian width bytes at < 256 ^ width
