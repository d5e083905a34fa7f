-- Octets as numbers: lists of octets, and numbers of two octets.
use Rattle.std.proofs.Common.{◌≡◌, ℕ, zero, suc, ◌+◌, ◌-◌, ◌<◌, List, [], ◌∷◌, take, drop, length, get_or, slice_index, refl, ap, arith}
use Rattle.std.proofs.lemmas.List.{get_or-drop}
use Rattle.std.proofs.lemmas.Nat.{be_bytes_2}
use Rattle.std.specs.Int.{bytes_high_first}
use Rattle.byteorder.specs.Endian.{big_number}

-- each element is an octet
abbrev pub IsBytes : List ℕ → Type 0
IsBytes octets = (i : ℕ) → slice_index octets i < 256

pub IsBytes-drop : (n : ℕ) (octets : List ℕ) → IsBytes octets → IsBytes (drop n octets)
IsBytes-drop n octets bytes = λ i. rw (get_or-drop n octets i 0) (bytes (n + i))

-- a number of two octets is written as the octets that it was read from
pub two_back : (a b : ℕ) (rest : List ℕ) → a < 256 → b < 256 → bytes_high_first 2 (big_number 2 (a ∷ b ∷ rest)) ≡ a ∷ b ∷ []
two_back a b rest high low = be_bytes_2 (a ∷ b ∷ []) (big_number 2 (a ∷ b ∷ rest)) refl bytes (omega arith)
  where
    bytes : (i : ℕ) → get_or (a ∷ b ∷ []) i 0 < 256
    bytes zero = high
    bytes (suc zero) = low
    bytes (suc (suc i)) = omega arith

pub two_fits : (a b : ℕ) (rest : List ℕ) → a < 256 → b < 256 → big_number 2 (a ∷ b ∷ rest) < 65536
two_fits a b rest high low = omega arith

pub take_whole : (n : ℕ) (octets : List ℕ) → n ≡ length octets → take n octets ≡ octets
take_whole zero [] e = refl
take_whole zero (x ∷ octets) e = absurd (omega arith)
take_whole (suc n) [] e = absurd (omega arith)
take_whole (suc n) (x ∷ octets) e = ap (λ (xs : List ℕ). x ∷ xs) (take_whole n octets (omega arith))

-- the octets after the first, as a slice pattern gives them
pub after_first : (octets : List ℕ) → take (length octets - 1) (drop 1 octets) ≡ drop 1 octets
after_first [] = refl
after_first (x ∷ octets) = take_whole (length (x ∷ octets) - 1) octets (omega arith)
