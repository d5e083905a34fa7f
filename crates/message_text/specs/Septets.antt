-- The septets in the octets of a page (TS 23.038, 6.1.2.1 and 6.1.2.2). The bits of the octets are one number,
-- the bit that is sent first the lowest, and the septets are seven of its bits each.
use Rattle.std.specs.Prelude.{ℕ, zero, suc, Bool, ◌+◌, ◌-◌, ◌*◌, ◌/◌, ◌%◌, ◌==◌, ◌&&◌, List, [], ◌∷◌, length, take, get_or, if◌then◌else◌}

-- the carriage return, with which the last seven bits of an octet are filled
abbrev pub carriage_return : ℕ
carriage_return = 0x0D

-- the number that has these digits in the base, the lowest first
abbrev pub number : ℕ → List ℕ → ℕ
number base [] = 0
number base (d ∷ ds) = d + base * number base ds

-- so many digits of a number in the base, the lowest first
abbrev pub digits : ℕ → ℕ → ℕ → List ℕ
digits base zero n = []
digits base (suc k) n = n % base ∷ digits base k (n / base)

-- the septets that stand whole in the octets
abbrev pub whole_septets : List ℕ → List ℕ
whole_septets octets = digits 128 (8 * length octets / 7) (number 256 octets)

-- the last septet is a carriage return
abbrev pub ends_in_return : List ℕ → Bool
ends_in_return septets = get_or septets (length septets - 1) 0 == carriage_return

-- septets without the carriage return in which they end, where they end with the last octet
abbrev pub unfilled : Bool → List ℕ → List ℕ
unfilled at_end septets = if at_end && ends_in_return septets then take (length septets - 1) septets else septets

-- the septets that a page's octets have
abbrev pub septets_of : List ℕ → List ℕ
septets_of octets = unfilled (length octets % 7 == 0) (whole_septets octets)
