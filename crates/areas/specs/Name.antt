-- Names of areas, and the order of their octets.
use Rattle.std.specs.Prelude.{ℕ, Bool, true, false, ◌&&◌, ◌||◌, not, List, [], ◌∷◌, nat_eq, nat_le, ltb, length}
use Rattle.std.specs.List.{list_any}

-- an ASCII letter, a digit or a hyphen
abbrev pub is_name_octet : ℕ → Bool
is_name_octet x = (nat_le 48 x && nat_le x 57) || ((nat_le 65 x && nat_le x 90) || ((nat_le 97 x && nat_le x 122) || nat_eq x 45))

-- a name is 1 to 32 of them
abbrev pub is_name : List ℕ → Bool
is_name a = (nat_le 1 (length a) && nat_le (length a) 32) && not (list_any (λ x. not (is_name_octet x)) a)

-- the first octet that differs decides, and what a list begins with comes before the list
abbrev pub octets_lt : List ℕ → List ℕ → Bool
octets_lt xs [] = false
octets_lt [] (y ∷ ys) = true
octets_lt (x ∷ xs) (y ∷ ys) = ltb x y || (nat_eq x y && octets_lt xs ys)
