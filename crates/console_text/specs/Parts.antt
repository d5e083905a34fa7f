-- The parts of a text between separators. A text with no separator is one part; a part may be empty.
use Rattle.std.specs.Prelude.{◌≡◌, ℕ, ◌==◌, false, All, List, [], ◌∷◌, ◌++◌, if◌then◌else◌}

-- the octets stand in front of the first part
abbrev pub in_front : List ℕ → List (List ℕ) → List (List ℕ)
in_front octets [] = octets ∷ []
in_front octets (part ∷ parts) = (octets ++ part) ∷ parts

-- what stands between the separators
abbrev pub parts_of : ℕ → List ℕ → List (List ℕ)
parts_of separator [] = [] ∷ []
parts_of separator (x ∷ xs) = if x == separator then [] ∷ parts_of separator xs else in_front (x ∷ []) (parts_of separator xs)

-- none of the octets is the separator
abbrev pub HasNone : ℕ → List ℕ → Type 0
HasNone separator octets = All (λ x. (x == separator) ≡ false) octets
