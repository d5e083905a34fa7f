-- Classes of names, by which most names are told from others.
use Rattle.std.specs.Prelude.{ℕ, ◌+◌, ◌*◌, ◌%◌, Bool, List, [], ◌∷◌, nat_eq}
use Rattle.std.specs.Int.{bit_at}
use Rattle.std.specs.List.{list_all}

-- the class of a name that begins with octets of that class, and goes on with these
abbrev pub class_from : ℕ → List ℕ → ℕ
class_from class [] = class
class_from class (octet ∷ octets) = class_from ((class * 11 + octet) % 128) octets

-- the class of a name, a number below 128
abbrev pub class_of : List ℕ → ℕ
class_of a = class_from 0 a

-- the class of the name is among the classes, which are the places of the digits 1 of a number
abbrev pub has_class : ℕ → List ℕ → Bool
has_class classes a = nat_eq (bit_at classes (class_of a)) 1

-- those of all of these names are
abbrev pub have_classes : ℕ → List (List ℕ) → Bool
have_classes classes names = list_all (has_class classes) names
