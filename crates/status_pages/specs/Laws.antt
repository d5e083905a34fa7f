-- That an escaped text has no markup and turns no direction, and that a browser reads it as the text, with blanks for control letters of one octet and the numbers of
-- letters that turn the direction of text.
use Rattle.std.specs.Prelude.{◌≡◌, ◌⊎◌, ℕ, zero, suc, Bool, false, ◌==◌, ◌||◌, List, [], ◌∷◌, ◌++◌, Option, Some, None, codes, if◌then◌else◌}
use Rattle.std.specs.List.{AllByRecursion, flat_map}
use Rattle.std.specs.Cmp.Lexicographic.{pointwise}
use Rattle.std.specs.Prelude.{nat_eq}
use Rattle.status_pages.specs.Escapes.{escaped, is_sign, shown_octet}
use Rattle.status_pages.specs.Turns.{turn_number, turns}

-- one of the five entities
abbrev pub IsEntity : List ℕ → Type 0
IsEntity t = (t ≡ codes "&amp;") ⊎ ((t ≡ codes "&lt;") ⊎ ((t ≡ codes "&gt;") ⊎ ((t ≡ codes "&quot;") ⊎ (t ≡ codes "&#39;"))))

-- an octet that is none of the five signs
abbrev pub IsPlain : List ℕ → Type 0
IsPlain t = (b : ℕ) × (t ≡ b ∷ []) × (is_sign b ≡ false)

-- an entity, or an octet that is none of the five signs
abbrev pub IsPiece : List ℕ → Type 0
IsPiece t = IsEntity t ⊎ IsPlain t

-- the text is made of such pieces alone, so that each of the five signs stands in an entity, and a markup can't begin or end in it
abbrev pub HasNoMarkup : List ℕ → Type 0
HasNoMarkup text = (pieces : List (List ℕ)) × (text ≡ flat_map (λ piece. piece) pieces) × AllByRecursion IsPiece pieces

-- the two are the same octets
abbrev pub are_octets : List ℕ → List ℕ → Bool
are_octets x y = pointwise nat_eq x y

-- the sign that an entity of this name stands for
abbrev pub named : List ℕ → List ℕ
named name =
    if are_octets name (codes "amp") then 38 ∷ []
    else (if are_octets name (codes "lt") then 60 ∷ []
    else (if are_octets name (codes "gt") then 62 ∷ []
    else (if are_octets name (codes "quot") then 34 ∷ []
    else (if are_octets name (codes "#39") then 39 ∷ [] else []))))

-- what a browser reads: an ampersand, which is 38, begins an entity, whose name ends at a semicolon, which is 59. `begun` is the
-- part of a name that was read
abbrev pub read_from : Option (List ℕ) → List ℕ → List ℕ
read_from begun [] = []
read_from None (b ∷ rest) = if b == 38 then read_from (Some []) rest else (b ∷ read_from None rest)
read_from (Some name) (b ∷ rest) = if b == 59 then named name ++ read_from None rest else read_from (Some (name ++ b ∷ [])) rest

-- the text that a browser reads
abbrev pub read_back : List ℕ → List ℕ
read_back text = read_from None text

-- a letter that turns the direction of text begins somewhere in the text
abbrev pub has_turn : List ℕ → Bool
has_turn [] = false
has_turn (b ∷ rest) = turns b rest || has_turn rest

-- an escaped text turns no direction
abbrev pub EscapedTurnsNothing : Type 0
EscapedTurnsNothing = (text : List ℕ) → has_turn (escaped text) ≡ false

-- an escaped text has no markup
abbrev pub EscapedHasNoMarkup : Type 0
EscapedHasNoMarkup = (text : List ℕ) → HasNoMarkup (escaped text)

-- a text behind so many octets, with blanks and numbers
abbrev pub shown_behind : ℕ → List ℕ → List ℕ
shown_behind passed [] = []
shown_behind (suc n) (b ∷ rest) = shown_behind n rest
shown_behind zero (b ∷ rest) =
    if turns b rest then turn_number rest ++ shown_behind 2 rest else (shown_octet b ∷ shown_behind 0 rest)

-- and is read as the text, with blanks for control letters of one octet and the numbers of letters that turn the direction of text
abbrev pub EscapedIsReadBack : Type 0
EscapedIsReadBack = (text : List ℕ) → read_back (escaped text) ≡ shown_behind 0 text
