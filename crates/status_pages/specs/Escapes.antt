-- Text in a page of HTML: the five signs that have a meaning there stand as entities, and a control letter of one octet, but for the end
-- of a line, as a blank. Pages of a message are filled up with carriage returns (TS 23.038, 6.1.2.3.1), which a browser would show as empty
-- lines. A letter that turns the direction of text stands as its number.
use Rattle.std.specs.Prelude.{ℕ, zero, suc, Bool, ◌==◌, ◌&&◌, ◌||◌, nat_lt, not, List, [], ◌∷◌, ◌++◌, codes, if◌then◌else◌}
use Rattle.status_pages.specs.Turns.{turn_number, turns}

-- the sign is one of the five: ampersand, less, greater, quote and apostrophe
abbrev pub is_sign : ℕ → Bool
is_sign b = b == 38 || b == 60 || b == 62 || b == 34 || b == 39

-- a control letter of one octet that isn't the end of a line
abbrev pub is_control : ℕ → Bool
is_control b = (nat_lt b 32 && not (b == 10)) || b == 127

-- an octet that is none of the five, as it is shown
abbrev pub shown_octet : ℕ → ℕ
shown_octet b = if is_control b then 32 else b

-- an octet of a text, as it stands in a page
abbrev pub escaped_octet : ℕ → List ℕ
escaped_octet b =
    if b == 38 then codes "&amp;"
    else (if b == 60 then codes "&lt;"
    else (if b == 62 then codes "&gt;"
    else (if b == 34 then codes "&quot;"
    else (if b == 39 then codes "&#39;"
    else (shown_octet b ∷ [])))))

-- a text behind so many octets, which belong to a letter that stands as its number
abbrev pub escaped_behind : ℕ → List ℕ → List ℕ
escaped_behind passed [] = []
escaped_behind (suc n) (b ∷ rest) = escaped_behind n rest
escaped_behind zero (b ∷ rest) =
    if turns b rest then turn_number rest ++ escaped_behind 2 rest else escaped_octet b ++ escaped_behind 0 rest

-- a text, as it stands in a page
abbrev pub escaped : List ℕ → List ℕ
escaped text = escaped_behind 0 text
