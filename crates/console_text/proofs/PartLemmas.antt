-- The parts of a text, as a loop over its runs makes them.
use Rattle.std.proofs.Common.{◌≡◌, ◌∙◌, ℕ, eqb, true, false, List, [], ◌∷◌, ◌++◌, length, not, refl, sym, ap, ap₂, cond, append_assoc, append-nil, eq-eqb}
use Rattle.std.proofs.lemmas.List.Elements.{All-head, All-tail}
use Rattle.console_text.specs.Parts.{in_front, parts_of, HasNone}
use Rattle.console_text.specs.Lines.{lines_from, lines_of}
use Rattle.console_text.specs.Words.{non_empty}

-- one octet more in front
in_front_more : (begun : List ℕ) (x : ℕ) (parts : List (List ℕ)) → in_front (begun ++ x ∷ []) parts ≡ in_front begun (in_front (x ∷ []) parts)
in_front_more begun x [] = refl
in_front_more begun x (part ∷ parts) = ap (λ first. first ∷ parts) (append_assoc begun (x ∷ []) part)

nothing_twice : (x : ℕ) (parts : List (List ℕ)) → in_front [] (in_front (x ∷ []) parts) ≡ in_front (x ∷ []) parts
nothing_twice x [] = refl
nothing_twice x (part ∷ parts) = refl

-- nothing in front
in_front_nil : (separator : ℕ) (text : List ℕ) → in_front [] (parts_of separator text) ≡ parts_of separator text
in_front_nil separator [] = refl
in_front_nil separator (x ∷ xs) =
    elim (eqb x separator) as (λ b. in_front [] (cond b ([] ∷ parts_of separator xs) (in_front (x ∷ []) (parts_of separator xs))) ≡ cond b ([] ∷ parts_of separator xs) (in_front (x ∷ []) (parts_of separator xs))) [
      | true ↦ refl
      | false ↦ nothing_twice x (parts_of separator xs)
    ]

-- where none of the octets is the separator, the first is not, and none of the others
first_differs : (separator x : ℕ) (xs : List ℕ) → HasNone separator (x ∷ xs) → eqb x separator ≡ false
first_differs separator x xs none = All-head (λ y. eqb y separator ≡ false) x xs none

others_differ : (separator x : ℕ) (xs : List ℕ) → HasNone separator (x ∷ xs) → HasNone separator xs
others_differ separator x xs none = All-tail (λ y. eqb y separator ≡ false) x xs none

-- such octets go in front of the first part of what follows
run_goes_on : (separator : ℕ) (begun run rest : List ℕ) → HasNone separator run → in_front begun (parts_of separator (run ++ rest)) ≡ in_front (begun ++ run) (parts_of separator rest)
run_goes_on separator begun [] rest none = ap (λ front. in_front front (parts_of separator rest)) (sym (append-nil begun))
run_goes_on separator begun (x ∷ xs) rest none =
    let more = run_goes_on separator (begun ++ x ∷ []) xs rest (others_differ separator x xs none) in
    let joined = ap (λ front. in_front front (parts_of separator rest)) (append_assoc begun (x ∷ []) xs) in
    rw (first_differs separator x xs none) (sym (in_front_more begun x (parts_of separator (xs ++ rest))) ∙ more ∙ joined)

-- they are one part
pub parts_one : (separator : ℕ) (text : List ℕ) → HasNone separator text → parts_of separator text ≡ text ∷ []
parts_one separator [] none = refl
parts_one separator (x ∷ xs) none = rw (first_differs separator x xs none) (ap (in_front (x ∷ [])) (parts_one separator xs (others_differ separator x xs none)))

-- and a separator ends it
parts_end : (separator : ℕ) (run rest : List ℕ) → HasNone separator run → parts_of separator (run ++ separator ∷ rest) ≡ run ∷ parts_of separator rest
parts_end separator [] rest none = rw (eq-eqb separator separator refl) refl
parts_end separator (x ∷ xs) rest none = rw (first_differs separator x xs none) (ap (in_front (x ∷ [])) (parts_end separator xs rest (others_differ separator x xs none)))

-- the same of a text that was cut
parts_cut : (separator : ℕ) (text run rest : List ℕ) → text ≡ run ++ separator ∷ rest → HasNone separator run → parts_of separator text ≡ run ∷ parts_of separator rest
parts_cut separator text run rest is none = ap (parts_of separator) is ∙ parts_end separator run rest none

-- one part more of a text
pub parts_more : (separator : ℕ) (parts more : List (List ℕ)) (text part rest : List ℕ) → text ≡ part ++ separator ∷ rest → HasNone separator part → more ≡ parts ++ part ∷ []
    → more ++ parts_of separator rest ≡ parts ++ parts_of separator text
parts_more separator parts more text part rest is none grown =
    ap (λ front. front ++ parts_of separator rest) grown ∙ append_assoc parts (part ∷ []) (parts_of separator rest)
    ∙ ap (λ back. parts ++ back) (sym (parts_cut separator text part rest is none))

-- one part that may be empty
non_empty_more : (part : List ℕ) (parts : List (List ℕ)) → non_empty (part ∷ parts) ≡ non_empty (part ∷ []) ++ non_empty parts
non_empty_more part parts =
    elim (eqb (length part) 0) as (λ b. cond (not b) (part ∷ non_empty parts) (non_empty parts) ≡ cond (not b) (part ∷ []) [] ++ non_empty parts) [
      | true ↦ refl
      | false ↦ refl
    ]

-- one word more of a line
pub words_more : (words more : List (List ℕ)) (line word rest : List ℕ) → line ≡ word ++ 32 ∷ rest → HasNone 32 word → more ≡ words ++ non_empty (word ∷ [])
    → more ++ non_empty (parts_of 32 rest) ≡ words ++ non_empty (parts_of 32 line)
words_more words more line word rest is none grown =
    ap (λ front. front ++ non_empty (parts_of 32 rest)) grown ∙ append_assoc words (non_empty (word ∷ [])) (non_empty (parts_of 32 rest))
    ∙ ap (λ back. words ++ back) (sym (ap non_empty (parts_cut 32 line word rest is none) ∙ non_empty_more word (parts_of 32 rest)))

-- the line that has begun ends
pub line_ends : (begun rest : List ℕ) → lines_from begun (10 ∷ rest) ≡ begun ∷ lines_from [] rest
line_ends begun rest = ap₂ (λ (first : List ℕ) (lines : List (List ℕ)). first ∷ lines) (append-nil begun) (sym (in_front_nil 10 rest))

-- or goes on
pub line_goes_on : (begun run rest : List ℕ) → HasNone 10 run → lines_from begun (run ++ rest) ≡ lines_from (begun ++ run) rest
line_goes_on begun run rest none = run_goes_on 10 begun run rest none

-- no line has begun
pub lines_from_start : (octets : List ℕ) → lines_from [] octets ≡ lines_of octets
lines_from_start octets = in_front_nil 10 octets
