-- Texts that follow others, and the parts of joined ones.
use Rattle.std.proofs.Common.{◌≡◌, ◌∙◌, ℕ, ◌-◌, ◌≤◌, eqb, false, List, [], ◌∷◌, ◌++◌, drop, get_or, length, map, take, refl, sym, ap, append_assoc, arith}
use Rattle.std.proofs.lemmas.List.{take_all}
use Rattle.hex.specs.Hex.{encode_lower}
use Rattle.std.specs.List.{AllByRecursion}
use Rattle.console_text.specs.Parts.{HasNone, parts_of}
use Rattle.console_text.specs.Words.{non_empty}
use Rattle.console_text.proofs.PartLemmas.{parts_more, parts_one}
use Rattle.journal_text.specs.Texts.{areas_word, followed, joined, pages_word}

-- a text stands in front of the first of the texts
pub followed_front : (separator : ℕ) (front text : List ℕ) (more : List (List ℕ)) → followed separator (front ++ text) more ≡ front ++ followed separator text more
followed_front separator front text [] = refl
followed_front separator front text (next ∷ more) =
    ap (λ (start : List ℕ). followed separator start more) (append_assoc front text (separator ∷ next)) ∙ followed_front separator front (text ++ separator ∷ next) more

-- and so does a separator
followed_behind : (separator : ℕ) (front next : List ℕ) (more : List (List ℕ)) → followed separator (front ++ separator ∷ next) more ≡ front ++ separator ∷ followed separator next more
followed_behind separator front next more =
    followed_front separator front (separator ∷ next) more ∙ ap (λ (rest : List ℕ). front ++ rest) (followed_front separator (separator ∷ []) next more)

-- texts that are joined are one word of a line
pub word_of_more : (separator : ℕ) (line first : List ℕ) (more : List (List ℕ)) (last : List ℕ) → last ≡ followed separator (line ++ 32 ∷ first) more
    → last ≡ followed 32 line (joined separator (first ∷ more) ∷ [])
word_of_more separator line first more last is =
    is ∙ followed_front separator line (32 ∷ first) more ∙ ap (λ (rest : List ℕ). line ++ rest) (followed_front separator (32 ∷ []) first more)

-- words that are put behind others
pub followed_append : (separator : ℕ) (text : List ℕ) (xs ys : List (List ℕ)) → followed separator text (xs ++ ys) ≡ followed separator (followed separator text xs) ys
followed_append separator text [] ys = refl
followed_append separator text (x ∷ xs) ys = followed_append separator (text ++ separator ∷ x) xs ys

-- the first of some texts, and the others
pub joined_cons : (separator : ℕ) (first next : List ℕ) (more : List (List ℕ)) → joined separator (first ∷ next ∷ more) ≡ first ++ separator ∷ joined separator (next ∷ more)
joined_cons separator first next more = followed_behind separator first next more

-- texts without the separator are the parts of the text that joins them
pub parts_joined : (separator : ℕ) (first : List ℕ) (more : List (List ℕ)) → HasNone separator first → AllByRecursion (HasNone separator) more
    → parts_of separator (joined separator (first ∷ more)) ≡ first ∷ more
parts_joined separator first [] none rest = parts_one separator first none
parts_joined separator first (next ∷ more) none rest =
    sym (parts_more separator [] (first ∷ []) (joined separator (first ∷ next ∷ more)) first (joined separator (next ∷ more)) (joined_cons separator first next more) none refl)
    ∙ ap (λ (parts : List (List ℕ)). first ∷ parts) (parts_joined separator next more rest.0 rest.1)

-- none of some parts is empty
pub none_empty : (parts : List (List ℕ)) → AllByRecursion (λ part. eqb (length part) 0 ≡ false) parts → non_empty parts ≡ parts
none_empty [] all = refl
none_empty (part ∷ parts) all = rw all.0 (ap (λ (rest : List (List ℕ)). part ∷ rest) (none_empty parts all.1))

-- pages that are put behind a line are one word of it
pub joined_pages : (line first : List ℕ) (pages : List (List ℕ)) (mid last : List ℕ) → 1 ≤ length pages → first ≡ get_or pages 0 first → mid ≡ line ++ 32 ∷ encode_lower first
    → last ≡ followed 47 mid (map encode_lower (take (length pages - 1) (drop 1 pages))) → last ≡ followed 32 line (pages_word pages ∷ [])
joined_pages line first [] mid last some is start end = absurd (omega (arith, some))
joined_pages line first (page ∷ more) mid last some is start end =
    word_of_more 47 line (encode_lower page) (map encode_lower more) last
    (end ∙ ap (λ (ps : List (List ℕ)). followed 47 mid (map encode_lower ps)) (take_all (length (page ∷ more) - 1) more (omega arith))
    ∙ ap (λ (text : List ℕ). followed 47 text (map encode_lower more)) (start ∙ ap (λ (p : List ℕ). line ++ 32 ∷ encode_lower p) is))

-- and so are names
pub joined_names : (line first : List ℕ) (names : List (List ℕ)) (mid last : List ℕ) → 1 ≤ length names → first ≡ get_or names 0 first → mid ≡ line ++ 32 ∷ first
    → last ≡ followed 44 mid (take (length names - 1) (drop 1 names)) → last ≡ followed 32 line (areas_word names ∷ [])
joined_names line first [] mid last some is start end = absurd (omega (arith, some))
joined_names line first (name ∷ more) mid last some is start end =
    word_of_more 44 line name more last
    (end ∙ ap (λ (ns : List (List ℕ)). followed 44 mid ns) (take_all (length (name ∷ more) - 1) more (omega arith)) ∙ ap (λ (text : List ℕ). followed 44 text more) (start ∙ ap (λ (n : List ℕ). line ++ 32 ∷ n) is))
