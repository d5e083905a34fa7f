-- Names of areas are words, and names that are joined are parted again.
use Rattle.std.proofs.Common.{◌≡◌, ℕ, ◌<◌, ◌≤◌, leb, ltb, Bool, true, false, ◌&&◌, ◌||◌, not, List, [], ◌∷◌, length, refl, sym, arith}
use Rattle.std.specs.List.{AllByRecursion, list_any}
use Rattle.std.proofs.lemmas.Bool.{and_parts, leb-true, eqb-true, lt-ltb}
use Rattle.areas.specs.Name.{is_name, is_name_octet}
use Rattle.console_text.specs.Parts.{HasNone}
use Rattle.journal_text.proofs.WordLemmas.{above, above-weaker, both, has_none, is_word}

either : (P : Type 0) (a b : Bool) → (a || b) ≡ true → (a ≡ true → P) → (b ≡ true → P) → P
either P true b h left right = left refl
either P false b h left right = right h

octet_above : (x : ℕ) → is_name_octet x ≡ true → 44 < x
octet_above x is =
    either (44 < x) (leb 48 x && leb x 57) _ is
    (λ digit. let low = leb-true 48 x (and_parts (leb 48 x) (leb x 57) digit).0 in omega (arith, low))
    (λ letter. either (44 < x) (leb 65 x && leb x 90) _ letter
    (λ upper. let low = leb-true 65 x (and_parts (leb 65 x) (leb x 90) upper).0 in omega (arith, low))
    (λ other. either (44 < x) (leb 97 x && leb x 122) _ other
    (λ lower. let low = leb-true 97 x (and_parts (leb 97 x) (leb x 122) lower).0 in omega (arith, low))
    (λ hyphen. let same = eqb-true x 45 hyphen in omega (arith, same))))

none_other : (b c : Bool) → not (b || c) ≡ true → (b ≡ false) × (not c ≡ true)
none_other true c h = cc h
none_other false c h = (refl, h)

not_false : (b : Bool) → not b ≡ false → b ≡ true
not_false true h = refl
not_false false h = sym h

octets_above : (a : List ℕ) → not (list_any (λ x. not (is_name_octet x)) a) ≡ true → above 44 a ≡ true
octets_above [] h = refl
octets_above (x ∷ xs) h =
    let parts = none_other (not (is_name_octet x)) (list_any (λ x. not (is_name_octet x)) xs) h in
    both (ltb 44 x) (above 44 xs) (lt-ltb 44 x (octet_above x (not_false (is_name_octet x) parts.0))) (octets_above xs parts.1)

name_parts : (a : List ℕ) → is_name a ≡ true → ((leb 1 (length a) ≡ true) × (leb (length a) 32 ≡ true)) × (above 44 a ≡ true)
name_parts a h =
    let parts = and_parts (leb 1 (length a) && leb (length a) 32) (not (list_any (λ x. not (is_name_octet x)) a)) h in
    (and_parts (leb 1 (length a)) (leb (length a) 32) parts.0, octets_above a parts.1)

pub name_above : (a : List ℕ) → is_name a ≡ true → above 44 a ≡ true
name_above a h = (name_parts a h).1

pub name_word : (a : List ℕ) → is_name a ≡ true → is_word a ≡ true
name_word a h = let parts = name_parts a h in both (leb 1 (length a)) (above 32 a) parts.0.0 (above-weaker 32 44 a (omega arith) parts.1)

pub name_short : (a : List ℕ) → is_name a ≡ true → length a ≤ 32
name_short a h = leb-true (length a) 32 (name_parts a h).0.1

-- each of the names is one
pub all_names : (areas : List (List ℕ)) → not (list_any (λ a. not (is_name a)) areas) ≡ true → AllByRecursion (λ a. is_name a ≡ true) areas
all_names [] h = tt
all_names (a ∷ areas) h =
    let parts = none_other (not (is_name a)) (list_any (λ a. not (is_name a)) areas) h in
    (not_false (is_name a) parts.0, all_names areas parts.1)

pub names_part : (areas : List (List ℕ)) → AllByRecursion (λ a. is_name a ≡ true) areas → AllByRecursion (HasNone 44) areas
names_part [] all = tt
names_part (a ∷ areas) all = (has_none 44 44 a (omega arith) (name_above a all.0), names_part areas all.1)

pub names_above : (areas : List (List ℕ)) → AllByRecursion (λ a. is_name a ≡ true) areas → AllByRecursion (λ a. above 32 a ≡ true) areas
names_above [] all = tt
names_above (a ∷ areas) all = (above-weaker 32 44 a (omega arith) (name_above a all.0), names_above areas all.1)
