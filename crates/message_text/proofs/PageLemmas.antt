-- Pages of septets, read.
use Rattle.std.proofs.Common.{◌≡◌, ◌≢◌, ℕ, suc, zero, ◌+◌, ◌-◌, ◌*◌, ◌/◌, ◌%◌, ◌<◌, ◌≤◌, Bool, true, false, cond, ◌&&◌, List, [], ◌∷◌, ◌++◌, length, take, get_or, refl, ap, ◌∙◌, arith, eqb}
use Rattle.std.proofs.lemmas.Bool.{eq-eqb, eqb-true, ne_eqb}
use Rattle.std.proofs.lemmas.List.{length_push, get_or_at, take_at}
use Rattle.std.specs.List.{AllByRecursion, flat_map, sum_by}
use Rattle.message_text.specs.Septets.{unfilled, septets_of, whole_septets, ends_in_return}
use Rattle.message_text.specs.Reading.{spelled}
use Rattle.message_text.specs.Texts.{HasSeptets}
use Rattle.message_text.specs.Writing.{filled, letter_septets, packed}
use Rattle.message_text.proofs.LetterLemmas.{EndsPlain, IsLow, end_septet, end_some, end_letters, low_letters, room_letters, spelled_letters}
use Rattle.message_text.proofs.PackingLemmas.{whole_packed, length_packed, low_digits}

unfilled_cases : (at_end ends : Bool) (septets : List ℕ) → ends_in_return septets ≡ ends
    → unfilled at_end septets ≡ cond (at_end && ends) (take (length septets - 1) septets) septets
unfilled_cases at_end ends septets e = ap (λ b. cond (at_end && b) (take (length septets - 1) septets) septets) e

kept_false : (at_end : Bool) (a b : List ℕ) → cond (at_end && false) a b ≡ b
kept_false true a b = refl
kept_false false a b = refl

-- septets that end otherwise are kept
pub unfilled_plain : (at_end : Bool) (septets : List ℕ) → EndsPlain septets → unfilled at_end septets ≡ septets
unfilled_plain at_end septets h =
    unfilled_cases at_end false septets (ne_eqb _ 13 (end_septet septets h)) ∙ kept_false at_end (take (length septets - 1) septets) septets

-- a carriage return that was added is dropped
pub unfilled_filled : (septets : List ℕ) → unfilled true (septets ++ 13 ∷ []) ≡ septets
unfilled_filled septets =
    let n : length (septets ++ 13 ∷ []) ≡ length septets + 1 = length_push septets 13 in
    let place : length (septets ++ 13 ∷ []) - 1 ≡ length septets = omega arith in
    let last : get_or (septets ++ 13 ∷ []) (length (septets ++ 13 ∷ []) - 1) 0 ≡ 13 =
    ap (λ i. get_or (septets ++ 13 ∷ []) i 0) place ∙ get_or_at septets 13 [] 0 (length septets) refl in
    unfilled_cases true true (septets ++ 13 ∷ []) (eq-eqb _ 13 last)
    ∙ ap (λ i. take i (septets ++ 13 ∷ [])) place ∙ take_at septets (13 ∷ []) (length septets) refl

low_push : (septets : List ℕ) → AllByRecursion IsLow septets → AllByRecursion IsLow (septets ++ 13 ∷ [])
low_push [] h = let low : 13 < 128 = omega arith in (low, tt)
low_push (s ∷ rest) h = (h.0, low_push rest h.1)

-- a page with septets to its end
pub read_filled : (septets : List ℕ) → AllByRecursion IsLow septets → length septets % 8 ≡ 7 → septets_of (packed (septets ++ 13 ∷ [])) ≡ septets
read_filled septets h full =
    let n : length (septets ++ 13 ∷ []) ≡ length septets + 1 = length_push septets 13 in
    let part : length (septets ++ 13 ∷ []) % 8 ≢ 7 = λ e. omega arith in
    let k = length_packed (septets ++ 13 ∷ []) in
    let at_end : length (packed (septets ++ 13 ∷ [])) % 7 ≡ 0 = omega arith in
    ap (λ b. unfilled b (whole_septets (packed (septets ++ 13 ∷ [])))) (eq-eqb _ 0 at_end)
    ∙ ap (unfilled true) (whole_packed (septets ++ 13 ∷ []) (low_push septets h) part)
    ∙ unfilled_filled septets

-- a page with bits left, or none
pub read_plain : (septets : List ℕ) → AllByRecursion IsLow septets → length septets % 8 ≢ 7 → EndsPlain septets → septets_of (packed septets) ≡ septets
read_plain septets h part ends =
    ap (unfilled (eqb (length (packed septets) % 7) 0)) (whole_packed septets h part) ∙ unfilled_plain _ septets ends

low_take : (n : ℕ) (septets : List ℕ) → AllByRecursion IsLow septets → AllByRecursion IsLow (take n septets)
low_take zero septets h = tt
low_take (suc n) [] h = tt
low_take (suc n) (s ∷ rest) h = (h.0, low_take n rest h.1)

low_unfilled : (at_end ends : Bool) (septets : List ℕ) → AllByRecursion IsLow septets → AllByRecursion IsLow (cond (at_end && ends) (take (length septets - 1) septets) septets)
low_unfilled true true septets h = low_take (length septets - 1) septets h
low_unfilled true false septets h = h
low_unfilled false ends septets h = h

-- what is read is below 128
pub low_septets : (octets : List ℕ) → AllByRecursion IsLow (septets_of octets)
low_septets octets = low_unfilled _ (ends_in_return (whole_septets octets)) (whole_septets octets) (low_digits _ _)

page_by : (septets : List ℕ) (full : Bool) → eqb (length septets % 8) 7 ≡ full → AllByRecursion IsLow septets → EndsPlain septets
    → septets_of (packed (cond full (septets ++ 13 ∷ []) septets)) ≡ septets
page_by septets true e h ends = read_filled septets h (eqb-true _ 7 e)
page_by septets false e h ends = read_plain septets h (λ f. let t : eqb (length septets % 8) 7 ≡ true = eq-eqb _ 7 f in cc) ends

low_by : (septets : List ℕ) (full : Bool) → AllByRecursion IsLow septets → AllByRecursion IsLow (cond full (septets ++ 13 ∷ []) septets)
low_by septets true h = low_push septets h
low_by septets false h = h

room_by : (septets : List ℕ) (full : Bool) → eqb (length septets % 8) 7 ≡ full → 1 ≤ length septets → length septets ≤ 93
    → (1 ≤ length (packed (cond full (septets ++ 13 ∷ []) septets))) × (length (packed (cond full (septets ++ 13 ∷ []) septets)) ≤ 82)
room_by septets true e one most =
    let f : length septets % 8 ≡ 7 = eqb-true _ 7 e in
    let n : length (septets ++ 13 ∷ []) ≡ length septets + 1 = length_push septets 13 in
    let m : length (packed (septets ++ 13 ∷ [])) ≡ (7 * length (septets ++ 13 ∷ []) + 7) / 8 = length_packed (septets ++ 13 ∷ []) in
    (omega arith, omega arith)
room_by septets false e one most =
    let m : length (packed septets) ≡ (7 * length septets + 7) / 8 = length_packed septets in
    (omega arith, omega arith)

-- the page of letters
pub page_read : (letters : List ℕ) → AllByRecursion HasSeptets letters → 0 < length letters → spelled false (septets_of (packed (filled (flat_map letter_septets letters)))) ≡ letters
page_read letters h some =
    ap (spelled false) (page_by (flat_map letter_septets letters) _ refl (low_letters letters h) (end_letters letters h some)) ∙ spelled_letters letters h

pub page_low : (letters : List ℕ) → AllByRecursion HasSeptets letters → AllByRecursion IsLow (filled (flat_map letter_septets letters))
page_low letters h = low_by (flat_map letter_septets letters) _ (low_letters letters h)

-- how many octets a page has
pub page_length : (letters : List ℕ) → AllByRecursion HasSeptets letters → 0 < length letters
    → sum_by (λ letter. length (letter_septets letter)) letters ≤ 93
    → (1 ≤ length (packed (filled (flat_map letter_septets letters)))) × (length (packed (filled (flat_map letter_septets letters))) ≤ 82)
page_length letters h some room =
    let e : length (flat_map letter_septets letters) ≡ sum_by (λ letter. length (letter_septets letter)) letters = room_letters letters in
    let one : 1 ≤ length (flat_map letter_septets letters) = end_some _ (end_letters letters h some) in
    room_by (flat_map letter_septets letters) _ refl one (omega arith)
