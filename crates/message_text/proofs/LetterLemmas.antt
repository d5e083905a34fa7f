-- The septets of several letters.
use Rattle.std.proofs.Common.{◌≡◌, ◌≢◌, ℕ, ◌+◌, ◌-◌, ◌<◌, ◌≤◌, false, List, [], ◌∷◌, ◌++◌, length, get_or, refl, ap, sym, ◌∙◌, arith, inl, inr, append_assoc, length-append}
use Rattle.std.proofs.lemmas.List.{append-nil, get_or_at, length_push}
use Rattle.std.proofs.lemmas.List.Recursion.{is_sum_by}
use Rattle.std.specs.List.{AllByRecursion, flat_map, sum_by}
use Rattle.message_text.specs.Reading.{spelled}
use Rattle.message_text.specs.Texts.{HasSeptets}
use Rattle.message_text.specs.Writing.{letter_septets}
use Rattle.message_text.proofs.AlphabetLemmas.{AreSeptetsOf, septets_of_letter, spelled_letter}

-- the septets of letters are read as the letters
pub spelled_letters : (letters : List ℕ) → AllByRecursion HasSeptets letters → spelled false (flat_map letter_septets letters) ≡ letters
spelled_letters [] h = refl
spelled_letters (c ∷ cs) h = spelled_letter c (flat_map letter_septets cs) h.0 ∙ ap (λ l. c ∷ l) (spelled_letters cs h.1)

abbrev pub IsLow : ℕ → Type 0
IsLow septet = septet < 128

low_append : (xs ys : List ℕ) → AllByRecursion IsLow xs → AllByRecursion IsLow ys → AllByRecursion IsLow (xs ++ ys)
low_append [] ys h k = k
low_append (x ∷ xs) ys h k = (h.0, low_append xs ys h.1 k)

low_cases : (letter : ℕ) (septets : List ℕ) → AreSeptetsOf letter septets → AllByRecursion IsLow septets
low_cases letter septets (inl (code, h, e)) = rw e (h.low, tt)
low_cases letter septets (inr (code, h, e)) = let low : 27 < 128 = omega arith in rw e (low, (h.low, tt))

pub low_letters : (letters : List ℕ) → AllByRecursion HasSeptets letters → AllByRecursion IsLow (flat_map letter_septets letters)
low_letters [] h = tt
low_letters (c ∷ cs) h = low_append (letter_septets c) (flat_map letter_septets cs) (low_cases c _ (septets_of_letter c h.0)) (low_letters cs h.1)

-- septets that end in another than a carriage return
pub record EndsPlain (septets : List ℕ) : Type 0 where
  pub front : List ℕ
  pub last : ℕ
  pub whole : septets ≡ front ++ last ∷ []
  pub plain : last ≢ 13

end_cases : (letter : ℕ) (septets : List ℕ) → AreSeptetsOf letter septets → EndsPlain septets
end_cases letter septets (inl (code, h, e)) = record { front = []; last = code; whole = e; plain = h.no_return }
end_cases letter septets (inr (code, h, e)) = record { front = 27 ∷ []; last = code; whole = e; plain = h.no_return }

end_behind : (xs ys : List ℕ) → EndsPlain ys → EndsPlain (xs ++ ys)
end_behind xs ys h = record { front = xs ++ h.front; last = h.last; whole = ap (λ s. xs ++ s) h.whole ∙ sym (append_assoc xs h.front (h.last ∷ [])); plain = h.plain }

pub end_letters : (letters : List ℕ) → AllByRecursion HasSeptets letters → 0 < length letters → EndsPlain (flat_map letter_septets letters)
end_letters [] h k = absurd (omega arith)
end_letters (c ∷ []) h k = let e : letter_septets c ++ [] ≡ letter_septets c = append-nil (letter_septets c) in rw e (end_cases c _ (septets_of_letter c h.0))
end_letters (c ∷ d ∷ cs) h k = end_behind (letter_septets c) (flat_map letter_septets (d ∷ cs)) (end_letters (d ∷ cs) h.1 (omega arith))

-- the last septet
pub end_septet : (septets : List ℕ) → EndsPlain septets → get_or septets (length septets - 1) 0 ≢ 13
end_septet septets h e =
    let n : length (h.front ++ h.last ∷ []) ≡ length h.front + 1 = length_push h.front h.last in
    let place : length septets - 1 ≡ length h.front = omega (arith, ap length h.whole, n) in
    let last : get_or (h.front ++ h.last ∷ []) (length h.front) 0 ≡ h.last = get_or_at h.front h.last [] 0 (length h.front) refl in
    h.plain (sym last ∙ ap (λ s. get_or s (length h.front) 0) (sym h.whole) ∙ ap (λ i. get_or septets i 0) (sym place) ∙ e)

pub end_some : (septets : List ℕ) → EndsPlain septets → 1 ≤ length septets
end_some septets h = omega (arith, ap length h.whole, length_push h.front h.last)

-- the room that letters take is the number of their septets
pub room_letters : (letters : List ℕ) → length (flat_map letter_septets letters) ≡ sum_by (λ letter. length (letter_septets letter)) letters
room_letters letters =
    is_sum_by (λ (ls : List ℕ). length (flat_map letter_septets ls)) (λ (letter : ℕ). length (letter_septets letter)) refl
    (λ (c : ℕ) (cs : List ℕ). length-append (letter_septets c) (flat_map letter_septets cs)) letters
