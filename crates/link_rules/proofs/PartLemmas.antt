-- A text that is cut where an octet first passes a test.
use Rattle.std.proofs.Common.{◌≡◌, ◌∙◌, ℕ, zero, suc, ◌+◌, ◌<◌, ◌≤◌, Bool, true, false, List, [], ◌∷◌, Some, None, length, take, drop, get_or, refl, sym, ap, add-one, arith}
use Rattle.std.proofs.lemmas.Grind.{common_steps}
use Rattle.std.proofs.lemmas.List.{length-drop}
use Rattle.std.proofs.lemmas.List.Quantifiers.{position-Some}
use Rattle.std.proofs.lemmas.List.Sums.{fails_before_first}
use Rattle.std.proofs.lemmas.Slice.{between_to_end}
use Rattle.std.specs.List.{between, position, position_or_len}
use Rattle.link_rules.specs.Words.{in_front, parts_by}

-- at the first octet that passes, a part ends
parts_there : (test : ℕ → Bool) (text : List ℕ) (place : ℕ) → place < length text → test (get_or text place 0) ≡ true → ((k : ℕ) → k < place → test (get_or text k 0) ≡ false)
    → parts_by test text ≡ take place text ∷ parts_by test (drop (suc place) text)
parts_there test [] place inside passes before = absurd (omega arith)
parts_there test (x ∷ xs) zero inside passes before = rw passes refl
parts_there test (x ∷ xs) (suc place) inside passes before =
    let first : test x ≡ false = before 0 (omega arith) in
    let rest = parts_there test xs place (omega arith) passes (λ k below. before (suc k) (omega arith)) in
    rw first (ap (in_front x) rest)

-- where none passes, there is one part
parts_nowhere : (test : ℕ → Bool) (text : List ℕ) → ((k : ℕ) → k < length text → test (get_or text k 0) ≡ false) → parts_by test text ≡ text ∷ []
parts_nowhere test [] none = refl
parts_nowhere test (x ∷ xs) none =
    let first : test x ≡ false = none 0 (omega arith) in
    let rest = parts_nowhere test xs (λ k below. none (suc k) (omega arith)) in
    rw first (ap (in_front x) rest)

-- the same of the place that a search gives
pub parts_cut : (test : ℕ → Bool) (text : List ℕ) (place : ℕ) → position test text ≡ Some place
    → (parts_by test text ≡ take place text ∷ parts_by test (between (place + 1) (length text) text)) × (length (between (place + 1) (length text) text) < length text)
parts_cut test text place is =
    let there = position-Some test text place 0 is in
    let rest : between (place + 1) (length text) text ≡ drop (place + 1) text = between_to_end text (place + 1) (length text) (omega arith) in (
      parts_there test text place there.0 there.1 there.2
          ∙ ap (λ n. take place text ∷ parts_by test (drop n text)) (sym (add-one place))
          ∙ ap (λ behind. take place text ∷ parts_by test behind) (sym rest),
      (let shorter : length (drop (place + 1) text) < length text = omega (arith, length-drop (place + 1) text, there.0) in rw rest shorter),
    )

pub parts_one : (test : ℕ → Bool) (text : List ℕ) → position test text ≡ None → parts_by test text ≡ text ∷ []
parts_one test text is =
    let past : length text ≤ position_or_len test text = grind (arith, common_steps) in
    parts_nowhere test text (λ k below. fails_before_first test text k 0 (omega arith))
