-- A comment of a file, as the console reads it.
use Rattle.std.proofs.Common.{◌≡◌, ℕ, zero, suc, ◌-◌, ◌<◌, ◌≤◌, eqb, true, false, List, [], ◌∷◌, length, take, cond, refl, sym, subst, arith}
use Rattle.std.specs.Prelude.{slice_index}
use Rattle.std.proofs.lemmas.Bool.{eqb-true}
use Rattle.std.proofs.lemmas.Bool.Decides.{nat_tests}
use Rattle.std.proofs.lemmas.List.{length-take}
use Rattle.console.specs.Sessions.{Answers, AnswersWords, Responds, SessionState}
use Rattle.console_text.specs.Lines.{longest_line, without_return}
use Rattle.console_text.specs.Parts.{in_front, parts_of}
use Rattle.console_text.specs.Words.{non_empty, words_of}
use Rattle.console_text.specs.declared.response.Response.TheVariants as response
use Rattle.journal_laws.specs.Files.{IsComment}

-- no more octets than before stand in front of a return
pub return_shorter : (line : List ℕ) → length (without_return line) ≤ length line
return_shorter line =
    elim (eqb (slice_index line (length line - 1)) 13) as (λ b. length (cond b (take (length line - 1) line) line) ≤ length line) [
      | true ↦ omega (arith, length-take (length line - 1) line)
      | false ↦ omega arith
    ]

pub comment_short : (line : List ℕ) → IsComment line → length (without_return line) ≤ longest_line
comment_short line is = omega (arith, return_shorter line, is.2)

-- the first octet stands in front of a return too
taken_first : (n : ℕ) (ys : List ℕ) → 0 < n → (zs : List ℕ) × (take n (35 ∷ ys) ≡ 35 ∷ zs)
taken_first zero ys some = absurd (omega arith)
taken_first (suc n) ys some = (take n ys, refl)

first_stays : (xs : List ℕ) → (ys : List ℕ) × (without_return (35 ∷ xs) ≡ 35 ∷ ys)
first_stays [] = ([], refl)
first_stays (x ∷ xs) =
    elim (eqb (slice_index (35 ∷ x ∷ xs) (length (35 ∷ x ∷ xs) - 1)) 13) as (λ b. (ys : List ℕ) × (cond b (take (length (35 ∷ x ∷ xs) - 1) (35 ∷ x ∷ xs)) (35 ∷ x ∷ xs) ≡ 35 ∷ ys)) [
      | true ↦ taken_first (length (35 ∷ x ∷ xs) - 1) (x ∷ xs) (omega arith)
      | false ↦ (x ∷ xs, refl)
    ]

-- the first word begins with it
first_word : (parts : List (List ℕ)) → (word : List ℕ) × (words : List (List ℕ)) × (non_empty (in_front (35 ∷ []) parts) ≡ (35 ∷ word) ∷ words)
first_word [] = ([], [], refl)
first_word (part ∷ parts) =
    let some : eqb (length (35 ∷ part)) 0 ≡ false = grind (arith, nat_tests) in
    (part, non_empty parts, rw some refl)

silent_words : (s : SessionState) (xs : List ℕ) → AnswersWords Responds s (words_of (35 ∷ xs)) response.Silence s
silent_words s xs =
    let word = first_word (parts_of 32 xs) in
    subst (λ ws. AnswersWords Responds s ws response.Silence s) (sym word.2) (refl, refl)

silent_octets : (s : SessionState) (xs : List ℕ) → Answers s (without_return (35 ∷ xs)) response.Silence s
silent_octets s xs =
    let stays = first_stays xs in
    subst (λ octets. Answers s octets response.Silence s) (sym stays.1) (silent_words s stays.0)

-- a comment is answered by nothing
pub comment_silent : (s : SessionState) (line : List ℕ) → IsComment line → Answers s (without_return line) response.Silence s
comment_silent s [] is = cc
comment_silent s (x ∷ xs) is =
    subst (λ n. Answers s (without_return (n ∷ xs)) response.Silence s) (sym (eqb-true x 35 is.0)) (silent_octets s xs)
