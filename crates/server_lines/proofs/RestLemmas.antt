-- The words of what stands behind the first words of a line.
use Rattle.std.proofs.Common.{◌≡◌, ◌∙◌, ℕ, zero, suc, Bool, true, false, cond, eqb, List, [], ◌∷◌, drop, length, not, arith, add-one, ap, refl, sym}
use Rattle.std.proofs.lemmas.Bool.{ne_eqb}
use Rattle.std.proofs.lemmas.List.{drop-drop}
use Rattle.console_text.specs.Parts.{in_front, parts_of}
use Rattle.console_text.specs.Words.{non_empty, words_of}
use Rattle.server_lines.specs.Rest.{behind_spaces, behind_word, behind_words}

-- a space begins no word
spaces_by : (b : Bool) (x : ℕ) (xs : List ℕ) → eqb x 32 ≡ b → words_of (behind_spaces xs) ≡ words_of xs
    → words_of (cond b (behind_spaces xs) (x ∷ xs)) ≡ words_of (x ∷ xs)
spaces_by true x xs e more = more ∙ rw e refl
spaces_by false x xs e more = refl

spaces_none : (line : List ℕ) → words_of (behind_spaces line) ≡ words_of line
spaces_none [] = refl
spaces_none (x ∷ xs) = spaces_by (eqb x 32) x xs refl (spaces_none xs)

-- the parts behind the first one are the same, whatever stands in front
front_same : (x : ℕ) (parts : List (List ℕ)) → drop 1 parts ≡ drop 1 (in_front (x ∷ []) parts)
front_same x [] = refl
front_same x (part ∷ parts) = refl

first_by : (b : Bool) (x : ℕ) (xs : List ℕ) → eqb x 32 ≡ b → words_of (behind_word xs) ≡ non_empty (drop 1 (parts_of 32 xs))
    → words_of (cond b (x ∷ xs) (behind_word xs)) ≡ non_empty (drop 1 (cond b ([] ∷ parts_of 32 xs) (in_front (x ∷ []) (parts_of 32 xs))))
first_by true x xs e more = rw e refl
first_by false x xs e more = more ∙ ap non_empty (front_same x (parts_of 32 xs))

behind_first : (line : List ℕ) → words_of (behind_word line) ≡ non_empty (drop 1 (parts_of 32 line))
behind_first [] = refl
behind_first (x ∷ xs) = first_by (eqb x 32) x xs refl (behind_first xs)

-- a part with octets is a word
has_octets : (x : ℕ) (part : List ℕ) → eqb (length (x ∷ part)) 0 ≡ false
has_octets x part = ne_eqb (length (x ∷ part)) 0 (λ e. omega arith)

one_word : (x : ℕ) (parts : List (List ℕ)) → non_empty (drop 1 (in_front (x ∷ []) parts)) ≡ drop 1 (non_empty (in_front (x ∷ []) parts))
one_word x [] = refl
one_word x (part ∷ parts) = ap (λ b. drop 1 (cond (not b) ((x ∷ part) ∷ non_empty parts) (non_empty parts))) (sym (has_octets x part))

begins_by : (b : Bool) (x : ℕ) (xs : List ℕ) → eqb x 32 ≡ b → words_of (behind_word (behind_spaces xs)) ≡ drop 1 (words_of (behind_spaces xs))
    → words_of (behind_word (cond b (behind_spaces xs) (x ∷ xs))) ≡ drop 1 (words_of (cond b (behind_spaces xs) (x ∷ xs)))
begins_by true x xs e more = more
begins_by false x xs e more = behind_first (x ∷ xs) ∙ rw e (one_word x (parts_of 32 xs))

word_first : (line : List ℕ) → words_of (behind_word (behind_spaces line)) ≡ drop 1 (words_of (behind_spaces line))
word_first [] = refl
word_first (x ∷ xs) = begins_by (eqb x 32) x xs refl (word_first xs)

next_word : (n : ℕ) (line : List ℕ) → words_of (behind_word (behind_words n line)) ≡ drop 1 (words_of (behind_words n line))
next_word zero line = word_first line
next_word (suc n) line = word_first (behind_word (behind_words n line))

-- behind so many words stand the other words
pub words_behind : (n : ℕ) (line : List ℕ) → words_of (behind_words n line) ≡ drop n (words_of line)
words_behind zero line = spaces_none line
words_behind (suc n) line =
    spaces_none (behind_word (behind_words n line))
    ∙ next_word n line
    ∙ ap (drop 1) (words_behind n line)
    ∙ drop-drop 1 n (words_of line)
    ∙ ap (λ k. drop k (words_of line)) (add-one n)
