-- The cut of octets into lines.
use Rattle.std.proofs.Common.{◌≡◌, ℕ, zero, suc, ◌+◌, ◌<◌, ◌≤◌, eqb, true, false, List, [], ◌∷◌, ◌++◌, length, take, min, refl, sym, ap, ap₂, ◌∙◌, subst, arith, append_assoc, append-nil, length-append}
use Rattle.std.specs.List.{AllByRecursion, flat_map}
use Rattle.std.proofs.lemmas.Bool.{eq-eqb}
use Rattle.std.proofs.lemmas.List.Elements.{All-head, All-tail, All-nil, All-append}
use Rattle.std.proofs.lemmas.Grind.{flat_map-append}
use Rattle.std.proofs.lemmas.List.{length-take}
use Rattle.std.proofs.Math.Seq.{take-append-add}
use Rattle.journal_file.specs.Lines.{HasNoEnd, IsCut, OneCut, LinesAreCut, line_octets, lines_octets, kept_of}

-- no octet
pub HasNoEnd-nil : HasNoEnd []
HasNoEnd-nil = All-nil (λ x. eqb x 10 ≡ false)

pub HasNoEnd-append : (xs ys : List ℕ) → HasNoEnd xs → HasNoEnd ys → HasNoEnd (xs ++ ys)
HasNoEnd-append xs ys p q = All-append (λ x. eqb x 10 ≡ false) xs ys p q

-- the first octet, and the others
first_differs : (x : ℕ) (xs : List ℕ) → HasNoEnd (x ∷ xs) → eqb x 10 ≡ false
first_differs x xs none = All-head (λ y. eqb y 10 ≡ false) x xs none

others_differ : (x : ℕ) (xs : List ℕ) → HasNoEnd (x ∷ xs) → HasNoEnd xs
others_differ x xs none = All-tail (λ y. eqb y 10 ≡ false) x xs none

-- an octet that ends no line is not 0A
not_ten : (x : ℕ) → eqb x 10 ≡ false → x ≡ 10 → ⊥
not_ten x differs same = let is : eqb x 10 ≡ true = eq-eqb x 10 same in cc

-- a line ends in no octets in which none does
pub no_line : (xs rest octets : List ℕ) → HasNoEnd octets → octets ≡ xs ++ 10 ∷ rest → ⊥
no_line [] rest [] none same = cc
no_line [] rest (y ∷ ys) none same = let first : y ≡ 10 = cc in not_ten y (first_differs y ys none) first
no_line (x ∷ xs) rest [] none same = cc
no_line (x ∷ xs) rest (y ∷ ys) none same = let more : ys ≡ xs ++ 10 ∷ rest = cc in no_line xs rest ys (others_differ y ys none) more

cons-equal : {X : Type 0} (x y : X) (xs ys : List X) → x ≡ y → xs ≡ ys → x ∷ xs ≡ y ∷ ys
cons-equal x y xs ys p q = cc

-- octets begin with one line
pub line-injective : (xs ys r t : List ℕ) → HasNoEnd xs → HasNoEnd ys → xs ++ 10 ∷ r ≡ ys ++ 10 ∷ t → (xs ≡ ys) × (r ≡ t)
line-injective [] [] r t p q same = let tails : r ≡ t = cc in (refl, tails)
line-injective [] (y ∷ ys) r t p q same = let first : y ≡ 10 = cc in absurd (not_ten y (first_differs y ys q) first)
line-injective (x ∷ xs) [] r t p q same = let first : x ≡ 10 = cc in absurd (not_ten x (first_differs x xs p) first)
line-injective (x ∷ xs) (y ∷ ys) r t p q same =
    let first : x ≡ y = cc in
    let more : xs ++ 10 ∷ r ≡ ys ++ 10 ∷ t = cc in
    let both = line-injective xs ys r t (others_differ x xs p) (others_differ y ys q) more in
    (cons-equal x y xs ys first both.0, both.1)

-- a line and what follows it
pub behind_line : (line rest : List ℕ) → line_octets line ++ rest ≡ line ++ 10 ∷ rest
behind_line line rest = append_assoc line (10 ∷ []) rest

-- the first line of lines
pub first_of_lines : (line : List ℕ) (lines : List (List ℕ)) (rest : List ℕ) → lines_octets (line ∷ lines) ++ rest ≡ line ++ 10 ∷ (lines_octets lines ++ rest)
first_of_lines line lines rest = append_assoc (line_octets line) (lines_octets lines) rest ∙ behind_line line (lines_octets lines ++ rest)

pub one_cut : OneCut
one_cut octets [] [] r t p q = (refl, sym p.whole ∙ q.whole)
one_cut octets [] (y ∷ ys) r t p q =
    absurd (no_line y (lines_octets ys ++ t) r p.partial (sym p.whole ∙ q.whole ∙ first_of_lines y ys t))
one_cut octets (x ∷ xs) [] r t p q =
    absurd (no_line x (lines_octets xs ++ r) t q.partial (sym q.whole ∙ p.whole ∙ first_of_lines x xs r))
one_cut octets (x ∷ xs) (y ∷ ys) r t p q =
    let same : x ++ 10 ∷ (lines_octets xs ++ r) ≡ y ++ 10 ∷ (lines_octets ys ++ t) = sym (first_of_lines x xs r) ∙ sym p.whole ∙ q.whole ∙ first_of_lines y ys t in
    let split = line-injective x y _ _ p.each.0 q.each.0 same in
    let others = one_cut (lines_octets xs ++ r) xs ys r t (record { whole = refl; each = p.each.1; partial = p.partial }) (record { whole = split.1; each = q.each.1; partial = q.partial }) in
    (cons-equal x y xs ys split.0 others.0, others.1)

pub lines_are_cut : LinesAreCut
lines_are_cut lines each = record { whole = sym (append-nil (lines_octets lines)); each = each; partial = HasNoEnd-nil }

-- nothing is no line
pub IsCut-nil : IsCut [] [] []
IsCut-nil = record { whole = refl; each = tt; partial = HasNoEnd-nil }

-- the lines of two lists
pub lines_octets-append : (xs ys : List (List ℕ)) → lines_octets (xs ++ ys) ≡ lines_octets xs ++ lines_octets ys
lines_octets-append xs ys = flat_map-append line_octets xs ys

pub AllByRecursion-append : {X : Type 0} (P : X → Type 0) (xs ys : List X) → AllByRecursion P xs → AllByRecursion P ys → AllByRecursion P (xs ++ ys)
AllByRecursion-append P [] ys p q = q
AllByRecursion-append P (x ∷ xs) ys p q = (p.0, AllByRecursion-append P xs ys p.1 q)

-- one line more
pub one_line_more : (lines : List (List ℕ)) (line rest : List ℕ) → lines_octets lines ++ (line ++ 10 ∷ rest) ≡ lines_octets (lines ++ line ∷ []) ++ rest
one_line_more lines line rest =
    ap (λ s. lines_octets lines ++ s) (sym (first_of_lines line [] rest)) ∙ sym (append_assoc (lines_octets lines) (lines_octets (line ∷ [])) rest)
    ∙ ap (λ s. s ++ rest) (sym (lines_octets-append lines (line ∷ [])))

pub IsCut-line : (octets run behind : List ℕ) (lines : List (List ℕ)) (rest : List ℕ) → IsCut octets lines rest → HasNoEnd run
    → IsCut (octets ++ (run ++ 10 ∷ [])) (lines ++ (rest ++ run) ∷ []) []
IsCut-line octets run behind lines rest cut none = record {
  whole =
      ap (λ s. s ++ (run ++ 10 ∷ [])) cut.whole ∙ append_assoc (lines_octets lines) rest (run ++ 10 ∷ [])
      ∙ ap (λ s. lines_octets lines ++ s) (sym (append_assoc rest run (10 ∷ []))) ∙ one_line_more lines (rest ++ run) [];
  each = AllByRecursion-append HasNoEnd lines ((rest ++ run) ∷ []) cut.each (HasNoEnd-append rest run cut.partial none, tt);
  partial = HasNoEnd-nil;
}

pub IsCut-run : (octets run : List ℕ) (lines : List (List ℕ)) (rest : List ℕ) → IsCut octets lines rest → HasNoEnd run → IsCut (octets ++ run) lines (rest ++ run)
IsCut-run octets run lines rest cut none = record {
  whole = ap (λ s. s ++ run) cut.whole ∙ append_assoc (lines_octets lines) rest run;
  each = cut.each;
  partial = HasNoEnd-append rest run cut.partial none;
}

-- what is kept of a line that goes on
pub take-take-append : (n : ℕ) (xs ys : List ℕ) → take n (take n xs ++ ys) ≡ take n (xs ++ ys)
take-take-append zero xs ys = refl
take-take-append (suc n) [] ys = refl
take-take-append (suc n) (x ∷ xs) ys = ap (λ s. x ∷ s) (take-take-append n xs ys)

pub kept_of-append : (xs ys : List ℕ) → kept_of (kept_of xs ++ ys) ≡ kept_of (xs ++ ys)
unfolding kept_of
kept_of-append xs ys = take-take-append 600001 xs ys

-- so many octets are all
take_all : (n : ℕ) (xs : List ℕ) → length xs ≤ n → take n xs ≡ xs
take_all zero [] fits = refl
take_all zero (x ∷ xs) fits = absurd (omega arith)
take_all (suc n) [] fits = refl
take_all (suc n) (x ∷ xs) fits = ap (λ s. x ∷ s) (take_all n xs (omega arith))

-- a line that fits is kept
pub kept_short : (line : List ℕ) → length line ≤ 600001 → kept_of line ≡ line
unfolding kept_of
kept_short line fits = take_all 600001 line fits

-- of a line that goes on the octets are kept for which there is room
pub kept_front : (held run : List ℕ) (room : ℕ) → length held + room ≡ 600001 → held ++ take room run ≡ kept_of (held ++ run)
unfolding kept_of
kept_front held run room fits = sym (ap (λ n. take n (held ++ run)) (sym fits) ∙ take-append-add held run room)

pub kept_run : (held run : List ℕ) → length held + length run ≤ 600001 → held ++ run ≡ kept_of (held ++ run)
kept_run held run fits = sym (kept_short (held ++ run) (omega (arith, length-append held run)))

-- how long what is kept is
pub length-kept_of : (line : List ℕ) → length (kept_of line) ≡ min 600001 (length line)
unfolding kept_of
length-kept_of line = length-take 600001 line

-- nothing is kept of nothing
pub kept_of-nil : kept_of [] ≡ []
kept_of-nil = kept_short [] (omega arith)
