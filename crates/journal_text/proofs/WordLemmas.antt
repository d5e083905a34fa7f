-- Words of a line: octets above the space, one at least.
use Rattle.std.proofs.Common.{◌≡◌, ◌∙◌, ℕ, ◌+◌, ◌-◌, ◌<◌, ◌≤◌, eqb, leb, ltb, Bool, true, false, ◌&&◌, List, [], ◌∷◌, ◌++◌, length, refl, sym, ap, subst, arith, length-append}
use Rattle.std.specs.List.{AllByRecursion}
use Rattle.std.proofs.lemmas.Bool.{leb-true, ltb-true, lt-ltb, and_parts}
use Rattle.std.proofs.lemmas.Bool.Decides.{nat_tests}
use Rattle.std.proofs.lemmas.List.Elements.{All-from_recursion}
use Rattle.console_text.specs.Lines.{without_return}
use Rattle.console_text.specs.Parts.{HasNone}
use Rattle.console_text.specs.Words.{non_empty, words_of}
use Rattle.journal_text.specs.Texts.{joined}
use Rattle.journal_text.proofs.TextLemmas.{joined_cons, none_empty, parts_joined}

-- both tests hold
pub both : (a b : Bool) → a ≡ true → b ≡ true → (a && b) ≡ true
both true b p q = q
both false b p q = p

-- every octet is above n
abbrev pub above : ℕ → List ℕ → Bool
above n [] = true
above n (x ∷ xs) = ltb n x && above n xs

pub above-append : (n : ℕ) (xs ys : List ℕ) → above n xs ≡ true → above n ys ≡ true → above n (xs ++ ys) ≡ true
above-append n [] ys p q = q
above-append n (x ∷ xs) ys p q =
    let parts = and_parts (ltb n x) (above n xs) p in
    both (ltb n x) (above n (xs ++ ys)) parts.0 (above-append n xs ys parts.1 q)

pub above-weaker : (m n : ℕ) (xs : List ℕ) → m ≤ n → above n xs ≡ true → above m xs ≡ true
above-weaker m n [] le p = refl
above-weaker m n (x ∷ xs) le p =
    let parts = and_parts (ltb n x) (above n xs) p in
    let high : n < x = ltb-true n x parts.0 in
    both (ltb m x) (above m xs) (lt-ltb m x (omega arith)) (above-weaker m n xs le parts.1)

-- so none of them is n, or less
pub none_above : (separator n : ℕ) (xs : List ℕ) → separator ≤ n → above n xs ≡ true → AllByRecursion (λ x. eqb x separator ≡ false) xs
none_above separator n [] le p = tt
none_above separator n (x ∷ xs) le p =
    let parts = and_parts (ltb n x) (above n xs) p in
    let high : n < x = ltb-true n x parts.0 in
    let other : separator < x = omega arith in
    (grind (arith, nat_tests), none_above separator n xs le parts.1)

pub has_none : (separator n : ℕ) (xs : List ℕ) → separator ≤ n → above n xs ≡ true → HasNone separator xs
has_none separator n xs le p = All-from_recursion (λ x. eqb x separator ≡ false) xs (none_above separator n xs le p)

-- a word
abbrev pub is_word : List ℕ → Bool
is_word w = leb 1 (length w) && above 32 w

abbrev pub AreWords : List (List ℕ) → Type 0
AreWords ws = AllByRecursion (λ w. is_word w ≡ true) ws

filled : (w : List ℕ) → is_word w ≡ true → eqb (length w) 0 ≡ false
filled w p =
    let parts = and_parts (leb 1 (length w)) (above 32 w) p in
    let long : 1 ≤ length w = leb-true 1 (length w) parts.0 in
    grind (arith, nat_tests)

all_filled : (ws : List (List ℕ)) → AreWords ws → AllByRecursion (λ part. eqb (length part) 0 ≡ false) ws
all_filled [] all = tt
all_filled (w ∷ ws) all = (filled w all.0, all_filled ws all.1)

pub word_above : (w : List ℕ) → is_word w ≡ true → above 32 w ≡ true
word_above w p = (and_parts (leb 1 (length w)) (above 32 w) p).1

all_none : (ws : List (List ℕ)) → AreWords ws → AllByRecursion (HasNone 32) ws
all_none [] all = tt
all_none (w ∷ ws) all = (has_none 32 32 w (omega arith) (word_above w all.0), all_none ws all.1)

-- the octets of the texts, and one before each
abbrev pub size : List (List ℕ) → ℕ
size [] = 0
size (w ∷ ws) = (length w + 1) + size ws

pub length-joined : (separator : ℕ) (first : List ℕ) (more : List (List ℕ)) → length (joined separator (first ∷ more)) ≡ length first + size more
length-joined separator first [] = omega arith
length-joined separator first (next ∷ more) =
    ap length (joined_cons separator first next more) ∙ length-append first (separator ∷ joined separator (next ∷ more))
    ∙ (let rest = length-joined separator next more in omega (arith, rest))

pub above-joined : (n separator : ℕ) (first : List ℕ) (more : List (List ℕ)) → ltb n separator ≡ true → above n first ≡ true → AllByRecursion (λ w. above n w ≡ true) more
    → above n (joined separator (first ∷ more)) ≡ true
above-joined n separator first [] high p all = p
above-joined n separator first (next ∷ more) high p all =
    subst (λ text. above n text ≡ true) (sym (joined_cons separator first next more))
    (above-append n first (separator ∷ joined separator (next ∷ more)) p
    (both (ltb n separator) (above n (joined separator (next ∷ more))) high (above-joined n separator next more high all.0 all.1)))

words_above : (ws : List (List ℕ)) → AreWords ws → AllByRecursion (λ w. above 31 w ≡ true) ws
words_above [] all = tt
words_above (w ∷ ws) all = (above-weaker 31 32 w (omega arith) (word_above w all.0), words_above ws all.1)

-- the words of a line that joins words
pub words_joined : (first : List ℕ) (more : List (List ℕ)) → AreWords (first ∷ more) → words_of (joined 32 (first ∷ more)) ≡ first ∷ more
words_joined first more all =
    ap non_empty (parts_joined 32 first more (all_none (first ∷ more) all).0 (all_none (first ∷ more) all).1) ∙ none_empty (first ∷ more) (all_filled (first ∷ more) all)

-- such a line has octets from the space on
pub line_above : (first : List ℕ) (more : List (List ℕ)) → AreWords (first ∷ more) → above 31 (joined 32 (first ∷ more)) ≡ true
line_above first more all = let high = words_above (first ∷ more) all in above-joined 31 32 first more refl high.0 high.1

-- its last octet is no return
pub kept_whole : (text : List ℕ) → above 31 text ≡ true → without_return text ≡ text
kept_whole [] p = refl
kept_whole (x ∷ xs) p =
    let last = has_none 13 31 (x ∷ xs) (omega arith) p (length (x ∷ xs) - 1) 0 (omega arith) in
    rw last refl
