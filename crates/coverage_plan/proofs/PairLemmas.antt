-- Each of some cells with each of some warnings: which pairs these are, and in which order.
use Rattle.std.proofs.Common.{◌≡◌, ℕ, Bool, true, false, ◌&&◌, ◌||◌, List, [], ◌∷◌, ◌++◌, nat_eq, ltb, refl, sym, ◌∙◌, ap}
use Rattle.std.proofs.lemmas.Bool.{and_parts, and_from, and_right, or_left, or_right}
use Rattle.std.proofs.lemmas.List.Folds.{list_any-append, list_all-append}
use Rattle.std.specs.List.{list_any, list_all}
use Rattle.common.specs.Cell.{cell_eq, cell_lt}
use Rattle.common.specs.Equality.{cell_decides}
use Rattle.common.specs.Order.{is_ascending}
use Rattle.common.specs.OrderLaws.{ascending_map}
use Rattle.common.specs.declared.cell.Cell.{Cell}
use Rattle.coverage_plan.specs.Changes.{ArePairs, pair_lt, is_pair}
use Rattle.coverage_plan.specs.Reach.{AreCells, AreNumbers, pairs_with, pairs_of}

-- which pairs they are

both : (a b e : Bool) → ((a && b) || (a && e)) ≡ (a && (b || e))
both true b e = refl
both false b e = refl

either : (a b e : Bool) → ((a && e) || (b && e)) ≡ ((a || b) && e)
either true true true = refl
either true true false = refl
either true false true = refl
either true false false = refl
either false b e = refl

among_with : (c : Cell) (n : ℕ) (d : Cell) (ns : List ℕ) → list_any (is_pair c n) (pairs_with ns d) ≡ (cell_eq d c && list_any (λ m. nat_eq m n) ns)
among_with c n d [] = sym (and_right (cell_eq d c) false refl)
among_with c n d (m ∷ ns) =
    ap (λ t. (cell_eq d c && nat_eq m n) || t) (among_with c n d ns) ∙ both (cell_eq d c) (nat_eq m n) (list_any (λ k. nat_eq k n) ns)

among_pairs : (c : Cell) (n : ℕ) (cs : List Cell) (ns : List ℕ) → list_any (is_pair c n) (pairs_of cs ns) ≡ (list_any (λ d. cell_eq d c) cs && list_any (λ m. nat_eq m n) ns)
among_pairs c n [] ns = refl
among_pairs c n (d ∷ cs) ns =
    list_any-append (is_pair c n) (pairs_with ns d) (pairs_of cs ns)
    ∙ ap (λ t. t || list_any (is_pair c n) (pairs_of cs ns)) (among_with c n d ns)
    ∙ ap (λ t. (cell_eq d c && list_any (λ m. nat_eq m n) ns) || t) (among_pairs c n cs ns)
    ∙ either (cell_eq d c) (list_any (λ e. cell_eq e c) cs) (list_any (λ m. nat_eq m n) ns)

-- their order

-- a lesser cell comes first, whatever the warnings
cell_first : (c d : Cell) (m n : ℕ) → cell_lt c d ≡ true → pair_lt (c, m) (d, n) ≡ true
cell_first c d m n h = or_left (cell_lt c d) (cell_eq c d && ltb m n) h

-- of one cell the lesser warning comes first
number_first : (c : Cell) (m n : ℕ) → ltb m n ≡ true → pair_lt (c, m) (c, n) ≡ true
number_first c m n h = or_right (cell_lt c c) (cell_eq c c && ltb m n) (and_from (cell_eq c c) (ltb m n) ((cell_decides c c).1 refl) h)

any_number : (p : Cell × ℕ → Bool) (d : Cell) → ((n : ℕ) → p (d, n) ≡ true) → (ns : List ℕ) → list_all p (pairs_with ns d) ≡ true
any_number p d h [] = refl
any_number p d h (n ∷ ns) = and_from (p (d, n)) (list_all p (pairs_with ns d)) (h n) (any_number p d h ns)

-- the pair comes before all pairs of greater cells
before_all : (c : Cell) (m : ℕ) (cs : List Cell) (ns : List ℕ) → list_all (cell_lt c) cs ≡ true → list_all (pair_lt (c, m)) (pairs_of cs ns) ≡ true
before_all c m [] ns h = refl
before_all c m (d ∷ cs) ns h =
    let parts = and_parts (cell_lt c d) (list_all (cell_lt c) cs) h in
    list_all-append (pair_lt (c, m)) (pairs_with ns d) (pairs_of cs ns) ∙ and_from (list_all (pair_lt (c, m)) (pairs_with ns d)) (list_all (pair_lt (c, m)) (pairs_of cs ns)) (any_number (pair_lt (c, m)) d (λ n. cell_first c d m n parts.0) ns) (before_all c m cs ns parts.1)

-- of two lists in order, where each of the first comes before all of the second, the second stands in order after the first
ascending_append : {A : Type 0} (before : A → A → Bool) (xs ys : List A) → is_ascending before xs ≡ true → is_ascending before ys ≡ true → list_all (λ x. list_all (before x) ys) xs ≡ true → is_ascending before (xs ++ ys) ≡ true
ascending_append before [] ys g h e = h
ascending_append before (x ∷ xs) ys g h e =
    let first = and_parts (list_all (before x) xs) (is_ascending before xs) g in
    let later = and_parts (list_all (before x) ys) (list_all (λ z. list_all (before z) ys) xs) e in
    and_from (list_all (before x) (xs ++ ys)) (is_ascending before (xs ++ ys)) (list_all-append (before x) xs ys ∙ and_from (list_all (before x) xs) (list_all (before x) ys) first.0 later.0) (ascending_append before xs ys first.1 h later.1)

pairs_ascend : (cs : List Cell) (ns : List ℕ) → is_ascending cell_lt cs ≡ true → is_ascending ltb ns ≡ true → is_ascending pair_lt (pairs_of cs ns) ≡ true
pairs_ascend [] ns g h = refl
pairs_ascend (c ∷ cs) ns g h =
    let parts = and_parts (list_all (cell_lt c) cs) (is_ascending cell_lt cs) g in
    ascending_append pair_lt (pairs_with ns c) (pairs_of cs ns) (ascending_map ltb pair_lt (λ n. (c, n)) (λ m n e. number_first c m n e) ns h) (pairs_ascend cs ns parts.1 h) (any_number (λ p. list_all (pair_lt p) (pairs_of cs ns)) c (λ m. before_all c m cs ns parts.0) ns)

-- the pairs of the cells that pass one test and the warnings that pass another
pub are_pairs : (p : Cell → Bool) (q : ℕ → Bool) (cs : List Cell) (ns : List ℕ) → AreCells p cs → AreNumbers q ns → ArePairs (λ c n. p c && q n) (pairs_of cs ns)
are_pairs p q cs ns cells numbers = record {
  ordered = pairs_ascend cs ns cells.ordered numbers.ordered;
  exact = λ c n. among_pairs c n cs ns ∙ ap (λ t. t && list_any (λ m. nat_eq m n) ns) (cells.exact c) ∙ ap (λ t. p c && t) (numbers.exact n);
}
