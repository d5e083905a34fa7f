-- The cells of an order: where one stands, how they change with one, and the first of them.
use Rattle.std.proofs.Common.{◌≡◌, arith, ℕ, zero, suc, ◌+◌, ◌-◌, ◌<◌, ◌≤◌, Bool, true, false, ◌&&◌, ◌||◌, not, List, [], ◌∷◌, ◌++◌, length, take, drop, get_or, filter, append_assoc, length-append, refl, sym, ◌∙◌, ap}
use Rattle.std.proofs.lemmas.Bool.{and_parts, or_from, false_from_ne_true}
use Rattle.std.proofs.lemmas.Bool.Decides.{nat_tests}
use Rattle.std.proofs.lemmas.Grind.{common_steps}
use Rattle.std.proofs.lemmas.List.{get_or_read_under}
use Rattle.std.proofs.lemmas.List.Folds.{list_any_at}
use Rattle.std.specs.List.{list_all}
use Rattle.std.specs.List.Sorted.{IsPartitionedBy}
use Rattle.cell_register.specs.CellLaws.{cell_lt_follows, cell_lt_apart, cell_lt_other}
use Rattle.common.specs.Cell.{cell_eq, cell_lt}
use Rattle.common.specs.Equality.{cell_decides}
use Rattle.common.specs.OnceLaws.{kept_whole}
use Rattle.common.specs.Order.{inserted, is_ascending}
use Rattle.common.specs.OrderLaws.{all_from_none, any_inserted, any_without, ascending_filter, ascending_inserted}
use Rattle.common.specs.RisingLaws as rising
use Rattle.common.specs.declared.cell.Cell.{Cell}
use Rattle.order_maker.specs.Pending.{has_cell}
use Rattle.order_maker.specs.Places.{IsStart, StandsAt}
use Rattle.order_maker.proofs.KeyLemmas.{cell_turned}

-- Where a cell stands.

-- a cell before one that comes before c does so too
pub parted : (c : Cell) (cells : List Cell) → is_ascending cell_lt cells ≡ true → IsPartitionedBy (λ d. cell_lt d c) cells
parted c cells o = rising.parted cell_lt (λ d. cell_lt d c) (λ x y h g. cell_lt_follows x y c h g) cells o

-- where the last comes before c, all do
pub all_before : (c last : Cell) (cells : List Cell) → is_ascending cell_lt cells ≡ true → last ≡ get_or cells (length cells - 1) last → cell_lt last c ≡ true → IsStart c cells (length cells)
all_before c last cells o is h =
    (λ k d low high. parted c cells o k (length cells - 1) d (omega arith) (omega arith) (ap (λ x. cell_lt x c) (sym (get_or_read_under cells (length cells - 1) (length cells) last d is (omega arith) refl)) ∙ h), λ k d low high. absurd (omega arith))

-- the same of the cells after the first
start_behind : (c x : Cell) (cells : List Cell) (n : ℕ) → IsStart c (x ∷ cells) (suc n) → IsStart c cells n
start_behind c x cells n start = (λ k d low high. start.0 (suc k) d (omega arith) (omega arith), λ k d low high. start.1 (suc k) d (omega arith) (omega arith))

-- there a cell stands before the first that does not come before it
inserted_at : (c : Cell) (cells : List Cell) (n : ℕ) → n ≤ length cells → IsStart c cells n → take n cells ++ c ∷ drop n cells ≡ inserted cell_lt c cells
inserted_at c [] zero h start = refl
inserted_at c [] (suc n) h start = absurd (omega arith)
inserted_at c (x ∷ cells) zero h start = rw (start.1 0 x (omega arith) (omega arith)) refl
inserted_at c (x ∷ cells) (suc n) h start =
    rw (start.0 0 x (omega arith) (omega arith)) (ap (λ cs. x ∷ cs) (inserted_at c cells n (omega arith) (start_behind c x cells n start)))

-- a cell that comes before another is not that one
apart_before : (c d : Cell) → cell_lt d c ≡ true → cell_eq c d ≡ false
apart_before c d h = grind (arith, nat_tests, common_steps)

apart_after : (c d : Cell) → cell_lt c d ≡ true → cell_eq c d ≡ false
apart_after c d h = grind (arith, nat_tests, common_steps)

-- of two cells that differ, the one that doesn't come before the other comes after it
comes_after : (c d : Cell) → cell_lt d c ≡ false → cell_eq d c ≡ false → cell_lt c d ≡ true
comes_after c d h g = grind (arith, nat_tests, common_steps)

-- none of the cells after one that comes after c is c
none_behind : (c x : Cell) (cells : List Cell) → cell_lt c x ≡ true → list_all (cell_lt x) cells ≡ true → has_cell cells c ≡ false
none_behind c x [] h all = refl
none_behind c x (y ∷ cells) h all =
    let parts = and_parts (cell_lt x y) (list_all (cell_lt x) cells) all in
    or_from (cell_eq c y) (has_cell cells c) (apart_after c y (cell_lt_follows c x y h parts.0)) (none_behind c x cells h parts.1)

-- where another stands there, c is none of them
pub none_at : (c : Cell) (cells : List Cell) (n : ℕ) → is_ascending cell_lt cells ≡ true → n ≤ length cells → IsStart c cells n → ((d : Cell) → n < length cells → cell_eq (get_or cells n d) c ≡ false) → has_cell cells c ≡ false
none_at c [] n o h start other = refl
none_at c (x ∷ cells) zero o h start other =
    let differs : cell_eq x c ≡ false = other x (omega arith) in
    let after : cell_lt c x ≡ true = comes_after c x (start.1 0 x (omega arith) (omega arith)) differs in
    or_from (cell_eq c x) (has_cell cells c) (cell_turned c x ∙ differs) (none_behind c x cells after (and_parts (list_all (cell_lt x) cells) (is_ascending cell_lt cells) o).0)
none_at c (x ∷ cells) (suc n) o h start other =
    or_from (cell_eq c x) (has_cell cells c) (apart_before c x (start.0 0 x (omega arith) (omega arith))) (none_at c cells n (and_parts (list_all (cell_lt x) cells) (is_ascending cell_lt cells) o).1 (omega arith) (start_behind c x cells n start) (λ d g. other d (omega arith)))

-- How they change with one cell.

-- with the cell at its place they are in order
pub ascending_at : (c : Cell) (cells : List Cell) (n : ℕ) → is_ascending cell_lt cells ≡ true → n ≤ length cells → IsStart c cells n → ((d : Cell) → n < length cells → cell_eq (get_or cells n d) c ≡ false) → is_ascending cell_lt (take n cells ++ c ∷ drop n cells) ≡ true
ascending_at c cells n o h start other =
    ap (is_ascending cell_lt) (inserted_at c cells n h start)
    ∙ ascending_inserted cell_lt cell_lt_follows c cells (all_from_none (cell_eq c) (λ d. cell_lt d c || cell_lt c d) (λ d e. cell_lt_apart c d (cell_turned d c ∙ e)) cells (none_at c cells n o h start other)) o

-- and have one more
pub has_at : (c x : Cell) (cells : List Cell) (n : ℕ) → n ≤ length cells → IsStart c cells n → has_cell (take n cells ++ c ∷ drop n cells) x ≡ (cell_eq x c || has_cell cells x)
has_at c x cells n h start = ap (λ cs. has_cell cs x) (inserted_at c cells n h start) ∙ any_inserted cell_lt (cell_eq x) c cells

-- the same behind the last, where all come before the cell
at_end : (c : Cell) (cells : List Cell) → take (length cells) cells ++ c ∷ drop (length cells) cells ≡ cells ++ c ∷ []
at_end c [] = refl
at_end c (x ∷ cells) = ap (λ cs. x ∷ cs) (at_end c cells)

pub ascending_last : (c : Cell) (cells : List Cell) → is_ascending cell_lt cells ≡ true → IsStart c cells (length cells) → is_ascending cell_lt (cells ++ c ∷ []) ≡ true
ascending_last c cells o start =
    ap (is_ascending cell_lt) (sym (at_end c cells)) ∙ ascending_at c cells (length cells) o (omega arith) start (λ d h. absurd (omega arith))

pub has_last : (c x : Cell) (cells : List Cell) → IsStart c cells (length cells) → has_cell (cells ++ c ∷ []) x ≡ (cell_eq x c || has_cell cells x)
has_last c x cells start = ap (λ cs. has_cell cs x) (sym (at_end c cells)) ∙ has_at c x cells (length cells) (omega arith) start

-- a cell that is there is no more than they have
pub has_already : (c x : Cell) (cells : List Cell) (n : ℕ) → StandsAt c cells n → has_cell cells x ≡ (cell_eq x c || has_cell cells x)
has_already c x cells n at = step (cell_eq x c) refl
  where
    there : has_cell cells c ≡ true
    there = list_any_at (cell_eq c) cells n c at.bound (cell_turned c (get_or cells n c) ∙ at.same c)

    step : (t : Bool) → cell_eq x c ≡ t → has_cell cells x ≡ (t || has_cell cells x)
    step true e = ap (has_cell cells) ((cell_decides x c).0 e) ∙ there
    step false e = refl

-- the same of a place among the cells after the first
stands_behind : (c x : Cell) (cells : List Cell) (n : ℕ) → StandsAt c (x ∷ cells) (suc n) → StandsAt c cells n
stands_behind c x cells n at = record { bound = let b = at.bound in omega arith; same = λ d. at.same d }

-- the first is not c where c stands after it
first_differs : (c x : Cell) (cells : List Cell) (n : ℕ) → list_all (cell_lt x) cells ≡ true → StandsAt c cells n → cell_eq c x ≡ false
first_differs c x cells n all at =
    let same : get_or cells n x ≡ c = (cell_decides (get_or cells n x) c).0 (at.same x) in
    apart_before c x (ap (cell_lt x) (sym same) ∙ rising.at_place (cell_lt x) cells n x at.bound all)

-- none of the others is the first
none_after : (c x : Cell) (cells : List Cell) → list_all (cell_lt x) cells ≡ true → cell_eq x c ≡ true → has_cell cells c ≡ false
none_after c x cells all same = none_of_them cells all
  where
    none_of_them : (ys : List Cell) → list_all (cell_lt x) ys ≡ true → has_cell ys c ≡ false
    none_of_them [] h = refl
    none_of_them (y ∷ ys) h =
        let parts = and_parts (cell_lt x y) (list_all (cell_lt x) ys) h in
        or_from (cell_eq c y) (has_cell ys c) (cell_turned c y ∙ cell_lt_other c x y same parts.0) (none_of_them ys parts.1)

-- without what stands at the place they are without the cell
without_at : (c : Cell) (cells : List Cell) (n : ℕ) → is_ascending cell_lt cells ≡ true → StandsAt c cells n → take n cells ++ drop (suc n) cells ≡ filter (λ d. not (cell_eq c d)) cells
without_at c [] n o at = let b = at.bound in absurd (omega arith)
without_at c (x ∷ cells) zero o at =
    let order = and_parts (list_all (cell_lt x) cells) (is_ascending cell_lt cells) o in
    let same : cell_eq c x ≡ true = cell_turned c x ∙ at.same x in
    rw same (sym (kept_whole (cell_eq c) cells (none_after c x cells order.0 (at.same x))))
without_at c (x ∷ cells) (suc n) o at =
    let order = and_parts (list_all (cell_lt x) cells) (is_ascending cell_lt cells) o in
    let rest = stands_behind c x cells n at in
    rw (first_differs c x cells n order.0 rest) (ap (λ cs. x ∷ cs) (without_at c cells n order.1 rest))

pub ascending_without : (c : Cell) (cells : List Cell) (n : ℕ) → is_ascending cell_lt cells ≡ true → StandsAt c cells n → is_ascending cell_lt (take n cells ++ drop (suc n) cells) ≡ true
ascending_without c cells n o at =
    ap (is_ascending cell_lt) (without_at c cells n o at) ∙ ascending_filter cell_lt (λ d. not (cell_eq c d)) cells o

last_not : (t u : Bool) → (not t && u) ≡ (u && not t)
last_not true true = refl
last_not true false = refl
last_not false true = refl
last_not false false = refl

pub has_without : (c x : Cell) (cells : List Cell) (n : ℕ) → is_ascending cell_lt cells ≡ true → StandsAt c cells n → has_cell (take n cells ++ drop (suc n) cells) x ≡ (has_cell cells x && not (cell_eq x c))
has_without c x cells n o at =
    ap (λ cs. has_cell cs x) (without_at c cells n o at)
    ∙ any_without (cell_eq x) (cell_eq c) (cell_eq x c) (λ y e. ap (cell_eq x) (sym ((cell_decides c y).0 e))) (λ y e g. false_from_ne_true (cell_eq x c) (λ f. let no : false ≡ true = sym e ∙ ap (λ z. cell_eq z y) (sym ((cell_decides x c).0 f)) ∙ g in cc)) cells
    ∙ last_not (cell_eq x c) (has_cell cells x)

-- the same of the first
but_first : (cells : List Cell) → take 0 cells ++ drop 1 cells ≡ drop 1 cells
but_first [] = refl
but_first (x ∷ cells) = refl

pub ascending_rest : (c : Cell) (cells : List Cell) → is_ascending cell_lt cells ≡ true → StandsAt c cells 0 → is_ascending cell_lt (drop 1 cells) ≡ true
ascending_rest c cells o at = ap (is_ascending cell_lt) (sym (but_first cells)) ∙ ascending_without c cells 0 o at

pub has_rest : (c x : Cell) (cells : List Cell) → is_ascending cell_lt cells ≡ true → StandsAt c cells 0 → has_cell (drop 1 cells) x ≡ (has_cell cells x && not (cell_eq x c))
has_rest c x cells o at = ap (λ cs. has_cell cs x) (sym (but_first cells)) ∙ has_without c x cells 0 o at

-- and where the cell is none of them, they are the same without it
pub has_none : (c x : Cell) (cells : List Cell) → has_cell cells c ≡ false → has_cell cells x ≡ (has_cell cells x && not (cell_eq x c))
has_none c x cells h = step (cell_eq x c) refl
  where
    none_and : (t : Bool) → t ≡ false → t ≡ (t && false)
    none_and true e = cc
    none_and false e = refl

    all_and : (t : Bool) → t ≡ (t && true)
    all_and true = refl
    all_and false = refl

    step : (t : Bool) → cell_eq x c ≡ t → has_cell cells x ≡ (has_cell cells x && not t)
    step true e = none_and (has_cell cells x) (ap (has_cell cells) ((cell_decides x c).0 e) ∙ h)
    step false e = all_and (has_cell cells x)

-- The first cells of an order, one after another.

take_one : {A : Type 0} (m n : ℕ) (c : A) (cs : List A) → n < m → take (m - n) (c ∷ cs) ≡ c ∷ take (m - (n + 1)) cs
take_one m n c cs h =
    let e : m - n ≡ suc (m - (n + 1)) = omega arith in
    ap (λ k. take k (c ∷ cs)) e

-- one cell more
pub first_more : (most : ℕ) (c : Cell) (rest cells : List Cell) → length cells < most → (cells ++ c ∷ []) ++ take (most - length (cells ++ c ∷ [])) rest ≡ cells ++ take (most - length cells) (c ∷ rest)
first_more most c rest cells h =
    append_assoc cells (c ∷ []) (take (most - length (cells ++ c ∷ [])) rest)
    ∙ ap (λ k. cells ++ c ∷ take (most - k) rest) (length-append cells (c ∷ []))
    ∙ ap (λ cs. cells ++ cs) (sym (take_one most (length cells) c rest h))
