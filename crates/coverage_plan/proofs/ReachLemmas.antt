-- The cells and the warnings on which an edit bears are those that the definitions say.
use Rattle.std.proofs.Common.{◌≡◌, ℕ, Bool, true, false, ◌&&◌, ◌||◌, not, List, [], ◌∷◌, filter, map, nat_eq, ltb, if◌then◌else◌, refl, sym, ◌∙◌, ap}
use Rattle.std.proofs.lemmas.Bool.{and_right}
use Rattle.std.specs.Cmp.{unsigned_Decides}
use Rattle.std.specs.List.{list_any}
use Rattle.areas.specs.Areas.{has_selector}
use Rattle.areas.specs.declared.area.Area.{Area}
use Rattle.areas.specs.declared.selector.Selector.TheVariants as selector
use Rattle.cell_register.specs.Laws.{cells_in_has, cells_in_ascend}
use Rattle.cell_register.specs.Register.{State, cells_in}
use Rattle.cell_register.specs.Sound.{IsRegister}
use Rattle.common.specs.Cell.{cell_eq, cell_lt}
use Rattle.common.specs.Equality.{cell_decides}
use Rattle.common.specs.OnceLaws.{any_filter_same, turned}
use Rattle.common.specs.Order.{is_ascending}
use Rattle.common.specs.OrderLaws.{ascending_filter, ascending_map}
use Rattle.common.specs.declared.cell.Cell.{Cell}
use Rattle.warning_book.specs.Book.{has_number, number_lt, is_so, names, numbers, naming, is_there, warning_is}
use Rattle.warning_book.specs.Book as book
use Rattle.warning_book.specs.declared.warning.Warning.{Warning}
use Rattle.coverage_plan.specs.Reach.{AreCells, AreNumbers, is_registered, is_only_by}

swapped : (a b : Bool) → (a && b) ≡ (b && a)
swapped true true = refl
swapped true false = refl
swapped false true = refl
swapped false false = refl

joined : (a b c : Bool) → ((a && b) && c) ≡ (a && (b && c))
joined true b c = refl
joined false b c = refl

any_map : {A B : Type 0} (p : B → Bool) (f : A → B) (xs : List A) → list_any p (map f xs) ≡ list_any (λ x. p (f x)) xs
any_map p f [] = refl
any_map p f (x ∷ xs) = ap (λ t. p (f x) || t) (any_map p f xs)

-- cells

filtered : (test p : Cell → Bool) (cs : List Cell) → AreCells test cs → AreCells (λ c. test c && p c) (filter p cs)
filtered test p cs are = record {
  ordered = ascending_filter cell_lt p cs are.ordered;
  exact = λ c. any_filter_same cell_eq cell_decides p c cs ∙ ap (λ t. p c && t) (are.exact c) ∙ swapped (p c) (test c);
}

cells_of_lac : (r : State) (lac : ℕ) → IsRegister r → AreCells (λ c. is_registered r c && nat_eq lac c.lac) (cells_in r lac)
cells_of_lac r lac sound = record {
  ordered = cells_in_ascend r lac sound;
  exact = λ c. cells_in_has r c lac ∙ ap (λ t. is_registered r c && t) (turned nat_eq unsigned_Decides c.lac lac);
}

-- the registered cells of a location area that the area does not select one by one
pub only_in_are : (r : State) (l : List Area) (a : List ℕ) (lac : ℕ) → IsRegister r → AreCells (is_only_by r l a (selector.Lac lac)) (filter (λ c. not (has_selector l a (selector.Cell c))) (cells_in r lac))
only_in_are r l a lac sound =
    let are = filtered (λ c. is_registered r c && nat_eq lac c.lac) (λ c. not (has_selector l a (selector.Cell c))) (cells_in r lac) (cells_of_lac r lac sound) in
    record {
      ordered = are.ordered;
      exact = λ c. are.exact c ∙ joined (is_registered r c) (nat_eq lac c.lac) (not (has_selector l a (selector.Cell c)));
    }

-- one cell
pub one_cell : (c : Cell) → AreCells (cell_eq c) (c ∷ [])
one_cell c = record { ordered = refl; exact = λ d. last (cell_eq c d) }
  where
    last : (t : Bool) → (t || false) ≡ t
    last true = refl
    last false = refl

-- warnings

-- one warning
pub one_number : (n : ℕ) → AreNumbers (nat_eq n) (n ∷ [])
one_number n = record { ordered = refl; exact = λ m. last (nat_eq n m) }
  where
    last : (t : Bool) → (t || false) ≡ t
    last true = refl
    last false = refl

-- the warnings in the book
pub numbers_are : (b : book.State) → is_ascending number_lt b.warnings ≡ true → AreNumbers (is_there b) (numbers b.warnings)
numbers_are b ordered = record {
  ordered = ascending_map number_lt ltb (λ w. w.number) (λ v w h. h) b.warnings ordered;
  exact = λ n. any_map (λ m. nat_eq m n) (λ (w : Warning). w.number) b.warnings;
}

naming_has : (a : List ℕ) (n : ℕ) (ws : List Warning) → list_any (λ m. nat_eq m n) (naming a ws) ≡ is_so n (names a) ws
naming_has a n [] = refl
naming_has a n (w ∷ ws) = step (names a w) (naming_has a n ws)
  where
    step : (t : Bool) → list_any (λ m. nat_eq m n) (naming a ws) ≡ is_so n (names a) ws → list_any (λ m. nat_eq m n) (numbers (if t then w ∷ filter (names a) ws else filter (names a) ws)) ≡ ((has_number n w && t) || is_so n (names a) ws)
    step true rest = ap (λ t. nat_eq w.number n || t) rest ∙ ap (λ t. t || is_so n (names a) ws) (sym (and_true (nat_eq w.number n)))
      where
        and_true : (t : Bool) → (t && true) ≡ t
        and_true true = refl
        and_true false = refl
    step false rest = rest ∙ ap (λ t. t || is_so n (names a) ws) (sym (and_right (has_number n w) false refl))

-- the warnings that name an area
pub naming_are : (a : List ℕ) (b : book.State) → is_ascending number_lt b.warnings ≡ true → AreNumbers (λ n. warning_is b n (names a)) (naming a b.warnings)
naming_are a b ordered = record {
  ordered = ascending_map number_lt ltb (λ w. w.number) (λ v w h. h) (filter (names a) b.warnings) (ascending_filter number_lt (names a) b.warnings ordered);
  exact = λ n. naming_has a n b.warnings;
}
