-- What always holds of a plan.
use Rattle.std.specs.Prelude.{◌≡◌, ℕ, List, true}
use Rattle.areas.specs.Areas.{named_lt, selectors_of}
use Rattle.areas.specs.Selector.{selector_eq}
use Rattle.cell_register.specs.Sound.{IsRegister}
use Rattle.common.specs.Order.{is_ascending, each_once}
use Rattle.coverage_plan.specs.Plan.{State}
use Rattle.warning_book.specs.Book.{number_lt}

-- the register is sound, the areas and the warnings stand in order, and each area has its selectors once
pub record IsSound (st : State) : Type 0 where
  pub registered : IsRegister st.register
  pub areas_ascend : is_ascending named_lt st.areas ≡ true
  pub selectors_once : (a : List ℕ) → each_once selector_eq (selectors_of st.areas a) ≡ true
  pub warnings_ascend : is_ascending number_lt st.book.warnings ≡ true
