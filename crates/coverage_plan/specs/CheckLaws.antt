-- The order of the refusals, and that the checks of each edit stand in it: of the causes that hold, the first in this order
-- is the refusal.
use Rattle.std.specs.Prelude.{◌≡◌, ◌≤◌, ℕ, ◌+◌, Bool, true, ◌&&◌, List, Some, ltb, nat_eq}
use Rattle.std.specs.List.{list_any}
use Rattle.common.specs.Checks.{first_refusal}
use Rattle.common.specs.Order.{is_ascending}
use Rattle.coverage_plan.specs.Checks.{edit_checks}
use Rattle.coverage_plan.specs.Plan.{State}
use Rattle.coverage_plan.specs.declared.edit.Edit.{Edit}
use Rattle.coverage_plan.specs.declared.refusal.Limit as limits
use Rattle.coverage_plan.specs.declared.refusal.Limit.TheVariants as limit
use Rattle.coverage_plan.specs.declared.refusal.Refusal.{Refusal}
use Rattle.coverage_plan.specs.declared.refusal.Refusal.TheVariants.{NoSuchBsc, BscExists, BscHasCells, CellExists, NoSuchCell, SameBsc, BadName, AreaExists, NoSuchArea, AreaInUse, SelectorThere, SelectorNotThere, NoSuchWarning, NotActive, StillActive, NoAreas, AreaThere, AreaNotThere, LastArea, BadPages, BadPeriod, WrongKind, Limit, Memory}

-- the place of a limit among the limits
abbrev pub limit_rank : limits.Limit → ℕ
limit_rank limit.Bscs = 0
limit_rank limit.Cells = 1
limit_rank limit.Areas = 2
limit_rank limit.Selectors = 3
limit_rank limit.Warnings = 4
limit_rank limit.WarningAreas = 5
limit_rank limit.Ids = 6

-- the place of a refusal: the number that operators see, but that the limits, which share 35, have a place each from there on
abbrev pub rank : Refusal → ℕ
rank NoSuchBsc = 3
rank BscExists = 4
rank BscHasCells = 5
rank CellExists = 7
rank NoSuchCell = 8
rank SameBsc = 9
rank BadName = 10
rank AreaExists = 11
rank NoSuchArea = 12
rank AreaInUse = 13
rank SelectorThere = 14
rank SelectorNotThere = 15
rank NoSuchWarning = 16
rank NotActive = 17
rank StillActive = 18
rank NoAreas = 21
rank AreaThere = 22
rank AreaNotThere = 23
rank LastArea = 24
rank BadPages = 25
rank BadPeriod = 26
rank WrongKind = 27
rank (Limit which) = 35 + limit_rank which
rank Memory = 42

-- the refusal of the first check comes before that of the second
abbrev pub ranks_before : Bool × Refusal → Bool × Refusal → Bool
ranks_before x y = ltb (rank x.1) (rank y.1)

-- the cause of the refusal is looked for, and it holds
abbrev pub holds : Refusal → List (Bool × Refusal) → Bool
holds r checks = list_any (λ check. check.0 && nat_eq (rank check.1) (rank r)) checks

-- the checks of each edit stand in the order of their refusals, no two at one place
abbrev pub AreInOrder : Type 0
AreInOrder = (st : State) (edit : Edit) → is_ascending ranks_before (edit_checks st edit) ≡ true

-- an edit is refused by the first cause that holds, in the order of the refusals
abbrev pub IsFirstOfAll : Type 0
IsFirstOfAll = (st : State) (edit : Edit) (e r : Refusal) → first_refusal (edit_checks st edit) ≡ Some e → holds r (edit_checks st edit) ≡ true → rank e ≤ rank r

-- that memory is lacking is no cause that a check looks for
abbrev pub NoneIsMemory : Type 0
NoneIsMemory = (st : State) (edit : Edit) → first_refusal (edit_checks st edit) ≡ Some Memory → ⊥
