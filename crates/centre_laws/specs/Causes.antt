-- Why an event is refused: every cause that it is refused for, each with its refusal, in their order. The first of them that
-- holds is the verdict. What the plan refuses the centre refuses so too.
use Rattle.std.specs.Prelude.{◌≡◌, ◌≤◌, ◌*◌, ◌↔◌, ◌⊎◌, ℕ, Bool, true, false, ◌&&◌, ◌||◌, not, List, [], ◌∷◌, ◌++◌, Option, Some, None, Err, IsOk, nat_eq, ltb}
use Rattle.std.specs.List.{list_all}
use Rattle.common.specs.Checks.{first_refusal}
use Rattle.common.specs.Order.{is_ascending}
use Rattle.common.specs.Sorting.{sorted_by}
use Rattle.common.specs.declared.cell.Cell.{Cell}
use Rattle.coverage_plan.specs.Checks.{edit_checks, translated}
use Rattle.coverage_plan.specs.Plan.{State}
use Rattle.coverage_plan.specs.declared.edit.Edit.{Edit}
use Rattle.coverage_plan.specs.declared.refusal.Refusal as plan
use Rattle.warning_book.specs.Book.{current_of, kind_of, warning_of}
use Rattle.warning_book.specs.declared.kind.Kind.{Kind}
use Rattle.warning_book.specs.declared.kind.Kind.TheVariants as kind
use Rattle.warning_book.specs.declared.warning.Warning.{Warning}
use Rattle.centre_events.specs.Asking.{asked_cells}
use Rattle.centre_events.specs.Past.{Past}
use Rattle.centre_events.specs.Pending.{pending}
use Rattle.centre_events.specs.Refusals.{of_plan, refusal_number}
use Rattle.centre_events.specs.Verdict.{verdict, is_full, retry_checks, link_up_checks, link_checks, send_checks, ask_checks, report_checks}
use Rattle.centre_events.specs.Warnings.{book_of}
use Rattle.centre_events.specs.declared.event.Event.{Event}
use Rattle.centre_events.specs.declared.event.Event.TheVariants as event
use Rattle.centre_events.specs.declared.refusal.Limit.TheVariants as limit
use Rattle.centre_events.specs.declared.refusal.Refusal.{Refusal}
use Rattle.centre_events.specs.declared.refusal.Refusal.TheVariants as refusal
use Rattle.centre_events.specs.declared.settings.Settings.{Settings}
use Rattle.centre_past.specs.EditCauses.{edit_causes, own_causes}

-- The order of the refusals.

-- the place of a limit among the limits, which share one number
abbrev pub limit_place : Refusal → ℕ
limit_place (refusal.Limit limit.Bscs) = 1
limit_place (refusal.Limit limit.Cells) = 2
limit_place (refusal.Limit limit.Areas) = 3
limit_place (refusal.Limit limit.Selectors) = 4
limit_place (refusal.Limit limit.Warnings) = 5
limit_place (refusal.Limit limit.WarningAreas) = 6
limit_place (refusal.Limit limit.Desks) = 7
limit_place (refusal.Limit limit.Ids) = 8
limit_place other = 0

-- the place of a refusal in the order, which isn't its number: a later refusal has a number of its own, above 37, and a place
-- between others. Up to 37 the places are in the order of the numbers, and have room between them.
abbrev pub refusal_place : Refusal → ℕ
refusal_place r = 10 * refusal_number r

-- a smaller number comes first, and of one number the smaller place
abbrev pub is_smaller : ℕ → ℕ → ℕ → ℕ → Bool
is_smaller n p m q = ltb n m || (nat_eq n m && ltb p q)

-- the refusal has the smaller place, or both are limits and it has the smaller place among these
abbrev pub comes_before : Refusal → Refusal → Bool
comes_before r s = is_smaller (refusal_place r) (limit_place r) (refusal_place s) (limit_place s)

-- the refusal of the first cause comes before that of the second
abbrev pub stands_before : Bool × Refusal → Bool × Refusal → Bool
stands_before x y = comes_before x.1 y.1

-- The causes.

-- there is none
abbrev pub is_empty : {A : Type 0} → List A → Bool
is_empty [] = true
is_empty (x ∷ xs) = false

-- the version of this serial number is on air in no cell that is asked
abbrev pub asks_no_cell : Past → ℕ → ℕ → Option ℕ → Option Cell → Bool
asks_no_cell past b m None after = true
asks_no_cell past b m (Some s) after = is_empty (asked_cells past b m s after)

-- an emergency warning is asked in no cell
abbrev pub asks_none_of : Kind → Bool → Bool
asks_none_of kind.Cbs none = none
asks_none_of kind.Emergency none = true

-- the current version of the warning is asked nowhere
abbrev pub asks_nothing : Past → ℕ → Option Warning → Option Cell → Bool
asks_nothing past b None after = true
asks_nothing past b (Some w) after = asks_none_of (kind_of w) (asks_no_cell past b w.message_id (current_of w) after)

-- why an event is refused where the journal has room: besides its checks, a Send where nothing is pending, and an Ask that
-- names no cell
abbrev pub event_causes : Past → Event → List (Bool × Refusal)
event_causes past (event.Edit e) = edit_causes past e
event_causes past (event.Retry b) = retry_checks past b
event_causes past (event.LinkUp b) = link_up_checks past b
event_causes past (event.LinkDown b generation) = link_checks past b generation
event_causes past (event.Send b generation) = send_checks past b generation ++ (is_empty (pending past b), refusal.NothingPending) ∷ []
event_causes past (event.Ask b generation n after) = ask_checks past b generation n ++ (asks_nothing past b (warning_of (book_of past) n) after, refusal.NothingToAsk) ∷ []
event_causes past (event.Report b generation message) = report_checks past b generation message

-- why an event is refused: the journal is full, or one of these
abbrev pub causes_of : Settings → Past → Event → List (Bool × Refusal)
causes_of settings past e = (is_full settings past, refusal.JournalFull) ∷ event_causes past e

-- What holds of them.

-- up to 37 the refusals stand in the order of their numbers, and limits in that of the limits
abbrev pub PlacesAreNumbers : Type 0
PlacesAreNumbers = (r s : Refusal) → refusal_number r ≤ 37 → refusal_number s ≤ 37 → comes_before r s ≡ is_smaller (refusal_number r) (limit_place r) (refusal_number s) (limit_place s)

-- the causes of every event stand in the order of their refusals, no two at one place
abbrev pub CausesAscend : Type 0
CausesAscend = (settings : Settings) (past : Past) (e : Event) → is_ascending stands_before (causes_of settings past e) ≡ true

-- the cause doesn't hold, or its refusal doesn't come before the one given
abbrev pub comes_no_earlier : Refusal → Bool × Refusal → Bool
comes_no_earlier r cause = not (cause.0 && comes_before cause.1 r)

-- an event is refused for the first cause in its list that holds; no cause whose refusal comes earlier holds; and it is
-- accepted where no cause holds
pub record IsFirstCause (settings : Settings) (past : Past) (e : Event) : Type 0 where
  pub refused : (r : Refusal) → (verdict settings past e ≡ Err r) ↔ (first_refusal (causes_of settings past e) ≡ Some r)
  pub earliest : (r : Refusal) → verdict settings past e ≡ Err r → list_all (comes_no_earlier r) (causes_of settings past e) ≡ true
  pub accepted : IsOk (verdict settings past e) ↔ (first_refusal (causes_of settings past e) ≡ None)

-- What the plan refuses.

-- one of the centre's own causes is the first of them that holds, and its refusal comes before that one and is the verdict
pub record RefusesBefore (settings : Settings) (past : Past) (e : Edit) (r : Refusal) : Type 0 where
  pub own : Refusal
  pub holds : first_refusal (own_causes past e) ≡ Some own
  pub before : comes_before own r ≡ true
  pub refused : verdict settings past (event.Edit e) ≡ Err own

-- the causes of an edit are those of the plan and the centre's own, in the order of their refusals; so what refuses it in the
-- plan refuses it in a centre whose journal has room, if not one of the centre's own causes comes before and refuses it
pub record RefusesAsPlan (past : Past) (st : State) : Type 0 where
  pub causes : (e : Edit) → edit_causes past e ≡ sorted_by stands_before (translated of_plan (edit_checks st e) ++ own_causes past e)
  pub refused : (settings : Settings) (e : Edit) (r : plan.Refusal) → is_full settings past ≡ false → first_refusal (edit_checks st e) ≡ Some r → (verdict settings past (event.Edit e) ≡ Err (of_plan r)) ⊎ RefusesBefore settings past e (of_plan r)
