-- Why an edit is refused: every cause that it is refused for, each with its refusal, in the order of their numbers. Those
-- that the plan sees stand in it too.
use Rattle.std.specs.Prelude.{◌≡◌, Bool, true, false, List, [], ◌∷◌}
use Rattle.coverage_plan.specs.Plan.{State}
use Rattle.coverage_plan.specs.declared.edit.Edit.{Edit}
use Rattle.coverage_plan.specs.declared.edit.Edit.TheVariants as edit
use Rattle.warning_book.specs.Book.{warning_is}
use Rattle.centre_events.specs.Kept.{IsRegisterOf, AreAreasOf}
use Rattle.centre_events.specs.Links.{is_up}
use Rattle.centre_events.specs.Past.{Past}
use Rattle.centre_events.specs.Reported.{is_reported, is_in_flight, is_key_reported, is_key_in_flight}
use Rattle.centre_events.specs.Verdict.{add_bsc_checks, remove_bsc_checks, add_cell_checks, move_cell_checks, remove_cell_checks, add_area_checks, drop_area_checks, put_checks, cut_checks, issue_checks, reuses, update_checks, widen_checks, narrow_checks, stop_checks, forget_checks}
use Rattle.centre_events.specs.Warnings.{book_of}
use Rattle.centre_events.specs.declared.refusal.Refusal.{Refusal}
use Rattle.centre_events.specs.declared.refusal.Refusal.TheVariants as refusal

-- why an edit is refused
abbrev pub edit_causes : Past → Edit → List (Bool × Refusal)
edit_causes past (edit.AddBsc b) = add_bsc_checks past b
edit_causes past (edit.RemoveBsc b) = remove_bsc_checks past b
edit_causes past (edit.AddCell c b) = add_cell_checks past c b
edit_causes past (edit.MoveCell c b) = move_cell_checks past c b
edit_causes past (edit.RemoveCell c) = remove_cell_checks past c
edit_causes past (edit.AddArea a) = add_area_checks past a
edit_causes past (edit.DropArea a) = drop_area_checks past a
edit_causes past (edit.Put a s) = put_checks past a s
edit_causes past (edit.Cut a s) = cut_checks past a s
edit_causes past (edit.Issue notice areas) = issue_checks past notice areas
edit_causes past (edit.Update n content) = update_checks past n content
edit_causes past (edit.Widen n a) = widen_checks past n a
edit_causes past (edit.Narrow n a) = narrow_checks past n a
edit_causes past (edit.Stop n) = stop_checks past n
edit_causes past (edit.Forget n) = forget_checks past n

-- the causes of an edit that the plan can't see: the link of a BSC, and what is on air or in flight of a warning, or of the
-- serial number that an Update gives again
abbrev pub own_causes : Past → Edit → List (Bool × Refusal)
own_causes past (edit.RemoveBsc b) = (is_up past b, refusal.LinkIsUp) ∷ []
own_causes past (edit.Update n content) = (reuses past n (is_key_reported past), refusal.StillReported) ∷ (reuses past n (is_key_in_flight past), refusal.StillInFlight) ∷ []
own_causes past (edit.Forget n) = (warning_is (book_of past) n (is_reported past), refusal.StillReported) ∷ (warning_is (book_of past) n (is_in_flight past), refusal.StillInFlight) ∷ []
own_causes past other = []

-- the plan is the one that the entries make
pub record IsPlanOf (past : Past) (st : State) : Type 0 where
  pub registered : IsRegisterOf past st.register
  pub selected : AreAreasOf past st.areas
  pub booked : st.book ≡ book_of past

-- the edit is an Update
abbrev pub is_update : Edit → Bool
is_update (edit.Update n content) = true
is_update other = false
