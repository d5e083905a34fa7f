-- What each edit makes of a plan.
use Rattle.std.specs.Prelude.{ℕ, ◌+◌, List, Option, Some, None}
use Rattle.areas.specs.Areas.{with_area, without_area, with_selector, without_selector}
use Rattle.areas.specs.declared.area.Area.{Area}
use Rattle.cell_register.specs.Register.{with_bsc, without_bsc, with_cell, moved, without_cell}
use Rattle.cell_register.specs.Register as register
use Rattle.warning_book.specs.Book.{new_serial, next_serial, after_issue, after_update, after_widen, after_narrow, after_stop, after_forget}
use Rattle.warning_book.specs.Book as book
use Rattle.warning_book.specs.declared.notice.Notice.{Notice}
use Rattle.coverage_plan.specs.Plan.{State}
use Rattle.coverage_plan.specs.declared.edit.Edit.{Edit}
use Rattle.coverage_plan.specs.declared.edit.Edit.TheVariants.{AddBsc, RemoveBsc, AddCell, MoveCell, RemoveCell, AddArea, DropArea, Put, Cut, Issue, Update, Widen, Narrow, Stop, Forget}
use Rattle.coverage_plan.specs.declared.made.Made.{Made}
use Rattle.coverage_plan.specs.declared.made.Made.TheVariants.{Done, Issued, Updated}

-- the register after the edit
abbrev pub register_after : Edit → register.State → register.State
register_after (AddBsc b) r = with_bsc b r
register_after (RemoveBsc b) r = without_bsc b r
register_after (AddCell c b) r = with_cell c b r
register_after (MoveCell c b) r = moved c b r
register_after (RemoveCell c) r = without_cell c r
register_after other r = r

-- the areas after the edit
abbrev pub areas_after : Edit → List Area → List Area
areas_after (AddArea a) l = with_area a l
areas_after (DropArea a) l = without_area a l
areas_after (Put a s) l = with_selector a s l
areas_after (Cut a s) l = without_selector a s l
areas_after other l = l

-- a warning with that serial number is put into the book; without one there is none
abbrev pub with_issue : Notice → List (List ℕ) → Option ℕ → book.State → book.State
with_issue notice areas None st = st
with_issue notice areas (Some s) st = after_issue notice areas s st

-- the book after the edit: a new warning has the serial number with the least free code
abbrev pub book_after : Edit → book.State → book.State
book_after (Issue notice areas) st = with_issue notice areas (new_serial st notice) st
book_after (Update n content) st = after_update n content st
book_after (Widen n a) st = after_widen n a st
book_after (Narrow n a) st = after_narrow n a st
book_after (Stop n) st = after_stop n st
book_after (Forget n) st = after_forget n st
book_after other st = st

-- the plan after the edit
abbrev pub edited : Edit → State → State
edited edit st = record { register = register_after edit st.register; areas = areas_after edit st.areas; book = book_after edit st.book }

-- what an edit gives that is made: a new warning its number and its serial number, a new version its serial number
abbrev pub issued_as : ℕ → Option ℕ → Made
issued_as n None = Done
issued_as n (Some s) = Issued n s

abbrev pub updated_as : Option ℕ → Made
updated_as None = Done
updated_as (Some s) = Updated s

abbrev pub made_of : Edit → State → Made
made_of (Issue notice areas) st = issued_as (st.book.issued + 1) (new_serial st.book notice)
made_of (Update n content) st = updated_as (next_serial st.book n)
made_of other st = Done
