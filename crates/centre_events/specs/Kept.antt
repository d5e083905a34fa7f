-- What a centre keeps beside its journal, and how that is tied to the past: the register and the areas tell of each
-- BSC, cell, area and selector what the past says of it; the book of warnings is the one that the entries make.
use Rattle.std.specs.Prelude.{◌≡◌, ◌⊎◌, ℕ, Bool, true, false, List, Result, Ok, Err, IsOk}
use Rattle.areas.specs.Areas.{has_area}
use Rattle.areas.specs.Areas as kept
use Rattle.areas.specs.declared.area.Area.{Area}
use Rattle.areas.specs.declared.selector.Selector.{Selector}
use Rattle.cell_register.specs.Register.{State, has_bsc, place_in}
use Rattle.common.specs.declared.cell.Cell.{Cell}
use Rattle.centre_events.specs.Cover.{is_area, has_selector}
use Rattle.centre_events.specs.Links.{is_bsc}
use Rattle.centre_events.specs.Past.{Past, IsUnfolded}
use Rattle.centre_events.specs.Places.{place}
use Rattle.centre_events.specs.Verdict.{verdict}
use Rattle.centre_events.specs.declared.answer.Answer.{Answer}
use Rattle.centre_events.specs.declared.answer.Answer.TheVariants.{Sent, Asked, Replied, Listed}
use Rattle.coverage_plan.specs.Checks.{is_plain_edit}
use Rattle.coverage_plan.specs.Edited.{register_after, areas_after}
use Rattle.centre_events.specs.declared.event.Event.{Event}
use Rattle.centre_events.specs.declared.event.Event.TheVariants as event
use Rattle.centre_events.specs.declared.refusal.Refusal.{Refusal}
use Rattle.centre_events.specs.declared.refusal.Refusal.TheVariants.{Memory}
use Rattle.centre_events.specs.declared.settings.Settings.{Settings}

-- the register tells of each BSC and of each cell what the past says
pub record IsRegisterOf (past : Past) (register : State) : Type 0 where
  pub unfolded : IsUnfolded past
  pub bscs : (b : ℕ) → has_bsc register b ≡ is_bsc past b
  pub places : (c : Cell) → place_in register c ≡ place past c

-- the areas tell of each area and of each selector what the past says
pub record AreAreasOf (past : Past) (areas : List Area) : Type 0 where
  pub unfolded : IsUnfolded past
  pub names : (a : List ℕ) → has_area areas a ≡ is_area past a
  pub selectors : (a : List ℕ) (s : Selector) → kept.has_selector areas a s ≡ has_selector past a s

-- no event but an edit changes the register
abbrev pub register_then : Event → State → State
register_then (event.Edit e) register = register_after e register
register_then other register = register

-- nor the areas
abbrev pub areas_then : Event → List Area → List Area
areas_then (event.Edit e) areas = areas_after e areas
areas_then other areas = areas

-- the event is an edit of the register, of the areas or of the book
abbrev pub is_edit : Event → Bool
is_edit (event.Edit e) = true
is_edit other = false

-- the answer takes no memory to copy
abbrev pub is_plain : Answer → Bool
is_plain (Sent order message) = false
is_plain (Asked m s cells message) = false
is_plain (Replied replies) = false
is_plain (Listed cells) = false
is_plain other = true

-- the event has no name, list, content or message, so that a copy of it takes no memory
abbrev pub is_plain_event : Event → Bool
is_plain_event (event.Edit e) = is_plain_edit e
is_plain_event (event.Report b generation message) = false
is_plain_event other = true

-- what is answered is the verdict, or `Memory` where the verdict is no refusal
abbrev pub Gives : Result Answer Refusal → Result Answer Refusal → Type 0
Gives verdict (Ok answer) = verdict ≡ Ok answer
Gives verdict (Err refusal) = ((refusal ≡ Memory) × IsOk verdict) ⊎ (verdict ≡ Err refusal)

-- `Memory` is the last refusal: an event may be answered by it only where its verdict is no refusal
abbrev pub MayStarve : Settings → Past → Event → Type 0
MayStarve settings past e = IsOk (verdict settings past e)

-- whether an edit is accepted: it is where its verdict is no refusal, and else it is refused by its verdict. To find this
-- takes no memory, so it is never answered by `Memory`
abbrev pub IsChecked : {A : Type 0} → Result Answer Refusal → Result A Refusal → Type 0
IsChecked verdict (Ok free) = IsOk verdict
IsChecked verdict (Err refusal) = verdict ≡ Err refusal
