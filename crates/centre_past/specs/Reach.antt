-- On which lines an event bears: cells at BSCs, and warnings.
use Rattle.std.specs.Prelude.{◌≡◌, ℕ, ◌+◌, ◌*◌, Bool, true, ◌&&◌, List, [], ◌∷◌, Option, Some, None, Result, Ok, Err, map, nat_eq, length, if◌then◌else◌}
use Rattle.std.specs.List.{filter, flat_map, list_any}
use Rattle.common.specs.Order.{each_once}
use Rattle.common.specs.declared.cell.Cell.{Cell}
use Rattle.kept_tables.specs.View.{spot_eq}
use Rattle.kept_tables.specs.declared.spot.Spot.{Spot}
use Rattle.mirror.specs.declared.line_key.LineKey.{LineKey}
use Rattle.warning_book.specs.Book.{names, areas_of}
use Rattle.warning_book.specs.declared.warning.Warning.{Warning}
use Rattle.coverage_plan.specs.Reach.{is_named_by}
use Rattle.centre_events.specs.Cover.{covers, is_covered}
use Rattle.centre_events.specs.InFlight.{in_flight, cells_of}
use Rattle.centre_events.specs.Known.{is_known}
use Rattle.centre_events.specs.Links.{bscs}
use Rattle.centre_events.specs.Past.{Past}
use Rattle.centre_events.specs.Places.{place, cells}
use Rattle.centre_events.specs.Reported.{names_warning}
use Rattle.centre_events.specs.Verdict.{reuses}
use Rattle.centre_events.specs.Warnings.{book_of, warnings_of}
use Rattle.centre_events.specs.declared.answer.Answer.{Answer}
use Rattle.centre_events.specs.declared.answer.Answer.TheVariants.{Done, Listed, Replied}
use Rattle.coverage_plan.specs.declared.edit.Edit.{Edit}
use Rattle.coverage_plan.specs.declared.edit.Edit.TheVariants as edit
use Rattle.centre_events.specs.declared.event.Event.{Event}
use Rattle.centre_events.specs.declared.event.Event.TheVariants as event
use Rattle.centre_events.specs.declared.in_flight.InFlight.{InFlight}
use Rattle.centre_events.specs.declared.refusal.Refusal.{Refusal}

-- each of the spots, which are cells at BSCs, for each of the warnings
pub record Reach : Type 0 where
  pub spots : List Spot
  pub warnings : List ℕ

-- no line
abbrev pub no_reach : Reach
no_reach = record { spots = []; warnings = [] }

-- the cell at the BSC
abbrev pub spot : ℕ → Cell → Spot
spot b c = record { bsc = b; cell = c }

-- the line is one of them
abbrev pub bears : Reach → LineKey → Bool
bears r k = list_any (spot_eq (spot k.bsc k.cell)) r.spots && list_any (nat_eq k.warning) r.warnings

-- how many lines they are
abbrev pub size : Reach → ℕ
size r = length r.spots * length r.warnings

-- the cell at the BSC, if there is one
abbrev pub at_bsc : Cell → Option ℕ → List Spot
at_bsc c None = []
at_bsc c (Some b) = spot b c ∷ []

-- the registered cells that pass the test, each at its BSC
abbrev pub placed_where : Past → (Cell → Bool) → List Spot
placed_where past p = flat_map (λ c. if p c then at_bsc c (place past c) else []) (cells past)

-- the cells that are known at the BSC
abbrev pub known_at : Past → ℕ → List Spot
known_at past b = map (spot b) (filter (is_known past b) (cells past))

-- the numbers of the warnings in the book that pass the test
abbrev pub numbers_where : Past → (Warning → Bool) → List ℕ
numbers_where past p = map (λ (w : Warning). w.number) (filter p (warnings_of past))

-- the numbers of all warnings in the book
abbrev pub all_numbers : Past → List ℕ
all_numbers past = numbers_where past (λ w. true)

-- the cells of what is in flight to the BSC, and the warning that it names
abbrev pub flight_reach : Past → ℕ → Option InFlight → Reach
flight_reach past b None = no_reach
flight_reach past b (Some f) = record { spots = map (spot b) (cells_of f); warnings = numbers_where past (names_warning f) }

-- an Update of the warning takes a serial number that a version of it has
abbrev pub wraps : Past → ℕ → Bool
wraps past n = reuses past n (λ m s. true)

-- what is known anywhere
abbrev pub known_anywhere : Past → List Spot
known_anywhere past = flat_map (known_at past) (bscs past)

-- the registered cells that the areas of the warning of that number cover
abbrev pub covered_by : Past → ℕ → List Spot
covered_by past n = placed_where past (is_covered past (areas_of n (warnings_of past)))

-- a cell that is registered, moved or taken out: the BSC where it was, and that where it comes to be; a selector: the
-- registered cells that it names, and the warnings that name its area; an edit of a warning: the registered cells that
-- its areas cover; a Forget, and an Update that takes a serial number again: what is known anywhere; a BSC that is taken
-- out: what is known there
abbrev pub edit_reach : Past → Edit → Reach
edit_reach past (edit.RemoveBsc b) = record { spots = known_at past b; warnings = all_numbers past }
edit_reach past (edit.AddCell c b) = record { spots = spot b c ∷ []; warnings = all_numbers past }
edit_reach past (edit.MoveCell c b) = record { spots = spot b c ∷ at_bsc c (place past c); warnings = all_numbers past }
edit_reach past (edit.RemoveCell c) = record { spots = at_bsc c (place past c); warnings = all_numbers past }
edit_reach past (edit.Put a s) = record { spots = placed_where past (is_named_by s); warnings = numbers_where past (names a) }
edit_reach past (edit.Cut a s) = record { spots = placed_where past (is_named_by s); warnings = numbers_where past (names a) }
edit_reach past (edit.Issue notice areas) = record { spots = placed_where past (is_covered past areas); warnings = ((book_of past).issued + 1) ∷ [] }
edit_reach past (edit.Update n content) = record { spots = if wraps past n then known_anywhere past else covered_by past n; warnings = n ∷ [] }
edit_reach past (edit.Widen n a) = record { spots = placed_where past (covers past a); warnings = n ∷ [] }
edit_reach past (edit.Narrow n a) = record { spots = placed_where past (covers past a); warnings = n ∷ [] }
edit_reach past (edit.Stop n) = record { spots = covered_by past n; warnings = n ∷ [] }
edit_reach past (edit.Forget n) = record { spots = known_anywhere past; warnings = n ∷ [] }
edit_reach past other = no_reach

-- a matched reply bears on what was in flight, an indication on the cells that it lists
abbrev pub report_reach : Past → ℕ → Answer → Reach
report_reach past b (Replied replies) = flight_reach past b (in_flight past b)
report_reach past b (Listed listed) = record { spots = map (spot b) listed; warnings = all_numbers past }
report_reach past b other = no_reach

-- the lines on which the event bears, answered so after that past
abbrev pub reach_of : Past → Event → Answer → Reach
reach_of past (event.Edit e) answer = edit_reach past e
reach_of past (event.Retry b) answer = record { spots = known_at past b; warnings = all_numbers past }
reach_of past (event.LinkUp b) answer = flight_reach past b (in_flight past b)
reach_of past (event.LinkDown b generation) answer = flight_reach past b (in_flight past b)
reach_of past (event.Send b generation) answer = no_reach
reach_of past (event.Ask b generation n after) answer = no_reach
reach_of past (event.Report b generation message) answer = report_reach past b answer

-- how many lines an event looks at besides those on which it bears: an Ask at one, at most, in each cell that is known at
-- its BSC
abbrev pub looked_at : Past → Event → ℕ
looked_at past (event.Ask b generation n after) = length (known_at past b)
looked_at past other = 0

-- how many lines an event bears on, with what it is answered; an event that is refused bears on the same lines, but for
-- a report, which bears on none then
abbrev pub reach : Past → Event → Result Answer Refusal → ℕ
reach past e (Ok answer) = size (reach_of past e answer) + looked_at past e
reach past e (Err refusal) = size (reach_of past e Done) + looked_at past e

-- the same lines, each once
pub record IsReach (r : Reach) (of : Reach) : Type 0 where
  pub spots : (p : Spot) → list_any (spot_eq p) r.spots ≡ list_any (spot_eq p) of.spots
  pub warnings : (n : ℕ) → list_any (nat_eq n) r.warnings ≡ list_any (nat_eq n) of.warnings
  pub spots_once : each_once spot_eq r.spots ≡ true
  pub warnings_once : each_once nat_eq r.warnings ≡ true
  pub spots_counted : length r.spots ≡ length of.spots
  pub warnings_counted : length r.warnings ≡ length of.warnings
