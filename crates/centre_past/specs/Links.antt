-- What is kept of the link of each BSC, with what is in flight over it, and how it follows an event.
use Rattle.std.specs.Prelude.{◌≡◌, ℕ, Bool, true, false, not, List, Option, Some, None, find, nat_eq, ltb, if◌then◌else◌}
use Rattle.std.specs.List.{filter}
use Rattle.common.specs.Order.{inserted}
use Rattle.centre_events.specs.InFlight.{asked_flight, in_flight, is_replied, sent_flight}
use Rattle.centre_events.specs.Links.{bsc_of, is_up, last_link}
use Rattle.centre_events.specs.Past.{Past}
use Rattle.centre_events.specs.declared.answer.Answer.{Answer}
use Rattle.centre_events.specs.declared.event.Event.{Event}
use Rattle.centre_events.specs.declared.event.Event.TheVariants as event
use Rattle.centre_events.specs.declared.in_flight.InFlight.{InFlight}
use Rattle.coverage_plan.specs.declared.edit.Edit.{Edit}
use Rattle.coverage_plan.specs.declared.edit.Edit.TheVariants.{AddBsc}
use Rattle.centre_past.specs.declared.link.Link.{Link}
use Rattle.centre_past.specs.declared.up_or_down.UpOrDown.{UpOrDown}
use Rattle.centre_past.specs.declared.up_or_down.UpOrDown.TheVariants.{Down, Up}

-- it is up
abbrev pub is_up_now : UpOrDown → Bool
is_up_now Down = false
is_up_now (Up flight) = true

-- what is in flight over it; nothing is where it is down
abbrev pub flight_over : UpOrDown → Option InFlight
flight_over Down = None
flight_over (Up flight) = flight

-- the link is the BSC's
abbrev pub is_link_of : ℕ → Link → Bool
is_link_of b l = nat_eq l.bsc b

-- links stand in the order of the numbers of their BSCs
abbrev pub link_lt : Link → Link → Bool
link_lt l k = ltb l.bsc k.bsc

-- that of the BSC, if something is kept of it
abbrev pub link_in : List Link → ℕ → Option Link
link_in ls b = find (is_link_of b) ls

-- whether a link is up; it isn't where nothing is kept of it
abbrev pub up_of : Option Link → Bool
up_of None = false
up_of (Some l) = is_up_now l.state

-- its generation; 0 where nothing is kept of it
abbrev pub generation_of : Option Link → ℕ
generation_of None = 0
generation_of (Some l) = l.generation

-- what is in flight over it; nothing is where nothing is kept of it
abbrev pub flight_of : Option Link → Option InFlight
flight_of None = None
flight_of (Some l) = flight_over l.state

-- what is in flight to the BSC
abbrev pub flight_in : List Link → ℕ → Option InFlight
flight_in ls b = flight_of (link_in ls b)

-- the links tell of each BSC what the past says: whether its link is up, its generation, and what is in flight over it
pub record AreLinksOf (past : Past) (ls : List Link) : Type 0 where
  pub ups : (b : ℕ) → up_of (link_in ls b) ≡ is_up past b
  pub generations : (b : ℕ) → generation_of (link_in ls b) ≡ last_link past b
  pub flights : (b : ℕ) → flight_in ls b ≡ in_flight past b

-- Of an event.

-- the event brings up a link that is up already
abbrev pub up_before : Past → Event → Bool
up_before past (event.LinkUp b) = is_up past b
up_before past other = false

-- what is in flight to the BSC, if there is one
abbrev pub flight_at : List Link → Option ℕ → Option InFlight
flight_at ls None = None
flight_at ls (Some b) = flight_in ls b

-- what is in flight to the BSC of an event that is no edit
abbrev pub flight_kept : List Link → Event → Option InFlight
flight_kept ls e = flight_at ls (bsc_of e)

-- The links after an event.

-- without what is kept of the BSC's link
abbrev pub without_link : ℕ → List Link → List Link
without_link b ls = filter (λ l. not (is_link_of b l)) ls

-- with that in its place
abbrev pub with_link : ℕ → ℕ → UpOrDown → List Link → List Link
with_link b generation state ls = inserted link_lt (record { bsc = b; generation = generation; state = state }) (without_link b ls)

-- with that in flight over the BSC's link, which is up; nothing is, where there is nothing
abbrev pub with_flight : ℕ → Option InFlight → List Link → List Link
with_flight b flight ls = with_link b (generation_of (link_in ls b)) (Up flight) ls

-- a BSC is registered without a link
abbrev pub links_edited : Edit → List Link → List Link
links_edited (AddBsc b) ls = without_link b ls
links_edited other ls = ls

-- the links after the event with that answer, whose entry has that number
abbrev pub links_after : Event → Answer → ℕ → List Link → List Link
links_after (event.Edit e) answer place ls = links_edited e ls
links_after (event.LinkUp b) answer place ls = with_link b place (Up None) ls
links_after (event.LinkDown b generation) answer place ls = with_link b (generation_of (link_in ls b)) Down ls
links_after (event.Send b generation) answer place ls = with_flight b (sent_flight answer) ls
links_after (event.Ask b generation n after) answer place ls = with_flight b (asked_flight answer) ls
links_after (event.Report b generation message) answer place ls = if is_replied answer then with_flight b None ls else ls
links_after other answer place ls = ls
