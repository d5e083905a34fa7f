-- What is kept after an accepted event is what the past with its entry says.
use Rattle.std.proofs.Common.{◌≡◌, ℕ, ◌+◌, Bool, List, Option, Some, None, refl, sym, ◌∙◌, ap, subst}
use Rattle.kept_tables.specs.declared.spot.Spot.{Spot}
use Rattle.centre_past.specs.Links.{AreLinksOf, flight_at, flight_kept, links_after}
use Rattle.centre_lines.specs.Following.{Finishes, Made, flight_before, flight_to}
use Rattle.centre_events.specs.Links.{bsc_of}
use Rattle.centre_events.specs.Past.{Past, After, position}
use Rattle.centre_past.specs.Legal.{Legal}
use Rattle.centre_events.specs.declared.answer.Answer.{Answer}
use Rattle.centre_events.specs.declared.entry.Entry.{Entry}
use Rattle.centre_events.specs.declared.event.Event.{Event}
use Rattle.centre_past.specs.declared.link.Link.{Link}
use Rattle.centre_lines.specs.declared.lines_before.LinesBefore.{LinesBefore}
use Rattle.centre_events.specs.declared.in_flight.InFlight.{InFlight}
use Rattle.centre_events.specs.declared.settings.Settings.{Settings}
use Rattle.centre_past.specs.declared.kept.Kept.{Kept}
use Rattle.centre_past.proofs.LinkLemmas.{links_with}

pub flight_is : (past : Past) (ls : List Link) (e : Event) → AreLinksOf past ls → flight_kept ls e ≡ flight_before past e
flight_is past ls e linked = step (bsc_of e)
  where
    step : (o : Option ℕ) → flight_at ls o ≡ flight_to past o
    step None = refl
    step (Some b) = linked.flights b

-- what is known before the lines are changed
abbrev pub made_of : (s : Kept) (e : Event) (a : Answer) (place : ℕ) (up : Bool) (spots : List Spot) (earlier : LinesBefore) (f : Option InFlight) → Finishes s e a place up spots earlier → f ≡ flight_kept s.links e → Made s.plan s.tables (record { event = e; answer = a; up = up; flight = f }) spots earlier
made_of s e a place up spots earlier f x is = record {
  settings = x.settings;
  past = x.past;
  desk = x.desk;
  legal = x.legal;
  accepted = x.accepted;
  registered = x.registered;
  selected = x.selected;
  booked = x.booked;
  up = x.is_up;
  flight = is ∙ flight_is x.past s.links e x.linked;
  downs = x.downs;
  tables = x.tables;
  said = x.reached;
}

pub links_then : (settings : Settings) (past : Past) (e : Entry) (place : ℕ) (ls now : List Link) → Legal settings (After e past) → AreLinksOf past ls → place ≡ position past + 1 → now ≡ links_after e.event e.answer place ls → AreLinksOf (After e past) now
links_then settings past e place ls now legal linked at is = subst (AreLinksOf (After e past)) (sym (is ∙ ap (λ p. links_after e.event e.answer p ls) at)) (links_with settings e past ls legal linked)
