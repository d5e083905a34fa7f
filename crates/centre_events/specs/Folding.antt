-- Entries that are folded away: what they come to is a base, and the past goes on from there. A past comes to the same
-- base however many of its entries were folded, and says the same.
use Rattle.std.specs.Prelude.{◌≡◌, ℕ, List, [], ◌∷◌}
use Rattle.areas.specs.declared.selector.Selector.{Selector}
use Rattle.common.specs.declared.cell.Cell.{Cell}
use Rattle.warning_book.specs.declared.kind.Kind.{Kind}
use Rattle.centre_events.specs.Base.{Base}
use Rattle.centre_events.specs.Counts.{count}
use Rattle.centre_events.specs.Cover.{areas, has_selector, is_area, selectors}
use Rattle.centre_events.specs.Down.{is_down}
use Rattle.centre_events.specs.InFlight.{in_flight}
use Rattle.centre_events.specs.Links.{bscs, is_bsc, is_up, last_link}
use Rattle.centre_events.specs.Past.{Past, From, After, position}
use Rattle.centre_events.specs.Places.{cells, place}
use Rattle.centre_events.specs.Presence.{hold, presence}
use Rattle.centre_events.specs.Warnings.{book_of}
use Rattle.centre_events.specs.declared.entry.Entry.{Entry}

-- what the base and the entries of a past come to
abbrev pub base_of : Past → Base
base_of past = record {
  folded = position past;
  bscs = bscs past;
  is_bsc = is_bsc past;
  is_up = is_up past;
  last_link = last_link past;
  in_flight = in_flight past;
  cells = cells past;
  place = place past;
  areas = areas past;
  is_area = is_area past;
  selectors = selectors past;
  has_selector = has_selector past;
  book = book_of past;
  presence = presence past;
  hold = hold past;
  count = count past;
  is_down = is_down past;
}

-- the past with all its entries folded
abbrev pub folded : Past → Past
folded past = From (base_of past)

-- more entries after a past, the newest first
abbrev pub onto : List Entry → Past → Past
onto [] past = past
onto (e ∷ es) past = After e (onto es past)

-- what one more entry makes of a base
abbrev pub folded_with : Entry → Base → Base
folded_with e base = base_of (After e (From base))

-- the two pasts come to the same, part by part
pub record HasSameParts (p q : Past) : Type 0 where
  pub folded : position p ≡ position q
  pub bscs : bscs p ≡ bscs q
  pub is_bsc : (b : ℕ) → is_bsc p b ≡ is_bsc q b
  pub is_up : (b : ℕ) → is_up p b ≡ is_up q b
  pub last_link : (b : ℕ) → last_link p b ≡ last_link q b
  pub in_flight : (b : ℕ) → in_flight p b ≡ in_flight q b
  pub cells : cells p ≡ cells q
  pub place : (c : Cell) → place p c ≡ place q c
  pub areas : areas p ≡ areas q
  pub is_area : (a : List ℕ) → is_area p a ≡ is_area q a
  pub selectors : (a : List ℕ) → selectors p a ≡ selectors q a
  pub has_selector : (a : List ℕ) (s : Selector) → has_selector p a s ≡ has_selector q a s
  pub book : book_of p ≡ book_of q
  pub presence : (b : ℕ) (c : Cell) (m s : ℕ) → presence p b c m s ≡ presence q b c m s
  pub hold : (b : ℕ) (c : Cell) (m s : ℕ) → hold p b c m s ≡ hold q b c m s
  pub count : (b : ℕ) (c : Cell) (m s : ℕ) → count p b c m s ≡ count q b c m s
  pub is_down : (k : Kind) (b : ℕ) (c : Cell) → is_down p k b c ≡ is_down q k b c
