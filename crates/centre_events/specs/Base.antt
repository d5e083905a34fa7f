-- What a past begins with: what the entries that were folded away came to. What a past says of a thing is what its last
-- entry that decides the thing says, and what the base says where none decides it.
use Rattle.std.specs.Prelude.{ℕ, Bool, false, List, [], Option, None}
use Rattle.areas.specs.declared.selector.Selector.{Selector}
use Rattle.common.specs.declared.cell.Cell.{Cell}
use Rattle.warning_book.specs.Book as book
use Rattle.warning_book.specs.declared.kind.Kind.{Kind}
use Rattle.mirror.specs.declared.presence.Presence.{Presence}
use Rattle.mirror.specs.declared.presence.Presence.TheVariants.{Absent}
use Rattle.cbsp_ie.specs.declared.cause.Cause.{Cause}
use Rattle.centre_events.specs.declared.in_flight.InFlight.{InFlight}

-- how many entries were folded; the BSCs, their links and what is in flight to each; the cells and where they are
-- registered; the areas and their selectors; the warnings; and what the BSCs have reported
pub record Base : Type 0 where
  pub folded : ℕ
  pub bscs : List ℕ
  pub is_bsc : ℕ → Bool
  pub is_up : ℕ → Bool
  pub last_link : ℕ → ℕ
  pub in_flight : ℕ → Option InFlight
  pub cells : List Cell
  pub place : Cell → Option ℕ
  pub areas : List (List ℕ)
  pub is_area : List ℕ → Bool
  pub selectors : List ℕ → List Selector
  pub has_selector : List ℕ → Selector → Bool
  pub book : book.State
  pub presence : ℕ → Cell → ℕ → ℕ → Presence
  pub hold : ℕ → Cell → ℕ → ℕ → Option Cause
  pub count : ℕ → Cell → ℕ → ℕ → ℕ
  pub is_down : Kind → ℕ → Cell → Bool

-- the base of a centre that has folded nothing: nothing is registered, nothing is on air
abbrev pub empty_base : Base
empty_base = record {
  folded = 0;
  bscs = [];
  is_bsc = λ b. false;
  is_up = λ b. false;
  last_link = λ b. 0;
  in_flight = λ b. None;
  cells = [];
  place = λ c. None;
  areas = [];
  is_area = λ a. false;
  selectors = λ a. [];
  has_selector = λ a s. false;
  book = book.empty;
  presence = λ b c m s. Absent;
  hold = λ b c m s. None;
  count = λ b c m s. 0;
  is_down = λ k b c. false;
}
