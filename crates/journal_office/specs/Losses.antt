-- What a start enters behind the lines of a kept file: the loss of each link that is up there, and what it puts of that.
use Rattle.std.specs.Prelude.{◌≡◌, ◌⊎◌, ℕ, Bool, List, [], ◌∷◌, map}
use Rattle.std.specs.List.{filter}
use Rattle.centre_events.specs.Links.{is_up, last_link}
use Rattle.centre_events.specs.Past.{Past}
use Rattle.centre_events.specs.declared.event.Event.{Event}
use Rattle.centre_events.specs.declared.event.Event.TheVariants.{LinkDown}
use Rattle.centre_past.specs.Legal.{Known, checkpointed, past}
use Rattle.centre_past.specs.Lists.{registered_bscs}
use Rattle.centre_past.specs.declared.lists.bsc_row.BscRow.{BscRow}
use Rattle.journal_file.specs.Writing.{WritingState, with_item}
use Rattle.journal_file.specs.Writing as writing
use Rattle.journal_laws.specs.Starts.{EntersEvent}
use Rattle.journal_office.specs.OfficeJournals.{PutsEntries}

-- the loss of the BSC's latest link
abbrev pub loss_of : Past → ℕ → Event
loss_of past b = LinkDown b (last_link past b)

-- those of all links that are up, by the numbers of their BSCs
abbrev pub losses : Past → List Event
losses past = map (loss_of past) (filter (is_up past) (registered_bscs past))

-- the same by the rows of a list of BSCs
abbrev pub row_is_up : BscRow → Bool
row_is_up row = row.is_up

abbrev pub row_loss : BscRow → Event
row_loss row = LinkDown row.bsc row.last

abbrev pub row_losses : List BscRow → List Event
row_losses rows = map row_loss (filter row_is_up rows)

-- nothing changed, or the journal was folded and the line of that was put
abbrev pub FoldsInto : Known → WritingState → Known → WritingState → Type 0
FoldsInto old before new after = ((new ≡ old) × (after ≡ before)) ⊎ ((new ≡ checkpointed old) × (after ≡ with_item before writing.Fold))

-- the event is the one new entry, whose line was put
pub record EntersInto (event : Event) (old : Known) (before : WritingState) (new : Known) (after : WritingState) : Type 0 where
  pub enters : EntersEvent old event new
  pub puts : PutsEntries (enters.entry ∷ []) before after

-- one event was entered after another, and its line put; the journal may have been folded before each
abbrev pub LosesEach : List Event → Known → WritingState → Known → WritingState → Type 0
LosesEach [] old before new after = (new ≡ old) × (after ≡ before)
LosesEach (event ∷ events) old before new after =
    (folded : Known) × (behind : WritingState) × (next : Known) × (then_put : WritingState)
    × FoldsInto old before folded behind × EntersInto event folded behind next then_put × LosesEach events next then_put new after

-- the loss of each link that is up was entered, and its line put
abbrev pub LosesLinks : Known → WritingState → Known → WritingState → Type 0
LosesLinks old before new after = LosesEach (losses (past old)) old before new after
