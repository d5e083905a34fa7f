-- That `replay` of a journal's lines makes the journal again, whatever comments stand between them.
use Rattle.std.specs.Prelude.{◌≡◌, ℕ, List, map}
use Rattle.std.specs.List.{flat_map}
use Rattle.centre_events.specs.declared.entry.Entry.{Entry}
use Rattle.centre_events.specs.declared.network.Network.{Network}
use Rattle.centre_past.specs.Legal.{Known, new_centre}
use Rattle.console.specs.Replays.{new_session}
use Rattle.console.specs.Sessions.{SessionState}
use Rattle.console.specs.Text.{IsText}
use Rattle.console_text.specs.Lines.{lines_of}
use Rattle.console_text.specs.Texts.{response_text}
use Rattle.journal_laws.specs.Files.{AreLegal, AreLines, Item, after_items, file_of, item_answers}

-- the same entry, submitted by desk 1
abbrev pub by_desk_1 : Entry → Entry
by_desk_1 e = record { desk = 1; event = e.event; answer = e.answer }

-- the centre with the same entries, submitted by desk 1
abbrev pub all_by_desk_1 : Known → Known
all_by_desk_1 centre = record centre { folded = map by_desk_1 centre.folded; journal = map by_desk_1 centre.journal }

-- what is written for the items
abbrev pub answers_text : Network → ℕ → List Item → List ℕ
answers_text network limit items = flat_map response_text (item_answers (new_centre network limit) items)

-- the lines have one text: each but the comments is accepted, and the centre has the same events with the same answers then
pub record IsReplayed (network : Network) (limit : ℕ) (items : List Item) (octets : List ℕ) : Type 0 where
  pub session : SessionState
  pub told : IsText (new_session network limit) (lines_of octets) session (answers_text network limit items)
  pub centre : session.centre ≡ all_by_desk_1 (after_items items (new_centre network limit))
  pub only : (other : SessionState) (text : List ℕ) → IsText (new_session network limit) (lines_of octets) other text → (other ≡ session) × (text ≡ answers_text network limit items)

-- every legal journal whose events have lines is replayed so
abbrev pub JournalIsReplayed : Type 0
JournalIsReplayed =
    (network : Network) (limit : ℕ) (items : List Item) (lines : List (List ℕ)) → AreLegal (new_centre network limit) items → AreLines items lines
    → IsReplayed network limit items (file_of lines)
