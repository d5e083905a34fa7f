-- A journal as a file has it: its entries in their order, the checkpoints between them, and comments anywhere.
use Rattle.std.specs.Prelude.{◌≡◌, ◌⊎◌, ℕ, ◌+◌, ◌≤◌, true, List, [], ◌∷◌, ◌++◌, Ok, codes, length}
use Rattle.centre_events.specs.Verdict.{verdict}
use Rattle.centre_events.specs.declared.entry.Entry.{Entry}
use Rattle.centre_past.specs.Legal.{Known, all_entries, checkpointed, past}
use Rattle.console_text.specs.Lines.{longest_line}
use Rattle.console_text.specs.Parts.{HasNone}
use Rattle.console_text.specs.Words.{is_comment}
use Rattle.console_text.specs.declared.response.Response.{Response}
use Rattle.console_text.specs.declared.response.Response.TheVariants.{Accepted, Folded}
use Rattle.journal_text.specs.Reading.{IsLineOf}

-- an entry, or a checkpoint
pub data Item : Type 0 where
  Entered : Entry → Item
  Checkpoint : Item

-- a centre with one entry more
abbrev pub with_entry : Entry → Known → Known
with_entry e centre = record centre { journal = centre.journal ++ e ∷ [] }

-- a centre after an item
abbrev pub after_item : Item → Known → Known
after_item (Entered e) centre = with_entry e centre
after_item Checkpoint centre = checkpointed centre

-- a centre after items, the first of them standing first
abbrev pub after_items : List Item → Known → Known
after_items [] centre = centre
after_items (item ∷ items) centre = after_items items (after_item item centre)

-- an entry has the answer that the past before it gives its event
abbrev pub IsLegalItem : Known → Item → Type 0
IsLegalItem centre (Entered e) = verdict centre.settings (past centre) e.event ≡ Ok e.answer
IsLegalItem centre Checkpoint = Unit {0}

-- and so has each
abbrev pub AreLegal : Known → List Item → Type 0
AreLegal centre [] = Unit {0}
AreLegal centre (item ∷ items) = IsLegalItem centre item × AreLegal (after_item item centre) items

-- the octets are the item's line
abbrev pub IsItemLine : Item → List ℕ → Type 0
IsItemLine (Entered e) line = IsLineOf line e.event
IsItemLine Checkpoint line = line ≡ codes "checkpoint"

-- the octets are a comment: the first is `#`, they are one line, and short enough to be read
abbrev pub IsComment : List ℕ → Type 0
IsComment line = (is_comment line ≡ true) × HasNone 10 line × (length line ≤ longest_line)

-- each of the lines is that of its item, or a comment, which stands for nothing
abbrev pub AreLines : List Item → List (List ℕ) → Type 0
AreLines [] [] = Unit {0}
AreLines [] (line ∷ lines) = IsComment line × AreLines [] lines
AreLines (item ∷ items) [] = ⊥
AreLines (item ∷ items) (line ∷ lines) = (IsComment line × AreLines (item ∷ items) lines) ⊎ (IsItemLine item line × AreLines items lines)

-- the octets of a file of these lines: each has its end, which is 10
abbrev pub file_of : List (List ℕ) → List ℕ
file_of [] = []
file_of (line ∷ lines) = line ++ 10 ∷ file_of lines

-- what an item is answered: an entry by its number and its answer, a checkpoint by how many entries it folds
abbrev pub item_answer : Known → Item → Response
item_answer centre (Entered e) = Accepted (length (all_entries centre) + 1) e.answer
item_answer centre Checkpoint = Folded (length centre.journal)

-- and so on, one after another
abbrev pub item_answers : Known → List Item → List Response
item_answers centre [] = []
item_answers centre (item ∷ items) = item_answer centre item ∷ item_answers (after_item item centre) items
