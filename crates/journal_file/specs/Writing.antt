-- What follows a journal into a file.
use Rattle.std.specs.Prelude.{◌≡◌, ℕ, ◌+◌, ◌≤◌, Bool, true, false, List, [], ◌∷◌, ◌++◌, length, map, take, codes, ⊤}
use Rattle.std.specs.List.{AllByRecursion}
use Rattle.journal_file.specs.File.{FileState, grown, settled}
use Rattle.journal_file.specs.Lines.{IsLine, HasNoEnd, is_comment, line_octets, lines_octets, without_comments}

-- what is put: an entry, by its line, that the journal was folded there, or a comment
pub data Item : Type 0 where
  Entry : List ℕ → Item
  Fold : Item
  Comment : List ℕ → Item

-- its line
abbrev pub item_line : Item → List ℕ
item_line (Entry line) = line
item_line Fold = codes "checkpoint"
item_line (Comment line) = line

-- how many entries these are
abbrev pub entries_in : List Item → ℕ
entries_in [] = 0
entries_in (Entry line ∷ items) = 1 + entries_in items
entries_in (Fold ∷ items) = entries_in items
entries_in (Comment line ∷ items) = entries_in items

-- the line of an entry is no comment, and that of a comment is one
abbrev pub IsMarked : Item → Type 0
IsMarked (Entry line) = is_comment line ≡ false
IsMarked Fold = ⊤
IsMarked (Comment line) = is_comment line ≡ true

-- these items without the comments
abbrev pub told_of : List Item → List Item
told_of [] = []
told_of (Entry line ∷ items) = Entry line ∷ told_of items
told_of (Fold ∷ items) = Fold ∷ told_of items
told_of (Comment line ∷ items) = told_of items

-- the wanted text of a file that had some lines: these, and those of the items in their order
abbrev pub lines_with : List (List ℕ) → List Item → List (List ℕ)
lines_with start items = start ++ map item_line items

abbrev pub text_with : List (List ℕ) → List Item → List ℕ
text_with start items = lines_octets (lines_with start items)

-- the place of the last entry that was put, the octets that aren't written yet, the place up to which all is synced, and whether a
-- write or a sync has failed
pub record WritingState : Type 0 where
  pub taken : ℕ
  pub waiting : List ℕ
  pub synced : ℕ
  pub failed : Bool

-- all entries up to a place stand in the file
abbrev pub begins_after : ℕ → WritingState
begins_after place = record { taken = place; waiting = []; synced = place; failed = false }

-- the item was put
abbrev pub with_item : WritingState → Item → WritingState
with_item old item = record { taken = old.taken + entries_in (item ∷ []); waiting = old.waiting ++ line_octets (item_line item); synced = old.synced; failed = old.failed }

-- all was written and synced
abbrev pub all_kept : WritingState → WritingState
all_kept old = record { taken = old.taken; waiting = []; synced = old.taken; failed = old.failed }

-- a write or a sync failed
abbrev pub broken : WritingState → WritingState
broken old = record { taken = old.taken; waiting = old.waiting; synced = old.synced; failed = true }

-- what is put into a file, and the file
pub record Following : Type 0 where
  pub writing : WritingState
  pub file : FileState

-- an item was put; all was written and synced; or some was written, and then a write or the sync failed
pub data Step : Type 0 where
  Put : Item → Step
  Kept : Step
  Broke : ℕ → Step

-- what that does
abbrev pub Does : Following → Step → Following → Type 0
Does old (Put item) new = IsLine (item_line item) × IsMarked item × (new ≡ record { writing = with_item old.writing item; file = old.file })
Does old Kept new = (old.writing.failed ≡ false) × (new ≡ record { writing = all_kept old.writing; file = settled (grown old.file old.writing.waiting) })
Does old (Broke count) new = (old.writing.failed ≡ false) × (new ≡ record { writing = broken old.writing; file = grown old.file (take count old.writing.waiting) })

-- the steps in turn
abbrev pub Runs : Following → List Step → Following → Type 0
Runs old [] new = new ≡ old
Runs old (step ∷ steps) new = (now : Following) × Does old step now × Runs now steps new

-- the items that were put
abbrev pub items_of : List Step → List Item
items_of [] = []
items_of (Put item ∷ steps) = item ∷ items_of steps
items_of (Kept ∷ steps) = items_of steps
items_of (Broke count ∷ steps) = items_of steps

-- a file of these lines, all synced, whose last entry has the place
abbrev pub starts_with : ℕ → List (List ℕ) → Following
starts_with place start = record { writing = begins_after place; file = settled (record { octets = lines_octets start; durable = 0 }) }

-- the file follows the items: nothing is reordered, left out or written twice, and all up to the synced place is durable
pub record Follows (place : ℕ) (start : List (List ℕ)) (items : List Item) (now : Following) : Type 0 where
  pub front : List Item
  pub back : List Item
  pub unwritten : List ℕ
  pub parts : items ≡ front ++ back
  pub taken : now.writing.taken ≡ place + entries_in items
  pub synced : now.writing.synced ≡ place + entries_in front
  pub durable : length (text_with start front) ≤ now.file.durable
  pub stands : now.file.durable ≤ length now.file.octets
  pub written : now.file.octets ++ unwritten ≡ text_with start items
  pub whole : now.writing.failed ≡ false → unwritten ≡ now.writing.waiting
  pub lines : AllByRecursion (λ item. IsLine (item_line item)) items

-- the lines without the comments are those of the entries and of the folds, in their order
abbrev pub CommentsApart : Type 0
CommentsApart = (old now : Following) (steps : List Step) → Runs old steps now → without_comments (map item_line (items_of steps)) ≡ map item_line (told_of (items_of steps))

-- so it is after any steps
abbrev pub AnySteps : Type 0
AnySteps = (place : ℕ) (start : List (List ℕ)) (steps : List Step) (now : Following) → Runs (starts_with place start) steps now → Follows place start (items_of steps) now
