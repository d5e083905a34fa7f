-- What the thread puts of the journal that it follows, and what it makes of that.
use Rattle.std.specs.Prelude.{◌≡◌, ℕ, ◌+◌, ◌<◌, ◌≤◌, List, [], ◌∷◌, ◌++◌, map, take, drop, ⊤, Option, None, Some, Result, Ok, Err}
use Rattle.std.specs.List.{AllByRecursion}
use Rattle.journal_file.specs.File.{FileState, Leaves}
use Rattle.journal_file.specs.Lines.{HasNoEnd, IsCut, IsLine}
use Rattle.journal_file.specs.Writing.{Item, Entry, Fold, Comment, IsMarked, item_line, entries_in, told_of, WritingState, with_item, Following, starts_with}
use Rattle.journal_file.specs.Writing as writing

-- what a journal gives at once: the lines of the next entries, or those of all that are left, behind which it was folded
pub data Portion : Type 0 where
  Next : List (List ℕ) → Portion
  Folded : List (List ℕ) → Portion

-- what is to be put of it
abbrev pub portion_items : Portion → List Item
portion_items (Next lines) = map Entry lines
portion_items (Folded lines) = map Entry lines ++ Fold ∷ []

-- the lines are those of the entries, one by one, where `Says` tells what the line of an entry is
abbrev pub AreSaid : {E : Type 0} → (E → List ℕ → Type 0) → List E → List (List ℕ) → Type 0
AreSaid Says [] [] = ⊤
AreSaid Says [] (line ∷ lines) = ⊥
AreSaid Says (e ∷ entries) [] = ⊥
AreSaid Says (e ∷ entries) (line ∷ lines) = Says e line × AreSaid Says entries lines

-- what a journal of these entries gives behind a place: the lines of the first of them, at least one where there are any; or of all
abbrev pub IsGiven : {E : Type 0} → (E → List ℕ → Type 0) → List E → ℕ → Portion → Type 0
IsGiven Says entries place (Next lines) = (count : ℕ) × (0 < count) × AreSaid Says (take count (drop place entries)) lines
IsGiven Says entries place (Folded lines) = AreSaid Says (drop place entries) lines

-- the items were put, one after another
abbrev pub with_items : WritingState → List Item → WritingState
with_items old [] = old
with_items old (item ∷ items) = with_items (with_item old item) items

-- what can be put
abbrev pub CanBePut : Item → Type 0
CanBePut item = IsLine (item_line item) × IsMarked item

-- items were put that are these, without their comments
pub record Puts (old new : WritingState) (told : List Item) : Type 0 where
  pub items : List Item
  pub each : AllByRecursion CanBePut items
  pub told_are : told_of items ≡ told
  pub state : new ≡ with_items old items

-- what the journal gave behind the last entry that was put was put, where `Gives` tells what it may give behind a place
abbrev pub PutsPortion : (ℕ → Portion → Type 0) → WritingState → WritingState → Portion → Type 0
PutsPortion Gives old new portion = Gives old.taken portion × Puts old new (portion_items portion)

-- the next entries were put
abbrev pub PutsNext : (ℕ → Portion → Type 0) → WritingState → WritingState → Type 0
PutsNext Gives old new = (lines : List (List ℕ)) × PutsPortion Gives old new (Next lines)

-- all that were left were put, and then that the journal was folded; nothing was put where the fold was refused
abbrev pub PutsFold : {R : Type 0} → (ℕ → Portion → Type 0) → WritingState → WritingState → Result ℕ R → Type 0
PutsFold Gives old new (Ok count) = (lines : List (List ℕ)) × PutsPortion Gives old new (Folded lines)
PutsFold Gives old new (Err refusal) = new ≡ old

-- one portion was put after another
abbrev pub PutsEach : (ℕ → Portion → Type 0) → WritingState → List Portion → WritingState → Type 0
PutsEach Gives old [] new = new ≡ old
PutsEach Gives old (portion ∷ portions) new = (now : WritingState) × PutsPortion Gives old now portion × PutsEach Gives now portions new

-- some portions were
abbrev pub PutsAll : (ℕ → Portion → Type 0) → WritingState → WritingState → Type 0
PutsAll Gives old new = (portions : List Portion) × PutsEach Gives old portions new

-- a portion was put; all was written and synced; some was written, and then a write or the sync failed; or somebody was told of the
-- entry at a place
pub data Deed : Type 0 where
  Hands : Portion → Deed
  Keeps : Deed
  Breaks : ℕ → Deed
  Tells : ℕ → Deed

-- what that does; somebody is told only of what is synced
abbrev pub Does : (ℕ → Portion → Type 0) → Following → Deed → Following → Type 0
Does Gives old (Hands portion) new = PutsPortion Gives old.writing new.writing portion × (new.file ≡ old.file)
Does Gives old Keeps new = writing.Does old writing.Kept new
Does Gives old (Breaks count) new = writing.Does old (writing.Broke count) new
Does Gives old (Tells place) new = (place ≤ old.writing.synced) × (new ≡ old)

-- the deeds in turn
abbrev pub Runs : (ℕ → Portion → Type 0) → Following → List Deed → Following → Type 0
Runs Gives old [] new = new ≡ old
Runs Gives old (deed ∷ deeds) new = (now : Following) × Does Gives old deed now × Runs Gives now deeds new

-- what was put and a file that is known became so by some deeds
abbrev pub KeepsOn : (ℕ → Portion → Type 0) → WritingState → Option FileState → WritingState → Option FileState → Type 0
KeepsOn Gives old None new after = ⊤
KeepsOn Gives old (Some before) new None = ⊥
KeepsOn Gives old (Some before) new (Some after) = (deeds : List Deed) × Runs Gives (record { writing = old; file = before }) deeds (record { writing = new; file = after })

-- the file became so, whatever was put last
abbrev pub KeepsFile : (ℕ → Portion → Type 0) → WritingState → Option FileState → Option FileState → Type 0
KeepsFile Gives old before after = (new : WritingState) × KeepsOn Gives old before new after

-- of which places somebody was told
abbrev pub told_in : List Deed → List ℕ
told_in [] = []
told_in (Tells place ∷ deeds) = place ∷ told_in deeds
told_in (Hands portion ∷ deeds) = told_in deeds
told_in (Keeps ∷ deeds) = told_in deeds
told_in (Breaks count ∷ deeds) = told_in deeds

-- the lines of the entries among the items
abbrev pub entry_lines : List Item → List (List ℕ)
entry_lines [] = []
entry_lines (Entry line ∷ items) = line ∷ entry_lines items
entry_lines (Fold ∷ items) = entry_lines items
entry_lines (Comment line ∷ items) = entry_lines items

-- what a journal gave at some moment, when it had only the first of its entries
abbrev pub GivesOf : {E : Type 0} → (E → List ℕ → Type 0) → List E → ℕ → Portion → Type 0
GivesOf Says journal place portion = (moment : ℕ) × IsGiven Says (take moment journal) place portion

-- Of a file that had some lines, up to the entry at a place, these are left: the lines that it had, and lines whose entries are the next
-- of the journal, in order, none left out. None is missing of which somebody was told.
pub record IsLeft {E : Type 0} (Says : E → List ℕ → Type 0) (journal : List E) (place : ℕ) (start : List (List ℕ)) (told : List ℕ) (lines : List (List ℕ)) : Type 0 where
  pub items : List Item
  pub lines_are : lines ≡ start ++ map item_line items
  pub entries_are : AreSaid Says (take (entries_in items) (drop place journal)) (entry_lines items)
  pub none_missing : AllByRecursion (λ last. last ≤ place + entries_in items) told

-- so it is after a crash at any moment
abbrev pub AnyKeepingOf : (E : Type 0) → (E → List ℕ → Type 0) → Type 0
AnyKeepingOf E Says = (journal : List E) (place : ℕ) (start : List (List ℕ)) (deeds : List Deed) (now : Following) (left : List ℕ) (lines : List (List ℕ)) (rest : List ℕ)
    → AllByRecursion HasNoEnd start → Runs (GivesOf Says journal) (starts_with place start) deeds now → Leaves now.file left → IsCut left lines rest
    → IsLeft Says journal place start (told_in deeds) lines
