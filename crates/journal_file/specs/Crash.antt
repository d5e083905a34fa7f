-- What is read of a journal's file after a crash.
use Rattle.std.specs.Prelude.{◌≡◌, ℕ, ◌+◌, ◌≤◌, List, ◌++◌, length, take}
use Rattle.std.specs.List.{AllByRecursion}
use Rattle.journal_file.specs.File.{Leaves}
use Rattle.journal_file.specs.Lines.{HasNoEnd, IsCut}
use Rattle.journal_file.specs.Writing.{Item, Step, Runs, Following, starts_with, items_of, lines_with, entries_in}

-- the lines are the first of those that were put, and none is missing of those up to the synced place
pub record ReadsBack (place synced : ℕ) (start : List (List ℕ)) (items : List Item) (lines : List (List ℕ)) : Type 0 where
  pub front : List Item
  pub back : List Item
  pub count : ℕ
  pub parts : items ≡ front ++ back
  pub synced_is : synced ≡ place + entries_in front
  pub lines_are : lines ≡ take count (lines_with start items)
  pub all_synced : length (lines_with start front) ≤ count

-- so it is after a crash at any moment
abbrev pub AnyCrash : Type 0
AnyCrash = (place : ℕ) (start : List (List ℕ)) (steps : List Step) (now : Following) (left : List ℕ) (lines : List (List ℕ)) (rest : List ℕ)
    → AllByRecursion HasNoEnd start → Runs (starts_with place start) steps now → Leaves now.file left → IsCut left lines rest
    → ReadsBack place now.writing.synced start (items_of steps) lines
