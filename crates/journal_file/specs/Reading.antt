-- How a journal's file is read, line by line.
use Rattle.std.specs.Prelude.{◌≡◌, ℕ, ◌+◌, ◌-◌, ◌<◌, ◌≤◌, true, false, List, [], ◌∷◌, ◌++◌, length, ⊤, Option}
use Rattle.std.specs.Io.KnownBytes.{Consumes}
use Rattle.journal_file.specs.Lines.{HasNoEnd, is_comment, longest_line, kept_of, without_comments}
use Rattle.journal_file.specs.First.{header_line, IsHeader, IsOfOtherNetwork, IsOfOtherBroadcasts, IsTornHeader}
use Rattle.journal_file.specs.Loading.{LoadingState}
use Rattle.journal_file.specs.Loads.{TakesLines, Passes, Stops}
use Rattle.journal_file.specs.declared.heading.Heading.{Heading}
use Rattle.journal_file.specs.declared.loaded.Loaded.{Loaded}
use Rattle.journal_file.specs.declared.load_fault.LoadFault.{LoadFault}
use Rattle.journal_file.specs.declared.load_fault.LoadFault.TheVariants.{ReadFault, Memory, NotJournal, OtherNetwork, OtherBroadcasts, LongLine, BadLine}

-- a line, of which this was kept, passes: the first is the header, and another is taken where it is no comment
pub record PassesOne (heading : Heading) (number : ℕ) (line : List ℕ) (before after : Option (List (List ℕ))) : Type 0 where
  pub first : number ≤ 1 → (line ≡ header_line heading) × (length line ≤ longest_line) × TakesLines before after []
  pub other : 1 < number → (length line ≤ longest_line) × TakesLines before after (without_comments (line ∷ []))

-- why it doesn't
abbrev pub IsFault : Heading → ℕ → List ℕ → LoadFault → Type 0
IsFault heading number line ReadFault = ⊥
IsFault heading number line Memory = ⊤
IsFault heading number line NotJournal = (number ≤ 1) × ¬ IsHeader line
IsFault heading number line OtherNetwork = (number ≤ 1) × IsOfOtherNetwork heading line
IsFault heading number line (OtherBroadcasts found asked) = (number ≤ 1) × (asked ≡ heading.broadcasts) × IsOfOtherBroadcasts heading line found
IsFault heading number line (LongLine n) = (n ≡ number) × (1 < number) × (longest_line < length line)
IsFault heading number line (BadLine n) = (n ≡ number) × (1 < number) × (length line ≤ longest_line) × (is_comment line ≡ false)

-- it doesn't, and nothing is taken
pub record StopsAt (heading : Heading) (number : ℕ) (line : List ℕ) (before after : Option (List (List ℕ))) (fault : LoadFault) : Type 0 where
  pub fault_is : IsFault heading number line fault
  pub none : TakesLines before after []

-- the octets came, and all their lines passed
pub record Passing (heading : Heading) (octets : List ℕ) (now : LoadingState) (before after : Option (List (List ℕ))) : Type 0 where
  pub lines : List (List ℕ)
  pub rest : List ℕ
  pub passed : Passes heading octets lines rest before after
  pub open_end : HasNoEnd rest
  pub held : now.held ≡ kept_of rest
  pub begun : now.begun ≡ length rest
  pub ended : now.ended ≡ length lines
  pub octets_are : now.octets ≡ length octets

-- the octets came, and a fault stopped their reading
pub record Breaking (heading : Heading) (octets : List ℕ) (before after : Option (List (List ℕ))) (fault : LoadFault) : Type 0 where
  pub lines : List (List ℕ)
  pub behind : List ℕ
  pub passed : Passes heading octets lines behind before after
  pub stops : Stops heading lines behind fault

-- the source gave octets whose lines all passed
pub record ReadsOn (heading : Heading) (given left : Option (List ℕ)) (now : LoadingState) (before after : Option (List (List ℕ))) : Type 0 where
  pub octets : List ℕ
  pub consumed : Consumes given left octets
  pub passing : Passing heading octets now before after

-- what is found at the end
pub record Finds (heading : Heading) (now : LoadingState) (loaded : Loaded) : Type 0 where
  pub begins : now.ended ≡ 0 → IsTornHeader heading now.held × (length now.held ≤ longest_line)
  pub lines_is : loaded.lines ≡ now.ended
  pub torn_is : loaded.torn ≡ now.begun
  pub whole_is : loaded.whole + now.begun ≡ now.octets

-- what begins no journal
pub record FindsNone (heading : Heading) (now : LoadingState) (fault : LoadFault) : Type 0 where
  pub fault_is : fault ≡ NotJournal
  pub none_ended : now.ended ≡ 0
  pub no_header : ¬ (IsTornHeader heading now.held × (length now.held ≤ longest_line))
