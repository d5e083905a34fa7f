-- What is read of a journal's file when it is opened.
use Rattle.std.specs.Prelude.{◌≡◌, ◌⊎◌, ℕ, ◌+◌, ◌-◌, ◌<◌, ◌≤◌, false, List, [], ◌∷◌, ◌++◌, length, drop, ⊤, Option, None, Some}
use Rattle.std.specs.List.{AllByRecursion}
use Rattle.std.specs.Io.KnownBytes.{Consumes, IsAtEnd}
use Rattle.journal_file.specs.Lines.{IsCut, HasNoEnd, IsLine, is_comment, longest_line, line_octets, lines_octets, without_comments}
use Rattle.journal_file.specs.First.{header_line, IsHeader, IsOfOtherNetwork, IsOfOtherBroadcasts, IsTornHeader}
use Rattle.journal_file.specs.declared.heading.Heading.{Heading}
use Rattle.journal_file.specs.declared.loaded.Loaded.{Loaded}
use Rattle.journal_file.specs.declared.load_fault.LoadFault.{LoadFault}
use Rattle.journal_file.specs.declared.load_fault.LoadFault.TheVariants.{ReadFault, Memory, NotJournal, OtherNetwork, OtherBroadcasts, LongLine, BadLine}

-- known lines that were taken grow by some lines
abbrev pub TakesLines : Option (List (List ℕ)) → Option (List (List ℕ)) → List (List ℕ) → Type 0
TakesLines None new lines = ⊤
TakesLines (Some old) None lines = ⊥
TakesLines (Some old) (Some new) lines = new ≡ old ++ lines

-- the first of the lines, if there is one, is the header of the journal
abbrev pub BeginsWithHeader : Heading → List (List ℕ) → Type 0
BeginsWithHeader heading [] = ⊤
BeginsWithHeader heading (first ∷ lines) = first ≡ header_line heading

-- the octets begin with these lines, of which the first is the header, and the others were taken but the comments
pub record Passes (heading : Heading) (octets : List ℕ) (lines : List (List ℕ)) (behind : List ℕ) (before after : Option (List (List ℕ))) : Type 0 where
  pub whole : octets ≡ lines_octets lines ++ behind
  pub each : AllByRecursion IsLine lines
  pub first : BeginsWithHeader heading lines
  pub taken : TakesLines before after (without_comments (drop 1 lines))

-- the octets begin with the line
pub record BeginsWithLine (octets line : List ℕ) : Type 0 where
  pub behind : List ℕ
  pub whole : octets ≡ line_octets line ++ behind
  pub none : HasNoEnd line

-- a file in which no line ended holds nothing, or what a torn write leaves of the header
abbrev pub MayBegin : Heading → List (List ℕ) → List ℕ → Type 0
MayBegin heading [] rest = IsTornHeader heading rest × (length rest ≤ longest_line)
MayBegin heading (first ∷ lines) rest = ⊤

-- all was read: each line but the first and the comments was taken, and behind the lines stands a rest, which is torn
pub record Loads (heading : Heading) (given left : Option (List ℕ)) (before after : Option (List (List ℕ))) (loaded : Loaded) : Type 0 where
  pub octets : List ℕ
  pub lines : List (List ℕ)
  pub rest : List ℕ
  pub consumed : Consumes given left octets
  pub ended : IsAtEnd left
  pub passed : Passes heading octets lines rest before after
  pub open_end : HasNoEnd rest
  pub begun : MayBegin heading lines rest
  pub lines_is : loaded.lines ≡ length lines
  pub torn_is : loaded.torn ≡ length rest
  pub whole_is : loaded.whole + length rest ≡ length octets

-- what a fault says of the octets behind the lines that passed; a bad line is never a comment
abbrev pub Stops : Heading → List (List ℕ) → List ℕ → LoadFault → Type 0
Stops heading lines behind ReadFault = ⊤
Stops heading lines behind Memory = ⊤
Stops heading lines behind NotJournal = (lines ≡ []) × (((line : List ℕ) × BeginsWithLine behind line × ¬ IsHeader line) ⊎ (HasNoEnd behind × ¬ (IsTornHeader heading behind × (length behind ≤ longest_line))))
Stops heading lines behind OtherNetwork = (lines ≡ []) × ((line : List ℕ) × BeginsWithLine behind line × IsOfOtherNetwork heading line)
Stops heading lines behind (OtherBroadcasts found asked) = (lines ≡ []) × (asked ≡ heading.broadcasts) × ((line : List ℕ) × BeginsWithLine behind line × IsOfOtherBroadcasts heading line found)
Stops heading lines behind (LongLine number) = (number ≡ length lines + 1) × ((line : List ℕ) × BeginsWithLine behind line × (longest_line < length line))
Stops heading lines behind (BadLine number) = (number ≡ length lines + 1) × ((line : List ℕ) × BeginsWithLine behind line × (length line ≤ longest_line) × (is_comment line ≡ false))

-- a fault ended the reading: the lines before it were taken but the comments
pub record BreaksOff (heading : Heading) (given left : Option (List ℕ)) (before after : Option (List (List ℕ))) (fault : LoadFault) : Type 0 where
  pub octets : List ℕ
  pub lines : List (List ℕ)
  pub behind : List ℕ
  pub consumed : Consumes given left octets
  pub passed : Passes heading octets lines behind before after
  pub stops : Stops heading lines behind fault
