-- What is held while a file is read, and what a piece of it does to that.
use Rattle.std.specs.Prelude.{◌≡◌, ℕ, ◌+◌, List, [], ◌∷◌, ◌++◌, length, map, Option, MatchOption}
use Rattle.std.specs.List.{flat_map}
use Rattle.journal_file.specs.Lines.{HasNoEnd, IsCut, kept_of}

-- what is kept of the line that has begun and how many octets it has, how many lines have ended, and how many octets came
pub record LoadingState : Type 0 where
  pub held : List ℕ
  pub begun : ℕ
  pub ended : ℕ
  pub octets : ℕ

-- nothing came yet
abbrev pub nothing_yet : LoadingState
nothing_yet = record { held = []; begun = 0; ended = 0; octets = 0 }

-- the line goes on
abbrev pub goes_on : LoadingState → List ℕ → LoadingState
goes_on old run = record { held = kept_of (old.held ++ run); begun = old.begun + length run; ended = old.ended; octets = old.octets + length run }

-- the line ends
abbrev pub ends_line : LoadingState → LoadingState
ends_line old = record { held = []; begun = 0; ended = old.ended + 1; octets = old.octets + 1 }

-- a line ended in the piece, and some of the piece stands behind that
pub record TakesLine (old : LoadingState) (piece : List ℕ) (new : LoadingState) (line behind : List ℕ) : Type 0 where
  pub run : List ℕ
  pub cut : piece ≡ run ++ 10 ∷ behind
  pub none : HasNoEnd run
  pub line_is : line ≡ kept_of (old.held ++ run)
  pub state : new ≡ ends_line (goes_on old run)

-- none did
abbrev pub TakesNone : LoadingState → List ℕ → LoadingState → Type 0
TakesNone old piece new = HasNoEnd piece × (new ≡ goes_on old piece)

-- the octets came, and so much of each of their lines was given
pub record Holds (octets : List ℕ) (given : List (List ℕ)) (now : LoadingState) : Type 0 where
  pub lines : List (List ℕ)
  pub rest : List ℕ
  pub cut : IsCut octets lines rest
  pub given_are : given ≡ map kept_of lines
  pub held : now.held ≡ kept_of rest
  pub begun : now.begun ≡ length rest
  pub ended : now.ended ≡ length lines
  pub octets_are : now.octets ≡ length octets

-- one take: the line that it gave, if any
pub data Step : Type 0 where
  Line : List ℕ → List ℕ → List ℕ → Step
  Run : List ℕ → Step

-- what it does
abbrev pub Does : LoadingState → Step → LoadingState → Type 0
Does old (Line piece line behind) new = TakesLine old piece new line behind
Does old (Run piece) new = TakesNone old piece new

-- the takes in turn
abbrev pub Runs : LoadingState → List Step → LoadingState → Type 0
Runs old [] new = new ≡ old
Runs old (step ∷ steps) new = (now : LoadingState) × Does old step now × Runs now steps new

-- the lines that they gave
abbrev pub given_by : List Step → List (List ℕ)
given_by [] = []
given_by (Line piece line behind ∷ steps) = line ∷ given_by steps
given_by (Run piece ∷ steps) = given_by steps

-- the takes took all the octets: what one leaves behind a line begins the piece of the next
abbrev pub TakesAll : List ℕ → List Step → Type 0
TakesAll octets [] = octets ≡ []
TakesAll octets (Line piece line behind ∷ steps) = (more : List ℕ) × (octets ≡ piece ++ more) × TakesAll (behind ++ more) steps
TakesAll octets (Run piece ∷ steps) = (more : List ℕ) × (octets ≡ piece ++ more) × TakesAll more steps

-- however the octets came, the lines given are those of the octets
abbrev pub AnyPieces : Type 0
AnyPieces = (octets : List ℕ) (steps : List Step) (now : LoadingState) → TakesAll octets steps → Runs nothing_yet steps now → Holds octets (given_by steps) now
