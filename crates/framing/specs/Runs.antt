-- What a framer gives of a stream that comes in pieces.
use Rattle.std.specs.Prelude.{◌≡◌, ℕ, Option, List, [], ◌∷◌, ◌++◌, length, option_to_list}
use Rattle.framing.specs.declared.frame.Frame.{Frame}
use Rattle.framing.specs.Streams.{Cuts, IsTooLong, announced}
use Rattle.framing.specs.Framers.{Framing, fresh, Takes, EndsTooLong}

-- a piece is fed and taken, or a frame is asked for, and given where there is one
pub data Step : Type 0 where
  Fed : List ℕ → Step
  Asked : Option Frame → Step

-- what one step does to a framer
abbrev pub Does : Framing → Step → Framing → Type 0
Does old (Fed piece) new = Takes old piece new
Does old (Asked frame) new = (old.frames ≡ option_to_list frame ++ new.frames) × (new.rest ≡ old.rest)

-- the steps in turn
abbrev pub Runs : Framing → List Step → Framing → Type 0
Runs old [] new = new ≡ old
Runs old (step ∷ steps) new = (now : Framing) × Does old step now × Runs now steps new

-- the pieces that were fed, joined
abbrev pub fed : List Step → List ℕ
fed [] = []
fed (Fed piece ∷ steps) = piece ++ fed steps
fed (Asked frame ∷ steps) = fed steps

-- the frames that were given
abbrev pub given : List Step → List Frame
given [] = []
given (Fed piece ∷ steps) = given steps
given (Asked frame ∷ steps) = option_to_list frame ++ given steps

-- the frames given and still to be given, and the rest, are the cutting of all pieces joined
abbrev pub AnyPieces : Type 0
AnyPieces = (steps : List Step) (now : Framing) → Runs fresh steps now → Cuts (fed steps) (given steps ++ now.frames) now.rest

-- behind those frames of the stream stands one that is too long, with a body of n octets
abbrev pub IsTooLongAfter : List ℕ → List Frame → ℕ → Type 0
IsTooLongAfter stream frames n = (tail : List ℕ) × Cuts stream frames tail × IsTooLong tail × (n ≡ announced tail)

-- a piece is refused where all pieces joined with it are too long, and the frames given and still to be given are those before
abbrev pub RefusedStream : Type 0
RefusedStream = (steps : List Step) (now new : Framing) (piece : List ℕ) (n : ℕ) → Runs fresh steps now → EndsTooLong now piece n new
    → IsTooLongAfter (fed steps ++ piece) (given steps ++ new.frames) n

-- and it is taken only where they are not
abbrev pub TakenStream : Type 0
TakenStream = (steps : List Step) (now new : Framing) (piece : List ℕ) → Runs fresh steps now → Takes now piece new
    → (frames : List Frame) (n : ℕ) → ¬ IsTooLongAfter (fed steps ++ piece) frames n

-- a framer that refused a piece as too long holds four octets, which say so
abbrev pub StaysTooLong : Type 0
StaysTooLong = (old new : Framing) (piece : List ℕ) (n : ℕ) → EndsTooLong old piece n new
    → IsTooLong new.rest × (announced new.rest ≡ n) × (length new.rest ≡ 4)
