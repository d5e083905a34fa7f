-- What a framer holds, and what a piece of a stream does to it.
use Rattle.std.specs.Prelude.{◌≡◌, ℕ, ◌≤◌, List, [], ◌++◌, length, take, drop}
use Rattle.framing.specs.declared.frame.Frame.{Frame}
use Rattle.framing.specs.declared.fault.FrameFault.{FrameFault}
use Rattle.framing.specs.declared.fault.FrameFault.TheVariants.{TooLong, Memory}
use Rattle.framing.specs.Streams.{Cuts, IsTooLong, announced}

-- the frames that are still to be given, the oldest first, and the octets after them
pub record Framing : Type 0 where
  pub frames : List Frame
  pub rest : List ℕ

-- nothing came yet
abbrev pub fresh : Framing
fresh = record { frames = []; rest = [] }

-- the piece was taken: what stands behind the frames is cut anew, and is not too long
pub record Takes (old : Framing) (piece : List ℕ) (new : Framing) : Type 0 where
  pub more : List Frame
  pub frames : new.frames ≡ old.frames ++ more
  pub cuts : Cuts (old.rest ++ piece) more new.rest
  pub fits : ¬ IsTooLong new.rest

-- a frame of that length is too long: those before it are there, and four octets of it
pub record EndsTooLong (old : Framing) (piece : List ℕ) (length : ℕ) (new : Framing) : Type 0 where
  pub more : List Frame
  pub tail : List ℕ
  pub frames : new.frames ≡ old.frames ++ more
  pub cuts : Cuts (old.rest ++ piece) more tail
  pub too_long : IsTooLong tail
  pub length_is : length ≡ announced tail
  pub rest : new.rest ≡ take 4 tail

-- what each fault says of the piece, and how the framer is then
abbrev pub Refuses : Framing → List ℕ → Framing → FrameFault → Type 0
Refuses old piece new (TooLong length) = EndsTooLong old piece length new
Refuses old piece new Memory = new ≡ old

-- the first n octets are frames, which came behind the old ones, and what follows begins with none
pub record IsCut (octets : List ℕ) (old new : List Frame) (n : ℕ) : Type 0 where
  pub more : List Frame
  pub frames : new ≡ old ++ more
  pub within : n ≤ length octets
  pub cuts : Cuts octets more (drop n octets)
