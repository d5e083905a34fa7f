-- The first answer in some frames.
use Rattle.std.proofs.Common.{◌≡◌, ◌∷◌, List, Option, Some, None, refl}
use Rattle.std.specs.Option.{option_or}
use Rattle.framing.specs.declared.frame.Frame.{Frame}
use Rattle.link_resets.specs.Resets.{answer_in, first_answer}

-- the answers found so far, and the next
pub next_answer : (a : Option Frame) (frame : Frame) (frames : List Frame) → option_or (option_or a (answer_in frame)) (first_answer frames) ≡ option_or a (first_answer (frame ∷ frames))
next_answer None frame frames = refl
next_answer (Some a) frame frames = refl

-- no frames, no answer
pub no_answer : (a : Option Frame) → option_or a None ≡ a
no_answer None = refl
no_answer (Some a) = refl
