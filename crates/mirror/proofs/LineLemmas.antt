-- A line is blank where each of its keys is.
use Rattle.std.proofs.Common.{◌≡◌, ◌&&◌, List, [], ◌∷◌, length, replicate, refl, ap}
use Rattle.std.specs.Cmp.Lexicographic.{pointwise}
use Rattle.std.specs.List.{list_all}
use Rattle.mirror.specs.Blank.{state_eq}
use Rattle.mirror.specs.Line.{blank}
use Rattle.mirror.specs.declared.key_state.KeyState.{KeyState}

pub blank_each : (states : List KeyState) → pointwise state_eq states (replicate (length states) blank) ≡ list_all (λ s. state_eq s blank) states
blank_each [] = refl
blank_each (s ∷ states) = ap (λ t. state_eq s blank && t) (blank_each states)
