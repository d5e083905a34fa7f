-- What follows where a line isn't held.
use Rattle.std.proofs.Common.{◌≡◌, ℕ, zero, suc, false, List, [], ◌∷◌, Option, Some, None, get_or, refl}
use Rattle.std.proofs.lemmas.Bool.{or_parts}
use Rattle.std.specs.List.{list_any}
use Rattle.std.specs.Option.{is_some}
use Rattle.serials.specs.Serials.{update_of}
use Rattle.mirror.specs.Held.{is_held_line}
use Rattle.mirror.specs.Line.{blank, blank_line, state_of}
use Rattle.mirror.specs.declared.key_state.KeyState.{KeyState}
use Rattle.mirror.specs.declared.line.Line.{Line}

none_there : {A : Type 0} (o : Option A) → is_some o ≡ false → o ≡ None
none_there None h = refl
none_there (Some x) h = cc

unheld_at : (states : List KeyState) → list_any (λ k. is_some k.hold) states ≡ false → (n : ℕ) → (get_or states n blank).hold ≡ None
unheld_at [] h n = refl
unheld_at (k ∷ states) h zero = none_there k.hold (or_parts (is_some k.hold) (list_any (λ x. is_some x.hold) states) h).0
unheld_at (k ∷ states) h (suc n) = unheld_at states (or_parts (is_some k.hold) (list_any (λ x. is_some x.hold) states) h).1 n

-- nothing holds a version of a line that isn't held
pub unheld_state : (line : Line) → is_held_line line ≡ false → (s : ℕ) → (state_of line s).hold ≡ None
unheld_state line h s = unheld_at line.states h (update_of s)

-- a blank line isn't held
pub blank_unheld : is_held_line blank_line ≡ false
blank_unheld = refl
