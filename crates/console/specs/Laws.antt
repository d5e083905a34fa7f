-- That the text of lines is determined by them, and that a centre is stale only after memory ran out.
use Rattle.std.specs.Prelude.{◌≡◌, ℕ, false, List}
use Rattle.centre_events.specs.declared.refusal.Refusal.TheVariants as refusal
use Rattle.console.specs.Sessions.{SessionState, Answers}
use Rattle.console.specs.Text.{IsText, IsTextBy}
use Rattle.console_text.specs.declared.response.Response.{Response}
use Rattle.console_text.specs.declared.response.Response.TheVariants as response

-- lines have one text, and leave one session
abbrev pub OneText : Type 0
OneText = (old : SessionState) (lines : List (List ℕ)) (new last : SessionState) (text other : List ℕ) → IsText old lines new text → IsText old lines last other
    → (new ≡ last) × (text ≡ other)

-- the line is answered, the centre is whole then, and nothing was refused as stale
abbrev pub AnswersWhole : SessionState → List ℕ → Response → SessionState → Type 0
AnswersWhole old octets r new = Answers old octets r new × ((new.centre.stale ≡ false) × (r ≡ response.Refused refusal.Stale → ⊥))

-- while no line ran out of memory, a centre that was whole stays so, and no line is refused as stale
abbrev pub StaysWhole : Type 0
StaysWhole = (old : SessionState) (lines : List (List ℕ)) (new : SessionState) (text : List ℕ) → IsText old lines new text → old.centre.stale ≡ false
    → IsTextBy AnswersWhole old lines new text
