-- What is answered to lines in turn.
use Rattle.std.specs.Prelude.{◌≡◌, ℕ, ◌≤◌, List, [], ◌∷◌, ◌++◌, length}
use Rattle.console_text.specs.Lines.{longest_line, without_return}
use Rattle.console.specs.Sessions.{SessionState, Answers, AnswersOrStarves}
use Rattle.console_text.specs.Texts.{response_text}
use Rattle.console_text.specs.declared.response.Response.{Response}

-- how a line is answered
abbrev pub Answering : Type 1
Answering = SessionState → List ℕ → Response → SessionState → Type 0

-- the text is the answers to the lines in turn, none of which is too long
abbrev pub IsTextBy : Answering → SessionState → List (List ℕ) → SessionState → List ℕ → Type 0
IsTextBy answers old [] new text = (new ≡ old) × (text ≡ [])
IsTextBy answers old (line ∷ lines) new text =
    (r : Response) × (mid : SessionState) × (rest : List ℕ) × (length (without_return line) ≤ longest_line)
    × answers old (without_return line) r mid × IsTextBy answers mid lines new rest × (text ≡ response_text r ++ rest)

-- the text of the lines
abbrev pub IsText : SessionState → List (List ℕ) → SessionState → List ℕ → Type 0
IsText old lines new text = IsTextBy Answers old lines new text

-- the same, where the lines at which memory may run out may be answered so
abbrev pub IsTextOrStarves : SessionState → List (List ℕ) → SessionState → List ℕ → Type 0
IsTextOrStarves old lines new text = IsTextBy AnswersOrStarves old lines new text
