-- From what an office shows to what a line is answered that asks for a list.
use Rattle.std.proofs.Common.{◌≡◌, ℕ, inl, inr, List, Result, Ok, Err, IfOk, subst}
use Rattle.centre_events.specs.declared.refusal.Refusal.{Refusal}
use Rattle.centre_questions.specs.declared.question.Question.{Question}
use Rattle.centre_questions.specs.declared.seen_value.SeenValue.{SeenValue}
use Rattle.console_text.specs.Texts.{refused_text}
use Rattle.office.specs.Desks.{DeskState}
use Rattle.office.specs.Offices.{IsSeenSomewhere, IsUnseenSomewhere}
use Rattle.office.specs.declared.seen.Seen.{Seen}
use Rattle.server_lines.specs.declared.list_line.ListLine.{ListLine}
use Rattle.server_operator.specs.Listing.{IsListAnswer, IsShown, list_text, question_of}
use Rattle.server_operator.specs.declared.beside.Beside.{Beside}

-- the text of what was seen, and of what the server says beside it
pub shown : {E : Type 0} (l : ListLine) (v : SeenValue) (beside : Beside) (o : Result (List ℕ) E) → IfOk o (λ text. text ≡ list_text beside l v) → IfOk o (IsShown l v)
shown l v beside (Ok text) is = record { beside = beside; is = is }
shown l v beside (Err e) is = tt

-- that text, of what was seen in the centre
pub listed : {E : Type 0} (d : DeskState) (l : ListLine) (q : Question) (s : Seen) (o : Result (List ℕ) E) → q ≡ question_of l → IsSeenSomewhere d q s → IfOk o (IsShown l s.value) → IfOk o (IsListAnswer d l)
listed d l q s (Ok text) same somewhere is = inl (record { seen = s; somewhere = subst (λ x. IsSeenSomewhere d x s) same somewhere; is = is })
listed d l q s (Err e) same somewhere is = tt

-- or of why nothing was
pub unlisted : {E : Type 0} (d : DeskState) (l : ListLine) (q : Question) (r : Refusal) (o : Result (List ℕ) E) → q ≡ question_of l → IsUnseenSomewhere d q r → IfOk o (λ text. text ≡ refused_text r) → IfOk o (IsListAnswer d l)
unlisted d l q r (Ok text) same somewhere is = inr (record { cause = r; somewhere = subst (λ x. IsUnseenSomewhere d x r) same somewhere; is = is })
unlisted d l q r (Err e) same somewhere is = tt
