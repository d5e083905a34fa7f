-- From what a centre answers a question to what a line is answered.
use Rattle.std.proofs.Common.{◌≡◌, inl, inr, ℕ, Bool, true, false, Option, Some, None, Result, Ok, Err, List, refl, sym, ap, ◌∙◌, subst}
use Rattle.std.specs.Bool.{MatchBool}
use Rattle.std.specs.Prelude.{IsOk}
use Rattle.centre_past.specs.Legal.{past}
use Rattle.centre_events.specs.Links.{is_bsc}
use Rattle.centre_past.specs.Numbers.{area_board, board}
use Rattle.centre_past.specs.Table.{table}
use Rattle.centre_events.specs.Past.{Past}
use Rattle.centre_events.specs.Pending.{pending}
use Rattle.centre_events.specs.declared.refusal.Refusal.{Refusal}
use Rattle.centre_events.specs.declared.refusal.Refusal.TheVariants as refusal
use Rattle.centre_questions.specs.Questions.{RefusesQuestion, Shows, of_area, of_bsc, of_warning, value_of}
use Rattle.centre_questions.specs.declared.question.Question.{Question}
use Rattle.centre_questions.specs.declared.question.Question.TheVariants as question
use Rattle.centre_questions.specs.declared.seen_value.SeenValue.{SeenValue}
use Rattle.centre_questions.specs.declared.seen_value.SeenValue.TheVariants as value
use Rattle.coverage_board.specs.declared.numbers.Numbers.{Numbers}
use Rattle.console.specs.Sessions.{SessionState, Asks, AsksOrStarves, HasLine, IsToldInLine, Says, SaysValue, RespondsOrStarves, told}
use Rattle.console_text.specs.declared.line.Line.TheVariants as line
use Rattle.console_text.specs.declared.response.Response.{Response}
use Rattle.console_text.specs.declared.response.Response.TheVariants as response

warning_in_line : (numbers : Option Numbers) (v : SeenValue) → of_warning numbers ≡ Ok v → IsToldInLine v
warning_in_line (Some n) v is =
    let same : value.Numbers n ≡ v = cc is in
    subst IsToldInLine same tt
warning_in_line None v is = absurd (cc is)

area_in_line : (numbers : Result Numbers Refusal) (v : SeenValue) → of_area numbers ≡ Ok v → IsToldInLine v
area_in_line (Ok n) v is =
    let same : value.Numbers n ≡ v = cc is in
    subst IsToldInLine same tt
area_in_line (Err r) v is = absurd (cc is)

bsc_in_line : (there : Bool) (found v : SeenValue) → IsToldInLine found → of_bsc there found ≡ Ok v → IsToldInLine v
bsc_in_line true found v listed is =
    let same : found ≡ v = cc is in
    subst IsToldInLine same listed
bsc_in_line false found v listed is = absurd (cc is)

-- what a question is answered for which there is a line is told in a line
pub in_line : (past : Past) (q : Question) (v : SeenValue) → HasLine q → value_of past q ≡ Ok v → IsToldInLine v
in_line past (question.Total w) v has is = warning_in_line (board past w) v is
in_line past (question.Area w a) v has is = area_in_line (area_board past w a) v is
in_line past (question.Pending b) v has is = bsc_in_line (is_bsc past b) (value.Pending (pending past b)) v tt is
in_line past (question.Table b) v has is = bsc_in_line (is_bsc past b) (value.Table (table past b)) v tt is
in_line past other v has is = absurd has

asks_stale : (old : SessionState) (q : Question) (r : Response) (new : SessionState) → old.centre.stale ≡ true → Says old (response.Refused refusal.Stale) r new → Asks old q r new
asks_stale old q r new stale says =
    subst (λ t. MatchBool t (Says old (response.Refused refusal.Stale) r new) (SaysValue old (value_of (past old.centre) q) r new)) (sym stale) says

asks_whole : (old : SessionState) (q : Question) (x : Result SeenValue Refusal) (r : Response) (new : SessionState) → old.centre.stale ≡ false → value_of (past old.centre) q ≡ x
    → SaysValue old x r new → Asks old q r new
asks_whole old q x r new whole is says =
    subst (λ t. MatchBool t (Says old (response.Refused refusal.Stale) r new) (SaysValue old (value_of (past old.centre) q) r new)) (sym whole)
    (subst (λ y. SaysValue old y r new) (sym is) says)

-- a question that the centre answers
pub asked_told : (old : SessionState) (q : Question) (v : SeenValue) (r : Response) (new : SessionState) → Shows old.centre q v → r ≡ told v → new ≡ old → AsksOrStarves old q r new
asked_told old q v r new shows is same = inl (asks_whole old q (Ok v) r new shows.0 shows.1 (is, same))

-- a question that it refuses
pub asked_refused : (old : SessionState) (q : Question) (e : Refusal) (r : Response) (new : SessionState) → RefusesQuestion old.centre q e → r ≡ response.Refused e → new ≡ old
    → AsksOrStarves old q r new
asked_refused old q e r new (inl stale) is same = inl (asks_stale old q r new stale.1 (is ∙ ap response.Refused stale.0, same))
asked_refused old q e r new (inr (whole, inl want)) is same = inr (whole, want.1, want.2, (is ∙ ap response.Refused want.0, same))
asked_refused old q e r new (inr (whole, inr given)) is same = inl (asks_whole old q (Err e) r new whole given (is, same))

-- the lines of questions
pub board_asked : (old : SessionState) (w : ℕ) (r : Response) (new : SessionState) → AsksOrStarves old (question.Total w) r new → RespondsOrStarves old (line.Board w) r new
board_asked old w r new (inl h) = inl h
board_asked old w r new (inr h) = absurd (cc h.1)

pub area_asked : (old : SessionState) (w : ℕ) (a : List ℕ) (r : Response) (new : SessionState) → AsksOrStarves old (question.Area w a) r new → RespondsOrStarves old (line.AreaBoard w a) r new
area_asked old w a r new (inl h) = inl h
area_asked old w a r new (inr h) = absurd (cc h.1)

there_if : (there : Bool) (v : SeenValue) → IsOk (of_bsc there v) → there ≡ true
there_if true v ok = refl
there_if false v ok = absurd (cc ok)

pub pending_asked : (old : SessionState) (b : ℕ) (r : Response) (new : SessionState) → AsksOrStarves old (question.Pending b) r new → RespondsOrStarves old (line.Pending b) r new
pending_asked old b r new (inl h) = inl h
pending_asked old b r new (inr h) = inr (h.0, there_if (is_bsc (past old.centre) b) (value.Pending (pending (past old.centre) b)) h.2, h.3)

pub table_asked : (old : SessionState) (b : ℕ) (r : Response) (new : SessionState) → AsksOrStarves old (question.Table b) r new → RespondsOrStarves old (line.Table b) r new
table_asked old b r new (inl h) = inl h
table_asked old b r new (inr h) = inr (h.0, there_if (is_bsc (past old.centre) b) (value.Table (table (past old.centre) b)) h.2, h.3)
