-- A whole centre stays whole while memory does not run out, and refuses nothing as stale.
use Rattle.std.proofs.Common.{◌≡◌, inl, inr, ℕ, Bool, true, false, Option, Some, None, Result, Ok, Err, List, [], ◌∷◌, if◌then◌else◌, refl, sym, ap, ◌∙◌, subst}
use Rattle.std.specs.Bool.{MatchBool}
use Rattle.std.specs.Prelude.{MatchOption}
use Rattle.cbsp_messages.specs.declared.message_type.MessageType.{MessageType}
use Rattle.centre_past.specs.Legal.{past}
use Rattle.centre_past.specs.Lists.{area_selectors, cell_rows, failed_of, sheet_of}
use Rattle.centre_past.specs.declared.lists.failed_row.FailedRow.{FailedRow}
use Rattle.centre_past.specs.declared.lists.warning_sheet.WarningSheet.{WarningSheet}
use Rattle.centre_events.specs.InFlight.{in_flight}
use Rattle.centre_events.specs.Links.{is_bsc}
use Rattle.centre_events.specs.Cover.{is_area}
use Rattle.centre_past.specs.Numbers.{area_board, area_total, board, warning_area}
use Rattle.centre_events.specs.Past.{Past}
use Rattle.centre_events.specs.Pending.{pending}
use Rattle.centre_past.specs.Table.{table}
use Rattle.centre_events.specs.Warnings.{book_of}
use Rattle.centre_past.specs.VerdictLaws.{is_given, verdict_given}
use Rattle.centre_events.specs.declared.answer.Answer.{Answer}
use Rattle.centre_events.specs.declared.answer.Answer.TheVariants as answer
use Rattle.centre_events.specs.declared.event.Event.{Event}
use Rattle.centre_events.specs.declared.event.Event.TheVariants as event
use Rattle.centre_events.specs.declared.refusal.Refusal.{Refusal}
use Rattle.centre_events.specs.declared.refusal.Refusal.TheVariants as refusal
use Rattle.centre_questions.specs.Questions.{of_area, of_bsc, of_failed, of_known_area, of_sheet, of_warning, value_of}
use Rattle.centre_questions.specs.declared.question.Question.{Question}
use Rattle.centre_questions.specs.declared.question.Question.TheVariants as question
use Rattle.centre_questions.specs.declared.seen_value.SeenValue.{SeenValue}
use Rattle.centre_questions.specs.declared.seen_value.SeenValue.TheVariants as value
use Rattle.coverage_board.specs.declared.numbers.Numbers.{Numbers}
use Rattle.warning_book.specs.Book.{names, warning_of}
use Rattle.warning_book.specs.declared.warning.Warning.{Warning}
use Rattle.console.specs.Generations.{generation_of}
use Rattle.console_text.specs.Grammar.{line_of}
use Rattle.console_text.specs.HexText.{octets_of}
use Rattle.console.specs.Laws.{StaysWhole}
use Rattle.console.specs.Sessions.{SessionState, Says, verdict_in, entered, with_link, Submits, BringsUp, Asks, AsksWhole, SaysValue, told, ReportsBody, ReportsOctets, event_of, SubmitsLine, Responds, AnswersLine, AnswersWords}
use Rattle.console_text.specs.Words.{is_comment}
use Rattle.cbsp_messages.specs.MessageType.{report_type}
use Rattle.console_text.specs.Lines.{without_return}
use Rattle.console_text.specs.Words.{words_of}
use Rattle.console_text.specs.declared.line.Line.{Line}
use Rattle.console_text.specs.declared.line.Line.TheVariants as line
use Rattle.console_text.specs.declared.response.Response.{Response}
use Rattle.console_text.specs.declared.response.Response.TheVariants as response
use Rattle.console.proofs.SessionLemmas.{verdict_whole}

-- the centre is whole then, and nothing was refused as stale
abbrev KeepsWhole : Response → SessionState → Type 0
KeepsWhole r new = (new.centre.stale ≡ false) × (r ≡ response.Refused refusal.Stale → ⊥)

says_whole : (old : SessionState) (said r : Response) (new : SessionState) → old.centre.stale ≡ false → (said ≡ response.Refused refusal.Stale → ⊥) → Says old said r new → KeepsWhole r new
says_whole old said r new whole other h = (ap (λ s. s.centre.stale) h.1 ∙ whole, λ is. other (sym h.0 ∙ is))

-- a whole centre refuses no event as stale
refused_whole : (old : SessionState) (e : Event) (r : Refusal) → old.centre.stale ≡ false → verdict_in old e ≡ Err r → r ≡ refusal.Stale → ⊥
refused_whole old e r whole given stale =
    cc (sym (verdict_given old.centre.settings (past old.centre) e) ∙ ap is_given (sym (verdict_whole old e whole) ∙ given ∙ ap Err stale))

-- what a refusal is refused with
abbrev refusal_in : Response → Refusal
refusal_in (response.Refused r) = r
refusal_in other = refusal.Memory

submits_whole : (old : SessionState) (e : Event) (r : Response) (new : SessionState) → old.centre.stale ≡ false → Submits old e r new → KeepsWhole r new
submits_whole old e (response.Accepted number a) new whole h = (ap (λ s. s.centre.stale) h.1 ∙ whole, λ is. cc is)
submits_whole old e (response.Refused r) new whole h = (ap (λ s. s.centre.stale) h.1 ∙ whole, λ is. refused_whole old e r whole h.0 (ap refusal_in is))
submits_whole old e _ new whole h = absurd h

link_centre : (b : ℕ) (a : Answer) (s : SessionState) → (with_link b a s).centre ≡ s.centre
link_centre b (answer.Link generation) s = refl
link_centre b _ s = refl

brings_up_whole : (old : SessionState) (b : ℕ) (r : Response) (new : SessionState) → old.centre.stale ≡ false → BringsUp old b r new → KeepsWhole r new
brings_up_whole old b (response.Accepted number a) new whole h =
    (ap (λ s. s.centre.stale) h.1 ∙ ap (λ c. c.stale) (link_centre b a (entered old (event.LinkUp b) a)) ∙ whole, λ is. cc is)
brings_up_whole old b (response.Refused r) new whole h = (ap (λ s. s.centre.stale) h.1 ∙ whole, λ is. refused_whole old (event.LinkUp b) r whole h.0 (ap refusal_in is))
brings_up_whole old b _ new whole h = absurd h

event_whole : (old : SessionState) (e : Option Event) (r : Response) (new : SessionState) → old.centre.stale ≡ false → SubmitsLine old e r new → KeepsWhole r new
event_whole old None r new whole h = says_whole old response.BadHex r new whole (λ is. cc is) h
event_whole old (Some e) r new whole h = submits_whole old e r new whole h

body_whole : (old : SessionState) (b : ℕ) (t : MessageType) (body : List ℕ) (r : Response) (new : SessionState) → old.centre.stale ≡ false → ReportsBody old b t body r new → KeepsWhole r new
body_whole old b t body r new whole (inl h) = submits_whole old (event.Report b (generation_of old.kept b) h.0) r new whole h.2
body_whole old b t body r new whole (inr h) = says_whole old (response.BadMessage h.0) r new whole (λ is. cc is) h.2

frame_whole : (old : SessionState) (b : ℕ) (body : List ℕ) (kind : Option MessageType) (r : Response) (new : SessionState) → old.centre.stale ≡ false
    → MatchOption kind (Says old response.Skipped r new) (λ t. ReportsBody old b t body r new) → KeepsWhole r new
frame_whole old b body (Some t) r new whole h = body_whole old b t body r new whole h
frame_whole old b body None r new whole h = says_whole old response.Skipped r new whole (λ is. cc is) h

octets_whole : (old : SessionState) (b : ℕ) (octets : List ℕ) (r : Response) (new : SessionState) → old.centre.stale ≡ false → ReportsOctets old b octets r new → KeepsWhole r new
octets_whole old b octets r new whole (inl h) = frame_whole old b h.0.body (report_type h.0.kind) r new whole h.2
octets_whole old b octets r new whole (inr h) = says_whole old response.BadFrame r new whole (λ is. cc is) h.1

reports_whole : (old : SessionState) (b : ℕ) (octets : Option (List ℕ)) (r : Response) (new : SessionState) → old.centre.stale ≡ false
    → MatchOption octets (Says old response.BadHex r new) (λ xs. ReportsOctets old b xs r new) → KeepsWhole r new
reports_whole old b None r new whole h = says_whole old response.BadHex r new whole (λ is. cc is) h
reports_whole old b (Some octets) r new whole h = octets_whole old b octets r new whole h

-- a question to a whole centre
asked_whole : (old : SessionState) (r : Response) (new : SessionState) (asked : Type 0) → old.centre.stale ≡ false → AsksWhole old r new asked → asked
asked_whole old r new asked whole h = subst (λ t. MatchBool t (Says old (response.Refused refusal.Stale) r new) asked) whole h

-- the numbers of a warning and an area are never refused as stale
named_stale : (past : Past) (a : List ℕ) (w : Warning) (t : Bool) → (if t then Ok (area_total past a w) else Err refusal.AreaNotThere) ≡ Err refusal.Stale → ⊥
named_stale past a w true h = cc h
named_stale past a w false h = cc h

warning_stale : (past : Past) (a : List ℕ) (w : Option Warning) → warning_area past a w ≡ Err refusal.Stale → ⊥
warning_stale past a None h = cc h
warning_stale past a (Some w) h = named_stale past a w (names a w) h

area_stale : (past : Past) (n : ℕ) (a : List ℕ) (t : Bool) → (if t then warning_area past a (warning_of (book_of past) n) else Err refusal.NoSuchArea) ≡ Err refusal.Stale → ⊥
area_stale past n a true h = warning_stale past a (warning_of (book_of past) n) h
area_stale past n a false h = cc h

of_warning_stale : (numbers : Option Numbers) → of_warning numbers ≡ Err refusal.Stale → ⊥
of_warning_stale None h = cc h
of_warning_stale (Some n) h = cc h

of_area_stale : (numbers : Result Numbers Refusal) → (numbers ≡ Err refusal.Stale → ⊥) → of_area numbers ≡ Err refusal.Stale → ⊥
of_area_stale (Ok n) other h = cc h
of_area_stale (Err e) other h =
    let same : e ≡ refusal.Stale = cc h in
    other (ap Err same)

of_bsc_stale : (there : Bool) (v : SeenValue) → of_bsc there v ≡ Err refusal.Stale → ⊥
of_bsc_stale true v h = cc h
of_bsc_stale false v h = cc h

of_known_area_stale : (there : Bool) (v : SeenValue) → of_known_area there v ≡ Err refusal.Stale → ⊥
of_known_area_stale true v h = cc h
of_known_area_stale false v h = cc h

of_sheet_stale : (sheet : Option WarningSheet) → of_sheet sheet ≡ Err refusal.Stale → ⊥
of_sheet_stale None h = cc h
of_sheet_stale (Some s) h = cc h

of_failed_stale : (rows : Option (List FailedRow)) → of_failed rows ≡ Err refusal.Stale → ⊥
of_failed_stale None h = cc h
of_failed_stale (Some rows) h = cc h

-- no question is refused as stale by what the journal says
value_stale : (past : Past) (q : Question) → value_of past q ≡ Err refusal.Stale → ⊥
value_stale past (question.Total w) h = of_warning_stale (board past w) h
value_stale past (question.Area w a) h = of_area_stale (area_board past w a) (area_stale past w a (is_area past a)) h
value_stale past (question.Place c) h = cc h
value_stale past (question.Pending b) h = of_bsc_stale (is_bsc past b) (value.Pending (pending past b)) h
value_stale past (question.Table b) h = of_bsc_stale (is_bsc past b) (value.Table (table past b)) h
value_stale past (question.InFlight b) h = of_bsc_stale (is_bsc past b) (value.InFlight (in_flight past b)) h
value_stale past question.Bscs h = cc h
value_stale past (question.Cells b) h = of_bsc_stale (is_bsc past b) (value.Cells (cell_rows past b)) h
value_stale past question.Areas h = cc h
value_stale past (question.Selectors a) h = of_known_area_stale (is_area past a) (value.Selectors (area_selectors past a)) h
value_stale past question.Warnings h = cc h
value_stale past (question.Warning w) h = of_sheet_stale (sheet_of past w) h
value_stale past (question.Failed w) h = of_failed_stale (failed_of past w) h

told_whole : (v : SeenValue) → told v ≡ response.Refused refusal.Stale → ⊥
told_whole (value.Numbers n) h = cc h
told_whole (value.Pending orders) h = cc h
told_whole (value.Table keys) h = cc h
told_whole _ h = cc h

says_value_whole : (old : SessionState) (x : Result SeenValue Refusal) (r : Response) (new : SessionState) → old.centre.stale ≡ false → (x ≡ Err refusal.Stale → ⊥) → SaysValue old x r new
    → KeepsWhole r new
says_value_whole old (Ok v) r new whole other h = says_whole old (told v) r new whole (told_whole v) h
says_value_whole old (Err e) r new whole other h = says_whole old (response.Refused e) r new whole (λ is. other (ap Err (ap refusal_in is))) h

asks_whole : (old : SessionState) (q : Question) (r : Response) (new : SessionState) → old.centre.stale ≡ false → Asks old q r new → KeepsWhole r new
asks_whole old q r new whole h = says_value_whole old (value_of (past old.centre) q) r new whole (value_stale (past old.centre) q) (asked_whole old r new _ whole h)

responds_whole : (old : SessionState) (l : Line) (r : Response) (new : SessionState) → old.centre.stale ≡ false → Responds old l r new → KeepsWhole r new
responds_whole old (line.Up b) r new whole h = brings_up_whole old b r new whole h
responds_whole old (line.Keep b generation) r new whole h = (ap (λ s. s.centre.stale) h.1 ∙ whole, λ is. cc (sym h.0 ∙ is))
responds_whole old (line.Report b text) r new whole h = reports_whole old b (octets_of text) r new whole h
responds_whole old (line.Board n) r new whole h = asks_whole old (question.Total n) r new whole h
responds_whole old (line.AreaBoard n a) r new whole h = asks_whole old (question.Area n a) r new whole h
responds_whole old (line.Pending b) r new whole h = asks_whole old (question.Pending b) r new whole h
responds_whole old (line.Table b) r new whole h = asks_whole old (question.Table b) r new whole h
responds_whole old line.Rebuild r new whole h = (ap (λ s. s.centre.stale) h.1, λ is. cc (sym h.0 ∙ is))
responds_whole old line.Checkpoint r new whole h =
    let folds = asked_whole old r new _ whole h in
    (ap (λ s. s.centre.stale) folds.1 ∙ whole, λ is. cc (sym folds.0 ∙ is))
responds_whole old l r new whole h = event_whole old (event_of old l) r new whole h

line_whole : (old : SessionState) (l : Option Line) (r : Response) (new : SessionState) → old.centre.stale ≡ false → AnswersLine Responds old l r new → KeepsWhole r new
line_whole old None r new whole h = says_whole old response.BadLine r new whole (λ is. cc is) h
line_whole old (Some l) r new whole h = responds_whole old l r new whole h

words_whole : (old : SessionState) (words : List (List ℕ)) (r : Response) (new : SessionState) → old.centre.stale ≡ false → AnswersWords Responds old words r new → KeepsWhole r new
words_whole old [] r new whole h = says_whole old response.Silence r new whole (λ is. cc is) h
words_whole old (first ∷ words) r new whole h =
    elim (is_comment first) as (λ b. MatchBool b (Says old response.Silence r new) (AnswersLine Responds old (line_of (first ∷ words)) r new) → KeepsWhole r new) [
      | true ↦ λ x. says_whole old response.Silence r new whole (λ is. cc is) x
      | false ↦ λ x. line_whole old (line_of (first ∷ words)) r new whole x
    ] h

pub stays_whole : StaysWhole
stays_whole old [] new text told whole = told
stays_whole old (l ∷ lines) new text told whole =
    let kept = words_whole old (words_of (without_return l)) told.0 told.1 whole told.4 in
    (told.0, told.1, told.2, told.3, (told.4, kept), stays_whole told.1 lines new told.2 told.5 kept.0, told.6)
