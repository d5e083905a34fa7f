-- Pasts that come to one base say the same.
use Rattle.std.proofs.Common.{◌≡◌, ℕ, ◌+◌, List, Option, Some, None, Result, Ok, Err, refl, sym, ap, ◌∙◌}
use Rattle.std.specs.Prelude.{if◌then◌else◌}
use Rattle.common.specs.declared.cell.Cell.{Cell}
use Rattle.coverage_plan.specs.declared.edit.Edit.{Edit}
use Rattle.coverage_plan.specs.declared.edit.Edit.TheVariants as edit
use Rattle.mirror.specs.declared.line_key.LineKey.{LineKey}
use Rattle.warning_book.specs.Book.{warning_of}
use Rattle.warning_book.specs.declared.warning.Warning.{Warning}
use Rattle.centre_events.specs.Base.{Base}
use Rattle.centre_events.specs.Cover.{covers, is_area}
use Rattle.centre_events.specs.Folding.{base_of, folded}
use Rattle.centre_events.specs.InFlight.{in_flight}
use Rattle.centre_events.specs.Known.{is_known}
use Rattle.centre_events.specs.Lines.{stand}
use Rattle.centre_events.specs.Past.{Past, From}
use Rattle.centre_events.specs.Pending.{actions, pending}
use Rattle.centre_events.specs.Plan.{planned, wanted}
use Rattle.centre_events.specs.Warnings.{book_of}
use Rattle.centre_events.specs.declared.answer.Answer.{Answer}
use Rattle.centre_events.specs.declared.answer.Answer.TheVariants as answer
use Rattle.centre_events.specs.declared.event.Event.{Event}
use Rattle.centre_events.specs.declared.event.Event.TheVariants as event
use Rattle.centre_events.specs.declared.in_flight.InFlight.{InFlight}
use Rattle.centre_events.specs.declared.refusal.Refusal.{Refusal}
use Rattle.centre_events.specs.declared.refusal.Refusal.TheVariants as refusal
use Rattle.centre_events.proofs.FoldingLemmas.{alike, same_parts}
use Rattle.centre_past.specs.Alike.{SaysTheSame}
use Rattle.centre_past.specs.Facts.{facts, facts_of}
use Rattle.centre_past.specs.LinkStates.{link_state}
use Rattle.centre_past.specs.Lists.{area_rows, area_selectors, bsc_rows, cell_rows, failed_of, plan_counts, sheet_of, warning_rows}
use Rattle.centre_past.specs.Numbers.{area_board, board, warning_area}
use Rattle.centre_past.specs.Reach.{edit_reach, flight_reach, looked_at, reach, reach_of, report_reach, size}
use Rattle.centre_past.specs.Table.{table}

-- What is stuck on a value is taken by its cases.

facts_of_same : (past : Past) (b : ℕ) (c : Cell) (o : Option Warning) → facts_of (folded past) b c o ≡ facts_of past b c o
facts_of_same past b c None = refl
facts_of_same past b c (Some w) = refl

facts_same : (past : Past) (k : LineKey) → facts (folded past) k ≡ facts past k
facts_same past k = facts_of_same past k.bsc k.cell (warning_of (book_of past) k.warning)

area_same : (past : Past) (a : List ℕ) (o : Option Warning) → warning_area (folded past) a o ≡ warning_area past a o
area_same past a None = refl
area_same past a (Some w) = refl

flight_reach_same : (past : Past) (b : ℕ) (f : Option InFlight) → flight_reach (folded past) b f ≡ flight_reach past b f
flight_reach_same past b None = refl
flight_reach_same past b (Some f) = refl

edit_reach_same : (past : Past) (e : Edit) → edit_reach (folded past) e ≡ edit_reach past e
edit_reach_same past (edit.RemoveBsc b) = refl
edit_reach_same past (edit.AddCell c b) = refl
edit_reach_same past (edit.MoveCell c b) = refl
edit_reach_same past (edit.RemoveCell c) = refl
edit_reach_same past (edit.Put a s) = refl
edit_reach_same past (edit.Cut a s) = refl
edit_reach_same past (edit.Issue notice areas) = refl
edit_reach_same past (edit.Update n content) = refl
edit_reach_same past (edit.Widen n a) = refl
edit_reach_same past (edit.Narrow n a) = refl
edit_reach_same past (edit.Stop n) = refl
edit_reach_same past (edit.Forget n) = refl
edit_reach_same past other = refl

report_reach_same : (past : Past) (b : ℕ) (a : Answer) → report_reach (folded past) b a ≡ report_reach past b a
report_reach_same past b (answer.Replied replies) = flight_reach_same past b (in_flight past b)
report_reach_same past b (answer.Listed listed) = refl
report_reach_same past b other = refl

reach_of_same : (past : Past) (e : Event) (a : Answer) → reach_of (folded past) e a ≡ reach_of past e a
reach_of_same past (event.Edit e) a = edit_reach_same past e
reach_of_same past (event.Retry b) a = refl
reach_of_same past (event.LinkUp b) a = flight_reach_same past b (in_flight past b)
reach_of_same past (event.LinkDown b generation) a = flight_reach_same past b (in_flight past b)
reach_of_same past (event.Send b generation) a = refl
reach_of_same past (event.Ask b generation n after) a = refl
reach_of_same past (event.Report b generation m) a = report_reach_same past b a

looked_at_same : (past : Past) (e : Event) → looked_at (folded past) e ≡ looked_at past e
looked_at_same past (event.Ask b generation n after) = refl
looked_at_same past other = refl

reach_same : (past : Past) (e : Event) (r : Result Answer Refusal) → reach (folded past) e r ≡ reach past e r
reach_same past e (Ok a) = ap (λ x. size x + looked_at (folded past) e) (reach_of_same past e a) ∙ ap (λ n. size (reach_of past e a) + n) (looked_at_same past e)
reach_same past e (Err refusal) = ap (λ x. size x + looked_at (folded past) e) (reach_of_same past e answer.Done) ∙ ap (λ n. size (reach_of past e answer.Done) + n) (looked_at_same past e)

-- what is the same after the base of every past is the same after two pasts of one base
through : {A : Type 0} (f : Past → A) → ((past : Past) → f (folded past) ≡ f past) → (p q : Past) → base_of p ≡ base_of q → f p ≡ f q
through f each p q same = sym (each p) ∙ ap (λ (x : Base). f (From x)) same ∙ each q

pub says_the_same : (p q : Past) → base_of p ≡ base_of q → SaysTheSame p q
says_the_same p q same = record {
  parts = same_parts p q same;
  covered = λ a c. ap (λ (x : Base). covers (From x) a c) same;
  wanted = λ b w c. ap (λ (x : Base). wanted (From x) b w c) same;
  planned = λ b c m s. ap (λ (x : Base). planned (From x) b c m s) same;
  links = λ b. ap (λ (x : Base). link_state (From x) b) same;
  table = λ b. ap (λ (x : Base). table (From x) b) same;
  known = λ b c. ap (λ (x : Base). is_known (From x) b c) same;
  actions = λ b w c. ap (λ (x : Base). actions (From x) b w c) same;
  pending = λ b. ap (λ (x : Base). pending (From x) b) same;
  lines = λ k. through (λ past. facts past k) (λ past. facts_same past k) p q same;
  standing = λ b w c. ap (λ (x : Base). stand (From x) b w c) same;
  numbers = λ n. ap (λ (x : Base). board (From x) n) same;
  area_numbers = λ n a. through (λ past. area_board past n a) (λ past. ap (λ r. if is_area past a then r else Err refusal.NoSuchArea) (area_same past a (warning_of (book_of past) n))) p q same;
  answers = λ network. alike network p q same;
  reach = λ e r. through (λ past. reach past e r) (λ past. reach_same past e r) p q same;
  listed_bscs = ap (λ (x : Base). bsc_rows (From x)) same;
  listed_cells = λ b. ap (λ (x : Base). cell_rows (From x) b) same;
  listed_areas = ap (λ (x : Base). area_rows (From x)) same;
  listed_selectors = λ a. ap (λ (x : Base). area_selectors (From x) a) same;
  listed_warnings = ap (λ (x : Base). warning_rows (From x)) same;
  sheets = λ n. ap (λ (x : Base). sheet_of (From x) n) same;
  listed_failed = λ n. ap (λ (x : Base). failed_of (From x) n) same;
  counts = ap (λ (x : Base). plan_counts (From x)) same;
}
