-- A verdict is never that the centre is stale, nor that it is out of memory, nor that a desk isn't the one it was.
use Rattle.std.proofs.Common.{◌≡◌, ℕ, ◌+◌, Bool, true, false, ◌&&◌, Option, Some, None, Result, Ok, Err, List, [], ◌∷◌, refl, sym, ap, ◌∙◌, if◌then◌else◌}
use Rattle.cbsp_messages.specs.declared.message.Message.{Message}
use Rattle.cbsp_messages.specs.declared.message.Message.TheVariants as message
use Rattle.common.specs.declared.cell.Cell.{Cell}
use Rattle.centre_events.specs.Asking.{asked_cells, query_of, query_of_kind, version_query, warning_query}
use Rattle.centre_events.specs.InFlight.{in_flight}
use Rattle.centre_events.specs.Past.{Past, position}
use Rattle.centre_events.specs.Pending.{pending}
use Rattle.centre_events.specs.Verdict.{add_area_checks, add_bsc_checks, add_cell_checks, answered, ask_checks, cut_checks, drop_area_checks, edit_answered, forget_checks, is_full, issue_answer, issue_checks, link_checks, link_up_checks, move_cell_checks, narrow_checks, put_checks, remove_bsc_checks, remove_cell_checks, reply_answer, report_answer, report_checks, retry_checks, send_answer, send_checks, stop_checks, unless, update_answer, update_checks, verdict, widen_checks}
use Rattle.centre_events.specs.Warnings.{book_of}
use Rattle.centre_events.specs.declared.answer.Answer.{Answer}
use Rattle.centre_events.specs.declared.answer.Answer.TheVariants as answer
use Rattle.coverage_plan.specs.declared.edit.Edit.{Edit}
use Rattle.coverage_plan.specs.declared.edit.Edit.TheVariants as edit
use Rattle.centre_events.specs.declared.event.Event.{Event}
use Rattle.centre_events.specs.declared.event.Event.TheVariants as event
use Rattle.centre_events.specs.declared.in_flight.InFlight.{InFlight}
use Rattle.centre_events.specs.declared.network.Network.{Network}
use Rattle.centre_events.specs.declared.refusal.Refusal.{Refusal}
use Rattle.centre_events.specs.declared.refusal.Refusal.TheVariants as refusal
use Rattle.centre_events.specs.declared.settings.Settings.{Settings}
use Rattle.order_maker.specs.Grouping.{first}
use Rattle.order_maker.specs.declared.order.Order.{Order}
use Rattle.warning_book.specs.Book.{current_of, kind_of, new_serial, next_serial, warning_of}
use Rattle.warning_book.specs.declared.kind.Kind.{Kind}
use Rattle.warning_book.specs.declared.kind.Kind.TheVariants as kind
use Rattle.warning_book.specs.declared.warning.Warning.{Warning}

-- the refusal is one of what is asked, and not of the centre's own state or of a desk's
abbrev pub is_of_event : Refusal → Bool
is_of_event refusal.Stale = false
is_of_event refusal.Memory = false
is_of_event (refusal.WrongDesk position) = false
is_of_event other = true

-- an answer, or such a refusal
abbrev pub is_given : Result Answer Refusal → Bool
is_given (Ok a) = true
is_given (Err r) = is_of_event r

-- each check has such a refusal
abbrev are_of_event : List (Bool × Refusal) → Bool
are_of_event [] = true
are_of_event (check ∷ checks) = is_of_event check.1 && are_of_event checks

both_left : (a b : Bool) → a && b ≡ true → a ≡ true
both_left true b h = refl
both_left false b h = cc h

both_right : (a b : Bool) → a && b ≡ true → b ≡ true
both_right true b h = h
both_right false b h = cc h

unless_given : (checks : List (Bool × Refusal)) (a : Result Answer Refusal) → are_of_event checks ≡ true → is_given a ≡ true → is_given (unless checks a) ≡ true
unless_given [] a each last = last
unless_given ((true, r) ∷ checks) a each last = both_left (is_of_event r) (are_of_event checks) each
unless_given ((false, r) ∷ checks) a each last = unless_given checks a (both_right (is_of_event r) (are_of_event checks) each) last

issue_given : (n : ℕ) (s : Option ℕ) → is_given (issue_answer n s) ≡ true
issue_given n None = refl
issue_given n (Some s) = refl

update_given : (s : Option ℕ) → is_given (update_answer s) ≡ true
update_given None = refl
update_given (Some s) = refl

send_given : (requested : ℕ) (past : Past) (o : Option Order) → is_given (send_answer requested past o) ≡ true
send_given requested past None = refl
send_given requested past (Some o) = refl

query_given : (m s : ℕ) (cs : List Cell) → is_given (query_of m s cs) ≡ true
query_given m s [] = refl
query_given m s (c ∷ cs) = refl

version_given : (past : Past) (b m : ℕ) (s : Option ℕ) (after : Option Cell) → is_given (version_query past b m s after) ≡ true
version_given past b m None after = refl
version_given past b m (Some s) after = query_given m s (asked_cells past b m s after)

warning_given : (past : Past) (b : ℕ) (w : Option Warning) (after : Option Cell) → is_given (warning_query past b w after) ≡ true
warning_given past b None after = refl
warning_given past b (Some w) after = by_kind (kind_of w)
  where
    by_kind : (k : Kind) → is_given (query_of_kind k (version_query past b w.message_id (current_of w) after)) ≡ true
    by_kind kind.Cbs = version_given past b w.message_id (current_of w) after
    by_kind kind.Emergency = refl

reply_given : (plmn : List ℕ) (m : Message) (f : Option InFlight) → is_given (reply_answer plmn m f) ≡ true
reply_given plmn m None = refl
reply_given plmn m (Some f) = refl

report_given : (plmn : List ℕ) (past : Past) (b : ℕ) (m : Message) (f : Option InFlight) → is_given (report_answer plmn past b m f) ≡ true
report_given plmn past b (message.Restart m) f = refl
report_given plmn past b (message.Failure m) f = refl
report_given plmn past b m f = reply_given plmn m f

edit_given : (past : Past) (e : Edit) → is_given (edit_answered past e) ≡ true
edit_given past (edit.AddBsc b) = unless_given (add_bsc_checks past b) (Ok answer.Done) refl refl
edit_given past (edit.RemoveBsc b) = unless_given (remove_bsc_checks past b) (Ok answer.Done) refl refl
edit_given past (edit.AddCell c b) = unless_given (add_cell_checks past c b) (Ok answer.Done) refl refl
edit_given past (edit.MoveCell c b) = unless_given (move_cell_checks past c b) (Ok answer.Done) refl refl
edit_given past (edit.RemoveCell c) = unless_given (remove_cell_checks past c) (Ok answer.Done) refl refl
edit_given past (edit.AddArea a) = unless_given (add_area_checks past a) (Ok answer.Done) refl refl
edit_given past (edit.DropArea a) = unless_given (drop_area_checks past a) (Ok answer.Done) refl refl
edit_given past (edit.Put a s) = unless_given (put_checks past a s) (Ok answer.Done) refl refl
edit_given past (edit.Cut a s) = unless_given (cut_checks past a s) (Ok answer.Done) refl refl
edit_given past (edit.Issue notice areas) = unless_given (issue_checks past notice areas) (issue_answer ((book_of past).issued + 1) (new_serial (book_of past) notice)) refl (issue_given ((book_of past).issued + 1) (new_serial (book_of past) notice))
edit_given past (edit.Update n content) = unless_given (update_checks past n content) (update_answer (next_serial (book_of past) n)) refl (update_given (next_serial (book_of past) n))
edit_given past (edit.Widen n a) = unless_given (widen_checks past n a) (Ok answer.Done) refl refl
edit_given past (edit.Narrow n a) = unless_given (narrow_checks past n a) (Ok answer.Done) refl refl
edit_given past (edit.Stop n) = unless_given (stop_checks past n) (Ok answer.Done) refl refl
edit_given past (edit.Forget n) = unless_given (forget_checks past n) (Ok answer.Done) refl refl

event_given : (network : Network) (past : Past) (e : Event) → is_given (answered network past e) ≡ true
event_given network past (event.Edit e) = edit_given past e
event_given network past (event.Retry b) = unless_given (retry_checks past b) (Ok answer.Done) refl refl
event_given network past (event.LinkUp b) = unless_given (link_up_checks past b) (Ok (answer.Link (position past + 1))) refl refl
event_given network past (event.LinkDown b generation) = unless_given (link_checks past b generation) (Ok answer.Done) refl refl
event_given network past (event.Send b generation) = unless_given (send_checks past b generation) (send_answer network.broadcasts past (first (pending past b))) refl (send_given network.broadcasts past (first (pending past b)))
event_given network past (event.Ask b generation n after) = unless_given (ask_checks past b generation n) (warning_query past b (warning_of (book_of past) n) after) refl (warning_given past b (warning_of (book_of past) n) after)
event_given network past (event.Report b generation m) =
    unless_given (report_checks past b generation m) (report_answer network.plmn past b m (in_flight past b)) refl (report_given network.plmn past b m (in_flight past b))

pub verdict_given : (settings : Settings) (past : Past) (e : Event) → is_given (verdict settings past e) ≡ true
verdict_given settings past e =
    elim (is_full settings past) as (λ b. is_given (if b then Err refusal.JournalFull else answered settings.network past e) ≡ true) [
      | true ↦ refl
      | false ↦ event_given settings.network past e
    ]

-- so it is never that the centre is stale
pub verdict_is_no_stale : (settings : Settings) (past : Past) (e : Event) → verdict settings past e ≡ Err refusal.Stale → ⊥
verdict_is_no_stale settings past e is = cc (sym (verdict_given settings past e) ∙ ap is_given is)

-- nor is it that memory ran out
pub verdict_is_no_want : (settings : Settings) (past : Past) (e : Event) → verdict settings past e ≡ Err refusal.Memory → ⊥
verdict_is_no_want settings past e is = cc (sym (verdict_given settings past e) ∙ ap is_given is)

-- nor is it that a desk isn't as it is known
pub verdict_is_no_wrong_desk : (settings : Settings) (past : Past) (e : Event) (position : ℕ) → verdict settings past e ≡ Err (refusal.WrongDesk position) → ⊥
verdict_is_no_wrong_desk settings past e position is = cc (sym (verdict_given settings past e) ∙ ap is_given is)
