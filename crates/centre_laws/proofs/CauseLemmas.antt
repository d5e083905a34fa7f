-- The causes of each event stand in order, the first of them that holds refuses it, and the plan's are the centre's.
use Rattle.std.proofs.Common.{◌≡◌, ℕ, ◌+◌, ◌*◌, ◌≤◌, Bool, true, false, ◌&&◌, ◌||◌, not, nat_eq, ltb, List, [], ◌∷◌, ◌++◌, Option, Some, None, Result, Ok, Err, arith, refl, sym, ◌∙◌, ap, ap₂, subst}
use Rattle.std.specs.Prelude.{IsOk}
use Rattle.std.proofs.lemmas.Bool.{and_parts, and_from}
use Rattle.std.proofs.lemmas.Bool.Decides.{nat_tests}
use Rattle.std.proofs.lemmas.Grind.{common_steps}
use Rattle.std.specs.List.{list_all}
use Rattle.std.specs.Option.{is_some}
use Rattle.cbsp_messages.specs.declared.message.Message.{Message}
use Rattle.cbsp_messages.specs.declared.message.Message.TheVariants as message
use Rattle.common.specs.CheckLaws.{none_holds}
use Rattle.common.specs.Checks.{first_refusal}
use Rattle.common.specs.Order.{is_ascending}
use Rattle.common.specs.declared.cell.Cell.{Cell}
use Rattle.coverage_plan.specs.declared.edit.Edit.TheVariants as edit
use Rattle.order_maker.specs.Grouping.{first}
use Rattle.order_maker.specs.declared.order.Order.{Order}
use Rattle.warning_book.specs.Book.{current_of, kind_of, warning_of}
use Rattle.warning_book.specs.declared.kind.Kind.{Kind}
use Rattle.warning_book.specs.declared.kind.Kind.TheVariants as kind
use Rattle.warning_book.specs.declared.warning.Warning.{Warning}
use Rattle.centre_events.specs.Asking.{asked_cells, query_of, query_of_kind, version_query, warning_query}
use Rattle.centre_events.specs.InFlight.{in_flight, matches_flight}
use Rattle.centre_events.specs.Past.{Past, position}
use Rattle.centre_events.specs.Pending.{pending}
use Rattle.centre_events.specs.Refusals.{refusal_number}
use Rattle.centre_events.specs.Verdict.{unless, verdict, is_full, answered, send_answer, reply_answer, report_answer, is_out_of_place, retry_checks, link_up_checks, link_checks, send_checks, ask_checks, report_checks}
use Rattle.centre_events.specs.Warnings.{book_of}
use Rattle.centre_events.specs.declared.answer.Answer.{Answer}
use Rattle.centre_events.specs.declared.answer.Answer.TheVariants as answer
use Rattle.centre_events.specs.declared.event.Event.{Event}
use Rattle.centre_events.specs.declared.event.Event.TheVariants as event
use Rattle.centre_events.specs.declared.in_flight.InFlight.{InFlight}
use Rattle.centre_events.specs.declared.network.Network.{Network}
use Rattle.centre_events.specs.declared.refusal.Refusal.{Refusal}
use Rattle.centre_events.specs.declared.refusal.Refusal.TheVariants as refusal
use Rattle.centre_events.specs.declared.settings.Settings.{Settings}
use Rattle.centre_past.proofs.EditCauseLemmas.{Decides, decides_before, decides, done, edit_decides, not_ok, none_of}
use Rattle.centre_past.specs.VerdictLaws.{is_given, is_of_event, verdict_given}
use Rattle.centre_laws.specs.Causes.{limit_place, refusal_place, is_smaller, comes_before, stands_before, is_empty, asks_no_cell, asks_none_of, asks_nothing, event_causes, causes_of, comes_no_earlier, IsFirstCause}

-- The causes stand in order.

pub causes_ascend : (settings : Settings) (past : Past) (e : Event) → is_ascending stands_before (causes_of settings past e) ≡ true
causes_ascend settings past (event.Edit (edit.AddBsc b)) = refl
causes_ascend settings past (event.Edit (edit.RemoveBsc b)) = refl
causes_ascend settings past (event.Edit (edit.AddCell c b)) = refl
causes_ascend settings past (event.Edit (edit.MoveCell c b)) = refl
causes_ascend settings past (event.Edit (edit.RemoveCell c)) = refl
causes_ascend settings past (event.Edit (edit.AddArea a)) = refl
causes_ascend settings past (event.Edit (edit.DropArea a)) = refl
causes_ascend settings past (event.Edit (edit.Put a s)) = refl
causes_ascend settings past (event.Edit (edit.Cut a s)) = refl
causes_ascend settings past (event.Edit (edit.Issue notice areas)) = refl
causes_ascend settings past (event.Edit (edit.Update n content)) = refl
causes_ascend settings past (event.Edit (edit.Widen n a)) = refl
causes_ascend settings past (event.Edit (edit.Narrow n a)) = refl
causes_ascend settings past (event.Edit (edit.Stop n)) = refl
causes_ascend settings past (event.Edit (edit.Forget n)) = refl
causes_ascend settings past (event.Retry b) = refl
causes_ascend settings past (event.LinkUp b) = refl
causes_ascend settings past (event.LinkDown b generation) = refl
causes_ascend settings past (event.Send b generation) = refl
causes_ascend settings past (event.Ask b generation n after) = refl
causes_ascend settings past (event.Report b generation message) = refl

-- Up to 37 they stand in the order of their numbers.

less_apart : (n m : ℕ) → ltb (10 * n) (10 * m) ≡ ltb n m
less_apart n m = step (ltb n m) refl
  where
    step : (t : Bool) → ltb n m ≡ t → ltb (10 * n) (10 * m) ≡ t
    step true h = grind (arith, nat_tests, common_steps)
    step false h = grind (arith, nat_tests, common_steps)

same_apart : (n m : ℕ) → nat_eq (10 * n) (10 * m) ≡ nat_eq n m
same_apart n m = step (nat_eq n m) refl
  where
    step : (t : Bool) → nat_eq n m ≡ t → nat_eq (10 * n) (10 * m) ≡ t
    step true h = grind (arith, nat_tests, common_steps)
    step false h = grind (arith, nat_tests, common_steps)

pub places_are_numbers : (r s : Refusal) → refusal_number r ≤ 37 → refusal_number s ≤ 37 → comes_before r s ≡ is_smaller (refusal_number r) (limit_place r) (refusal_number s) (limit_place s)
places_are_numbers r s low below =
    ap₂ (λ less same. less || (same && ltb (limit_place r) (limit_place s))) (less_apart (refusal_number r) (refusal_number s)) (same_apart (refusal_number r) (refusal_number s))

-- The first cause that holds refuses an event.

-- the causes that follow decide where none of the checks holds
decides_after : (checks rest : List (Bool × Refusal)) (v : Result Answer Refusal) → (first_refusal checks ≡ None → Decides rest v) → Decides (checks ++ rest) (unless checks v)
decides_after [] rest v follow = follow refl
decides_after ((true, r) ∷ checks) rest v follow = record { refused = λ q head. let same : r ≡ q = cc in ap (λ x. Err x) same; accepted = λ none. cc }
decides_after ((false, r) ∷ checks) rest v follow =
    let more : Decides (checks ++ rest) (unless checks v) = decides_after checks rest v follow in
    record { refused = more.refused; accepted = more.accepted }

-- one cause alone
decides_one : (t : Bool) (r : Refusal) (v : Result Answer Refusal) → (t ≡ true → v ≡ Err r) → (t ≡ false → IsOk v) → Decides ((t, r) ∷ []) v
decides_one true r v held free = record { refused = λ q head. let same : r ≡ q = cc in held refl ∙ ap (λ x. Err x) same; accepted = λ none. cc }
decides_one false r v held free = record { refused = λ q head. cc; accepted = λ none. free refl }

-- an order is sent unless nothing is pending
send_decides : (requested : ℕ) (past : Past) (orders : List Order) → Decides ((is_empty orders, refusal.NothingPending) ∷ []) (send_answer requested past (first orders))
send_decides requested past [] = decides_one true refusal.NothingPending (Err refusal.NothingPending) (λ held. refl) (λ free. cc)
send_decides requested past (order ∷ orders) = decides_one false refusal.NothingPending (send_answer requested past (first (order ∷ orders))) (λ held. cc) (λ free. refl)

-- a query goes out unless it names no cell
cells_decide : (m s : ℕ) (cells : List Cell) → Decides ((is_empty cells, refusal.NothingToAsk) ∷ []) (query_of m s cells)
cells_decide m s [] = decides_one true refusal.NothingToAsk (Err refusal.NothingToAsk) (λ held. refl) (λ free. cc)
cells_decide m s (c ∷ cells) = decides_one false refusal.NothingToAsk (query_of m s (c ∷ cells)) (λ held. cc) (λ free. refl)

version_decides : (past : Past) (b m : ℕ) (s : Option ℕ) (after : Option Cell) → Decides ((asks_no_cell past b m s after, refusal.NothingToAsk) ∷ []) (version_query past b m s after)
version_decides past b m None after = decides_one true refusal.NothingToAsk (Err refusal.NothingToAsk) (λ held. refl) (λ free. cc)
version_decides past b m (Some s) after = cells_decide m s (asked_cells past b m s after)

-- nor does one of an emergency warning
kind_decides : (k : Kind) (t : Bool) (query : Result Answer Refusal) → Decides ((t, refusal.NothingToAsk) ∷ []) query → Decides ((asks_none_of k t, refusal.NothingToAsk) ∷ []) (query_of_kind k query)
kind_decides kind.Cbs t query decides = decides
kind_decides kind.Emergency t query decides = decides_one true refusal.NothingToAsk (Err refusal.NothingToAsk) (λ held. refl) (λ free. cc)

query_decides : (past : Past) (b : ℕ) (w : Option Warning) (after : Option Cell) → not (is_some w) ≡ false → Decides ((asks_nothing past b w after, refusal.NothingToAsk) ∷ []) (warning_query past b w after)
query_decides past b None after there = cc
query_decides past b (Some w) after there =
    kind_decides (kind_of w) (asks_no_cell past b w.message_id (current_of w) after) (version_query past b w.message_id (current_of w) after) (version_decides past b w.message_id (current_of w) after)

ask_decides : (past : Past) (b generation n : ℕ) (after : Option Cell) → Decides (event_causes past (event.Ask b generation n after)) (unless (ask_checks past b generation n) (warning_query past b (warning_of (book_of past) n) after))
ask_decides past b generation n after =
    decides_after (ask_checks past b generation n) ((asks_nothing past b (warning_of (book_of past) n) after, refusal.NothingToAsk) ∷ []) (warning_query past b (warning_of (book_of past) n) after)
    (λ none. query_decides past b (warning_of (book_of past) n) after (none_holds (ask_checks past b generation n) none).1.0)

-- a report that is in place is answered
reply_ok : (plmn : List ℕ) (m : Message) (f : Option InFlight) → not (matches_flight m f) ≡ false → IsOk (reply_answer plmn m f)
reply_ok plmn m None there = cc
reply_ok plmn m (Some f) there = refl

report_ok : (plmn : List ℕ) (past : Past) (b : ℕ) (m : Message) (f : Option InFlight) → is_out_of_place m f ≡ false → IsOk (report_answer plmn past b m f)
report_ok plmn past b (message.Restart m) f there = refl
report_ok plmn past b (message.Failure m) f there = refl
report_ok plmn past b m f there = reply_ok plmn m f there

event_decides : (network : Network) (past : Past) (e : Event) → Decides (event_causes past e) (answered network past e)
event_decides network past (event.Edit e) = edit_decides past e
event_decides network past (event.Retry b) = done (retry_checks past b)
event_decides network past (event.LinkUp b) = decides (link_up_checks past b) (Ok (answer.Link (position past + 1))) (λ none. refl)
event_decides network past (event.LinkDown b generation) = done (link_checks past b generation)
event_decides network past (event.Send b generation) =
    decides_after (send_checks past b generation) ((is_empty (pending past b), refusal.NothingPending) ∷ []) (send_answer network.broadcasts past (first (pending past b))) (λ none. send_decides network.broadcasts past (pending past b))
event_decides network past (event.Ask b generation n after) = ask_decides past b generation n after
event_decides network past (event.Report b generation m) =
    decides (report_checks past b generation m) (report_answer network.plmn past b m (in_flight past b))
    (λ none. report_ok network.plmn past b m (in_flight past b) (none_holds (report_checks past b generation m) none).1.1.1.0)

verdict_decides : (settings : Settings) (past : Past) (e : Event) → Decides (causes_of settings past e) (verdict settings past e)
verdict_decides settings past e =
    decides_before (is_full settings past) refusal.JournalFull (event_causes past e) (answered settings.network past e) (event_decides settings.network past e)

-- No cause that holds comes earlier.

asymmetric : (n p m q : ℕ) → is_smaller n p m q ≡ true → is_smaller m q n p ≡ false
asymmetric n p m q less = grind (arith, nat_tests, common_steps)

irreflexive : (n p : ℕ) → is_smaller n p n p ≡ false
irreflexive n p = grind (arith, nat_tests, common_steps)

not_first : (t before : Bool) → before ≡ false → not (t && before) ≡ true
not_first true before none = ap not none
not_first false before none = refl

later : (r : Refusal) (causes : List (Bool × Refusal)) → list_all (stands_before (true, r)) causes ≡ true → list_all (comes_no_earlier r) causes ≡ true
later r [] before = refl
later r ((t, s) ∷ causes) before =
    let parts = and_parts (comes_before r s) (list_all (stands_before (true, r)) causes) before in
    and_from (not (t && comes_before s r)) (list_all (comes_no_earlier r) causes) (not_first t (comes_before s r) (asymmetric (refusal_place r) (limit_place r) (refusal_place s) (limit_place s) parts.0)) (later r causes parts.1)

none_earlier : (causes : List (Bool × Refusal)) (r : Refusal) → is_ascending stands_before causes ≡ true → first_refusal causes ≡ Some r → list_all (comes_no_earlier r) causes ≡ true
none_earlier [] r order head = cc
none_earlier ((true, s) ∷ causes) r order head =
    let same : s ≡ r = cc in
    let parts = and_parts (list_all (stands_before (true, s)) causes) (is_ascending stands_before causes) order in
    subst (λ q. list_all (comes_no_earlier q) ((true, s) ∷ causes) ≡ true) same
    (and_from (not (comes_before s s)) (list_all (comes_no_earlier s) causes) (ap not (irreflexive (refusal_place s) (limit_place s))) (later s causes parts.0))
none_earlier ((false, s) ∷ causes) r order head = none_earlier causes r (and_parts (list_all (stands_before (false, s)) causes) (is_ascending stands_before causes) order).1 head

-- Both ways.

-- a refusal as a verdict
abbrev refused_as : Refusal → Result Answer Refusal
refused_as r = Err r

same_refusal : (v : Result Answer Refusal) (q r : Refusal) → v ≡ Err q → v ≡ Err r → q ≡ r
same_refusal v q r h g = let both : refused_as q ≡ refused_as r = sym h ∙ g in cc

first_of : (causes : List (Bool × Refusal)) (v : Result Answer Refusal) (r : Refusal) → Decides causes v → v ≡ Err r → first_refusal causes ≡ Some r
first_of causes v r given is = step (first_refusal causes) refl
  where
    step : (o : Option Refusal) → first_refusal causes ≡ o → o ≡ Some r
    step None none = absurd (not_ok v r is (given.accepted none))
    step (Some q) head = ap (λ x. Some x) (same_refusal v q r (given.refused q head) is)

pub first_cause : (settings : Settings) (past : Past) (e : Event) → IsFirstCause settings past e
first_cause settings past e = record {
  refused = λ r. (first_of causes v r given, given.refused r);
  earliest = λ r is. none_earlier causes r (causes_ascend settings past e) (first_of causes v r given is);
  accepted = (none_of causes v given, given.accepted);
}
  where
    causes : List (Bool × Refusal)
    causes = causes_of settings past e

    v : Result Answer Refusal
    v = verdict settings past e

    given : Decides causes v
    given = verdict_decides settings past e

-- A verdict is a refusal of what is asked.

pub of_the_event : (settings : Settings) (past : Past) (e : Event) (r : Refusal) → verdict settings past e ≡ Err r → is_of_event r ≡ true
of_the_event settings past e r is = sym (ap is_given is) ∙ verdict_given settings past e
