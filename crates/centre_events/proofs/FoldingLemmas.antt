-- A past comes to the same base however many of its entries were folded, and answers the same.
use Rattle.std.proofs.Common.{◌≡◌, ℕ, List, [], ◌∷◌, ◌++◌, Option, Some, None, reverse, refl, ap, sym, ◌∙◌}
use Rattle.std.proofs.lemmas.List.{reverse-append}
use Rattle.common.specs.declared.cell.Cell.{Cell}
use Rattle.cbsp_messages.specs.declared.message.Message.{Message}
use Rattle.cbsp_messages.specs.declared.message.Message.TheVariants as message
use Rattle.coverage_plan.specs.declared.edit.Edit.{Edit}
use Rattle.coverage_plan.specs.declared.edit.Edit.TheVariants as edit
use Rattle.order_maker.specs.Grouping.{first}
use Rattle.order_maker.specs.declared.order.Order.{Order}
use Rattle.warning_book.specs.Book.{current_of, kind_of, warning_of}
use Rattle.warning_book.specs.declared.warning.Warning.{Warning}
use Rattle.centre_events.specs.Asking.{query_of_kind, version_query, warning_query}
use Rattle.centre_events.specs.Base.{Base, empty_base}
use Rattle.centre_events.specs.Folding.{HasSameParts, base_of, folded, folded_with, onto}
use Rattle.centre_events.specs.InFlight.{in_flight}
use Rattle.centre_events.specs.Past.{Past, From, After, past_of, since}
use Rattle.centre_events.specs.Pending.{pending}
use Rattle.centre_events.specs.Verdict.{answered, ask_checks, edit_answered, report_answer, report_checks, send_answer, send_checks, unless}
use Rattle.centre_events.specs.Warnings.{book_of}
use Rattle.centre_events.specs.declared.entry.Entry.{Entry}
use Rattle.centre_events.specs.declared.event.Event.{Event}
use Rattle.centre_events.specs.declared.event.Event.TheVariants as event
use Rattle.centre_events.specs.declared.in_flight.InFlight.{InFlight}
use Rattle.centre_events.specs.declared.network.Network.{Network}

-- pasts that come to one base have the same parts
pub same_parts : (p q : Past) → base_of p ≡ base_of q → HasSameParts p q
same_parts p q same = record {
  folded = ap (λ (x : Base). x.folded) same;
  bscs = ap (λ (x : Base). x.bscs) same;
  is_bsc = λ b. ap (λ (x : Base). x.is_bsc b) same;
  is_up = λ b. ap (λ (x : Base). x.is_up b) same;
  last_link = λ b. ap (λ (x : Base). x.last_link b) same;
  in_flight = λ b. ap (λ (x : Base). x.in_flight b) same;
  cells = ap (λ (x : Base). x.cells) same;
  place = λ c. ap (λ (x : Base). x.place c) same;
  areas = ap (λ (x : Base). x.areas) same;
  is_area = λ a. ap (λ (x : Base). x.is_area a) same;
  selectors = λ a. ap (λ (x : Base). x.selectors a) same;
  has_selector = λ a s. ap (λ (x : Base). x.has_selector a s) same;
  book = ap (λ (x : Base). x.book) same;
  presence = λ b c m s. ap (λ (x : Base). x.presence b c m s) same;
  hold = λ b c m s. ap (λ (x : Base). x.hold b c m s) same;
  count = λ b c m s. ap (λ (x : Base). x.count b c m s) same;
  is_down = λ k b c. ap (λ (x : Base). x.is_down k b c) same;
}

-- one entry comes to the same, part by part, after the past and after its base
pub parts_one : (e : Entry) (past : Past) → HasSameParts (After e (folded past)) (After e past)
parts_one e past = record {
  folded = refl;
  bscs = refl;
  is_bsc = λ b. refl;
  is_up = λ b. refl;
  last_link = λ b. refl;
  in_flight = λ b. refl;
  cells = refl;
  place = λ c. refl;
  areas = refl;
  is_area = λ a. refl;
  selectors = λ a. refl;
  has_selector = λ a s. refl;
  book = refl;
  presence = λ b c m s. refl;
  hold = λ b c m s. refl;
  count = λ b c m s. refl;
  is_down = λ k b c. refl;
}

-- and so as a whole
pub folded_one : (e : Entry) (past : Past) → base_of (After e past) ≡ folded_with e (base_of past)
folded_one e past = refl

-- so any number of entries does, one after another
pub folded_then : (es : List Entry) (past : Past) → base_of (onto es (folded past)) ≡ base_of (onto es past)
folded_then [] past = refl
folded_then (e ∷ es) past = ap (folded_with e) (folded_then es past)

pub since_onto : (base : Base) (es : List Entry) → since base es ≡ onto es (From base)
since_onto base [] = refl
since_onto base (e ∷ es) = ap (After e) (since_onto base es)

pub onto_more : (xs ys : List Entry) (past : Past) → onto (xs ++ ys) past ≡ onto xs (onto ys past)
onto_more [] ys past = refl
onto_more (x ∷ xs) ys past = ap (After x) (onto_more xs ys past)

-- the past of two journals, one after the other
pub past_joined : (xs ys : List Entry) → past_of (xs ++ ys) ≡ onto (reverse ys) (past_of xs)
past_joined xs ys =
    ap (since empty_base) (reverse-append xs ys)
    ∙ since_onto empty_base (reverse ys ++ reverse xs)
    ∙ onto_more (reverse ys) (reverse xs) (From empty_base)
    ∙ ap (onto (reverse ys)) (sym (since_onto empty_base (reverse xs)))

-- where the entries of the first are folded, it comes to the same
pub past_whole : (xs ys : List Entry) → base_of (since (base_of (past_of xs)) (reverse ys)) ≡ base_of (past_of (xs ++ ys))
past_whole xs ys =
    ap base_of (since_onto (base_of (past_of xs)) (reverse ys)) ∙ folded_then (reverse ys) (past_of xs) ∙ ap base_of (sym (past_joined xs ys))

-- What an event is answered after the base of a past.

edit_same : (past : Past) (e : Edit) → edit_answered (folded past) e ≡ edit_answered past e
edit_same past (edit.AddBsc b) = refl
edit_same past (edit.RemoveBsc b) = refl
edit_same past (edit.AddCell c b) = refl
edit_same past (edit.MoveCell c b) = refl
edit_same past (edit.RemoveCell c) = refl
edit_same past (edit.AddArea a) = refl
edit_same past (edit.DropArea a) = refl
edit_same past (edit.Put a s) = refl
edit_same past (edit.Cut a s) = refl
edit_same past (edit.Issue notice areas) = refl
edit_same past (edit.Update n content) = refl
edit_same past (edit.Widen n a) = refl
edit_same past (edit.Narrow n a) = refl
edit_same past (edit.Stop n) = refl
edit_same past (edit.Forget n) = refl

version_same : (past : Past) (b m : ℕ) (s : Option ℕ) (after : Option Cell) → version_query (folded past) b m s after ≡ version_query past b m s after
version_same past b m None after = refl
version_same past b m (Some s) after = refl

query_same : (past : Past) (b : ℕ) (o : Option Warning) (after : Option Cell) → warning_query (folded past) b o after ≡ warning_query past b o after
query_same past b None after = refl
query_same past b (Some w) after = ap (query_of_kind (kind_of w)) (version_same past b w.message_id (current_of w) after)

send_same : (requested : ℕ) (past : Past) (o : Option Order) → send_answer requested (folded past) o ≡ send_answer requested past o
send_same requested past None = refl
send_same requested past (Some order) = refl

report_same : (plmn : List ℕ) (past : Past) (b : ℕ) (m : Message) (f : Option InFlight) → report_answer plmn (folded past) b m f ≡ report_answer plmn past b m f
report_same plmn past b (message.Restart m) f = refl
report_same plmn past b (message.Failure m) f = refl
report_same plmn past b m f = refl

pub answered_same : (network : Network) (past : Past) (e : Event) → answered network (folded past) e ≡ answered network past e
answered_same network past (event.Edit e) = edit_same past e
answered_same network past (event.Retry b) = refl
answered_same network past (event.LinkUp b) = refl
answered_same network past (event.LinkDown b generation) = refl
answered_same network past (event.Send b generation) = ap (unless (send_checks past b generation)) (send_same network.broadcasts past (first (pending past b)))
answered_same network past (event.Ask b generation n after) = ap (unless (ask_checks past b generation n)) (query_same past b (warning_of (book_of past) n) after)
answered_same network past (event.Report b generation m) = ap (unless (report_checks past b generation m)) (report_same network.plmn past b m (in_flight past b))

-- pasts that come to one base answer alike
pub alike : (network : Network) (p q : Past) → base_of p ≡ base_of q → (e : Event) → answered network p e ≡ answered network q e
alike network p q same e =
    sym (answered_same network p e) ∙ ap (λ (x : Base). answered network (From x) e) same ∙ answered_same network q e
