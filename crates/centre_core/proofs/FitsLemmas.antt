-- The messages that are sent fit, since an order or a query names at most 1,000 cells and a content has 1 to 15 pages; and
-- they carry their orders.
use Rattle.std.proofs.Common.{◌≡◌, ℕ, ◌+◌, ◌*◌, ◌<◌, ◌≤◌, Bool, true, ◌&&◌, not, List, [], ◌∷◌, Option, Some, None, Result, Ok, Err, nat_le, length, take, map, refl, sym, ap, subst, ◌∙◌, arith, length-append, lit≤}
use Rattle.std.specs.Prelude.{IfOk, IfSome, if◌then◌else◌}
use Rattle.std.specs.List.{list_any, flat_map}
use Rattle.std.proofs.lemmas.Bool.{leb-true, and_parts}
use Rattle.std.proofs.lemmas.List.{length-take, length-map}
use Rattle.cbsp_ie.specs.CellId.{id_octets}
use Rattle.cbsp_ie.specs.Identifications.{id_of_cell}
use Rattle.cbsp_ie.specs.Written.{cells_octets}
use Rattle.cbsp_messages.specs.Message.{type_of}
use Rattle.cbsp_messages.specs.PageText.{page_with}
use Rattle.cbsp_messages.specs.Written.{Fits}
use Rattle.cbsp_messages.specs.declared.message.Message.{Message}
use Rattle.cbsp_messages.specs.declared.message.Message.TheVariants.{Restart, Failure}
use Rattle.cbsp_messages.specs.declared.message_type.MessageType.TheVariants as type
use Rattle.common.specs.declared.cell.Cell.{Cell}
use Rattle.warning_book.specs.Book.{new_serial, next_serial, content_of}
use Rattle.warning_book.specs.Content.{is_page, are_pages, have_pages}
use Rattle.warning_book.specs.Sound.{IsSound}
use Rattle.warning_book.specs.declared.content.Content.{Content}
use Rattle.warning_book.specs.declared.content.Content.TheVariants as contents
use Rattle.centre_past.proofs.AskLemmas.{IsQuery, ask_query}
use Rattle.centre_answers.proofs.CarriedLemmas.{sent_carriable}
use Rattle.centre_past.proofs.CheckLemmas.{unless_ok}
use Rattle.centre_past.proofs.UniqueLemmas.{verdict_answered}
use Rattle.centre_past.proofs.WarningLemmas.{content_has_pages, legal_sound}
use Rattle.centre_events.specs.Asking.{asked_cells, on_air_after}
use Rattle.centre_past.specs.Fits.{AnswerFits, IsCarried}
use Rattle.order_maker.specs.Grouping.{first, most_cells}
use Rattle.centre_events.specs.InFlight.{in_flight, is_kill}
use Rattle.centre_past.specs.Legal.{Lawful, lasting}
use Rattle.centre_past.proofs.LawfulLemmas.{whole}
use Rattle.centre_events.specs.Base.{Base}
use Rattle.centre_events.specs.OrderMessage.{IsCarriable, given_content, listed, message_by, write_message}
use Rattle.centre_events.specs.Past.{Past, position}
use Rattle.centre_events.specs.Pending.{pending}
use Rattle.centre_events.specs.Verdict.{unless, answered, edit_answered, verdict, add_bsc_checks, remove_bsc_checks, add_cell_checks, move_cell_checks, remove_cell_checks, add_area_checks, drop_area_checks, put_checks, cut_checks, issue_checks, issue_answer, update_checks, update_answer, widen_checks, narrow_checks, stop_checks, forget_checks, retry_checks, link_up_checks, link_checks, send_checks, send_answer, report_checks, reply_answer, report_answer}
use Rattle.centre_events.specs.Warnings.{book_of, warnings_of}
use Rattle.centre_events.specs.declared.answer.Answer.{Answer}
use Rattle.centre_events.specs.declared.answer.Answer.TheVariants.{Done, Link, Issued, Updated, Replied, Listed}
use Rattle.coverage_plan.specs.declared.edit.Edit.{Edit}
use Rattle.coverage_plan.specs.declared.edit.Edit.TheVariants as edit
use Rattle.centre_events.specs.declared.event.Event.{Event}
use Rattle.centre_events.specs.declared.event.Event.TheVariants as event
use Rattle.centre_events.specs.declared.in_flight.InFlight.{InFlight}
use Rattle.centre_events.specs.declared.network.Network.{Network}
use Rattle.order_maker.specs.declared.order.Order.{Order}
use Rattle.order_maker.specs.declared.order_kind.OrderKind.{OrderKind}
use Rattle.order_maker.specs.declared.order_kind.OrderKind.TheVariants.{Write, Replace, Kill}
use Rattle.centre_events.specs.declared.refusal.Refusal.{Refusal}
use Rattle.centre_events.specs.declared.reply.Reply.{Reply}
use Rattle.centre_events.specs.declared.settings.Settings.{Settings}

-- a cell takes four octets of a list
listed_length : (cells : List Cell) → length (flat_map id_octets (map id_of_cell cells)) ≡ 4 * length cells
listed_length [] = refl
listed_length (c ∷ cells) =
    length-append (id_octets (id_of_cell c)) (flat_map id_octets (map id_of_cell cells)) ∙ (let four : length (id_octets (id_of_cell c)) ≡ 4 = refl in omega (arith, four, listed_length cells))

listed_fits : (cells : List Cell) → length cells ≤ 1000 → length (cells_octets (listed cells)) < 65536
listed_fits cells h = omega (arith, listed_length cells)

pages_fit : (pages : List (List ℕ)) → are_pages pages ≡ true → (1 ≤ length (map page_with pages)) × (length (map page_with pages) ≤ 15)
pages_fit pages h =
    let count = (and_parts (nat_le 1 (length pages) && nat_le (length pages) 15) (not (list_any (λ page. not (is_page page)) pages)) h).0 in
    let parts = and_parts (nat_le 1 (length pages)) (nat_le (length pages) 15) count in
    let low : 1 ≤ length pages = leb-true 1 (length pages) parts.0 in
    let high : length pages ≤ 15 = leb-true (length pages) 15 parts.1 in
    (omega (arith, length-map pages page_with), omega (arith, length-map pages page_with))

cells_fit : (order : Order) → length order.cells ≤ 1000 → length (cells_octets (listed order.cells)) < 65536
cells_fit order few = listed_fits order.cells few

write_fits : (requested : ℕ) (order : Order) (old : Option ℕ) (content : Content) → length order.cells ≤ 1000 → have_pages content ≡ true → Fits (write_message requested order old content)
write_fits requested order old (contents.Cbs c) few good = record { cells = cells_fit order few; counts = tt; failures = tt; pages = pages_fit c.pages good }
write_fits requested order old (contents.Emergency c) few good = record { cells = cells_fit order few; counts = tt; failures = tt; pages = tt }

message_fits : (requested : ℕ) (order : Order) (kind : OrderKind) (content : Option Content) → length order.cells ≤ 1000 → IsCarriable content → IfSome content (λ c. have_pages c ≡ true) → Fits (message_by requested order kind content)
message_fits requested order Write (Some content) few there good = write_fits requested order None content few good
message_fits requested order (Replace old) (Some content) few there good = write_fits requested order (Some old) content few good
message_fits requested order Kill content few there good = record { cells = cells_fit order few; counts = tt; failures = tt; pages = tt }
message_fits requested order Write None few there good = cc
message_fits requested order (Replace old) None few there good = cc

write_carries : (requested : ℕ) (order : Order) (old : Option ℕ) (content : Content) → type_of (write_message requested order old content) ≡ type.WriteReplace
write_carries requested order old (contents.Cbs c) = refl
write_carries requested order old (contents.Emergency c) = refl

-- a KILL carries a kill, and a WRITE-REPLACE a write
message_carries : (requested : ℕ) (order : Order) (kind : OrderKind) (content : Option Content) → type_of (message_by requested order kind content) ≡ (if is_kill kind then type.Kill else type.WriteReplace)
message_carries requested order Write content = write_carries requested order None (given_content content)
message_carries requested order (Replace old) content = write_carries requested order (Some old) (given_content content)
message_carries requested order Kill content = refl

few_cells : most_cells ≤ 1000
unfolding most_cells
few_cells = lit≤ tt

take_few : (n : ℕ) (cells : List Cell) → length (take n cells) ≤ n
take_few n cells = omega (arith, length-take n cells)

first_is_short : (orders : List Order) → IfSome (first orders) (λ order. length order.cells ≤ 1000)
first_is_short [] = tt
first_is_short (order ∷ orders) = omega (arith, few_cells, take_few most_cells order.cells)

-- The first pending order, if there is one.

send_fits : (requested : ℕ) (past : Past) (next : Option Order) → IsSound (book_of past) → IfSome next (λ o. length o.cells ≤ 1000) → IfSome next (λ (o : Order). IsCarriable (content_of o.message_id o.serial (warnings_of past))) → IfOk (send_answer requested past next) AnswerFits
send_fits requested past None good few there = tt
send_fits requested past (Some o) good few there = message_fits requested o o.kind (content_of o.message_id o.serial (warnings_of past)) few there (content_has_pages o.message_id o.serial (warnings_of past) good.contents)

send_carries : (requested : ℕ) (past : Past) (next : Option Order) → IfOk (send_answer requested past next) IsCarried
send_carries requested past None = tt
send_carries requested past (Some o) = message_carries requested o o.kind (content_of o.message_id o.serial (warnings_of past))

-- A query, which names no more cells.

query_fits : (past : Past) (b : ℕ) (a : Answer) → IsQuery past b a → AnswerFits a
query_fits past b a query =
    subst AnswerFits (sym query.is)
    (record { cells = listed_fits cells (omega (arith, few_cells, take_few most_cells (on_air_after past b query.warning.message_id query.serial query.after))); counts = tt; failures = tt; pages = tt })
  where
    cells : List Cell
    cells = asked_cells past b query.warning.message_id query.serial query.after

query_carries : (past : Past) (b : ℕ) (a : Answer) → IsQuery past b a → IsCarried a
query_carries past b a query = subst IsCarried (sym query.is) refl

-- The other answers have no message.

-- what holds of each answer without a message
record OfPlain (P : Answer → Type 0) : Type 0 where
  done : P Done
  link : (generation : ℕ) → P (Link generation)
  issued : (n s : ℕ) → P (Issued n s)
  updated : (s : ℕ) → P (Updated s)
  replied : (replies : List Reply) → P (Replied replies)
  listed : (cells : List Cell) → P (Listed cells)

-- what holds of the answer after checks holds of what is answered
holds_after : (P : Answer → Type 0) (checks : List (Bool × Refusal)) (r : Result Answer Refusal) (a : Answer) → IfOk r P → unless checks r ≡ Ok a → P a
holds_after P checks r a h e = subst (λ v. IfOk v P) (unless_ok checks r a e) h

of_issue : (P : Answer → Type 0) → OfPlain P → (n : ℕ) (o : Option ℕ) → IfOk (issue_answer n o) P
of_issue P plain n None = tt
of_issue P plain n (Some s) = plain.issued n s

of_update : (P : Answer → Type 0) → OfPlain P → (o : Option ℕ) → IfOk (update_answer o) P
of_update P plain None = plain.done
of_update P plain (Some s) = plain.updated s

of_reply : (P : Answer → Type 0) → OfPlain P → (plmn : List ℕ) (reply : Message) (o : Option InFlight) → IfOk (reply_answer plmn reply o) P
of_reply P plain plmn reply None = tt
of_reply P plain plmn reply (Some f) = plain.replied _

of_report : (P : Answer → Type 0) → OfPlain P → (plmn : List ℕ) (past : Past) (b : ℕ) (report : Message) (o : Option InFlight) → IfOk (report_answer plmn past b report o) P
of_report P plain plmn past b (Restart m) o = plain.listed _
of_report P plain plmn past b (Failure m) o = plain.listed _
of_report P plain plmn past b other o = of_reply P plain plmn other o

-- an edit is answered without a message
of_edit : (P : Answer → Type 0) → OfPlain P → (past : Past) (e : Edit) (a : Answer) → edit_answered past e ≡ Ok a → P a
of_edit P plain past (edit.AddBsc b) a h = holds_after P (add_bsc_checks past b) (Ok Done) a plain.done h
of_edit P plain past (edit.RemoveBsc b) a h = holds_after P (remove_bsc_checks past b) (Ok Done) a plain.done h
of_edit P plain past (edit.AddCell c b) a h = holds_after P (add_cell_checks past c b) (Ok Done) a plain.done h
of_edit P plain past (edit.MoveCell c b) a h = holds_after P (move_cell_checks past c b) (Ok Done) a plain.done h
of_edit P plain past (edit.RemoveCell c) a h = holds_after P (remove_cell_checks past c) (Ok Done) a plain.done h
of_edit P plain past (edit.AddArea x) a h = holds_after P (add_area_checks past x) (Ok Done) a plain.done h
of_edit P plain past (edit.DropArea x) a h = holds_after P (drop_area_checks past x) (Ok Done) a plain.done h
of_edit P plain past (edit.Put x s) a h = holds_after P (put_checks past x s) (Ok Done) a plain.done h
of_edit P plain past (edit.Cut x s) a h = holds_after P (cut_checks past x s) (Ok Done) a plain.done h
of_edit P plain past (edit.Issue notice areas) a h =
    holds_after P (issue_checks past notice areas) (issue_answer ((book_of past).issued + 1) (new_serial (book_of past) notice)) a (of_issue P plain ((book_of past).issued + 1) (new_serial (book_of past) notice)) h
of_edit P plain past (edit.Update n content) a h =
    holds_after P (update_checks past n content) (update_answer (next_serial (book_of past) n)) a (of_update P plain (next_serial (book_of past) n)) h
of_edit P plain past (edit.Widen n x) a h = holds_after P (widen_checks past n x) (Ok Done) a plain.done h
of_edit P plain past (edit.Narrow n x) a h = holds_after P (narrow_checks past n x) (Ok Done) a plain.done h
of_edit P plain past (edit.Stop n) a h = holds_after P (stop_checks past n) (Ok Done) a plain.done h
of_edit P plain past (edit.Forget n) a h = holds_after P (forget_checks past n) (Ok Done) a plain.done h

-- what holds of each answer without a message, of what a Send is answered and of each query holds of every answer
of_answer : (P : Answer → Type 0) → OfPlain P → (network : Network) (past : Past) → ((b : ℕ) → IfOk (send_answer network.broadcasts past (first (pending past b))) P) → ((b : ℕ) (a : Answer) → IsQuery past b a → P a) → (e : Event) (a : Answer) → answered network past e ≡ Ok a → P a
of_answer P plain network past sent asked (event.Edit e) a h = of_edit P plain past e a h
of_answer P plain network past sent asked (event.Retry b) a h = holds_after P (retry_checks past b) (Ok Done) a plain.done h
of_answer P plain network past sent asked (event.LinkUp b) a h = holds_after P (link_up_checks past b) (Ok (Link (position past + 1))) a (plain.link (position past + 1)) h
of_answer P plain network past sent asked (event.LinkDown b generation) a h = holds_after P (link_checks past b generation) (Ok Done) a plain.done h
of_answer P plain network past sent asked (event.Send b generation) a h = holds_after P (send_checks past b generation) (send_answer network.broadcasts past (first (pending past b))) a (sent b) h
of_answer P plain network past sent asked (event.Ask b generation n after) a h = asked b a (ask_query past b generation n after a h)
of_answer P plain network past sent asked (event.Report b generation report) a h =
    holds_after P (report_checks past b generation report) (report_answer network.plmn past b report (in_flight past b)) a (of_report P plain network.plmn past b report (in_flight past b)) h

answer_fits : (network : Network) (past : Past) (e : Event) (answer : Answer) → IsSound (book_of past) → answered network past e ≡ Ok answer → AnswerFits answer
answer_fits network past e answer good h =
    of_answer AnswerFits (record { done = tt; link = λ n. tt; issued = λ n s. tt; updated = λ s. tt; replied = λ replies. tt; listed = λ cells. tt }) network past
    (λ b. send_fits network.broadcasts past (first (pending past b)) good (first_is_short (pending past b)) (sent_carriable past b (book_of past) (pending past b) (first (pending past b)) refl refl refl))
    (query_fits past) e answer h

answer_carried : (network : Network) (past : Past) (e : Event) (answer : Answer) → answered network past e ≡ Ok answer → IsCarried answer
answer_carried network past e answer h =
    of_answer IsCarried (record { done = tt; link = λ n. tt; issued = λ n s. tt; updated = λ s. tt; replied = λ replies. tt; listed = λ cells. tt }) network past
    (λ b. send_carries network.broadcasts past (first (pending past b))) (query_carries past) e answer h

-- the book of a lawful past is that of a legal one
lawful_sound : (settings : Settings) (past : Past) → Lawful settings past → IsSound (book_of past)
lawful_sound settings past lawful =
    let w = whole settings past lawful in
    subst IsSound (ap (λ (x : Base). x.book) w.same) (legal_sound (lasting settings.network) w.full w.legal)

-- what an event is answered after a lawful past fits
pub verdict_fits : (settings : Settings) (past : Past) (e : Event) (answer : Answer) → Lawful settings past → verdict settings past e ≡ Ok answer → AnswerFits answer
verdict_fits settings past e answer lawful h =
    answer_fits settings.network past e answer (lawful_sound settings past lawful) (verdict_answered settings past e answer h)

-- and carries its order
pub verdict_carried : (settings : Settings) (past : Past) (e : Event) (answer : Answer) → verdict settings past e ≡ Ok answer → IsCarried answer
verdict_carried settings past e answer h = answer_carried settings.network past e answer (verdict_answered settings past e answer h)

-- the same of what is answered, if the event is accepted
pub fits_if : (settings : Settings) (past : Past) (e : Event) (r : Result Answer Refusal) → Lawful settings past → IfOk r (λ a. verdict settings past e ≡ Ok a) → IfOk r AnswerFits
fits_if settings past e (Ok a) lawful h = verdict_fits settings past e a lawful h
fits_if settings past e (Err x) lawful h = tt

pub carried_if : (settings : Settings) (past : Past) (e : Event) (r : Result Answer Refusal) → IfOk r (λ a. verdict settings past e ≡ Ok a) → IfOk r IsCarried
carried_if settings past e (Ok a) h = verdict_carried settings past e a h
carried_if settings past e (Err x) h = tt
