-- A cell that has a place, or stands in an order in flight, was registered once.
use Rattle.std.proofs.Common.{◌≡◌, ℕ, zero, suc, Bool, true, false, ◌&&◌, ◌||◌, nat_eq, List, [], ◌∷◌, Option, Some, None, Ok, unwrap_or, take, filter, refl, sym, ◌∙◌, ap, subst, cond, eqb-true, eq-eqb}
use Rattle.std.specs.Prelude.{if◌then◌else◌}
use Rattle.std.specs.List.{list_any}
use Rattle.std.specs.Option.{option_map}
use Rattle.cell_register.specs.Register.{is_place}
use Rattle.common.specs.Cell.{cell_eq, cell_lt}
use Rattle.common.specs.Equality.{cell_decides}
use Rattle.common.specs.SortingLaws.{any_sorted}
use Rattle.common.specs.declared.cell.Cell.{Cell}
use Rattle.warning_book.specs.Book.{content_of}
use Rattle.warning_book.specs.declared.warning.Warning.{Warning}
use Rattle.centre_events.specs.Asking.{is_asked, on_air_after}
use Rattle.centre_events.specs.Base.{Base, empty_base}
use Rattle.centre_events.specs.Effects.{is_among}
use Rattle.order_maker.specs.Grouping.{first, most_cells}
use Rattle.centre_events.specs.InFlight.{in_flight, flight_mark, sent_flight, asked_flight, is_replied, cells_of}
use Rattle.centre_past.specs.Legal.{Legal}
use Rattle.centre_events.specs.Lines.{seen}
use Rattle.centre_events.specs.Links.{is_up}
use Rattle.centre_events.specs.OrderMessage.{order_message}
use Rattle.centre_events.specs.Past.{Past, From, After, IsUnfolded, by_edit, with_new}
use Rattle.centre_events.specs.Pending.{pending}
use Rattle.centre_events.specs.Places.{place, place_mark, added_cell, cells}
use Rattle.centre_events.specs.Verdict.{verdict, send_checks, send_answer}
use Rattle.centre_events.specs.Warnings.{warnings_of}
use Rattle.centre_events.specs.declared.answer.Answer.{Answer}
use Rattle.centre_events.specs.declared.answer.Answer.TheVariants.{Sent}
use Rattle.coverage_plan.specs.declared.edit.Edit.{Edit}
use Rattle.coverage_plan.specs.declared.edit.Edit.TheVariants as edit
use Rattle.centre_events.specs.declared.event.Event.{Event}
use Rattle.centre_events.specs.declared.event.Event.TheVariants as event
use Rattle.centre_events.specs.declared.in_flight.InFlight.{InFlight}
use Rattle.centre_events.specs.declared.in_flight.InFlight.TheVariants as flight
use Rattle.centre_events.specs.declared.settings.Settings.{Settings}
use Rattle.order_maker.specs.declared.order.Order.{Order}
use Rattle.order_maker.specs.declared.order_kind.OrderKind.{OrderKind}
use Rattle.centre_past.proofs.ActingLemmas.{does, any_all}
use Rattle.centre_past.proofs.AnyLemmas.{any_filter}
use Rattle.centre_past.proofs.AskLemmas.{IsQuery, ask_query}
use Rattle.centre_past.proofs.CheckLemmas.{unless_ok}
use Rattle.centre_past.proofs.CountLemmas.{among_more, among_new}
use Rattle.centre_past.proofs.GroupingLemmas.{any_pending}
use Rattle.order_maker.specs.GroupingLaws.{tests}
use Rattle.centre_past.proofs.UniqueLemmas.{verdict_answered}

placed_after : (d : Cell) (other : ℕ) (before : Past) (b : ℕ) (c : Cell) → (is_place (place before c) b ≡ true → is_among c (cells before) ≡ true) → is_place (unwrap_or (cond (cell_eq d c) (Some (Some other)) None) (place before c)) b ≡ true → is_among c (with_new cell_eq (Some d) (cells before)) ≡ true
placed_after d other before b c known h = step (cell_eq d c) refl
  where
    step : (t : Bool) → cell_eq d c ≡ t → is_among c (with_new cell_eq (Some d) (cells before)) ≡ true
    step true e = among_new cell_eq cell_decides c d (cells before) e
    step false e = let there : is_place (place before c) b ≡ true = rw e at h in among_more cell_eq c (Some d) (cells before) (known there)

place_after : (e : Edit) (before : Past) (b : ℕ) (c : Cell) → (is_place (place before c) b ≡ true → is_among c (cells before) ≡ true) → is_place (unwrap_or (place_mark c e) (place before c)) b ≡ true → is_among c (with_new cell_eq (added_cell e) (cells before)) ≡ true
place_after (edit.AddCell d other) before b c known h = placed_after d other before b c known h
place_after (edit.MoveCell d other) before b c known h = placed_after d other before b c known h
place_after (edit.RemoveCell d) before b c known h = step (cell_eq d c) h
  where
    step : (t : Bool) → is_place (unwrap_or (cond t (Some None) None) (place before c)) b ≡ true → is_among c (cells before) ≡ true
    step true g = cc
    step false g = known g
place_after other before b c known h = known h

place_then : (e : Event) (before : Past) (b : ℕ) (c : Cell) → (is_place (place before c) b ≡ true → is_among c (cells before) ≡ true) → is_place (unwrap_or (by_edit (place_mark c) e) (place before c)) b ≡ true → is_among c (with_new cell_eq (by_edit added_cell e) (cells before)) ≡ true
place_then (event.Edit e) before b c known h = place_after e before b c known h
place_then other before b c known h = known h

no_place : (base : Base) (b : ℕ) (c : Cell) → base ≡ empty_base → is_place (base.place c) b ≡ true → is_among c base.cells ≡ true
no_place base b c e h = let no : is_place (empty_base.place c) b ≡ true = ap (λ (k : Base). is_place (k.place c) b) (sym e) ∙ h in cc

-- a cell with a place was registered
pub known_place : (past : Past) → IsUnfolded past → (b : ℕ) (c : Cell) → is_place (place past c) b ≡ true → is_among c (cells past) ≡ true
known_place (From base) unfolded b c h = no_place base b c unfolded h
known_place (After e before) unfolded b c h = place_then e.event before b c (known_place before unfolded b c) h

-- nothing was folded into the base of a legal past
pub legal_unfolded : (settings : Settings) (past : Past) → Legal settings past → IsUnfolded past
legal_unfolded settings (From base) legal = legal
legal_unfolded settings (After e before) legal = legal_unfolded settings before legal.1

any_common : {X : Type 0} (k : Bool) (p q : X → Bool) (xs : List X) → list_any (λ x. p x && (k && q x)) xs ≡ true → k ≡ true
any_common k p q [] h = cc
any_common k p q (x ∷ xs) h = step (any_common k p q xs) (p x) k refl h
  where
    step : (list_any (λ y. p y && (k && q y)) xs ≡ true → k ≡ true) → (t u : Bool) → k ≡ u → ((t && (u && q x)) || list_any (λ y. p y && (k && q y)) xs) ≡ true → k ≡ true
    step rest t true e g = e
    step rest true false e g = rest g
    step rest false false e g = rest g

-- every kind of order, of any serial number
abbrev pub always : OrderKind → ℕ → Bool
always kind s = true

-- the pending orders name registered cells alone
pending_known : (past : Past) (b : ℕ) (c : Cell) (order : Order) (orders : List Order) → pending past b ≡ order ∷ orders → is_among c order.cells ≡ true → is_among c (cells past) ≡ true
pending_known past b c order orders e h =
    let here : tests always c order.message_id order ≡ true = ap (λ t. (t && is_among c order.cells) && true) (eq-eqb order.message_id order.message_id refl) ∙ ap (λ t. t && true) h in
    let first_one : list_any (tests always c order.message_id) (order ∷ orders) ≡ true = ap (λ t. t || list_any (tests always c order.message_id) orders) here in
    let all : list_any (tests always c order.message_id) (pending past b) ≡ true = rw e first_one in
    let touched : list_any (λ w. nat_eq w.message_id order.message_id && (is_among c (cells past) && does always (seen past b w c))) (warnings_of past) ≡ true = sym (any_pending always c order.message_id past b ∙ any_all always c order.message_id past b) ∙ all in
    any_common (is_among c (cells past)) (λ (w : Warning). nat_eq w.message_id order.message_id) (λ (w : Warning). does always (seen past b w c)) (warnings_of past) touched

pub among_front : (n : ℕ) (c : Cell) (cs : List Cell) → is_among c (take n cs) ≡ true → is_among c cs ≡ true
among_front zero c cs h = cc
among_front (suc n) c [] h = cc
among_front (suc n) c (d ∷ ds) h = step (among_front n c ds) (cell_eq c d) h
  where
    step : (is_among c (take n ds) ≡ true → is_among c ds ≡ true) → (t : Bool) → (t || is_among c (take n ds)) ≡ true → (t || is_among c ds) ≡ true
    step rest true g = refl
    step rest false g = rest g

-- what is in flight names the cell
abbrev pub names : Option InFlight → Cell → Bool
names None c = false
names (Some f) c = is_among c (cells_of f)

first_known : (past : Past) (b : ℕ) (c : Cell) (orders : List Order) → pending past b ≡ orders → names (option_map flight.Order (first orders)) c ≡ true → is_among c (cells past) ≡ true
first_known past b c [] e h = cc
first_known past b c (order ∷ orders) e h = pending_known past b c order orders e (among_front most_cells c order.cells h)

-- the order that a Send was answered is the first one pending
sent_first : (requested : ℕ) (past : Past) (o : Option Order) (a : Answer) → send_answer requested past o ≡ Ok a → sent_flight a ≡ option_map flight.Order o
sent_first requested past None a h = cc
sent_first requested past (Some order) a h =
    let same : Sent order (order_message requested order (content_of order.message_id order.serial (warnings_of past))) ≡ a = cc in
    ap sent_flight (sym same)

sent_pending : (settings : Settings) (before : Past) (b generation : ℕ) (a : Answer) → verdict settings before (event.Send b generation) ≡ Ok a → sent_flight a ≡ option_map flight.Order (first (pending before b))
sent_pending settings before b generation a v =
    sent_first settings.network.broadcasts before (first (pending before b)) a (unless_ok (send_checks before b generation) (send_answer settings.network.broadcasts before (first (pending before b))) a (verdict_answered settings before (event.Send b generation) a v))

-- what stays where a flight may have ended was there
ended_from : (p : Option InFlight → Bool) (q t : Bool) (f : Option InFlight) → p None ≡ false → (p f ≡ true → q ≡ true) → p (unwrap_or (if t then Some None else None) f) ≡ true → q ≡ true
ended_from p q true f none known h = let no : true ≡ false = sym h ∙ none in cc
ended_from p q false f none known h = known h

-- what is in flight after an event was so before it, is the first of the pending orders, or is a query
pub flight_from : (settings : Settings) (before : Past) (e : Event) (a : Answer) (b : ℕ) (p : Option InFlight → Bool) (q : Bool) → verdict settings before e ≡ Ok a → p None ≡ false → (p (option_map flight.Order (first (pending before b))) ≡ true → q ≡ true) → ((x : Answer) → IsQuery before b x → p (asked_flight x) ≡ true → q ≡ true) → (p (in_flight before b) ≡ true → q ≡ true) → p (unwrap_or (flight_mark b e a (is_up before b)) (in_flight before b)) ≡ true → q ≡ true
flight_from settings before (event.Send other generation) a b p q v none sent asked known h = step (nat_eq other b) refl h
  where
    step : (t : Bool) → nat_eq other b ≡ t → p (unwrap_or (cond t (Some (sent_flight a)) None) (in_flight before b)) ≡ true → q ≡ true
    step true e g =
        sent (ap (λ k. p (option_map flight.Order (first (pending before k)))) (sym (eqb-true other b e)) ∙ sym (ap p (sent_pending settings before other generation a v)) ∙ g)
    step false e g = known g
flight_from settings before (event.Ask other generation n after) a b p q v none sent asked known h = step (nat_eq other b) refl h
  where
    step : (t : Bool) → nat_eq other b ≡ t → p (unwrap_or (cond t (Some (asked_flight a)) None) (in_flight before b)) ≡ true → q ≡ true
    step true e g =
        asked a (subst (λ k. IsQuery before k a) (eqb-true other b e) (ask_query before other generation n after a (verdict_answered settings before (event.Ask other generation n after) a v))) g
    step false e g = known g
flight_from settings before (event.Report other generation message) a b p q v none sent asked known h = ended_from p q (nat_eq other b && is_replied a) (in_flight before b) none known h
flight_from settings before (event.LinkUp other) a b p q v none sent asked known h = ended_from p q (nat_eq other b && is_up before b) (in_flight before b) none known h
flight_from settings before (event.LinkDown other generation) a b p q v none sent asked known h = ended_from p q (nat_eq other b) (in_flight before b) none known h
flight_from settings before (event.Edit e) a b p q v none sent asked known h = known h
flight_from settings before (event.Retry other) a b p q v none sent asked known h = known h

-- what stays is known, and so is what an edit adds
pub more_known : (e : Event) (before : Past) (c : Cell) → is_among c (cells before) ≡ true → is_among c (with_new cell_eq (by_edit added_cell e) (cells before)) ≡ true
more_known (event.Edit e) before c h = among_more cell_eq c (added_cell e) (cells before) h
more_known (event.Retry b) before c h = h
more_known (event.LinkUp b) before c h = h
more_known (event.LinkDown b generation) before c h = h
more_known (event.Send b generation) before c h = h
more_known (event.Ask b generation n after) before c h = h
more_known (event.Report b generation message) before c h = h

-- nothing is in flight after no entry
pub flight_none : (base : Base) (b : ℕ) (p : Option InFlight → Bool) (q : Bool) → base ≡ empty_base → p None ≡ false → p (base.in_flight b) ≡ true → q ≡ true
flight_none base b p q e none h = let no : true ≡ false = sym (ap (λ (k : Base). p (k.in_flight b)) (sym e) ∙ h) ∙ none in cc

-- a query asks in registered cells alone
asked_known : (past : Past) (b : ℕ) (c : Cell) (a : Answer) → IsQuery past b a → names (asked_flight a) c ≡ true → is_among c (cells past) ≡ true
asked_known past b c a query h =
    any_filter (cell_eq c) (is_asked past b query.warning.message_id query.serial query.after) (cells past)
    (sym (any_sorted cell_lt (cell_eq c) (filter (is_asked past b query.warning.message_id query.serial query.after) (cells past)))
    ∙ among_front most_cells c (on_air_after past b query.warning.message_id query.serial query.after) (sym (ap (λ x. names (asked_flight x) c) query.is) ∙ h))

-- what is in flight names registered cells alone
pub known_flight : (settings : Settings) (past : Past) → Legal settings past → (b : ℕ) (c : Cell) → names (in_flight past b) c ≡ true → is_among c (cells past) ≡ true
known_flight settings (From base) legal b c h = flight_none base b (λ o. names o c) (is_among c base.cells) legal refl h
known_flight settings (After e before) legal b c h =
    more_known e.event before c
    (flight_from settings before e.event e.answer b (λ o. names o c) (is_among c (cells before)) legal.0 refl (first_known before b c (pending before b) refl) (asked_known before b c) (known_flight settings before legal.1 b c) h)
