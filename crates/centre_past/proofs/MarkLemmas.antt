-- What is in flight, on air, held, broadcast or down: of which BSCs, cells and keys it can be.
use Rattle.std.proofs.Common.{◌≡◌, [], ℕ, Bool, true, false, ◌&&◌, ◌||◌, not, nat_eq, List, Option, Some, None, Ok, unwrap_or, refl, sym, ◌∙◌, ap, eqb-true}
use Rattle.std.specs.Prelude.{if◌then◌else◌}
use Rattle.std.specs.List.{filter, list_any}
use Rattle.std.specs.Option.{is_some}
use Rattle.std.proofs.lemmas.Bool.{and_parts, or_left, or_right}
use Rattle.cbsp_ie.specs.declared.cause.Cause.{Cause}
use Rattle.cbsp_ie.specs.declared.cell_id.CellId.{CellId}
use Rattle.cbsp_messages.specs.declared.message.Message.{Message}
use Rattle.cbsp_messages.specs.declared.message.Message.TheVariants as message_is
use Rattle.cell_register.specs.Register.{is_place}
use Rattle.common.specs.Cell.{cell_eq, cell_lt}
use Rattle.common.specs.Sorting.{sorted_by}
use Rattle.common.specs.SortingLaws.{any_sorted}
use Rattle.common.specs.declared.cell.Cell.{Cell}
use Rattle.mirror.specs.Seen.{is_absent}
use Rattle.mirror.specs.declared.presence.Presence.{Presence}
use Rattle.mirror.specs.declared.presence.Presence.TheVariants.{Absent, OnAir, Unknown}
use Rattle.warning_book.specs.Book.{has_number}
use Rattle.warning_book.specs.declared.kind.Kind.{Kind}
use Rattle.warning_book.specs.declared.kind.Kind.TheVariants as kinds
use Rattle.warning_book.specs.declared.warning.Warning.{Warning}
use Rattle.centre_events.specs.Base.{Base, empty_base}
use Rattle.centre_events.specs.Counts.{count, replied_count, report_count, edit_count, count_mark}
use Rattle.centre_events.specs.Down.{is_down, edit_down, down_mark, listed_down, says_down}
use Rattle.centre_events.specs.Effects.{is_about, is_among, presence_mark, hold_mark, new_effect, old_effect, replaces, query_effect, flight_effect, outcome_in, said_effect, indicated_effect, report_effect, is_given}
use Rattle.centre_events.specs.declared.effect.Effect.{Effect}
use Rattle.centre_events.specs.declared.effect.Effect.TheVariants.{Sets, Frees, Leaves}
use Rattle.centre_events.specs.InFlight.{in_flight, id_of, cells_of}
use Rattle.centre_events.specs.Known.{is_marked, has_mark, is_known, is_named}
use Rattle.centre_past.specs.Legal.{Legal}
use Rattle.centre_events.specs.Links.{bscs, is_bsc, bsc_mark, is_up}
use Rattle.centre_events.specs.Outcomes.{failed_ids, listed_cells}
use Rattle.centre_events.specs.Past.{Past, From, After, by_edit}
use Rattle.centre_events.specs.Places.{place, cells}
use Rattle.centre_events.specs.Presence.{presence, hold, is_held, effect, edit_effect}
use Rattle.centre_events.specs.Reported.{names_serial}
use Rattle.centre_events.specs.Verdict.{answered, report_checks, report_answer}
use Rattle.centre_events.specs.Warnings.{warnings_of, serials, has_key, key_kind}
use Rattle.centre_events.specs.declared.answer.Answer.{Answer}
use Rattle.centre_events.specs.declared.answer.Answer.TheVariants.{Replied, Listed}
use Rattle.coverage_plan.specs.declared.edit.Edit.{Edit}
use Rattle.coverage_plan.specs.declared.edit.Edit.TheVariants as edit
use Rattle.centre_events.specs.declared.event.Event.{Event}
use Rattle.centre_events.specs.declared.event.Event.TheVariants as event
use Rattle.centre_events.specs.declared.in_flight.InFlight.{InFlight}
use Rattle.centre_events.specs.declared.in_flight.InFlight.TheVariants as flight
use Rattle.centre_events.specs.declared.network.Network.{Network}
use Rattle.centre_events.specs.declared.outcome.Outcome.{Outcome}
use Rattle.centre_events.specs.declared.outcome.Outcome.TheVariants.{Silent}
use Rattle.centre_events.specs.declared.settings.Settings.{Settings}
use Rattle.centre_past.proofs.AnyLemmas.{contrary, any_gives, any_filter}
use Rattle.centre_past.proofs.BscLemmas.{asked, bsc_named, flight_bsc, place_bsc}
use Rattle.centre_past.proofs.CheckLemmas.{no_check, unless_ok}
use Rattle.centre_past.proofs.ReportedLemmas.{names_it, replied_named}
use Rattle.centre_past.proofs.KnownLemmas.{legal_unfolded, known_place, names, known_flight, more_known}
use Rattle.centre_past.proofs.UniqueLemmas.{verdict_answered}

-- What an event does to a key.

-- what is on air, or may be, or is held, or was broadcast
abbrev pub marks : Presence → Option Cause → ℕ → Bool
marks p h n = not (is_absent p) || (is_some h || not (nat_eq n 0))

-- the same after the effect, and the number that is set
abbrev pub marks_after : Effect → Option ℕ → Presence → Option Cause → ℕ → Bool
marks_after x u p h n = marks (unwrap_or (presence_mark x) p) (unwrap_or (hold_mark x) h) (unwrap_or u n)

-- what was broadcast is marked
counted_marked : (p : Presence) (h : Option Cause) (n : ℕ) → not (nat_eq n 0) ≡ true → marks p h n ≡ true
counted_marked p h n g = or_right (not (is_absent p)) (is_some h || not (nat_eq n 0)) (or_right (is_some h) (not (nat_eq n 0)) g)

-- a key that is freed was marked if it still is
freed : (p : Presence) (h : Option Cause) (n : ℕ) → marks_after Frees None p h n ≡ true → marks p h n ≡ true
freed Absent h n g = counted_marked Absent h n g
freed OnAir h n g = refl
freed Unknown h n g = refl

-- also where nothing is reported of it any more
freed_whole : (p : Presence) (h : Option Cause) (n : ℕ) → marks_after Frees (Some 0) p h n ≡ true → marks p h n ≡ true
freed_whole Absent h n g = cc
freed_whole OnAir h n g = refl
freed_whole Unknown h n g = refl

-- what is in flight, and a number that is set, mark no key but those that it names
flight_marks : (q : Bool) (f : Option InFlight) (o : Outcome) (u : Option ℕ) (p : Presence) (h : Option Cause) (n : ℕ) (c : Cell) (m s : ℕ) → (is_some u ≡ true → q ≡ true) → (names_it f c m s ≡ true → q ≡ true) → (marks p h n ≡ true → q ≡ true) → marks_after (flight_effect f o c m s) u p h n ≡ true → q ≡ true
flight_marks q f o (Some x) p h n c m s counted named known g = counted refl
flight_marks q None o None p h n c m s counted named known g = known g
flight_marks q (Some (flight.Order order)) o None p h n c m s counted named known g = step (nat_eq order.message_id m && is_among c order.cells) (nat_eq order.serial s) (replaces order.kind s) named g
  where
    step : (x y z : Bool) → ((x && (y || z)) ≡ true → q ≡ true) → marks_after (if x then (if y then new_effect order.kind o else (if z then old_effect o else Leaves)) else Leaves) None p h n ≡ true → q ≡ true
    step true true z it k = it refl
    step true false true it k = it refl
    step true false false it k = known k
    step false y z it k = known k
flight_marks q (Some (flight.Query i t cs)) o None p h n c m s counted named known g = step ((nat_eq i m && is_among c cs) && nat_eq t s) named g
  where
    step : (x : Bool) → (x ≡ true → q ≡ true) → marks_after (if x then query_effect o else Leaves) None p h n ≡ true → q ≡ true
    step true it k = it refl
    step false it k = known k

-- an indication marks none
indicated_marks : (q : Bool) (kind : Kind) (message : Message) (p : Presence) (h : Option Cause) (n : ℕ) → (marks p h n ≡ true → q ≡ true) → marks_after (indicated_effect kind message) None p h n ≡ true → q ≡ true
indicated_marks q kind (message_is.Restart m) p h n known g = step (is_about m.kind kind) (nat_eq m.recovery 0) g
  where
    step : (u t : Bool) → marks_after (if u then (if t then Frees else Sets Absent) else Leaves) None p h n ≡ true → q ≡ true
    step true true k = known (freed p h n k)
    step true false k = known (counted_marked p h n k)
    step false t k = known k
indicated_marks q kind other p h n known g = known g

report_marks : (q : Bool) (kind : Kind) (message : Message) (a : Answer) (f : Option InFlight) (p : Presence) (h : Option Cause) (n : ℕ) (c : Cell) (m s : ℕ) → (names_it f c m s ≡ true → q ≡ true) → (marks p h n ≡ true → q ≡ true) → marks_after (report_effect kind message a f c m s) (report_count a f c m s) p h n ≡ true → q ≡ true
report_marks q kind message (Replied replies) f p h n c m s named known g = step (outcome_in c replies) (replied_count f replies c m s) (λ k. named (replied_named f replies c m s k)) g
  where
    none : (u : Option ℕ) → (is_some u ≡ true → q ≡ true) → marks_after Leaves u p h n ≡ true → q ≡ true
    none None counted k = known k
    none (Some x) counted k = counted refl

    step : (o : Option Outcome) (u : Option ℕ) → (is_some u ≡ true → q ≡ true) → marks_after (said_effect o f c m s) u p h n ≡ true → q ≡ true
    step None u counted k = none u counted k
    step (Some o) u counted k = flight_marks q f o u p h n c m s counted named known k
report_marks q kind message (Listed cs) f p h n c m s named known g = step (is_among c cs) g
  where
    step : (t : Bool) → marks_after (if t then indicated_effect kind message else Leaves) None p h n ≡ true → q ≡ true
    step true k = indicated_marks q kind message p h n known k
    step false k = known k
report_marks q kind message other f p h n c m s named known g = known g

-- a key that an edit frees, or leaves
freed_marks : (q t : Bool) (p : Presence) (h : Option Cause) (n : ℕ) → (marks p h n ≡ true → q ≡ true) → marks_after (if t then Frees else Leaves) (if t then Some 0 else None) p h n ≡ true → q ≡ true
freed_marks q true p h n known g = known (freed_whole p h n g)
freed_marks q false p h n known g = known g

edit_marks : (q : Bool) (e : Edit) (a : Answer) (ws : List Warning) (p : Presence) (h : Option Cause) (n : ℕ) (b m s : ℕ) → (marks p h n ≡ true → q ≡ true) → marks_after (edit_effect b m s e a ws) (edit_count b m s e a ws) p h n ≡ true → q ≡ true
edit_marks q (edit.RemoveBsc other) a ws p h n b m s known g = step (nat_eq other b) g
  where
    step : (t : Bool) → marks_after (if t then Sets Absent else Leaves) (if t then Some 0 else None) p h n ≡ true → q ≡ true
    step true k = cc
    step false k = known k
edit_marks q (edit.Forget i) a ws p h n b m s known g = freed_marks q (list_any (λ w. has_number i w && has_key m s w) ws) p h n known g
edit_marks q (edit.Update i content) a ws p h n b m s known g = freed_marks q (is_given i m s a ws) p h n known g
edit_marks q other a ws p h n b m s known g = known g

-- a key that is marked after an event was so before it, or what is in flight names it
pub event_marks : (q : Bool) (kind : Kind) (b : ℕ) (c : Cell) (m s : ℕ) (e : Event) (a : Answer) (up : Bool) (f : Option InFlight) (ws : List Warning) (p : Presence) (h : Option Cause) (n : ℕ) → (names_it f c m s ≡ true → q ≡ true) → (marks p h n ≡ true → q ≡ true) → marks_after (effect kind b c m s e a up f ws) (count_mark b c m s e a f ws) p h n ≡ true → q ≡ true
event_marks q kind b c m s (event.Edit e) a up f ws p h n named known g = edit_marks q e a ws p h n b m s known g
event_marks q kind b c m s (event.Report other generation message) a up f ws p h n named known g = step (nat_eq other b) g
  where
    step : (t : Bool) → marks_after (if t then report_effect kind message a f c m s else Leaves) (if t then report_count a f c m s else None) p h n ≡ true → q ≡ true
    step true k = report_marks q kind message a f p h n c m s named known k
    step false k = known k
event_marks q kind b c m s (event.LinkUp other) a up f ws p h n named known g = step (nat_eq other b && up) g
  where
    step : (t : Bool) → marks_after (if t then flight_effect f Silent c m s else Leaves) None p h n ≡ true → q ≡ true
    step true k = flight_marks q f Silent None p h n c m s (λ i. cc) named known k
    step false k = known k
event_marks q kind b c m s (event.LinkDown other generation) a up f ws p h n named known g = step (nat_eq other b) g
  where
    step : (t : Bool) → marks_after (if t then flight_effect f Silent c m s else Leaves) None p h n ≡ true → q ≡ true
    step true k = flight_marks q f Silent None p h n c m s (λ i. cc) named known k
    step false k = known k
event_marks q kind b c m s (event.Retry other) a up f ws p h n named known g = step (nat_eq other b) g
  where
    step : (t : Bool) → marks_after (if t then Frees else Leaves) None p h n ≡ true → q ≡ true
    step true k = known (freed p h n k)
    step false k = known k
event_marks q kind b c m s other a up f ws p h n named known g = known g

-- A BSC of which a key is marked, or a cell down, is registered.

is_flight : (f : Option InFlight) (c : Cell) (m s : ℕ) → names_it f c m s ≡ true → is_some f ≡ true
is_flight None c m s h = cc
is_flight (Some f) c m s h = refl

-- a BSC is registered after an event if it was before, but where it is taken out, and then none of its keys is marked
bsc_edit : (e : Edit) (a : Answer) (ws : List Warning) (p : Presence) (h : Option Cause) (n : ℕ) (b m s : ℕ) (before : Bool) → marks_after (edit_effect b m s e a ws) (edit_count b m s e a ws) p h n ≡ true → before ≡ true → unwrap_or (bsc_mark b e) before ≡ true
bsc_edit (edit.AddBsc other) a ws p h n b m s before g is = step (nat_eq other b)
  where
    step : (t : Bool) → unwrap_or (if t then Some true else None) before ≡ true
    step true = refl
    step false = is
bsc_edit (edit.RemoveBsc other) a ws p h n b m s before g is = step (nat_eq other b) g
  where
    step : (t : Bool) → marks_after (if t then Sets Absent else Leaves) (if t then Some 0 else None) p h n ≡ true → unwrap_or (if t then Some false else None) before ≡ true
    step true k = cc
    step false k = is
bsc_edit other a ws p h n b m s before g is = is

bsc_event : (kind : Kind) (b : ℕ) (c : Cell) (m s : ℕ) (e : Event) (a : Answer) (up : Bool) (f : Option InFlight) (ws : List Warning) (p : Presence) (h : Option Cause) (n : ℕ) (before : Bool) → marks_after (effect kind b c m s e a up f ws) (count_mark b c m s e a f ws) p h n ≡ true → before ≡ true → unwrap_or (by_edit (bsc_mark b) e) before ≡ true
bsc_event kind b c m s (event.Edit e) a up f ws p h n before g is = bsc_edit e a ws p h n b m s before g is
bsc_event kind b c m s other a up f ws p h n before g is = is

pub no_mark : (base : Base) (b : ℕ) (c : Cell) (m s : ℕ) (q : Bool) → base ≡ empty_base → marks (base.presence b c m s) (base.hold b c m s) (base.count b c m s) ≡ true → q ≡ true
no_mark base b c m s q e h = let no : marks (empty_base.presence b c m s) (empty_base.hold b c m s) (empty_base.count b c m s) ≡ true = ap (λ (k : Base). marks (k.presence b c m s) (k.hold b c m s) (k.count b c m s)) (sym e) ∙ h in cc

pub marked_bsc : (settings : Settings) (past : Past) → Legal settings past → (b : ℕ) (c : Cell) (m s : ℕ) → is_marked past b c m s ≡ true → is_bsc past b ≡ true
marked_bsc settings (From base) legal b c m s h = no_mark base b c m s (base.is_bsc b) legal h
marked_bsc settings (After e before) legal b c m s h =
    bsc_event (key_kind before m s) b c m s e.event e.answer (is_up before b) (in_flight before b) (warnings_of before) (presence before b c m s) (hold before b c m s) (count before b c m s) (is_bsc before b) h
    (event_marks (is_bsc before b) (key_kind before m s) b c m s e.event e.answer (is_up before b) (in_flight before b) (warnings_of before) (presence before b c m s) (hold before b c m s) (count before b c m s) (λ n. flight_bsc settings before legal.1 b (is_flight (in_flight before b) c m s n)) (marked_bsc settings before legal.1 b c m s) h)

down_edit : (e : Edit) (b : ℕ) (down before : Bool) → (down ≡ true → before ≡ true) → unwrap_or (edit_down b e) down ≡ true → unwrap_or (bsc_mark b e) before ≡ true
down_edit (edit.AddBsc other) b down before known h = step (nat_eq other b)
  where
    step : (t : Bool) → unwrap_or (if t then Some true else None) before ≡ true
    step true = refl
    step false = known h
down_edit (edit.RemoveBsc other) b down before known h = step (nat_eq other b) h
  where
    step : (t : Bool) → unwrap_or (if t then Some false else None) down ≡ true → unwrap_or (if t then Some false else None) before ≡ true
    step true k = cc
    step false k = known k
down_edit other b down before known h = known h

down_event : (network : Network) (e : Event) (before : Past) (a : Answer) (kind : Kind) (b : ℕ) (c : Cell) → answered network before e ≡ Ok a → (is_down before kind b c ≡ true → is_bsc before b ≡ true) → unwrap_or (down_mark kind b c e a) (is_down before kind b c) ≡ true → unwrap_or (by_edit (bsc_mark b) e) (is_bsc before b) ≡ true
down_event network (event.Edit e) before a kind b c v known h = down_edit e b (is_down before kind b c) (is_bsc before b) known h
down_event network (event.Report other generation message) before a kind b c v known h = step (nat_eq other b) refl h
  where
    step : (t : Bool) → nat_eq other b ≡ t → unwrap_or (if t then listed_down kind c message a else None) (is_down before kind b c) ≡ true → is_bsc before b ≡ true
    step true e k = asked before other b (no_check (report_checks before other generation message) (report_answer network.plmn before other message (in_flight before other)) a v).0 e
    step false e k = known k
down_event network other before a kind b c v known h = known h

no_down : (base : Base) (kind : Kind) (b : ℕ) (c : Cell) (q : Bool) → base ≡ empty_base → base.is_down kind b c ≡ true → q ≡ true
no_down base kind b c q e h = let no : empty_base.is_down kind b c ≡ true = ap (λ (k : Base). k.is_down kind b c) (sym e) ∙ h in cc

pub down_bsc : (settings : Settings) (past : Past) → Legal settings past → (kind : Kind) (b : ℕ) (c : Cell) → is_down past kind b c ≡ true → is_bsc past b ≡ true
down_bsc settings (From base) legal kind b c h = no_down base kind b c (base.is_bsc b) legal h
down_bsc settings (After e before) legal kind b c h =
    down_event settings.network e.event before e.answer kind b c (verdict_answered settings before e.event e.answer legal.0) (down_bsc settings before legal.1 kind b c) h

pub no_presence : (p : Presence) (h : Option Cause) (n : ℕ) → marks p h n ≡ false → p ≡ Absent
no_presence Absent h n e = refl
no_presence OnAir h n e = cc
no_presence Unknown h n e = cc

pub no_hold : (p : Presence) (h : Option Cause) (n : ℕ) → marks p h n ≡ false → h ≡ None
no_hold p None n e = refl
no_hold Absent (Some k) n e = cc
no_hold OnAir (Some k) n e = cc
no_hold Unknown (Some k) n e = cc

pub no_count : (p : Presence) (h : Option Cause) (n : ℕ) → marks p h n ≡ false → n ≡ 0
no_count p h n e = step (nat_eq n 0) refl
  where
    step : (t : Bool) → nat_eq n 0 ≡ t → n ≡ 0
    step true f = eqb-true n 0 f
    step false f = let no : true ≡ false = sym (counted_marked p h n (ap not f)) ∙ e in cc

no_flight : (o : Option InFlight) → is_some o ≡ false → o ≡ None
no_flight None e = refl
no_flight (Some f) e = cc

-- Of a BSC that is not registered nothing is in flight, down, on air or held, or was broadcast.

pub unknown_bsc_flight : (settings : Settings) (past : Past) → Legal settings past → (b : ℕ) → is_bsc past b ≡ false → in_flight past b ≡ None
unknown_bsc_flight settings past legal b h = no_flight (in_flight past b) (contrary (is_some (in_flight past b)) (is_bsc past b) (flight_bsc settings past legal b) h)

pub unknown_bsc_down : (settings : Settings) (past : Past) → Legal settings past → (kind : Kind) (b : ℕ) (c : Cell) → is_bsc past b ≡ false → is_down past kind b c ≡ false
unknown_bsc_down settings past legal kind b c h = contrary (is_down past kind b c) (is_bsc past b) (down_bsc settings past legal kind b c) h

unknown_bsc_mark : (settings : Settings) (past : Past) → Legal settings past → (b : ℕ) (c : Cell) (m s : ℕ) → is_bsc past b ≡ false → is_marked past b c m s ≡ false
unknown_bsc_mark settings past legal b c m s h = contrary (is_marked past b c m s) (is_bsc past b) (marked_bsc settings past legal b c m s) h

pub unknown_bsc_presence : (settings : Settings) (past : Past) → Legal settings past → (b : ℕ) (c : Cell) (m s : ℕ) → is_bsc past b ≡ false → presence past b c m s ≡ Absent
unknown_bsc_presence settings past legal b c m s h = no_presence (presence past b c m s) (hold past b c m s) (count past b c m s) (unknown_bsc_mark settings past legal b c m s h)

pub unknown_bsc_hold : (settings : Settings) (past : Past) → Legal settings past → (b : ℕ) (c : Cell) (m s : ℕ) → is_bsc past b ≡ false → hold past b c m s ≡ None
unknown_bsc_hold settings past legal b c m s h = no_hold (presence past b c m s) (hold past b c m s) (count past b c m s) (unknown_bsc_mark settings past legal b c m s h)

pub unknown_bsc_count : (settings : Settings) (past : Past) → Legal settings past → (b : ℕ) (c : Cell) (m s : ℕ) → is_bsc past b ≡ false → count past b c m s ≡ 0
unknown_bsc_count settings past legal b c m s h = no_count (presence past b c m s) (hold past b c m s) (count past b c m s) (unknown_bsc_mark settings past legal b c m s h)

-- A cell of which a key is marked, or which is down, was registered.

cell_named : (f : Option InFlight) (c : Cell) (m s : ℕ) → names_it f c m s ≡ true → names f c ≡ true
cell_named None c m s h = cc
cell_named (Some f) c m s h = (and_parts (nat_eq (id_of f) m) (is_among c (cells_of f)) (and_parts (nat_eq (id_of f) m && is_among c (cells_of f)) (names_serial f s) h).0).1

pub marked_cell : (settings : Settings) (past : Past) → Legal settings past → (b : ℕ) (c : Cell) (m s : ℕ) → is_marked past b c m s ≡ true → is_among c (cells past) ≡ true
marked_cell settings (From base) legal b c m s h = no_mark base b c m s (is_among c base.cells) legal h
marked_cell settings (After e before) legal b c m s h =
    more_known e.event before c
    (event_marks (is_among c (cells before)) (key_kind before m s) b c m s e.event e.answer (is_up before b) (in_flight before b) (warnings_of before) (presence before b c m s) (hold before b c m s) (count before b c m s) (λ n. known_flight settings before legal.1 b c (cell_named (in_flight before b) c m s n)) (marked_cell settings before legal.1 b c m s) h)

pub present_marked : (p : Presence) (h : Option Cause) (n : ℕ) → is_absent p ≡ false → marks p h n ≡ true
present_marked Absent h n e = cc
present_marked OnAir h n e = refl
present_marked Unknown h n e = refl

-- a cell with something on air was registered
pub known_presence : (settings : Settings) (past : Past) → Legal settings past → (b : ℕ) (c : Cell) (m s : ℕ) → is_absent (presence past b c m s) ≡ false → is_among c (cells past) ≡ true
known_presence settings past legal b c m s h = marked_cell settings past legal b c m s (present_marked (presence past b c m s) (hold past b c m s) (count past b c m s) h)

-- what a list names, sorted and filtered, is one of what it was made of
listed_among : (network : List ℕ) (past : Past) (b number : ℕ) (ids : List CellId) (c : Cell) → is_among c (listed_cells network past b number ids) ≡ true → is_among c (cells past) ≡ true
listed_among network past b number ids c h = step (is_about number kinds.Cbs || is_about number kinds.Emergency) h
  where
    kept : List Cell
    kept = filter (λ d. is_known past b d && is_named network ids d) (cells past)

    step : (t : Bool) → is_among c (if t then sorted_by cell_lt kept else []) ≡ true → is_among c (cells past) ≡ true
    step true g = any_filter (cell_eq c) (λ d. is_known past b d && is_named network ids d) (cells past) (sym (any_sorted cell_lt (cell_eq c) kept) ∙ g)
    step false g = cc

-- an indication lists registered cells alone
answer_among : (network : List ℕ) (past : Past) (b : ℕ) (message : Message) (f : Option InFlight) (cs : List Cell) (c : Cell) → report_answer network past b message f ≡ Ok (Listed cs) → is_among c cs ≡ true → is_among c (cells past) ≡ true
answer_among network past b (message_is.Restart m) f cs c e h =
    let same : listed_cells network past b m.kind m.cells.ids ≡ cs = cc in
    listed_among network past b m.kind m.cells.ids c (ap (is_among c) same ∙ h)
answer_among network past b (message_is.Failure m) f cs c e h =
    let same : listed_cells network past b m.kind (failed_ids m.failures) ≡ cs = cc in
    listed_among network past b m.kind (failed_ids m.failures) c (ap (is_among c) same ∙ h)
answer_among network past b other None cs c e h = cc
answer_among network past b other (Some f) cs c e h = cc

down_cell_event : (network : Network) (e : Event) (before : Past) (a : Answer) (kind : Kind) (b : ℕ) (c : Cell) → answered network before e ≡ Ok a → (is_down before kind b c ≡ true → is_among c (cells before) ≡ true) → unwrap_or (down_mark kind b c e a) (is_down before kind b c) ≡ true → is_among c (cells before) ≡ true
down_cell_event network (event.Edit (edit.RemoveBsc other)) before a kind b c v known h = step (nat_eq other b) h
  where
    step : (t : Bool) → unwrap_or (if t then Some false else None) (is_down before kind b c) ≡ true → is_among c (cells before) ≡ true
    step true k = cc
    step false k = known k
down_cell_event network (event.Edit other) before a kind b c v known h = known h
down_cell_event network (event.Report other generation message) before a kind b c v known h = step (nat_eq other b) h
  where
    given : report_answer network.plmn before other message (in_flight before other) ≡ Ok a
    given = unless_ok (report_checks before other generation message) (report_answer network.plmn before other message (in_flight before other)) a v

    listed : (x : Answer) → a ≡ x → unwrap_or (listed_down kind c message x) (is_down before kind b c) ≡ true → is_among c (cells before) ≡ true
    listed (Listed cs) is k = at (is_among c cs) refl k
      where
        at : (t : Bool) → is_among c cs ≡ t → unwrap_or (if t then says_down kind message else None) (is_down before kind b c) ≡ true → is_among c (cells before) ≡ true
        at true there l = answer_among network.plmn before other message (in_flight before other) cs c (given ∙ ap (λ x. Ok x) is) there
        at false there l = known l
    listed x is k = known k

    step : (t : Bool) → unwrap_or (if t then listed_down kind c message a else None) (is_down before kind b c) ≡ true → is_among c (cells before) ≡ true
    step true k = listed a refl k
    step false k = known k
down_cell_event network other before a kind b c v known h = known h

pub down_cell : (settings : Settings) (past : Past) → Legal settings past → (kind : Kind) (b : ℕ) (c : Cell) → is_down past kind b c ≡ true → is_among c (cells past) ≡ true
down_cell settings (From base) legal kind b c h = no_down base kind b c (is_among c base.cells) legal h
down_cell settings (After e before) legal kind b c h =
    more_known e.event before c (down_cell_event settings.network e.event before e.answer kind b c (verdict_answered settings before e.event e.answer legal.0) (down_cell settings before legal.1 kind b c) h)

held_marked : (p : Presence) (h : Option Cause) (n : ℕ) → is_some h ≡ true → marks p h n ≡ true
held_marked p h n e = or_right (not (is_absent p)) (is_some h || not (nat_eq n 0)) (or_left (is_some h) (not (nat_eq n 0)) e)

-- so was one with a key that is held
pub held_cell : (settings : Settings) (past : Past) → Legal settings past → (b : ℕ) (c : Cell) (m s : ℕ) → is_held past b c m s ≡ true → is_among c (cells past) ≡ true
held_cell settings past legal b c m s h = marked_cell settings past legal b c m s (held_marked (presence past b c m s) (hold past b c m s) (count past b c m s) h)

-- and one with a key that was broadcast
pub counted_cell : (settings : Settings) (past : Past) → Legal settings past → (b : ℕ) (c : Cell) (m s : ℕ) → nat_eq (count past b c m s) 0 ≡ false → is_among c (cells past) ≡ true
counted_cell settings past legal b c m s h = marked_cell settings past legal b c m s (counted_marked (presence past b c m s) (hold past b c m s) (count past b c m s) (ap not h))

-- what makes a cell known at a BSC
known_by : (q : Bool) (past : Past) (b : ℕ) (c : Cell) → (is_place (place past c) b ≡ true → q ≡ true) → ((kind : Kind) → is_down past kind b c ≡ true → q ≡ true) → ((m s : ℕ) → is_marked past b c m s ≡ true → q ≡ true) → is_known past b c ≡ true → q ≡ true
known_by q past b c placed down marked h = step (is_place (place past c) b) refl (is_down past kinds.Cbs b c) refl (is_down past kinds.Emergency b c) refl h
  where
    step : (t : Bool) → is_place (place past c) b ≡ t → (u : Bool) → is_down past kinds.Cbs b c ≡ u → (v : Bool) → is_down past kinds.Emergency b c ≡ v → (t || ((u || v) || list_any (has_mark past b c) (warnings_of past))) ≡ true → q ≡ true
    step true e u f v k g = placed e
    step false e true f v k g = down kinds.Cbs f
    step false e false f true k g = down kinds.Emergency k
    step false e false f false k g = any_gives q (has_mark past b c) (λ w i. any_gives q (is_marked past b c w.message_id) (marked w.message_id) (serials w) i) (warnings_of past) g

-- and one that is known at some BSC
pub known_cell : (settings : Settings) (past : Past) → Legal settings past → (b : ℕ) (c : Cell) → is_known past b c ≡ true → is_among c (cells past) ≡ true
known_cell settings past legal b c h =
    known_by (is_among c (cells past)) past b c (known_place past (legal_unfolded settings past legal) b c) (λ kind. down_cell settings past legal kind b c) (marked_cell settings past legal b c) h

-- A BSC at which a cell is known is registered, and so is one of those that ever were.

pub known_bsc : (settings : Settings) (past : Past) → Legal settings past → (b : ℕ) (c : Cell) → is_known past b c ≡ true → is_bsc past b ≡ true
known_bsc settings past legal b c h =
    known_by (is_bsc past b) past b c (place_bsc settings past legal b c) (λ kind. down_bsc settings past legal kind b c) (marked_bsc settings past legal b c) h

pub known_at : (settings : Settings) (past : Past) → Legal settings past → (b : ℕ) (c : Cell) → is_known past b c ≡ true → list_any (nat_eq b) (bscs past) ≡ true
known_at settings past legal b c h = bsc_named past (legal_unfolded settings past legal) b (known_bsc settings past legal b c h)
