-- What is in flight names keys of the book alone, and no other key is on air or held, or was broadcast.
use Rattle.std.proofs.Common.{◌≡◌, ℕ, ◌+◌, Bool, true, false, ◌&&◌, ◌||◌, not, nat_eq, List, [], ◌∷◌, ◌++◌, Option, Some, None, Ok, map, reverse, unwrap_or, refl, sym, ◌∙◌, ap, eqb-true, eq-eqb}
use Rattle.std.specs.Prelude.{if◌then◌else◌}
use Rattle.std.specs.Cmp.{unsigned_Decides}
use Rattle.std.specs.List.{list_any, list_all, flat_map}
use Rattle.std.specs.Option.{is_some, option_map}
use Rattle.std.proofs.lemmas.Bool.{and_parts, and_from, or_left, or_right}
use Rattle.std.proofs.lemmas.List.Folds.{list_any-append}
use Rattle.common.specs.Cell.{cell_eq}
use Rattle.common.specs.Equality.{cell_decides}
use Rattle.common.specs.declared.cell.Cell.{Cell}
use Rattle.mirror.specs.Seen.{Seen, is_absent, is_the}
use Rattle.mirror.specs.declared.presence.Presence.{Presence}
use Rattle.mirror.specs.declared.presence.Presence.TheVariants.{Absent, OnAir, Unknown}
use Rattle.warning_book.specs.Book.{State, has_number, new_serial, new_warning, updated, changed_if, edited, with_next}
use Rattle.warning_book.specs.Book as book
use Rattle.warning_book.specs.VersionLaws.{current_among}
use Rattle.warning_book.specs.declared.notice.Notice.{Notice}
use Rattle.warning_book.specs.declared.version.Version.{Version}
use Rattle.warning_book.specs.declared.warning.Warning.{Warning}
use Rattle.cbsp_ie.specs.declared.cause.Cause.{Cause}
use Rattle.order_maker.specs.Actions.{in_cell, deed, needs, is_replaceable, newest, replaced, fresh_kind, fresh, is_to_kill, kills}
use Rattle.centre_events.specs.Counts.{count, count_mark}
use Rattle.centre_events.specs.Effects.{is_among, replaces}
use Rattle.centre_events.specs.declared.effect.Effect.TheVariants.{Frees, Leaves}
use Rattle.order_maker.specs.Grouping.{first}
use Rattle.centre_events.specs.InFlight.{in_flight, flight_mark, asked_flight, id_of, cells_of}
use Rattle.centre_events.specs.Known.{is_marked}
use Rattle.centre_past.specs.Legal.{Legal}
use Rattle.centre_events.specs.Lines.{seen}
use Rattle.centre_events.specs.Links.{bscs, is_up}
use Rattle.centre_events.specs.Past.{Past, From, After}
use Rattle.centre_events.specs.Pending.{actions, actions_in, pending}
use Rattle.centre_events.specs.Places.{cells}
use Rattle.centre_events.specs.Plan.{wanted}
use Rattle.centre_events.specs.Presence.{presence, hold, effect}
use Rattle.centre_events.specs.Reported.{names_serial, flight_names, is_in_flight, is_present, is_reported_in, is_reported_at, is_reported}
use Rattle.centre_events.specs.Verdict.{verdict, answered, forget_checks}
use Rattle.centre_events.specs.Warnings.{warnings_of, book_of, book_then, serials, is_version, has_key, is_key, key_kind}
use Rattle.coverage_plan.specs.Edited.{book_after, with_issue}
use Rattle.centre_events.specs.declared.answer.Answer.{Answer}
use Rattle.centre_events.specs.declared.answer.Answer.TheVariants as answer
use Rattle.coverage_plan.specs.declared.edit.Edit.{Edit}
use Rattle.coverage_plan.specs.declared.edit.Edit.TheVariants as edit
use Rattle.centre_events.specs.declared.event.Event.{Event}
use Rattle.centre_events.specs.declared.event.Event.TheVariants as event
use Rattle.order_maker.specs.declared.action.Action.{Action}
use Rattle.centre_events.specs.declared.in_flight.InFlight.{InFlight}
use Rattle.centre_events.specs.declared.in_flight.InFlight.TheVariants as flight
use Rattle.centre_events.specs.declared.settings.Settings.{Settings}
use Rattle.order_maker.specs.declared.order.Order.{Order}
use Rattle.order_maker.specs.declared.order_kind.OrderKind.{OrderKind}
use Rattle.order_maker.specs.declared.order_kind.OrderKind.TheVariants.{Write, Replace, Kill}
use Rattle.centre_past.proofs.ActingLemmas.{has_serial, found_serial}
use Rattle.centre_past.proofs.AnyLemmas.{any_at, any_but, any_implies, any_reverse, all_flat, all_joined, contrary}
use Rattle.centre_past.proofs.AskLemmas.{IsQuery}
use Rattle.centre_past.proofs.BscLemmas.{bsc_named, flight_bsc}
use Rattle.centre_past.proofs.CheckLemmas.{no_check}
use Rattle.centre_past.proofs.GroupingLemmas.{all_pending}
use Rattle.centre_past.proofs.HeadlineLemmas.{wanted_version}
use Rattle.centre_past.proofs.KnownLemmas.{legal_unfolded, flight_from, flight_none}
use Rattle.centre_past.proofs.LineLemmas.{found_passes}
use Rattle.centre_past.proofs.MarkLemmas.{marks_after, event_marks, no_mark, no_presence, no_hold, no_count, marked_bsc, present_marked, known_presence}
use Rattle.centre_events.proofs.PastLemmas.{map_joined, any_image}
use Rattle.centre_past.proofs.NextLemmas.{next_keeps}
use Rattle.centre_past.proofs.ReportedLemmas.{names_it}
use Rattle.centre_past.proofs.UniqueLemmas.{verdict_answered}

-- The pending orders name keys of the book, by the test k.

abbrev pub keyed : (ℕ → ℕ → Bool) → OrderKind → ℕ → ℕ → Bool
keyed k Write m s = k m s
keyed k (Replace old) m s = k m s && k m old
keyed k Kill m s = k m s

abbrev pub action_keyed : (ℕ → ℕ → Bool) → Action → Bool
action_keyed k a = keyed k a.kind a.message_id a.serial

kills_keyed : (k : ℕ → ℕ → Bool) (v : Seen) (c : Cell) (ts : List ℕ) → ((s : ℕ) → has_serial s ts ≡ true → k v.message_id s ≡ true) → list_all (action_keyed k) (map (in_cell c) (kills v ts)) ≡ true
kills_keyed k v c [] known = refl
kills_keyed k v c (t ∷ ts) known = step (kills_keyed k v c ts (λ s h. known s (or_right (nat_eq t s) (has_serial s ts) h))) (is_to_kill v t)
  where
    own : k v.message_id t ≡ true
    own = known t (ap (λ u. u || has_serial t ts) (eq-eqb t t refl))

    step : list_all (action_keyed k) (map (in_cell c) (kills v ts)) ≡ true → (u : Bool) → list_all (action_keyed k) (map (in_cell c) ((if u then deed v Kill t ∷ [] else []) ++ kills v ts)) ≡ true
    step rest true = and_from (k v.message_id t) (list_all (action_keyed k) (map (in_cell c) (kills v ts))) own rest
    step rest false = rest

-- what is replaced is a version
pub replaced_version : (v : Seen) (s old : ℕ) → replaced v s ≡ Some old → has_serial old v.versions ≡ true
replaced_version v s old h = step (is_absent (v.presence s)) h
  where
    step : (t : Bool) → (if t then newest (is_replaceable v s) v.versions else None) ≡ Some old → has_serial old v.versions ≡ true
    step true g =
        sym (any_reverse (λ n. nat_eq n old) v.versions) ∙ (found_serial (is_replaceable v s) old (reverse v.versions) (ap (λ o. is_the o old) g ∙ eq-eqb old old refl)).0
    step false g = cc

fresh_keyed : (k : ℕ → ℕ → Bool) (v : Seen) (c : Cell) (o : Option ℕ) → ((s : ℕ) → is_the o s ≡ true → k v.message_id s ≡ true) → ((s : ℕ) → has_serial s v.versions ≡ true → k v.message_id s ≡ true) → list_all (action_keyed k) (map (in_cell c) (fresh v o)) ≡ true
fresh_keyed k v c None own known = refl
fresh_keyed k v c (Some s) own known = step (needs v s) (replaced v s) refl
  where
    mine : k v.message_id s ≡ true
    mine = own s (eq-eqb s s refl)

    step : (t : Bool) (r : Option ℕ) → replaced v s ≡ r → list_all (action_keyed k) (map (in_cell c) (if t then deed v (fresh_kind r) s ∷ [] else [])) ≡ true
    step true None e = and_from (k v.message_id s) true mine refl
    step true (Some old) e =
        and_from (k v.message_id s && k v.message_id old) true (and_from (k v.message_id s) (k v.message_id old) mine (known old (replaced_version v s old e))) refl
    step false r e = refl

pub line_keyed : (k : ℕ → ℕ → Bool) (past : Past) (b : ℕ) (w : Warning) (c : Cell) → ((s : ℕ) → list_any (is_version s) w.versions ≡ true → k w.message_id s ≡ true) → list_all (action_keyed k) (actions past b w c) ≡ true
line_keyed k past b w c known =
    ap (list_all (action_keyed k)) (map_joined (in_cell c) (fresh (seen past b w c) (wanted past b w c)) (kills (seen past b w c) (serials w)))
    ∙ all_joined (action_keyed k) (map (in_cell c) (fresh (seen past b w c) (wanted past b w c))) (map (in_cell c) (kills (seen past b w c) (serials w)))
    (fresh_keyed k (seen past b w c) c (wanted past b w c) (λ s h. known s (wanted_version past b w c s h)) each) (kills_keyed k (seen past b w c) c (serials w) each)
  where
    each : (s : ℕ) → has_serial s (serials w) ≡ true → k w.message_id s ≡ true
    each s h = known s (sym (any_image (λ n. nat_eq n s) (λ (v : Version). v.serial) w.versions) ∙ h)

over_keyed : (k : ℕ → ℕ → Bool) (past : Past) (b : ℕ) (cs : List Cell) (ws : List Warning) → ((m s : ℕ) → list_any (has_key m s) ws ≡ true → k m s ≡ true) → list_all (action_keyed k) (flat_map (actions_in past b cs) ws) ≡ true
over_keyed k past b cs [] known = refl
over_keyed k past b cs (w ∷ ws) known =
    all_joined (action_keyed k) (actions_in past b cs w) (flat_map (actions_in past b cs) ws)
    (all_flat (action_keyed k) (actions past b w) (λ c. line_keyed k past b w c here) cs)
    (over_keyed k past b cs ws (λ m s h. known m s (or_right (has_key m s w) (list_any (has_key m s) ws) h)))
  where
    here : (s : ℕ) → list_any (is_version s) w.versions ≡ true → k w.message_id s ≡ true
    here s h =
        known w.message_id s (ap (λ t. t || list_any (has_key w.message_id s) ws) (and_from (nat_eq w.message_id w.message_id) (list_any (is_version s) w.versions) (eq-eqb w.message_id w.message_id refl) h))

abbrev pub order_keyed : (ℕ → ℕ → Bool) → Order → Bool
order_keyed k o = keyed k o.kind o.message_id o.serial

pub pending_keyed : (past : Past) (b : ℕ) → list_all (order_keyed (is_key past)) (pending past b) ≡ true
pending_keyed past b = all_pending (keyed (is_key past)) past b (over_keyed (is_key past) past b (cells past) (warnings_of past) (λ m s h. h))

-- What is in flight.

named_key : (k : ℕ → ℕ → Bool) (kind : OrderKind) (m t s : ℕ) → keyed k kind m t ≡ true → (nat_eq t s || replaces kind s) ≡ true → k m s ≡ true
named_key k Write m t s h g = step (nat_eq t s) refl g
  where
    step : (u : Bool) → nat_eq t s ≡ u → (u || false) ≡ true → k m s ≡ true
    step true e l = ap (k m) (sym (eqb-true t s e)) ∙ h
    step false e l = cc
named_key k (Replace old) m t s h g = step (nat_eq t s) refl (nat_eq old s) refl g
  where
    parts : (k m t ≡ true) × (k m old ≡ true)
    parts = and_parts (k m t) (k m old) h

    step : (u : Bool) → nat_eq t s ≡ u → (v : Bool) → nat_eq old s ≡ v → (u || v) ≡ true → k m s ≡ true
    step true e v f l = ap (k m) (sym (eqb-true t s e)) ∙ parts.0
    step false e true f l = ap (k m) (sym (eqb-true old s f)) ∙ parts.1
    step false e false f l = cc
named_key k Kill m t s h g = step (nat_eq t s) refl g
  where
    step : (u : Bool) → nat_eq t s ≡ u → (u || false) ≡ true → k m s ≡ true
    step true e l = ap (k m) (sym (eqb-true t s e)) ∙ h
    step false e l = cc

-- what is in flight names the key
abbrev names_key : ℕ → ℕ → Option InFlight → Bool
names_key m s None = false
names_key m s (Some f) = nat_eq (id_of f) m && names_serial f s

first_keyed : (k : ℕ → ℕ → Bool) (orders : List Order) (m s : ℕ) → list_all (order_keyed k) orders ≡ true → names_key m s (option_map flight.Order (first orders)) ≡ true → k m s ≡ true
first_keyed k [] m s h g = cc
first_keyed k (order ∷ orders) m s h g =
    let parts = and_parts (nat_eq order.message_id m) (nat_eq order.serial s || replaces order.kind s) g in
    ap (λ n. k n s) (sym (eqb-true order.message_id m parts.0))
    ∙ named_key k order.kind order.message_id order.serial s (and_parts (order_keyed k order) (list_all (order_keyed k) orders) h).0 parts.1

-- a query names the current version of a warning in the book
asked_keyed : (past : Past) (b m s : ℕ) (a : Answer) → IsQuery past b a → names_key m s (asked_flight a) ≡ true → is_key past m s ≡ true
asked_keyed past b m s a query h =
    let parts = and_parts (nat_eq query.warning.message_id m) (nat_eq query.serial s) (sym (ap (λ x. names_key m s (asked_flight x)) query.is) ∙ h) in
    found_passes (has_number query.number) (has_key m s) (warnings_of past) query.warning query.found
    (and_from (nat_eq query.warning.message_id m) (list_any (is_version s) query.warning.versions) parts.0
    (sym (ap (λ n. list_any (is_version n) query.warning.versions) (eqb-true query.serial s parts.1)) ∙ current_among query.warning query.serial query.current))

-- A key stays until the warning is forgotten.

any_edited : (k : Warning → Bool) (n : ℕ) (f : Warning → Warning) → ((w : Warning) → k w ≡ true → k (f w) ≡ true) → (ws : List Warning) → list_any k ws ≡ true → list_any k (edited n f ws) ≡ true
any_edited k n f keeps ws h = any_image k (changed_if n f) ws ∙ any_implies k (λ w. k (changed_if n f w)) each ws h
  where
    each : (w : Warning) → k w ≡ true → k (changed_if n f w) ≡ true
    each w e = step (has_number n w)
      where
        step : (t : Bool) → k (if t then f w else w) ≡ true
        step true = keeps w e
        step false = e

key_issued : (notice : Notice) (areas : List (List ℕ)) (o : Option ℕ) (st : State) (m s : ℕ) → list_any (has_key m s) st.warnings ≡ true → list_any (has_key m s) (with_issue notice areas o st).warnings ≡ true
key_issued notice areas None st m s h = h
key_issued notice areas (Some t) st m s h =
    let new : Warning = new_warning (st.issued + 1) notice areas t in
    list_any-append (has_key m s) st.warnings (new ∷ []) ∙ or_left (list_any (has_key m s) st.warnings) (list_any (has_key m s) (new ∷ [])) h

key_edit : (e : Edit) (st : State) (m s : ℕ) → ((n : ℕ) → e ≡ edit.Forget n → list_any (λ w. has_number n w && has_key m s w) st.warnings ≡ false) → list_any (has_key m s) st.warnings ≡ true → list_any (has_key m s) (book_after e st).warnings ≡ true
key_edit (edit.Issue notice areas) st m s left h = key_issued notice areas (new_serial st notice) st m s h
key_edit (edit.Update n content) st m s left h = any_edited (has_key m s) n (updated content) keeps st.warnings h
  where
    keeps : (w : Warning) → has_key m s w ≡ true → has_key m s (updated content w) ≡ true
    keeps w e =
        let parts = and_parts (nat_eq w.message_id m) (list_any (is_version s) w.versions) e in
        and_from (nat_eq w.message_id m) (list_any (is_version s) (with_next content w.versions)) parts.0 (next_keeps content s w.versions parts.1)
key_edit (edit.Widen n a) st m s left h = any_edited (has_key m s) n (book.widened a) (λ w e. e) st.warnings h
key_edit (edit.Narrow n a) st m s left h = any_edited (has_key m s) n (book.narrowed a) (λ w e. e) st.warnings h
key_edit (edit.Stop n) st m s left h = any_edited (has_key m s) n book.stopped (λ w e. e) st.warnings h
key_edit (edit.Forget n) st m s left h = any_but (has_key m s) (has_number n) st.warnings (left n refl) h
key_edit other st m s left h = h

key_event : (e : Event) (before : Past) (m s : ℕ) → ((n : ℕ) → e ≡ event.Edit (edit.Forget n) → list_any (λ w. has_number n w && has_key m s w) (warnings_of before) ≡ false) → is_key before m s ≡ true → list_any (has_key m s) (book_then e (book_of before)).warnings ≡ true
key_event (event.Edit e) before m s left h = key_edit e (book_of before) m s (λ n is. left n (ap event.Edit is)) h
key_event other before m s left h = h

-- what no warning of the number passes is so of none of its that has the key
none_of : (n m s : ℕ) (p : Warning → Bool) (ws : List Warning) → ((w : Warning) → has_key m s w ≡ true → p w ≡ true) → list_any (λ w. has_number n w && p w) ws ≡ false → list_any (λ w. has_number n w && has_key m s w) ws ≡ false
none_of n m s p ws keeps h =
    contrary (list_any (λ w. has_number n w && has_key m s w) ws) (list_any (λ w. has_number n w && p w) ws) (any_implies (λ w. has_number n w && has_key m s w) (λ w. has_number n w && p w) both ws) h
  where
    both : (w : Warning) → (has_number n w && has_key m s w) ≡ true → (has_number n w && p w) ≡ true
    both w e = let parts = and_parts (has_number n w) (has_key m s w) e in and_from (has_number n w) (p w) parts.0 (keeps w parts.1)

flight_there : (f : Option InFlight) (m s : ℕ) → names_key m s f ≡ true → is_some f ≡ true
flight_there None m s h = cc
flight_there (Some f) m s h = refl

-- what is in flight and names a key names each warning that has it
names_its_warning : (f : Option InFlight) (w : Warning) (m s : ℕ) → names_key m s f ≡ true → has_key m s w ≡ true → flight_names w f ≡ true
names_its_warning None w m s h g = cc
names_its_warning (Some f) w m s h g =
    let named = and_parts (nat_eq (id_of f) m) (names_serial f s) h in
    let own = and_parts (nat_eq w.message_id m) (list_any (is_version s) w.versions) g in
    and_from (nat_eq (id_of f) w.message_id) (list_any (λ v. names_serial f v.serial) w.versions)
    (eq-eqb (id_of f) w.message_id (eqb-true (id_of f) m named.0 ∙ sym (eqb-true w.message_id m own.0)))
    (any_implies (is_version s) (λ (v : Version). names_serial f v.serial) (λ v e. ap (names_serial f) (eqb-true v.serial s e) ∙ named.1) w.versions own.1)

-- no warning is forgotten of which a key is in flight
flight_left : (settings : Settings) (before : Past) → Legal settings before → (e : Event) (a : Answer) (b m s n : ℕ) → verdict settings before e ≡ Ok a → e ≡ event.Edit (edit.Forget n) → names_key m s (in_flight before b) ≡ true → list_any (λ w. has_number n w && has_key m s w) (warnings_of before) ≡ false
flight_left settings before legal e a b m s n v is h =
    none_of n m s (is_in_flight before) (warnings_of before) kept (no_check (forget_checks before n) (Ok answer.Done) a forgotten).1.1.1.0
  where
    forgotten : answered settings.network before (event.Edit (edit.Forget n)) ≡ Ok a
    forgotten = sym (ap (answered settings.network before) is) ∙ verdict_answered settings before e a v

    there : list_any (nat_eq b) (bscs before) ≡ true
    there = bsc_named before (legal_unfolded settings before legal) b (flight_bsc settings before legal b (flight_there (in_flight before b) m s h))

    kept : (w : Warning) → has_key m s w ≡ true → is_in_flight before w ≡ true
    kept w g = any_at nat_eq unsigned_Decides (λ d. flight_names w (in_flight before d)) b (bscs before) (names_its_warning (in_flight before b) w m s h g) there

named_flight : (settings : Settings) (past : Past) → Legal settings past → (b m s : ℕ) → names_key m s (in_flight past b) ≡ true → is_key past m s ≡ true
named_flight settings (From base) legal b m s h = flight_none base b (names_key m s) (list_any (has_key m s) base.book.warnings) legal refl h
named_flight settings (After e before) legal b m s h =
    key_event e.event before m s left
    (flight_from settings before e.event e.answer b (names_key m s) (is_key before m s) legal.0 refl (first_keyed (is_key before) (pending before b) m s (pending_keyed before b)) (asked_keyed before b m s) (named_flight settings before legal.1 b m s) h)
  where
    left : (n : ℕ) → e.event ≡ event.Edit (edit.Forget n) → list_any (λ w. has_number n w && has_key m s w) (warnings_of before) ≡ false
    left n is =
        flight_left settings before legal.1 e.event e.answer b m s n legal.0 is
        (sym (ap (λ x. names_key m s (unwrap_or (flight_mark b x e.answer (is_up before b)) (in_flight before b))) is) ∙ h)

-- what is in flight names keys of the book
pub flight_key : (settings : Settings) (past : Past) → Legal settings past → (b : ℕ) (f : InFlight) (s : ℕ) → in_flight past b ≡ Some f → names_serial f s ≡ true → is_key past (id_of f) s ≡ true
flight_key settings past legal b f s e h =
    named_flight settings past legal b (id_of f) s
    (ap (names_key (id_of f) s) e ∙ and_from (nat_eq (id_of f) (id_of f)) (names_serial f s) (eq-eqb (id_of f) (id_of f) refl) h)

-- What is on air or held, or was broadcast.

key_named : (f : Option InFlight) (c : Cell) (m s : ℕ) → names_it f c m s ≡ true → names_key m s f ≡ true
key_named None c m s h = cc
key_named (Some f) c m s h =
    let parts = and_parts (nat_eq (id_of f) m && is_among c (cells_of f)) (names_serial f s) h in
    and_from (nat_eq (id_of f) m) (names_serial f s) (and_parts (nat_eq (id_of f) m) (is_among c (cells_of f)) parts.0).0 parts.1

present_freed : (p : Presence) (h : Option Cause) (n : ℕ) → marks_after Frees (Some 0) p h n ≡ true → is_absent p ≡ false
present_freed Absent h n g = cc
present_freed OnAir h n g = refl
present_freed Unknown h n g = refl

-- a warning of which a key is on air, or may be, is reported
reported : (settings : Settings) (past : Past) → Legal settings past → (b : ℕ) (c : Cell) (m s : ℕ) (w : Warning) → is_absent (presence past b c m s) ≡ false → has_key m s w ≡ true → is_reported past w ≡ true
reported settings past legal b c m s w h g =
    any_at nat_eq unsigned_Decides (is_reported_at past w) b (bscs past)
    (any_at cell_eq cell_decides (is_reported_in past w b) c (cells past) (any_implies (is_version s) (λ (v : Version). is_present past w b c v.serial) present w.versions own.1) (known_presence settings past legal b c m s h))
    (bsc_named past (legal_unfolded settings past legal) b (marked_bsc settings past legal b c m s (present_marked (presence past b c m s) (hold past b c m s) (count past b c m s) h)))
  where
    own : (nat_eq w.message_id m ≡ true) × (list_any (is_version s) w.versions ≡ true)
    own = and_parts (nat_eq w.message_id m) (list_any (is_version s) w.versions) g

    present : (v : Version) → is_version s v ≡ true → is_present past w b c v.serial ≡ true
    present v e =
        ap (λ k. not (is_absent (presence past b c k v.serial))) (eqb-true w.message_id m own.0)
        ∙ ap (λ k. not (is_absent (presence past b c m k))) (eqb-true v.serial s e)
        ∙ ap not h

-- no warning is forgotten of which a key is on air, or may be, and with one that is its holds and numbers end
mark_left : (settings : Settings) (before : Past) → Legal settings before → (e : Event) (a : Answer) (b : ℕ) (c : Cell) (m s n : ℕ) → verdict settings before e ≡ Ok a → e ≡ event.Edit (edit.Forget n) → marks_after (effect (key_kind before m s) b c m s e a (is_up before b) (in_flight before b) (warnings_of before)) (count_mark b c m s e a (in_flight before b) (warnings_of before)) (presence before b c m s) (hold before b c m s) (count before b c m s) ≡ true → list_any (λ w. has_number n w && has_key m s w) (warnings_of before) ≡ false
mark_left settings before legal e a b c m s n v is h = step (list_any (λ w. has_number n w && has_key m s w) (warnings_of before)) refl marked
  where
    forgotten : answered settings.network before (event.Edit (edit.Forget n)) ≡ Ok a
    forgotten = sym (ap (answered settings.network before) is) ∙ verdict_answered settings before e a v

    marked : marks_after (effect (key_kind before m s) b c m s (event.Edit (edit.Forget n)) a (is_up before b) (in_flight before b) (warnings_of before)) (count_mark b c m s (event.Edit (edit.Forget n)) a (in_flight before b) (warnings_of before)) (presence before b c m s) (hold before b c m s) (count before b c m s) ≡ true
    marked = sym (ap (λ x. marks_after (effect (key_kind before m s) b c m s x a (is_up before b) (in_flight before b) (warnings_of before)) (count_mark b c m s x a (in_flight before b) (warnings_of before)) (presence before b c m s) (hold before b c m s) (count before b c m s)) is) ∙ h

    step : (t : Bool) → list_any (λ w. has_number n w && has_key m s w) (warnings_of before) ≡ t → marks_after (if t then Frees else Leaves) (if t then Some 0 else None) (presence before b c m s) (hold before b c m s) (count before b c m s) ≡ true → list_any (λ w. has_number n w && has_key m s w) (warnings_of before) ≡ false
    step true f g =
        none_of n m s (is_reported before) (warnings_of before) (λ w k. reported settings before legal b c m s w (present_freed (presence before b c m s) (hold before b c m s) (count before b c m s) g) k) (no_check (forget_checks before n) (Ok answer.Done) a forgotten).1.1.0
    step false f g = f

pub marked_key : (settings : Settings) (past : Past) → Legal settings past → (b : ℕ) (c : Cell) (m s : ℕ) → is_marked past b c m s ≡ true → is_key past m s ≡ true
marked_key settings (From base) legal b c m s h = no_mark base b c m s (list_any (has_key m s) base.book.warnings) legal h
marked_key settings (After e before) legal b c m s h =
    key_event e.event before m s (λ n is. mark_left settings before legal.1 e.event e.answer b c m s n legal.0 is h)
    (event_marks (is_key before m s) (key_kind before m s) b c m s e.event e.answer (is_up before b) (in_flight before b) (warnings_of before) (presence before b c m s) (hold before b c m s) (count before b c m s) (λ n. named_flight settings before legal.1 b m s (key_named (in_flight before b) c m s n)) (marked_key settings before legal.1 b c m s) h)

-- a key that no warning in the book has is nowhere on air, and nowhere held, and was broadcast nowhere

pub unknown_key_presence : (settings : Settings) (past : Past) → Legal settings past → (b : ℕ) (c : Cell) (m s : ℕ) → is_key past m s ≡ false → presence past b c m s ≡ Absent
unknown_key_presence settings past legal b c m s h =
    no_presence (presence past b c m s) (hold past b c m s) (count past b c m s) (contrary (is_marked past b c m s) (is_key past m s) (marked_key settings past legal b c m s) h)

pub unknown_key_hold : (settings : Settings) (past : Past) → Legal settings past → (b : ℕ) (c : Cell) (m s : ℕ) → is_key past m s ≡ false → hold past b c m s ≡ None
unknown_key_hold settings past legal b c m s h =
    no_hold (presence past b c m s) (hold past b c m s) (count past b c m s) (contrary (is_marked past b c m s) (is_key past m s) (marked_key settings past legal b c m s) h)

pub unknown_key_count : (settings : Settings) (past : Past) → Legal settings past → (b : ℕ) (c : Cell) (m s : ℕ) → is_key past m s ≡ false → count past b c m s ≡ 0
unknown_key_count settings past legal b c m s h =
    no_count (presence past b c m s) (hold past b c m s) (count past b c m s) (contrary (is_marked past b c m s) (is_key past m s) (marked_key settings past legal b c m s) h)
