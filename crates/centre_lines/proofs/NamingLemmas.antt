-- What is in flight names versions of one warning alone: an order replaces a version of the warning that it writes.
use Rattle.std.proofs.Common.{◌≡◌, arith, ℕ, ◌+◌, ◌≤◌, Bool, true, false, ◌||◌, not, nat_eq, List, [], ◌∷◌, ◌++◌, Option, Some, None, length, map, filter, cond, refl, sym, ◌∙◌, ap, eqb-true, eq-eqb}
use Rattle.std.specs.Prelude.{if◌then◌else◌}
use Rattle.std.specs.List.{list_any, list_all, flat_map}
use Rattle.std.specs.Option.{option_map}
use Rattle.std.proofs.lemmas.Bool.{and_parts, and_from}
use Rattle.std.proofs.lemmas.List.{length-map}
use Rattle.serials.specs.Serials.{code_of}
use Rattle.common.specs.Sums.{one, count_of}
use Rattle.common.specs.declared.cell.Cell.{Cell}
use Rattle.mirror.specs.Seen.{Seen}
use Rattle.order_maker.specs.Actions.{in_cell, deed, needs, replaced, fresh_kind, fresh, is_to_kill, kills}
use Rattle.order_maker.specs.Grouping.{first}
use Rattle.order_maker.specs.declared.action.Action.{Action}
use Rattle.order_maker.specs.declared.order.Order.{Order}
use Rattle.order_maker.specs.declared.order_kind.OrderKind.{OrderKind}
use Rattle.order_maker.specs.declared.order_kind.OrderKind.TheVariants.{Write, Replace, Kill}
use Rattle.warning_book.specs.Book.{current_of, code_in}
use Rattle.warning_book.specs.Sound.{has_one_code, key_of, is_same_code, is_same_key}
use Rattle.warning_book.specs.declared.version.Version.{Version}
use Rattle.warning_book.specs.declared.warning.Warning.{Warning}
use Rattle.centre_events.specs.Effects.{replaces}
use Rattle.centre_events.specs.InFlight.{in_flight, asked_flight, id_of}
use Rattle.centre_past.specs.Legal.{Legal}
use Rattle.centre_events.specs.Lines.{seen}
use Rattle.centre_events.specs.Past.{Past, From, After}
use Rattle.centre_events.specs.Pending.{actions, actions_in, pending}
use Rattle.centre_events.specs.Places.{cells}
use Rattle.centre_events.specs.Plan.{wants, wanted}
use Rattle.centre_past.specs.Reach.{numbers_where}
use Rattle.centre_events.specs.Reported.{names_serial, names_warning}
use Rattle.centre_events.specs.Warnings.{book_of, warnings_of, serials}
use Rattle.centre_events.specs.declared.answer.Answer.{Answer}
use Rattle.centre_events.specs.declared.in_flight.InFlight.{InFlight}
use Rattle.centre_events.specs.declared.in_flight.InFlight.TheVariants as flight
use Rattle.centre_events.specs.declared.settings.Settings.{Settings}
use Rattle.centre_past.proofs.ActingLemmas.{has_serial}
use Rattle.centre_past.proofs.AnyLemmas.{all_flat, all_joined}
use Rattle.centre_past.proofs.AskLemmas.{IsQuery}
use Rattle.centre_past.proofs.GroupingLemmas.{all_pending}
use Rattle.centre_past.proofs.KeyLemmas.{replaced_version}
use Rattle.centre_past.proofs.KnownLemmas.{flight_from, flight_none}
use Rattle.centre_events.proofs.PastLemmas.{any_image, map_joined}
use Rattle.centre_past.proofs.UniqueLemmas.{code_among, unique_by}
use Rattle.centre_past.proofs.WarningLemmas.{legal_sound}

-- The pending orders.

-- what an order replaces has the code of what it writes
abbrev keeps_code : OrderKind → ℕ → ℕ → Bool
keeps_code Write m s = true
keeps_code (Replace old) m s = nat_eq (code_of s) (code_of old)
keeps_code Kill m s = true

abbrev action_keeps : Action → Bool
action_keeps a = keeps_code a.kind a.message_id a.serial

abbrev order_keeps : Order → Bool
order_keeps o = keeps_code o.kind o.message_id o.serial

kills_keep : (v : Seen) (c : Cell) (ts : List ℕ) → list_all action_keeps (map (in_cell c) (kills v ts)) ≡ true
kills_keep v c [] = refl
kills_keep v c (t ∷ ts) = step (kills_keep v c ts) (is_to_kill v t)
  where
    step : list_all action_keeps (map (in_cell c) (kills v ts)) ≡ true → (u : Bool) → list_all action_keeps (map (in_cell c) ((if u then deed v Kill t ∷ [] else []) ++ kills v ts)) ≡ true
    step rest true = rest
    step rest false = rest

fresh_keeps : (v : Seen) (c : Cell) (o : Option ℕ) → ((s old : ℕ) → o ≡ Some s → has_serial old v.versions ≡ true → nat_eq (code_of s) (code_of old) ≡ true) → list_all action_keeps (map (in_cell c) (fresh v o)) ≡ true
fresh_keeps v c None coded = refl
fresh_keeps v c (Some s) coded = step (needs v s) (replaced v s) refl
  where
    step : (t : Bool) (r : Option ℕ) → replaced v s ≡ r → list_all action_keeps (map (in_cell c) (if t then deed v (fresh_kind r) s ∷ [] else [])) ≡ true
    step true None e = refl
    step true (Some old) e = and_from (nat_eq (code_of s) (code_of old)) true (coded s old refl (replaced_version v s old e)) refl
    step false r e = refl

-- what is wanted is the current version
wanted_current : (past : Past) (b : ℕ) (w : Warning) (c : Cell) (s : ℕ) → wanted past b w c ≡ Some s → current_of w ≡ Some s
wanted_current past b w c s h = step (wants past b w c) h
  where
    step : (t : Bool) → (if t then current_of w else None) ≡ Some s → current_of w ≡ Some s
    step true e = e
    step false e = cc

line_keeps : (past : Past) (b : ℕ) (w : Warning) → has_one_code w ≡ true → (c : Cell) → list_all action_keeps (actions past b w c) ≡ true
line_keeps past b w shared c =
    ap (list_all action_keeps) (map_joined (in_cell c) (fresh (seen past b w c) (wanted past b w c)) (kills (seen past b w c) (serials w)))
    ∙ all_joined action_keeps (map (in_cell c) (fresh (seen past b w c) (wanted past b w c))) (map (in_cell c) (kills (seen past b w c) (serials w)))
    (fresh_keeps (seen past b w c) c (wanted past b w c) coded) (kills_keep (seen past b w c) c (serials w))
  where
    coded : (s old : ℕ) → wanted past b w c ≡ Some s → has_serial old (serials w) ≡ true → nat_eq (code_of s) (code_of old) ≡ true
    coded s old e h =
        sym (ap (λ o. is_same_code (option_map code_of o) (Some (code_of old))) (wanted_current past b w c s e))
        ∙ code_among w (λ t. nat_eq t old) (code_of old) shared (λ t same. ap code_of (eqb-true t old same)) (sym (any_image (λ t. nat_eq t old) (λ (v : Version). v.serial) w.versions) ∙ h)

over_keeps : (past : Past) (b : ℕ) (cs : List Cell) (ws : List Warning) → list_all has_one_code ws ≡ true → list_all action_keeps (flat_map (actions_in past b cs) ws) ≡ true
over_keeps past b cs [] h = refl
over_keeps past b cs (w ∷ ws) h =
    let parts = and_parts (has_one_code w) (list_all has_one_code ws) h in
    all_joined action_keeps (actions_in past b cs w) (flat_map (actions_in past b cs) ws)
    (all_flat action_keeps (actions past b w) (line_keeps past b w parts.0) cs) (over_keeps past b cs ws parts.1)

pending_keeps : (settings : Settings) (past : Past) → Legal settings past → (b : ℕ) → list_all order_keeps (pending past b) ≡ true
pending_keeps settings past legal b =
    all_pending keeps_code past b (over_keeps past b (cells past) (warnings_of past) (legal_sound settings past legal).codes)

-- What is in flight.

-- it replaces a version of another code
abbrev mixes : Option InFlight → Bool
mixes None = false
mixes (Some (flight.Order order)) = not (order_keeps order)
mixes (Some (flight.Query message_id serial cells)) = false

first_keeps : (orders : List Order) → list_all order_keeps orders ≡ true → mixes (option_map flight.Order (first orders)) ≡ true → false ≡ true
first_keeps [] h g = g
first_keeps (order ∷ orders) h g = sym (ap not (and_parts (order_keeps order) (list_all order_keeps orders) h).0) ∙ g

asked_keeps : (past : Past) (b : ℕ) (a : Answer) → IsQuery past b a → mixes (asked_flight a) ≡ true → false ≡ true
asked_keeps past b a query h = sym (ap (λ x. mixes (asked_flight x)) query.is) ∙ h

flight_mixes : (settings : Settings) (past : Past) → Legal settings past → (b : ℕ) → mixes (in_flight past b) ≡ true → false ≡ true
flight_mixes settings (From base) legal b h = flight_none base b mixes false legal refl h
flight_mixes settings (After e before) legal b h =
    flight_from settings before e.event e.answer b mixes false legal.0 refl (first_keeps (pending before b) (pending_keeps settings before legal.1 b)) (asked_keeps before b) (flight_mixes settings before legal.1 b) h

-- the serial number of what it writes, kills or asks for
abbrev serial_in : InFlight → ℕ
serial_in (flight.Order order) = order.serial
serial_in (flight.Query message_id serial cells) = serial

-- each serial number that it names has one code
named_code : (f : InFlight) → (mixes (Some f) ≡ true → false ≡ true) → (s : ℕ) → names_serial f s ≡ true → code_of s ≡ code_of (serial_in f)
named_code (flight.Order order) kept s h = step order.kind kept (nat_eq order.serial s) refl h
  where
    same : (kind : OrderKind) → (not (keeps_code kind order.message_id order.serial) ≡ true → false ≡ true) → replaces kind s ≡ true → code_of s ≡ code_of order.serial
    same Write k g = cc
    same (Replace old) k g = ap code_of (sym (eqb-true old s g)) ∙ sym (eqb-true (code_of order.serial) (code_of old) (earlier (nat_eq (code_of order.serial) (code_of old)) k))
      where
        earlier : (t : Bool) → (not t ≡ true → false ≡ true) → t ≡ true
        earlier true l = refl
        earlier false l = l refl
    same Kill k g = cc

    step : (kind : OrderKind) → (not (keeps_code kind order.message_id order.serial) ≡ true → false ≡ true) → (t : Bool) → nat_eq order.serial s ≡ t → (t || replaces kind s) ≡ true → code_of s ≡ code_of order.serial
    step kind k true e g = ap code_of (sym (eqb-true order.serial s e))
    step kind k false e g = same kind k g
named_code (flight.Query message_id serial cells) kept s h = ap code_of (sym (eqb-true serial s h))

named_warning : (f : InFlight) → (mixes (Some f) ≡ true → false ≡ true) → (w : Warning) → has_one_code w ≡ true → names_warning f w ≡ true → is_same_key (key_of w) (id_of f, Some (code_of (serial_in f))) ≡ true
named_warning f kept w shared h =
    let parts = and_parts (nat_eq (id_of f) w.message_id) (list_any (λ (v : Version). names_serial f v.serial) w.versions) h in
    and_from (nat_eq w.message_id (id_of f)) (is_same_code (code_in w) (Some (code_of (serial_in f)))) (eq-eqb w.message_id (id_of f) (sym (eqb-true (id_of f) w.message_id parts.0)))
    (code_among w (names_serial f) (code_of (serial_in f)) shared (named_code f kept) parts.1)

counted : {X : Type 0} (p : X → Bool) (xs : List X) → length (filter p xs) ≡ count_of p xs
counted p [] = refl
counted {X} p (x ∷ xs) = step (counted p xs) (p x)
  where
    step : length (filter p xs) ≡ count_of p xs → (t : Bool) → length (cond t (x ∷ filter p xs) (filter p xs)) ≡ one t + count_of p xs
    step rest true = omega arith
    step rest false = omega arith

-- it bears on one warning at most
pub reach_counts : (settings : Settings) (past : Past) → Legal settings past → (b : ℕ) (f : InFlight) → in_flight past b ≡ Some f → length (numbers_where past (names_warning f)) ≤ 1
reach_counts settings past legal b f e =
    let few : count_of (names_warning f) (book_of past).warnings ≤ 1 = unique_by (names_warning f) (id_of f) (code_of (serial_in f)) (named_warning f (λ m. flight_mixes settings past legal b (ap mixes e ∙ m))) (book_of past) (legal_sound settings past legal) in
    let size : length (filter (names_warning f) (warnings_of past)) ≡ count_of (names_warning f) (book_of past).warnings = counted (names_warning f) (warnings_of past) in
    let images : length (numbers_where past (names_warning f)) ≡ length (filter (names_warning f) (warnings_of past)) = length-map (filter (names_warning f) (warnings_of past)) (λ (w : Warning). w.number) in
    omega arith
