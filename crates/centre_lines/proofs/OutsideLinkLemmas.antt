-- Lines on which an event of a link, or a Retry, does not bear have the same part after it.
use Rattle.std.proofs.Common.{◌≡◌, ℕ, Bool, true, false, ◌&&◌, ◌||◌, nat_eq, List, Option, Some, None, unwrap_or, map, refl, sym, ◌∙◌, ap, subst, eqb-true}
use Rattle.std.specs.Prelude.{if◌then◌else◌}
use Rattle.std.specs.Cmp.{unsigned_Decides}
use Rattle.std.specs.List.{list_any}
use Rattle.std.specs.Option.{is_some}
use Rattle.std.proofs.lemmas.Bool.{and_parts, and_from}
use Rattle.cbsp_messages.specs.declared.message.Message.{Message}
use Rattle.common.specs.OnceLaws.{turned}
use Rattle.common.specs.declared.cell.Cell.{Cell}
use Rattle.kept_tables.specs.Same.{SamePart}
use Rattle.kept_tables.specs.View.{spot_eq}
use Rattle.mirror.specs.declared.line_key.LineKey.{LineKey}
use Rattle.warning_book.specs.Book.{kind_of, warning_of}
use Rattle.warning_book.specs.declared.version.Version.{Version}
use Rattle.warning_book.specs.declared.warning.Warning.{Warning}
use Rattle.centre_events.specs.Counts.{replied_count, report_count}
use Rattle.centre_events.specs.Down.{is_down, says_down, listed_down}
use Rattle.centre_events.specs.Effects.{is_among, new_effect, old_effect, replaces, query_effect, flight_effect, outcome_in, said_effect, indicated_effect, report_effect, state_after}
use Rattle.centre_events.specs.Facts.{key_state}
use Rattle.centre_past.specs.Facts.{facts_of}
use Rattle.centre_events.specs.InFlight.{in_flight, id_of, cells_of}
use Rattle.centre_events.specs.Known.{is_known}
use Rattle.centre_past.specs.Legal.{Legal}
use Rattle.centre_events.specs.Links.{is_up}
use Rattle.centre_events.specs.Past.{Past, After}
use Rattle.centre_past.specs.Reach.{bears, spot, numbers_where, flight_reach, report_reach}
use Rattle.centre_events.specs.Reported.{names_serial, names_warning}
use Rattle.centre_events.specs.Warnings.{book_of, is_version, key_kind}
use Rattle.centre_events.specs.declared.answer.Answer.{Answer}
use Rattle.centre_events.specs.declared.answer.Answer.TheVariants.{Replied, Listed}
use Rattle.centre_events.specs.declared.effect.Effect.TheVariants.{Frees, Leaves}
use Rattle.centre_events.specs.declared.event.Event.TheVariants as event
use Rattle.centre_events.specs.declared.in_flight.InFlight.{InFlight}
use Rattle.centre_events.specs.declared.in_flight.InFlight.TheVariants as flight
use Rattle.centre_events.specs.declared.outcome.Outcome.{Outcome}
use Rattle.centre_events.specs.declared.outcome.Outcome.TheVariants.{Silent}
use Rattle.centre_events.specs.declared.reply.Reply.{Reply}
use Rattle.centre_events.specs.declared.settings.Settings.{Settings}
use Rattle.centre_past.proofs.AnyLemmas.{contrary, any_implies}
use Rattle.centre_past.proofs.LineLemmas.{same_kept, same_none, unknown_blank, entry_of, Outside}
use Rattle.centre_lines.proofs.ReachLemmas.{not_there, number_there, spot_among, not_known}
use Rattle.centre_past.proofs.ReportedLemmas.{names_it, replied_named}

-- A Retry: a cell that is known at its BSC is one of those on which it bears.

pub outside_retry : (settings : Settings) (past : Past) → Legal settings past → (desk other : ℕ) (a : Answer) → Outside past desk (event.Retry other) a
outside_retry settings past legal desk other a k h = step (warning_of (book_of past) k.warning) refl
  where
    new : Past
    new = After (entry_of desk (event.Retry other) a) past

    unknown : (w : Warning) → warning_of (book_of past) k.warning ≡ Some w → nat_eq other k.bsc ≡ true → is_known past k.bsc k.cell ≡ false
    unknown = not_known settings past legal other k h

    step : (o : Option Warning) → warning_of (book_of past) k.warning ≡ o → SamePart (facts_of past k.bsc k.cell o) (facts_of new k.bsc k.cell o)
    step None e = same_none past new k.bsc k.cell
    step (Some w) e = same_kept past new k.bsc k.cell w refl refl refl (λ s there. at s there (nat_eq other k.bsc) refl)
      where
        at : (s : ℕ) → list_any (is_version s) w.versions ≡ true → (t : Bool) → nat_eq other k.bsc ≡ t → state_after (if t then Frees else Leaves) None (key_state past k.bsc k.cell w.message_id s) ≡ key_state past k.bsc k.cell w.message_id s
        at s there true same =
            let none = unknown_blank past k.bsc k.cell k.warning w (unknown w e same) e s there in
            ap (state_after Frees None) none ∙ sym none
        at s there false other = refl

-- What is in flight.

-- it leaves the keys that it does not name
flight_left : (f : InFlight) (o : Outcome) (c : Cell) (m s : ℕ) → ((nat_eq (id_of f) m && is_among c (cells_of f)) && names_serial f s) ≡ false → flight_effect (Some f) o c m s ≡ Leaves
flight_left (flight.Order order) o c m s h = step (nat_eq order.message_id m && is_among c order.cells) (nat_eq order.serial s) (replaces order.kind s) h
  where
    step : (x y z : Bool) → (x && (y || z)) ≡ false → (if x then (if y then new_effect order.kind o else (if z then old_effect o else Leaves)) else Leaves) ≡ Leaves
    step true true z g = cc
    step true false true g = cc
    step true false false g = refl
    step false y z g = refl
flight_left (flight.Query n t cs) o c m s h = step ((nat_eq n m && is_among c cs) && nat_eq t s) h
  where
    step : (x : Bool) → x ≡ false → (if x then query_effect o else Leaves) ≡ Leaves
    step true g = cc
    step false g = refl

-- on what it names it bears: elsewhere it names no key of a warning in the book
unnamed_key : (past : Past) (k : LineKey) (w : Warning) → warning_of (book_of past) k.warning ≡ Some w → (f : Option InFlight) → bears (flight_reach past k.bsc f) k ≡ false → (s : ℕ) → list_any (is_version s) w.versions ≡ true → names_it f k.cell w.message_id s ≡ false
unnamed_key past k w e None g s there = refl
unnamed_key past k w e (Some f) g s there = contrary (names_it (Some f) k.cell w.message_id s) (bears (flight_reach past k.bsc (Some f)) k) reached g
  where
    reached : names_it (Some f) k.cell w.message_id s ≡ true → bears (flight_reach past k.bsc (Some f)) k ≡ true
    reached named =
        let parts = and_parts (nat_eq (id_of f) w.message_id && is_among k.cell (cells_of f)) (names_serial f s) named in
        let both = and_parts (nat_eq (id_of f) w.message_id) (is_among k.cell (cells_of f)) parts.0 in
        let version : list_any (λ (v : Version). names_serial f v.serial) w.versions ≡ true = any_implies (is_version s) (λ (v : Version). names_serial f v.serial) (λ v same. ap (names_serial f) (eqb-true v.serial s same) ∙ parts.1) w.versions there in
        and_from (list_any (spot_eq (spot k.bsc k.cell)) (map (spot k.bsc) (cells_of f))) (list_any (nat_eq k.warning) (numbers_where past (names_warning f)))
        (spot_among k.bsc k.bsc k.cell (cells_of f) ∙ and_from (nat_eq k.bsc k.bsc) (is_among k.cell (cells_of f)) ((unsigned_Decides k.bsc k.bsc).1 refl) both.1)
        (number_there past (names_warning f) k.warning w e (and_from (nat_eq (id_of f) w.message_id) (list_any (λ (v : Version). names_serial f v.serial) w.versions) both.0 version))

-- so it does nothing there
pub flight_keys : (past : Past) (k : LineKey) (w : Warning) → warning_of (book_of past) k.warning ≡ Some w → bears (flight_reach past k.bsc (in_flight past k.bsc)) k ≡ false → (o : Outcome) (s : ℕ) → list_any (is_version s) w.versions ≡ true → flight_effect (in_flight past k.bsc) o k.cell w.message_id s ≡ Leaves
flight_keys past k w e h o s there = step (in_flight past k.bsc) (unnamed_key past k w e (in_flight past k.bsc) h s there)
  where
    step : (f : Option InFlight) → names_it f k.cell w.message_id s ≡ false → flight_effect f o k.cell w.message_id s ≡ Leaves
    step None g = refl
    step (Some f) g = flight_left f o k.cell w.message_id s g

no_number : (n : Option ℕ) → is_some n ≡ false → n ≡ None
no_number None h = refl
no_number (Some x) h = cc

-- and no number of broadcasts is reported there
count_keys : (past : Past) (k : LineKey) (w : Warning) → warning_of (book_of past) k.warning ≡ Some w → bears (flight_reach past k.bsc (in_flight past k.bsc)) k ≡ false → (replies : List Reply) (s : ℕ) → list_any (is_version s) w.versions ≡ true → replied_count (in_flight past k.bsc) replies k.cell w.message_id s ≡ None
count_keys past k w e h replies s there =
    no_number (replied_count (in_flight past k.bsc) replies k.cell w.message_id s)
    (contrary (is_some (replied_count (in_flight past k.bsc) replies k.cell w.message_id s)) (names_it (in_flight past k.bsc) k.cell w.message_id s) (replied_named (in_flight past k.bsc) replies k.cell w.message_id s) (unnamed_key past k w e (in_flight past k.bsc) h s there))

-- the same where the line's BSC is that of the event
flight_at : (past : Past) (other : ℕ) (k : LineKey) → bears (flight_reach past other (in_flight past other)) k ≡ false → nat_eq other k.bsc ≡ true → bears (flight_reach past k.bsc (in_flight past k.bsc)) k ≡ false
flight_at past other k h same = subst (λ b. bears (flight_reach past b (in_flight past b)) k ≡ false) (eqb-true other k.bsc same) h

pub outside_link_up : (past : Past) (desk other : ℕ) (a : Answer) → Outside past desk (event.LinkUp other) a
outside_link_up past desk other a k h = step (warning_of (book_of past) k.warning) refl
  where
    new : Past
    new = After (entry_of desk (event.LinkUp other) a) past

    step : (o : Option Warning) → warning_of (book_of past) k.warning ≡ o → SamePart (facts_of past k.bsc k.cell o) (facts_of new k.bsc k.cell o)
    step None e = same_none past new k.bsc k.cell
    step (Some w) e = same_kept past new k.bsc k.cell w refl refl refl (λ s there. at s there (nat_eq other k.bsc) refl (is_up past k.bsc))
      where
        at : (s : ℕ) → list_any (is_version s) w.versions ≡ true → (t : Bool) → nat_eq other k.bsc ≡ t → (u : Bool) → state_after (if t && u then flight_effect (in_flight past k.bsc) Silent k.cell w.message_id s else Leaves) None (key_state past k.bsc k.cell w.message_id s) ≡ key_state past k.bsc k.cell w.message_id s
        at s there true same true = ap (λ x. state_after x None (key_state past k.bsc k.cell w.message_id s)) (flight_keys past k w e (flight_at past other k h same) Silent s there)
        at s there true same false = refl
        at s there false other u = refl

pub outside_link_down : (past : Past) (desk other generation : ℕ) (a : Answer) → Outside past desk (event.LinkDown other generation) a
outside_link_down past desk other generation a k h = step (warning_of (book_of past) k.warning) refl
  where
    new : Past
    new = After (entry_of desk (event.LinkDown other generation) a) past

    step : (o : Option Warning) → warning_of (book_of past) k.warning ≡ o → SamePart (facts_of past k.bsc k.cell o) (facts_of new k.bsc k.cell o)
    step None e = same_none past new k.bsc k.cell
    step (Some w) e = same_kept past new k.bsc k.cell w refl refl refl (λ s there. at s there (nat_eq other k.bsc) refl)
      where
        at : (s : ℕ) → list_any (is_version s) w.versions ≡ true → (t : Bool) → nat_eq other k.bsc ≡ t → state_after (if t then flight_effect (in_flight past k.bsc) Silent k.cell w.message_id s else Leaves) None (key_state past k.bsc k.cell w.message_id s) ≡ key_state past k.bsc k.cell w.message_id s
        at s there true same = ap (λ x. state_after x None (key_state past k.bsc k.cell w.message_id s)) (flight_keys past k w e (flight_at past other k h same) Silent s there)
        at s there false other = refl

-- A Send puts an order in flight, and nothing on air.

pub outside_send : (past : Past) (desk other generation : ℕ) (a : Answer) → Outside past desk (event.Send other generation) a
outside_send past desk other generation a k h = record { line = refl; deeds = refl; total = refl; area = λ x. refl }

-- An Ask puts a query in flight, and nothing on air.

pub outside_ask : (past : Past) (desk other generation n : ℕ) (after : Option Cell) (a : Answer) → Outside past desk (event.Ask other generation n after) a
outside_ask past desk other generation n after a k h = record { line = refl; deeds = refl; total = refl; area = λ x. refl }

-- A Report.

-- where it leaves the keys of the line's BSC, reports no number of them and brings nothing there down or up
report_kept : (past : Past) (desk other generation : ℕ) (message : Message) (a : Answer) (k : LineKey) → (nat_eq other k.bsc ≡ true → (w : Warning) → warning_of (book_of past) k.warning ≡ Some w → (listed_down (kind_of w) k.cell message a ≡ None) × ((s : ℕ) → list_any (is_version s) w.versions ≡ true → (report_effect (key_kind past w.message_id s) message a (in_flight past k.bsc) k.cell w.message_id s ≡ Leaves) × (report_count a (in_flight past k.bsc) k.cell w.message_id s ≡ None))) → SamePart (facts_of past k.bsc k.cell (warning_of (book_of past) k.warning)) (facts_of (After (entry_of desk (event.Report other generation message) a) past) k.bsc k.cell (warning_of (book_of past) k.warning))
report_kept past desk other generation message a k left = step (warning_of (book_of past) k.warning) refl
  where
    new : Past
    new = After (entry_of desk (event.Report other generation message) a) past

    step : (o : Option Warning) → warning_of (book_of past) k.warning ≡ o → SamePart (facts_of past k.bsc k.cell o) (facts_of new k.bsc k.cell o)
    step None e = same_none past new k.bsc k.cell
    step (Some w) e = same_kept past new k.bsc k.cell w refl refl (down (nat_eq other k.bsc) refl) (λ s there. at s there (nat_eq other k.bsc) refl)
      where
        down : (t : Bool) → nat_eq other k.bsc ≡ t → is_down past (kind_of w) k.bsc k.cell ≡ unwrap_or (if t then listed_down (kind_of w) k.cell message a else None) (is_down past (kind_of w) k.bsc k.cell)
        down true same = ap (λ o. unwrap_or o (is_down past (kind_of w) k.bsc k.cell)) (sym (left same w e).0)
        down false other = refl

        at : (s : ℕ) → list_any (is_version s) w.versions ≡ true → (t : Bool) → nat_eq other k.bsc ≡ t → state_after (if t then report_effect (key_kind past w.message_id s) message a (in_flight past k.bsc) k.cell w.message_id s else Leaves) (if t then report_count a (in_flight past k.bsc) k.cell w.message_id s else None) (key_state past k.bsc k.cell w.message_id s) ≡ key_state past k.bsc k.cell w.message_id s
        at s there true same = let it = (left same w e).1 s there in λ i. state_after (it.0 i) (it.1 i) (key_state past k.bsc k.cell w.message_id s)
        at s there false other = refl

pub outside_report : (past : Past) (desk other generation : ℕ) (message : Message) (a : Answer) → Outside past desk (event.Report other generation message) a
outside_report past desk other generation message (Replied replies) k h =
    report_kept past desk other generation message (Replied replies) k (λ same w e. (refl, λ s there. (said w (flight_keys past k w e (flight_at past other k h same)) s there (outcome_in k.cell replies), count_keys past k w e (flight_at past other k h same) replies s there)))
  where
    said : (w : Warning) → ((o : Outcome) (s : ℕ) → list_any (is_version s) w.versions ≡ true → flight_effect (in_flight past k.bsc) o k.cell w.message_id s ≡ Leaves) → (s : ℕ) → list_any (is_version s) w.versions ≡ true → (o : Option Outcome) → said_effect o (in_flight past k.bsc) k.cell w.message_id s ≡ Leaves
    said w keys s there None = refl
    said w keys s there (Some o) = keys o s there
outside_report past desk other generation message (Listed cells) k h =
    report_kept past desk other generation message (Listed cells) k (λ same w e. (ap (λ t. if t then says_down (kind_of w) message else None) (unlisted same w e), λ s there. (ap (λ t. if t then indicated_effect (key_kind past w.message_id s) message else Leaves) (unlisted same w e), refl)))
  where
    unlisted : nat_eq other k.bsc ≡ true → (w : Warning) → warning_of (book_of past) k.warning ≡ Some w → is_among k.cell cells ≡ false
    unlisted same w e =
        contrary (is_among k.cell cells) (list_any (spot_eq (spot k.bsc k.cell)) (map (spot other) cells))
        (λ listed. spot_among other k.bsc k.cell cells ∙ and_from (nat_eq k.bsc other) (is_among k.cell cells) (turned nat_eq unsigned_Decides k.bsc other ∙ same) listed)
        (not_there (report_reach past other (Listed cells)) k h (number_there past (λ v. true) k.warning w e refl))
outside_report past desk other generation message a k h = report_kept past desk other generation message a k (λ same w e. (refl, λ s there. (refl, refl)))
