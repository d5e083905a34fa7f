-- What is read of a line after an event is what the past with it says.
use Rattle.std.proofs.Common.{◌≡◌, ℕ, Bool, true, false, ◌&&◌, ◌||◌, nat_eq, List, [], ◌∷◌, Option, Some, None, Ok, cond, refl, sym, ◌∙◌, ap, eqb-true, eq-eqb}
use Rattle.std.specs.Prelude.{find, if◌then◌else◌}
use Rattle.std.specs.List.{list_any}
use Rattle.std.proofs.lemmas.Bool.{or_right, and_from}
use Rattle.common.specs.declared.cell.Cell.{Cell}
use Rattle.coverage_plan.specs.Plan.{State}
use Rattle.kept_tables.specs.Tables.{Tables}
use Rattle.mirror.specs.Line.{state_of, with_state}
use Rattle.mirror.specs.Table.{down_at}
use Rattle.mirror.specs.declared.line.Line.{Line}
use Rattle.mirror.specs.declared.line_key.LineKey.{LineKey}
use Rattle.warning_book.specs.Book.{has_number, kind_of, warning_of, without}
use Rattle.warning_book.specs.Laws.{found_without, so_without}
use Rattle.warning_book.specs.declared.warning.Warning.{Warning}
use Rattle.centre_events.specs.Counts.{report_count, edit_count, count_mark, count_at}
use Rattle.centre_events.specs.Down.{is_down}
use Rattle.centre_events.specs.Effects.{state_after, report_effect, flight_effect}
use Rattle.centre_events.specs.Facts.{IsLineOf}
use Rattle.centre_past.specs.Facts.{facts}
use Rattle.centre_past.specs.Links.{up_before}
use Rattle.centre_lines.specs.Following.{Happens, line_now, facts_then, flight_before, entry_of}
use Rattle.centre_events.specs.InFlight.{in_flight}
use Rattle.centre_events.specs.Kept.{IsRegisterOf, AreAreasOf}
use Rattle.centre_past.specs.Legal.{Legal}
use Rattle.centre_events.specs.Links.{is_up}
use Rattle.centre_events.specs.Past.{Past, After}
use Rattle.centre_events.specs.Presence.{effect, effect_at, edit_effect}
use Rattle.centre_events.specs.Stepping.{stepped}
use Rattle.centre_events.specs.Verdict.{verdict}
use Rattle.centre_events.specs.Warnings.{book_of, book_then, warnings_of, has_key, key_kind, kind_in, serials, is_version}
use Rattle.centre_events.specs.declared.answer.Answer.{Answer}
use Rattle.coverage_plan.specs.declared.edit.Edit.{Edit}
use Rattle.coverage_plan.specs.declared.edit.Edit.TheVariants as edit
use Rattle.centre_events.specs.declared.effect.Effect.{Effect}
use Rattle.centre_events.specs.declared.effect.Effect.TheVariants.{Frees, Leaves}
use Rattle.centre_events.specs.declared.event.Event.{Event}
use Rattle.centre_events.specs.declared.event.Event.TheVariants as event
use Rattle.centre_events.specs.declared.outcome.Outcome.TheVariants.{Silent}
use Rattle.centre_events.specs.declared.settings.Settings.{Settings}
use Rattle.centre_past.proofs.FactsLemmas.{facts_same}
use Rattle.centre_past.proofs.KindLemmas.{key_kind_is}
use Rattle.centre_lines.proofs.OutsideWarningLemmas.{kept_key}
use Rattle.centre_past.proofs.OwnedLemmas.{turned_any}
use Rattle.centre_past.proofs.StepLemmas.{line_after}
use Rattle.centre_past.proofs.UpdateLemmas.{given_after}
use Rattle.centre_past.proofs.VersionLemmas.{legal_updates}
use Rattle.centre_lines.proofs.WasLemmas.{was_line}
use Rattle.warning_book.specs.declared.kind.Kind.{Kind}

-- what an event does to a key asks for the link and the flight of its own BSC alone
effect_own : (past : Past) (kind : Kind) (b : ℕ) (c : Cell) (m s : ℕ) (e : Event) (a : Answer) (ws : List Warning) → effect kind b c m s e a (up_before past e) (flight_before past e) ws ≡ effect kind b c m s e a (is_up past b) (in_flight past b) ws
effect_own past kind b c m s (event.Edit x) a ws = refl
effect_own past kind b c m s (event.Retry other) a ws = refl
effect_own past kind b c m s (event.Send other generation) a ws = refl
effect_own past kind b c m s (event.Ask other generation n after) a ws = refl
effect_own past kind b c m s (event.Report other generation message) a ws = step (nat_eq other b) refl
  where
    step : (t : Bool) → nat_eq other b ≡ t → (if t then report_effect kind message a (in_flight past other) c m s else Leaves) ≡ (if t then report_effect kind message a (in_flight past b) c m s else Leaves)
    step true e = ap (λ k. report_effect kind message a (in_flight past k) c m s) (eqb-true other b e)
    step false e = refl
effect_own past kind b c m s (event.LinkUp other) a ws = step (nat_eq other b) refl
  where
    step : (t : Bool) → nat_eq other b ≡ t → (if t && is_up past other then flight_effect (in_flight past other) Silent c m s else Leaves) ≡ (if t && is_up past b then flight_effect (in_flight past b) Silent c m s else Leaves)
    step true e = ap (λ k. if is_up past k then flight_effect (in_flight past k) Silent c m s else Leaves) (eqb-true other b e)
    step false e = refl
effect_own past kind b c m s (event.LinkDown other generation) a ws = step (nat_eq other b) refl
  where
    step : (t : Bool) → nat_eq other b ≡ t → (if t then flight_effect (in_flight past other) Silent c m s else Leaves) ≡ (if t then flight_effect (in_flight past b) Silent c m s else Leaves)
    step true e = ap (λ k. flight_effect (in_flight past k) Silent c m s) (eqb-true other b e)
    step false e = refl

-- and so does the number that it sets
count_own : (past : Past) (b : ℕ) (c : Cell) (m s : ℕ) (e : Event) (a : Answer) (ws : List Warning) → count_mark b c m s e a (flight_before past e) ws ≡ count_mark b c m s e a (in_flight past b) ws
count_own past b c m s (event.Edit x) a ws = refl
count_own past b c m s (event.Report other generation message) a ws = step (nat_eq other b) refl
  where
    step : (t : Bool) → nat_eq other b ≡ t → (if t then report_count a (in_flight past other) c m s else None) ≡ (if t then report_count a (in_flight past b) c m s else None)
    step true e = ap (λ k. report_count a (in_flight past k) c m s) (eqb-true other b e)
    step false e = refl
count_own past b c m s other a ws = refl

-- a key of a warning that stays is none of what a Forget takes out, by the book before it and after it
forget_leaves : (settings : Settings) (past : Past) → Legal settings past → (n k : ℕ) (w : Warning) → find (has_number k) (without n (warnings_of past)) ≡ Some w → (m s : ℕ) → has_key m s w ≡ true → list_any (λ x. has_number n x && has_key m s x) (without n (warnings_of past)) ≡ list_any (λ x. has_number n x && has_key m s x) (warnings_of past)
forget_leaves settings past legal n k w found m s key =
    gone ∙ sym (stays (nat_eq n k) refl (sym (found_without n k (warnings_of past)) ∙ found))
  where
    gone : list_any (λ x. has_number n x && has_key m s x) (without n (warnings_of past)) ≡ false
    gone = so_without n n (has_key m s) (warnings_of past) ∙ ap (λ t. cond t false (list_any (λ x. has_number n x && has_key m s x) (warnings_of past))) (eq-eqb n n refl)

    number : find (has_number k) (warnings_of past) ≡ Some w → nat_eq w.number k ≡ true
    number i = of (warnings_of past) i
      where
        of : (ws : List Warning) → find (has_number k) ws ≡ Some w → nat_eq w.number k ≡ true
        of [] j = cc
        of (x ∷ ws) j = step (of ws) (has_number k x) refl j
          where
            step : (find (has_number k) ws ≡ Some w → nat_eq w.number k ≡ true) → (t : Bool) → has_number k x ≡ t → cond t (Some x) (find (has_number k) ws) ≡ Some w → nat_eq w.number k ≡ true
            step rest true f g = let same : x ≡ w = cc in ap (λ (y : Warning). nat_eq y.number k) (sym same) ∙ f
            step rest false f g = rest g

    stays : (t : Bool) → nat_eq n k ≡ t → cond t None (find (has_number k) (warnings_of past)) ≡ Some w → list_any (λ x. has_number n x && has_key m s x) (warnings_of past) ≡ false
    stays true f g = cc
    stays false f g = kept_key settings past legal n k w g (ap (nat_eq n) (eqb-true w.number k (number g)) ∙ f) m s key

-- what an event does to a key of a warning in the book after it
effect_same : (settings : Settings) (past : Past) → Legal settings past → (desk : ℕ) (h : Happens) → h.up ≡ up_before past h.event → h.flight ≡ flight_before past h.event → (b : ℕ) (c : Cell) (n : ℕ) (w : Warning) → warning_of (book_of (After (entry_of desk h) past)) n ≡ Some w → (s : ℕ) → list_any (is_version s) w.versions ≡ true → effect (kind_of w) b c w.message_id s h.event h.answer h.up h.flight (book_of (After (entry_of desk h) past)).warnings ≡ effect_at b c w.message_id s (entry_of desk h) past
effect_same settings past legal desk h up flight b c n w found s version =
    ap (λ u. effect (kind_of w) b c w.message_id s h.event h.answer u h.flight (book_of (After (entry_of desk h) past)).warnings) up
    ∙ ap (λ f. effect (kind_of w) b c w.message_id s h.event h.answer (up_before past h.event) f (book_of (After (entry_of desk h) past)).warnings) flight
    ∙ effect_own past (kind_of w) b c w.message_id s h.event h.answer (book_of (After (entry_of desk h) past)).warnings
    ∙ books h.event found
  where
    key : has_key w.message_id s w ≡ true
    key = and_from (nat_eq w.message_id w.message_id) (list_any (is_version s) w.versions) (eq-eqb w.message_id w.message_id refl) version

    edits : (e : Edit) → warning_of (book_then (event.Edit e) (book_of past)) n ≡ Some w → edit_effect b w.message_id s e h.answer (book_then (event.Edit e) (book_of past)).warnings ≡ edit_effect b w.message_id s e h.answer (warnings_of past)
    edits (edit.Update k content) i = ap (λ t. if t then Frees else Leaves) (given_after k content w.message_id s h.answer (warnings_of past))
    edits (edit.Forget k) i = ap (λ t. if t then Frees else Leaves) (forget_leaves settings past legal k n w i w.message_id s key)
    edits other i = refl

    books : (e : Event) → warning_of (book_then e (book_of past)) n ≡ Some w → effect (kind_of w) b c w.message_id s e h.answer (is_up past b) (in_flight past b) (book_then e (book_of past)).warnings ≡ effect (key_kind past w.message_id s) b c w.message_id s e h.answer (is_up past b) (in_flight past b) (warnings_of past)
    books (event.Edit e) i = edits e i
    books other i = ap (λ kind. effect kind b c w.message_id s other h.answer (is_up past b) (in_flight past b) (warnings_of past)) (sym (key_kind_is settings past legal n w i s version))

-- and the number that it sets there
count_same : (settings : Settings) (past : Past) → Legal settings past → (desk : ℕ) (h : Happens) → h.flight ≡ flight_before past h.event → (b : ℕ) (c : Cell) (n : ℕ) (w : Warning) → warning_of (book_of (After (entry_of desk h) past)) n ≡ Some w → (s : ℕ) → list_any (is_version s) w.versions ≡ true → count_mark b c w.message_id s h.event h.answer h.flight (book_of (After (entry_of desk h) past)).warnings ≡ count_at b c w.message_id s (entry_of desk h) past
count_same settings past legal desk h flight b c n w found s version =
    ap (λ f. count_mark b c w.message_id s h.event h.answer f (book_of (After (entry_of desk h) past)).warnings) flight
    ∙ count_own past b c w.message_id s h.event h.answer (book_of (After (entry_of desk h) past)).warnings
    ∙ books h.event found
  where
    edits : (e : Edit) → warning_of (book_then (event.Edit e) (book_of past)) n ≡ Some w → edit_count b w.message_id s e h.answer (book_then (event.Edit e) (book_of past)).warnings ≡ edit_count b w.message_id s e h.answer (warnings_of past)
    edits (edit.Update k content) i = ap (λ t. if t then Some 0 else None) (given_after k content w.message_id s h.answer (warnings_of past))
    edits (edit.Forget k) i =
        ap (λ t. if t then Some 0 else None)
        (forget_leaves settings past legal k n w i w.message_id s (and_from (nat_eq w.message_id w.message_id) (list_any (is_version s) w.versions) (eq-eqb w.message_id w.message_id refl) version))
    edits other i = refl

    books : (e : Event) → warning_of (book_then e (book_of past)) n ≡ Some w → count_mark b c w.message_id s e h.answer (in_flight past b) (book_then e (book_of past)).warnings ≡ count_mark b c w.message_id s e h.answer (in_flight past b) (warnings_of past)
    books (event.Edit e) i = edits e i
    books other i = refl

stepped_same : (f g : ℕ → Effect) (n p : ℕ → Option ℕ) (ss : List ℕ) (line : Line) → ((s : ℕ) → list_any (nat_eq s) ss ≡ true → f s ≡ g s) → ((s : ℕ) → list_any (nat_eq s) ss ≡ true → n s ≡ p s) → stepped f n line ss ≡ stepped g p line ss
stepped_same f g n p [] line same counted = refl
stepped_same f g n p (s ∷ ss) line same counted =
    (λ i. stepped f n (with_state line s (state_after (same s here i) (counted s here i) (state_of line s))) ss)
    ∙ stepped_same f g n p ss (with_state line s (state_after (g s) (p s) (state_of line s))) (λ x h. same x (or_right (nat_eq x s) (list_any (nat_eq x) ss) h)) (λ x h. counted x (or_right (nat_eq x s) (list_any (nat_eq x) ss) h))
  where
    here : list_any (nat_eq s) (s ∷ ss) ≡ true
    here = ap (λ t. t || list_any (nat_eq s) ss) (eq-eqb s s refl)

-- the line that is kept then is the one that the past with the entry says
pub line_then : (settings : Settings) (past : Past) → Legal settings past → (desk : ℕ) (h : Happens) → verdict settings past h.event ≡ Ok h.answer → h.up ≡ up_before past h.event → h.flight ≡ flight_before past h.event → (k : LineKey) (o : Option Warning) → warning_of (book_of (After (entry_of desk h) past)) k.warning ≡ o → IsLineOf (After (entry_of desk h) past) k.bsc k.cell (line_now h (book_of (After (entry_of desk h) past)).warnings k.bsc k.cell o (facts past k).line) o
line_then settings past legal desk h accepted up flight k None found = tt
line_then settings past legal desk h accepted up flight k (Some w) found =
    stepped_same (λ s. effect (kind_of w) k.bsc k.cell w.message_id s h.event h.answer h.up h.flight (book_of (After (entry_of desk h) past)).warnings) (λ s. effect_at k.bsc k.cell w.message_id s (entry_of desk h) past)
    (λ s. count_mark k.bsc k.cell w.message_id s h.event h.answer h.flight (book_of (After (entry_of desk h) past)).warnings) (λ s. count_at k.bsc k.cell w.message_id s (entry_of desk h) past) (serials w) (facts past k).line
    (λ s among. effect_same settings past legal desk h up flight k.bsc k.cell k.warning w found s (turned_any s w.versions ∙ among))
    (λ s among. count_same settings past legal desk h flight k.bsc k.cell k.warning w found s (turned_any s w.versions ∙ among))
    ∙ line_after (entry_of desk h) past k.bsc k.cell w (facts past k).line (legal_updates settings (After (entry_of desk h) past) (accepted, legal) k.warning w found) (was_line settings past legal (entry_of desk h) accepted k.bsc k.cell k.warning w found)

pub then_is : (settings : Settings) (past : Past) → Legal settings past → (desk : ℕ) (h : Happens) → verdict settings past h.event ≡ Ok h.answer → h.up ≡ up_before past h.event → h.flight ≡ flight_before past h.event → (p : State) (t : Tables) → IsRegisterOf (After (entry_of desk h) past) p.register → AreAreasOf (After (entry_of desk h) past) p.areas → p.book ≡ book_of (After (entry_of desk h) past) → ((kind : Kind) (b : ℕ) (c : Cell) → down_at t.lines kind b c ≡ is_down (After (entry_of desk h) past) kind b c) → (k : LineKey) → facts_then h p t k (facts past k).line ≡ facts (After (entry_of desk h) past) k
then_is settings past legal desk h accepted up flight p t registered selected booked downs k =
    rw booked
    (facts_same (After (entry_of desk h) past) p.register p.areas (down_at t.lines (kind_in (warning_of (book_of (After (entry_of desk h) past)) k.warning)) k.bsc k.cell) k.bsc k.cell (line_now h (book_of (After (entry_of desk h) past)).warnings k.bsc k.cell (warning_of (book_of (After (entry_of desk h) past)) k.warning) (facts past k).line) (warning_of (book_of (After (entry_of desk h) past)) k.warning) registered selected (downs (kind_in (warning_of (book_of (After (entry_of desk h) past)) k.warning)) k.bsc k.cell)
    (line_then settings past legal desk h accepted up flight k (warning_of (book_of (After (entry_of desk h) past)) k.warning) refl))
