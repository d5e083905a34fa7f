-- What is read of the lines on which an event bears is what the past says of them.
use Rattle.std.proofs.Common.{◌≡◌, ℕ, ◌+◌, ◌*◌, ◌≤◌, Bool, true, false, not, List, [], ◌∷◌, ◌++◌, Option, Some, None, Ok, cond, filter, length, map, refl, sym, ◌∙◌, ap, subst, arith}
use Rattle.std.specs.Prelude.{if◌then◌else◌}
use Rattle.std.specs.List.{flat_map, list_any}
use Rattle.std.proofs.Math.Bool.{not-not}
use Rattle.std.proofs.lemmas.List.Elements.{filter-append}
use Rattle.std.proofs.lemmas.List.Filters.{length-filter_both}
use Rattle.common.specs.OnceLaws.{any_turned, any_filter_same, once_filter}
use Rattle.kept_tables.specs.Same.{SamePart}
use Rattle.kept_tables.specs.SpotLaws.{key_decides}
use Rattle.kept_tables.specs.Tables.{Tables}
use Rattle.kept_tables.specs.View.{key_at, key_eq}
use Rattle.kept_tables.specs.declared.line_facts.LineFacts.{LineFacts}
use Rattle.kept_tables.specs.declared.spot.Spot.{Spot}
use Rattle.mirror.specs.Table.{line_at, down_at}
use Rattle.mirror.specs.declared.line_key.LineKey.{LineKey}
use Rattle.warning_book.specs.Book.{warning_of}
use Rattle.warning_book.specs.declared.warning.Warning.{Warning}
use Rattle.centre_events.specs.Facts.{IsLineOf}
use Rattle.centre_past.specs.Facts.{facts_of, facts}
use Rattle.centre_past.specs.Links.{AreLinksOf, flight_kept}
use Rattle.centre_lines.specs.Following.{facts_in, line_before, lines_before, before_past, keys_of, passed_over, WasRead}
use Rattle.centre_past.specs.Idle.{AsBefore, OnlyReads}
use Rattle.centre_past.specs.IsKept.{IsKept}
use Rattle.centre_events.specs.Kept.{is_edit}
use Rattle.centre_past.specs.Legal.{Legal}
use Rattle.centre_events.specs.Past.{Past, After}
use Rattle.centre_events.specs.Links.{bsc_of}
use Rattle.centre_past.specs.Reach.{Reach, IsReach, reach_of, size, spot}
use Rattle.centre_past.specs.Reaching.{Told, IsFlightOf}
use Rattle.centre_events.specs.Verdict.{verdict}
use Rattle.centre_events.specs.Warnings.{book_of, kind_in}
use Rattle.centre_events.specs.declared.answer.Answer.{Answer}
use Rattle.centre_events.specs.declared.event.Event.{Event}
use Rattle.centre_events.specs.declared.event.Event.TheVariants as event
use Rattle.centre_past.specs.declared.link.Link.{Link}
use Rattle.centre_lines.specs.declared.line_before.LineBefore.{LineBefore}
use Rattle.centre_events.specs.declared.in_flight.InFlight.{InFlight}
use Rattle.centre_events.specs.declared.settings.Settings.{Settings}
use Rattle.centre_past.specs.declared.kept.Kept.{Kept}
use Rattle.coverage_plan.specs.declared.edit.Edit.{Edit}
use Rattle.centre_lines.proofs.DownLemmas.{down_outside}
use Rattle.centre_past.proofs.FactsLemmas.{facts_same}
use Rattle.centre_lines.proofs.OutsideLemmas.{outside}
use Rattle.centre_lines.proofs.PassedLemmas.{passed_same}
use Rattle.centre_lines.proofs.TellLemmas.{bears_of, keys_counted, keys_once}

-- what is read of a line is what the past says
pub facts_kept : (past : Past) (s : Kept) → IsKept past s → (k : LineKey) → facts_in s.plan s.tables k ≡ facts past k
facts_kept past s kept k =
    rw (kept.booked)
    (facts_same past s.plan.register s.plan.areas (down_at s.tables.lines (kind_in (warning_of (book_of past) k.warning)) k.bsc k.cell) k.bsc k.cell (line_at s.tables.lines k.bsc k.cell k.warning) (warning_of (book_of past) k.warning) kept.registered kept.selected (kept.downs (kind_in (warning_of (book_of past) k.warning)) k.bsc k.cell)
    (is (warning_of (book_of past) k.warning) (kept.tables.lines k)))
  where
    is : (o : Option Warning) → line_at s.tables.lines k.bsc k.cell k.warning ≡ (facts_of past k.bsc k.cell o).line → IsLineOf past k.bsc k.cell (line_at s.tables.lines k.bsc k.cell k.warning) o
    is None h = tt
    is (Some w) h = h

map_append : {A B : Type 0} (f : A → B) (xs ys : List A) → map f (xs ++ ys) ≡ map f xs ++ map f ys
map_append f [] ys = refl
map_append f (x ∷ xs) ys = ap (λ zs. f x ∷ zs) (map_append f xs ys)

-- Lines that are held but for those that pass a test, at spots and of warnings.

-- the line, if it does not pass
abbrev pub unless : {A : Type 0} → (LineKey → Bool) → (LineKey → A) → LineKey → List A
unless passes line k = if passes k then [] else line k ∷ []

-- the lines that do not pass
abbrev pub failing : (LineKey → Bool) → List LineKey → List LineKey
failing passes ks = filter (λ k. not (passes k)) ks

failing_at : {A : Type 0} (passes : LineKey → Bool) (line was : LineKey → A) → ((k : LineKey) → line k ≡ was k) → (p : Spot) (ns : List ℕ) → flat_map (λ n. unless passes line (key_at p n)) ns ≡ map was (failing passes (map (key_at p) ns))
failing_at passes line was same p [] = refl
failing_at passes line was same p (n ∷ ns) = step (passes (key_at p n)) (failing_at passes line was same p ns)
  where
    step : (t : Bool) → flat_map (λ m. unless passes line (key_at p m)) ns ≡ map was (failing passes (map (key_at p) ns)) → (if t then [] else line (key_at p n) ∷ []) ++ flat_map (λ m. unless passes line (key_at p m)) ns ≡ map was (cond (not t) (key_at p n ∷ failing passes (map (key_at p) ns)) (failing passes (map (key_at p) ns)))
    step true rest = rest
    step false rest = λ i. same (key_at p n) i ∷ rest i

failing_lines : {A : Type 0} (passes : LineKey → Bool) (line was : LineKey → A) → ((k : LineKey) → line k ≡ was k) → (ps : List Spot) (ns : List ℕ) → flat_map (λ p. flat_map (λ n. unless passes line (key_at p n)) ns) ps ≡ map was (failing passes (keys_of ps ns))
failing_lines passes line was same [] ns = refl
failing_lines passes line was same (p ∷ ps) ns =
    (λ i. failing_at passes line was same p ns i ++ failing_lines passes line was same ps ns i)
    ∙ sym (map_append was (failing passes (map (key_at p) ns)) (failing passes (keys_of ps ns)))
    ∙ ap (map was) (sym (filter-append (λ k. not (passes k)) (map (key_at p) ns) (keys_of ps ns)))

pub before_as : (past : Past) (s : Kept) → IsKept past s → (k : LineKey) → line_before s.plan s.tables k ≡ before_past past k
before_as past s kept k = ap (λ (f : LineFacts). let h : LineBefore = record { key = k; before = f } in h) (facts_kept past s kept k)

-- a line of the reach that does not fail the test passes it
pub passed : (passes : LineKey → Bool) (k : LineKey) (ks : List LineKey) → list_any (key_eq k) (failing passes ks) ≡ false → list_any (key_eq k) ks ≡ true → passes k ≡ true
passed passes k ks out among = step (passes k) refl
  where
    step : (t : Bool) → passes k ≡ t → t ≡ true
    step true e = refl
    step false e =
        let there : list_any (key_eq k) (failing passes ks) ≡ true = any_turned key_eq key_decides k (failing passes ks) ∙ any_filter_same key_eq key_decides (λ q. not (passes q)) k ks ∙ rw (e, sym (any_turned key_eq key_decides k ks) ∙ among) refl in
        sym out ∙ there

-- such lines were read, if each that passes has the same part after the event
was_read : (past : Past) (e : Event) (a : Answer) (spots : List Spot) (numbers : List ℕ) (passes : LineKey → Bool) (earlier : List LineBefore) → IsReach (record { spots = spots; warnings = numbers }) (reach_of past e a) → earlier ≡ map (before_past past) (failing passes (keys_of spots numbers)) → ((settings : Settings) (desk : ℕ) → Legal settings past → verdict settings past e ≡ Ok a → (k : LineKey) → passes k ≡ true → SamePart (facts past k) (facts (After (record { desk = desk; event = e; answer = a }) past) k)) → WasRead past e a spots earlier
was_read past e a spots numbers passes earlier reach are same = record {
  away = λ settings legal kind b c out. down_outside settings past legal e a kind b c (sym (reach.spots (spot b c)) ∙ out);
  keys = failing passes (keys_of spots numbers);
  lines = are;
  once = once_filter key_eq (λ k. not (passes k)) (keys_of spots numbers) (keys_once spots numbers reach.spots_once reach.warnings_once);
  few = few;
  rest = λ settings desk legal accepted k out. step settings desk legal accepted k out (list_any (key_eq k) (keys_of spots numbers)) refl;
}
  where
    few : length (failing passes (keys_of spots numbers)) ≤ size (reach_of past e a)
    few =
        omega (arith, length-filter_both (λ k. not (passes k)) passes (λ k. sym (not-not (passes k))) (keys_of spots numbers), keys_counted spots numbers ∙ ap (λ n. n * length numbers) reach.spots_counted ∙ ap (λ n. length (reach_of past e a).spots * n) reach.warnings_counted)

    step : (settings : Settings) (desk : ℕ) → Legal settings past → verdict settings past e ≡ Ok a → (k : LineKey) → list_any (key_eq k) (failing passes (keys_of spots numbers)) ≡ false → (t : Bool) → list_any (key_eq k) (keys_of spots numbers) ≡ t → SamePart (facts past k) (facts (After (record { desk = desk; event = e; answer = a }) past) k)
    step settings desk legal accepted k out true among = same settings desk legal accepted k (passed passes k (keys_of spots numbers) out among)
    step settings desk legal accepted k out false away =
        outside settings past legal (record { desk = desk; event = e; answer = a }) accepted k (sym (bears_of k spots numbers (reach_of past e a) reach) ∙ away)

pub told_kept : (settings : Settings) (past : Past) (s : Kept) → Legal settings past → IsKept past s → Told settings past s.plan.register s.plan.book s.tables.lines
told_kept settings past s legal kept = record { legal = legal; registered = kept.registered; booked = kept.booked; downs = kept.downs; lines = kept.tables.lines }

-- before an edit that has been accepted
pub edit_was_reached : (past : Past) (s : Kept) (e : Edit) (a : Answer) (spots : List Spot) (numbers : List ℕ) (earlier : List LineBefore) → IsKept past s → IsReach (record { spots = spots; warnings = numbers }) (reach_of past (event.Edit e) a) → earlier ≡ lines_before e s.plan s.tables spots numbers → WasRead past (event.Edit e) a spots earlier
edit_was_reached past s e a spots numbers earlier kept reach are =
    was_read past (event.Edit e) a spots numbers passed earlier reach
    (are ∙ failing_lines passed (line_before s.plan s.tables) (before_past past) (before_as past s kept) spots numbers)
    (λ settings desk legal accepted k h. passed_same settings past legal desk e a accepted s kept k h)
  where
    passed : LineKey → Bool
    passed k = passed_over e s.plan.areas (warning_of s.plan.book k.warning) k.cell (line_at s.tables.lines k.bsc k.cell k.warning)

pub reads_as : (t u : Tables) → AsBefore t u → OnlyReads t u
reads_as t u h = record { lines = h.lines; downs = h.downs; same = h.same; meter = h.meter }

-- what is in flight to the BSC of an event that is no edit
pub flying_kept : (past : Past) (ls : List Link) (e : Event) (f : Option InFlight) → AreLinksOf past ls → is_edit e ≡ false → f ≡ flight_kept ls e → IsFlightOf past (bsc_of e) f
flying_kept past ls e f linked h is = step e h is
  where
    step : (e : Event) → is_edit e ≡ false → f ≡ flight_kept ls e → IsFlightOf past (bsc_of e) f
    step (event.Edit x) other at = cc
    step (event.Retry b) other at = at ∙ linked.flights b
    step (event.LinkUp b) other at = at ∙ linked.flights b
    step (event.LinkDown b generation) other at = at ∙ linked.flights b
    step (event.Send b generation) other at = at ∙ linked.flights b
    step (event.Ask b generation n after) other at = at ∙ linked.flights b
    step (event.Report b generation message) other at = at ∙ linked.flights b

-- as many lines are read as an event bears on, and as many are told of
pub reads_within : (old new : ℕ) (ps qs : List Spot) (ns ms : List ℕ) (r : Reach) → ps ≡ qs → ns ≡ ms → new ≤ old + 2 * (length ps * length ns) → IsReach (record { spots = qs; warnings = ms }) r → new ≤ old + 2 * size r
reads_within old new ps qs ns ms r spots warnings within reach =
    subst (λ n. new ≤ old + 2 * n)
    (ap (λ xs. length xs * length ns) spots ∙ ap (λ xs. length qs * length xs) warnings ∙ ap (λ n. n * length ms) reach.spots_counted ∙ ap (λ n. length r.spots * n) reach.warnings_counted)
    within
