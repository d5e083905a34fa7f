-- What the book of a legal past says of the warning of a number is what the entries say.
use Rattle.std.proofs.Common.{◌≡◌, ℕ, ◌+◌, Bool, true, false, not, List, [], ◌∷◌, ◌++◌, Option, Some, None, Ok, nat_eq, filter, cond, unwrap_or, refl, sym, ◌∙◌, ap, eqb-true}
use Rattle.std.specs.Prelude.{find}
use Rattle.std.specs.List.{list_any}
use Rattle.std.specs.Option.{option_map, option_and_then, is_some}
use Rattle.std.proofs.lemmas.Bool.{not-false}
use Rattle.serials.specs.Serials.{next_of}
use Rattle.common.specs.Order.{is_ascending}
use Rattle.warning_book.specs.Book.{has_number, number_lt, is_so, areas_of, versions_of, followed, last_serial, current_of, numbers, new_warning, updated, widened, narrowed, stopped, edited, without}
use Rattle.warning_book.specs.Laws.{KeepsNumber, number-edited, absent_so, found_so}
use Rattle.warning_book.specs.Sound.{IsSound}
use Rattle.warning_book.specs.declared.content.Content.{Content}
use Rattle.warning_book.specs.declared.version.Version.{Version}
use Rattle.warning_book.specs.declared.warning.Warning.{Warning}
use Rattle.centre_past.specs.Issued.{active_mark, is_active_by, edit_makes, but, areas_then, areas_by, continued, versions_then, versions_by, message_mark, message_by, issues_then, issued_by, number_given, numbers_then, numbers_by}
use Rattle.centre_past.specs.Legal.{Legal}
use Rattle.centre_events.specs.Past.{Past, From, After}
use Rattle.centre_events.specs.Verdict.{answered, edit_answered, update, update_checks, update_answer, widen, widen_checks}
use Rattle.centre_events.specs.Warnings.{book_of, warnings_of, book_then}
use Rattle.coverage_plan.specs.Edited.{book_after, with_issue}
use Rattle.centre_events.specs.declared.answer.Answer.{Answer}
use Rattle.centre_events.specs.declared.answer.Answer.TheVariants as answer
use Rattle.coverage_plan.specs.declared.edit.Edit.{Edit}
use Rattle.coverage_plan.specs.declared.edit.Edit.TheVariants as edit
use Rattle.centre_events.specs.declared.event.Event.{Event}
use Rattle.centre_events.specs.declared.event.Event.TheVariants as event
use Rattle.centre_events.specs.declared.network.Network.{Network}
use Rattle.centre_events.specs.declared.settings.Settings.{Settings}
use Rattle.centre_past.proofs.CheckLemmas.{unless_ok, no_check}
use Rattle.centre_past.proofs.FoundLemmas.{found_any, view_edited, view_without, view_kept, issue_told, view_issued, mark_cond, view_then, mark_then}
use Rattle.centre_events.proofs.PastLemmas.{map_joined}
use Rattle.centre_past.proofs.UniqueLemmas.{verdict_answered}
use Rattle.centre_past.proofs.WarningLemmas.{legal_sound}

-- Whether it is active.

abbrev active_in : Option Warning → Bool
active_in None = false
active_in (Some w) = w.active

pub active_found : (n : ℕ) (ws : List Warning) → is_ascending number_lt ws ≡ true → is_so n (λ w. w.active) ws ≡ active_in (find (has_number n) ws)
active_found n ws ordered = step (find (has_number n) ws) refl
  where
    step : (o : Option Warning) → find (has_number n) ws ≡ o → is_so n (λ w. w.active) ws ≡ active_in o
    step None e = absent_so n (λ w. w.active) ws (found_any n ws ∙ ap is_some e)
    step (Some w) e = found_so n (λ v. v.active) ws w ordered e

active_after : (past : Past) (n : ℕ) (e : Edit) (a : Answer) → edit_answered past e ≡ Ok a → IsSound (book_of past) → active_in (find (has_number n) (book_after e (book_of past)).warnings) ≡ unwrap_or (active_mark n a e) (active_in (find (has_number n) (warnings_of past)))
active_after past n (edit.Issue notice areas) a h sound =
    view_issued active_in (λ x. unwrap_or (active_mark n x (edit.Issue notice areas)) (active_in (find (has_number n) (warnings_of past)))) past n notice areas a h sound (λ s. mark_cond (nat_eq ((book_of past).issued + 1) n) true (active_in (find (has_number n) (warnings_of past))))
active_after past n (edit.Update m content) a h sound = view_kept active_in n m (updated content) (λ w. refl) kept (warnings_of past)
  where
    kept : (o : Option Warning) → active_in (option_map (updated content) o) ≡ active_in o
    kept None = refl
    kept (Some w) = refl
active_after past n (edit.Widen m x) a h sound = view_kept active_in n m (widened x) (λ w. refl) kept (warnings_of past)
  where
    kept : (o : Option Warning) → active_in (option_map (widened x) o) ≡ active_in o
    kept None = refl
    kept (Some w) = refl
active_after past n (edit.Narrow m x) a h sound = view_kept active_in n m (narrowed x) (λ w. refl) kept (warnings_of past)
  where
    kept : (o : Option Warning) → active_in (option_map (narrowed x) o) ≡ active_in o
    kept None = refl
    kept (Some w) = refl
active_after past n (edit.Stop m) a h sound =
    view_edited active_in n m stopped (λ w. refl) (warnings_of past)
    ∙ ap (λ x. cond (nat_eq m n) x (active_in (find (has_number n) (warnings_of past)))) (ended (find (has_number n) (warnings_of past)))
    ∙ mark_cond (nat_eq m n) false (active_in (find (has_number n) (warnings_of past)))
  where
    ended : (o : Option Warning) → active_in (option_map stopped o) ≡ false
    ended None = refl
    ended (Some w) = refl
active_after past n (edit.Forget m) a h sound =
    view_without active_in n m (warnings_of past) ∙ mark_cond (nat_eq m n) false (active_in (find (has_number n) (warnings_of past)))
active_after past n other a h sound = refl

pub active_told : (settings : Settings) (past : Past) → Legal settings past → (n : ℕ) → active_in (find (has_number n) (warnings_of past)) ≡ is_active_by past n
active_told settings (From base) legal n = sym (active_found n base.book.warnings (legal_sound settings (From base) legal).ordered)
active_told settings (After e before) legal n =
    mark_then active_in (active_mark n) settings.network before n e.event e.answer (is_active_by before n) (verdict_answered settings before e.event e.answer legal.0) (active_told settings before legal.1 n)
    (λ x h. active_after before n x e.answer h (legal_sound settings before legal.1))

-- Its areas.

abbrev pub areas_in : Option Warning → List (List ℕ)
areas_in None = []
areas_in (Some w) = w.areas

pub areas_found : (n : ℕ) (ws : List Warning) → areas_of n ws ≡ areas_in (find (has_number n) ws)
areas_found n [] = refl
areas_found n (w ∷ ws) = step (areas_found n ws) (has_number n w)
  where
    step : areas_of n ws ≡ areas_in (find (has_number n) ws) → (t : Bool) → cond t w.areas (areas_of n ws) ≡ areas_in (cond t (Some w) (find (has_number n) ws))
    step rest true = refl
    step rest false = rest

-- an accepted Widen is of a warning that is there
widen_there : (past : Past) (n m : ℕ) (x : List ℕ) (a : Answer) → widen past m x ≡ Ok a → nat_eq m n ≡ true → is_some (find (has_number n) (warnings_of past)) ≡ true
widen_there past n m x a h e =
    let none = no_check (widen_checks past m x) (Ok answer.Done) a h in
    ap (λ k. is_some (find (has_number k) (warnings_of past))) (sym (eqb-true m n e))
    ∙ sym (found_any m (warnings_of past)) ∙ not-false (list_any (has_number m) (warnings_of past)) none.1.0

areas_after : (past : Past) (n : ℕ) (e : Edit) (a : Answer) → edit_answered past e ≡ Ok a → IsSound (book_of past) → areas_in (find (has_number n) (book_after e (book_of past)).warnings) ≡ areas_then n e a (areas_in (find (has_number n) (warnings_of past)))
areas_after past n (edit.Issue notice areas) a h sound =
    view_issued areas_in (λ x. areas_then n (edit.Issue notice areas) x (areas_in (find (has_number n) (warnings_of past)))) past n notice areas a h sound (λ s. refl)
areas_after past n (edit.Update m content) a h sound = view_kept areas_in n m (updated content) (λ w. refl) kept (warnings_of past)
  where
    kept : (o : Option Warning) → areas_in (option_map (updated content) o) ≡ areas_in o
    kept None = refl
    kept (Some w) = refl
areas_after past n (edit.Widen m x) a h sound = view_edited areas_in n m (widened x) (λ w. refl) (warnings_of past) ∙ step (nat_eq m n) refl
  where
    more : (o : Option Warning) → is_some o ≡ true → areas_in (option_map (widened x) o) ≡ areas_in o ++ x ∷ []
    more None e = cc
    more (Some w) e = refl

    step : (t : Bool) → nat_eq m n ≡ t → cond t (areas_in (option_map (widened x) (find (has_number n) (warnings_of past)))) (areas_in (find (has_number n) (warnings_of past))) ≡ cond t (areas_in (find (has_number n) (warnings_of past)) ++ x ∷ []) (areas_in (find (has_number n) (warnings_of past)))
    step true e = more (find (has_number n) (warnings_of past)) (widen_there past n m x a h e)
    step false e = refl
areas_after past n (edit.Narrow m x) a h sound =
    view_edited areas_in n m (narrowed x) (λ w. refl) (warnings_of past)
    ∙ ap (λ y. cond (nat_eq m n) y (areas_in (find (has_number n) (warnings_of past)))) (less (find (has_number n) (warnings_of past)))
  where
    less : (o : Option Warning) → areas_in (option_map (narrowed x) o) ≡ but x (areas_in o)
    less None = refl
    less (Some w) = refl
areas_after past n (edit.Stop m) a h sound = view_kept areas_in n m stopped (λ w. refl) kept (warnings_of past)
  where
    kept : (o : Option Warning) → areas_in (option_map stopped o) ≡ areas_in o
    kept None = refl
    kept (Some w) = refl
areas_after past n (edit.Forget m) a h sound = view_without areas_in n m (warnings_of past)
areas_after past n other a h sound = refl

pub areas_told : (settings : Settings) (past : Past) → Legal settings past → (n : ℕ) → areas_in (find (has_number n) (warnings_of past)) ≡ areas_by past n
areas_told settings (From base) legal n = sym (areas_found n base.book.warnings)
areas_told settings (After e before) legal n =
    view_then areas_in (areas_then n) settings.network before n e.event e.answer (areas_by before n) (verdict_answered settings before e.event e.answer legal.0) (areas_told settings before legal.1 n)
    (λ x h. areas_after before n x e.answer h (legal_sound settings before legal.1))

-- Its versions.

abbrev pub versions_in : Option Warning → List Version
versions_in None = []
versions_in (Some w) = w.versions

pub versions_found : (n : ℕ) (ws : List Warning) → versions_of n ws ≡ versions_in (find (has_number n) ws)
versions_found n [] = refl
versions_found n (w ∷ ws) = step (versions_found n ws) (has_number n w)
  where
    step : versions_of n ws ≡ versions_in (find (has_number n) ws) → (t : Bool) → cond t w.versions (versions_of n ws) ≡ versions_in (cond t (Some w) (find (has_number n) ws))
    step rest true = refl
    step rest false = rest

-- what an accepted Update is answered, by the warning that is found
pub update_told : (past : Past) (m : ℕ) (content : Content) (a : Answer) → update past m content ≡ Ok a → update_answer (option_map next_of (option_and_then current_of (find (has_number m) (warnings_of past)))) ≡ Ok a
update_told past m content a h = unless_ok (update_checks past m content) (update_answer (option_map next_of (option_and_then current_of (find (has_number m) (warnings_of past))))) a h

one_more : (content : Content) (a : Answer) (vs : List Version) (k : Option ℕ) → update_answer (option_map next_of k) ≡ Ok a → followed content k vs ≡ continued content a vs
one_more content a vs None h = let same : answer.Done ≡ a = cc in ap (λ x. continued content x vs) same
one_more content a vs (Some t) h = let same : answer.Updated (next_of t) ≡ a = cc in ap (λ x. continued content x vs) same

version_more : (content : Content) (a : Answer) (o : Option Warning) → update_answer (option_map next_of (option_and_then current_of o)) ≡ Ok a → versions_in (option_map (updated content) o) ≡ continued content a (versions_in o)
version_more content a None h = let same : answer.Done ≡ a = cc in ap (λ x. continued content x []) same
version_more content a (Some w) h = one_more content a w.versions (last_serial w.versions) h

versions_after : (past : Past) (n : ℕ) (e : Edit) (a : Answer) → edit_answered past e ≡ Ok a → IsSound (book_of past) → versions_in (find (has_number n) (book_after e (book_of past)).warnings) ≡ versions_then n e a (versions_in (find (has_number n) (warnings_of past)))
versions_after past n (edit.Issue notice areas) a h sound =
    view_issued versions_in (λ x. versions_then n (edit.Issue notice areas) x (versions_in (find (has_number n) (warnings_of past)))) past n notice areas a h sound (λ s. refl)
versions_after past n (edit.Update m content) a h sound = view_edited versions_in n m (updated content) (λ w. refl) (warnings_of past) ∙ step (nat_eq m n) refl
  where
    step : (t : Bool) → nat_eq m n ≡ t → cond t (versions_in (option_map (updated content) (find (has_number n) (warnings_of past)))) (versions_in (find (has_number n) (warnings_of past))) ≡ cond t (continued content a (versions_in (find (has_number n) (warnings_of past)))) (versions_in (find (has_number n) (warnings_of past)))
    step true e =
        version_more content a (find (has_number n) (warnings_of past))
        (ap (λ k. update_answer (option_map next_of (option_and_then current_of (find (has_number k) (warnings_of past))))) (sym (eqb-true m n e)) ∙ update_told past m content a h)
    step false e = refl
versions_after past n (edit.Widen m x) a h sound = view_kept versions_in n m (widened x) (λ w. refl) kept (warnings_of past)
  where
    kept : (o : Option Warning) → versions_in (option_map (widened x) o) ≡ versions_in o
    kept None = refl
    kept (Some w) = refl
versions_after past n (edit.Narrow m x) a h sound = view_kept versions_in n m (narrowed x) (λ w. refl) kept (warnings_of past)
  where
    kept : (o : Option Warning) → versions_in (option_map (narrowed x) o) ≡ versions_in o
    kept None = refl
    kept (Some w) = refl
versions_after past n (edit.Stop m) a h sound = view_kept versions_in n m stopped (λ w. refl) kept (warnings_of past)
  where
    kept : (o : Option Warning) → versions_in (option_map stopped o) ≡ versions_in o
    kept None = refl
    kept (Some w) = refl
versions_after past n (edit.Forget m) a h sound = view_without versions_in n m (warnings_of past)
versions_after past n other a h sound = refl

pub versions_told : (settings : Settings) (past : Past) → Legal settings past → (n : ℕ) → versions_in (find (has_number n) (warnings_of past)) ≡ versions_by past n
versions_told settings (From base) legal n = sym (versions_found n base.book.warnings)
versions_told settings (After e before) legal n =
    view_then versions_in (versions_then n) settings.network before n e.event e.answer (versions_by before n) (verdict_answered settings before e.event e.answer legal.0) (versions_told settings before legal.1 n)
    (λ x h. versions_after before n x e.answer h (legal_sound settings before legal.1))

-- Its message identifier.

abbrev pub message_in : Option Warning → Option ℕ
message_in o = option_map (λ w. w.message_id) o

message_kept : (f : Warning → Warning) → ((w : Warning) → (f w).message_id ≡ w.message_id) → (o : Option Warning) → message_in (option_map f o) ≡ message_in o
message_kept f same None = refl
message_kept f same (Some w) = ap (λ (k : ℕ). Some k) (same w)

message_after : (past : Past) (n : ℕ) (e : Edit) (a : Answer) → edit_answered past e ≡ Ok a → IsSound (book_of past) → message_in (find (has_number n) (book_after e (book_of past)).warnings) ≡ unwrap_or (message_mark n a e) (message_in (find (has_number n) (warnings_of past)))
message_after past n (edit.Issue notice areas) a h sound =
    view_issued message_in (λ x. unwrap_or (message_mark n x (edit.Issue notice areas)) (message_in (find (has_number n) (warnings_of past)))) past n notice areas a h sound (λ s. mark_cond (nat_eq ((book_of past).issued + 1) n) (Some notice.message_id) (message_in (find (has_number n) (warnings_of past))))
message_after past n (edit.Update m content) a h sound = view_kept message_in n m (updated content) (λ w. refl) (message_kept (updated content) (λ w. refl)) (warnings_of past)
message_after past n (edit.Widen m x) a h sound = view_kept message_in n m (widened x) (λ w. refl) (message_kept (widened x) (λ w. refl)) (warnings_of past)
message_after past n (edit.Narrow m x) a h sound = view_kept message_in n m (narrowed x) (λ w. refl) (message_kept (narrowed x) (λ w. refl)) (warnings_of past)
message_after past n (edit.Stop m) a h sound = view_kept message_in n m stopped (λ w. refl) (message_kept stopped (λ w. refl)) (warnings_of past)
message_after past n (edit.Forget m) a h sound =
    view_without message_in n m (warnings_of past) ∙ mark_cond (nat_eq m n) None (message_in (find (has_number n) (warnings_of past)))
message_after past n other a h sound = refl

pub message_told : (settings : Settings) (past : Past) → Legal settings past → (n : ℕ) → message_in (find (has_number n) (warnings_of past)) ≡ message_by past n
message_told settings (From base) legal n = refl
message_told settings (After e before) legal n =
    mark_then message_in (message_mark n) settings.network before n e.event e.answer (message_by before n) (verdict_answered settings before e.event e.answer legal.0) (message_told settings before legal.1 n)
    (λ x h. message_after before n x e.answer h (legal_sound settings before legal.1))

-- How many were issued.

issued_after : (past : Past) (e : Edit) (a : Answer) → edit_answered past e ≡ Ok a → (book_after e (book_of past)).issued ≡ issues_then e a (book_of past).issued
issued_after past (edit.Issue notice areas) a h = ap (λ o. (with_issue notice areas o (book_of past)).issued) (issue_told past notice areas a h).1.0
issued_after past other a h = refl

issued_then : (network : Network) (past : Past) (e : Event) (a : Answer) → answered network past e ≡ Ok a → (book_then e (book_of past)).issued ≡ edit_makes issues_then e a (book_of past).issued
issued_then network past (event.Edit e) a h = issued_after past e a h
issued_then network past other a h = refl

pub issued_told : (settings : Settings) (past : Past) → Legal settings past → (book_of past).issued ≡ issued_by past
issued_told settings (From base) legal = refl
issued_told settings (After e before) legal =
    issued_then settings.network before e.event e.answer (verdict_answered settings before e.event e.answer legal.0) ∙ ap (edit_makes issues_then e.event e.answer) (issued_told settings before legal.1)

-- The numbers of the warnings.

numbers_edited : (n : ℕ) (f : Warning → Warning) → KeepsNumber f → (ws : List Warning) → numbers (edited n f ws) ≡ numbers ws
numbers_edited n f keeps [] = refl
numbers_edited n f keeps (w ∷ ws) = λ i. number-edited n f keeps w i ∷ numbers_edited n f keeps ws i

numbers_without : (n : ℕ) (ws : List Warning) → numbers (without n ws) ≡ filter (λ k. not (nat_eq k n)) (numbers ws)
numbers_without n [] = refl
numbers_without n (w ∷ ws) = step (numbers_without n ws) (has_number n w)
  where
    step : numbers (without n ws) ≡ filter (λ k. not (nat_eq k n)) (numbers ws) → (t : Bool) → numbers (cond (not t) (w ∷ without n ws) (without n ws)) ≡ cond (not t) (w.number ∷ filter (λ k. not (nat_eq k n)) (numbers ws)) (filter (λ k. not (nat_eq k n)) (numbers ws))
    step rest true = rest
    step rest false = ap (λ l. w.number ∷ l) rest

numbers_after : (past : Past) (e : Edit) (a : Answer) → edit_answered past e ≡ Ok a → numbers (book_after e (book_of past)).warnings ≡ numbers_then e a (numbers (warnings_of past))
numbers_after past (edit.Issue notice areas) a h =
    let told = issue_told past notice areas a h in
    ap (λ o. numbers (with_issue notice areas o (book_of past)).warnings) told.1.0
    ∙ map_joined (λ (w : Warning). w.number) (warnings_of past) (new_warning ((book_of past).issued + 1) notice areas told.0 ∷ [])
    ∙ sym (ap (λ x. numbers (warnings_of past) ++ number_given x) told.1.1)
numbers_after past (edit.Update m content) a h = numbers_edited m (updated content) (λ w. refl) (warnings_of past)
numbers_after past (edit.Widen m x) a h = numbers_edited m (widened x) (λ w. refl) (warnings_of past)
numbers_after past (edit.Narrow m x) a h = numbers_edited m (narrowed x) (λ w. refl) (warnings_of past)
numbers_after past (edit.Stop m) a h = numbers_edited m stopped (λ w. refl) (warnings_of past)
numbers_after past (edit.Forget m) a h = numbers_without m (warnings_of past)
numbers_after past other a h = refl

numbered_then : (network : Network) (past : Past) (e : Event) (a : Answer) → answered network past e ≡ Ok a → numbers (book_then e (book_of past)).warnings ≡ edit_makes numbers_then e a (numbers (warnings_of past))
numbered_then network past (event.Edit e) a h = numbers_after past e a h
numbered_then network past other a h = refl

pub numbers_told : (settings : Settings) (past : Past) → Legal settings past → numbers (warnings_of past) ≡ numbers_by past
numbers_told settings (From base) legal = refl
numbers_told settings (After e before) legal =
    numbered_then settings.network before e.event e.answer (verdict_answered settings before e.event e.answer legal.0) ∙ ap (edit_makes numbers_then e.event e.answer) (numbers_told settings before legal.1)
