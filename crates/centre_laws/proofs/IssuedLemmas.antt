-- The book of a legal past in the words of its entries: its codes, what Issues and Updates are answered, and the law.
use Rattle.std.proofs.Common.{◌≡◌, arith, ℕ, zero, suc, ◌+◌, ◌<◌, ◌≤◌, Bool, true, false, ◌&&◌, ◌||◌, not, List, [], ◌∷◌, Option, Some, None, Ok, nat_eq, cond, refl, sym, ◌∙◌, ap, subst, eqb-true}
use Rattle.std.specs.Prelude.{find}
use Rattle.std.specs.Cmp.{unsigned_Decides}
use Rattle.std.specs.List.{list_any, list_all, range_with_len}
use Rattle.std.specs.Option.{option_map, option_to_list}
use Rattle.std.proofs.lemmas.Bool.{and_parts, not-false}
use Rattle.std.proofs.lemmas.Bool.Decides.{nat_tests}
use Rattle.std.proofs.lemmas.Grind.{common_steps}
use Rattle.std.proofs.lemmas.List.Folds.{list_any-append}
use Rattle.serials.specs.Laws.{free_code, code_of_serial, update_of_serial, next_scope, next_code, next_update}
use Rattle.serials.specs.Serials.{scope_number, scope_part, serial_of, code_of, update_of, next_of, every_code, least_free}
use Rattle.common.specs.OnceLaws.{turned}
use Rattle.warning_book.specs.Book.{has_number, last_serial, current_of, codes_if, codes_of, numbers, new_serial}
use Rattle.warning_book.specs.Sound.{shares_code, has_one_code}
use Rattle.warning_book.specs.declared.content.Content.{Content}
use Rattle.warning_book.specs.declared.notice.Notice.{Notice}
use Rattle.warning_book.specs.declared.version.Version.{Version}
use Rattle.warning_book.specs.declared.warning.Warning.{Warning}
use Rattle.centre_past.specs.Issued.{versions_by, message_by, is_used, IsNew, IsAnsweredIssue, IsNext, FollowsLast, IsAnsweredUpdate, IsEditAnswered, IsAnswered, AreAnswered, IsBookOf}
use Rattle.centre_past.specs.Legal.{Legal}
use Rattle.centre_events.specs.Past.{Past, From, After}
use Rattle.mirror.specs.Seen.{is_the}
use Rattle.centre_events.specs.Verdict.{answered, edit_answered, issue, update}
use Rattle.centre_events.specs.Warnings.{book_of, warnings_of}
use Rattle.centre_events.specs.declared.answer.Answer.{Answer}
use Rattle.coverage_plan.specs.declared.edit.Edit.{Edit}
use Rattle.coverage_plan.specs.declared.edit.Edit.TheVariants as edit
use Rattle.centre_events.specs.declared.event.Event.{Event}
use Rattle.centre_events.specs.declared.event.Event.TheVariants as event
use Rattle.centre_events.specs.declared.settings.Settings.{Settings}
use Rattle.centre_past.proofs.AnyLemmas.{or_none, any_same}
use Rattle.centre_past.proofs.FoundLemmas.{issue_told}
use Rattle.centre_past.proofs.NumberLemmas.{passes, each_found, any_by_number}
use Rattle.centre_past.proofs.ToldLemmas.{active_found, active_told, areas_found, areas_told, versions_in, versions_found, versions_told, message_in, message_told, issued_told, numbers_told}
use Rattle.centre_past.proofs.UniqueLemmas.{verdict_answered}
use Rattle.centre_past.proofs.UpdateLemmas.{UpdateGiven, update_given}
use Rattle.centre_past.proofs.WarningLemmas.{legal_sound}

-- The least code that is free.

-- a version of the warning has the message identifier and the code
abbrev carries : ℕ → ℕ → Warning → Bool
carries m code w = nat_eq w.message_id m && list_any (λ v. nat_eq (code_of v.serial) code) w.versions

carries_found : (m code : ℕ) (o : Option Warning) → passes (carries m code) o ≡ (is_the (message_in o) m && list_any (λ v. nat_eq (code_of v.serial) code) (versions_in o))
carries_found m code None = refl
carries_found m code (Some w) = refl

-- the codes of the book are those that the entries say
used_told : (settings : Settings) (past : Past) → Legal settings past → (m code : ℕ) → list_any (carries m code) (warnings_of past) ≡ is_used past m code
used_told settings past legal m code =
    any_by_number (carries m code) (warnings_of past) (warnings_of past) (each_found (warnings_of past) (legal_sound settings past legal).ordered)
    ∙ any_same (λ n. passes (carries m code) (find (has_number n) (warnings_of past))) (λ n. is_the (message_by past n) m && list_any (λ v. nat_eq (code_of v.serial) code) (versions_by past n)) said (numbers (warnings_of past))
    ∙ ap (list_any (λ n. is_the (message_by past n) m && list_any (λ v. nat_eq (code_of v.serial) code) (versions_by past n))) (numbers_told settings past legal)
  where
    said : (n : ℕ) → passes (carries m code) (find (has_number n) (warnings_of past)) ≡ (is_the (message_by past n) m && list_any (λ v. nat_eq (code_of v.serial) code) (versions_by past n))
    said n =
        carries_found m code (find (has_number n) (warnings_of past))
        ∙ ap (λ o. is_the o m && list_any (λ v. nat_eq (code_of v.serial) code) (versions_in (find (has_number n) (warnings_of past)))) (message_told settings past legal n)
        ∙ ap (λ vs. is_the (message_by past n) m && list_any (λ v. nat_eq (code_of v.serial) code) vs) (versions_told settings past legal n)

next_above : (k a : ℕ) → nat_eq k a ≡ false → a ≤ k → a + 1 ≤ k
next_above k a h g = grind (arith, nat_tests, common_steps)

-- the numbers of a range before the first that passes fail
least_in_range : (p : ℕ → Bool) (a n k : ℕ) → find p (range_with_len a n) ≡ Some k → (j : ℕ) → a ≤ j → j < k → p j ≡ false
least_in_range p a zero k h j g l = cc
least_in_range p a (suc n) k h j g l = step (least_in_range p (a + 1) n k) (p a) refl h
  where
    step : (find p (range_with_len (a + 1) n) ≡ Some k → (i : ℕ) → a + 1 ≤ i → i < k → p i ≡ false) → (t : Bool) → p a ≡ t → cond t (Some a) (find p (range_with_len (a + 1) n)) ≡ Some k → p j ≡ false
    step rest true e f = absurd (let same : a ≡ k = cc in omega arith)
    step rest false e f = at (nat_eq j a) refl
      where
        at : (t : Bool) → nat_eq j a ≡ t → p j ≡ false
        at true q = ap p ((unsigned_Decides j a).0 q) ∙ e
        at false q = rest f j (next_above j a q g) l

-- each smaller code is used
least_taken : (used : List ℕ) (code : ℕ) → least_free used ≡ Some code → (j : ℕ) → j < code → list_any (nat_eq j) used ≡ true
unfolding every_code
least_taken used code h j g =
    not-false (list_any (nat_eq j) used) (least_in_range (λ k. not (list_any (nat_eq k) used)) 0 1024 code h j (omega arith) g)

shared_test : (t code : ℕ) (v : Version) → shares_code (Some t) v ≡ true → nat_eq (code_of v.serial) code ≡ nat_eq code (code_of t)
shared_test t code v h =
    ap (λ k. nat_eq k code) (eqb-true (code_of v.serial) (code_of t) (and_parts (nat_eq (scope_part v.serial) (scope_part t)) (nat_eq (code_of v.serial) (code_of t)) h).1)
    ∙ turned nat_eq unsigned_Decides (code_of t) code

-- versions that share a code add nothing to one of them
shared_none : (t code : ℕ) (vs : List Version) → list_all (shares_code (Some t)) vs ≡ true → (nat_eq code (code_of t) || list_any (λ v. nat_eq (code_of v.serial) code) vs) ≡ nat_eq code (code_of t)
shared_none t code [] h = or_none (nat_eq code (code_of t))
shared_none t code (v ∷ vs) h =
    let parts = and_parts (shares_code (Some t) v) (list_all (shares_code (Some t)) vs) h in
    absorbed (nat_eq code (code_of t)) (nat_eq (code_of v.serial) code) (list_any (λ u. nat_eq (code_of u.serial) code) vs) (shared_test t code v parts.0) (shared_none t code vs parts.1)
  where
    absorbed : (k b r : Bool) → b ≡ k → (k || r) ≡ k → (k || (b || r)) ≡ k
    absorbed true b r e f = refl
    absorbed false true r e f = cc
    absorbed false false r e f = f

versions_code : (code : ℕ) (o : Option ℕ) (vs : List Version) → last_serial vs ≡ o → list_all (shares_code o) vs ≡ true → list_any (nat_eq code) (option_to_list (option_map code_of o)) ≡ list_any (λ v. nat_eq (code_of v.serial) code) vs
versions_code code None [] e h = refl
versions_code code None (v ∷ vs) e h = cc
versions_code code (Some t) [] e h = cc
versions_code code (Some t) (v ∷ vs) e h =
    let parts = and_parts (shares_code (Some t) v) (list_all (shares_code (Some t)) vs) h in
    or_none (nat_eq code (code_of t))
    ∙ sym (ap (λ b. b || list_any (λ u. nat_eq (code_of u.serial) code) vs) (shared_test t code v parts.0) ∙ shared_none t code vs parts.1)

-- the code of the current version is the code of each
code_used : (m code : ℕ) (w : Warning) → has_one_code w ≡ true → list_any (nat_eq code) (codes_if m w) ≡ carries m code w
code_used m code w h = step (nat_eq w.message_id m)
  where
    step : (t : Bool) → list_any (nat_eq code) (cond t (option_to_list (option_map code_of (current_of w))) []) ≡ (t && list_any (λ v. nat_eq (code_of v.serial) code) w.versions)
    step true = versions_code code (last_serial w.versions) w.versions refl h
    step false = refl

codes_used : (m code : ℕ) (ws : List Warning) → list_all has_one_code ws ≡ true → list_any (nat_eq code) (codes_of m ws) ≡ list_any (carries m code) ws
codes_used m code [] h = refl
codes_used m code (w ∷ ws) h =
    let parts = and_parts (has_one_code w) (list_all has_one_code ws) h in
    list_any-append (nat_eq code) (codes_if m w) (codes_of m ws)
    ∙ ap (λ t. t || list_any (nat_eq code) (codes_of m ws)) (code_used m code w parts.0)
    ∙ ap (λ t. carries m code w || t) (codes_used m code ws parts.1)

scope_of_serial : (scope code : ℕ) → code < 1024 → scope_part (serial_of scope code 0) ≡ scope
scope_of_serial scope code h = omega arith

-- what the book gives a new warning
new_told : (settings : Settings) (past : Past) → Legal settings past → (notice : Notice) (s : ℕ) → new_serial (book_of past) notice ≡ Some s → IsNew past notice ((book_of past).issued + 1) s
new_told settings past legal notice s h = step (least_free (codes_of notice.message_id (warnings_of past))) refl h
  where
    used : (code : ℕ) → list_any (nat_eq code) (codes_of notice.message_id (warnings_of past)) ≡ is_used past notice.message_id code
    used code = codes_used notice.message_id code (warnings_of past) (legal_sound settings past legal).codes ∙ used_told settings past legal notice.message_id code

    step : (o : Option ℕ) → least_free (codes_of notice.message_id (warnings_of past)) ≡ o → option_map (λ code. serial_of (scope_number notice.scope) code 0) o ≡ Some s → IsNew past notice ((book_of past).issued + 1) s
    step None e g = absurd (cc)
    step (Some code) e g =
        let same : serial_of (scope_number notice.scope) code 0 ≡ s = cc in
        let free = free_code (codes_of notice.message_id (warnings_of past)) code e in
        let its : code_of s ≡ code = ap code_of (sym same) ∙ code_of_serial (scope_number notice.scope) code free.0 in
        record {
          number = ap (λ k. k + 1) (issued_told settings past legal);
          code = record {
            free = sym (used (code_of s)) ∙ ap (λ k. list_any (nat_eq k) (codes_of notice.message_id (warnings_of past))) its ∙ free.1;
            least = λ j l. sym (used j) ∙ least_taken (codes_of notice.message_id (warnings_of past)) code e j (subst (λ k. j < k) its l);
          };
          scope = ap scope_part (sym same) ∙ scope_of_serial (scope_number notice.scope) code free.0;
          update = ap update_of (sym same) ∙ update_of_serial (scope_number notice.scope) code;
        }

-- The answers.

issue_answered : (settings : Settings) (past : Past) → Legal settings past → (notice : Notice) (areas : List (List ℕ)) (a : Answer) → issue past notice areas ≡ Ok a → IsAnsweredIssue past notice a
issue_answered settings past legal notice areas a h =
    let told = issue_told past notice areas a h in
    subst (λ x. IsAnsweredIssue past notice x) (sym told.1.1) (new_told settings past legal notice told.0 told.1.0)

follows_last : (vs : List Version) (t s : ℕ) → last_serial vs ≡ Some t → IsNext t s → FollowsLast vs s
follows_last [] t s e next = absurd (cc)
follows_last (v ∷ []) t s e next = let same : v.serial ≡ t = cc in subst (λ k. IsNext k s) (sym same) next
follows_last (v ∷ u ∷ vs) t s e next = follows_last (u ∷ vs) t s e next

next_told : (t : ℕ) → IsNext t (next_of t)
next_told t = record { scope = next_scope t; code = next_code t; update = next_update t }

update_answered : (settings : Settings) (past : Past) → Legal settings past → (m : ℕ) (content : Content) (a : Answer) → update past m content ≡ Ok a → IsAnsweredUpdate (versions_by past m) a
update_answered settings past legal m content a h =
    subst (λ x. IsAnsweredUpdate (versions_by past m) x) (sym given.answered)
    (subst (λ vs. FollowsLast vs (next_of given.last)) (sym (ap versions_in given.found) ∙ versions_told settings past legal m)
    (follows_last given.warning.versions given.last (next_of given.last) given.current (next_told given.last)))
  where
    given : UpdateGiven past m a
    given = update_given settings past legal m content a h

edit_said : (settings : Settings) (past : Past) → Legal settings past → (e : Edit) (a : Answer) → edit_answered past e ≡ Ok a → IsEditAnswered past e a
edit_said settings past legal (edit.Issue notice areas) a h = issue_answered settings past legal notice areas a h
edit_said settings past legal (edit.Update m content) a h = update_answered settings past legal m content a h
edit_said settings past legal other a h = tt

event_said : (settings : Settings) (past : Past) → Legal settings past → (e : Event) (a : Answer) → answered settings.network past e ≡ Ok a → IsAnswered past e a
event_said settings past legal (event.Edit e) a h = edit_said settings past legal e a h
event_said settings past legal other a h = tt

answers_told : (settings : Settings) (past : Past) → Legal settings past → AreAnswered past
answers_told settings (From base) legal = tt
answers_told settings (After e before) legal =
    (event_said settings before legal.1 e.event e.answer (verdict_answered settings before e.event e.answer legal.0), answers_told settings before legal.1)

pub book_is_as_entered : (settings : Settings) (past : Past) → Legal settings past → IsBookOf past
book_is_as_entered settings past legal = record {
  numbered = numbers_told settings past legal;
  active = λ n. active_found n (warnings_of past) (legal_sound settings past legal).ordered ∙ active_told settings past legal n;
  areas = λ n. areas_found n (warnings_of past) ∙ areas_told settings past legal n;
  versions = λ n. versions_found n (warnings_of past) ∙ versions_told settings past legal n;
  messages = λ n. message_told settings past legal n;
  issued = issued_told settings past legal;
  answers = answers_told settings past legal;
}
