-- What an accepted Update gives: a version to a warning that is in the book, with a serial number of which nothing else in
-- the book is.
use Rattle.std.proofs.Common.{◌≡◌, ℕ, Bool, true, false, ◌&&◌, nat_eq, List, [], ◌∷◌, Option, Some, None, Ok, cond, refl, sym, ◌∙◌, ap, eqb-true, eq-eqb}
use Rattle.std.specs.Prelude.{find, if◌then◌else◌}
use Rattle.std.specs.List.{list_any, list_all}
use Rattle.std.specs.Option.{is_some, option_eq, option_map, option_and_then, option_to_list}
use Rattle.std.proofs.lemmas.Bool.{and_parts, not-false, or_parts}
use Rattle.common.specs.Order.{is_ascending}
use Rattle.serials.specs.Laws.{next_code, next_scope, same_serial}
use Rattle.serials.specs.Serials.{code_of, next_of, scope_part, update_of}
use Rattle.warning_book.specs.Book.{changed_if, current_of, edited, has_none, has_number, has_serial, is_so, last_serial, next_serial, number_lt, updated, warning_of}
use Rattle.warning_book.specs.Laws.{found_so, so_edited}
use Rattle.warning_book.specs.Sound.{IsSound, has_one_code, shares_code}
use Rattle.warning_book.specs.VersionLaws.{none_empty}
use Rattle.warning_book.specs.declared.content.Content.{Content}
use Rattle.warning_book.specs.declared.version.Version.{Version}
use Rattle.warning_book.specs.declared.warning.Warning.{Warning}
use Rattle.centre_events.specs.Effects.{is_given}
use Rattle.centre_events.specs.Facts.{version_at}
use Rattle.centre_past.specs.Legal.{Legal}
use Rattle.centre_events.specs.Past.{Past}
use Rattle.centre_events.specs.Verdict.{reuses, update, update_answer, update_checks}
use Rattle.centre_events.specs.Warnings.{book_of, is_version, warnings_of}
use Rattle.centre_events.specs.declared.answer.Answer.{Answer}
use Rattle.centre_events.specs.declared.answer.Answer.TheVariants as answer
use Rattle.centre_events.specs.declared.settings.Settings.{Settings}
use Rattle.centre_past.proofs.AnyLemmas.{any_same, or_none}
use Rattle.centre_past.proofs.CheckLemmas.{no_check}
use Rattle.centre_past.proofs.FoundLemmas.{found_any}
use Rattle.centre_past.proofs.LineLemmas.{found_all}
use Rattle.centre_past.proofs.ToldLemmas.{update_told}
use Rattle.centre_past.proofs.WarningLemmas.{legal_sound}

-- the warning that is updated, the serial number of its current version, and the answer, which gives the next one
pub record UpdateGiven (past : Past) (n : ℕ) (a : Answer) : Type 0 where
  pub warning : Warning
  pub found : warning_of (book_of past) n ≡ Some warning
  pub last : ℕ
  pub current : last_serial warning.versions ≡ Some last
  pub answered : a ≡ answer.Updated (next_of last)

pub update_given : (settings : Settings) (past : Past) → Legal settings past → (n : ℕ) (content : Content) (a : Answer) → update past n content ≡ Ok a → UpdateGiven past n a
update_given settings past legal n content a h = step (find (has_number n) (warnings_of past)) refl there (update_told past n content a h)
  where
    sound : IsSound (book_of past)
    sound = legal_sound settings past legal

    there : is_some (find (has_number n) (warnings_of past)) ≡ true
    there =
        sym (found_any n (warnings_of past))
        ∙ not-false (list_any (has_number n) (warnings_of past)) (no_check (update_checks past n content) (update_answer (next_serial (book_of past) n)) a h).0

    -- every warning has a current version
    some_current : (w : Warning) → find (has_number n) (warnings_of past) ≡ Some w → is_some (current_of w) ≡ true
    some_current w e = not-false (is_some (current_of w)) (sym (found_so n has_none (warnings_of past) w sound.ordered e) ∙ none_empty n (warnings_of past) sound.versions)

    given : (w : Warning) → find (has_number n) (warnings_of past) ≡ Some w → (o : Option ℕ) → current_of w ≡ o → is_some o ≡ true → update_answer (option_map next_of o) ≡ Ok a → UpdateGiven past n a
    given w e None i some g = absurd (cc)
    given w e (Some s) i some g = let same : answer.Updated (next_of s) ≡ a = cc in record { warning = w; found = e; last = s; current = i; answered = sym same }

    step : (o : Option Warning) → find (has_number n) (warnings_of past) ≡ o → is_some o ≡ true → update_answer (option_map next_of (option_and_then current_of o)) ≡ Ok a → UpdateGiven past n a
    step None e some g = absurd (cc)
    step (Some w) e some g = given w e (current_of w) refl (some_current w e) g

-- which key the answer gives
pub given_parts : (past : Past) (n : ℕ) (a : Answer) → is_ascending number_lt (warnings_of past) ≡ true → (g : UpdateGiven past n a) → (m s : ℕ) → is_given n m s a (warnings_of past) ≡ true → (s ≡ next_of g.last) × (g.warning.message_id ≡ m)
given_parts past n a ordered g m s h =
    let parts = and_parts (nat_eq s (next_of g.last)) (is_so n (λ (w : Warning). nat_eq w.message_id m) (warnings_of past)) (sym (ap (λ x. is_given n m s x (warnings_of past)) g.answered) ∙ h) in
    (eqb-true s (next_of g.last) parts.0, eqb-true g.warning.message_id m (sym (found_so n (λ (w : Warning). nat_eq w.message_id m) (warnings_of past) g.warning ordered g.found) ∙ parts.1))

-- the book after the Update tells the same of it as the book before
pub given_after : (n : ℕ) (content : Content) (m s : ℕ) (a : Answer) (ws : List Warning) → is_given n m s a (edited n (updated content) ws) ≡ is_given n m s a ws
given_after n content m s (answer.Updated t) ws =
    ap (λ x. nat_eq s t && x) (so_edited n n (updated content) (λ (w : Warning). nat_eq w.message_id m) (λ w. refl) ws ∙ any_same (λ (w : Warning). has_number n w && nat_eq (changed_if n (updated content) w).message_id m) (λ (w : Warning). has_number n w && nat_eq w.message_id m) (λ w. same w (has_number n w)) ws)
  where
    same : (w : Warning) (t : Bool) → (has_number n w && nat_eq (if t then updated content w else w).message_id m) ≡ (has_number n w && nat_eq w.message_id m)
    same w true = refl
    same w false = refl
given_after n content m s other ws = refl

-- whether the serial number is that of a version, and what else is asked of it then
pub reuses_of : (past : Past) (n : ℕ) (p : ℕ → ℕ → Bool) (w : Warning) (s : ℕ) → is_ascending number_lt (warnings_of past) ≡ true → warning_of (book_of past) n ≡ Some w → last_serial w.versions ≡ Some s → reuses past n p ≡ (list_any (is_version (next_of s)) w.versions && p w.message_id (next_of s))
reuses_of past n p w s ordered found current =
    found_so n (λ (v : Warning). list_any (λ t. (option_eq nat_eq (option_map next_of (current_of v)) (Some t) && list_any (has_serial t) v.versions) && p v.message_id t) (option_to_list (option_map next_of (current_of v)))) (warnings_of past) w ordered found
    ∙ ap (λ (o : Option ℕ). list_any (λ t. (option_eq nat_eq (option_map next_of o) (Some t) && list_any (has_serial t) w.versions) && p w.message_id t) (option_to_list (option_map next_of o))) current
    ∙ or_none ((nat_eq (next_of s) (next_of s) && list_any (has_serial (next_of s)) w.versions) && p w.message_id (next_of s))
    ∙ ap (λ t. (t && list_any (has_serial (next_of s)) w.versions) && p w.message_id (next_of s)) (eq-eqb (next_of s) (next_of s) refl)

-- where no version of one scope and code has the next serial number, none has its update number
none_shares : (s : ℕ) (vs : List Version) → list_all (shares_code (Some s)) vs ≡ true → list_any (is_version (next_of s)) vs ≡ false → version_at vs (update_of (next_of s)) ≡ None
none_shares s [] shared h = refl
none_shares s (v ∷ vs) shared h =
    step
    (none_shares s vs (and_parts (shares_code (Some s) v) (list_all (shares_code (Some s)) vs) shared).1 (or_parts (nat_eq v.serial (next_of s)) (list_any (is_version (next_of s)) vs) h).1)
    (nat_eq (update_of v.serial) (update_of (next_of s))) refl
  where
    parts : (shares_code (Some s) v ≡ true) × (list_all (shares_code (Some s)) vs ≡ true)
    parts = and_parts (shares_code (Some s) v) (list_all (shares_code (Some s)) vs) shared

    other : (nat_eq v.serial (next_of s) ≡ false) × (list_any (is_version (next_of s)) vs ≡ false)
    other = or_parts (nat_eq v.serial (next_of s)) (list_any (is_version (next_of s)) vs) h

    same : update_of v.serial ≡ update_of (next_of s) → v.serial ≡ next_of s
    same e =
        let codes = and_parts (nat_eq (scope_part v.serial) (scope_part s)) (nat_eq (code_of v.serial) (code_of s)) parts.0 in
        same_serial v.serial (next_of s) (eqb-true (scope_part v.serial) (scope_part s) codes.0 ∙ sym (next_scope s)) (eqb-true (code_of v.serial) (code_of s) codes.1 ∙ sym (next_code s)) e

    step : version_at vs (update_of (next_of s)) ≡ None → (t : Bool) → nat_eq (update_of v.serial) (update_of (next_of s)) ≡ t → cond t (Some v) (version_at vs (update_of (next_of s))) ≡ None
    step rest true e =
        absurd (let no : true ≡ false = sym (eq-eqb v.serial (next_of s) (same (eqb-true (update_of v.serial) (update_of (next_of s)) e))) ∙ other.0 in cc)
    step rest false e = rest

-- so it is in a sound book
pub next_free : (past : Past) (n : ℕ) (w : Warning) (s : ℕ) → IsSound (book_of past) → warning_of (book_of past) n ≡ Some w → last_serial w.versions ≡ Some s → list_any (is_version (next_of s)) w.versions ≡ false → version_at w.versions (update_of (next_of s)) ≡ None
next_free past n w s sound found current none =
    none_shares s w.versions (sym (ap (λ o. list_all (shares_code o) w.versions) current) ∙ found_all (has_number n) has_one_code (warnings_of past) w found sound.codes) none
