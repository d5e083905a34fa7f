-- The book of a legal past is sound; what an Issue is answered, and what refuses an Update.
use Rattle.std.proofs.Common.{◌≡◌, ◌++◌, arith, ℕ, ◌+◌, ◌<◌, Bool, true, false, ◌&&◌, ◌||◌, not, List, [], ◌∷◌, Option, Some, None, Ok, Err, nat_eq, length, cond, refl, sym, ◌∙◌, ap, eqb-true, subst}
use Rattle.std.specs.Prelude.{IfSome, IsOk, find}
use Rattle.std.specs.List.{list_any, list_all}
use Rattle.std.specs.Option.{option_map}
use Rattle.std.proofs.lemmas.Bool.{leb-false, and_parts, and_from, or_parts}
use Rattle.std.proofs.lemmas.List.Folds.{list_all-append}
use Rattle.common.specs.CheckLaws.{NoneHolds, none_holds}
use Rattle.common.specs.Checks.{first_refusal}
use Rattle.warning_book.specs.Book.{State, empty, has_number, warning_of, is_so, versions_if, versions_with, content_of, new_serial, next_serial}
use Rattle.warning_book.specs.Checks as book
use Rattle.warning_book.specs.Content.{have_pages, has_period}
use Rattle.warning_book.specs.SerialLaws.{serial_is_there}
use Rattle.warning_book.specs.Sound.{IsSound, is_good, has_contents}
use Rattle.warning_book.specs.SoundLaws.{sound_after_issue, sound_after_update, sound_after_widen, sound_after_narrow, sound_after_stop, sound_after_forget}
use Rattle.warning_book.specs.declared.content.Content.{Content}
use Rattle.warning_book.specs.declared.notice.Notice.{Notice}
use Rattle.warning_book.specs.declared.refusal.Refusal as book_refusal
use Rattle.warning_book.specs.declared.version.Version.{Version}
use Rattle.warning_book.specs.declared.warning.Warning.{Warning}
use Rattle.centre_events.specs.Base.{Base}
use Rattle.centre_events.specs.Cover.{is_area}
use Rattle.centre_past.specs.Legal.{Legal}
use Rattle.centre_events.specs.Past.{Past, From, After}
use Rattle.centre_events.specs.Refusals.{of_book}
use Rattle.centre_events.specs.Reported.{is_key_reported, is_key_in_flight}
use Rattle.centre_events.specs.Verdict.{unless, answered, edit_answered, by_book, issue, issue_answer, reuses, update, update_answer}
use Rattle.centre_events.specs.Warnings.{book_of, book_then}
use Rattle.coverage_plan.specs.Edited.{book_after, with_issue}
use Rattle.centre_events.specs.declared.answer.Answer.{Answer}
use Rattle.centre_events.specs.declared.answer.Answer.TheVariants as answer
use Rattle.coverage_plan.specs.declared.edit.Edit.{Edit}
use Rattle.coverage_plan.specs.declared.edit.Edit.TheVariants as edit
use Rattle.centre_events.specs.declared.event.Event.{Event}
use Rattle.centre_events.specs.declared.event.Event.TheVariants as event
use Rattle.centre_events.specs.declared.network.Network.{Network}
use Rattle.centre_events.specs.declared.refusal.Refusal.{Refusal}
use Rattle.centre_events.specs.declared.refusal.Refusal.TheVariants as refusal
use Rattle.centre_events.specs.declared.settings.Settings.{Settings}
use Rattle.centre_past.proofs.CheckLemmas.{refused_first, passed, none_around, none_held, checked_after}
use Rattle.centre_past.proofs.FoundLemmas.{found_number}
use Rattle.centre_past.proofs.UniqueLemmas.{verdict_answered}

-- What the book refuses.

-- what is issued has a serial number, since a code is free
pub issue_ok : (past : Past) (notice : Notice) (areas : List (List ℕ)) → first_refusal (book.issue_checks (book_of past) notice areas) ≡ None → IsOk (issue_answer ((book_of past).issued + 1) (new_serial (book_of past) notice))
issue_ok past notice areas h = step (new_serial (book_of past) notice) refl
  where
    none : NoneHolds (book.issue_checks (book_of past) notice areas)
    none = none_holds (book.issue_checks (book_of past) notice areas) h

    few : length (book_of past).warnings < 256
    few = leb-false 256 (length (book_of past).warnings) none.1.1.1.1.0

    step : (o : Option ℕ) → new_serial (book_of past) notice ≡ o → IsOk (issue_answer ((book_of past).issued + 1) o)
    step None e = serial_is_there (book_of past).issued (book_of past).warnings notice few e
    step (Some s) e = refl

-- what is so of no warning of the number is not so of the one that is found
found_not : (n : ℕ) (f : Warning → Bool) (ws : List Warning) (w : Warning) → find (has_number n) ws ≡ Some w → is_so n f ws ≡ false → f w ≡ false
found_not n f [] w h g = cc
found_not n f (v ∷ ws) w h g = step (found_not n f ws w) (has_number n v) h g
  where
    step : (find (has_number n) ws ≡ Some w → is_so n f ws ≡ false → f w ≡ false) → (t : Bool) → cond t (Some v) (find (has_number n) ws) ≡ Some w → ((t && f v) || is_so n f ws) ≡ false → f w ≡ false
    step rest true e k = let same : v ≡ w = cc in ap f (sym same) ∙ (or_parts (f v) (is_so n f ws) k).0
    step rest false e k = rest e k

-- whatever serial number it has, an Update that nothing refuses is accepted
pub update_ok : (past : Past) (n : ℕ) → IsOk (update_answer (next_serial (book_of past) n))
update_ok past n = step (next_serial (book_of past) n)
  where
    step : (o : Option ℕ) → IsOk (update_answer o)
    step None = refl
    step (Some s) = refl

-- that what is on air or in flight of the next serial number refuses an Update
abbrev reuse_checks : Past → ℕ → List (Bool × Refusal)
reuse_checks past n = (reuses past n (is_key_reported past), refusal.StillReported) ∷ (reuses past n (is_key_in_flight past), refusal.StillInFlight) ∷ []

-- Why an Update is refused, and where it isn't.

pub update_first : (past : Past) (st : State) (n : ℕ) (content : Content) (e : book_refusal.Refusal) → st ≡ book_of past → first_refusal (book.there_checks st n) ≡ Some e → update past n content ≡ Err (of_book e)
update_first past st n content e is h =
    refused_first of_book (book.there_checks (book_of past) n) (reuse_checks past n ++ by_book (book.content_checks (book_of past) n content)) (update_answer (next_serial (book_of past) n)) e (rw (← is) h)

-- what the book does not refuse is refused by what is on air or in flight of its next serial number, or else by its content
pub update_there : (past : Past) (st : State) (n : ℕ) (content : Content) → st ≡ book_of past → first_refusal (book.there_checks st n) ≡ None → update past n content ≡ unless (reuse_checks past n) (unless (by_book (book.content_checks (book_of past) n content)) (update_answer (next_serial (book_of past) n)))
update_there past st n content is h =
    passed of_book (book.there_checks (book_of past) n) (reuse_checks past n ++ by_book (book.content_checks (book_of past) n content)) (update_answer (next_serial (book_of past) n)) (rw (← is) h)

-- a warning that the book does not refuse to forget is not active
pub forget_inactive : (st : State) (n : ℕ) (w : Warning) → warning_of st n ≡ Some w → first_refusal (book.forget_checks st n) ≡ None → w.active ≡ false
forget_inactive st n w h checked =
    let none : NoneHolds (book.forget_checks st n) = none_holds (book.forget_checks st n) checked in
    found_not n (λ v. v.active) st.warnings w h none.1.0

-- a warning that is found is found by its own number
pub found_itself : (past : Past) (st : State) (n : ℕ) (w : Warning) → st ≡ book_of past → warning_of st n ≡ Some w → warning_of (book_of past) w.number ≡ Some w
found_itself past st n w is h =
    let same : w.number ≡ n = eqb-true w.number n (found_number n st.warnings w h) in
    ap (warning_of (book_of past)) same ∙ ap (λ k. warning_of k n) (sym is) ∙ h

-- What holds of the book of a legal past.

issued_sound : (past : Past) (notice : Notice) (areas : List (List ℕ)) (a : Answer) → issue past notice areas ≡ Ok a → IsSound (book_of past) → IsSound (with_issue notice areas (new_serial (book_of past) notice) (book_of past))
issued_sound past notice areas a h sound = step (new_serial (book_of past) notice) refl
  where
    after : unless (by_book (book.issue_checks (book_of past) notice areas)) (issue_answer ((book_of past).issued + 1) (new_serial (book_of past) notice)) ≡ Ok a
    after = checked_after (list_any (λ a. not (is_area past a)) areas) refusal.NoSuchArea (unless (by_book (book.issue_checks (book_of past) notice areas)) (issue_answer ((book_of past).issued + 1) (new_serial (book_of past) notice))) a h

    step : (o : Option ℕ) → new_serial (book_of past) notice ≡ o → IsSound (with_issue notice areas o (book_of past))
    step None e = sound
    step (Some s) e =
        sound_after_issue (book_of past) notice areas s
        (none_held of_book (book.issue_checks (book_of past) notice areas) (issue_answer ((book_of past).issued + 1) (new_serial (book_of past) notice)) a after) e sound

sound_after : (past : Past) (e : Edit) (a : Answer) → edit_answered past e ≡ Ok a → IsSound (book_of past) → IsSound (book_after e (book_of past))
sound_after past (edit.Issue notice areas) a h sound = issued_sound past notice areas a h sound
sound_after past (edit.Update n content) a h sound =
    sound_after_update (book_of past) n content
    (none_around of_book (book.there_checks (book_of past) n) (reuse_checks past n) (book.content_checks (book_of past) n content) (update_answer (next_serial (book_of past) n)) (subst IsOk (sym h) refl)) sound
sound_after past (edit.Widen n x) a h sound =
    sound_after_widen (book_of past) n x (none_held of_book (book.widen_checks (book_of past) n x) (Ok answer.Done) a (checked_after (not (is_area past x)) refusal.NoSuchArea (unless (by_book (book.widen_checks (book_of past) n x)) (Ok answer.Done)) a h)) sound
sound_after past (edit.Narrow n x) a h sound =
    sound_after_narrow (book_of past) n x (none_held of_book (book.narrow_checks (book_of past) n x) (Ok answer.Done) a (checked_after (not (is_area past x)) refusal.NoSuchArea (unless (by_book (book.narrow_checks (book_of past) n x)) (Ok answer.Done)) a h)) sound
sound_after past (edit.Stop n) a h sound = sound_after_stop (book_of past) n sound
sound_after past (edit.Forget n) a h sound = sound_after_forget (book_of past) n sound
sound_after past other a h sound = sound

sound_then : (network : Network) (past : Past) (e : Event) (a : Answer) → answered network past e ≡ Ok a → IsSound (book_of past) → IsSound (book_then e (book_of past))
sound_then network past (event.Edit e) a h sound = sound_after past e a h sound
sound_then network past other a h sound = sound

-- the empty book is sound
sound_empty : IsSound empty
sound_empty = record { ordered = refl; given = refl; few = omega arith; areas = refl; contents = refl; versions = refl; serials = refl; codes = refl; own_codes = refl; kinds = refl }

-- so is that of a legal past
pub legal_sound : (settings : Settings) (past : Past) → Legal settings past → IsSound (book_of past)
legal_sound settings (From base) legal = subst (λ (k : Base). IsSound k.book) (sym legal) sound_empty
legal_sound settings (After e before) legal = sound_then settings.network before e.event e.answer (verdict_answered settings before e.event e.answer legal.0) (legal_sound settings before legal.1)

-- The pages of what the book holds.

good_if : (m : ℕ) (w : Warning) → has_contents w ≡ true → list_all is_good (versions_if m w) ≡ true
good_if m w h = step (nat_eq w.message_id m)
  where
    step : (t : Bool) → list_all is_good (cond t w.versions []) ≡ true
    step true = h
    step false = refl

good_with : (m : ℕ) (ws : List Warning) → list_all has_contents ws ≡ true → list_all is_good (versions_with m ws) ≡ true
good_with m [] h = refl
good_with m (w ∷ ws) h =
    let parts = and_parts (has_contents w) (list_all has_contents ws) h in
    list_all-append is_good (versions_if m w) (versions_with m ws) ∙ and_from (list_all is_good (versions_if m w)) (list_all is_good (versions_with m ws)) (good_if m w parts.0) (good_with m ws parts.1)

found_good : (s : ℕ) (vs : List Version) → list_all is_good vs ≡ true → IfSome (option_map (λ v. v.content) (find (λ v. nat_eq v.serial s) vs)) (λ c. have_pages c ≡ true)
found_good s [] h = tt
found_good s (v ∷ vs) h = step (found_good s vs) (nat_eq v.serial s) (and_parts (is_good v) (list_all is_good vs) h)
  where
    step : (list_all is_good vs ≡ true → IfSome (option_map (λ u. u.content) (find (λ u. nat_eq u.serial s) vs)) (λ c. have_pages c ≡ true)) → (t : Bool) → (is_good v ≡ true) × (list_all is_good vs ≡ true) → IfSome (option_map (λ u. u.content) (cond t (Some v) (find (λ u. nat_eq u.serial s) vs))) (λ c. have_pages c ≡ true)
    step rest true parts = (and_parts (have_pages v.content) (has_period v.content) parts.0).0
    step rest false parts = rest parts.1

-- a content of the book has good pages
pub content_has_pages : (m s : ℕ) (ws : List Warning) → list_all has_contents ws ≡ true → IfSome (content_of m s ws) (λ c. have_pages c ≡ true)
content_has_pages m s ws h = found_good s (versions_with m ws) (good_with m ws h)
