-- The key of a new version is none of the book before it, or a version of the same warning had it.
use Rattle.std.proofs.Common.{◌≡◌, arith, ℕ, ◌+◌, ◌≤◌, Bool, true, false, ◌&&◌, ◌||◌, not, nat_eq, List, [], ◌∷◌, ◌++◌, Some, None, Ok, map, cond, refl, sym, ◌∙◌, ap, subst, eqb-true, eq-eqb}
use Rattle.std.specs.Prelude.{find}
use Rattle.std.specs.List.{list_any}
use Rattle.std.specs.Option.{option_map}
use Rattle.std.proofs.lemmas.Bool.{and_parts, and_from, or_left, or_from}
use Rattle.std.proofs.lemmas.List.Folds.{list_any-append}
use Rattle.common.specs.OrderLaws.{find_passes}
use Rattle.common.specs.Sums.{one, count_of}
use Rattle.common.specs.SumLaws.{count_append}
use Rattle.serials.specs.Serials.{update_of, next_of}
use Rattle.warning_book.specs.Book.{but_serial, changed_if, edited, followed, has_number, has_serial, last_serial, new_serial, new_warning, updated, version_after, warning_of, with_next}
use Rattle.warning_book.specs.Sound.{IsSound}
use Rattle.warning_book.specs.declared.content.Content.{Content}
use Rattle.warning_book.specs.declared.notice.Notice.{Notice}
use Rattle.warning_book.specs.declared.version.Version.{Version}
use Rattle.warning_book.specs.declared.warning.Warning.{Warning}
use Rattle.centre_events.specs.Effects.{is_given}
use Rattle.centre_events.specs.Facts.{version_at}
use Rattle.centre_past.specs.Legal.{Legal}
use Rattle.centre_events.specs.Past.{Past, After}
use Rattle.centre_events.specs.Verdict.{verdict}
use Rattle.centre_events.specs.Warnings.{book_of, warnings_of, is_version, has_key, is_key}
use Rattle.coverage_plan.specs.Edited.{with_issue}
use Rattle.centre_events.specs.declared.answer.Answer.{Answer}
use Rattle.centre_events.specs.declared.entry.Entry.{Entry}
use Rattle.coverage_plan.specs.declared.edit.Edit.TheVariants as edit
use Rattle.centre_events.specs.declared.event.Event.TheVariants as event
use Rattle.centre_events.specs.declared.settings.Settings.{Settings}
use Rattle.centre_past.proofs.AnyLemmas.{and_none, any_filter, any_implies, contrary}
use Rattle.centre_past.proofs.BookLemmas.{found_keyed, keys_stay, owned_by, owner_of}
use Rattle.centre_past.proofs.FoundLemmas.{view_edited}
use Rattle.centre_past.proofs.LineLemmas.{found_passes, entry_of}
use Rattle.centre_past.proofs.NextLemmas.{next_keeps, next_there}
use Rattle.centre_events.proofs.PastLemmas.{any_image}
use Rattle.centre_past.proofs.UniqueLemmas.{any_none, unique, verdict_answered}
use Rattle.centre_past.proofs.UpdateLemmas.{UpdateGiven, given_parts, next_free, update_given}
use Rattle.centre_past.proofs.WarningLemmas.{legal_sound}

-- An Issue.

issued_alone : (p : Warning → Bool) (ws : List Warning) (w : Warning) → p w ≡ true → count_of p (ws ++ w ∷ []) ≤ 1 → list_any p ws ≡ false
issued_alone p ws w h bound =
    let sum : count_of p (ws ++ w ∷ []) ≡ count_of p ws + count_of p (w ∷ []) = count_append p ws (w ∷ []) in
    let last : count_of p (w ∷ []) ≡ 1 = ap (λ t. one t + 0) h in
    any_none p ws (omega arith)

pub issue_new : (settings : Settings) (past : Past) → Legal settings past → (notice : Notice) (areas : List (List ℕ)) (a : Answer) → verdict settings past (event.Edit (edit.Issue notice areas)) ≡ Ok a → (s : ℕ) → new_serial (book_of past) notice ≡ Some s → is_key past notice.message_id s ≡ false
issue_new settings past legal notice areas a v s e =
    issued_alone (has_key notice.message_id s) (warnings_of past) (new_warning ((book_of past).issued + 1) notice areas s)
    (and_from (nat_eq notice.message_id notice.message_id) (nat_eq s s || false) (eq-eqb notice.message_id notice.message_id refl) (or_left (nat_eq s s) false (eq-eqb s s refl)))
    (subst (λ o. count_of (has_key notice.message_id s) (with_issue notice areas o (book_of past)).warnings ≤ 1) e
    (unique (with_issue notice areas (new_serial (book_of past) notice) (book_of past)) (legal_sound settings (After (entry_of 0 (event.Edit (edit.Issue notice areas)) a) past) (v, legal)) notice.message_id s))

-- An Update.

counted_some : {X : Type 0} (p : X → Bool) (xs : List X) → list_any p xs ≡ true → 1 ≤ count_of p xs
counted_some p [] h = cc
counted_some p (x ∷ xs) h = step (counted_some p xs) (p x) h
  where
    step : (list_any p xs ≡ true → 1 ≤ count_of p xs) → (t : Bool) → (t || list_any p xs) ≡ true → 1 ≤ one t + count_of p xs
    step rest true g = omega arith
    step rest false g = let more : 1 ≤ count_of p xs = rest g in omega arith

-- where one more passes than before, and at most one, none passed
changed_alone : (p : Warning → Bool) (g : Warning → Warning) (n : ℕ) (ws : List Warning) (w : Warning) → ((x : Warning) → p x ≡ true → p (g x) ≡ true) → find (has_number n) ws ≡ Some w → p w ≡ false → p (g w) ≡ true → count_of p (map g ws) ≤ 1 → list_any p ws ≡ false
changed_alone p g n [] w keeps found before after bound = refl
changed_alone p g n (x ∷ xs) w keeps found before after bound = step (changed_alone p g n xs w keeps) (has_number n x) refl found
  where
    still : list_any p xs ≡ true → list_any p (map g xs) ≡ true
    still h = any_image p g xs ∙ any_implies p (λ y. p (g y)) keeps xs h

    there : find (has_number n) xs ≡ Some w → list_any p (map g xs) ≡ true
    there e = any_image p g xs ∙ found_passes (has_number n) (λ y. p (g y)) xs w e after

    step : (find (has_number n) xs ≡ Some w → p w ≡ false → p (g w) ≡ true → count_of p (map g xs) ≤ 1 → list_any p xs ≡ false) → (t : Bool) → has_number n x ≡ t → cond t (Some x) (find (has_number n) xs) ≡ Some w → (p x || list_any p xs) ≡ false
    step rest true e f =
        let same : x ≡ w = cc in
        let here : one (p (g x)) ≡ 1 = ap (λ z. one (p (g z))) same ∙ ap one after in
        or_from (p x) (list_any p xs) (ap p same ∙ before) (contrary (list_any p xs) (list_any p (map g xs)) still (any_none p (map g xs) (omega arith)))
    step rest false e f =
        let more : 1 ≤ count_of p (map g xs) = counted_some p (map g xs) (there f) in
        or_from (p x) (list_any p xs) (contrary (p x) (p (g x)) (keeps x) (none (p (g x)) (omega arith))) (rest f before after (omega arith))
      where
        none : (t : Bool) → one t ≤ 0 → t ≡ false
        none true k = absurd (omega arith)
        none false k = refl

-- a version after an Update has a serial number that a version had before, where one had the next
pub next_among : (content : Content) (t s : ℕ) (vs : List Version) → last_serial vs ≡ Some t → list_any (is_version (next_of t)) vs ≡ true → list_any (is_version s) (with_next content vs) ≡ true → list_any (is_version s) vs ≡ true
next_among content t s vs last there h =
    step (list_any (is_version s) (but_serial (next_of t) vs)) refl (nat_eq (next_of t) s) refl
    (sym (list_any-append (is_version s) (but_serial (next_of t) vs) (version_after content t ∷ [])) ∙ sym (ap (λ o. list_any (is_version s) (followed content o vs)) last) ∙ h)
  where
    step : (x : Bool) → list_any (is_version s) (but_serial (next_of t) vs) ≡ x → (y : Bool) → nat_eq (next_of t) s ≡ y → (x || (y || false)) ≡ true → list_any (is_version s) vs ≡ true
    step true e y f g = any_filter (is_version s) (λ v. not (has_serial (next_of t) v)) vs e
    step false e true f g = ap (λ k. list_any (is_version k) vs) (sym (eqb-true (next_of t) s f)) ∙ there
    step false e false f g = cc

-- the warning after an Update
found_after : (past : Past) (n : ℕ) (content : Content) (w : Warning) → warning_of (book_of past) n ≡ Some w → find (has_number n) (edited n (updated content) (warnings_of past)) ≡ Some (updated content w)
found_after past n content w found =
    view_edited (λ o. o) n n (updated content) (λ x. refl) (warnings_of past)
    ∙ ap (λ t. cond t (option_map (updated content) (find (has_number n) (warnings_of past))) (find (has_number n) (warnings_of past))) (eq-eqb n n refl)
    ∙ ap (option_map (updated content)) found

-- where no version of the warning has the next serial number, no version has its update number, and no warning its key
pub update_new : (settings : Settings) (past : Past) → Legal settings past → (n : ℕ) (content : Content) (a : Answer) → verdict settings past (event.Edit (edit.Update n content)) ≡ Ok a → (w : Warning) → warning_of (book_of past) n ≡ Some w → (s : ℕ) → last_serial w.versions ≡ Some s → list_any (is_version (next_of s)) w.versions ≡ false → (version_at w.versions (update_of (next_of s)) ≡ None) × (is_key past w.message_id (next_of s) ≡ false)
update_new settings past legal n content a v w found s last none =
    (next_free past n w s (legal_sound settings past legal) found last none, changed_alone (has_key w.message_id (next_of s)) (changed_if n (updated content)) n (warnings_of past) w keeps found before after bound)
  where
    ws : List Warning
    ws = edited n (updated content) (warnings_of past)

    before : has_key w.message_id (next_of s) w ≡ false
    before = ap (λ t. nat_eq w.message_id w.message_id && t) none ∙ and_none (nat_eq w.message_id w.message_id)

    number : has_number n w ≡ true
    number = find_passes (has_number n) (warnings_of past) w found

    after : has_key w.message_id (next_of s) (changed_if n (updated content) w) ≡ true
    after =
        ap (λ t. has_key w.message_id (next_of s) (cond t (updated content w) w)) number
        ∙ and_from (nat_eq w.message_id w.message_id) (list_any (is_version (next_of s)) (with_next content w.versions)) (eq-eqb w.message_id w.message_id refl) (next_there content s w.versions last)

    keeps : (x : Warning) → has_key w.message_id (next_of s) x ≡ true → has_key w.message_id (next_of s) (changed_if n (updated content) x) ≡ true
    keeps x h = at (has_number n x)
      where
        at : (t : Bool) → has_key w.message_id (next_of s) (cond t (updated content x) x) ≡ true
        at true =
            let parts = and_parts (nat_eq x.message_id w.message_id) (list_any (is_version (next_of s)) x.versions) h in
            and_from (nat_eq x.message_id w.message_id) (list_any (is_version (next_of s)) (with_next content x.versions)) parts.0 (next_keeps content (next_of s) x.versions parts.1)
        at false = h

    bound : count_of (has_key w.message_id (next_of s)) ws ≤ 1
    bound =
        unique (record (book_of past) { warnings = ws }) (legal_sound settings (After (entry_of 0 (event.Edit (edit.Update n content)) a) past) (v, legal)) w.message_id (next_of s)

-- an Update gives its serial number to no key of another warning
pub other_given : (settings : Settings) (past : Past) → Legal settings past → (n : ℕ) (content : Content) (a : Answer) → verdict settings past (event.Edit (edit.Update n content)) ≡ Ok a → (k : ℕ) (w : Warning) → warning_of (book_of past) k ≡ Some w → nat_eq n k ≡ false → (s : ℕ) → list_any (is_version s) w.versions ≡ true → is_given n w.message_id s a (warnings_of past) ≡ false
other_given settings past legal n content a v k w found other s version = step (is_given n w.message_id s a (warnings_of past)) refl
  where
    e : Entry
    e = entry_of 0 (event.Edit (edit.Update n content)) a

    sound : IsSound (book_of past)
    sound = legal_sound settings past legal

    after_sound : IsSound (book_of (After e past))
    after_sound = legal_sound settings (After e past) (v, legal)

    given : UpdateGiven past n a
    given = update_given settings past legal n content a (verdict_answered settings past (event.Edit (edit.Update n content)) a v)

    m : ℕ
    m = w.message_id

    few : count_of (has_key m s) (warnings_of (After e past)) ≤ 1
    few = unique (book_of (After e past)) after_sound m s

    theirs : owner_of (warnings_of (After e past)) m s ≡ Some k
    theirs =
        owned_by k m s (warnings_of (After e past)) few
        (keys_stay e past k m s refl (found_keyed (book_of past) k w m s sound.ordered found (and_from (nat_eq w.message_id m) (list_any (is_version s) w.versions) (eq-eqb w.message_id m refl) version)))

    ours : s ≡ next_of given.last → given.warning.message_id ≡ m → owner_of (warnings_of (After e past)) m s ≡ Some n
    ours serial id =
        owned_by n m s (warnings_of (After e past)) few
        (found_keyed (book_of (After e past)) n (updated content given.warning) m s after_sound.ordered (found_after past n content given.warning given.found)
        (and_from (nat_eq given.warning.message_id m) (list_any (is_version s) (with_next content given.warning.versions)) (eq-eqb given.warning.message_id m id)
        (ap (λ t. list_any (is_version t) (with_next content given.warning.versions)) serial ∙ next_there content given.last given.warning.versions given.current)))

    step : (t : Bool) → is_given n m s a (warnings_of past) ≡ t → t ≡ false
    step false h = refl
    step true h =
        let parts = given_parts past n a sound.ordered given m s h in
        let one : Some n ≡ Some k = sym (ours parts.0 parts.1) ∙ theirs in
        let same : n ≡ k = cc in
        sym (eq-eqb n k same) ∙ other
