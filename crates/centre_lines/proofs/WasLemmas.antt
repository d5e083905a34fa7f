-- Before an entry, what is kept of a line is what the past says of the versions that its warning has with it.
use Rattle.std.proofs.Common.{◌≡◌, ℕ, ◌+◌, ◌<◌, ◌≤◌, Bool, true, false, ◌&&◌, ◌||◌, nat_eq, List, [], ◌∷◌, Option, Some, None, Ok, cond, refl, sym, ◌∙◌, ap, subst, eqb-true, eq-eqb}
use Rattle.std.specs.Prelude.{find, if◌then◌else◌}
use Rattle.std.specs.List.{list_any}
use Rattle.std.specs.Option.{option_map, option_or}
use Rattle.std.proofs.lemmas.Bool.{and_parts, and_from, or_right}
use Rattle.std.proofs.lemmas.List.{get_or-replicate, length-replicate}
use Rattle.common.specs.Sums.{count_of}
use Rattle.common.specs.declared.cell.Cell.{Cell}
use Rattle.kept_tables.specs.View.{key_of}
use Rattle.mirror.specs.Line.{blank, blank_line}
use Rattle.serials.specs.Serials.{update_of}
use Rattle.warning_book.specs.Book.{State, has_number, warning_of, updated, widened, narrowed, stopped, changed_if, edited, new_serial, new_warning}
use Rattle.warning_book.specs.Laws.{KeepsNumber, found_so, found_edited, found_without, found_issued}
use Rattle.warning_book.specs.declared.content.Content.{Content}
use Rattle.warning_book.specs.declared.notice.Notice.{Notice}
use Rattle.warning_book.specs.declared.version.Version.{Version}
use Rattle.warning_book.specs.declared.warning.Warning.{Warning}
use Rattle.centre_events.specs.Facts.{key_state, version_at, version_state}
use Rattle.centre_past.specs.Facts.{facts_of, facts}
use Rattle.centre_past.specs.Reaching.{forgets}
use Rattle.centre_past.specs.Legal.{Legal}
use Rattle.centre_events.specs.Past.{Past, After}
use Rattle.centre_events.specs.Stepping.{at_update, updates_once, WasLine}
use Rattle.centre_events.specs.Verdict.{verdict}
use Rattle.centre_events.specs.Warnings.{book_then, book_of, warnings_of, is_version, has_key, is_key}
use Rattle.coverage_plan.specs.Edited.{with_issue, book_after}
use Rattle.coverage_plan.specs.declared.edit.Edit.{Edit}
use Rattle.coverage_plan.specs.declared.edit.Edit.TheVariants as edit
use Rattle.centre_events.specs.declared.entry.Entry.{Entry}
use Rattle.centre_events.specs.declared.event.Event.{Event}
use Rattle.centre_events.specs.declared.event.Event.TheVariants as event
use Rattle.centre_events.specs.declared.settings.Settings.{Settings}
use Rattle.centre_past.proofs.BookLemmas.{keyed, keys_stay, found_keyed, owned_by, owner_of}
use Rattle.centre_past.proofs.KeyLemmas.{unknown_key_presence, unknown_key_hold, unknown_key_count}
use Rattle.centre_past.proofs.NextLemmas.{next_at}
use Rattle.centre_past.proofs.StepLemmas.{line_at_update, line_long}
use Rattle.centre_past.proofs.UniqueLemmas.{unique}
use Rattle.centre_past.proofs.VersionLemmas.{legal_updates}
use Rattle.centre_past.proofs.WarningLemmas.{legal_sound}

-- from w0 to w versions are added, and one may have another content, alone; none where a warning is forgotten
record Grew (forgot : Bool) (w0 w : Warning) : Type 0 where
  message : w0.message_id ≡ w.message_id
  keeps : (u : ℕ) (v : Version) → version_at w0.versions u ≡ Some v → (x : Version) × ((version_at w.versions u ≡ Some x) × (x.serial ≡ v.serial))
  same : forgot ≡ true → w0 ≡ w

-- what the warning of a number was
abbrev Was : Bool → Option Warning → Warning → Type 0
Was forgot None w = forgot ≡ false
Was forgot (Some w0) w = Grew forgot w0 w

itself : (t : Bool) (w : Warning) → Grew t w w
itself t w = record { message = refl; keeps = λ u v h. (v, (h, refl)); same = λ e. refl }

the_same : (t : Bool) (o : Option Warning) (w : Warning) → o ≡ Some w → Was t o w
the_same t None w h = cc
the_same t (Some x) w h = let same : x ≡ w = cc in subst (λ y. Grew t x y) same (itself t x)

updated_grew : (content : Content) (w : Warning) → updates_once w.versions ≡ true → Grew false w (updated content w)
updated_grew content w once = record { message = refl; keeps = λ u v h. next_at content w.versions once u v h; same = λ e. cc }

edited_was : (n k : ℕ) (f : Warning → Warning) → KeepsNumber f → (ws : List Warning) → ((x : Warning) → find (has_number k) ws ≡ Some x → Grew false x (f x)) → (w : Warning) → find (has_number k) (edited n f ws) ≡ Some w → Was false (find (has_number k) ws) w
edited_was n k f number ws grew w h = step (find (has_number k) ws) refl (sym (found_edited n k f number ws) ∙ h)
  where
    changed : (x : Warning) → find (has_number k) ws ≡ Some x → (t : Bool) → Grew false x (if t then f x else x)
    changed x e true = grew x e
    changed x e false = itself false x

    step : (o : Option Warning) → find (has_number k) ws ≡ o → option_map (changed_if n f) o ≡ Some w → Was false o w
    step None e g = refl
    step (Some x) e g = let same : changed_if n f x ≡ w = cc in subst (λ y. Grew false x y) same (changed x e (has_number n x))

issued_was : (notice : Notice) (areas : List (List ℕ)) (o : Option ℕ) (st : State) (k : ℕ) (w : Warning) → find (has_number k) (with_issue notice areas o st).warnings ≡ Some w → Was false (find (has_number k) st.warnings) w
issued_was notice areas None st k w h = the_same false (find (has_number k) st.warnings) w h
issued_was notice areas (Some serial) st k w h = step (find (has_number k) st.warnings) (sym (found_issued k st.warnings _) ∙ h)
  where
    step : (o : Option Warning) → option_or o (cond (has_number k (new_warning (st.issued + 1) notice areas serial)) (Some (new_warning (st.issued + 1) notice areas serial)) None) ≡ Some w → Was false o w
    step None g = refl
    step (Some x) g = the_same false (Some x) w g

-- the update numbers of the warning of that number differ
abbrev AreOnce : List Warning → ℕ → Type 0
AreOnce ws k = (x : Warning) → find (has_number k) ws ≡ Some x → updates_once x.versions ≡ true

edit_was : (e : Edit) (st : State) (k : ℕ) → AreOnce st.warnings k → (w : Warning) → find (has_number k) (book_after e st).warnings ≡ Some w → Was (forgets (event.Edit e)) (find (has_number k) st.warnings) w
edit_was (edit.Issue notice areas) st k once w h = issued_was notice areas (new_serial st notice) st k w h
edit_was (edit.Update n content) st k once w h = edited_was n k (updated content) (λ x. refl) st.warnings (λ x e. updated_grew content x (once x e)) w h
edit_was (edit.Widen n a) st k once w h = edited_was n k (widened a) (λ x. refl) st.warnings (λ x e. record { message = refl; keeps = λ u v g. (v, (g, refl)); same = λ i. cc }) w h
edit_was (edit.Narrow n a) st k once w h = edited_was n k (narrowed a) (λ x. refl) st.warnings (λ x e. record { message = refl; keeps = λ u v g. (v, (g, refl)); same = λ i. cc }) w h
edit_was (edit.Stop n) st k once w h = edited_was n k stopped (λ x. refl) st.warnings (λ x e. record { message = refl; keeps = λ u v g. (v, (g, refl)); same = λ i. cc }) w h
edit_was (edit.Forget n) st k once w h = step (nat_eq n k) (sym (found_without n k st.warnings) ∙ h)
  where
    step : (t : Bool) → cond t None (find (has_number k) st.warnings) ≡ Some w → Was true (find (has_number k) st.warnings) w
    step true g = cc
    step false g = the_same true (find (has_number k) st.warnings) w g
edit_was other st k once w h = the_same false (find (has_number k) st.warnings) w h

-- what the warning of a number was before the entry
was_of : (e : Entry) (past : Past) (n : ℕ) → AreOnce (warnings_of past) n → (w : Warning) → warning_of (book_of (After e past)) n ≡ Some w → Was (forgets e.event) (warning_of (book_of past) n) w
was_of e past n once w h = step e.event h
  where
    step : (x : Event) → find (has_number n) (book_then x (book_of past)).warnings ≡ Some w → Was (forgets x) (find (has_number n) (book_of past).warnings) w
    step (event.Edit y) g = edit_was y (book_of past) n once w g
    step other g = the_same false (find (has_number n) (book_of past).warnings) w g

-- a version that the warning did not have is of no key of the book

any_keyed : (m s : ℕ) (ws : List Warning) → list_any (has_key m s) ws ≡ true → (n : ℕ) × (keyed n m s ws ≡ true)
any_keyed m s [] h = cc
any_keyed m s (w ∷ ws) h = step (any_keyed m s ws) (has_key m s w) refl h
  where
    step : (list_any (has_key m s) ws ≡ true → (n : ℕ) × (keyed n m s ws ≡ true)) → (t : Bool) → has_key m s w ≡ t → (t || list_any (has_key m s) ws) ≡ true → (n : ℕ) × (keyed n m s (w ∷ ws) ≡ true)
    step rest true e g = (w.number, rw (eq-eqb w.number w.number refl, e) refl)
    step rest false e g = let r = rest g in (r.0, or_right (has_number r.0 w && has_key m s w) (keyed r.0 m s ws) r.1)

version_found : (s u : ℕ) (vs : List Version) → nat_eq (update_of s) u ≡ true → list_any (is_version s) vs ≡ true → version_at vs u ≡ None → false ≡ true
version_found s u [] e h g = h
version_found s u (v ∷ vs) e h g = step (version_found s u vs e) (nat_eq v.serial s) refl h (nat_eq (update_of v.serial) u) refl g
  where
    step : (list_any (is_version s) vs ≡ true → version_at vs u ≡ None → false ≡ true) → (t : Bool) → nat_eq v.serial s ≡ t → (t || list_any (is_version s) vs) ≡ true → (x : Bool) → nat_eq (update_of v.serial) u ≡ x → cond x (Some v) (version_at vs u) ≡ None → false ≡ true
    step rest t i j true k l = cc
    step rest true i j false k l = sym k ∙ ap (λ y. nat_eq (update_of y) u) (eqb-true v.serial s i) ∙ e
    step rest false i j false k l = rest j l

-- no version of it has that update number
abbrev NoneAt : Option Warning → ℕ → Type 0
NoneAt None u = Unit {0}
NoneAt (Some w0) u = version_at w0.versions u ≡ None

found_at : (vs : List Version) (u : ℕ) (v : Version) → version_at vs u ≡ Some v → (list_any (is_version v.serial) vs ≡ true) × (nat_eq (update_of v.serial) u ≡ true)
found_at [] u v h = cc
found_at (x ∷ vs) u v h = step (found_at vs u v) (nat_eq (update_of x.serial) u) refl h
  where
    step : (version_at vs u ≡ Some v → (list_any (is_version v.serial) vs ≡ true) × (nat_eq (update_of v.serial) u ≡ true)) → (t : Bool) → nat_eq (update_of x.serial) u ≡ t → cond t (Some x) (version_at vs u) ≡ Some v → (list_any (is_version v.serial) (x ∷ vs) ≡ true) × (nat_eq (update_of v.serial) u ≡ true)
    step rest true e g = let same : x ≡ v = cc in (ap (λ t. t || list_any (is_version v.serial) vs) (eq-eqb x.serial v.serial (ap (λ (y : Version). y.serial) same)), ap (λ (y : Version). nat_eq (update_of y.serial) u) (sym same) ∙ e)
    step rest false e g = let r = rest g in (or_right (nat_eq x.serial v.serial) (list_any (is_version v.serial) vs) r.0, r.1)

no_number : (n m s : ℕ) (ws : List Warning) → find (has_number n) ws ≡ None → keyed n m s ws ≡ false
no_number n m s [] h = refl
no_number n m s (w ∷ ws) h = step (no_number n m s ws) (has_number n w) h
  where
    step : (find (has_number n) ws ≡ None → keyed n m s ws ≡ false) → (t : Bool) → cond t (Some w) (find (has_number n) ws) ≡ None → ((t && has_key m s w) || keyed n m s ws) ≡ false
    step rest true g = cc
    step rest false g = rest g

new_key : (settings : Settings) (past : Past) → Legal settings past → (e : Entry) → verdict settings past e.event ≡ Ok e.answer → forgets e.event ≡ false → (n u : ℕ) (w : Warning) (v : Version) → warning_of (book_of (After e past)) n ≡ Some w → version_at w.versions u ≡ Some v → NoneAt (warning_of (book_of past) n) u → is_key past w.message_id v.serial ≡ false
new_key settings past legal e accepted kept n u w v found at none = step (is_key past w.message_id v.serial) refl
  where
    m : ℕ
    m = w.message_id

    s : ℕ
    s = v.serial

    after_legal : Legal settings (After e past)
    after_legal = (accepted, legal)

    has : has_key m s w ≡ true
    has = and_from (nat_eq w.message_id m) (list_any (is_version s) w.versions) (eq-eqb w.message_id m refl) (found_at w.versions u v at).0

    mine : keyed n m s (warnings_of (After e past)) ≡ true
    mine = found_keyed (book_of (After e past)) n w m s (legal_sound settings (After e past) after_legal).ordered found has

    few : count_of (has_key m s) (warnings_of (After e past)) ≤ 1
    few = unique (book_of (After e past)) (legal_sound settings (After e past) after_legal) m s

    was : (o : Option Warning) → warning_of (book_of past) n ≡ o → NoneAt o u → keyed n m s (warnings_of past) ≡ true → false ≡ true
    was None i j k = sym (no_number n m s (warnings_of past) i) ∙ k
    was (Some w0) i j k =
        let key : has_key m s w0 ≡ true = sym (found_so n (has_key m s) (warnings_of past) w0 (legal_sound settings past legal).ordered i) ∙ k in
        version_found s u w0.versions (found_at w.versions u v at).1 (and_parts (nat_eq w0.message_id m) (list_any (is_version s) w0.versions) key).1 j

    step : (t : Bool) → is_key past m s ≡ t → t ≡ false
    step false i = refl
    step true i =
        let other = any_keyed m s (warnings_of past) i in
        let theirs : owner_of (warnings_of (After e past)) m s ≡ Some other.0 = owned_by other.0 m s (warnings_of (After e past)) few (keys_stay e past other.0 m s kept other.1) in
        let ours : owner_of (warnings_of (After e past)) m s ≡ Some n = owned_by n m s (warnings_of (After e past)) few mine in
        let one : Some other.0 ≡ Some n = sym theirs ∙ ours in
        let same : other.0 ≡ n = cc in
        sym (was (warning_of (book_of past) n) refl none (ap (λ k. keyed k m s (warnings_of past)) (sym same) ∙ other.1))

blank_key : (settings : Settings) (past : Past) → Legal settings past → (b : ℕ) (c : Cell) (m s : ℕ) → is_key past m s ≡ false → blank ≡ key_state past b c m s
blank_key settings past legal b c m s h = rw (unknown_key_presence settings past legal b c m s h, unknown_key_hold settings past legal b c m s h, unknown_key_count settings past legal b c m s h) refl

blank_at : (u : ℕ) → u < 16 → at_update blank_line u ≡ blank
blank_at u small = get_or-replicate 16 u blank blank small

-- what is kept of a line before an entry
pub was_line : (settings : Settings) (past : Past) → Legal settings past → (e : Entry) → verdict settings past e.event ≡ Ok e.answer → (b : ℕ) (c : Cell) (n : ℕ) (w : Warning) → warning_of (book_of (After e past)) n ≡ Some w → WasLine past b c w (facts past (key_of b c n)).line
was_line settings past legal e accepted b c n w found = step (warning_of (book_of past) n) refl (was_of e past n (legal_updates settings past legal n) w found)
  where
    -- at an update number where it had no version
    fresh : (o : Option Warning) → warning_of (book_of past) n ≡ o → forgets e.event ≡ false → (u : ℕ) → NoneAt o u → (x : Option Version) → version_at w.versions u ≡ x → blank ≡ version_state past b c w.message_id x
    fresh o i kept u none None j = refl
    fresh o i kept u none (Some v) j = blank_key settings past legal b c w.message_id v.serial (new_key settings past legal e accepted kept n u w v found j (subst (λ y. NoneAt y u) (sym i) none))

    -- and where it had none, and a warning is forgotten
    stays : (w0 : Warning) (u : ℕ) → w0 ≡ w → version_at w0.versions u ≡ None → blank ≡ version_state past b c w.message_id (version_at w.versions u)
    stays w0 u same none = ap (version_state past b c w.message_id) (sym none ∙ ap (λ (y : Warning). version_at y.versions u) same)

    step : (o : Option Warning) → warning_of (book_of past) n ≡ o → Was (forgets e.event) o w → WasLine past b c w (facts_of past b c o).line
    step None i kept = record {
      long = length-replicate 16 blank;
      kept = λ u small. blank_at u small ∙ fresh None i kept u tt (version_at w.versions u) refl;
    }
    step (Some w0) i grew = record {
      long = line_long past b c w0;
      kept = λ u small. line_at_update past b c w0 u small ∙ at u (version_at w0.versions u) refl;
    }
      where
        at : (u : ℕ) (x : Option Version) → version_at w0.versions u ≡ x → version_state past b c w0.message_id x ≡ version_state past b c w.message_id (version_at w.versions u)
        at u (Some v) j =
            let now = grew.keeps u v j in
            ap (λ m. key_state past b c m v.serial) grew.message ∙ ap (key_state past b c w.message_id) (sym now.1.1) ∙ ap (version_state past b c w.message_id) (sym now.1.0)
        at u None j = forgot (forgets e.event) refl
          where
            forgot : (t : Bool) → forgets e.event ≡ t → blank ≡ version_state past b c w.message_id (version_at w.versions u)
            forgot true f = stays w0 u (grew.same f) j
            forgot false f = fresh (Some w0) i f u j (version_at w.versions u) refl
