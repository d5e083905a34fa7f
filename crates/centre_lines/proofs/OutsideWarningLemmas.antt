-- Lines on which an edit of a warning does not bear have the same part after it.
use Rattle.std.proofs.Common.{◌≡◌, ℕ, ◌+◌, Bool, true, false, ◌&&◌, ◌||◌, not, nat_eq, List, [], ◌∷◌, ◌++◌, Option, Some, None, Ok, filter, cond, append-nil, refl, sym, ◌∙◌, ap, subst, eqb-true, eq-eqb}
use Rattle.std.specs.Prelude.{bytes_eq, find, if◌then◌else◌}
use Rattle.std.specs.Cmp.{unsigned_Decides}
use Rattle.std.specs.List.{list_any, flat_map}
use Rattle.std.specs.Option.{option_map, option_or}
use Rattle.std.proofs.lemmas.Bool.{and_parts, and_from, or_left, not-false}
use Rattle.std.proofs.lemmas.List.Elements.{filter-append}
use Rattle.std.proofs.lemmas.Slice.Eq.{bytes_eq-Decides}
use Rattle.cell_register.specs.Register.{is_place}
use Rattle.common.specs.OnceLaws.{turned}
use Rattle.common.specs.OrderLaws.{find_passes}
use Rattle.common.specs.declared.cell.Cell.{Cell}
use Rattle.kept_tables.specs.Same.{SamePart}
use Rattle.kept_tables.specs.View.{spot_eq}
use Rattle.mirror.specs.Line.{blank}
use Rattle.mirror.specs.declared.key_state.KeyState.{KeyState}
use Rattle.mirror.specs.declared.line_key.LineKey.{LineKey}
use Rattle.serials.specs.Serials.{next_of, update_of}
use Rattle.warning_book.specs.Book.{first_kind, has_number, warning_of, areas_of, new_serial, new_warning, last_serial, version_after, updated, widened, narrowed, stopped, edited}
use Rattle.warning_book.specs.Laws.{KeepsNumber, found_without, found_issued}
use Rattle.warning_book.specs.Sound.{IsSound}
use Rattle.warning_book.specs.declared.content.Content.{Content}
use Rattle.warning_book.specs.declared.notice.Notice.{Notice}
use Rattle.warning_book.specs.declared.version.Version.{Version}
use Rattle.warning_book.specs.declared.warning.Warning.{Warning}
use Rattle.centre_events.specs.Cover.{covers, is_covered}
use Rattle.centre_events.specs.Effects.{is_given, state_after}
use Rattle.centre_events.specs.Facts.{key_state, version_at}
use Rattle.centre_past.specs.Facts.{facts_of, facts}
use Rattle.centre_events.specs.Known.{is_known}
use Rattle.centre_past.specs.Legal.{Legal}
use Rattle.centre_events.specs.Links.{bscs}
use Rattle.centre_events.specs.Past.{Past, After}
use Rattle.centre_events.specs.Places.{place}
use Rattle.centre_past.specs.Reach.{Reach, bears, known_at, placed_where, spot, wraps}
use Rattle.centre_events.specs.Verdict.{verdict}
use Rattle.centre_events.specs.Down.{is_down}
use Rattle.centre_events.specs.Warnings.{book_of, warnings_of, is_version, has_key, is_key}
use Rattle.coverage_plan.specs.Edited.{with_issue}
use Rattle.centre_events.specs.declared.answer.Answer.{Answer}
use Rattle.coverage_plan.specs.declared.edit.Edit.TheVariants as edit
use Rattle.centre_events.specs.declared.effect.Effect.TheVariants.{Frees, Leaves}
use Rattle.centre_events.specs.declared.event.Event.TheVariants as event
use Rattle.centre_events.specs.declared.settings.Settings.{Settings}
use Rattle.centre_past.proofs.AnyLemmas.{and_none, contrary, any_same, any_at, any_flat}
use Rattle.centre_past.proofs.FoundLemmas.{view_edited}
use Rattle.centre_past.proofs.KeyLemmas.{unknown_key_presence, unknown_key_hold, unknown_key_count}
use Rattle.centre_past.proofs.LineLemmas.{line_blank, not_wanted, same_areas, same_kept, same_idle, same_next, same_none, same_gone, same_come, idle_apart, apart_away, found_passes, not_placed, unknown_blank, entry_of, Outside}
use Rattle.centre_past.proofs.MarkLemmas as marks
use Rattle.centre_past.proofs.NextLemmas.{next_new}
use Rattle.centre_past.proofs.PartLemmas.{same_blank}
use Rattle.centre_lines.proofs.NewKeyLemmas.{issue_new, next_among, other_given, update_new}
use Rattle.centre_lines.proofs.ReachLemmas.{not_there, placed_there, known_there}
use Rattle.centre_past.proofs.ToldLemmas.{areas_in, areas_found}
use Rattle.centre_past.proofs.UniqueLemmas.{one_other, unique, verdict_answered}
use Rattle.centre_past.proofs.UpdateLemmas.{UpdateGiven, given_parts, reuses_of, update_given}
use Rattle.centre_past.proofs.WarningLemmas.{legal_sound}

-- An edit of one warning, which bears on cells that pass a test.

-- the reach of such an edit
abbrev reach_at : Past → (Cell → Bool) → ℕ → Reach
reach_at past p n = record { spots = placed_where past p; warnings = n ∷ [] }

-- elsewhere the cell isn't registered at the BSC, or fails the test
apart : (settings : Settings) (past : Past) → Legal settings past → (p : Cell → Bool) (n : ℕ) (k : LineKey) → bears (reach_at past p n) k ≡ false → nat_eq n k.warning ≡ true → (is_place (place past k.cell) k.bsc && p k.cell) ≡ false
apart settings past legal p n k h same =
    contrary (is_place (place past k.cell) k.bsc && p k.cell) (list_any (spot_eq (spot k.bsc k.cell)) (placed_where past p))
    (λ both. let parts = and_parts (is_place (place past k.cell) k.bsc) (p k.cell) both in placed_there settings past legal p k.bsc k.cell parts.1 parts.0)
    (not_there (reach_at past p n) k h (or_left (nat_eq k.warning n) false (turned nat_eq unsigned_Decides k.warning n ∙ same)))

-- the other warnings stay, and that one is changed
edited_kept : (past new : Past) (n : ℕ) (f : Warning → Warning) → KeepsNumber f → (k : LineKey) → warnings_of new ≡ edited n f (warnings_of past) → ((w : Warning) → warning_of (book_of past) k.warning ≡ Some w → nat_eq n k.warning ≡ false → SamePart (facts_of past k.bsc k.cell (Some w)) (facts_of new k.bsc k.cell (Some w))) → ((w : Warning) → warning_of (book_of past) k.warning ≡ Some w → nat_eq n k.warning ≡ true → SamePart (facts_of past k.bsc k.cell (Some w)) (facts_of new k.bsc k.cell (Some (f w)))) → SamePart (facts past k) (facts new k)
edited_kept past new n f keeps k is others it =
    subst (λ o. SamePart (facts past k) (facts_of new k.bsc k.cell o)) (sym (ap (find (has_number k.warning)) is ∙ view_edited (λ o. o) k.warning n f keeps (warnings_of past)))
    (at (warning_of (book_of past) k.warning) refl (nat_eq n k.warning) refl)
  where
    at : (o : Option Warning) → warning_of (book_of past) k.warning ≡ o → (t : Bool) → nat_eq n k.warning ≡ t → SamePart (facts_of past k.bsc k.cell o) (facts_of new k.bsc k.cell (cond t (option_map f o) o))
    at None e true same = same_none past new k.bsc k.cell
    at None e false other = same_none past new k.bsc k.cell
    at (Some w) e true same = it w e same
    at (Some w) e false other = others w e other

-- the areas of a warning in the book
areas_there : (past : Past) (n : ℕ) (k : LineKey) (w : Warning) → warning_of (book_of past) k.warning ≡ Some w → nat_eq n k.warning ≡ true → areas_of n (warnings_of past) ≡ w.areas
areas_there past n k w e same = ap (λ m. areas_of m (warnings_of past)) (eqb-true n k.warning same) ∙ areas_found k.warning (warnings_of past) ∙ ap areas_in e

-- where the warning isn't wanted, in the words of its areas
apart_there : (settings : Settings) (past : Past) → Legal settings past → (n : ℕ) (k : LineKey) → bears (reach_at past (is_covered past (areas_of n (warnings_of past))) n) k ≡ false → (w : Warning) → warning_of (book_of past) k.warning ≡ Some w → nat_eq n k.warning ≡ true → (is_place (place past k.cell) k.bsc && is_covered past w.areas k.cell) ≡ false
apart_there settings past legal n k h w e same =
    ap (λ areas. is_place (place past k.cell) k.bsc && is_covered past areas k.cell) (sym (areas_there past n k w e same))
    ∙ apart settings past legal (is_covered past (areas_of n (warnings_of past))) n k h same

pub outside_stop : (settings : Settings) (past : Past) → Legal settings past → (desk n : ℕ) (a : Answer) → Outside past desk (event.Edit (edit.Stop n)) a
outside_stop settings past legal desk n a k h =
    edited_kept past new n stopped (λ w. refl) k refl (λ w e other. record { line = refl; deeds = refl; total = refl; area = λ x. refl })
    (λ w e same. same_idle past new k.bsc k.cell w (stopped w) (apart_there settings past legal n k h w e same) (apart_there settings past legal n k h w e same) refl refl refl refl)
  where
    new : Past
    new = After (entry_of desk (event.Edit (edit.Stop n)) a) past

-- Widen and Narrow: the area covers the cell, or not.

pub outside_widen : (settings : Settings) (past : Past) → Legal settings past → (desk n : ℕ) (x : List ℕ) (a : Answer) → Outside past desk (event.Edit (edit.Widen n x)) a
outside_widen settings past legal desk n x a k h =
    edited_kept past new n (widened x) (λ w. refl) k refl (λ w e other. record { line = refl; deeds = refl; total = refl; area = λ y. refl })
    (λ w e same. at w (is_place (place past k.cell) k.bsc) refl (apart settings past legal (covers past x) n k h same))
  where
    new : Past
    new = After (entry_of desk (event.Edit (edit.Widen n x)) a) past

    covering : (w : Warning) → covers past x k.cell ≡ false → filter (λ y. covers past y k.cell) w.areas ≡ filter (λ y. covers past y k.cell) (w.areas ++ x ∷ [])
    covering w e =
        sym (filter-append (λ y. covers past y k.cell) w.areas (x ∷ []) ∙ ap (λ t. filter (λ y. covers past y k.cell) w.areas ++ cond t (x ∷ []) []) e ∙ append-nil (filter (λ y. covers past y k.cell) w.areas))

    at : (w : Warning) (t : Bool) → is_place (place past k.cell) k.bsc ≡ t → (t && covers past x k.cell) ≡ false → SamePart (facts_of past k.bsc k.cell (Some w)) (facts_of new k.bsc k.cell (Some (widened x w)))
    at w true here e = same_areas past new k.bsc k.cell w (w.areas ++ x ∷ []) refl (covering w e) refl (λ s there. refl)
    at w false away e = same_idle past new k.bsc k.cell w (widened x w) (apart_away past k.bsc k.cell w away) (apart_away new k.bsc k.cell (widened x w) away) refl refl refl refl

-- what fails a second test failed the first one
filter_narrow : {X : Type 0} (p q : X → Bool) → ((x : X) → q x ≡ false → p x ≡ false) → (xs : List X) → filter p (filter q xs) ≡ filter p xs
filter_narrow p q h [] = refl
filter_narrow {X} p q h (x ∷ xs) = step (filter_narrow p q h xs) (q x) refl
  where
    step : filter p (filter q xs) ≡ filter p xs → (t : Bool) → q x ≡ t → filter p (cond t (x ∷ filter q xs) (filter q xs)) ≡ cond (p x) (x ∷ filter p xs) (filter p xs)
    step rest true e = ap (λ ys. cond (p x) (x ∷ ys) ys) rest
    step rest false e = rest ∙ ap (λ t. cond t (x ∷ filter p xs) (filter p xs)) (sym (h x e))

pub outside_narrow : (settings : Settings) (past : Past) → Legal settings past → (desk n : ℕ) (x : List ℕ) (a : Answer) → Outside past desk (event.Edit (edit.Narrow n x)) a
outside_narrow settings past legal desk n x a k h =
    edited_kept past new n (narrowed x) (λ w. refl) k refl (λ w e other. record { line = refl; deeds = refl; total = refl; area = λ y. refl })
    (λ w e same. at w (is_place (place past k.cell) k.bsc) refl (apart settings past legal (covers past x) n k h same))
  where
    new : Past
    new = After (entry_of desk (event.Edit (edit.Narrow n x)) a) past

    at : (w : Warning) (t : Bool) → is_place (place past k.cell) k.bsc ≡ t → (t && covers past x k.cell) ≡ false → SamePart (facts_of past k.bsc k.cell (Some w)) (facts_of new k.bsc k.cell (Some (narrowed x w)))
    at w true here e =
        same_areas past new k.bsc k.cell w (filter (λ y. not (bytes_eq y x)) w.areas) refl
        (sym (filter_narrow (λ y. covers past y k.cell) (λ y. not (bytes_eq y x)) (λ y f. ap (λ z. covers past z k.cell) ((bytes_eq-Decides y x).0 (not-false (bytes_eq y x) f)) ∙ e) w.areas))
        refl (λ s there. refl)
    at w false away e = same_idle past new k.bsc k.cell w (narrowed x w) (apart_away past k.bsc k.cell w away) (apart_away new k.bsc k.cell (narrowed x w) away) refl refl refl refl

-- Issue and Update: the key of a new version is blank, since it is none of the book before.

key_blank : (settings : Settings) (past : Past) → Legal settings past → (b : ℕ) (c : Cell) (m s : ℕ) → is_key past m s ≡ false → key_state past b c m s ≡ blank
key_blank settings past legal b c m s h = λ i. record { presence = unknown_key_presence settings past legal b c m s h i; hold = unknown_key_hold settings past legal b c m s h i; count = unknown_key_count settings past legal b c m s h i }

-- the one version of a new warning
first_serial : (s t : ℕ) → (nat_eq s t || false) ≡ true → t ≡ s
first_serial s t h = sym (eqb-true s t (or_none h))
  where
    or_none : {u : Bool} → (u || false) ≡ true → u ≡ true
    or_none {u = true} g = refl
    or_none {u = false} g = g

pub outside_issue : (settings : Settings) (past : Past) → Legal settings past → (desk : ℕ) (notice : Notice) (areas : List (List ℕ)) (a : Answer) → verdict settings past (event.Edit (edit.Issue notice areas)) ≡ Ok a → Outside past desk (event.Edit (edit.Issue notice areas)) a
outside_issue settings past legal desk notice areas a v k h = step (new_serial (book_of past) notice) refl
  where
    new : Past
    new = After (entry_of desk (event.Edit (edit.Issue notice areas)) a) past

    issued : ℕ → Warning
    issued s = new_warning ((book_of past).issued + 1) notice areas s

    come : (s : ℕ) → new_serial (book_of past) notice ≡ Some s → nat_eq ((book_of past).issued + 1) k.warning ≡ true → SamePart (facts_of past k.bsc k.cell None) (facts_of new k.bsc k.cell (Some (issued s)))
    come s e same =
        same_come past new k.bsc k.cell (issued s) (idle_apart new k.bsc k.cell (issued s) (apart settings past legal (is_covered past areas) ((book_of past).issued + 1) k h same))
        (line_blank new k.bsc k.cell (issued s) (λ t there. ap (λ u. key_state past k.bsc k.cell notice.message_id u) (first_serial s t there) ∙ key_blank settings past legal k.bsc k.cell notice.message_id s (issue_new settings past legal notice areas a v s e)))

    found : (s : ℕ) → new_serial (book_of past) notice ≡ Some s → (o : Option Warning) (t : Bool) → nat_eq ((book_of past).issued + 1) k.warning ≡ t → SamePart (facts_of past k.bsc k.cell o) (facts_of new k.bsc k.cell (option_or o (cond t (Some (issued s)) None)))
    found s e None true same = come s e same
    found s e None false other = same_none past new k.bsc k.cell
    found s e (Some w) t is = record { line = refl; deeds = refl; total = refl; area = λ x. refl }

    step : (o : Option ℕ) → new_serial (book_of past) notice ≡ o → SamePart (facts past k) (facts_of new k.bsc k.cell (warning_of (with_issue notice areas o (book_of past)) k.warning))
    step None e = record { line = refl; deeds = refl; total = refl; area = λ x. refl }
    step (Some s) e =
        subst (λ o. SamePart (facts past k) (facts_of new k.bsc k.cell o)) (sym (found_issued k.warning (warnings_of past) (issued s)))
        (found s e (warning_of (book_of past) k.warning) (nat_eq ((book_of past).issued + 1) k.warning) refl)

-- one version more leaves the kind of the first one
first_kept : (vs : List Version) (x : Version) (s : ℕ) → last_serial vs ≡ Some s → first_kind (vs ++ x ∷ []) ≡ first_kind vs
first_kept [] x s h = cc
first_kept (v ∷ vs) x s h = refl

-- what is known nowhere at a BSC is none of the spots of all that are known
not_reached : (settings : Settings) (past : Past) → Legal settings past → (n : ℕ) (k : LineKey) → bears (let r : Reach = record { spots = flat_map (known_at past) (bscs past); warnings = n ∷ [] } in r) k ≡ false → nat_eq n k.warning ≡ true → is_known past k.bsc k.cell ≡ false
not_reached settings past legal n k h same =
    contrary (is_known past k.bsc k.cell) (list_any (spot_eq (spot k.bsc k.cell)) (flat_map (known_at past) (bscs past))) reached
    (not_there (let r : Reach = record { spots = flat_map (known_at past) (bscs past); warnings = n ∷ [] } in r) k h (or_left (nat_eq k.warning n) false (turned nat_eq unsigned_Decides k.warning n ∙ same)))
  where
    reached : is_known past k.bsc k.cell ≡ true → list_any (spot_eq (spot k.bsc k.cell)) (flat_map (known_at past) (bscs past)) ≡ true
    reached known =
        any_flat (spot_eq (spot k.bsc k.cell)) (known_at past) (bscs past)
        ∙ any_at nat_eq unsigned_Decides (λ b. list_any (spot_eq (spot k.bsc k.cell)) (known_at past b)) k.bsc (bscs past)
        (known_there settings past legal k.bsc k.bsc k.cell (eq-eqb k.bsc k.bsc refl) known) (marks.known_at settings past legal k.bsc k.cell known)

-- what an Update leaves of a key that it frees, or does not touch
abbrev freed_if : Bool → KeyState → KeyState
freed_if t x = state_after (if t then Frees else Leaves) (if t then Some 0 else None) x

freed_blank : (t : Bool) → freed_if t blank ≡ blank
freed_blank true = refl
freed_blank false = refl

-- a key stays that the Update does not touch, or that was blank
freed_same : (t : Bool) (x : KeyState) → (t ≡ true → x ≡ blank) → freed_if t x ≡ x
freed_same true x h = ap (freed_if true) (h refl) ∙ sym (h refl)
freed_same false x h = refl

pub outside_update : (settings : Settings) (past : Past) → Legal settings past → (desk n : ℕ) (content : Content) (a : Answer) → verdict settings past (event.Edit (edit.Update n content)) ≡ Ok a → Outside past desk (event.Edit (edit.Update n content)) a
outside_update settings past legal desk n content a v k h =
    edited_kept past new n (updated content) (λ w. refl) k refl (λ w e other. same_kept past new k.bsc k.cell w refl refl refl (others w e other)) (λ w e same. subst Same (its w e same) (here same (wraps past n) refl))
  where
    new : Past
    new = After (entry_of desk (event.Edit (edit.Update n content)) a) past

    given : UpdateGiven past n a
    given = update_given settings past legal n content a (verdict_answered settings past (event.Edit (edit.Update n content)) a v)

    -- the warning that is updated, and its next serial number
    it : Warning
    it = given.warning

    next : ℕ
    next = next_of given.last

    sound : IsSound (book_of past)
    sound = legal_sound settings past legal

    others : (w : Warning) → warning_of (book_of past) k.warning ≡ Some w → nat_eq n k.warning ≡ false → (s : ℕ) → list_any (is_version s) w.versions ≡ true → key_state new k.bsc k.cell w.message_id s ≡ key_state past k.bsc k.cell w.message_id s
    others w e other s there = ap (λ t. freed_if t (key_state past k.bsc k.cell w.message_id s)) (other_given settings past legal n content a v k.warning w e other s there)

    Same : Warning → Type 0
    Same w = SamePart (facts_of past k.bsc k.cell (Some w)) (facts_of new k.bsc k.cell (Some (updated content w)))

    its : (w : Warning) → warning_of (book_of past) k.warning ≡ Some w → nat_eq n k.warning ≡ true → it ≡ w
    its w e same = let both : Some it ≡ Some w = sym given.found ∙ ap (warning_of (book_of past)) (eqb-true n k.warning same) ∙ e in cc

    -- it is found by the number of the line
    found_here : nat_eq n k.warning ≡ true → warning_of (book_of past) k.warning ≡ Some it
    found_here same = ap (warning_of (book_of past)) (sym (eqb-true n k.warning same)) ∙ given.found

    has_next : Bool → Type 0
    has_next t = list_any (is_version next) it.versions ≡ t

    reused : (t : Bool) → wraps past n ≡ t → has_next t
    reused t e = both_true (list_any (is_version next) it.versions) ∙ sym (reuses_of past n (λ m s. true) it given.last sound.ordered given.found given.current) ∙ e
      where
        both_true : (x : Bool) → x ≡ (x && true)
        both_true true = refl
        both_true false = refl

    freed : (t : Bool) → bears (let r : Reach = record { spots = if t then flat_map (known_at past) (bscs past) else placed_where past (is_covered past (areas_of n (warnings_of past))); warnings = n ∷ [] } in r) k ≡ false → nat_eq n k.warning ≡ true → has_next t → Same it
    -- the serial number is none of a version: nothing is wanted, and the new key is blank
    freed false out same none =
        subst (λ vs. SamePart (facts_of past k.bsc k.cell (Some it)) (facts_of new k.bsc k.cell (Some (record it { versions = vs })))) (sym (next_new content given.last it.versions given.current none))
        (same_next past new k.bsc k.cell it (version_after content given.last) idle idle (ap (λ j. is_down past j k.bsc k.cell) (sym (first_kept it.versions (version_after content given.last) given.last given.current))) keys fresh.0 empty)
      where
        idle : (is_place (place past k.cell) k.bsc && is_covered past it.areas k.cell) ≡ false
        idle = apart_there settings past legal n k out it (found_here same) same

        fresh : (version_at it.versions (update_of next) ≡ None) × (is_key past it.message_id next ≡ false)
        fresh = update_new settings past legal n content a v it given.found given.last given.current none

        empty : key_state past k.bsc k.cell it.message_id next ≡ blank
        empty = key_blank settings past legal k.bsc k.cell it.message_id next fresh.1

        keys : (s : ℕ) → key_state new k.bsc k.cell it.message_id s ≡ key_state past k.bsc k.cell it.message_id s
        keys s =
            freed_same (is_given n it.message_id s a (warnings_of past)) (key_state past k.bsc k.cell it.message_id s)
            (λ t. ap (key_state past k.bsc k.cell it.message_id) (given_parts past n a sound.ordered given it.message_id s t).0 ∙ empty)
    -- it is that of a version: nothing of the warning is known there
    freed true out same there =
        same_blank (facts_of past k.bsc k.cell (Some it)) (facts_of new k.bsc k.cell (Some (updated content it)))
        (line_blank past k.bsc k.cell it blanks)
        (line_blank new k.bsc k.cell (updated content it) (λ s among. ap (freed_if (is_given n it.message_id s a (warnings_of past))) (blanks s (next_among content given.last s it.versions given.current there among)) ∙ freed_blank (is_given n it.message_id s a (warnings_of past))))
        (not_wanted past k.bsc k.cell it (idle_apart past k.bsc k.cell it (apart_away past k.bsc k.cell it away)))
        (not_wanted new k.bsc k.cell (updated content it) (idle_apart new k.bsc k.cell (updated content it) (apart_away new k.bsc k.cell (updated content it) away)))
      where
        unknown : is_known past k.bsc k.cell ≡ false
        unknown = not_reached settings past legal n k out same

        away : is_place (place past k.cell) k.bsc ≡ false
        away = not_placed past k.bsc k.cell unknown

        blanks : (s : ℕ) → list_any (is_version s) it.versions ≡ true → key_state past k.bsc k.cell it.message_id s ≡ blank
        blanks = unknown_blank past k.bsc k.cell k.warning it unknown (found_here same)

    here : nat_eq n k.warning ≡ true → (t : Bool) → wraps past n ≡ t → Same it
    here same t e =
        freed t
        (subst (λ u. bears (let r : Reach = record { spots = if u then flat_map (known_at past) (bscs past) else placed_where past (is_covered past (areas_of n (warnings_of past))); warnings = n ∷ [] } in r) k ≡ false) e h) same (reused t e)

-- A Forget: what is known of its warning is known at a BSC, and other warnings have other keys.

-- a warning of another number has none of the keys that the forgotten one has
pub kept_key : (settings : Settings) (past : Past) → Legal settings past → (n j : ℕ) (w : Warning) → warning_of (book_of past) j ≡ Some w → nat_eq n w.number ≡ false → (m s : ℕ) → has_key m s w ≡ true → list_any (λ x. has_number n x && has_key m s x) (warnings_of past) ≡ false
kept_key settings past legal n j w e other m s key =
    any_same (λ x. has_number n x && has_key m s x) (λ x. has_key m s x && not (has_key m s x && not (has_number n x))) (λ x. both (has_number n x) (has_key m s x)) (warnings_of past)
    ∙ one_other (has_key m s) (λ x. has_key m s x && not (has_number n x)) (λ x f. (and_parts (has_key m s x) (not (has_number n x)) f).0) (warnings_of past) (unique (book_of past) (legal_sound settings past legal) m s)
    ∙ ap (λ t. list_any (has_key m s) (warnings_of past) && not t) there
    ∙ and_none (list_any (has_key m s) (warnings_of past))
  where
    both : (u v : Bool) → (u && v) ≡ (v && not (v && not u))
    both true true = refl
    both true false = refl
    both false true = refl
    both false false = refl

    there : list_any (λ x. has_key m s x && not (has_number n x)) (warnings_of past) ≡ true
    there =
        found_passes (has_number j) (λ x. has_key m s x && not (has_number n x)) (warnings_of past) w e
        (and_from (has_key m s w) (not (has_number n w)) key (ap not (turned nat_eq unsigned_Decides w.number n ∙ other)))

pub outside_forget : (settings : Settings) (past : Past) → Legal settings past → (desk n : ℕ) (a : Answer) → Outside past desk (event.Edit (edit.Forget n)) a
outside_forget settings past legal desk n a k h =
    subst (λ o. SamePart (facts past k) (facts_of new k.bsc k.cell o)) (sym (found_without n k.warning (warnings_of past)))
    (at (warning_of (book_of past) k.warning) refl (nat_eq n k.warning) refl)
  where
    new : Past
    new = After (entry_of desk (event.Edit (edit.Forget n)) a) past

    unknown : nat_eq n k.warning ≡ true → is_known past k.bsc k.cell ≡ false
    unknown same = not_reached settings past legal n k h same

    stays : (w : Warning) → warning_of (book_of past) k.warning ≡ Some w → nat_eq n k.warning ≡ false → (s : ℕ) → list_any (is_version s) w.versions ≡ true → key_state new k.bsc k.cell w.message_id s ≡ key_state past k.bsc k.cell w.message_id s
    stays w e other s there =
        ap (λ t. state_after (if t then Frees else Leaves) (if t then Some 0 else None) (key_state past k.bsc k.cell w.message_id s))
        (kept_key settings past legal n k.warning w e (ap (nat_eq n) (eqb-true w.number k.warning (find_passes (has_number k.warning) (warnings_of past) w e)) ∙ other) w.message_id s
        (and_from (nat_eq w.message_id w.message_id) (list_any (is_version s) w.versions) (eq-eqb w.message_id w.message_id refl) there))

    at : (o : Option Warning) → warning_of (book_of past) k.warning ≡ o → (t : Bool) → nat_eq n k.warning ≡ t → SamePart (facts_of past k.bsc k.cell o) (facts_of new k.bsc k.cell (cond t None o))
    at None e true same = same_none past new k.bsc k.cell
    at None e false other = same_none past new k.bsc k.cell
    at (Some w) e true same =
        same_gone past new k.bsc k.cell w (idle_apart past k.bsc k.cell w (apart_away past k.bsc k.cell w (not_placed past k.bsc k.cell (unknown same))))
        (line_blank past k.bsc k.cell w (unknown_blank past k.bsc k.cell k.warning w (unknown same) e))
    at (Some w) e false other = same_kept past new k.bsc k.cell w refl refl refl (stays w e other)
