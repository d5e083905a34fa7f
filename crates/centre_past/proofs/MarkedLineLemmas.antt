-- A line of a past isn't blank just where a version of its warning is on air, or may be, or is held back, or was
-- broadcast.
use Rattle.std.proofs.Common.{◌≡◌, arith, ℕ, ◌<◌, Bool, true, false, ◌||◌, not, nat_eq, List, [], ◌∷◌, Option, Some, None, map, cond, refl, sym, ◌∙◌, ap, eq-eqb, ltb}
use Rattle.std.specs.Prelude.{find}
use Rattle.std.specs.List.{list_any, list_all, range_with_len}
use Rattle.std.proofs.lemmas.Bool.{and_parts, or_parts, or_from, not-true}
use Rattle.std.proofs.lemmas.Bool.Decides.{nat_tests}
use Rattle.std.proofs.lemmas.Grind.{common_steps}
use Rattle.std.proofs.lemmas.List.{get_or-replicate}
use Rattle.cbsp_ie.specs.declared.cause.Cause.{Cause}
use Rattle.cell_register.specs.Register.{State, is_place}
use Rattle.common.specs.Order.{is_ascending}
use Rattle.common.specs.declared.cell.Cell.{Cell}
use Rattle.mirror.specs.BlankLaws.{blank_decides}
use Rattle.mirror.specs.Known as kept
use Rattle.mirror.specs.Line.{blank, blank_line}
use Rattle.mirror.specs.Table.{Table, line_at, has_line, down_at}
use Rattle.mirror.specs.declared.key_state.KeyState.{KeyState}
use Rattle.mirror.specs.declared.line.Line.{Line}
use Rattle.mirror.specs.declared.presence.Presence.{Presence}
use Rattle.mirror.specs.declared.presence.Presence.TheVariants.{Absent}
use Rattle.serials.specs.Serials.{update_of}
use Rattle.warning_book.specs.Book as book
use Rattle.warning_book.specs.Book.{has_number, number_lt, warning_of}
use Rattle.warning_book.specs.Sound.{IsSound, has_one_code, has_serials}
use Rattle.warning_book.specs.declared.kind.Kind.TheVariants as kind
use Rattle.warning_book.specs.declared.version.Version.{Version}
use Rattle.warning_book.specs.declared.warning.Warning.{Warning}
use Rattle.centre_events.specs.Counts.{count}
use Rattle.centre_events.specs.Down.{is_down, is_down_for_some}
use Rattle.centre_events.specs.Facts.{key_state, version_at, version_state, line_of}
use Rattle.centre_past.specs.Facts.{facts_of}
use Rattle.centre_events.specs.Known.{is_marked, has_mark, is_known}
use Rattle.centre_events.specs.Past.{Past}
use Rattle.centre_events.specs.Places.{place}
use Rattle.centre_events.specs.Presence.{presence, hold}
use Rattle.centre_past.specs.Reaching.{Told, TellsLines}
use Rattle.centre_events.specs.Stepping.{at_update, same_update, updates_once}
use Rattle.centre_events.specs.Warnings.{warnings_of, book_of}
use Rattle.centre_events.specs.declared.settings.Settings.{Settings}
use Rattle.centre_past.proofs.MarkLemmas.{marks, no_presence, no_hold, no_count}
use Rattle.centre_events.proofs.PastLemmas.{any_image}
use Rattle.centre_past.proofs.StepLemmas.{line_at_update, none_later}
use Rattle.centre_past.proofs.VersionLemmas.{sound_updates}
use Rattle.centre_past.proofs.WarningLemmas.{legal_sound}

-- Where nothing is marked, everything is blank.

abbrev kept_state : Presence → Option Cause → ℕ → KeyState
kept_state p h n = record { presence = p; hold = h; count = n }

state_blank : (past : Past) (b : ℕ) (c : Cell) (m s : ℕ) → is_marked past b c m s ≡ false → key_state past b c m s ≡ blank
state_blank past b c m s h =
    ap (λ p. kept_state p (hold past b c m s) (count past b c m s)) (no_presence (presence past b c m s) (hold past b c m s) (count past b c m s) h)
    ∙ ap (λ o. kept_state Absent o (count past b c m s)) (no_hold (presence past b c m s) (hold past b c m s) (count past b c m s) h)
    ∙ ap (kept_state Absent None) (no_count (presence past b c m s) (hold past b c m s) (count past b c m s) h)

version_blank : (past : Past) (b : ℕ) (c : Cell) (m : ℕ) (vs : List Version) (u : ℕ) → list_any (λ (v : Version). is_marked past b c m v.serial) vs ≡ false → version_state past b c m (version_at vs u) ≡ blank
version_blank past b c m [] u h = refl
version_blank past b c m (v ∷ vs) u h =
    step (version_blank past b c m vs u) (nat_eq (update_of v.serial) u) (or_parts (is_marked past b c m v.serial) (list_any (λ (x : Version). is_marked past b c m x.serial) vs) h)
  where
    step : (list_any (λ (x : Version). is_marked past b c m x.serial) vs ≡ false → version_state past b c m (version_at vs u) ≡ blank) → (t : Bool) → (is_marked past b c m v.serial ≡ false) × (list_any (λ (x : Version). is_marked past b c m x.serial) vs ≡ false) → version_state past b c m (cond t (Some v) (version_at vs u)) ≡ blank
    step rest true parts = state_blank past b c m v.serial parts.0
    step rest false parts = rest parts.1

map_same : {X Y : Type 0} (f g : X → Y) → ((x : X) → f x ≡ g x) → (xs : List X) → map f xs ≡ map g xs
map_same f g e [] = refl
map_same f g e (x ∷ xs) = ap (λ y. y ∷ map f xs) (e x) ∙ ap (λ l. g x ∷ l) (map_same f g e xs)

abbrev line_with : List KeyState → Line
line_with states = record { states = states }

line_blank : (past : Past) (b : ℕ) (c : Cell) (w : Warning) → has_mark past b c w ≡ false → line_of past b c w ≡ blank_line
line_blank past b c w h =
    ap line_with (map_same (λ u. version_state past b c w.message_id (version_at w.versions u)) (λ u. blank) (λ u. version_blank past b c w.message_id w.versions u none) (range_with_len 0 16))
  where
    none : list_any (λ (v : Version). is_marked past b c w.message_id v.serial) w.versions ≡ false
    none = sym (any_image (is_marked past b c w.message_id) (λ (v : Version). v.serial) w.versions) ∙ h

-- a warning that may be there has a mark
abbrev marks_one : Past → ℕ → Cell → Option Warning → Bool
marks_one past b c None = false
marks_one past b c (Some w) = has_mark past b c w

found_blank : (past : Past) (b : ℕ) (c : Cell) (o : Option Warning) → marks_one past b c o ≡ false → (facts_of past b c o).line ≡ blank_line
found_blank past b c None h = refl
found_blank past b c (Some w) h = line_blank past b c w h

none_found : (past : Past) (b : ℕ) (c : Cell) (n : ℕ) (ws : List Warning) → list_any (has_mark past b c) ws ≡ false → marks_one past b c (find (has_number n) ws) ≡ false
none_found past b c n [] h = refl
none_found past b c n (w ∷ ws) h = step (none_found past b c n ws) (has_number n w) (or_parts (has_mark past b c w) (list_any (has_mark past b c) ws) h)
  where
    step : (list_any (has_mark past b c) ws ≡ false → marks_one past b c (find (has_number n) ws) ≡ false) → (t : Bool) → (has_mark past b c w ≡ false) × (list_any (has_mark past b c) ws ≡ false) → marks_one past b c (cond t (Some w) (find (has_number n) ws)) ≡ false
    step rest true parts = parts.0
    step rest false parts = rest parts.1

-- where no version of a warning in the book is marked, each line of the cell is blank
pub blank_lines : (past : Past) (b : ℕ) (c : Cell) (n : ℕ) → list_any (has_mark past b c) (warnings_of past) ≡ false → (facts_of past b c (warning_of (book_of past) n)).line ≡ blank_line
blank_lines past b c n h = found_blank past b c (warning_of (book_of past) n) (none_found past b c n (warnings_of past) h)

-- Where one is, its line isn't blank.

state_marked : (past : Past) (b : ℕ) (c : Cell) (m s : ℕ) → key_state past b c m s ≡ blank → is_marked past b c m s ≡ false
state_marked past b c m s e = ap (λ (k : KeyState). marks k.presence k.hold k.count) e

small : (s : ℕ) → update_of s < 16
small s = omega arith

-- where each version that is found is blank, no version is marked
none_marked : (past : Past) (b : ℕ) (c : Cell) (m : ℕ) (vs : List Version) → updates_once vs ≡ true → ((t : ℕ) → t < 16 → version_state past b c m (version_at vs t) ≡ blank) → list_any (λ (v : Version). is_marked past b c m v.serial) vs ≡ false
none_marked past b c m [] once blanks = refl
none_marked past b c m (v ∷ vs) once blanks =
    or_from (is_marked past b c m v.serial) (list_any (λ (x : Version). is_marked past b c m x.serial) vs) here (none_marked past b c m vs parts.1 later)
  where
    parts : (not (list_any (same_update v) vs) ≡ true) × (updates_once vs ≡ true)
    parts = and_parts (not (list_any (same_update v) vs)) (updates_once vs) once

    here : is_marked past b c m v.serial ≡ false
    here =
        state_marked past b c m v.serial
        (sym (ap (λ t. version_state past b c m (cond t (Some v) (version_at vs (update_of v.serial)))) (eq-eqb (update_of v.serial) (update_of v.serial) refl)) ∙ blanks (update_of v.serial) (small v.serial))

    later : (t : ℕ) → t < 16 → version_state past b c m (version_at vs t) ≡ blank
    later t less = step (nat_eq (update_of v.serial) t) refl (blanks t less)
      where
        step : (x : Bool) → nat_eq (update_of v.serial) t ≡ x → version_state past b c m (cond x (Some v) (version_at vs t)) ≡ blank → version_state past b c m (version_at vs t) ≡ blank
        step true e g = ap (version_state past b c m) (none_later v vs t (not-true (list_any (same_update v) vs) parts.0) e)
        step false e g = g

line_marked : (past : Past) (b : ℕ) (c : Cell) (w : Warning) → updates_once w.versions ≡ true → line_of past b c w ≡ blank_line → has_mark past b c w ≡ false
line_marked past b c w once e =
    any_image (is_marked past b c w.message_id) (λ (v : Version). v.serial) w.versions ∙ none_marked past b c w.message_id w.versions once blanks
  where
    blanks : (t : ℕ) → t < 16 → version_state past b c w.message_id (version_at w.versions t) ≡ blank
    blanks t less = sym (line_at_update past b c w t less) ∙ ap (λ l. at_update l t) e ∙ get_or-replicate 16 t blank blank less

-- a number that all the warnings come after is none of theirs
none_of : (w : Warning) (n : ℕ) (ws : List Warning) → list_all (number_lt w) ws ≡ true → nat_eq w.number n ≡ true → find (has_number n) ws ≡ None
none_of w n [] h e = refl
none_of w n (v ∷ ws) h e =
    let parts = and_parts (number_lt w v) (list_all (number_lt w) ws) h in
    let other : nat_eq v.number n ≡ false = apart w.number v.number n parts.0 e in
    rw other (none_of w n ws parts.1 e)
  where
    apart : (i k j : ℕ) → ltb i k ≡ true → nat_eq i j ≡ true → nat_eq k j ≡ false
    apart i k j h e = grind (arith, nat_tests, common_steps)

-- where each line of the cell is blank, no version of a warning is marked
lines_marked : (past : Past) (b : ℕ) (c : Cell) (ws : List Warning) → is_ascending number_lt ws ≡ true → list_all has_serials ws ≡ true → list_all has_one_code ws ≡ true → ((n : ℕ) → (facts_of past b c (find (has_number n) ws)).line ≡ blank_line) → list_any (has_mark past b c) ws ≡ false
lines_marked past b c [] ascending serials coded blanks = refl
lines_marked past b c (w ∷ ws) ascending serials coded blanks =
    or_from (has_mark past b c w) (list_any (has_mark past b c) ws) here (lines_marked past b c ws order.1 alone.1 codes.1 later)
  where
    order : (list_all (number_lt w) ws ≡ true) × (is_ascending number_lt ws ≡ true)
    order = and_parts (list_all (number_lt w) ws) (is_ascending number_lt ws) ascending

    alone : (has_serials w ≡ true) × (list_all has_serials ws ≡ true)
    alone = and_parts (has_serials w) (list_all has_serials ws) serials

    codes : (has_one_code w ≡ true) × (list_all has_one_code ws ≡ true)
    codes = and_parts (has_one_code w) (list_all has_one_code ws) coded

    here : has_mark past b c w ≡ false
    here =
        line_marked past b c w (sound_updates w alone.0 codes.0)
        (sym (ap (λ t. (facts_of past b c (cond t (Some w) (find (has_number w.number) ws))).line) (eq-eqb w.number w.number refl)) ∙ blanks w.number)

    later : (n : ℕ) → (facts_of past b c (find (has_number n) ws)).line ≡ blank_line
    later n = step (nat_eq w.number n) refl (blanks n)
      where
        step : (x : Bool) → nat_eq w.number n ≡ x → (facts_of past b c (cond x (Some w) (find (has_number n) ws))).line ≡ blank_line → (facts_of past b c (find (has_number n) ws)).line ≡ blank_line
        step true e g = ap (λ o. (facts_of past b c o).line) (none_of w n ws order.0 e)
        step false e g = g

-- Which cells are known.

has_line_same : (settings : Settings) (past : Past) (r : State) (st : book.State) (t : Table) → Told settings past r st t → TellsLines t → (b : ℕ) (c : Cell) → has_line t b c ≡ list_any (has_mark past b c) (warnings_of past)
has_line_same settings past r st t told tells b c = step (has_line t b c) refl (list_any (has_mark past b c) (warnings_of past)) refl
  where
    sound : IsSound (book_of past)
    sound = legal_sound settings past told.legal

    line_is : (n : ℕ) → line_at t b c n ≡ (facts_of past b c (warning_of (book_of past) n)).line
    line_is n = told.lines (record { bsc = b; cell = c; warning = n })

    step : (x : Bool) → has_line t b c ≡ x → (y : Bool) → list_any (has_mark past b c) (warnings_of past) ≡ y → x ≡ y
    step true e true f = refl
    step true e false f =
        let found = tells.which b c e in
        let empty : line_at t b c found.0 ≡ blank_line = line_is found.0 ∙ blank_lines past b c found.0 f in
        let no : true ≡ false = sym ((blank_decides (line_at t b c found.0)).1 empty) ∙ found.1 in
        absurd cc
    step false e true f =
        let no : true ≡ false = sym f ∙ lines_marked past b c (warnings_of past) sound.ordered sound.serials sound.codes (λ n. sym (line_is n) ∙ tells.none b c e n) in
        absurd cc
    step false e false f = refl

-- a cell is known at a BSC by what is kept just where the past says so
pub known_same : (settings : Settings) (past : Past) (r : State) (st : book.State) (t : Table) → Told settings past r st t → TellsLines t → (b : ℕ) (c : Cell) → kept.is_known t r b c ≡ is_known past b c
known_same settings past r st t told tells b c =
    ap (λ o. is_place o b || ((down_at t kind.Cbs b c || down_at t kind.Emergency b c) || has_line t b c)) (told.registered.places c)
    ∙ ap (λ x. is_place (place past c) b || ((x || down_at t kind.Emergency b c) || has_line t b c)) (told.downs kind.Cbs b c)
    ∙ ap (λ x. is_place (place past c) b || ((is_down past kind.Cbs b c || x) || has_line t b c)) (told.downs kind.Emergency b c)
    ∙ ap (λ x. is_place (place past c) b || (is_down_for_some past b c || x)) (has_line_same settings past r st t told tells b c)
