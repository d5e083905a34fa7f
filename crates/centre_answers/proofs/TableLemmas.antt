-- The table of a BSC is read from the lines of the cells that are known there.
use Rattle.std.proofs.Common.{◌≡◌, ℕ, ◌<◌, true, ◌||◌, nat_eq, List, [], ◌∷◌, ◌++◌, Some, length, get_or, refl, sym, ◌∙◌, ap, eqb-true, eq-eqb}
use Rattle.std.specs.Prelude.{find}
use Rattle.std.specs.List.{list_any, flat_map}
use Rattle.std.proofs.lemmas.Bool.{and_parts, or_left, or_right}
use Rattle.cell_register.specs.Register.{is_place}
use Rattle.common.specs.Cell.{cell_eq, cell_lt}
use Rattle.common.specs.OnceLaws.{ascending_once}
use Rattle.common.specs.Order.{is_ascending}
use Rattle.common.specs.Sorting.{sorted_by}
use Rattle.common.specs.declared.cell.Cell.{Cell}
use Rattle.kept_tables.specs.Tables.{Tables}
use Rattle.kept_tables.specs.View.{key_of}
use Rattle.mirror.specs.Line.{state_of}
use Rattle.mirror.specs.Table.{line_at}
use Rattle.mirror.specs.declared.key_state.KeyState.{KeyState}
use Rattle.mirror.specs.declared.line.Line.{Line}
use Rattle.warning_book.specs.Book.{has_number, number_lt, warning_of}
use Rattle.warning_book.specs.declared.version.Version.{Version}
use Rattle.warning_book.specs.declared.warning.Warning.{Warning}
use Rattle.centre_answers.specs.Asked.{Tells}
use Rattle.centre_events.specs.Counts.{count}
use Rattle.centre_events.specs.Down.{is_down_for_some}
use Rattle.centre_events.specs.Facts.{key_state, line_of}
use Rattle.centre_past.specs.Facts.{facts_of}
use Rattle.centre_past.specs.Idle.{AsBefore}
use Rattle.centre_events.specs.Known.{is_marked, has_mark, is_known}
use Rattle.centre_past.specs.Legal.{Legal}
use Rattle.centre_events.specs.Past.{Past}
use Rattle.centre_events.specs.Places.{place}
use Rattle.centre_events.specs.Presence.{presence, hold}
use Rattle.centre_past.specs.Table.{key_if, keys_in, keys_over, key_lt, table}
use Rattle.centre_events.specs.Warnings.{book_of, warnings_of, is_version, has_key}
use Rattle.centre_events.specs.declared.settings.Settings.{Settings}
use Rattle.centre_past.specs.declared.reported.reported_key.ReportedKey.{ReportedKey}
use Rattle.centre_past.proofs.AnyLemmas.{any_implies, contrary}
use Rattle.centre_past.proofs.BeginningLemmas.{table_over}
use Rattle.centre_past.proofs.KeyLemmas.{marked_key}
use Rattle.centre_past.proofs.MarkLemmas.{no_presence}
use Rattle.centre_past.proofs.NumberLemmas.{number_at}
use Rattle.centre_events.proofs.PastLemmas.{any_image}
use Rattle.centre_past.proofs.RegisterLemmas.{cell_apart}
use Rattle.centre_past.proofs.VersionLemmas.{legal_updates, version_state_is}
use Rattle.centre_past.proofs.WarningLemmas.{legal_sound}

-- The cells that are known.

-- a cell with a key that is on air, or held, or was broadcast, is known
marked_known : (settings : Settings) (past : Past) → Legal settings past → (b : ℕ) (c : Cell) (m s : ℕ) → is_marked past b c m s ≡ true → is_known past b c ≡ true
marked_known settings past legal b c m s h =
    or_right (is_place (place past c) b) (is_down_for_some past b c || list_any (has_mark past b c) (warnings_of past))
    (or_right (is_down_for_some past b c) (list_any (has_mark past b c) (warnings_of past))
    (any_implies (has_key m s) (has_mark past b c) each (warnings_of past) (marked_key settings past legal b c m s h)))
  where
    each : (w : Warning) → has_key m s w ≡ true → has_mark past b c w ≡ true
    each w g =
        let parts = and_parts (nat_eq w.message_id m) (list_any (is_version s) w.versions) g in
        any_image (is_marked past b c w.message_id) (λ (v : Version). v.serial) w.versions
        ∙ any_implies (is_version s) (λ (v : Version). is_marked past b c w.message_id v.serial) (λ v e. ap (λ k. is_marked past b c k v.serial) (eqb-true w.message_id m parts.0) ∙ ap (is_marked past b c m) (eqb-true v.serial s e) ∙ h) w.versions parts.1

-- over the cells that are known at the BSC the table is what it is over all
pub table_known : (settings : Settings) (past : Past) → Legal settings past → (b : ℕ) (cs : List Cell) → is_ascending cell_lt cs ≡ true → ((c : Cell) → list_any (cell_eq c) cs ≡ is_known past b c) → sorted_by key_lt (keys_over past b cs) ≡ table past b
table_known settings past legal b cs order known =
    table_over settings past legal b cs (ascending_once cell_eq cell_lt cell_apart cs order)
    (λ c out m s. no_presence (presence past b c m s) (hold past b c m s) (count past b c m s) (contrary (is_marked past b c m s) (is_known past b c) (marked_known settings past legal b c m s) (sym (known c) ∙ out)))

-- The keys of one line.

-- what the line says of the versions
abbrev pub keys_on : Line → Cell → ℕ → List Version → List ReportedKey
keys_on line c m vs = flat_map (λ (v : Version). key_if c m v.serial (state_of line v.serial).presence) vs

keys_same : (line : Line) (p : ℕ → KeyState) (c : Cell) (m : ℕ) (vs : List Version) → ((s : ℕ) → list_any (is_version s) vs ≡ true → state_of line s ≡ p s) → keys_on line c m vs ≡ flat_map (λ (v : Version). key_if c m v.serial (p v.serial).presence) vs
keys_same line p c m [] e = refl
keys_same line p c m (v ∷ vs) e =
    λ i. key_if c m v.serial (here i).presence ++ keys_same line p c m vs (λ s h. e s (or_right (is_version s v) (list_any (is_version s) vs) h)) i
  where
    here : state_of line v.serial ≡ p v.serial
    here = e v.serial (or_left (is_version v.serial v) (list_any (is_version v.serial) vs) (eq-eqb v.serial v.serial refl))

-- the line of a warning in the book
pub line_kept : (past : Past) (t u : Tables) (b : ℕ) (c : Cell) (w : Warning) → Tells past t → AsBefore t u → warning_of (book_of past) w.number ≡ Some w → line_at u.lines b c w.number ≡ line_of past b c w
line_kept past t u b c w tells same found =
    same.same.lines b c w.number ∙ tells.is.lines (key_of b c w.number) ∙ ap (λ o. (facts_of past b c o).line) found

-- what it says of the versions is what the past says
pub keys_read : (past : Past) (t u : Tables) (b : ℕ) (c : Cell) (w : Warning) → Tells past t → AsBefore t u → warning_of (book_of past) w.number ≡ Some w → keys_on (line_at u.lines b c w.number) c w.message_id w.versions ≡ keys_in past b w c
keys_read past t u b c w tells same found =
    ap (λ line. keys_on line c w.message_id w.versions) (line_kept past t u b c w tells same found)
    ∙ keys_same (line_of past b c w) (key_state past b c w.message_id) c w.message_id w.versions (λ s there. version_state_is past b c w s (legal_updates tells.settings past tells.legal w.number w found) there)

-- each of the warnings is the one of its number
pub in_book : (past : Past) (t : Tables) → Tells past t → (ws : List Warning) → ws ≡ warnings_of past → (i : ℕ) (w : Warning) → i < length ws → w ≡ get_or ws i w → warning_of (book_of past) w.number ≡ Some w
in_book past t tells ws same i w h is =
    ap (find (has_number w.number)) (sym same)
    ∙ number_at ws (ap (is_ascending number_lt) same ∙ (legal_sound tells.settings past tells.legal).ordered) i w h is
