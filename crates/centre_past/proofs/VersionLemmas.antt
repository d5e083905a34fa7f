-- The update number of a version tells it from the other versions of its warning, so that a line has of each version what
-- the past says of it.
use Rattle.std.proofs.Common.{◌≡◌, arith, ℕ, ◌<◌, Bool, true, false, ◌||◌, not, nat_eq, List, [], ◌∷◌, Some, cond, refl, sym, ◌∙◌, ap, eqb-true, eq-eqb}
use Rattle.std.specs.List.{list_any}
use Rattle.std.proofs.lemmas.Bool.{and_parts, and_from, not-true}
use Rattle.common.specs.Order.{each_once}
use Rattle.common.specs.declared.cell.Cell.{Cell}
use Rattle.mirror.specs.Line.{state_of}
use Rattle.serials.specs.Serials.{update_of}
use Rattle.warning_book.specs.Book.{has_number, warning_of}
use Rattle.warning_book.specs.Sound.{IsSound, has_one_code, has_serials}
use Rattle.warning_book.specs.VersionLaws.{updates_apart}
use Rattle.warning_book.specs.declared.version.Version.{Version}
use Rattle.warning_book.specs.declared.warning.Warning.{Warning}
use Rattle.centre_events.specs.Facts.{key_state, version_at, version_state, line_of}
use Rattle.centre_past.specs.Legal.{Legal}
use Rattle.centre_events.specs.Past.{Past}
use Rattle.centre_events.specs.Stepping.{same_update, updates_once}
use Rattle.centre_events.specs.Warnings.{book_of, warnings_of, is_version}
use Rattle.centre_events.specs.declared.settings.Settings.{Settings}
use Rattle.centre_past.proofs.AnyLemmas.{any_implies, contrary}
use Rattle.centre_past.proofs.LineLemmas.{found_all}
use Rattle.centre_past.proofs.StepLemmas.{line_at_update}
use Rattle.centre_past.proofs.WarningLemmas.{legal_sound}

-- No two versions of a warning have one update number.

once_as : (vs : List Version) → each_once same_update vs ≡ true → updates_once vs ≡ true
once_as [] h = refl
once_as (v ∷ vs) h =
    let parts = and_parts (not (list_any (same_update v) vs)) (each_once same_update vs) h in
    and_from (not (list_any (same_update v) vs)) (updates_once vs) parts.0 (once_as vs parts.1)

-- since their serial numbers stand once, and have one scope and code
pub sound_updates : (w : Warning) → has_serials w ≡ true → has_one_code w ≡ true → updates_once w.versions ≡ true
sound_updates w serials codes = once_as w.versions (updates_apart w.versions codes serials)

pub legal_updates : (settings : Settings) (past : Past) → Legal settings past → (n : ℕ) (w : Warning) → warning_of (book_of past) n ≡ Some w → updates_once w.versions ≡ true
legal_updates settings past legal n w found =
    let sound : IsSound (book_of past) = legal_sound settings past legal in
    sound_updates w (found_all (has_number n) has_serials (warnings_of past) w found sound.serials) (found_all (has_number n) has_one_code (warnings_of past) w found sound.codes)

-- A line has of each version what the past says of it.

-- a version of that serial number is found by its update number
version_found : (past : Past) (b : ℕ) (c : Cell) (m s : ℕ) (vs : List Version) → updates_once vs ≡ true → list_any (is_version s) vs ≡ true → version_state past b c m (version_at vs (update_of s)) ≡ key_state past b c m s
version_found past b c m s [] once there = cc
version_found past b c m s (v ∷ vs) once there =
    step (nat_eq (update_of v.serial) (update_of s)) refl (nat_eq v.serial s) refl (version_found past b c m s vs parts.1) there
  where
    parts : (not (list_any (same_update v) vs) ≡ true) × (updates_once vs ≡ true)
    parts = and_parts (not (list_any (same_update v) vs)) (updates_once vs) once

    -- a later one of the serial number would have the update number of this one
    later : nat_eq (update_of v.serial) (update_of s) ≡ true → list_any (is_version s) vs ≡ false
    later e = contrary (list_any (is_version s) vs) (list_any (same_update v) vs) (any_implies (is_version s) (same_update v) same vs) (not-true (list_any (same_update v) vs) parts.0)
      where
        same : (w : Version) → is_version s w ≡ true → same_update v w ≡ true
        same w f =
            eq-eqb (update_of w.serial) (update_of v.serial) (ap update_of (eqb-true w.serial s f) ∙ sym (eqb-true (update_of v.serial) (update_of s) e))

    step : (t : Bool) → nat_eq (update_of v.serial) (update_of s) ≡ t → (u : Bool) → nat_eq v.serial s ≡ u → (list_any (is_version s) vs ≡ true → version_state past b c m (version_at vs (update_of s)) ≡ key_state past b c m s) → (u || list_any (is_version s) vs) ≡ true → version_state past b c m (cond t (Some v) (version_at vs (update_of s))) ≡ key_state past b c m s
    step true e true f rest h = ap (key_state past b c m) (eqb-true v.serial s f)
    step true e false f rest h = absurd (let no : false ≡ true = sym (later e) ∙ h in cc)
    step false e true f rest h =
        absurd (let no : true ≡ false = sym (eq-eqb (update_of v.serial) (update_of s) (ap update_of (eqb-true v.serial s f))) ∙ e in cc)
    step false e false f rest h = rest h

small : (s : ℕ) → update_of s < 16
small s = omega arith

pub version_state_is : (past : Past) (b : ℕ) (c : Cell) (w : Warning) (s : ℕ) → updates_once w.versions ≡ true → list_any (is_version s) w.versions ≡ true → state_of (line_of past b c w) s ≡ key_state past b c w.message_id s
version_state_is past b c w s once there =
    line_at_update past b c w (update_of s) (small s) ∙ version_found past b c w.message_id s w.versions once there
