-- What an event makes of a line: what it does to each key of it.
use Rattle.std.specs.Prelude.{◌≡◌, ℕ, ◌<◌, Bool, true, ◌&&◌, not, List, [], ◌∷◌, Option, nat_eq, length}
use Rattle.std.specs.List.{list_any, slice_index_or}
use Rattle.common.specs.declared.cell.Cell.{Cell}
use Rattle.mirror.specs.Line.{blank, state_of, with_state}
use Rattle.mirror.specs.declared.key_state.KeyState.{KeyState}
use Rattle.mirror.specs.declared.line.Line.{Line}
use Rattle.serials.specs.Serials.{update_of}
use Rattle.warning_book.specs.declared.version.Version.{Version}
use Rattle.warning_book.specs.declared.warning.Warning.{Warning}
use Rattle.centre_events.specs.Effects.{state_after}
use Rattle.centre_events.specs.Facts.{version_at, version_state}
use Rattle.centre_events.specs.Past.{Past}
use Rattle.centre_events.specs.declared.effect.Effect.{Effect}

-- the line after what is done to the versions of these serial numbers, and what is reported of them, one after another
abbrev pub stepped : (ℕ → Effect) → (ℕ → Option ℕ) → Line → List ℕ → Line
stepped f n line [] = line
stepped f n line (s ∷ ss) = stepped f n (with_state line s (state_after (f s) (n s) (state_of line s))) ss

-- what is kept at an update number
abbrev pub at_update : Line → ℕ → KeyState
at_update line u = slice_index_or line.states u blank

-- the two have one update number
abbrev pub same_update : Version → Version → Bool
same_update v w = nat_eq (update_of w.serial) (update_of v.serial)

-- no two have one update number: each is other than all later ones
abbrev pub updates_once : List Version → Bool
updates_once [] = true
updates_once (v ∷ vs) = not (list_any (same_update v) vs) && updates_once vs

-- what was kept of the versions of a warning before an entry: of each what the past says, and nothing else
pub record WasLine (past : Past) (b : ℕ) (c : Cell) (w : Warning) (line : Line) : Type 0 where
  pub long : length line.states ≡ 16
  pub kept : (u : ℕ) → u < 16 → at_update line u ≡ version_state past b c w.message_id (version_at w.versions u)
