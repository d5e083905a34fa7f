-- The line of a past, one entry further.
use Rattle.std.proofs.Common.{◌≡◌, ℕ, ◌<◌, Bool, true, false, ◌||◌, not, nat_eq, List, [], ◌∷◌, Option, Some, None, map, cond, length, refl, sym, ◌∙◌, ap, subst, arith, eqb-true, eq-eqb}
use Rattle.std.specs.List.{list_any}
use Rattle.std.proofs.lemmas.Bool.{and_parts, not-true}
use Rattle.std.proofs.lemmas.List.{get_or-set_same, get_or-set_other, ext_get_or, length-set}
use Rattle.std.proofs.lemmas.List.FromFn.{get_or-map-range_with_len, length-map-range_with_len}
use Rattle.common.specs.declared.cell.Cell.{Cell}
use Rattle.mirror.specs.Line.{blank, state_of, with_state}
use Rattle.mirror.specs.declared.key_state.KeyState.{KeyState}
use Rattle.mirror.specs.declared.line.Line.{Line}
use Rattle.serials.specs.Serials.{update_of}
use Rattle.warning_book.specs.declared.version.Version.{Version}
use Rattle.warning_book.specs.declared.warning.Warning.{Warning}
use Rattle.centre_events.specs.Counts.{count_at}
use Rattle.centre_events.specs.Effects.{state_after}
use Rattle.centre_events.specs.Facts.{key_state, version_at, version_state, line_of}
use Rattle.centre_events.specs.Past.{Past, After}
use Rattle.centre_events.specs.Presence.{effect_at}
use Rattle.centre_events.specs.Stepping.{stepped, same_update, updates_once, at_update, WasLine}
use Rattle.centre_events.specs.declared.effect.Effect.{Effect}
use Rattle.centre_events.specs.declared.entry.Entry.{Entry}

update_small : (s : ℕ) → update_of s < 16
update_small s = omega arith

with_same : (line : Line) (s : ℕ) (k : KeyState) → length line.states ≡ 16 → at_update (with_state line s k) (update_of s) ≡ k
with_same line s k long = get_or-set_same line.states (update_of s) k blank (rw long (update_small s))

with_other : (line : Line) (s u : ℕ) (k : KeyState) → nat_eq (update_of s) u ≡ false → at_update (with_state line s k) u ≡ at_update line u
with_other line s u k other = get_or-set_other line.states (update_of s) u k blank (λ e. let no : true ≡ false = sym (eq-eqb (update_of s) u (sym e)) ∙ other in cc)

long_with : (line : Line) (s : ℕ) (k : KeyState) → length line.states ≡ 16 → length (with_state line s k).states ≡ 16
long_with line s k long = length-set line.states (update_of s) k ∙ long

stepped_long : (f : ℕ → Effect) (n : ℕ → Option ℕ) (line : Line) (ss : List ℕ) → length line.states ≡ 16 → length (stepped f n line ss).states ≡ 16
stepped_long f n line [] long = long
stepped_long f n line (s ∷ ss) long = stepped_long f n (with_state line s (state_after (f s) (n s) (state_of line s))) ss (long_with line s (state_after (f s) (n s) (state_of line s)) long)

-- what is done at an update number: to the version that has it
abbrev done_at : (ℕ → Effect) → (ℕ → Option ℕ) → Option Version → KeyState → KeyState
done_at f n None k = k
done_at f n (Some v) k = state_after (f v.serial) (n v.serial) k

-- where a version has the update number, no other of these has
pub none_later : (v : Version) (vs : List Version) (u : ℕ) → list_any (same_update v) vs ≡ false → nat_eq (update_of v.serial) u ≡ true → version_at vs u ≡ None
none_later v [] u h e = refl
none_later v (w ∷ vs) u h e = step (λ g. none_later v vs u g e) (nat_eq (update_of w.serial) (update_of v.serial)) refl h
  where
    step : (list_any (same_update v) vs ≡ false → version_at vs u ≡ None) → (t : Bool) → nat_eq (update_of w.serial) (update_of v.serial) ≡ t → (t || list_any (same_update v) vs) ≡ false → version_at (w ∷ vs) u ≡ None
    step rest true d g = cc
    step rest false d g =
        let other : nat_eq (update_of w.serial) u ≡ false = ap (nat_eq (update_of w.serial)) (sym (eqb-true (update_of v.serial) u e)) ∙ d in
        rw other (rest g)

stepped_at : (f : ℕ → Effect) (n : ℕ → Option ℕ) (vs : List Version) (line : Line) (u : ℕ) → length line.states ≡ 16 → updates_once vs ≡ true → at_update (stepped f n line (map (λ (v : Version). v.serial) vs)) u ≡ done_at f n (version_at vs u) (at_update line u)
stepped_at f n [] line u long once = refl
stepped_at f n (v ∷ vs) line u long once =
    let parts = and_parts (not (list_any (same_update v) vs)) (updates_once vs) once in
    stepped_at f n vs next u (long_with line v.serial (state_after (f v.serial) (n v.serial) (state_of line v.serial)) long) parts.1
    ∙ step (nat_eq (update_of v.serial) u) refl (not-true (list_any (same_update v) vs) parts.0)
  where
    next : Line
    next = with_state line v.serial (state_after (f v.serial) (n v.serial) (state_of line v.serial))

    step : (t : Bool) → nat_eq (update_of v.serial) u ≡ t → list_any (same_update v) vs ≡ false → done_at f n (version_at vs u) (at_update next u) ≡ done_at f n (cond t (Some v) (version_at vs u)) (at_update line u)
    step true e alone =
        let here : update_of v.serial ≡ u = eqb-true (update_of v.serial) u e in
        ap (λ o. done_at f n o (at_update next u)) (none_later v vs u alone e)
        ∙ ap (at_update next) (sym here)
        ∙ with_same line v.serial (state_after (f v.serial) (n v.serial) (state_of line v.serial)) long
        ∙ ap (λ x. state_after (f v.serial) (n v.serial) (at_update line x)) here
    step false e alone = ap (done_at f n (version_at vs u)) (with_other line v.serial u (state_after (f v.serial) (n v.serial) (state_of line v.serial)) e)

-- what the past says at an update number
pub line_at_update : (past : Past) (b : ℕ) (c : Cell) (w : Warning) (u : ℕ) → u < 16 → at_update (line_of past b c w) u ≡ version_state past b c w.message_id (version_at w.versions u)
line_at_update past b c w u small = get_or-map-range_with_len (λ n. version_state past b c w.message_id (version_at w.versions n)) 0 16 u u blank small (omega arith)

pub line_long : (past : Past) (b : ℕ) (c : Cell) (w : Warning) → length (line_of past b c w).states ≡ 16
line_long past b c w = length-map-range_with_len (λ n. version_state past b c w.message_id (version_at w.versions n)) 0 16

-- what an entry does to what the past says of a key is what the past with it says
key_after : (e : Entry) (past : Past) (b : ℕ) (c : Cell) (m s : ℕ) → state_after (effect_at b c m s e past) (count_at b c m s e past) (key_state past b c m s) ≡ key_state (After e past) b c m s
key_after e past b c m s = refl

pub line_after : (e : Entry) (past : Past) (b : ℕ) (c : Cell) (w : Warning) (line : Line) → updates_once w.versions ≡ true → WasLine past b c w line → stepped (λ s. effect_at b c w.message_id s e past) (λ s. count_at b c w.message_id s e past) line (map (λ (v : Version). v.serial) w.versions) ≡ line_of (After e past) b c w
line_after e past b c w line once was =
    ap (λ xs. let l : Line = record { states = xs } in l)
    (ext_get_or blank after.states (line_of (After e past) b c w).states (stepped_long f n line ss was.long ∙ sym (line_long (After e past) b c w)) each)
  where
    f : ℕ → Effect
    f s = effect_at b c w.message_id s e past

    n : ℕ → Option ℕ
    n s = count_at b c w.message_id s e past

    ss : List ℕ
    ss = map (λ (v : Version). v.serial) w.versions

    after : Line
    after = stepped f n line ss

    done : (o : Option Version) → done_at f n o (version_state past b c w.message_id o) ≡ version_state (After e past) b c w.message_id o
    done None = refl
    done (Some v) = key_after e past b c w.message_id v.serial

    each : (u : ℕ) → u < length after.states → at_update after u ≡ at_update (line_of (After e past) b c w) u
    each u h =
        let small : u < 16 = subst (λ x. u < x) (stepped_long f n line ss was.long) h in
        stepped_at f n w.versions line u was.long once
        ∙ ap (done_at f n (version_at w.versions u)) (was.kept u small)
        ∙ done (version_at w.versions u)
        ∙ sym (line_at_update (After e past) b c w u small)
