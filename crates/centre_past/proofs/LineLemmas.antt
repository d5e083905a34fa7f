-- What is read of the line of a warning in the book, at two pasts.
use Rattle.std.proofs.Common.{◌≡◌, ℕ, zero, suc, ◌+◌, Bool, true, false, ◌&&◌, ◌||◌, not, nat_eq, List, [], ◌∷◌, ◌++◌, Option, Some, None, filter, map, replicate, cond, append-nil, arith, refl, sym, ◌∙◌, ap, eqb-true, eq-eqb}
use Rattle.std.specs.Prelude.{find, slice_index_or, if◌then◌else◌}
use Rattle.std.specs.List.{list_any, list_all, range_with_len}
use Rattle.std.specs.Option.{is_some, option_or}
use Rattle.std.proofs.lemmas.Bool.{and_parts, or_left, or_right, or_parts}
use Rattle.cbsp_ie.specs.declared.cause.Cause.{Cause}
use Rattle.cell_register.specs.Register.{is_place}
use Rattle.common.specs.declared.cell.Cell.{Cell}
use Rattle.coverage_board.specs.Parts.{has_areas}
use Rattle.kept_tables.specs.Same.{SamePart}
use Rattle.mirror.specs.Line.{blank, blank_line, state_of}
use Rattle.mirror.specs.Seen.{is_absent}
use Rattle.mirror.specs.declared.key_state.KeyState.{KeyState}
use Rattle.mirror.specs.declared.line.Line.{Line}
use Rattle.mirror.specs.declared.line_key.LineKey.{LineKey}
use Rattle.mirror.specs.declared.presence.Presence.{Presence}
use Rattle.mirror.specs.declared.presence.Presence.TheVariants.{Absent, OnAir, Unknown}
use Rattle.serials.specs.Serials.{update_of}
use Rattle.warning_book.specs.Book.{has_number, current_of, first_kind, kind_of, warning_of}
use Rattle.warning_book.specs.declared.version.Version.{Version}
use Rattle.warning_book.specs.declared.kind.Kind.{Kind}
use Rattle.warning_book.specs.declared.kind.Kind.TheVariants as kind
use Rattle.warning_book.specs.declared.warning.Warning.{Warning}
use Rattle.centre_events.specs.Counts.{count}
use Rattle.centre_events.specs.Cover.{covers, is_covered}
use Rattle.centre_events.specs.Down.{is_down, is_down_for_some}
use Rattle.centre_events.specs.Facts.{key_state, version_at, version_state, line_of}
use Rattle.centre_past.specs.Facts.{facts_of, facts}
use Rattle.centre_events.specs.Known.{is_marked, has_mark, is_known}
use Rattle.centre_events.specs.Past.{Past, After}
use Rattle.centre_events.specs.Places.{place}
use Rattle.centre_events.specs.Plan.{wants, wanted}
use Rattle.centre_events.specs.Presence.{presence, hold}
use Rattle.centre_past.specs.Reach.{bears, reach_of}
use Rattle.centre_events.specs.Warnings.{book_of, warnings_of, is_version, serials}
use Rattle.centre_events.specs.declared.answer.Answer.{Answer}
use Rattle.centre_events.specs.declared.entry.Entry.{Entry}
use Rattle.centre_events.specs.declared.event.Event.{Event}
use Rattle.centre_past.proofs.AnyLemmas.{and_none, contrary, any_implies}
use Rattle.centre_events.proofs.PastLemmas.{any_image, map_joined}
use Rattle.centre_past.proofs.PartLemmas.{aired, unaired, same_when, same_unwanted, same_blank}

-- Keys.

-- a key that is not marked is blank
pub unmarked : (past : Past) (b : ℕ) (c : Cell) (m s : ℕ) → is_marked past b c m s ≡ false → key_state past b c m s ≡ blank
unmarked past b c m s h = step (presence past b c m s) (hold past b c m s) (count past b c m s) h
  where
    -- a number of broadcasts that is not above 0
    none : (n : ℕ) (t : Bool) → nat_eq n 0 ≡ t → not t ≡ false → n ≡ 0
    none n true e g = eqb-true n 0 e
    none n false e g = cc

    step : (p : Presence) (o : Option Cause) (n : ℕ) → (not (is_absent p) || (is_some o || not (nat_eq n 0))) ≡ false → (let k : KeyState = record { presence = p; hold = o; count = n } in k) ≡ blank
    step Absent None n g = ap (λ x. let k : KeyState = record { presence = Absent; hold = None; count = x } in k) (none n (nat_eq n 0) refl g)
    step Absent (Some cause) n g = cc
    step OnAir o n g = cc
    step Unknown o n g = cc

-- Lines.

map_same : {X Y : Type 0} (f g : X → Y) → ((x : X) → f x ≡ g x) → (xs : List X) → map f xs ≡ map g xs
map_same f g h [] = refl
map_same f g h (x ∷ xs) = λ i. h x i ∷ map_same f g h xs i

map_one : {Y : Type 0} (f : ℕ → Y) (y : Y) → ((u : ℕ) → f u ≡ y) → (a n : ℕ) → map f (range_with_len a n) ≡ replicate n y
map_one f y h a zero = refl
map_one f y h a (suc n) = λ i. h a i ∷ map_one f y h (a + 1) n i

-- the version of an update number is one of the versions
version_found : (u : ℕ) (vs : List Version) (v : Version) → version_at vs u ≡ Some v → list_any (is_version v.serial) vs ≡ true
version_found u [] v h = cc
version_found u (x ∷ vs) v h = step (version_found u vs v) (nat_eq (update_of x.serial) u) h
  where
    step : (version_at vs u ≡ Some v → list_any (is_version v.serial) vs ≡ true) → (t : Bool) → cond t (Some x) (version_at vs u) ≡ Some v → (is_version v.serial x || list_any (is_version v.serial) vs) ≡ true
    step rest true g = let same : x ≡ v = cc in or_left (is_version v.serial x) (list_any (is_version v.serial) vs) (eq-eqb x.serial v.serial (ap (λ (y : Version). y.serial) same))
    step rest false g = or_right (is_version v.serial x) (list_any (is_version v.serial) vs) (rest g)

-- a line is the same where the keys of its versions are
pub same_line : (past new : Past) (b : ℕ) (c : Cell) (w : Warning) → ((s : ℕ) → list_any (is_version s) w.versions ≡ true → key_state new b c w.message_id s ≡ key_state past b c w.message_id s) → line_of past b c w ≡ line_of new b c w
same_line past new b c w keys =
    ap (λ states. let line : Line = record { states = states } in line)
    (map_same (λ u. version_state past b c w.message_id (version_at w.versions u)) (λ u. version_state new b c w.message_id (version_at w.versions u)) (λ u. at (version_at w.versions u) (version_found u w.versions)) (range_with_len 0 16))
  where
    at : (o : Option Version) → ((v : Version) → o ≡ Some v → list_any (is_version v.serial) w.versions ≡ true) → version_state past b c w.message_id o ≡ version_state new b c w.message_id o
    at None there = refl
    at (Some v) there = sym (keys v.serial (there v refl))

-- it is blank where they are
pub line_blank : (past : Past) (b : ℕ) (c : Cell) (w : Warning) → ((s : ℕ) → list_any (is_version s) w.versions ≡ true → key_state past b c w.message_id s ≡ blank) → line_of past b c w ≡ blank_line
line_blank past b c w keys =
    ap (λ states. let line : Line = record { states = states } in line)
    (map_one (λ u. version_state past b c w.message_id (version_at w.versions u)) blank (λ u. at (version_at w.versions u) (version_found u w.versions)) 0 16)
  where
    at : (o : Option Version) → ((v : Version) → o ≡ Some v → list_any (is_version v.serial) w.versions ≡ true) → version_state past b c w.message_id o ≡ blank
    at None there = refl
    at (Some v) there = keys v.serial (there v refl)

-- What is read of a line has the same part.

-- an area covers the cell just where one is among those that do
pub covered_by : (p : List ℕ → Bool) (xs : List (List ℕ)) → list_any p xs ≡ has_areas (filter p xs)
covered_by p [] = refl
covered_by p (x ∷ xs) = step (covered_by p xs) (p x)
  where
    step : list_any p xs ≡ has_areas (filter p xs) → (t : Bool) → (t || list_any p xs) ≡ has_areas (cond t (x ∷ filter p xs) (filter p xs))
    step rest true = refl
    step rest false = rest

same_wanted : (past new : Past) (b : ℕ) (c : Cell) (w : Warning) (areas : List (List ℕ)) → is_place (place past c) b ≡ is_place (place new c) b → filter (λ a. covers past a c) w.areas ≡ filter (λ a. covers new a c) areas → wanted past b w c ≡ (if w.active && (is_place (place new c) b && is_covered new areas c) then current_of w else None)
same_wanted past new b c w areas here same = λ i. if w.active && (here i && covered i) then current_of w else None
  where
    covered : is_covered past w.areas c ≡ is_covered new areas c
    covered = covered_by (λ a. covers past a c) w.areas ∙ ap has_areas same ∙ sym (covered_by (λ a. covers new a c) areas)

-- where the place, what is down and the keys of the versions are as before, and the areas that cover the cell
pub same_areas : (past new : Past) (b : ℕ) (c : Cell) (w : Warning) (areas : List (List ℕ)) → is_place (place past c) b ≡ is_place (place new c) b → filter (λ a. covers past a c) w.areas ≡ filter (λ a. covers new a c) areas → is_down past (kind_of w) b c ≡ is_down new (kind_of w) b c → ((s : ℕ) → list_any (is_version s) w.versions ≡ true → key_state new b c w.message_id s ≡ key_state past b c w.message_id s) → SamePart (facts_of past b c (Some w)) (facts_of new b c (Some (record w { areas = areas })))
same_areas past new b c w areas here same down keys =
    same_when (facts_of past b c (Some w)) (facts_of new b c (Some (record w { areas = areas }))) (same_line past new b c w keys) refl refl (same_wanted past new b c w areas here same) down same here

-- where the warning has its areas still
pub same_kept : (past new : Past) (b : ℕ) (c : Cell) (w : Warning) → is_place (place past c) b ≡ is_place (place new c) b → filter (λ a. covers past a c) w.areas ≡ filter (λ a. covers new a c) w.areas → is_down past (kind_of w) b c ≡ is_down new (kind_of w) b c → ((s : ℕ) → list_any (is_version s) w.versions ≡ true → key_state new b c w.message_id s ≡ key_state past b c w.message_id s) → SamePart (facts_of past b c (Some w)) (facts_of new b c (Some w))
same_kept past new b c w here same down keys = same_areas past new b c w w.areas here same down keys

-- where no warning has the number
pub same_none : (past new : Past) (b : ℕ) (c : Cell) → SamePart (facts_of past b c None) (facts_of new b c None)
same_none past new b c = same_blank (facts_of past b c None) (facts_of new b c None) refl refl refl refl

-- what is not wanted there
pub not_wanted : (past : Past) (b : ℕ) (c : Cell) (w : Warning) → wants past b w c ≡ false → wanted past b w c ≡ None
not_wanted past b c w h = ap (λ t. if t then current_of w else None) h

-- nothing is wanted in a cell away from its BSC, or that no area covers
pub idle_apart : (past : Past) (b : ℕ) (c : Cell) (w : Warning) → (is_place (place past c) b && is_covered past w.areas c) ≡ false → wants past b w c ≡ false
idle_apart past b c w h = ap (λ t. w.active && t) h ∙ and_none w.active

-- nor is there counted what was broadcast
quiet_apart : (past : Past) (b : ℕ) (c : Cell) (w : Warning) → (is_place (place past c) b && is_covered past w.areas c) ≡ false → aired (facts_of past b c (Some w)) ≡ 0
quiet_apart past b c w h =
    unaired (facts_of past b c (Some w)) (ap (λ t. is_place (place past c) b && t) (sym (covered_by (λ a. covers past a c) w.areas)) ∙ h)

-- where the cell is away from its BSC, or not covered, both before and after, and the warning has the same versions
pub same_idle : (past new : Past) (b : ℕ) (c : Cell) (v w : Warning) → (is_place (place past c) b && is_covered past v.areas c) ≡ false → (is_place (place new c) b && is_covered new w.areas c) ≡ false → line_of past b c v ≡ line_of new b c w → v.message_id ≡ w.message_id → serials v ≡ serials w → is_down past (kind_of v) b c ≡ is_down new (kind_of w) b c → SamePart (facts_of past b c (Some v)) (facts_of new b c (Some w))
same_idle past new b c v w before after line id versions down =
    same_unwanted (facts_of past b c (Some v)) (facts_of new b c (Some w)) [] line id down (not_wanted past b c v (idle_apart past b c v before)) (not_wanted new b c w (idle_apart new b c w after)) (quiet_apart past b c v before) (quiet_apart new b c w after) (append-nil (serials v) ∙ versions) refl

-- the line has a blank state where no version has the update number
state_at : (f : ℕ → KeyState) (a n i : ℕ) → f (a + i) ≡ blank → slice_index_or (map f (range_with_len a n)) i blank ≡ blank
state_at f a zero i h = refl
state_at f a (suc n) zero h = let first : a ≡ a + 0 = omega arith in ap f first ∙ h
state_at f a (suc n) (suc i) h = let next : a + 1 + i ≡ a + suc i = omega arith in state_at f (a + 1) n i (ap f next ∙ h)

state_none : (past : Past) (b : ℕ) (c : Cell) (w : Warning) (s : ℕ) → version_at w.versions (update_of s) ≡ None → state_of (line_of past b c w) s ≡ blank
state_none past b c w s h =
    state_at (λ u. version_state past b c w.message_id (version_at w.versions u)) 0 16 (update_of s) (ap (λ u. version_state past b c w.message_id (version_at w.versions u)) first ∙ ap (version_state past b c w.message_id) h)
  where
    first : 0 + update_of s ≡ update_of s
    first = omega arith

pub version_more : (u : ℕ) (vs : List Version) (x : Version) → version_at (vs ++ x ∷ []) u ≡ option_or (version_at vs u) (cond (nat_eq (update_of x.serial) u) (Some x) None)
version_more u [] x = refl
version_more u (v ∷ vs) x = step (version_more u vs x) (nat_eq (update_of v.serial) u)
  where
    step : version_at (vs ++ x ∷ []) u ≡ option_or (version_at vs u) (cond (nat_eq (update_of x.serial) u) (Some x) None) → (t : Bool) → cond t (Some v) (version_at (vs ++ x ∷ []) u) ≡ option_or (cond t (Some v) (version_at vs u)) (cond (nat_eq (update_of x.serial) u) (Some x) None)
    step rest true = refl
    step rest false = rest

-- where it has one version more, of another update number, whose key is blank
pub same_next : (past new : Past) (b : ℕ) (c : Cell) (w : Warning) (x : Version) → (is_place (place past c) b && is_covered past w.areas c) ≡ false → (is_place (place new c) b && is_covered new w.areas c) ≡ false → is_down past (kind_of w) b c ≡ is_down new (first_kind (w.versions ++ x ∷ [])) b c → ((s : ℕ) → key_state new b c w.message_id s ≡ key_state past b c w.message_id s) → version_at w.versions (update_of x.serial) ≡ None → key_state past b c w.message_id x.serial ≡ blank → SamePart (facts_of past b c (Some w)) (facts_of new b c (Some (record w { versions = w.versions ++ x ∷ [] })))
same_next past new b c w x before after down keys apart fresh =
    same_unwanted (facts_of past b c (Some w)) (facts_of new b c (Some longer)) (x.serial ∷ []) line refl down (not_wanted past b c w (idle_apart past b c w before)) (not_wanted new b c longer (idle_apart new b c longer after)) (quiet_apart past b c w before) (quiet_apart new b c longer after) (sym (map_joined (λ (v : Version). v.serial) w.versions (x ∷ [])))
    (ap (λ (k : KeyState). is_absent k.presence && true) (state_none past b c w x.serial apart))
  where
    longer : Warning
    longer = record w { versions = w.versions ++ x ∷ [] }

    at : (o : Option Version) (t : Bool) → version_state past b c w.message_id o ≡ version_state new b c w.message_id (option_or o (cond t (Some x) None))
    at None true = sym (keys x.serial ∙ fresh)
    at None false = refl
    at (Some v) t = sym (keys v.serial)

    line : line_of past b c w ≡ line_of new b c longer
    line =
        ap (λ states. let whole : Line = record { states = states } in whole)
        (map_same (λ u. version_state past b c w.message_id (version_at w.versions u)) (λ u. version_state new b c w.message_id (version_at longer.versions u)) (λ u. at (version_at w.versions u) (nat_eq (update_of x.serial) u) ∙ ap (version_state new b c w.message_id) (sym (version_more u w.versions x))) (range_with_len 0 16))

-- where one has a blank line and is not wanted, and the book does not have the other
pub same_gone : (past new : Past) (b : ℕ) (c : Cell) (w : Warning) → wants past b w c ≡ false → line_of past b c w ≡ blank_line → SamePart (facts_of past b c (Some w)) (facts_of new b c None)
same_gone past new b c w idle line = same_blank (facts_of past b c (Some w)) (facts_of new b c None) line refl (not_wanted past b c w idle) refl

pub same_come : (past new : Past) (b : ℕ) (c : Cell) (w : Warning) → wants new b w c ≡ false → line_of new b c w ≡ blank_line → SamePart (facts_of past b c None) (facts_of new b c (Some w))
same_come past new b c w idle line = same_blank (facts_of past b c None) (facts_of new b c (Some w)) refl line refl (not_wanted new b c w idle)

-- a cell away from its BSC
pub apart_away : (past : Past) (b : ℕ) (c : Cell) (w : Warning) → is_place (place past c) b ≡ false → (is_place (place past c) b && is_covered past w.areas c) ≡ false
apart_away past b c w h = ap (λ t. t && is_covered past w.areas c) h

-- A cell that is not known at a BSC.

pub found_passes : (p q : Warning → Bool) (ws : List Warning) (w : Warning) → find p ws ≡ Some w → q w ≡ true → list_any q ws ≡ true
found_passes p q [] w h g = cc
found_passes p q (v ∷ ws) w h g = step (found_passes p q ws w) (p v) h
  where
    step : (find p ws ≡ Some w → q w ≡ true → list_any q ws ≡ true) → (t : Bool) → cond t (Some v) (find p ws) ≡ Some w → (q v || list_any q ws) ≡ true
    step rest true e = let same : v ≡ w = cc in or_left (q v) (list_any q ws) (ap q same ∙ g)
    step rest false e = or_right (q v) (list_any q ws) (rest e g)

-- what is so of all is so of the one that is found
pub found_all : (p q : Warning → Bool) (ws : List Warning) (w : Warning) → find p ws ≡ Some w → list_all q ws ≡ true → q w ≡ true
found_all p q [] w h g = cc
found_all p q (v ∷ ws) w h g = step (found_all p q ws w) (and_parts (q v) (list_all q ws) g) (p v) h
  where
    step : (find p ws ≡ Some w → list_all q ws ≡ true → q w ≡ true) → (q v ≡ true) × (list_all q ws ≡ true) → (t : Bool) → cond t (Some v) (find p ws) ≡ Some w → q w ≡ true
    step rest parts true e = let same : v ≡ w = cc in ap q (sym same) ∙ parts.0
    step rest parts false e = rest e parts.1

pub not_placed : (past : Past) (b : ℕ) (c : Cell) → is_known past b c ≡ false → is_place (place past c) b ≡ false
not_placed past b c h = (or_parts (is_place (place past c) b) (is_down_for_some past b c || list_any (has_mark past b c) (warnings_of past)) h).0

pub not_down : (past : Past) (k : Kind) (b : ℕ) (c : Cell) → is_known past b c ≡ false → is_down past k b c ≡ false
not_down past k b c h = step k
  where
    neither : (is_down past kind.Cbs b c ≡ false) × (is_down past kind.Emergency b c ≡ false)
    neither =
        or_parts (is_down past kind.Cbs b c) (is_down past kind.Emergency b c)
        (or_parts (is_down_for_some past b c) (list_any (has_mark past b c) (warnings_of past)) (or_parts (is_place (place past c) b) (is_down_for_some past b c || list_any (has_mark past b c) (warnings_of past)) h).1).0

    step : (j : Kind) → is_down past j b c ≡ false
    step kind.Cbs = neither.0
    step kind.Emergency = neither.1

-- the keys of the versions of each warning in the book are blank there
pub unknown_blank : (past : Past) (b : ℕ) (c : Cell) (n : ℕ) (w : Warning) → is_known past b c ≡ false → warning_of (book_of past) n ≡ Some w → (s : ℕ) → list_any (is_version s) w.versions ≡ true → key_state past b c w.message_id s ≡ blank
unknown_blank past b c n w h found s there = unmarked past b c w.message_id s (contrary (is_marked past b c w.message_id s) (list_any (has_mark past b c) (warnings_of past)) in_book none)
  where
    none : list_any (has_mark past b c) (warnings_of past) ≡ false
    none = (or_parts (is_down_for_some past b c) (list_any (has_mark past b c) (warnings_of past)) (or_parts (is_place (place past c) b) (is_down_for_some past b c || list_any (has_mark past b c) (warnings_of past)) h).1).1

    in_book : is_marked past b c w.message_id s ≡ true → list_any (has_mark past b c) (warnings_of past) ≡ true
    in_book marked =
        found_passes (has_number n) (has_mark past b c) (warnings_of past) w found
        (any_image (is_marked past b c w.message_id) (λ (v : Version). v.serial) w.versions
        ∙ any_implies (is_version s) (λ (v : Version). is_marked past b c w.message_id v.serial) (λ v e. ap (is_marked past b c w.message_id) (eqb-true v.serial s e) ∙ marked) w.versions there)

-- The statement.

-- an entry
abbrev pub entry_of : ℕ → Event → Answer → Entry
entry_of desk e a = record { desk = desk; event = e; answer = a }

-- lines on which the event, answered so after the past, does not bear have the same part after it
abbrev pub Outside : Past → ℕ → Event → Answer → Type 0
Outside past desk e a = (k : LineKey) → bears (reach_of past e a) k ≡ false → SamePart (facts past k) (facts (After (entry_of desk e a) past) k)
