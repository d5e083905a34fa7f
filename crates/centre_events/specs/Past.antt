-- A past is a base and the entries after it, the newest first. What a past says of a thing is what the last entry that
-- decides it says, or else its base; a list of things has each of them once.
use Rattle.std.specs.Prelude.{◌≡◌, ℕ, ◌+◌, Bool, List, [], ◌∷◌, Option, Some, None, unwrap_or, reverse, if◌then◌else◌}
use Rattle.std.specs.List.{list_any}
use Rattle.centre_events.specs.Base.{Base, empty_base}
use Rattle.coverage_plan.specs.declared.edit.Edit.{Edit}
use Rattle.centre_events.specs.declared.entry.Entry.{Entry}
use Rattle.centre_events.specs.declared.event.Event.{Event}
use Rattle.centre_events.specs.declared.event.Event.TheVariants as event

-- a base, or an entry after a past
pub data Past : Type 0 where
  From : Base → Past
  After : Entry → Past → Past

-- the entries, the newest first, after the base
abbrev pub since : Base → List Entry → Past
since base [] = From base
since base (e ∷ before) = After e (since base before)

-- the past of a journal, its oldest entry first, where nothing was folded
abbrev pub past_of : List Entry → Past
past_of journal = since empty_base (reverse journal)

-- nothing was folded into the base of the past
abbrev pub IsUnfolded : Past → Type 0
IsUnfolded (From base) = base ≡ empty_base
IsUnfolded (After e before) = IsUnfolded before

-- how many entries stand after the base
abbrev pub entry_count : Past → ℕ
entry_count (From base) = 0
entry_count (After e before) = entry_count before + 1

-- the number of the last entry, those that were folded counted
abbrev pub position : Past → ℕ
position (From base) = base.folded
position (After e before) = position before + 1

-- what the last entry that decides says, given the past before it; what the base says where none decides
abbrev pub latest : {A : Type 0} → (Entry → Past → Option A) → (Base → A) → Past → A
latest f first (From base) = first base
latest f first (After e before) = unwrap_or (f e before) (latest f first before)

-- what an edit decides; no other event decides it
abbrev pub by_edit : {A : Type 0} → (Edit → Option A) → Event → Option A
by_edit f (event.Edit edit) = f edit
by_edit f other = None

-- one more thing, unless it is there already
abbrev pub with_new : {A : Type 0} → (A → A → Bool) → Option A → List A → List A
with_new same None xs = xs
with_new same (Some x) xs = if list_any (same x) xs then xs else x ∷ xs

-- what the edits name, each once, and what the base has of them
abbrev pub named : {A : Type 0} → (A → A → Bool) → (Edit → Option A) → (Base → List A) → Past → List A
named same f first (From base) = first base
named same f first (After e before) = with_new same (by_edit f e.event) (named same f first before)
