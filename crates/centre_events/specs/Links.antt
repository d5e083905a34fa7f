-- BSCs, and whether their links are up.
use Rattle.std.specs.Prelude.{ℕ, ◌+◌, Bool, true, false, List, Option, Some, None, nat_eq, if◌then◌else◌}
use Rattle.common.specs.Sums.{count_of}
use Rattle.centre_events.specs.Past.{Past, latest, by_edit, named, position}
use Rattle.coverage_plan.specs.declared.edit.Edit.{Edit}
use Rattle.coverage_plan.specs.declared.edit.Edit.TheVariants.{AddBsc, RemoveBsc}
use Rattle.centre_events.specs.declared.event.Event.{Event}
use Rattle.centre_events.specs.declared.event.Event.TheVariants as event

-- whether the edit registers the BSC, or takes it out
abbrev pub bsc_mark : ℕ → Edit → Option Bool
bsc_mark b (AddBsc other) = if nat_eq other b then Some true else None
bsc_mark b (RemoveBsc other) = if nat_eq other b then Some false else None
bsc_mark b other = None

-- the BSC is registered
abbrev pub is_bsc : Past → ℕ → Bool
is_bsc past b = latest (λ e before. by_edit (bsc_mark b) e.event) (λ base. base.is_bsc b) past

-- the BSC that the edit registers
abbrev pub added_bsc : Edit → Option ℕ
added_bsc (AddBsc b) = Some b
added_bsc other = None

-- every BSC that was ever registered, each once
abbrev pub bscs : Past → List ℕ
bscs past = named nat_eq added_bsc (λ base. base.bscs) past

-- how many BSCs are registered
abbrev pub bsc_count : Past → ℕ
bsc_count past = count_of (is_bsc past) (bscs past)

-- a BSC is registered with its link down
abbrev pub first_down : ℕ → Edit → Option Bool
first_down b (AddBsc other) = if nat_eq other b then Some false else None
first_down b other = None

-- whether the event brings the link up, or down
abbrev pub up_mark : ℕ → Event → Option Bool
up_mark b (event.Edit edit) = first_down b edit
up_mark b (event.LinkUp other) = if nat_eq other b then Some true else None
up_mark b (event.LinkDown other generation) = if nat_eq other b then Some false else None
up_mark b other = None

-- the link of the BSC is up
abbrev pub is_up : Past → ℕ → Bool
is_up past b = latest (λ e before. up_mark b e.event) (λ base. base.is_up b) past

-- a BSC is registered with no link so far
abbrev pub first_generation : ℕ → Edit → Option ℕ
first_generation b (AddBsc other) = if nat_eq other b then Some 0 else None
first_generation b other = None

-- a link's generation is the number of the entry that brought it up; 0 where there was none since the BSC was
-- registered
abbrev pub generation_mark : ℕ → Event → ℕ → Option ℕ
generation_mark b (event.Edit edit) place = first_generation b edit
generation_mark b (event.LinkUp other) place = if nat_eq other b then Some place else None
generation_mark b other place = None

-- the generation of the latest link of the BSC
abbrev pub last_link : Past → ℕ → ℕ
last_link past b = latest (λ e before. generation_mark b e.event (position before + 1)) (λ base. base.last_link b) past

-- the BSC of an event; none where it is an edit
abbrev pub bsc_of : Event → Option ℕ
bsc_of (event.Edit e) = None
bsc_of (event.Retry b) = Some b
bsc_of (event.LinkUp b) = Some b
bsc_of (event.LinkDown b generation) = Some b
bsc_of (event.Send b generation) = Some b
bsc_of (event.Ask b generation n after) = Some b
bsc_of (event.Report b generation message) = Some b
