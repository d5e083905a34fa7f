-- For which BSCs an event may make something to do.
use Rattle.std.specs.Prelude.{◌≡◌, ℕ, Bool, true, false, ◌&&◌, ◌||◌, List, [], ◌∷◌, ◌++◌, None, is_some, nat_eq}
use Rattle.cell_register.specs.Register.{is_place}
use Rattle.centre_events.specs.Links.{is_bsc, last_link}
use Rattle.centre_events.specs.Past.{Past, After}
use Rattle.centre_events.specs.Pending.{pending}
use Rattle.centre_events.specs.Places.{place}
use Rattle.centre_events.specs.declared.entry.Entry.{Entry}
use Rattle.centre_events.specs.declared.event.Event.{Event}
use Rattle.centre_events.specs.declared.event.Event.TheVariants as event
use Rattle.coverage_plan.specs.declared.edit.Edit.{Edit}
use Rattle.coverage_plan.specs.declared.edit.Edit.TheVariants as edit
use Rattle.order_maker.specs.Grouping.{first}
use Rattle.centre_past.specs.Legal.{Known, past}
use Rattle.office.specs.Wakes.{due, is_full}
use Rattle.office.specs.Wishes.{with_wish}
use Rattle.office.specs.declared.wish.Wish.{Wish}
use Rattle.office.specs.declared.affected.Affected.{Affected}
use Rattle.office.specs.declared.affected.Affected.TheVariants as affected

-- the BSC is one of those affected
abbrev pub includes : Affected → ℕ → Bool
includes affected.None b = false
includes (affected.These one other) b = is_place one b || is_place other b
includes (affected.Link d) b = nat_eq d b
includes affected.All b = true

-- its latest link may be another or down now
abbrev pub is_link : Affected → Bool
is_link (affected.Link d) = true
is_link other = false

-- the edit may make something to do for the BSC. One of a cell does so at the BSC that gets the cell, and at the one that has it.
-- A BSC that is made or taken out has no link that is up, an area that is made or dropped no warning, and a warning that is
-- forgotten is on air nowhere. Any other edit may change what is planned anywhere
abbrev pub edit_affects : Past → Edit → ℕ → Bool
edit_affects past (edit.AddBsc other) b = false
edit_affects past (edit.RemoveBsc other) b = false
edit_affects past (edit.Forget n) b = false
edit_affects past (edit.AddArea a) b = false
edit_affects past (edit.DropArea a) b = false
edit_affects past (edit.AddCell c other) b = nat_eq other b
edit_affects past (edit.MoveCell c other) b = nat_eq other b || is_place (place past c) b
edit_affects past (edit.RemoveCell c) b = is_place (place past c) b
edit_affects past other b = true

-- the event may make something to do for the BSC. A retry, a report, and a link that comes up or goes do so at their BSC. An order or
-- a query that is sent leaves less to do
abbrev pub affects : Past → Event → ℕ → Bool
affects past (event.Edit e) b = edit_affects past e b
affects past (event.Retry other) b = nat_eq other b
affects past (event.Report other generation message) b = nat_eq other b
affects past (event.LinkUp other) b = nat_eq other b
affects past (event.LinkDown other generation) b = nat_eq other b
affects past (event.Send other generation) b = false
affects past (event.Ask other generation n after) b = false

-- the event brings a link up, or down
abbrev pub changes_link : Event → Bool
changes_link (event.LinkUp other) = true
changes_link (event.LinkDown other generation) = true
changes_link other = false

-- for a BSC that the event doesn't affect, and that is registered after it, an order is pending after the event only where one was
-- before it
abbrev pub LeavesOrders : Past → Entry → Type 0
LeavesOrders past e = (b : ℕ) → affects past e.event b ≡ false → is_bsc (After e past) b ≡ true → is_some (first (pending (After e past) b)) ≡ true → is_some (first (pending past b)) ≡ true

-- the centre with one more entry
abbrev pub with_entry : Known → Entry → Known
with_entry centre e = record centre { journal = centre.journal ++ e ∷ [] }

-- beside any wishes, if the journal isn't full after the entry, nothing is due after it for a BSC that its event doesn't affect and for
-- which nothing was due
abbrev pub LeavesIdle : Known → Entry → Type 0
LeavesIdle centre e = (wishes : List Wish) (b generation : ℕ) → affects (past centre) e.event b ≡ false → due centre wishes b generation ≡ None → is_full (with_entry centre e) ≡ false → due (with_entry centre e) wishes b generation ≡ None

-- something is due for the latest link of the BSC
abbrev pub has_work : Known → List Wish → ℕ → Bool
has_work centre wishes b = is_some (due centre wishes b (last_link (past centre) b))

-- whoever waits for the BSC is woken, over whichever link: all are where the centre is stale or its journal full; else where the BSC is
-- affected, if its latest link may be another or down, or something is due for it
abbrev pub is_woken : Known → List Wish → Bool → Bool → ℕ → Bool
is_woken centre wishes affected link b = centre.stale || (is_full centre || (affected && (link || has_work centre wishes b)))

-- whoever waits for the BSC is woken, where these are affected
abbrev pub wakes : Known → List Wish → Affected → ℕ → Bool
wakes centre wishes a b = is_woken centre wishes (includes a b) (is_link a) b

-- whoever waits for the BSC is woken after the entry, before which the centre was that
abbrev pub wakes_after : Known → Entry → List Wish → ℕ → Bool
wakes_after centre e wishes b = is_woken (with_entry centre e) wishes (affects (past centre) e.event b) (changes_link e.event) b

-- beside any wishes, nothing is due after the entry for a link for which nothing was due before, if those who wait for its BSC aren't
-- woken
abbrev pub MissesNobody : Known → Entry → Type 0
MissesNobody centre e = (wishes : List Wish) (b generation : ℕ) → due centre wishes b generation ≡ None → wakes_after centre e wishes b ≡ false → due (with_entry centre e) wishes b generation ≡ None

-- a wish that is kept makes something due at its BSC alone
abbrev pub IsDueAtItsBsc : Known → List Wish → Wish → Type 0
IsDueAtItsBsc centre wishes w = (b generation : ℕ) → nat_eq w.bsc b ≡ false → due centre (with_wish w wishes) b generation ≡ due centre wishes b generation
