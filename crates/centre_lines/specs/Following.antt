-- How what is kept follows an event: the lines on which it bears, as they stand before it and after.
use Rattle.std.specs.Prelude.{◌≡◌, ℕ, ◌+◌, ◌*◌, ◌≤◌, Bool, true, false, ◌&&◌, ◌||◌, not, nat_eq, List, [], ◌∷◌, Option, Some, None, Ok, length, map, unwrap_or, if◌then◌else◌}
use Rattle.std.specs.List.{flat_map, list_any}
use Rattle.std.specs.Option.{option_copied}
use Rattle.areas.specs.Areas.{areas_of, covers}
use Rattle.areas.specs.declared.area.Area.{Area}
use Rattle.common.specs.Order.{each_once}
use Rattle.common.specs.declared.cell.Cell.{Cell}
use Rattle.kept_tables.specs.Changes.{Change}
use Rattle.kept_tables.specs.Consistent.{Consistent}
use Rattle.kept_tables.specs.Same.{SamePart}
use Rattle.kept_tables.specs.Tables.{Tables, SameTables}
use Rattle.kept_tables.specs.View.{key_at, key_eq, spot_eq}
use Rattle.kept_tables.specs.declared.line_facts.LineFacts.{LineFacts}
use Rattle.kept_tables.specs.declared.spot.Spot.{Spot}
use Rattle.kept_tables.specs.declared.step.Step.{Step}
use Rattle.mirror.specs.Blank.{is_blank, line_eq}
use Rattle.mirror.specs.Held.{is_held_line}
use Rattle.mirror.specs.Table.{Table, line_at, down_at}
use Rattle.mirror.specs.declared.line.Line.{Line}
use Rattle.mirror.specs.declared.line_key.LineKey.{LineKey}
use Rattle.warning_book.specs.Book as book
use Rattle.warning_book.specs.Book.{is_so, kind_of, names, names_one_of, warning_of}
use Rattle.warning_book.specs.declared.kind.Kind.{Kind}
use Rattle.warning_book.specs.declared.warning.Warning.{Warning}
use Rattle.centre_events.specs.Counts.{count_mark}
use Rattle.centre_events.specs.Down.{down_mark, is_down}
use Rattle.centre_past.specs.Facts.{facts}
use Rattle.centre_past.specs.Links.{AreLinksOf, up_before}
use Rattle.centre_events.specs.InFlight.{in_flight}
use Rattle.centre_events.specs.Links.{bsc_of}
use Rattle.centre_past.specs.IsKept.{IsKept}
use Rattle.centre_events.specs.Kept.{IsRegisterOf, AreAreasOf, is_edit}
use Rattle.centre_past.specs.Legal.{Legal}
use Rattle.centre_events.specs.Past.{Past, After, position, past_of}
use Rattle.centre_events.specs.Presence.{effect}
use Rattle.centre_past.specs.Reach.{IsReach, reach_of, size}
use Rattle.centre_past.specs.State.{AreCovering, covered_facts, facts_from}
use Rattle.centre_events.specs.Stepping.{stepped}
use Rattle.centre_events.specs.Warnings.{book_of, kind_in, serials}
use Rattle.centre_events.specs.Verdict.{verdict}
use Rattle.centre_events.specs.declared.answer.Answer.{Answer}
use Rattle.centre_events.specs.declared.answer.Answer.TheVariants.{Listed}
use Rattle.coverage_plan.specs.Plan.{State}
use Rattle.coverage_plan.specs.declared.edit.Edit.{Edit}
use Rattle.coverage_plan.specs.declared.edit.Edit.TheVariants as edit
use Rattle.centre_events.specs.declared.event.Event.{Event}
use Rattle.centre_events.specs.declared.event.Event.TheVariants as event
use Rattle.centre_events.specs.declared.entry.Entry.{Entry}
use Rattle.centre_lines.specs.declared.line_before.LineBefore.{LineBefore}
use Rattle.centre_lines.specs.declared.lines_before.LinesBefore.{LinesBefore}
use Rattle.centre_lines.specs.declared.lines_before.LinesBefore.TheVariants as lines
use Rattle.centre_events.specs.declared.in_flight.InFlight.{InFlight}
use Rattle.centre_events.specs.declared.settings.Settings.{Settings}
use Rattle.centre_events.specs.declared.stepping.Happening.{Happening}
use Rattle.centre_past.specs.declared.kept.Kept.{Kept}
use Rattle.centre_past.specs.Reaching.{is_forget}

-- what is read of a line, from what is kept
abbrev pub facts_in : State → Tables → LineKey → LineFacts
facts_in p t k = facts_from p.register p.areas (down_at t.lines (kind_in (warning_of p.book k.warning)) k.bsc k.cell) k.bsc k.cell (line_at t.lines k.bsc k.cell k.warning) (warning_of p.book k.warning)

-- the line as it stands
abbrev pub line_before : State → Tables → LineKey → LineBefore
line_before p t k = record { key = k; before = facts_in p t k }

-- nothing is kept of the line, and no area of its warning covers the cell, if the book has the warning
abbrev pub is_idle : List Area → Option Warning → Cell → Line → Bool
is_idle l None c line = true
is_idle l (Some w) c line = is_blank line && not (list_any (λ a. covers l a c) w.areas)

-- the edit leaves what each area covers, and which areas a warning has: a line that is idle before it has no part after it
abbrev pub leaves_cover : Edit → Bool
leaves_cover (edit.RemoveBsc b) = true
leaves_cover (edit.AddCell c b) = true
leaves_cover (edit.MoveCell c b) = true
leaves_cover (edit.RemoveCell c) = true
leaves_cover other = false

-- the edit puts a warning into the book
abbrev pub is_issue : Edit → Bool
is_issue (edit.Issue notice areas) = true
is_issue other = false

-- the edit bears on no line, and brings no cell down or up: it changes what an area covers that no warning names, or a cell
-- while there is no warning
abbrev pub bears_on_none : book.State → Edit → Bool
bears_on_none st (edit.Put a s) = not (list_any (names a) st.warnings)
bears_on_none st (edit.Cut a s) = not (list_any (names a) st.warnings)
bears_on_none st (edit.AddCell c b) = nat_eq (length st.warnings) 0
bears_on_none st (edit.MoveCell c b) = nat_eq (length st.warnings) 0
bears_on_none st (edit.RemoveCell c) = nat_eq (length st.warnings) 0
bears_on_none st other = false

-- something is kept of the warning's line in the cell at the BSC, or one of its areas covers the cell
abbrev pub is_near : List Area → book.State → Table → ℕ → Cell → ℕ → Bool
is_near l st lines b c n = not (is_blank (line_at lines b c n)) || is_so n (names_one_of (areas_of l c)) st.warnings

-- the edit leaves the line without a part: a blank one where it forgets a warning, an idle one where it leaves what each
-- area covers
abbrev pub passed_over : Edit → List Area → Option Warning → Cell → Line → Bool
passed_over e l o c line = if is_forget e then is_blank line else (leaves_cover e && is_idle l o c line)

-- the line as it stands, if it is not passed over
abbrev pub before_unless : Edit → State → Tables → LineKey → List LineBefore
before_unless e p t k = if passed_over e p.areas (warning_of p.book k.warning) k.cell (line_at t.lines k.bsc k.cell k.warning) then [] else line_before p t k ∷ []

-- the lines of each of the warnings at the spot
abbrev pub before_at : Edit → State → Tables → List ℕ → Spot → List LineBefore
before_at e p t ns spot = flat_map (λ n. before_unless e p t (key_at spot n)) ns

-- at each of the spots
abbrev pub lines_before : Edit → State → Tables → List Spot → List ℕ → List LineBefore
lines_before e p t spots ns = flat_map (before_at e p t ns) spots

-- what happens: an event with its answer, whether the link of its BSC was up before it, and what was in flight to it
pub record Happens : Type 0 where
  pub event : Event
  pub answer : Answer
  pub up : Bool
  pub flight : Option InFlight

-- what happens, as the code has it
abbrev pub happens : Happening → Happens
happens h = record { event = h.event.now; answer = h.answer.now; up = h.up; flight = option_copied h.flight }

-- the line after what happens, of a warning in the book, if it has it
abbrev pub line_now : Happens → List Warning → ℕ → Cell → Option Warning → Line → Line
line_now h ws b c None line = line
line_now h ws b c (Some w) line = stepped (λ s. effect (kind_of w) b c w.message_id s h.event h.answer h.up h.flight ws) (λ s. count_mark b c w.message_id s h.event h.answer h.flight ws) line (serials w)

-- what is read of it then, from what is kept after the event
abbrev pub facts_then : Happens → State → Tables → LineKey → Line → LineFacts
facts_then h p t k line = facts_from p.register p.areas (down_at t.lines (kind_in (warning_of p.book k.warning)) k.bsc k.cell) k.bsc k.cell (line_now h p.book.warnings k.bsc k.cell (warning_of p.book k.warning) line) (warning_of p.book k.warning)

-- what brings a cell down, or up, leaves it as it was
abbrev pub keeps_down : Option Bool → Bool → Bool
keeps_down None was = true
keeps_down (Some true) was = was
keeps_down (Some false) was = not was

-- what happens leaves a line that stands so, in a cell that is down or not, as it is, and either leaves the cell down, or up,
-- as it was, or the line is idle
abbrev pub stays_so : Happens → List Area → LineKey → Option Warning → Line → Line → Bool → Bool
stays_so h l k o line next down = line_eq next line && (keeps_down (down_mark (kind_in o) k.bsc k.cell h.event h.answer) down || is_idle l o k.cell line)

-- so the line that is kept
abbrev pub stays : Happens → List Area → book.State → Tables → LineKey → Bool
stays h l st t k = stays_so h l k (warning_of st k.warning) (line_at t.lines k.bsc k.cell k.warning) (line_now h st.warnings k.bsc k.cell (warning_of st k.warning) (line_at t.lines k.bsc k.cell k.warning)) (down_at t.lines (kind_in (warning_of st k.warning)) k.bsc k.cell)

-- an indication or a Retry, which leaves a blank line blank
abbrev pub leaves_blank : Event → Answer → Bool
leaves_blank (event.Retry b) answer = true
leaves_blank (event.Report b generation message) (Listed cells) = true
leaves_blank e answer = false

-- an indication may change a line that isn't blank, and a Retry one that is held
abbrev pub may_change : Event → Line → Bool
may_change (event.Retry b) line = is_held_line line
may_change other line = not (is_blank line)

-- an edit that leaves every line as it is: each but the end of a BSC, an Update and a Forget
abbrev pub leaves_lines : Event → Bool
leaves_lines (event.Edit (edit.RemoveBsc b)) = false
leaves_lines (event.Edit (edit.Update n content)) = false
leaves_lines (event.Edit (edit.Forget n)) = false
leaves_lines (event.Edit e) = true
leaves_lines other = false

-- each line that isn't blank is of one of these warnings
abbrev pub LinesAreOf : List ℕ → Tables → Type 0
LinesAreOf ns t = (b : ℕ) (c : Cell) (n : ℕ) → is_blank (line_at t.lines b c n) ≡ false → list_any (nat_eq n) ns ≡ true

-- each line that isn't blank is of a warning in the book
abbrev pub AreInBook : book.State → Tables → Type 0
AreInBook st t = LinesAreOf (book.numbers st.warnings) t

-- the warnings on whose lines what happens bears, from those that were found: all in the book, where it is an indication or
-- a Retry
abbrev pub bearing : Event → Answer → book.State → List ℕ → List ℕ
bearing e a st ns = if leaves_blank e a then book.numbers st.warnings else ns

-- the step from how a line of a warning of the kind was read to the line that it becomes
abbrev pub step_to : Happens → Kind → LineKey → LineFacts → Line → Step
step_to h kind k before next = record { key = k; before = before; line = next; down = unwrap_or (down_mark kind k.bsc k.cell h.event h.answer) before.down }

-- the change of the line
abbrev pub change_of : Happens → State → Tables → LineBefore → Change
change_of h p t x = record { key = x.key; before = x.before; after = facts_then h p t x.key x.before.line }

-- the change of the line where the areas that cover its cell are those that did
abbrev pub covered_change : Happens → State → Tables → LineBefore → Change
covered_change h p t x = record { key = x.key; before = x.before; after = covered_facts p.register (down_at t.lines (kind_in (warning_of p.book x.key.warning)) x.key.bsc x.key.cell) x.key.bsc x.key.cell (line_now h p.book.warnings x.key.bsc x.key.cell (warning_of p.book x.key.warning) x.before.line) x.before.areas (warning_of p.book x.key.warning) }

-- the edit leaves what each area covers, and which areas each warning has that it leaves in the book
abbrev pub leaves_areas : Edit → Bool
leaves_areas (edit.RemoveBsc b) = true
leaves_areas (edit.AddCell c b) = true
leaves_areas (edit.MoveCell c b) = true
leaves_areas (edit.RemoveCell c) = true
leaves_areas (edit.Update n content) = true
leaves_areas (edit.Stop n) = true
leaves_areas other = false

-- the event is such an edit
abbrev pub leaves_areas_then : Event → Bool
leaves_areas_then (event.Edit e) = leaves_areas e
leaves_areas_then other = false

-- of each line the areas were read that cover its cell
abbrev pub AreCovered : List Area → book.State → List LineBefore → Type 0
AreCovered l st [] = Unit {0}
AreCovered l st (x ∷ xs) = AreCovering l x.key.cell x.before.areas (warning_of st x.key.warning) × AreCovered l st xs

-- both have the same lines, the same actions pending, the same numbers and the same meter: nothing but the cells that are
-- down differs
pub record SameLines (t u : Tables) : Type 0 where
  pub lines : u.lines.lines ≡ t.lines.lines
  pub same : SameTables t u
  pub meter : u.lines.meter ≡ t.lines.meter

-- whether the cell is down at the BSC for warnings of the kind after the event with that answer, where it bears on these
-- spots
abbrev pub down_after : Event → Answer → List Spot → Kind → ℕ → Cell → Bool → Bool
down_after e a spots k b c was = if list_any (spot_eq (record { bsc = b; cell = c })) spots then unwrap_or (down_mark k b c e a) was else was

-- the event leaves each cell away from the spots down, or up, as it was
abbrev pub LeavesDown : Past → Event → Answer → List Spot → Type 0
LeavesDown past e a spots = (k : Kind) (b : ℕ) (c : Cell) → list_any (spot_eq (record { bsc = b; cell = c })) spots ≡ false → is_down past k b c ≡ unwrap_or (down_mark k b c e a) (is_down past k b c)

-- what is in flight to the BSC, if there is one
abbrev pub flight_to : Past → Option ℕ → Option InFlight
flight_to past None = None
flight_to past (Some b) = in_flight past b

-- what is in flight to the BSC of an event that is no edit, before it
abbrev pub flight_before : Past → Event → Option InFlight
flight_before past e = flight_to past (bsc_of e)

-- the entry of what happens
abbrev pub entry_of : ℕ → Happens → Entry
entry_of desk h = record { desk = desk; event = h.event; answer = h.answer }

-- the keys of each of the warnings at each of the spots
abbrev pub keys_of : List Spot → List ℕ → List LineKey
keys_of ps ns = flat_map (λ p. map (key_at p) ns) ps

-- the line as the past says
abbrev pub before_past : Past → LineKey → LineBefore
before_past past k = record { key = k; before = facts past k }

-- the same of an edit, with the lines that were read before it
pub record Bears (p : State) (t : Tables) (h : Happens) (spots : List Spot) (earlier : List LineBefore) : Type 0 where
  pub settings : Settings
  pub past : Past
  pub desk : ℕ
  pub legal : Legal settings past
  pub accepted : verdict settings past h.event ≡ Ok h.answer
  pub registered : IsRegisterOf (After (entry_of desk h) past) p.register
  pub selected : AreAreasOf (After (entry_of desk h) past) p.areas
  pub booked : p.book ≡ book_of (After (entry_of desk h) past)
  pub up : h.up ≡ up_before past h.event
  pub flight : h.flight ≡ flight_before past h.event
  pub downs : (k : Kind) (b : ℕ) (c : Cell) → down_at t.lines k b c ≡ is_down past k b c
  pub tables : Consistent t (facts past)
  pub away : LeavesDown past h.event h.answer spots
  pub keys : List LineKey
  pub lines : earlier ≡ map (before_past past) keys
  pub once : each_once key_eq keys ≡ true
  pub rest : (k : LineKey) → list_any (key_eq k) keys ≡ false → SamePart (facts past k) (facts (After (entry_of desk h) past) k)

-- the lines that an accepted edit may change were read before it; each other line has the same part after it, and each cell
-- away from the spots stays down, or up
pub record WasRead (past : Past) (e : Event) (a : Answer) (spots : List Spot) (earlier : List LineBefore) : Type 0 where
  pub away : (settings : Settings) → Legal settings past → LeavesDown past e a spots
  pub keys : List LineKey
  pub lines : earlier ≡ map (before_past past) keys
  pub once : each_once key_eq keys ≡ true
  pub few : length keys ≤ size (reach_of past e a)
  pub rest : (settings : Settings) (desk : ℕ) → Legal settings past → verdict settings past e ≡ Ok a → (k : LineKey) → list_any (key_eq k) keys ≡ false → SamePart (facts past k) (facts (After (record { desk = desk; event = e; answer = a }) past) k)

-- an accepted event that is no edit bears on the lines of these warnings at these spots; an indication and a Retry bear on
-- those of all warnings
pub record IsUnread (past : Past) (e : Event) (a : Answer) (spots : List Spot) (ns : List ℕ) : Type 0 where
  pub other : is_edit e ≡ false
  pub reach : IsReach (record { spots = spots; warnings = bearing e a (book_of past) ns }) (reach_of past e a)

-- what is known of the lines on which an accepted event bears, before it
abbrev pub WasReached : Past → Event → Answer → List Spot → LinesBefore → Type 0
WasReached past e a spots (lines.Read earlier) = WasRead past e a spots earlier.items
WasReached past e a spots (lines.Unread ns) = IsUnread past e a spots ns.items

-- how many lines are read or set at most to follow an event
abbrev pub most_accesses : Event → Answer → book.State → List Spot → LinesBefore → ℕ
most_accesses e a st spots (lines.Read earlier) = length earlier.items
most_accesses e a st spots (lines.Unread ns) = 3 * (length spots * length (bearing e a st ns.items))

-- what is known where an accepted event has been made, but for the lines: the past before it, that the plan follows it, and
-- of that past what else is said
pub record IsMade (p : State) (t : Tables) (h : Happens) (says : Past → Type 0) : Type 0 where
  pub settings : Settings
  pub past : Past
  pub desk : ℕ
  pub legal : Legal settings past
  pub accepted : verdict settings past h.event ≡ Ok h.answer
  pub registered : IsRegisterOf (After (entry_of desk h) past) p.register
  pub selected : AreAreasOf (After (entry_of desk h) past) p.areas
  pub booked : p.book ≡ book_of (After (entry_of desk h) past)
  pub up : h.up ≡ up_before past h.event
  pub flight : h.flight ≡ flight_before past h.event
  pub downs : (k : Kind) (b : ℕ) (c : Cell) → down_at t.lines k b c ≡ is_down past k b c
  pub tables : Consistent t (facts past)
  pub said : says past

-- what is known of the lines on which it bears is said
abbrev pub Made : State → Tables → Happens → List Spot → LinesBefore → Type 0
Made p t h spots earlier = IsMade p t h (λ past. WasReached past h.event h.answer spots earlier)

-- an edit, whose lines were read before it
abbrev pub MadeEdit : State → Tables → Happens → List Spot → List LineBefore → Type 0
MadeEdit p t h spots earlier = IsMade p t h (λ past. WasRead past h.event h.answer spots earlier)

-- another event, whose lines are read as they are changed
abbrev pub MadeOther : State → Tables → Happens → List Spot → List ℕ → Type 0
MadeOther p t h spots ns = IsMade p t h (λ past. IsUnread past h.event h.answer spots ns)

-- what is known of what is kept where an accepted event has been made, but for the lines and the links
pub record Finishes (s : Kept) (e : Event) (a : Answer) (place : ℕ) (up : Bool) (spots : List Spot) (earlier : LinesBefore) : Type 0 where
  pub settings : Settings
  pub past : Past
  pub desk : ℕ
  pub legal : Legal settings past
  pub accepted : verdict settings past e ≡ Ok a
  pub registered : IsRegisterOf (After (record { desk = desk; event = e; answer = a }) past) s.plan.register
  pub selected : AreAreasOf (After (record { desk = desk; event = e; answer = a }) past) s.plan.areas
  pub booked : s.plan.book ≡ book_of (After (record { desk = desk; event = e; answer = a }) past)
  pub linked : AreLinksOf past s.links
  pub is_up : up ≡ up_before past e
  pub is_place : place ≡ position past + 1
  pub downs : (k : Kind) (b : ℕ) (c : Cell) → down_at s.tables.lines k b c ≡ is_down past k b c
  pub tables : Consistent s.tables (facts past)
  pub reached : WasReached past e a spots earlier

-- what is known where an entry is to be followed: the past before it, which it is legal after, and that what is kept is
-- what that says
pub record Follows (s : Kept) (e : Entry) (place : ℕ) : Type 0 where
  pub settings : Settings
  pub past : Past
  pub legal : Legal settings past
  pub accepted : verdict settings past e.event ≡ Ok e.answer
  pub kept : IsKept past s
  pub is_place : place ≡ position past + 1

-- the journal is legal, in a centre that is set up so
pub record IsLegal (journal : List Entry) : Type 0 where
  pub settings : Settings
  pub legal : Legal settings (past_of journal)
