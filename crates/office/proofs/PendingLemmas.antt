-- Whether an order is pending for a BSC is told by its lines, and a line on which an event doesn't bear has as much to be ordered after
-- it as before.
use Rattle.std.proofs.Common.{◌≡◌, ℕ, Bool, true, false, ◌&&◌, ◌||◌, nat_eq, List, [], ◌∷◌, Option, Some, None, Ok, map, unwrap_or, cond, if◌then◌else◌, refl, sym, ap, ◌∙◌, subst, arith}
use Rattle.std.proofs.lemmas.Bool.{or_right}
use Rattle.std.proofs.lemmas.Bool.Decides.{nat_tests}
use Rattle.std.specs.Prelude.{find}
use Rattle.std.specs.List.{list_any}
use Rattle.std.specs.Option.{is_some}
use Rattle.cell_register.specs.Register.{is_place}
use Rattle.common.specs.Cell.{cell_eq}
use Rattle.common.specs.Equality.{cell_decides}
use Rattle.common.specs.SortingLaws.{any_sorted}
use Rattle.common.specs.declared.cell.Cell.{Cell}
use Rattle.coverage_plan.specs.declared.edit.Edit.{Edit}
use Rattle.coverage_plan.specs.declared.edit.Edit.TheVariants as edit
use Rattle.kept_tables.specs.Facts.{deeds_of}
use Rattle.kept_tables.specs.Same.{SamePart}
use Rattle.kept_tables.specs.View.{key_of, spot_eq}
use Rattle.mirror.specs.declared.line_key.LineKey.{LineKey}
use Rattle.order_maker.specs.Actions.{deeds, in_cell}
use Rattle.order_maker.specs.Grouping.{action_lt, alone, first, fits, grouped, in_order, joined}
use Rattle.order_maker.specs.declared.action.Action.{Action}
use Rattle.order_maker.specs.declared.deed.Deed.{Deed}
use Rattle.order_maker.specs.declared.order.Order.{Order}
use Rattle.warning_book.specs.Book.{has_number, numbers, warning_of}
use Rattle.warning_book.specs.Laws.{found_without}
use Rattle.warning_book.specs.declared.warning.Warning.{Warning}
use Rattle.centre_events.specs.Effects.{is_among}
use Rattle.centre_events.specs.InFlight.{cells_of, in_flight}
use Rattle.centre_events.specs.Lines.{seen}
use Rattle.centre_events.specs.Links.{is_bsc}
use Rattle.centre_events.specs.Past.{Past, After}
use Rattle.centre_events.specs.Pending.{actions, actions_in, all_actions, pending}
use Rattle.centre_events.specs.Places.{cells, place}
use Rattle.centre_events.specs.Verdict.{verdict}
use Rattle.centre_events.specs.Warnings.{book_of, warnings_of}
use Rattle.centre_events.specs.declared.answer.Answer.{Answer}
use Rattle.centre_events.specs.declared.answer.Answer.TheVariants as answer
use Rattle.centre_events.specs.declared.entry.Entry.{Entry}
use Rattle.centre_events.specs.declared.event.Event.{Event}
use Rattle.centre_events.specs.declared.event.Event.TheVariants as event
use Rattle.centre_events.specs.declared.in_flight.InFlight.{InFlight}
use Rattle.centre_events.specs.declared.settings.Settings.{Settings}
use Rattle.centre_past.specs.Facts.{facts, facts_of}
use Rattle.centre_past.specs.Legal.{Legal}
use Rattle.centre_past.specs.Reach.{at_bsc, bears, edit_reach, flight_reach, reach_of, report_reach, spot}
use Rattle.centre_past.proofs.AnyLemmas.{and_none, any_flat, any_gives, any_same}
use Rattle.centre_past.proofs.BeginningLemmas.{at_cell, cell_outside, no_deeds}
use Rattle.centre_past.proofs.LineLemmas.{found_passes}
use Rattle.centre_past.proofs.NumberLemmas.{any_by_number, each_found, passes}
use Rattle.centre_past.proofs.WarningLemmas.{legal_sound}
use Rattle.centre_answers.proofs.SeenLemmas.{deeds_seen}
use Rattle.centre_lines.proofs.OutsideLemmas.{outside}
use Rattle.office.specs.Affecting.{LeavesOrders, affects, edit_affects}

-- there is something in the list
abbrev some_in : {A : Type 0} → List A → Bool
some_in {A} xs = list_any (λ (x : A). true) xs

-- An order is pending where something is to be ordered of a warning in a cell.

joined_some : (a : Action) (orders : List Order) → is_some (first (joined a orders)) ≡ true
joined_some a [] = refl
joined_some a (order ∷ orders) = step (fits a order)
  where
    step : (t : Bool) → is_some (first (if t then record order { cells = a.cell ∷ order.cells } ∷ orders else alone a ∷ order ∷ orders)) ≡ true
    step true = refl
    step false = refl

grouped_some : (xs : List Action) → is_some (first (grouped xs)) ≡ some_in xs
grouped_some [] = refl
grouped_some (x ∷ xs) = joined_some x (grouped xs)

map_some : {A B : Type 0} (f : A → B) (xs : List A) → some_in (map f xs) ≡ some_in xs
map_some f [] = refl
map_some f (x ∷ xs) = refl

-- something is to be ordered of the warning in the cell
abbrev has_deeds : Past → ℕ → Warning → Cell → Bool
has_deeds past b w c = some_in (deeds (seen past b w c))

order_is : (past : Past) (b : ℕ) → is_some (first (pending past b)) ≡ list_any (λ w. list_any (has_deeds past b w) (cells past)) (warnings_of past)
order_is past b =
    grouped_some (in_order (all_actions past b))
    ∙ any_sorted action_lt (λ (a : Action). true) (all_actions past b)
    ∙ any_flat (λ (a : Action). true) (actions_in past b (cells past)) (warnings_of past)
    ∙ any_same (λ w. some_in (actions_in past b (cells past) w)) (λ w. list_any (has_deeds past b w) (cells past))
    (λ w. any_flat (λ (a : Action). true) (actions past b w) (cells past) ∙ any_same (λ c. some_in (actions past b w c)) (has_deeds past b w) (λ c. map_some (in_cell c) (deeds (seen past b w c))) (cells past))
    (warnings_of past)

-- nothing is to be ordered in a cell that was never registered
cell_there : (settings : Settings) (past : Past) → Legal settings past → (b : ℕ) (w : Warning) (c : Cell) → has_deeds past b w c ≡ true → is_among c (cells past) ≡ true
cell_there settings past legal b w c has = step (is_among c (cells past)) refl
  where
    step : (t : Bool) → is_among c (cells past) ≡ t → t ≡ true
    step true e = refl
    step false e =
        let none : deeds (seen past b w c) ≡ [] = no_deeds past b w c (at_cell past b w c (cell_outside settings past legal c e)) in
        sym (ap (λ (ds : List Deed). some_in ds) none) ∙ has

among_gives : (p : Cell → Bool) (c : Cell) (cs : List Cell) → is_among c cs ≡ true → p c ≡ true → list_any p cs ≡ true
among_gives p c [] there has = cc
among_gives p c (d ∷ ds) there has = step (λ h. among_gives p c ds h has) (cell_eq c d) refl there
  where
    step : (is_among c ds ≡ true → list_any p ds ≡ true) → (t : Bool) → cell_eq c d ≡ t → (t || is_among c ds) ≡ true → (p d || list_any p ds) ≡ true
    step more true e h = ap (λ t. t || list_any p ds) (ap p (sym ((cell_decides c d).0 e)) ∙ has)
    step more false e h = or_right (p d) (list_any p ds) (more h)

-- By lines.

-- where an order is pending, something is to be ordered on a line
line_of_order : (settings : Settings) (past : Past) → Legal settings past → (b : ℕ) (goal : Bool) → ((k : LineKey) → k.bsc ≡ b → some_in (deeds_of (facts past k)) ≡ true → goal ≡ true) → is_some (first (pending past b)) ≡ true → goal ≡ true
line_of_order settings past legal b goal tells has =
    any_gives goal (λ n. passes (λ w. list_any (has_deeds past b w) (cells past)) (find (has_number n) (warnings_of past))) (λ n. step n (warning_of (book_of past) n) refl) (numbers (warnings_of past))
    (sym (any_by_number (λ w. list_any (has_deeds past b w) (cells past)) (warnings_of past) (warnings_of past) (each_found (warnings_of past) (legal_sound settings past legal).ordered)) ∙ sym (order_is past b) ∙ has)
  where
    step : (n : ℕ) (o : Option Warning) → warning_of (book_of past) n ≡ o → passes (λ w. list_any (has_deeds past b w) (cells past)) o ≡ true → goal ≡ true
    step n None e g = cc
    step n (Some w) e g = any_gives goal (has_deeds past b w) (λ c h. tells (key_of b c n) refl (ap (λ (ds : List Deed). some_in ds) (deeds_seen settings past legal (key_of b c n) w e) ∙ h)) (cells past) g

-- and the other way round
order_of_line : (settings : Settings) (past : Past) → Legal settings past → (k : LineKey) → some_in (deeds_of (facts past k)) ≡ true → is_some (first (pending past k.bsc)) ≡ true
order_of_line settings past legal k has = order_is past k.bsc ∙ step (warning_of (book_of past) k.warning) refl
  where
    step : (o : Option Warning) → warning_of (book_of past) k.warning ≡ o → list_any (λ w. list_any (has_deeds past k.bsc w) (cells past)) (warnings_of past) ≡ true
    step None e =
        let no : false ≡ true = sym (ap (λ o. some_in (deeds_of (facts_of past k.bsc k.cell o))) e) ∙ has in cc
    step (Some w) e =
        let here : has_deeds past k.bsc w k.cell ≡ true = sym (ap (λ (ds : List Deed). some_in ds) (deeds_seen settings past legal k w e)) ∙ has in
        found_passes (has_number k.warning) (λ w. list_any (has_deeds past k.bsc w) (cells past)) (warnings_of past) w e (among_gives (has_deeds past k.bsc w) k.cell (cells past) (cell_there settings past legal k.bsc w k.cell here) here)

-- On which lines an event bears.

-- the BSC or the warning of the line is taken out
abbrev edit_ends : Edit → LineKey → Bool
edit_ends (edit.RemoveBsc d) k = nat_eq d k.bsc
edit_ends (edit.Forget n) k = nat_eq n k.warning
edit_ends other k = false

abbrev ends : Event → LineKey → Bool
ends (event.Edit e) k = edit_ends e k
ends other k = false

-- cells at another BSC
not_at : (d : ℕ) (k : LineKey) (cs : List Cell) → nat_eq d k.bsc ≡ false → list_any (spot_eq (spot k.bsc k.cell)) (map (spot d) cs) ≡ false
not_at d k [] other = refl
not_at d k (c ∷ cs) other =
    let turned : nat_eq k.bsc d ≡ false = grind (arith, nat_tests, other) in
    ap (λ t. (t && cell_eq k.cell c) || list_any (spot_eq (spot k.bsc k.cell)) (map (spot d) cs)) turned ∙ not_at d k cs other

-- where the cell is, or would be
not_there : (o : Option ℕ) (c : Cell) (k : LineKey) → is_place o k.bsc ≡ false → list_any (spot_eq (spot k.bsc k.cell)) (at_bsc c o) ≡ false
not_there None c k other = refl
not_there (Some d) c k other = not_at d k (c ∷ []) other

neither : (s t : Bool) → (s || t) ≡ false → (s ≡ false) × (t ≡ false)
neither true t h = cc
neither false t h = (refl, h)

both_false : (s t : Bool) → s ≡ false → t ≡ false → (s || t) ≡ false
both_false s t e f = ap (λ u. u || t) e ∙ f

beside_edit : (past : Past) (e : Edit) (k : LineKey) → edit_affects past e k.bsc ≡ false → edit_ends e k ≡ false → bears (edit_reach past e) k ≡ false
beside_edit past (edit.AddBsc d) k other stays = refl
beside_edit past (edit.RemoveBsc d) k other stays = ap (λ t. t && list_any (nat_eq k.warning) (edit_reach past (edit.RemoveBsc d)).warnings) (not_at d k _ stays)
beside_edit past (edit.AddCell c d) k other stays = ap (λ t. t && list_any (nat_eq k.warning) (edit_reach past (edit.AddCell c d)).warnings) (not_at d k (c ∷ []) other)
beside_edit past (edit.MoveCell c d) k other stays =
    let parts = neither (nat_eq d k.bsc) (is_place (place past c) k.bsc) other in
    let here : ((nat_eq k.bsc d && cell_eq k.cell c) || false) ≡ false = not_at d k (c ∷ []) parts.0 in
    let here_alone : (nat_eq k.bsc d && cell_eq k.cell c) ≡ false = (neither (nat_eq k.bsc d && cell_eq k.cell c) false here).0 in
    ap (λ t. t && list_any (nat_eq k.warning) (edit_reach past (edit.MoveCell c d)).warnings) (both_false (nat_eq k.bsc d && cell_eq k.cell c) (list_any (spot_eq (spot k.bsc k.cell)) (at_bsc c (place past c))) here_alone (not_there (place past c) c k parts.1))
beside_edit past (edit.RemoveCell c) k other stays = ap (λ t. t && list_any (nat_eq k.warning) (edit_reach past (edit.RemoveCell c)).warnings) (not_there (place past c) c k other)
beside_edit past (edit.AddArea x) k other stays = refl
beside_edit past (edit.DropArea x) k other stays = refl
beside_edit past (edit.Put x s) k other stays = cc
beside_edit past (edit.Cut x s) k other stays = cc
beside_edit past (edit.Issue notice areas) k other stays = cc
beside_edit past (edit.Update n content) k other stays = cc
beside_edit past (edit.Widen n x) k other stays = cc
beside_edit past (edit.Narrow n x) k other stays = cc
beside_edit past (edit.Stop n) k other stays = cc
beside_edit past (edit.Forget n) k other stays =
    let turned : nat_eq k.warning n ≡ false = grind (arith, nat_tests, stays) in
    ap (λ t. list_any (spot_eq (spot k.bsc k.cell)) (edit_reach past (edit.Forget n)).spots && (t || false)) turned ∙ and_none (list_any (spot_eq (spot k.bsc k.cell)) (edit_reach past (edit.Forget n)).spots)

beside_flight : (past : Past) (d : ℕ) (o : Option InFlight) (k : LineKey) → nat_eq d k.bsc ≡ false → bears (flight_reach past d o) k ≡ false
beside_flight past d None k other = refl
beside_flight past d (Some f) k other = ap (λ t. t && list_any (nat_eq k.warning) (flight_reach past d (Some f)).warnings) (not_at d k (cells_of f) other)

beside_report : (past : Past) (d : ℕ) (a : Answer) (k : LineKey) → nat_eq d k.bsc ≡ false → bears (report_reach past d a) k ≡ false
beside_report past d answer.Done k other = refl
beside_report past d (answer.Issued n s) k other = refl
beside_report past d (answer.Updated s) k other = refl
beside_report past d (answer.Link n) k other = refl
beside_report past d (answer.Sent order message) k other = refl
beside_report past d (answer.Asked m s cs message) k other = refl
beside_report past d (answer.Replied replies) k other = beside_flight past d (in_flight past d) k other
beside_report past d (answer.Listed listed) k other = ap (λ t. t && list_any (nat_eq k.warning) (report_reach past d (answer.Listed listed)).warnings) (not_at d k listed other)

beside : (past : Past) (e : Event) (a : Answer) (k : LineKey) → affects past e k.bsc ≡ false → ends e k ≡ false → bears (reach_of past e a) k ≡ false
beside past (event.Edit e) a k other stays = beside_edit past e k other stays
beside past (event.Retry d) a k other stays = ap (λ t. t && list_any (nat_eq k.warning) (reach_of past (event.Retry d) a).warnings) (not_at d k _ other)
beside past (event.LinkUp d) a k other stays = beside_flight past d (in_flight past d) k other
beside past (event.LinkDown d generation) a k other stays = beside_flight past d (in_flight past d) k other
beside past (event.Send d generation) a k other stays = refl
beside past (event.Ask d generation n after) a k other stays = refl
beside past (event.Report d generation m) a k other stays = beside_report past d a k other

-- What an event ends has nothing to be ordered.

forgotten : (past : Past) (desk n : ℕ) (a : Answer) (k : LineKey) → nat_eq n k.warning ≡ true → some_in (deeds_of (facts (After (record { desk = desk; event = event.Edit (edit.Forget n); answer = a }) past) k)) ≡ false
forgotten past desk n a k is =
    let gone : warning_of (book_of (After (record { desk = desk; event = event.Edit (edit.Forget n); answer = a }) past)) k.warning ≡ None = found_without n k.warning (warnings_of past) ∙ ap (λ t. cond t None (find (has_number k.warning) (warnings_of past))) is in
    ap (λ o. some_in (deeds_of (facts_of (After (record { desk = desk; event = event.Edit (edit.Forget n); answer = a }) past) k.bsc k.cell o))) gone

ended_edit : (past : Past) (desk : ℕ) (e : Edit) (a : Answer) (k : LineKey) → edit_ends e k ≡ true → is_bsc (After (record { desk = desk; event = event.Edit e; answer = a }) past) k.bsc ≡ true → some_in (deeds_of (facts (After (record { desk = desk; event = event.Edit e; answer = a }) past) k)) ≡ true → false ≡ true
ended_edit past desk (edit.AddBsc d) a k is there has = is
ended_edit past desk (edit.RemoveBsc d) a k is there has = sym (ap (λ t. unwrap_or (if t then Some false else None) (is_bsc past k.bsc)) is) ∙ there
ended_edit past desk (edit.AddCell c d) a k is there has = is
ended_edit past desk (edit.MoveCell c d) a k is there has = is
ended_edit past desk (edit.RemoveCell c) a k is there has = is
ended_edit past desk (edit.AddArea x) a k is there has = is
ended_edit past desk (edit.DropArea x) a k is there has = is
ended_edit past desk (edit.Put x s) a k is there has = is
ended_edit past desk (edit.Cut x s) a k is there has = is
ended_edit past desk (edit.Issue notice areas) a k is there has = is
ended_edit past desk (edit.Update n content) a k is there has = is
ended_edit past desk (edit.Widen n x) a k is there has = is
ended_edit past desk (edit.Narrow n x) a k is there has = is
ended_edit past desk (edit.Stop n) a k is there has = is
ended_edit past desk (edit.Forget n) a k is there has = sym (forgotten past desk n a k is) ∙ has

ended : (past : Past) (desk : ℕ) (e : Event) (a : Answer) (k : LineKey) → ends e k ≡ true → is_bsc (After (record { desk = desk; event = e; answer = a }) past) k.bsc ≡ true → some_in (deeds_of (facts (After (record { desk = desk; event = e; answer = a }) past) k)) ≡ true → false ≡ true
ended past desk (event.Edit e) a k is there has = ended_edit past desk e a k is there has
ended past desk (event.Retry d) a k is there has = is
ended past desk (event.LinkUp d) a k is there has = is
ended past desk (event.LinkDown d generation) a k is there has = is
ended past desk (event.Send d generation) a k is there has = is
ended past desk (event.Ask d generation n after) a k is there has = is
ended past desk (event.Report d generation m) a k is there has = is

-- So an order is pending after the event where one was.

order_stays : (settings : Settings) (past : Past) → Legal settings past → (e : Entry) → verdict settings past e.event ≡ Ok e.answer → (k : LineKey) → affects past e.event k.bsc ≡ false → is_bsc (After e past) k.bsc ≡ true → some_in (deeds_of (facts (After e past) k)) ≡ true → is_some (first (pending past k.bsc)) ≡ true
order_stays settings past legal e v k other there has = step (ends e.event k) refl
  where
    step : (t : Bool) → ends e.event k ≡ t → is_some (first (pending past k.bsc)) ≡ true
    step true is =
        let no : false ≡ true = ended past e.desk e.event e.answer k is there has in cc
    step false is =
        let same : SamePart (facts past k) (facts (After e past) k) = outside settings past legal e v k (beside past e.event e.answer k other is) in
        order_of_line settings past legal k (ap (λ (ds : List Deed). some_in ds) same.deeds ∙ has)

pub orders_left : (settings : Settings) (past : Past) (e : Entry) → Legal settings past → verdict settings past e.event ≡ Ok e.answer → LeavesOrders past e
orders_left settings past e legal v b other there has =
    line_of_order settings (After e past) (v, legal) b (is_some (first (pending past b)))
    (λ k at h. subst (λ n. is_some (first (pending past n)) ≡ true) at (order_stays settings past legal e v k (subst (λ n. affects past e.event n ≡ false) (sym at) other) (subst (λ n. is_bsc (After e past) n ≡ true) (sym at) there) h))
    has
