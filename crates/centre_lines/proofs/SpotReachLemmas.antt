-- The reach of an event, from what is told of the past.
use Rattle.std.proofs.Common.{◌≡◌, ◌⊎◌, inl, inr, ℕ, Bool, true, false, ◌&&◌, ◌||◌, not, nat_eq, ltb, List, [], ◌∷◌, Option, Some, None, Ok, filter, length, refl, sym, ◌∙◌, ap, subst}
use Rattle.std.specs.Prelude.{if◌then◌else◌}
use Rattle.std.specs.List.{flat_map, list_any}
use Rattle.std.specs.Option.{option_map, option_to_list}
use Rattle.std.proofs.lemmas.Bool.{and_from, not_from_false}
use Rattle.areas.specs.Areas as kept
use Rattle.areas.specs.declared.area.Area.{Area}
use Rattle.areas.specs.declared.selector.Selector.{Selector}
use Rattle.cell_register.specs.Register as register
use Rattle.cell_register.specs.Register.{place_in, is_place}
use Rattle.cbsp_ie.specs.declared.cell_id.CellId.{CellId}
use Rattle.cbsp_messages.specs.declared.message.Message.{Message}
use Rattle.cbsp_messages.specs.declared.message.Message.TheVariants as message_is
use Rattle.cell_register.specs.CellLaws.{cell_lt_apart, cell_lt_follows}
use Rattle.common.specs.Cell.{cell_eq, cell_lt}
use Rattle.common.specs.Equality.{cell_decides}
use Rattle.common.specs.OnceLaws.{turned, ascending_once, once_filter}
use Rattle.common.specs.Order.{each_once}
use Rattle.common.specs.OrderLaws.{ascending_filter, ascending_map}
use Rattle.common.specs.Sorting.{sorted_by}
use Rattle.common.specs.SortingLaws.{sorted_ascends}
use Rattle.common.specs.declared.cell.Cell.{Cell}
use Rattle.kept_tables.specs.View.{spot_eq}
use Rattle.kept_tables.specs.declared.spot.Spot.{Spot}
use Rattle.mirror.specs.Known as known
use Rattle.mirror.specs.Table.{Table}
use Rattle.serials.specs.Serials.{next_of}
use Rattle.warning_book.specs.Book as book
use Rattle.warning_book.specs.Book.{number_lt, areas_of, names}
use Rattle.warning_book.specs.declared.content.Content.{Content}
use Rattle.warning_book.specs.declared.warning.Warning.{Warning}
use Rattle.centre_events.specs.Cover.{covers, is_covered}
use Rattle.centre_events.specs.Effects.{is_about}
use Rattle.warning_book.specs.declared.kind.Kind.TheVariants as kind
use Rattle.centre_events.specs.InFlight.{in_flight, cells_of}
use Rattle.centre_events.specs.Known.{is_known, is_named}
use Rattle.centre_events.specs.Links.{bscs, is_bsc, bsc_of}
use Rattle.centre_past.specs.Legal.{Legal}
use Rattle.centre_events.specs.Outcomes.{listed_cells, failed_ids}
use Rattle.centre_events.specs.Past.{Past}
use Rattle.centre_events.specs.Places.{place, cells}
use Rattle.centre_past.specs.Reach.{Reach, IsReach, spot, at_bsc, placed_where, known_at, numbers_where, flight_reach, edit_reach, report_reach, reach_of, wraps}
use Rattle.coverage_plan.specs.Reach.{is_named_by}
use Rattle.centre_past.specs.Reaching.{AreSpots, AreThose, Told, TellsLines, EditTold, IsFlightOf, is_placed, is_known_among, is_known_at}
use Rattle.centre_events.specs.Reported.{names_warning}
use Rattle.centre_events.specs.Verdict.{answered, move_cell_checks, report_checks, report_answer}
use Rattle.centre_events.specs.Warnings.{book_of, warnings_of}
use Rattle.centre_events.specs.declared.answer.Answer.{Answer}
use Rattle.centre_events.specs.declared.answer.Answer.TheVariants as answer
use Rattle.coverage_plan.specs.declared.edit.Edit.{Edit}
use Rattle.coverage_plan.specs.declared.edit.Edit.TheVariants as edit
use Rattle.centre_events.specs.declared.event.Event.{Event}
use Rattle.centre_events.specs.declared.event.Event.TheVariants as event
use Rattle.centre_events.specs.declared.in_flight.InFlight.{InFlight}
use Rattle.centre_events.specs.declared.settings.Settings.{Settings}
use Rattle.centre_past.proofs.AnyLemmas.{or_none, and_none, any_same}
use Rattle.centre_past.proofs.CheckLemmas.{unless_ok, no_check}
use Rattle.centre_past.proofs.FactsLemmas.{covers_same}
use Rattle.centre_past.proofs.MarkedLineLemmas.{known_same}
use Rattle.centre_past.proofs.OnceLemmas.{flight_once}
use Rattle.centre_past.proofs.RegisterLemmas.{nat_apart}
use Rattle.centre_past.proofs.MarkLemmas.{known_bsc}
use Rattle.centre_past.proofs.SpotLemmas.{known_anywhere, those, those_same, no_spots, one_placed, at_same, once_at, spots_at, cells_once, ascending_cells, known_spots, placed_past}
use Rattle.centre_past.proofs.WarningLemmas.{legal_sound}

-- Where the lists of an edit are those of its reach.

-- no cells
pub none_reached : (spots : List Spot) → spots ≡ [] → AreThose spots []
none_reached spots is = those_same spots [] (λ s. false) is no_spots

-- those known at one BSC
pub known_reached : (settings : Settings) (past : Past) (r : register.State) (st : book.State) (t : Table) (b : ℕ) (spots : List Spot) → Told settings past r st t → TellsLines t → AreSpots spots (is_known_at t r b) → AreThose spots (known_at past b)
known_reached settings past r st t b spots told tells are =
    those spots (known_at past b) (is_known_at t r b) (λ s. nat_eq s.bsc b && is_known past b s.cell) are (known_spots settings past told.legal b)
    (λ s. ap (λ x. nat_eq s.bsc b && x) (known_same settings past r st t told tells b s.cell))

-- a cell that is registered
pub added_reached : (b : ℕ) (c : Cell) (spots : List Spot) → spots ≡ spot b c ∷ [] → AreThose spots (spot b c ∷ [])
added_reached b c spots is = those_same spots (spot b c ∷ []) (λ s. list_any (spot_eq s) (spot b c ∷ [])) is (record { each = λ s. refl; once = refl })

-- one that is taken out
pub removed_reached : (settings : Settings) (past : Past) (r : register.State) (st : book.State) (t : Table) (c : Cell) (spots : List Spot) → Told settings past r st t → spots ≡ at_bsc c (place_in r c) → AreThose spots (at_bsc c (place past c))
removed_reached settings past r st t c spots told is =
    those_same spots (at_bsc c (place past c)) (λ s. cell_eq s.cell c && is_place (place past c) s.bsc) (is ∙ ap (at_bsc c) (told.registered.places c)) (one_placed c (place past c))

-- one that is moved, and so was at another BSC
pub moved_reached : (settings : Settings) (past : Past) (r : register.State) (l : List Area) (st : book.State) (t : Table) (c : Cell) (b : ℕ) (spots : List Spot) → EditTold settings past r l st t (edit.MoveCell c b) → spots ≡ spot b c ∷ at_bsc c (place_in r c) → AreThose spots (spot b c ∷ at_bsc c (place past c))
moved_reached settings past r l st t c b spots told is =
    those_same spots both (λ s. list_any (spot_eq s) both) (is ∙ ap (λ o. spot b c ∷ at_bsc c o) (told.told.registered.places c)) (record { each = λ s. refl; once = once })
  where
    both : List Spot
    both = spot b c ∷ at_bsc c (place past c)

    elsewhere : is_place (place past c) b ≡ false
    elsewhere = (no_check (move_cell_checks past c b) (Ok answer.Done) told.answer told.accepted).1.1.0

    other : list_any (spot_eq (spot b c)) (at_bsc c (place past c)) ≡ false
    other = at_same (spot b c) c (place past c) ∙ ap (λ x. cell_eq c c && x) elsewhere ∙ and_none (cell_eq c c)

    once : each_once spot_eq both ≡ true
    once =
        and_from (not (list_any (spot_eq (spot b c)) (at_bsc c (place past c)))) (each_once spot_eq (at_bsc c (place past c))) (not_from_false (list_any (spot_eq (spot b c)) (at_bsc c (place past c))) other) (once_at c (place past c))

-- the registered cells that pass a test
pub placed_reached : (settings : Settings) (past : Past) (r : register.State) (st : book.State) (t : Table) (p q : Cell → Bool) (spots : List Spot) → Told settings past r st t → ((c : Cell) → p c ≡ q c) → AreSpots spots (λ s. is_placed r s && p s.cell) → AreThose spots (placed_where past q)
placed_reached settings past r st t p q spots told same are =
    those spots (placed_where past q) (λ s. is_placed r s && p s.cell) (λ s. is_place (place past s.cell) s.bsc && q s.cell) are (placed_past settings past told.legal q)
    (λ s. ap (λ o. is_place o s.bsc && p s.cell) (told.registered.places s.cell) ∙ ap (λ x. is_place (place past s.cell) s.bsc && x) (same s.cell))

-- those that one of the areas covers
pub covered_reached : (settings : Settings) (past : Past) (r : register.State) (l : List Area) (st : book.State) (t : Table) (e : Edit) (areas : List (List ℕ)) (spots : List Spot) → EditTold settings past r l st t e → AreSpots spots (λ s. is_placed r s && list_any (λ a. kept.covers l a s.cell) areas) → AreThose spots (placed_where past (is_covered past areas))
covered_reached settings past r l st t e areas spots told are =
    placed_reached settings past r st t (λ c. list_any (λ a. kept.covers l a c) areas) (is_covered past areas) spots told.told
    (λ c. any_same (λ a. kept.covers l a c) (λ a. covers past a c) (covers_same past l told.selected c) areas) are

-- those that an area covers
pub area_reached : (settings : Settings) (past : Past) (r : register.State) (l : List Area) (st : book.State) (t : Table) (e : Edit) (a : List ℕ) (spots : List Spot) → EditTold settings past r l st t e → AreSpots spots (λ s. is_placed r s && list_any (λ x. kept.covers l x s.cell) (a ∷ [])) → AreThose spots (placed_where past (covers past a))
area_reached settings past r l st t e a spots told are =
    placed_reached settings past r st t (λ c. list_any (λ x. kept.covers l x c) (a ∷ [])) (covers past a) spots told.told
    (λ c. or_none (kept.covers l a c) ∙ covers_same past l told.selected c a) are

-- those that the areas of a warning cover
pub warning_reached : (settings : Settings) (past : Past) (r : register.State) (l : List Area) (st : book.State) (t : Table) (e : Edit) (n : ℕ) (spots : List Spot) → EditTold settings past r l st t e → AreSpots spots (λ s. is_placed r s && list_any (λ a. kept.covers l a s.cell) (areas_of n st.warnings)) → AreThose spots (placed_where past (is_covered past (areas_of n (warnings_of past))))
warning_reached settings past r l st t e n spots told are =
    placed_reached settings past r st t (λ c. list_any (λ a. kept.covers l a c) (areas_of n st.warnings)) (is_covered past (areas_of n (warnings_of past))) spots told.told
    (λ c.
    any_same (λ a. kept.covers l a c) (λ a. covers past a c) (covers_same past l told.selected c) (areas_of n st.warnings)
    ∙ ap (λ (s : book.State). is_covered past (areas_of n s.warnings) c) told.told.booked)
    are

-- the edits that share an arm

abbrev IsReached : Past → List Spot → Edit → Type 0
IsReached past spots e = AreThose spots (edit_reach past e).spots

pub bare_edit : (past : Past) (e : Edit) (spots : List Spot) → ((b : ℕ) × (e ≡ edit.AddBsc b)) ⊎ (((a : List ℕ) × (e ≡ edit.AddArea a)) ⊎ ((a : List ℕ) × (e ≡ edit.DropArea a))) → spots ≡ [] → IsReached past spots e
bare_edit past e spots (inl (b, is)) none = subst (IsReached past spots) (sym is) (none_reached spots none)
bare_edit past e spots (inr (inl (a, is))) none = subst (IsReached past spots) (sym is) (none_reached spots none)
bare_edit past e spots (inr (inr (a, is))) none = subst (IsReached past spots) (sym is) (none_reached spots none)

pub moving_edit : (settings : Settings) (past : Past) (r : register.State) (l : List Area) (st : book.State) (t : Table) (e : Edit) (c : Cell) (b : ℕ) (spots : List Spot) → e ≡ edit.MoveCell c b → EditTold settings past r l st t e → spots ≡ spot b c ∷ at_bsc c (place_in r c) → IsReached past spots e
moving_edit settings past r l st t e c b spots which told is =
    subst (IsReached past spots) (sym which) (moved_reached settings past r l st t c b spots (subst (EditTold settings past r l st t) which told) is)

pub selector_edit : (settings : Settings) (past : Past) (r : register.State) (st : book.State) (t : Table) (e : Edit) (s : Selector) (spots : List Spot) → ((a : List ℕ) × (e ≡ edit.Put a s)) ⊎ ((a : List ℕ) × (e ≡ edit.Cut a s)) → Told settings past r st t → AreSpots spots (λ x. is_placed r x && is_named_by s x.cell) → IsReached past spots e
selector_edit settings past r st t e s spots which told are = step which
  where
    placed : AreThose spots (placed_where past (is_named_by s))
    placed = placed_reached settings past r st t (is_named_by s) (is_named_by s) spots told (λ c. refl) are

    step : ((a : List ℕ) × (e ≡ edit.Put a s)) ⊎ ((a : List ℕ) × (e ≡ edit.Cut a s)) → IsReached past spots e
    step (inl (a, is)) = subst (IsReached past spots) (sym is) placed
    step (inr (a, is)) = subst (IsReached past spots) (sym is) placed

pub area_edit : (settings : Settings) (past : Past) (r : register.State) (l : List Area) (st : book.State) (t : Table) (e : Edit) (a : List ℕ) (spots : List Spot) → ((n : ℕ) × (e ≡ edit.Widen n a)) ⊎ ((n : ℕ) × (e ≡ edit.Narrow n a)) → EditTold settings past r l st t e → AreSpots spots (λ s. is_placed r s && list_any (λ x. kept.covers l x s.cell) (a ∷ [])) → IsReached past spots e
area_edit settings past r l st t e a spots which told are = step which
  where
    placed : AreThose spots (placed_where past (covers past a))
    placed = area_reached settings past r l st t e a spots told are

    step : ((n : ℕ) × (e ≡ edit.Widen n a)) ⊎ ((n : ℕ) × (e ≡ edit.Narrow n a)) → IsReached past spots e
    step (inl (n, is)) = subst (IsReached past spots) (sym is) placed
    step (inr (n, is)) = subst (IsReached past spots) (sym is) placed

pub stop_edit : (settings : Settings) (past : Past) (r : register.State) (l : List Area) (st : book.State) (t : Table) (e : Edit) (n : ℕ) (spots : List Spot) → e ≡ edit.Stop n → EditTold settings past r l st t e → AreSpots spots (λ s. is_placed r s && list_any (λ a. kept.covers l a s.cell) (areas_of n st.warnings)) → IsReached past spots e
stop_edit settings past r l st t e n spots which told are = subst (IsReached past spots) (sym which) (warning_reached settings past r l st t e n spots told are)

-- an Update: what the areas of its warning cover, or what is known anywhere

pub wrapped_reached : (settings : Settings) (past : Past) (r : register.State) (st : book.State) (t : Table) (spots : List Spot) → Told settings past r st t → TellsLines t → AreSpots spots (is_known_among t r r.bscs) → AreThose spots (flat_map (known_at past) (bscs past))
wrapped_reached settings past r st t spots told tells are =
    those spots (flat_map (known_at past) (bscs past)) (is_known_among t r r.bscs) (λ s. is_known past s.bsc s.cell) are (known_anywhere settings past told.legal)
    (λ s.
    ap (λ x. x && known.is_known t r s.bsc s.cell) (told.registered.bscs s.bsc)
    ∙ ap (λ x. is_bsc past s.bsc && x) (known_same settings past r st t told tells s.bsc s.cell)
    ∙ at_bscs (is_known past s.bsc s.cell) (is_bsc past s.bsc) (known_bsc settings past told.legal s.bsc s.cell))
  where
    at_bscs : (a b : Bool) → (a ≡ true → b ≡ true) → (b && a) ≡ a
    at_bscs true b h = ap (λ x. x && true) (h refl)
    at_bscs false b h = and_none b

-- whether an Update wraps, by the book
pub wraps_by : (past : Past) (st : book.State) (n : ℕ) → st ≡ book_of past → book.is_so n (λ w. list_any (λ s. book.is_reused w s && true) (option_to_list (option_map next_of (book.current_of w)))) st.warnings ≡ wraps past n
wraps_by past st n booked = ap (λ (k : book.State). book.is_so n (λ w. list_any (λ s. book.is_reused w s && true) (option_to_list (option_map next_of (book.current_of w)))) k.warnings) booked

pub spots_where : (past : Past) (n : ℕ) (t : Bool) (spots : List Spot) → wraps past n ≡ t → AreThose spots (if t then flat_map (known_at past) (bscs past) else placed_where past (is_covered past (areas_of n (warnings_of past)))) → AreThose spots (if wraps past n then flat_map (known_at past) (bscs past) else placed_where past (is_covered past (areas_of n (warnings_of past))))
spots_where past n t spots e are =
    subst (λ x. AreThose spots (if x then flat_map (known_at past) (bscs past) else placed_where past (is_covered past (areas_of n (warnings_of past))))) (sym e) are

pub update_edit : (past : Past) (e : Edit) (n : ℕ) (spots : List Spot) → ((content : Content) × (e ≡ edit.Update n content)) → AreThose spots (if wraps past n then flat_map (known_at past) (bscs past) else placed_where past (is_covered past (areas_of n (warnings_of past)))) → IsReached past spots e
update_edit past e n spots (content, is) are = subst (IsReached past spots) (sym is) are

-- The numbers of warnings.

-- in the book of a legal past each stands once
pub numbers_once : (settings : Settings) (past : Past) → Legal settings past → (p : Warning → Bool) → each_once nat_eq (numbers_where past p) ≡ true
numbers_once settings past legal p =
    ascending_once nat_eq ltb nat_apart (numbers_where past p) (ascending_map number_lt ltb (λ (w : Warning). w.number) (λ x y h. h) (filter p (warnings_of past)) (ascending_filter number_lt p (warnings_of past) (legal_sound settings past legal).ordered))

pub edit_once : (settings : Settings) (past : Past) → Legal settings past → (e : Edit) → each_once nat_eq (edit_reach past e).warnings ≡ true
edit_once settings past legal (edit.AddBsc b) = refl
edit_once settings past legal (edit.RemoveBsc b) = numbers_once settings past legal (λ w. true)
edit_once settings past legal (edit.AddCell c b) = numbers_once settings past legal (λ w. true)
edit_once settings past legal (edit.MoveCell c b) = numbers_once settings past legal (λ w. true)
edit_once settings past legal (edit.RemoveCell c) = numbers_once settings past legal (λ w. true)
edit_once settings past legal (edit.AddArea a) = refl
edit_once settings past legal (edit.DropArea a) = refl
edit_once settings past legal (edit.Put a s) = numbers_once settings past legal (names a)
edit_once settings past legal (edit.Cut a s) = numbers_once settings past legal (names a)
edit_once settings past legal (edit.Issue notice areas) = refl
edit_once settings past legal (edit.Update n content) = refl
edit_once settings past legal (edit.Widen n a) = refl
edit_once settings past legal (edit.Narrow n a) = refl
edit_once settings past legal (edit.Stop n) = refl
edit_once settings past legal (edit.Forget n) = refl

-- What is in flight to a BSC, and what a report is answered.

-- of a list that is these, each once
pub those_once : (xs these : List Spot) → xs ≡ these → each_once spot_eq these ≡ true → AreThose xs these
those_once xs these is once = those_same xs these (λ s. list_any (spot_eq s) these) is (record { each = λ s. refl; once = once })

flight_spots_once : (settings : Settings) (past : Past) → Legal settings past → (b : ℕ) (f : Option InFlight) → in_flight past b ≡ f → each_once spot_eq (flight_reach past b f).spots ≡ true
flight_spots_once settings past legal b None e = refl
flight_spots_once settings past legal b (Some f) e = (spots_at b (cells_of f) (flight_once settings past legal b f e)).once

-- a list of cells that is put in order, and names no cell twice
sorted_once : (cs : List Cell) → each_once cell_eq cs ≡ true → each_once cell_eq (sorted_by cell_lt cs) ≡ true
sorted_once cs once =
    ascending_cells (sorted_by cell_lt cs) (sorted_ascends cell_eq cell_lt (λ x y e. cell_lt_apart x y (turned cell_eq cell_decides y x ∙ e)) cell_lt_follows cs once)

named_once : (plmn : List ℕ) (past : Past) (b number : ℕ) (ids : List CellId) → each_once cell_eq (cells past) ≡ true → each_once cell_eq (listed_cells plmn past b number ids) ≡ true
named_once plmn past b number ids once = step (is_about number kind.Cbs || is_about number kind.Emergency)
  where
    here : List Cell
    here = filter (λ c. is_known past b c && is_named plmn ids c) (cells past)

    step : (t : Bool) → each_once cell_eq (if t then sorted_by cell_lt here else []) ≡ true
    step true = sorted_once here (once_filter cell_eq (λ c. is_known past b c && is_named plmn ids c) (cells past) once)
    step false = refl

listed_once : (plmn : List ℕ) (past : Past) (b : ℕ) (message : Message) (f : Option InFlight) (cs : List Cell) → each_once cell_eq (cells past) ≡ true → report_answer plmn past b message f ≡ Ok (answer.Listed cs) → each_once cell_eq cs ≡ true
listed_once plmn past b (message_is.Restart m) f cs once e =
    let same : listed_cells plmn past b m.kind m.cells.ids ≡ cs = cc in ap (each_once cell_eq) (sym same) ∙ named_once plmn past b m.kind m.cells.ids once
listed_once plmn past b (message_is.Failure m) f cs once e =
    let same : listed_cells plmn past b m.kind (failed_ids m.failures) ≡ cs = cc in
    ap (each_once cell_eq) (sym same) ∙ named_once plmn past b m.kind (failed_ids m.failures) once
listed_once plmn past b other None cs once e = cc
listed_once plmn past b other (Some f) cs once e = cc

report_spots_once : (settings : Settings) (past : Past) → Legal settings past → (b : ℕ) (message : Message) (a : Answer) → report_answer settings.network.plmn past b message (in_flight past b) ≡ Ok a → each_once spot_eq (report_reach past b a).spots ≡ true
report_spots_once settings past legal b message (answer.Replied replies) e = flight_spots_once settings past legal b (in_flight past b) refl
report_spots_once settings past legal b message (answer.Listed cs) e =
    (spots_at b cs (listed_once settings.network.plmn past b message (in_flight past b) cs (cells_once settings past legal) e)).once
report_spots_once settings past legal b message other e = refl

-- Where the lists of another event are those of its reach.

abbrev IsReachedBy : Past → List Spot → Answer → Event → Type 0
IsReachedBy past spots a e = AreThose spots (reach_of past e a).spots

abbrev Flies : Past → Option InFlight → Event → Type 0
Flies past f e = IsFlightOf past (bsc_of e) f

pub link_reached : (settings : Settings) (past : Past) (e : Event) (a : Answer) (f : Option InFlight) (b : ℕ) (spots : List Spot) → (e ≡ event.LinkUp b) ⊎ ((generation : ℕ) × (e ≡ event.LinkDown b generation)) → Legal settings past → Flies past f e → spots ≡ (flight_reach past b f).spots → IsReachedBy past spots a e
link_reached settings past e a f b spots which legal flying is = step which
  where
    lost : f ≡ in_flight past b → AreThose spots (flight_reach past b (in_flight past b)).spots
    lost here = those_once spots (flight_reach past b (in_flight past b)).spots (is ∙ ap (λ o. (flight_reach past b o).spots) here) (flight_spots_once settings past legal b (in_flight past b) refl)

    step : (e ≡ event.LinkUp b) ⊎ ((generation : ℕ) × (e ≡ event.LinkDown b generation)) → IsReachedBy past spots a e
    step (inl up) = subst (IsReachedBy past spots a) (sym up) (lost (subst (Flies past f) up flying))
    step (inr (generation, down)) = subst (IsReachedBy past spots a) (sym down) (lost (subst (Flies past f) down flying))

pub report_reached : (settings : Settings) (past : Past) (e : Event) (a : Answer) (f : Option InFlight) (b generation : ℕ) (message : Message) (spots : List Spot) → e ≡ event.Report b generation message → Legal settings past → Flies past f e → answered settings.network past e ≡ Ok a → (f ≡ in_flight past b → spots ≡ (report_reach past b a).spots) → IsReachedBy past spots a e
report_reached settings past e a f b generation message spots which legal flying accepted is =
    subst (IsReachedBy past spots a) (sym which)
    (those_once spots (report_reach past b a).spots (is (subst (Flies past f) which flying))
    (report_spots_once settings past legal b message a (unless_ok (report_checks past b generation message) (report_answer settings.network.plmn past b message (in_flight past b)) a (sym (ap (answered settings.network past) which) ∙ accepted))))

pub nothing_reached : (past : Past) (e : Event) (a : Answer) (f : Option InFlight) (spots : List Spot) → ((b : ℕ) × (generation : ℕ) × (e ≡ event.Send b generation)) ⊎ (((b : ℕ) × (generation : ℕ) × (n : ℕ) × (after : Option Cell) × (e ≡ event.Ask b generation n after)) ⊎ ((x : Edit) × (e ≡ event.Edit x))) → Flies past f e → spots ≡ [] → IsReachedBy past spots a e
nothing_reached past e a f spots (inl (b, generation, which)) flying is = subst (IsReachedBy past spots a) (sym which) (none_reached spots is)
nothing_reached past e a f spots (inr (inl (b, generation, n, after, which))) flying is = subst (IsReachedBy past spots a) (sym which) (none_reached spots is)
nothing_reached past e a f spots (inr (inr (x, which))) flying is = absurd (subst (Flies past f) which flying)

-- The numbers of their warnings stand each once.

flight_once_named : (settings : Settings) (past : Past) → Legal settings past → (b : ℕ) (f : Option InFlight) → each_once nat_eq (flight_reach past b f).warnings ≡ true
flight_once_named settings past legal b None = refl
flight_once_named settings past legal b (Some f) = numbers_once settings past legal (names_warning f)

report_once : (settings : Settings) (past : Past) → Legal settings past → (b : ℕ) (a : Answer) → each_once nat_eq (report_reach past b a).warnings ≡ true
report_once settings past legal b (answer.Replied replies) = flight_once_named settings past legal b (in_flight past b)
report_once settings past legal b (answer.Listed cs) = numbers_once settings past legal (λ w. true)
report_once settings past legal b other = refl

pub event_once : (settings : Settings) (past : Past) → Legal settings past → (e : Event) (a : Answer) → each_once nat_eq (reach_of past e a).warnings ≡ true
event_once settings past legal (event.Edit e) a = edit_once settings past legal e
event_once settings past legal (event.Retry b) a = numbers_once settings past legal (λ w. true)
event_once settings past legal (event.LinkUp b) a = flight_once_named settings past legal b (in_flight past b)
event_once settings past legal (event.LinkDown b generation) a = flight_once_named settings past legal b (in_flight past b)
event_once settings past legal (event.Send b generation) a = refl
event_once settings past legal (event.Ask b generation n after) a = refl
event_once settings past legal (event.Report b generation message) a = report_once settings past legal b a

-- Both together.

pub reached : (of : Reach) (spots : List Spot) (warnings : List ℕ) → AreThose spots of.spots → warnings ≡ of.warnings → each_once nat_eq of.warnings ≡ true → IsReach (record { spots = spots; warnings = warnings }) of
reached of spots warnings are is once =
    record {
      spots = are.same;
      warnings = λ n. ap (list_any (nat_eq n)) is;
      spots_once = are.once;
      warnings_once = ap (each_once nat_eq) is ∙ once;
      spots_counted = are.counted;
      warnings_counted = ap length is;
    }
