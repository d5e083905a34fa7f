-- What is kept in order is the list in order that the past says, and as many cells of a warning are listed as failed as the
-- board's number says.
use Rattle.std.proofs.Common.{◌≡◌, ℕ, ◌+◌, Bool, true, false, ◌&&◌, ◌||◌, nat_eq, ltb, List, [], ◌∷◌, Option, Some, None, length, map, refl, sym, ◌∙◌, ap, arith, eq-eqb, length-append}
use Rattle.std.specs.Prelude.{bytes_eq, if◌then◌else◌}
use Rattle.std.proofs.lemmas.Bool.{false_from_ne_true, and_parts, or_left, or_right, or_parts}
use Rattle.std.proofs.lemmas.Slice.Eq.{bytes_eq-Decides}
use Rattle.std.specs.Cmp.{unsigned_Decides}
use Rattle.std.specs.List.{filter, flat_map, list_any, list_all}
use Rattle.std.specs.Option.{is_some, option_and_then, option_map, option_to_list}
use Rattle.areas.specs.Areas.{has_area, named_lt, selectors_of}
use Rattle.areas.specs.Equality.{selector_decides}
use Rattle.areas.specs.Laws.{has_area_after}
use Rattle.areas.specs.Name.{octets_lt}
use Rattle.areas.specs.Order.{octets_lt-irreflexive, octets_lt-total, octets_lt-transitive}
use Rattle.areas.specs.Selector.{selector_eq, selector_lt}
use Rattle.areas.specs.SelectorLaws.{selector_apart, selector_follows, selector_other}
use Rattle.areas.specs.declared.area.Area.{Area}
use Rattle.areas.specs.declared.selector.Selector.{Selector}
use Rattle.cbsp_ie.specs.declared.cause.Cause.{Cause}
use Rattle.cell_register.specs.CellLaws.{cell_lt_apart, cell_lt_follows, ltb_apart, ltb_follows}
use Rattle.cell_register.specs.Laws.{cells_of_ascend, cells_of_has, is_some_place_among}
use Rattle.cell_register.specs.Register.{State, all_cells, cell_of, cells_of, is_place, placed_lt}
use Rattle.cell_register.specs.Sound.{IsRegister}
use Rattle.common.specs.Cell.{cell_eq, cell_lt}
use Rattle.common.specs.Equality.{cell_decides}
use Rattle.common.specs.OnceLaws.{DecidesAll, ascending_once, any_filter_same, any_turned, once_filter, turned}
use Rattle.common.specs.Order.{each_once, is_ascending}
use Rattle.common.specs.OrderLaws.{Follows, ascending_map}
use Rattle.common.specs.Sorting.{sorted_by}
use Rattle.common.specs.SortingLaws.{Apart, Strict, any_sorted, same_ascending, sorted_ascends}
use Rattle.common.specs.SumLaws.{sum_none, sum_same, sums_agree}
use Rattle.common.specs.Sums.{one, sum_of}
use Rattle.common.specs.declared.cell.Cell.{Cell}
use Rattle.coverage_board.specs.Standings.{standing, stands, way_eq, is_way}
use Rattle.coverage_board.specs.declared.way.Way.TheVariants.{Awaited, OnAir, Failed}
use Rattle.mirror.specs.Seen.{is_on_air}
use Rattle.warning_book.specs.Book.{current_of, kind_of, number_lt}
use Rattle.warning_book.specs.declared.warning.Warning.{Warning}
use Rattle.centre_events.specs.Cover.{added_area, areas, has_selector, is_area, is_covered, put_selector, selector_count, selectors}
use Rattle.centre_events.specs.Down.{is_down}
use Rattle.centre_events.specs.Kept.{AreAreasOf, IsRegisterOf}
use Rattle.centre_events.specs.Lines.{seen, stand}
use Rattle.centre_events.specs.Links.{added_bsc, bscs, is_bsc}
use Rattle.centre_events.specs.Past.{Past}
use Rattle.centre_events.specs.Places.{added_cell, cells, is_registered, place}
use Rattle.centre_events.specs.Plan.{wanted}
use Rattle.centre_events.specs.Presence.{hold, presence}
use Rattle.centre_events.specs.Warnings.{warnings_of}
use Rattle.centre_events.specs.declared.settings.Settings.{Settings}
use Rattle.centre_past.specs.Legal.{Legal}
use Rattle.centre_past.specs.Lists.{area_names, area_row, area_rows, area_selectors, cells_at, failed_at, failed_in, failed_row, failed_rows, failure_of, kept_row, registered_bscs, registered_cells, warning_lt, warning_row, warning_rows}
use Rattle.centre_past.specs.Numbers.{number, number_at}
use Rattle.centre_past.specs.declared.lists.area_row.AreaRow.{AreaRow}
use Rattle.centre_past.specs.declared.lists.failure.Failure.TheVariants.{Down, Refused}
use Rattle.centre_past.proofs.AnyLemmas.{and_none, contrary}
use Rattle.centre_past.proofs.AreaLemmas.{known_area, known_selector}
use Rattle.centre_past.proofs.BscLemmas.{bsc_named, place_bsc}
use Rattle.centre_past.proofs.CountLemmas.{both_or_it, named_once}
use Rattle.centre_past.proofs.KnownLemmas.{known_place, legal_unfolded}
use Rattle.centre_past.proofs.RegisterLemmas.{cell_among, cell_apart, known_cell, nat_apart}
use Rattle.centre_past.proofs.WarningLemmas.{legal_sound}

-- Lists in order.

-- a list in order of what passes is the list of those of all that pass, put in order
in_order_is : {A : Type 0} (same before : A → A → Bool) → DecidesAll same → Strict before → Apart same before → Follows before → (p : A → Bool) (all xs : List A) → each_once same all ≡ true → is_ascending before xs ≡ true → ((z : A) → p z ≡ true → list_any (same z) all ≡ true) → ((z : A) → list_any (same z) xs ≡ p z) → xs ≡ sorted_by before (filter p all)
in_order_is {A} same before d strict apart follows p all xs once ascends known members =
    same_ascending same before d strict follows xs (sorted_by before (filter p all)) ascends
    (sorted_ascends same before apart follows (filter p all) (once_filter same p all once))
    (λ z. members z ∙ both_or_it (p z) (list_any (same z) all) (known z) ∙ sym (filtered z) ∙ sym (any_sorted before (same z) (filter p all)))
  where
    filtered : (z : A) → list_any (same z) (filter p all) ≡ (p z && list_any (same z) all)
    filtered z = any_turned same d z (filter p all) ∙ any_filter_same same d p z all ∙ ap (λ t. p z && t) (sym (any_turned same d z all))

number_itself : (x : ℕ) → ltb x x ≡ false
number_itself x = false_from_ne_true (ltb x x) (λ h. let no : true ≡ false = sym (eq-eqb x x refl) ∙ nat_apart x x h in cc)

numbers_apart : (x y : ℕ) → nat_eq x y ≡ false → (ltb y x || ltb x y) ≡ true
numbers_apart x y h = ltb_apart x y (turned nat_eq unsigned_Decides y x ∙ h)

cell_itself : (c : Cell) → cell_lt c c ≡ false
cell_itself c = false_from_ne_true (cell_lt c c) (λ h. let no : true ≡ false = sym ((cell_decides c c).1 refl) ∙ cell_apart c c h in cc)

cells_apart : (x y : Cell) → cell_eq x y ≡ false → (cell_lt y x || cell_lt x y) ≡ true
cells_apart x y h = cell_lt_apart x y (turned cell_eq cell_decides y x ∙ h)

names_apart : (x y : List ℕ) → bytes_eq x y ≡ false → (octets_lt y x || octets_lt x y) ≡ true
names_apart x y h = step (octets_lt x y) refl
  where
    step : (t : Bool) → octets_lt x y ≡ t → (octets_lt y x || t) ≡ true
    step true e = or_right (octets_lt y x) true refl
    step false e = or_left (octets_lt y x) false (octets_lt-total x y e h)

selector_itself : (s : Selector) → selector_lt s s ≡ false
selector_itself s = false_from_ne_true (selector_lt s s) (λ h. let no : true ≡ false = sym ((selector_decides s s).1 refl) ∙ selector_other s s h in cc)

selectors_apart : (x y : Selector) → selector_eq x y ≡ false → (selector_lt y x || selector_lt x y) ≡ true
selectors_apart x y h = selector_apart x y (turned selector_eq selector_decides y x ∙ h)

-- BSCs and cells.

cells_all_once : (past : Past) (r : State) → IsRegisterOf past r → each_once cell_eq (cells past) ≡ true
cells_all_once past r kept = named_once cell_eq added_cell (λ base. base.cells) refl past kept.unfolded

pub bscs_listed : (past : Past) (r : State) → IsRegister r → IsRegisterOf past r → r.bscs ≡ registered_bscs past
bscs_listed past r sound kept =
    in_order_is nat_eq ltb unsigned_Decides number_itself numbers_apart ltb_follows (is_bsc past) (bscs past) r.bscs
    (named_once nat_eq added_bsc (λ base. base.bscs) refl past kept.unfolded) sound.bscs_ascend (bsc_named past kept.unfolded)
    (λ b. any_turned nat_eq unsigned_Decides b r.bscs ∙ kept.bscs b)

pub cells_listed : (past : Past) (r : State) (b : ℕ) → IsRegister r → IsRegisterOf past r → cells_of r b ≡ cells_at past b
cells_listed past r b sound kept =
    in_order_is cell_eq cell_lt cell_decides cell_itself cells_apart cell_lt_follows (λ c. is_place (place past c) b) (cells past) (cells_of r b)
    (cells_all_once past r kept) (cells_of_ascend r b sound) (known_place past kept.unfolded b)
    (λ c. any_turned cell_eq cell_decides c (cells_of r b) ∙ cells_of_has r c b sound ∙ ap (λ o. is_place o b) (kept.places c))

pub all_listed : (past : Past) (r : State) → IsRegister r → IsRegisterOf past r → all_cells r ≡ registered_cells past
all_listed past r sound kept =
    in_order_is cell_eq cell_lt cell_decides cell_itself cells_apart cell_lt_follows (is_registered past) (cells past) (all_cells r)
    (cells_all_once past r kept) (ascending_map placed_lt cell_lt cell_of (λ x y h. h) r.cells sound.cells_ascend) (known_cell past kept.unfolded)
    (λ c. any_turned cell_eq cell_decides c (all_cells r) ∙ cell_among c r.cells ∙ sym (is_some_place_among c r.cells) ∙ ap is_some (kept.places c))

-- Areas.

pub names_listed : (past : Past) (l : List Area) → is_ascending named_lt l ≡ true → AreAreasOf past l → map (λ (x : Area). x.name) l ≡ area_names past
names_listed past l ascending tied =
    in_order_is bytes_eq octets_lt bytes_eq-Decides octets_lt-irreflexive names_apart octets_lt-transitive (is_area past) (areas past) (map (λ (x : Area). x.name) l)
    (named_once bytes_eq added_area (λ base. base.areas) refl past tied.unfolded) (ascending_map named_lt octets_lt (λ (x : Area). x.name) (λ x y h. h) l ascending) (known_area past tied.unfolded)
    (λ a. any_turned bytes_eq bytes_eq-Decides a (map (λ (x : Area). x.name) l) ∙ among a l ∙ tied.names a)
  where
    among : (a : List ℕ) (ys : List Area) → list_any (λ n. bytes_eq n a) (map (λ (x : Area). x.name) ys) ≡ has_area ys a
    among a [] = refl
    among a (y ∷ ys) = ap (λ t. bytes_eq y.name a || t) (among a ys)

pub selectors_listed : (past : Past) (l : List Area) (a : List ℕ) → ((x : List ℕ) → is_ascending selector_lt (selectors_of l x) ≡ true) → AreAreasOf past l → selectors_of l a ≡ area_selectors past a
selectors_listed past l a ordered tied =
    in_order_is selector_eq selector_lt selector_decides selector_itself selectors_apart selector_follows (has_selector past a) (selectors past a) (selectors_of l a)
    (named_once selector_eq (put_selector a) (λ base. base.selectors a) refl past tied.unfolded) (ordered a) (known_selector past tied.unfolded a)
    (λ s. any_turned selector_eq selector_decides s (selectors_of l a) ∙ tied.selectors a s)

-- each area has the selectors of its name
rows_by : (f : List ℕ → ℕ) (l : List Area) → is_ascending named_lt l ≡ true → ((a : List ℕ) → has_area l a ≡ true → length (selectors_of l a) ≡ f a) → map kept_row l ≡ map (λ a. let row : AreaRow = record { name = a; selectors = f a } in row) (map (λ (x : Area). x.name) l)
rows_by f [] ascending each = refl
rows_by f (y ∷ l) ascending each =
    λ i. (let row : AreaRow = record { name = y.name; selectors = here i } in row) ∷ rows_by f l order.1 later i
  where
    order : (list_all (named_lt y) l ≡ true) × (is_ascending named_lt l ≡ true)
    order = and_parts (list_all (named_lt y) l) (is_ascending named_lt l) ascending

    itself : bytes_eq y.name y.name ≡ true
    itself = (bytes_eq-Decides y.name y.name).1 refl

    here : length y.selectors ≡ f y.name
    here = ap (λ t. length (if t then y.selectors else selectors_of l y.name)) (sym itself) ∙ each y.name (or_left (bytes_eq y.name y.name) (has_area l y.name) itself)

    later : (a : List ℕ) → has_area l a ≡ true → length (selectors_of l a) ≡ f a
    later a there = step (bytes_eq y.name a) refl
      where
        step : (t : Bool) → bytes_eq y.name a ≡ t → length (selectors_of l a) ≡ f a
        step true e =
            let none : has_area l a ≡ false = ap (has_area l) (sym ((bytes_eq-Decides y.name a).0 e)) ∙ has_area_after y.name l order.0 in
            let no : true ≡ false = sym there ∙ none in cc
        step false e = ap (λ t. length (if t then y.selectors else selectors_of l a)) (sym e) ∙ each a (or_right (bytes_eq y.name a) (has_area l a) there)

pub areas_listed : (past : Past) (l : List Area) → is_ascending named_lt l ≡ true → ((a : List ℕ) → length (selectors_of l a) ≡ selector_count past a) → AreAreasOf past l → map kept_row l ≡ area_rows past
areas_listed past l ascending counted tied =
    rows_by (selector_count past) l ascending (λ a there. counted a) ∙ ap (map (area_row past)) (names_listed past l ascending tied)

-- Warnings.

-- the warnings stand in the order of their numbers
pub warnings_ordered : (settings : Settings) (past : Past) → Legal settings past → is_ascending warning_lt (warning_rows past) ≡ true
warnings_ordered settings past legal = ascending_map number_lt warning_lt (warning_row past) (λ x y h. h) (warnings_of past) (legal_sound settings past legal).ordered

-- Failures.

-- a warning is wanted only where its cell is placed
pub not_placed : (past : Past) (w : Warning) (c : Cell) (b : ℕ) → is_place (place past c) b ≡ false → failed_at past w c b ≡ None
not_placed past w c b h =
    ap (λ t. option_map (failed_row b c) (option_and_then (failure_of past b w c) (if t then current_of w else None))) (ap (λ t. w.active && (t && is_covered past w.areas c)) h ∙ and_none w.active)

-- a line has one row where it counts as failed
abbrev rows_at : Past → Warning → ℕ → Cell → ℕ
rows_at past w b c = length (option_to_list (failed_at past w c b))

row_counts : (b : ℕ) (c : Cell) (down air : Bool) (o : Option Cause) → one (way_eq Failed (if down then Failed else (if air then OnAir else (if is_some o then Failed else Awaited)))) ≡ length (option_to_list (option_map (failed_row b c) (if down then Some Down else (if air then None else option_map Refused o))))
row_counts b c true air o = refl
row_counts b c false true o = refl
row_counts b c false false None = refl
row_counts b c false false (Some cause) = refl

line_counts : (past : Past) (w : Warning) (b : ℕ) (c : Cell) → one (stands Failed (stand past b w c)) ≡ rows_at past w b c
line_counts past w b c = step (wanted past b w c)
  where
    step : (o : Option ℕ) → one (is_way Failed (standing (seen past b w c) o)) ≡ length (option_to_list (option_map (failed_row b c) (option_and_then (failure_of past b w c) o)))
    step None = refl
    step (Some s) = row_counts b c (is_down past (kind_of w) b c) (is_on_air (presence past b c w.message_id s)) (hold past b c w.message_id s)

-- sums over two lists, the one within the other, in either order
swapped : {X Y : Type 0} (g : X → Y → ℕ) (xs : List X) (ys : List Y) → sum_of (λ x. sum_of (g x) ys) xs ≡ sum_of (λ y. sum_of (λ x. g x y) xs) ys
swapped {X} {Y} g [] ys = sym (sum_none (λ (y : Y). 0) (λ y. refl) ys)
swapped {X} {Y} g (x ∷ xs) ys = ap (λ n. sum_of (g x) ys + n) (swapped g xs ys) ∙ sym (joined ys)
  where
    joined : (zs : List Y) → sum_of (λ y. g x y + sum_of (λ z. g z y) xs) zs ≡ sum_of (g x) zs + sum_of (λ y. sum_of (λ z. g z y) xs) zs
    joined [] = refl
    joined (z ∷ zs) = let rest = joined zs in omega arith

-- the rows of a cell are those at its place
at_place : (settings : Settings) (past : Past) → Legal settings past → (w : Warning) (c : Cell) → sum_of (λ b. rows_at past w b c) (bscs past) ≡ length (failed_in past w c)
at_place settings past legal w c = step (place past c) refl
  where
    none_at : (b : ℕ) → is_place (place past c) b ≡ false → rows_at past w b c ≡ 0
    none_at b h = ap (λ o. length (option_to_list o)) (not_placed past w c b h)

    step : (o : Option ℕ) → place past c ≡ o → sum_of (λ b. rows_at past w b c) (bscs past) ≡ length (option_to_list (option_and_then (failed_at past w c) o))
    step None e = sum_none (λ b. rows_at past w b c) (λ b. none_at b (ap (λ o. is_place o b) e)) (bscs past)
    step (Some d) e =
        sums_agree nat_eq unsigned_Decides (bscs past) (d ∷ []) (named_once nat_eq added_bsc (λ base. base.bscs) refl past (legal_unfolded settings past legal)) refl (λ b. rows_at past w b c) outside apart
        ∙ omega arith
      where
        outside : (b : ℕ) → list_any (nat_eq b) (bscs past) ≡ false → rows_at past w b c ≡ 0
        outside b out = none_at b (contrary (is_place (place past c) b) (list_any (nat_eq b) (bscs past)) (λ h. bsc_named past (legal_unfolded settings past legal) b (place_bsc settings past legal b c h)) out)

        apart : (b : ℕ) → list_any (nat_eq b) (d ∷ []) ≡ false → rows_at past w b c ≡ 0
        apart b out = none_at b (ap (λ o. is_place o b) e ∙ turned nat_eq unsigned_Decides d b ∙ (or_parts (nat_eq b d) false out).0)

-- no row of a cell that isn't registered
not_registered : (past : Past) (w : Warning) (c : Cell) → is_registered past c ≡ false → length (failed_in past w c) ≡ 0
not_registered past w c h = step (place past c) h
  where
    step : (o : Option ℕ) → is_some o ≡ false → length (option_to_list (option_and_then (failed_at past w c) o)) ≡ 0
    step None g = refl
    step (Some b) g = cc

length_flat : {X Y : Type 0} (f : X → List Y) (xs : List X) → length (flat_map f xs) ≡ sum_of (λ x. length (f x)) xs
length_flat f [] = refl
length_flat f (x ∷ xs) = length-append (f x) (flat_map f xs) ∙ ap (λ n. length (f x) + n) (length_flat f xs)

-- as many cells are listed as failed as the board says
pub failed_counted : (settings : Settings) (past : Past) → Legal settings past → (w : Warning) → length (failed_rows past w) ≡ number past w Failed
failed_counted settings past legal w =
    length_flat (failed_in past w) (registered_cells past)
    ∙ sym (sums_agree cell_eq cell_decides (cells past) (registered_cells past) once sorted_once (λ c. length (failed_in past w c)) unknown gone)
    ∙ sum_same (λ c. length (failed_in past w c)) (λ c. sum_of (λ b. rows_at past w b c) (bscs past)) (λ c. sym (at_place settings past legal w c)) (cells past)
    ∙ sym (swapped (rows_at past w) (bscs past) (cells past))
    ∙ sum_same (λ b. sum_of (rows_at past w b) (cells past)) (number_at past w Failed (cells past)) (λ b. sum_same (rows_at past w b) (λ c. one (stands Failed (stand past b w c))) (λ c. sym (line_counts past w b c)) (cells past)) (bscs past)
  where
    once : each_once cell_eq (cells past) ≡ true
    once = named_once cell_eq added_cell (λ base. base.cells) refl past (legal_unfolded settings past legal)

    ascends : is_ascending cell_lt (registered_cells past) ≡ true
    ascends = sorted_ascends cell_eq cell_lt cells_apart cell_lt_follows (filter (is_registered past) (cells past)) (once_filter cell_eq (is_registered past) (cells past) once)

    sorted_once : each_once cell_eq (registered_cells past) ≡ true
    sorted_once = ascending_once cell_eq cell_lt cell_apart (registered_cells past) ascends

    known : (c : Cell) → is_registered past c ≡ true → list_any (cell_eq c) (cells past) ≡ true
    known = known_cell past (legal_unfolded settings past legal)

    unknown : (c : Cell) → list_any (cell_eq c) (cells past) ≡ false → length (failed_in past w c) ≡ 0
    unknown c out = not_registered past w c (contrary (is_registered past c) (list_any (cell_eq c) (cells past)) (known c) out)

    among : (c : Cell) → is_registered past c ≡ true → list_any (cell_eq c) (registered_cells past) ≡ true
    among c h =
        any_sorted cell_lt (cell_eq c) (filter (is_registered past) (cells past))
        ∙ any_turned cell_eq cell_decides c (filter (is_registered past) (cells past))
        ∙ any_filter_same cell_eq cell_decides (is_registered past) c (cells past)
        ∙ ap (λ t. t && list_any (λ d. cell_eq d c) (cells past)) h
        ∙ sym (any_turned cell_eq cell_decides c (cells past))
        ∙ known c h

    gone : (c : Cell) → list_any (cell_eq c) (registered_cells past) ≡ false → length (failed_in past w c) ≡ 0
    gone c out = not_registered past w c (contrary (is_registered past c) (list_any (cell_eq c) (registered_cells past)) (among c) out)
