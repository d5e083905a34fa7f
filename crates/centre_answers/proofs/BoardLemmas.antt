-- The numbers that the tables keep of a warning, and of each of its areas, are the sums over every BSC and every cell
-- that there ever were.
use Rattle.std.proofs.Common.{◌≡◌, ℕ, ◌+◌, Bool, true, false, ◌&&◌, ◌||◌, not, nat_eq, List, [], ◌∷◌, ◌++◌, Option, Some, None, Result, Ok, Err, map, refl, sym, ◌∙◌, ap, eqb-true, eq-eqb}
use Rattle.std.specs.Prelude.{if◌then◌else◌}
use Rattle.std.specs.List.{list_any, flat_map}
use Rattle.std.specs.Option.{option_map}
use Rattle.std.proofs.Math.Bool.{and-true}
use Rattle.std.proofs.lemmas.Bool.{and_parts, and_from, or_from, or_right, not-true, not_from_false}
use Rattle.std.proofs.lemmas.List.Folds.{list_any-append}
use Rattle.areas.specs.Areas.{has_area}
use Rattle.areas.specs.declared.area.Area.{Area}
use Rattle.cell_register.specs.Register.{is_place}
use Rattle.common.specs.Cell.{cell_eq}
use Rattle.common.specs.OnceLaws.{once_key}
use Rattle.common.specs.Order.{each_once}
use Rattle.common.specs.OrderLaws.{find_passes}
use Rattle.common.specs.SumLaws.{sum_append, sum_none}
use Rattle.common.specs.Sums.{one, sum_of}
use Rattle.common.specs.declared.cell.Cell.{Cell}
use Rattle.coverage_board.specs.Board.{total_of, area_of}
use Rattle.coverage_board.specs.Numbers.{zero_numbers}
use Rattle.coverage_board.specs.Standings.{stands}
use Rattle.coverage_board.specs.declared.numbers.Numbers.{Numbers}
use Rattle.coverage_board.specs.declared.way.Way.{Way}
use Rattle.coverage_board.specs.declared.way.Way.TheVariants.{Awaited, OnAir, Failed, Left}
use Rattle.kept_tables.specs.Consistent.{Consistent}
use Rattle.kept_tables.specs.ConsistentLaws.{sums_same, total_is, area_is}
use Rattle.kept_tables.specs.Facts.{total_of_line, area_of_line}
use Rattle.kept_tables.specs.SpotLaws.{spot_decides}
use Rattle.kept_tables.specs.Tables.{Tables}
use Rattle.kept_tables.specs.View.{key_at, spot_eq, is_spot}
use Rattle.kept_tables.specs.declared.spot.Spot.{Spot}
use Rattle.warning_book.specs.Book.{State, has_number, names, warning_of}
use Rattle.warning_book.specs.declared.warning.Warning.{Warning}
use Rattle.centre_events.specs.Counts.{count}
use Rattle.centre_events.specs.Cover.{covers, is_covered}
use Rattle.centre_events.specs.Effects.{is_among}
use Rattle.centre_past.specs.Facts.{facts}
use Rattle.centre_events.specs.Kept.{AreAreasOf}
use Rattle.centre_past.specs.Legal.{Legal}
use Rattle.centre_events.specs.Lines.{stand}
use Rattle.centre_events.specs.Links.{added_bsc, bscs}
use Rattle.centre_past.specs.Numbers.{number, broadcasts_in, broadcasts, total, board, area_number, area_broadcasts_in, area_broadcasts, area_total, named_area, warning_area, area_board}
use Rattle.centre_events.specs.Past.{Past}
use Rattle.centre_events.specs.Places.{added_cell, cells, place}
use Rattle.centre_past.specs.Reach.{spot}
use Rattle.centre_events.specs.Warnings.{book_of, warnings_of, serials}
use Rattle.centre_events.specs.declared.refusal.Refusal.{Refusal}
use Rattle.centre_events.specs.declared.refusal.Refusal.TheVariants.{NoSuchArea, NoSuchWarning, AreaNotThere}
use Rattle.centre_events.specs.declared.settings.Settings.{Settings}
use Rattle.centre_past.proofs.AnyLemmas.{and_none, any_flat, any_never, any_pulled, any_same}
use Rattle.centre_past.proofs.BeginningLemmas.{IsBlank, seen_blank, at_cell, cell_outside, bsc_outside, not_counted}
use Rattle.centre_past.proofs.CountLemmas.{named_once}
use Rattle.centre_past.proofs.KnownLemmas.{legal_unfolded}
use Rattle.centre_events.proofs.PastLemmas.{any_image}
use Rattle.centre_answers.proofs.SeenLemmas.{counted, total_seen, area_counted, area_seen}

-- Cells at BSCs.

-- each of the cells at each of the BSCs
abbrev spots_of : List ℕ → List Cell → List Spot
spots_of bs cs = flat_map (λ b. map (spot b) cs) bs

any_with : {X : Type 0} (k : Bool) (p : X → Bool) (xs : List X) → list_any (λ x. p x && k) xs ≡ (list_any p xs && k)
any_with true p xs = any_same (λ x. p x && true) p (λ x. and-true (p x)) xs ∙ sym (and-true (list_any p xs))
any_with {X} false p xs = any_same (λ x. p x && false) (λ (x : X). false) (λ x. and_none (p x)) xs ∙ any_never xs ∙ sym (and_none (list_any p xs))

at_one : (s : Spot) (b : ℕ) (cs : List Cell) → is_spot s (map (spot b) cs) ≡ (nat_eq s.bsc b && is_among s.cell cs)
at_one s b cs = any_image (spot_eq s) (spot b) cs ∙ any_pulled (nat_eq s.bsc b) (cell_eq s.cell) cs

in_spots : (s : Spot) (bs : List ℕ) (cs : List Cell) → is_spot s (spots_of bs cs) ≡ (list_any (nat_eq s.bsc) bs && is_among s.cell cs)
in_spots s bs cs =
    any_flat (spot_eq s) (λ b. map (spot b) cs) bs
    ∙ any_same (λ b. is_spot s (map (spot b) cs)) (λ b. nat_eq s.bsc b && is_among s.cell cs) (λ b. at_one s b cs) bs
    ∙ any_with (is_among s.cell cs) (nat_eq s.bsc) bs

-- one list behind another with which it has nothing in common
once_joined : {X : Type 0} (same : X → X → Bool) → ((x : X) → same x x ≡ true) → (xs ys : List X) → ((x : X) → list_any (same x) xs ≡ true → list_any (same x) ys ≡ false) → each_once same xs ≡ true → each_once same ys ≡ true → each_once same (xs ++ ys) ≡ true
once_joined same itself [] ys apart once also = also
once_joined same itself (x ∷ xs) ys apart once also =
    let parts = and_parts (not (list_any (same x) xs)) (each_once same xs) once in
    let other : list_any (same x) ys ≡ false = apart x (ap (λ t. t || list_any (same x) xs) (itself x)) in
    let none : list_any (same x) (xs ++ ys) ≡ false = list_any-append (same x) xs ys ∙ or_from (list_any (same x) xs) (list_any (same x) ys) (not-true (list_any (same x) xs) parts.0) other in
    and_from (not (list_any (same x) (xs ++ ys))) (each_once same (xs ++ ys)) (not_from_false (list_any (same x) (xs ++ ys)) none)
    (once_joined same itself xs ys (λ z h. apart z (or_right (same z x) (list_any (same z) xs) h)) parts.1 also)

once_spots : (bs : List ℕ) (cs : List Cell) → each_once nat_eq bs ≡ true → each_once cell_eq cs ≡ true → each_once spot_eq (spots_of bs cs) ≡ true
once_spots [] cs once also = refl
once_spots (b ∷ bs) cs once also =
    once_joined spot_eq itself (map (spot b) cs) (spots_of bs cs) apart here (once_spots bs cs parts.1 also)
  where
    parts : (not (list_any (nat_eq b) bs) ≡ true) × (each_once nat_eq bs ≡ true)
    parts = and_parts (not (list_any (nat_eq b) bs)) (each_once nat_eq bs) once

    itself : (s : Spot) → spot_eq s s ≡ true
    itself s = (spot_decides s s).1 refl

    here : each_once spot_eq (map (spot b) cs) ≡ true
    here = once_key spot_eq (spot b) cs ∙ ap (λ t. each_once (λ x y. t && cell_eq x y) cs) (eq-eqb b b refl) ∙ also

    apart : (s : Spot) → is_spot s (map (spot b) cs) ≡ true → is_spot s (spots_of bs cs) ≡ false
    apart s h =
        let place = and_parts (nat_eq s.bsc b) (is_among s.cell cs) (sym (at_one s b cs) ∙ h) in
        let gone : list_any (nat_eq s.bsc) bs ≡ false = ap (λ k. list_any (nat_eq k) bs) (eqb-true s.bsc b place.0) ∙ not-true (list_any (nat_eq b) bs) parts.0 in
        in_spots s bs cs ∙ ap (λ t. t && is_among s.cell cs) gone

-- a sum over them is a sum over the BSCs of sums over the cells
sum_row : (f : Spot → ℕ) (b : ℕ) (cs : List Cell) → sum_of f (map (spot b) cs) ≡ sum_of (λ c. f (spot b c)) cs
sum_row f b [] = refl
sum_row f b (c ∷ cs) = ap (λ n. f (spot b c) + n) (sum_row f b cs)

sum_spots : (f : Spot → ℕ) (bs : List ℕ) (cs : List Cell) → sum_of f (spots_of bs cs) ≡ sum_of (λ b. sum_of (λ c. f (spot b c)) cs) bs
sum_spots f [] cs = refl
sum_spots f (b ∷ bs) cs =
    sum_append f (map (spot b) cs) (spots_of bs cs)
    ∙ ap (λ n. n + sum_of f (spots_of bs cs)) (sum_row f b cs)
    ∙ ap (λ n. sum_of (λ c. f (spot b c)) cs + n) (sum_spots f bs cs)

-- The numbers of a warning.

-- nothing is counted at a BSC, or in a cell, that was never registered: no cell has its place there
blank_outside : (settings : Settings) (past : Past) → Legal settings past → (w : Warning) (s : Spot) → is_spot s (spots_of (bscs past) (cells past)) ≡ false → (IsBlank past s.bsc w s.cell) × (is_place (place past s.cell) s.bsc ≡ false)
blank_outside settings past legal w s h =
    step (list_any (nat_eq s.bsc) (bscs past)) refl (is_among s.cell (cells past)) refl (sym (in_spots s (bscs past) (cells past)) ∙ h)
  where
    step : (t : Bool) → list_any (nat_eq s.bsc) (bscs past) ≡ t → (u : Bool) → is_among s.cell (cells past) ≡ u → (t && u) ≡ false → (IsBlank past s.bsc w s.cell) × (is_place (place past s.cell) s.bsc ≡ false)
    step true e true f g = cc
    step true e false f g =
        let start = cell_outside settings past legal s.cell f in
        (at_cell past s.bsc w s.cell start, ap (λ o. is_place o s.bsc) start.nowhere)
    step false e u f g =
        let start = bsc_outside settings past legal s.bsc e in
        (seen_blank past s.bsc w s.cell (start.empty s.cell) (start.silent s.cell), start.empty s.cell)

nothing_counted : (past : Past) (b : ℕ) (w : Warning) (c : Cell) → IsBlank past b w c → is_place (place past c) b ≡ false → counted past b w c ≡ zero_numbers
nothing_counted past b w c blank away =
    λ i. record { awaited = not_counted past Awaited b w c blank i; on_air = not_counted past OnAir b w c blank i; failed = not_counted past Failed b w c blank i; left = not_counted past Left b w c blank i; broadcasts = if away i && is_covered past w.areas c then sum_of (count past b c w.message_id) (serials w) else 0 }

-- the spots over which the sums are
abbrev all_spots : Past → List Spot
all_spots past = spots_of (bscs past) (cells past)

spots_once : (settings : Settings) (past : Past) → Legal settings past → each_once spot_eq (all_spots past) ≡ true
spots_once settings past legal =
    once_spots (bscs past) (cells past)
    (named_once nat_eq added_bsc (λ base. base.bscs) refl past (legal_unfolded settings past legal)) (named_once cell_eq added_cell (λ base. base.cells) refl past (legal_unfolded settings past legal))

-- the tables have the numbers of the warning
pub board_is : (settings : Settings) (past : Past) → Legal settings past → (t : Tables) → Consistent t (facts past) → (n : ℕ) (w : Warning) → warning_of (book_of past) n ≡ Some w → total_of t.board n ≡ total past w
board_is settings past legal t is n w found =
    total_is t (facts past) is n (all_spots past) (spots_once settings past legal) off
    ∙ sums_same (λ s. total_of_line (facts past (key_at s n))) (λ s. counted past s.bsc w s.cell) (λ s. total_seen settings past legal (key_at s n) w found) (all_spots past)
    ∙ (λ i. record { awaited = at Awaited i; on_air = at OnAir i; failed = at Failed i; left = at Left i; broadcasts = aired i })
  where
    off : (s : Spot) → is_spot s (all_spots past) ≡ false → total_of_line (facts past (key_at s n)) ≡ zero_numbers
    off s h =
        let outside = blank_outside settings past legal w s h in
        total_seen settings past legal (key_at s n) w found ∙ nothing_counted past s.bsc w s.cell outside.0 outside.1

    at : (x : Way) → sum_of (λ s. one (stands x (stand past s.bsc w s.cell))) (all_spots past) ≡ number past w x
    at x = sum_spots (λ s. one (stands x (stand past s.bsc w s.cell))) (bscs past) (cells past)

    aired : sum_of (λ s. broadcasts_in past w s.bsc s.cell) (all_spots past) ≡ broadcasts past w
    aired = sum_spots (λ s. broadcasts_in past w s.bsc s.cell) (bscs past) (cells past)

-- The numbers of a warning and one of its areas.

nothing_covered : (past : Past) (b : ℕ) (w : Warning) (a : List ℕ) (c : Cell) → IsBlank past b w c → is_place (place past c) b ≡ false → area_counted past b w a c ≡ zero_numbers
nothing_covered past b w a c blank away =
    λ i. record { awaited = none Awaited i; on_air = none OnAir i; failed = none Failed i; left = 0; broadcasts = if away i && covers past a c then sum_of (count past b c w.message_id) (serials w) else 0 }
  where
    -- what stands in no way does so in no area
    off : (t u : Bool) → one t ≡ 0 → one (t && u) ≡ 0
    off true u e = let no : one true ≡ 0 = e in cc
    off false u e = refl

    none : (x : Way) → one (stands x (stand past b w c) && covers past a c) ≡ 0
    none x = off (stands x (stand past b w c)) (covers past a c) (not_counted past x b w c blank)

-- the tables have them
pub area_board_is : (settings : Settings) (past : Past) → Legal settings past → (t : Tables) → Consistent t (facts past) → (n : ℕ) (w : Warning) → warning_of (book_of past) n ≡ Some w → (a : List ℕ) → names a w ≡ true → area_of t.board n a ≡ area_total past a w
area_board_is settings past legal t is n w found a named =
    area_is t (facts past) is n a (all_spots past) (spots_once settings past legal) off
    ∙ sums_same (λ s. area_of_line a (facts past (key_at s n))) (λ s. area_counted past s.bsc w a s.cell) (λ s. area_seen settings past legal (key_at s n) w found a named) (all_spots past)
    ∙ (λ i. record { awaited = at Awaited i; on_air = at OnAir i; failed = at Failed i; left = sum_none (λ (s : Spot). 0) (λ s. refl) (all_spots past) i; broadcasts = aired i })
  where
    off : (s : Spot) → is_spot s (all_spots past) ≡ false → area_of_line a (facts past (key_at s n)) ≡ zero_numbers
    off s h =
        let outside = blank_outside settings past legal w s h in
        area_seen settings past legal (key_at s n) w found a named ∙ nothing_covered past s.bsc w a s.cell outside.0 outside.1

    at : (x : Way) → sum_of (λ s. one (stands x (stand past s.bsc w s.cell) && covers past a s.cell)) (all_spots past) ≡ area_number past w a x
    at x = sum_spots (λ s. one (stands x (stand past s.bsc w s.cell) && covers past a s.cell)) (bscs past) (cells past)

    aired : sum_of (λ s. area_broadcasts_in past w a s.bsc s.cell) (all_spots past) ≡ area_broadcasts past w a
    aired = sum_spots (λ s. area_broadcasts_in past w a s.bsc s.cell) (bscs past) (cells past)

-- the board of a warning that the book may have
abbrev pub total_if : Tables → ℕ → Option Warning → Option Numbers
total_if t n None = None
total_if t n (Some w) = Some (total_of t.board n)

pub board_if : (settings : Settings) (past : Past) → Legal settings past → (st : State) → st ≡ book_of past → (t : Tables) → Consistent t (facts past) → (n : ℕ) → total_if t n (warning_of st n) ≡ board past n
board_if settings past legal st same t is n =
    ap (λ k. total_if t n (warning_of k n)) same ∙ step (warning_of (book_of past) n) refl
  where
    step : (o : Option Warning) → warning_of (book_of past) n ≡ o → total_if t n o ≡ option_map (total past) o
    step None e = refl
    step (Some w) e = ap (λ x. Some x) (board_is settings past legal t is n w e)

-- the numbers of a warning and an area, by what is kept: where the warning names the area
abbrev pub named_if : Tables → List ℕ → Warning → Result Numbers Refusal
named_if t a w = if names a w then Ok (area_of t.board w.number a) else Err AreaNotThere

pub named_is : (settings : Settings) (past : Past) → Legal settings past → (t : Tables) → Consistent t (facts past) → (n : ℕ) (a : List ℕ) (w : Warning) → warning_of (book_of past) n ≡ Some w → named_if t a w ≡ named_area past a w
named_is settings past legal t is n a w found = step (names a w) refl
  where
    mine : w.number ≡ n
    mine = eqb-true w.number n (find_passes (has_number n) (warnings_of past) w found)

    step : (u : Bool) → names a w ≡ u → (if u then Ok (area_of t.board w.number a) else Err AreaNotThere) ≡ (if u then Ok (area_total past a w) else Err AreaNotThere)
    step true e = ap (λ (x : Numbers). Ok x) (ap (λ k. area_of t.board k a) mine ∙ area_board_is settings past legal t is n w found a e)
    step false e = refl

-- where there is such a warning, and such an area
abbrev pub area_if : Tables → List ℕ → Option Warning → Result Numbers Refusal
area_if t a None = Err NoSuchWarning
area_if t a (Some w) = named_if t a w

pub area_board_if : (settings : Settings) (past : Past) → Legal settings past → (l : List Area) → AreAreasOf past l → (st : State) → st ≡ book_of past → (t : Tables) → Consistent t (facts past) → (n : ℕ) (a : List ℕ) → has_area l a ≡ true → area_if t a (warning_of st n) ≡ area_board past n a
area_board_if settings past legal l selected st same t is n a there =
    ap (λ k. area_if t a (warning_of k n)) same
    ∙ step (warning_of (book_of past) n) refl
    ∙ ap (λ u. if u then warning_area past a (warning_of (book_of past) n) else Err NoSuchArea) (sym there ∙ selected.names a)
  where
    step : (o : Option Warning) → warning_of (book_of past) n ≡ o → area_if t a o ≡ warning_area past a o
    step None e = refl
    step (Some w) e = named_is settings past legal t is n a w e
