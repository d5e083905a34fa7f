-- Lists of cells at BSCs in which each stands once.
use Rattle.std.proofs.Common.{◌≡◌, ℕ, zero, suc, ◌+◌, ◌<◌, get_or, ltb, take, Bool, true, false, ◌&&◌, ◌||◌, not, nat_eq, List, [], ◌∷◌, ◌++◌, Option, Some, None, map, length, refl, sym, ◌∙◌, ap, subst, arith, eqb-true, eq-eqb}
use Rattle.std.specs.Prelude.{if◌then◌else◌}
use Rattle.std.specs.Cmp.{unsigned_Decides}
use Rattle.std.specs.List.{filter, list_all, list_any, flat_map}
use Rattle.std.specs.Option.{is_some}
use Rattle.std.proofs.lemmas.Bool.{and_parts, and_from, or_from, or_right, not-true, not_from_false}
use Rattle.std.proofs.lemmas.List.{take_more}
use Rattle.std.proofs.lemmas.List.Folds.{list_any-append}
use Rattle.cell_register.specs.Laws.{cells_in_has, cells_in_ascend}
use Rattle.cell_register.specs.Register.{State, place_in, is_place, cells_in}
use Rattle.cell_register.specs.Sound.{IsRegister}
use Rattle.common.specs.Cell.{cell_eq, cell_lt}
use Rattle.common.specs.Equality.{cell_decides}
use Rattle.common.specs.OnceLaws.{DecidesAll, turned, any_turned, any_filter_same, ascending_once, once_filter, once_key}
use Rattle.common.specs.Order.{is_ascending, each_once}
use Rattle.common.specs.Sums.{count_of}
use Rattle.common.specs.declared.cell.Cell.{Cell}
use Rattle.coverage_plan.specs.Reach.{AreCells}
use Rattle.kept_tables.specs.SpotLaws.{spot_decides}
use Rattle.kept_tables.specs.View.{spot_eq}
use Rattle.kept_tables.specs.declared.spot.Spot.{Spot}
use Rattle.mirror.specs.Known as kept
use Rattle.mirror.specs.Table.{Table}
use Rattle.centre_events.specs.Known.{is_known}
use Rattle.centre_past.specs.Legal.{Legal}
use Rattle.centre_events.specs.Links.{bscs, added_bsc}
use Rattle.centre_events.specs.Past.{Past}
use Rattle.centre_events.specs.Places.{place, cells, added_cell}
use Rattle.centre_events.specs.declared.settings.Settings.{Settings}
use Rattle.centre_past.specs.Reach.{spot, at_bsc, placed_where, known_at}
use Rattle.centre_past.specs.Reaching.{AreSpots, AreThose, is_placed, is_known_among, is_known_at}
use Rattle.centre_past.proofs.AnyLemmas.{or_none, and_none, any_same, any_pulled, any_flat}
use Rattle.centre_past.proofs.CountLemmas.{same_count, named_once, both_or_it}
use Rattle.centre_past.proofs.KnownLemmas.{legal_unfolded, known_place}
use Rattle.centre_past.proofs.MarkLemmas as mark
use Rattle.centre_events.proofs.PastLemmas.{any_image}
use Rattle.centre_past.proofs.RegisterLemmas.{cell_apart, nat_apart}

-- Two lists of the same things.

count_all : {A : Type 0} (xs : List A) → count_of (λ (x : A). true) xs ≡ length xs
count_all [] = refl
count_all (x ∷ xs) = omega (arith, count_all xs)

-- they are as long where each thing stands once
pub as_long : {A : Type 0} (same : A → A → Bool) → DecidesAll same → (xs ys : List A) → each_once same xs ≡ true → each_once same ys ≡ true → ((z : A) → list_any (same z) xs ≡ list_any (same z) ys) → length xs ≡ length ys
as_long same d xs ys once other h = sym (count_all xs) ∙ same_count same d (λ x. true) xs ys once other (λ z. sym (h z))

and_swapped : (a b : Bool) → (a && b) ≡ (b && a)
and_swapped true true = refl
and_swapped true false = refl
and_swapped false true = refl
and_swapped false false = refl

-- lists of what passes tests that agree
pub those : (xs ys : List Spot) (p q : Spot → Bool) → AreSpots xs p → AreSpots ys q → ((s : Spot) → p s ≡ q s) → AreThose xs ys
those xs ys p q here there e = record { same = same; once = here.once; counted = as_long spot_eq spot_decides xs ys here.once there.once same }
  where
    same : (s : Spot) → list_any (spot_eq s) xs ≡ list_any (spot_eq s) ys
    same s = here.each s ∙ e s ∙ sym (there.each s)

-- the same list
pub those_same : (xs ys : List Spot) (p : Spot → Bool) → xs ≡ ys → AreSpots ys p → AreThose xs ys
those_same xs ys p e there = record { same = λ s. ap (list_any (spot_eq s)) e; once = ap (each_once spot_eq) e ∙ there.once; counted = ap length e }

pub spots_same : (xs : List Spot) (p q : Spot → Bool) → ((s : Spot) → p s ≡ q s) → AreSpots xs p → AreSpots xs q
spots_same xs p q e are = record { each = λ s. are.each s ∙ e s; once = are.once }

-- Lists that are made.

pub no_spots : AreSpots [] (λ s. false)
no_spots = record { each = λ s. refl; once = refl }

-- two lists that have nothing in common, one after the other
once_joined : {A : Type 0} (same : A → A → Bool) → DecidesAll same → (xs ys : List A) → ((x : A) → list_any (same x) xs ≡ true → list_any (same x) ys ≡ false) → each_once same xs ≡ true → each_once same ys ≡ true → each_once same (xs ++ ys) ≡ true
once_joined same d [] ys apart once other = other
once_joined same d (x ∷ xs) ys apart once other =
    and_from (not (list_any (same x) (xs ++ ys))) (each_once same (xs ++ ys)) (not_from_false (list_any (same x) (xs ++ ys)) none)
    (once_joined same d xs ys (λ z h. apart z (or_right (same z x) (list_any (same z) xs) h)) parts.1 other)
  where
    parts : (not (list_any (same x) xs) ≡ true) × (each_once same xs ≡ true)
    parts = and_parts (not (list_any (same x) xs)) (each_once same xs) once

    none : list_any (same x) (xs ++ ys) ≡ false
    none =
        list_any-append (same x) xs ys
        ∙ or_from (list_any (same x) xs) (list_any (same x) ys) (not-true (list_any (same x) xs) parts.0) (apart x (ap (λ t. t || list_any (same x) xs) ((d x x).1 refl)))

pub joined_spots : (xs ys : List Spot) (p q : Spot → Bool) → ((s : Spot) → p s ≡ true → q s ≡ false) → AreSpots xs p → AreSpots ys q → AreSpots (xs ++ ys) (λ s. p s || q s)
joined_spots xs ys p q apart here there =
    record {
      each = λ s. list_any-append (spot_eq s) xs ys ∙ ap (λ t. t || list_any (spot_eq s) ys) (here.each s) ∙ ap (λ t. p s || t) (there.each s);
      once = once_joined spot_eq spot_decides xs ys (λ s h. there.each s ∙ apart s (sym (here.each s) ∙ h)) here.once there.once;
    }

-- cells at one BSC
pub spots_at : (b : ℕ) (cs : List Cell) → each_once cell_eq cs ≡ true → AreSpots (map (spot b) cs) (λ s. nat_eq s.bsc b && list_any (cell_eq s.cell) cs)
spots_at b cs once =
    record {
      each = λ s. any_image (spot_eq s) (spot b) cs ∙ any_pulled (nat_eq s.bsc b) (cell_eq s.cell) cs;
      once = once_key spot_eq (spot b) cs ∙ ap (λ t. each_once (λ x y. t && cell_eq x y) cs) (eq-eqb b b refl) ∙ once;
    }

-- cells, each at its BSC if it has one

pub at_same : (s : Spot) (c : Cell) (o : Option ℕ) → list_any (spot_eq s) (at_bsc c o) ≡ (cell_eq s.cell c && is_place o s.bsc)
at_same s c None = sym (and_none (cell_eq s.cell c))
at_same s c (Some b) =
    or_none (nat_eq s.bsc b && cell_eq s.cell c) ∙ and_swapped (nat_eq s.bsc b) (cell_eq s.cell c) ∙ ap (λ t. cell_eq s.cell c && t) (turned nat_eq unsigned_Decides s.bsc b)

pub once_at : (c : Cell) (o : Option ℕ) → each_once spot_eq (at_bsc c o) ≡ true
once_at c None = refl
once_at c (Some b) = refl

-- the one cell at its BSC
pub one_placed : (c : Cell) (o : Option ℕ) → AreSpots (at_bsc c o) (λ s. cell_eq s.cell c && is_place o s.bsc)
one_placed c o = record { each = λ s. at_same s c o; once = once_at c o }

-- a cell that is placed is placed where it is
placed_there : (place_of : Cell → Option ℕ) (s : Spot) (c : Cell) → (cell_eq s.cell c && is_place (place_of c) s.bsc) ≡ (is_place (place_of s.cell) s.bsc && cell_eq s.cell c)
placed_there place_of s c = step (cell_eq s.cell c) refl
  where
    step : (t : Bool) → cell_eq s.cell c ≡ t → (t && is_place (place_of c) s.bsc) ≡ (is_place (place_of s.cell) s.bsc && t)
    step true e = ap (λ d. is_place (place_of d) s.bsc) (sym ((cell_decides s.cell c).0 e)) ∙ and_swapped true (is_place (place_of s.cell) s.bsc)
    step false e = sym (and_none (is_place (place_of s.cell) s.bsc))

pub placed_spots : (place_of : Cell → Option ℕ) (cs : List Cell) → each_once cell_eq cs ≡ true → AreSpots (flat_map (λ c. at_bsc c (place_of c)) cs) (λ s. is_place (place_of s.cell) s.bsc && list_any (cell_eq s.cell) cs)
placed_spots place_of cs once = record { each = λ s. each s cs; once = stand_once cs once }
  where
    each : (s : Spot) (ds : List Cell) → list_any (spot_eq s) (flat_map (λ c. at_bsc c (place_of c)) ds) ≡ (is_place (place_of s.cell) s.bsc && list_any (cell_eq s.cell) ds)
    each s ds =
        any_flat (spot_eq s) (λ c. at_bsc c (place_of c)) ds
        ∙ any_same (λ c. list_any (spot_eq s) (at_bsc c (place_of c))) (λ c. is_place (place_of s.cell) s.bsc && cell_eq s.cell c) (λ c. at_same s c (place_of c) ∙ placed_there place_of s c) ds
        ∙ any_pulled (is_place (place_of s.cell) s.bsc) (cell_eq s.cell) ds

    stand_once : (ds : List Cell) → each_once cell_eq ds ≡ true → each_once spot_eq (flat_map (λ c. at_bsc c (place_of c)) ds) ≡ true
    stand_once [] h = refl
    stand_once (c ∷ ds) h =
        once_joined spot_eq spot_decides (at_bsc c (place_of c)) (flat_map (λ e. at_bsc e (place_of e)) ds) apart (once_at c (place_of c)) (stand_once ds parts.1)
      where
        parts : (not (list_any (cell_eq c) ds) ≡ true) × (each_once cell_eq ds ≡ true)
        parts = and_parts (not (list_any (cell_eq c) ds)) (each_once cell_eq ds) h

        apart : (s : Spot) → list_any (spot_eq s) (at_bsc c (place_of c)) ≡ true → list_any (spot_eq s) (flat_map (λ e. at_bsc e (place_of e)) ds) ≡ false
        apart s g =
            let own = and_parts (cell_eq s.cell c) (is_place (place_of c) s.bsc) (sym (at_same s c (place_of c)) ∙ g) in
            each s ds
            ∙ ap (λ (d : Cell). is_place (place_of s.cell) s.bsc && list_any (cell_eq d) ds) ((cell_decides s.cell c).0 own.0)
            ∙ ap (λ t. is_place (place_of s.cell) s.bsc && t) (not-true (list_any (cell_eq c) ds) parts.0)
            ∙ and_none (is_place (place_of s.cell) s.bsc)

-- what is listed of some BSCs, each once
pub flat_spots : (f : ℕ → List Spot) (k : Spot → Bool) → ((b : ℕ) → AreSpots (f b) (λ s. nat_eq s.bsc b && k s)) → (bs : List ℕ) → each_once nat_eq bs ≡ true → AreSpots (flat_map f bs) (λ s. k s && list_any (nat_eq s.bsc) bs)
flat_spots f k are bs once = record { each = λ s. each s bs; once = stand_once bs once }
  where
    each : (s : Spot) (ds : List ℕ) → list_any (spot_eq s) (flat_map f ds) ≡ (k s && list_any (nat_eq s.bsc) ds)
    each s ds =
        any_flat (spot_eq s) f ds
        ∙ any_same (λ b. list_any (spot_eq s) (f b)) (λ b. k s && nat_eq s.bsc b) (λ b. (are b).each s ∙ and_swapped (nat_eq s.bsc b) (k s)) ds
        ∙ any_pulled (k s) (nat_eq s.bsc) ds

    stand_once : (ds : List ℕ) → each_once nat_eq ds ≡ true → each_once spot_eq (flat_map f ds) ≡ true
    stand_once [] h = refl
    stand_once (b ∷ ds) h = once_joined spot_eq spot_decides (f b) (flat_map f ds) apart (are b).once (stand_once ds parts.1)
      where
        parts : (not (list_any (nat_eq b) ds) ≡ true) × (each_once nat_eq ds ≡ true)
        parts = and_parts (not (list_any (nat_eq b) ds)) (each_once nat_eq ds) h

        apart : (s : Spot) → list_any (spot_eq s) (f b) ≡ true → list_any (spot_eq s) (flat_map f ds) ≡ false
        apart s g =
            let own = and_parts (nat_eq s.bsc b) (k s) (sym ((are b).each s) ∙ g) in
            each s ds
            ∙ ap (λ (d : ℕ). k s && list_any (nat_eq d) ds) (eqb-true s.bsc b own.0)
            ∙ ap (λ t. k s && t) (not-true (list_any (nat_eq b) ds) parts.0)
            ∙ and_none (k s)

-- The lists of a past.

pub cells_once : (settings : Settings) (past : Past) → Legal settings past → each_once cell_eq (cells past) ≡ true
cells_once settings past legal = named_once cell_eq added_cell (λ base. base.cells) refl past (legal_unfolded settings past legal)

pub bscs_once : (settings : Settings) (past : Past) → Legal settings past → each_once nat_eq (bscs past) ≡ true
bscs_once settings past legal = named_once nat_eq added_bsc (λ base. base.bscs) refl past (legal_unfolded settings past legal)

any_kept : (p : Cell → Bool) (c : Cell) (cs : List Cell) → list_any (cell_eq c) (filter p cs) ≡ (p c && list_any (cell_eq c) cs)
any_kept p c cs =
    any_turned cell_eq cell_decides c (filter p cs) ∙ any_filter_same cell_eq cell_decides p c cs ∙ ap (λ t. p c && t) (sym (any_turned cell_eq cell_decides c cs))

pub known_spots : (settings : Settings) (past : Past) → Legal settings past → (b : ℕ) → AreSpots (known_at past b) (λ s. nat_eq s.bsc b && is_known past b s.cell)
known_spots settings past legal b =
    spots_same (known_at past b) (λ s. nat_eq s.bsc b && list_any (cell_eq s.cell) (filter (is_known past b) (cells past))) (λ s. nat_eq s.bsc b && is_known past b s.cell)
    (λ s. ap (λ t. nat_eq s.bsc b && t) (any_kept (is_known past b) s.cell (cells past) ∙ sym (both_or_it (is_known past b s.cell) (list_any (cell_eq s.cell) (cells past)) (mark.known_cell settings past legal b s.cell))))
    (spots_at b (filter (is_known past b) (cells past)) (once_filter cell_eq (is_known past b) (cells past) (cells_once settings past legal)))

pub known_anywhere : (settings : Settings) (past : Past) → Legal settings past → AreSpots (flat_map (known_at past) (bscs past)) (λ s. is_known past s.bsc s.cell)
known_anywhere settings past legal =
    spots_same (flat_map (known_at past) (bscs past)) (λ s. is_known past s.bsc s.cell && list_any (nat_eq s.bsc) (bscs past)) (λ s. is_known past s.bsc s.cell)
    (λ s. sym (both_or_it (is_known past s.bsc s.cell) (list_any (nat_eq s.bsc) (bscs past)) (mark.known_at settings past legal s.bsc s.cell)))
    (flat_spots (known_at past) (λ s. is_known past s.bsc s.cell) there (bscs past) (bscs_once settings past legal))
  where
    there : (b : ℕ) → AreSpots (known_at past b) (λ s. nat_eq s.bsc b && is_known past s.bsc s.cell)
    there b = spots_same (known_at past b) (λ s. nat_eq s.bsc b && is_known past b s.cell) (λ s. nat_eq s.bsc b && is_known past s.bsc s.cell) moved (known_spots settings past legal b)
      where
        moved : (s : Spot) → (nat_eq s.bsc b && is_known past b s.cell) ≡ (nat_eq s.bsc b && is_known past s.bsc s.cell)
        moved s = step (nat_eq s.bsc b) refl
          where
            step : (t : Bool) → nat_eq s.bsc b ≡ t → (t && is_known past b s.cell) ≡ (t && is_known past s.bsc s.cell)
            step true e = ap (λ d. is_known past d s.cell) (sym (eqb-true s.bsc b e))
            step false e = refl

flat_kept : (p : Cell → Bool) (f : Cell → List Spot) (cs : List Cell) → flat_map (λ c. if p c then f c else []) cs ≡ flat_map f (filter p cs)
flat_kept p f [] = refl
flat_kept p f (c ∷ cs) = step (p c) (flat_kept p f cs)
  where
    step : (t : Bool) → flat_map (λ d. if p d then f d else []) cs ≡ flat_map f (filter p cs) → ((if t then f c else []) ++ flat_map (λ d. if p d then f d else []) cs) ≡ flat_map f (if t then c ∷ filter p cs else filter p cs)
    step true rest = ap (λ l. f c ++ l) rest
    step false rest = rest

-- of a past: the cells that pass a test, each at its BSC
pub placed_past : (settings : Settings) (past : Past) → Legal settings past → (p : Cell → Bool) → AreSpots (placed_where past p) (λ s. is_place (place past s.cell) s.bsc && p s.cell)
placed_past settings past legal p =
    subst (λ (l : List Spot). AreSpots l (λ s. is_place (place past s.cell) s.bsc && p s.cell)) (sym (flat_kept p (λ c. at_bsc c (place past c)) (cells past)))
    (spots_same (flat_map (λ c. at_bsc c (place past c)) (filter p (cells past))) (λ s. is_place (place past s.cell) s.bsc && list_any (cell_eq s.cell) (filter p (cells past))) (λ s. is_place (place past s.cell) s.bsc && p s.cell) known (placed_spots (place past) (filter p (cells past)) (once_filter cell_eq p (cells past) (cells_once settings past legal))))
  where
    known : (s : Spot) → (is_place (place past s.cell) s.bsc && list_any (cell_eq s.cell) (filter p (cells past))) ≡ (is_place (place past s.cell) s.bsc && p s.cell)
    known s = ap (λ t. is_place (place past s.cell) s.bsc && t) (any_kept p s.cell (cells past)) ∙ step (is_place (place past s.cell) s.bsc) refl
      where
        step : (t : Bool) → is_place (place past s.cell) s.bsc ≡ t → (t && (p s.cell && list_any (cell_eq s.cell) (cells past))) ≡ (t && p s.cell)
        step true e =
            ap (λ u. p s.cell && u) (known_place past (legal_unfolded settings past legal) s.bsc s.cell e) ∙ sym (and_swapped true (p s.cell))
        step false e = refl

-- The lists that are found from what a centre keeps.

-- cells in order stand each once
pub ascending_cells : (cs : List Cell) → is_ascending cell_lt cs ≡ true → each_once cell_eq cs ≡ true
ascending_cells cs h = ascending_once cell_eq cell_lt cell_apart cs h

-- the cells known at a BSC, from a list of them
pub known_found : (t : Table) (r : State) (b : ℕ) (cs : List Cell) (spots : List Spot) → is_ascending cell_lt cs ≡ true → ((c : Cell) → list_any (cell_eq c) cs ≡ kept.is_known t r b c) → spots ≡ map (spot b) cs → AreSpots spots (is_known_at t r b)
known_found t r b cs spots ascending known is =
    subst (λ (l : List Spot). AreSpots l (is_known_at t r b)) (sym is)
    (spots_same (map (spot b) cs) (λ s. nat_eq s.bsc b && list_any (cell_eq s.cell) cs) (is_known_at t r b) (λ s. ap (λ x. nat_eq s.bsc b && x) (known s.cell)) (spots_at b cs (ascending_cells cs ascending)))

-- a number of an ascending list is none of those before it
all_at : (p : ℕ → Bool) (xs : List ℕ) (i d : ℕ) → list_all p xs ≡ true → i < length xs → p (get_or xs i d) ≡ true
all_at p [] i d h less = absurd (omega (arith, less))
all_at p (x ∷ xs) zero d h less = (and_parts (p x) (list_all p xs) h).0
all_at p (x ∷ xs) (suc i) d h less = all_at p xs i d (and_parts (p x) (list_all p xs) h).1 (omega (arith, less))

none_before : (xs : List ℕ) (i d : ℕ) → is_ascending ltb xs ≡ true → i < length xs → list_any (λ x. nat_eq x (get_or xs i d)) (take i xs) ≡ false
none_before [] zero d h less = refl
none_before [] (suc i) d h less = absurd (omega (arith, less))
none_before (x ∷ xs) zero d h less = refl
none_before (x ∷ xs) (suc i) d h less =
    let parts = and_parts (list_all (ltb x) xs) (is_ascending ltb xs) h in
    or_from (nat_eq x (get_or xs i d)) (list_any (λ y. nat_eq y (get_or xs i d)) (take i xs)) (nat_apart x (get_or xs i d) (all_at (ltb x) xs i d parts.0 (omega (arith, less)))) (none_before xs i d parts.1 (omega (arith, less)))

-- the cells known at more BSCs: those known at one more
known_more : (t : Table) (r : State) (bs : List ℕ) (i d : ℕ) (cs : List Cell) (spots new : List Spot) → is_ascending ltb bs ≡ true → i < length bs → AreSpots spots (is_known_among t r (take i bs)) → is_ascending cell_lt cs ≡ true → ((c : Cell) → list_any (cell_eq c) cs ≡ kept.is_known t r (get_or bs i d) c) → new ≡ spots ++ map (spot (get_or bs i d)) cs → AreSpots new (is_known_among t r (take (i + 1) bs))
known_more t r bs i d cs spots new ascending less before order known is =
    subst (λ (l : List Spot). AreSpots l (is_known_among t r (take (i + 1) bs))) (sym is)
    (spots_same (spots ++ map (spot b) cs) (λ s. is_known_among t r (take i bs) s || is_known_at t r b s) (is_known_among t r (take (i + 1) bs)) both
    (joined_spots spots (map (spot b) cs) (is_known_among t r (take i bs)) (is_known_at t r b) apart before (known_found t r b cs (map (spot b) cs) order known refl)))
  where
    b : ℕ
    b = get_or bs i d

    among : ℕ → Bool
    among k = list_any (λ x. nat_eq x k) (take i bs)

    apart : (s : Spot) → is_known_among t r (take i bs) s ≡ true → is_known_at t r b s ≡ false
    apart s h = step (nat_eq s.bsc b) refl
      where
        step : (u : Bool) → nat_eq s.bsc b ≡ u → (u && kept.is_known t r b s.cell) ≡ false
        step true e =
            absurd (let no : true ≡ false = sym (and_parts (among s.bsc) (kept.is_known t r s.bsc s.cell) h).0 ∙ ap among (eqb-true s.bsc b e) ∙ none_before bs i d ascending less in cc)
        step false e = refl

    there : (s : Spot) → list_any (λ x. nat_eq x s.bsc) (take (i + 1) bs) ≡ (among s.bsc || nat_eq s.bsc b)
    there s =
        ap (list_any (λ x. nat_eq x s.bsc)) (take_more bs i d less)
        ∙ list_any-append (λ x. nat_eq x s.bsc) (take i bs) (b ∷ [])
        ∙ ap (λ u. among s.bsc || u) (or_none (nat_eq b s.bsc) ∙ turned nat_eq unsigned_Decides b s.bsc)

    both : (s : Spot) → (is_known_among t r (take i bs) s || is_known_at t r b s) ≡ is_known_among t r (take (i + 1) bs) s
    both s = step (among s.bsc) (nat_eq s.bsc b) refl ∙ ap (λ u. u && kept.is_known t r s.bsc s.cell) (sym (there s))
      where
        step : (u v : Bool) → nat_eq s.bsc b ≡ v → ((u && kept.is_known t r s.bsc s.cell) || (v && kept.is_known t r b s.cell)) ≡ ((u || v) && kept.is_known t r s.bsc s.cell)
        step u true e = ap (λ k. (u && kept.is_known t r s.bsc s.cell) || kept.is_known t r k s.cell) (sym (eqb-true s.bsc b e)) ∙ either u (kept.is_known t r s.bsc s.cell)
          where
            either : (x y : Bool) → ((x && y) || y) ≡ ((x || true) && y)
            either true true = refl
            either true false = refl
            either false y = refl
        step u false e = or_none (u && kept.is_known t r s.bsc s.cell) ∙ ap (λ x. x && kept.is_known t r s.bsc s.cell) (sym (or_none u))

-- the same where the next BSC is told
pub known_next : (t : Table) (r : State) (bs : List ℕ) (i b : ℕ) (cs : List Cell) (spots new : List Spot) → is_ascending ltb bs ≡ true → i < length bs → b ≡ get_or bs i b → AreSpots spots (is_known_among t r (take i bs)) → is_ascending cell_lt cs ≡ true → ((c : Cell) → list_any (cell_eq c) cs ≡ kept.is_known t r b c) → new ≡ spots ++ map (spot b) cs → AreSpots new (is_known_among t r (take (i + 1) bs))
known_next t r bs i b cs spots new ascending less at before order known is =
    known_more t r bs i b cs spots new ascending less before order (λ c. known c ∙ ap (λ k. kept.is_known t r k c) at) (is ∙ ap (λ k. spots ++ map (spot k) cs) at)

-- the registered cells that a selector names
pub cell_named : (r : State) (c : Cell) (spots : List Spot) → spots ≡ at_bsc c (place_in r c) → AreSpots spots (λ s. is_placed r s && cell_eq c s.cell)
cell_named r c spots is =
    subst (λ (l : List Spot). AreSpots l (λ s. is_placed r s && cell_eq c s.cell)) (sym is)
    (spots_same (at_bsc c (place_in r c)) (λ s. cell_eq s.cell c && is_place (place_in r c) s.bsc) (λ s. is_placed r s && cell_eq c s.cell)
    (λ s. placed_there (place_in r) s c ∙ ap (λ t. is_placed r s && t) (turned cell_eq cell_decides s.cell c)) (one_placed c (place_in r c)))

-- where a cell is placed it has a place
place_there : (o : Option ℕ) (b : ℕ) (t : Bool) → (is_place o b && (is_some o && t)) ≡ (is_place o b && t)
place_there None b t = refl
place_there (Some d) b t = refl

-- the cells of a list, each at its BSC
pub listed_placed : (r : State) (cs : List Cell) (p : Cell → Bool) (spots : List Spot) → each_once cell_eq cs ≡ true → ((c : Cell) → list_any (cell_eq c) cs ≡ (is_some (place_in r c) && p c)) → spots ≡ flat_map (λ c. at_bsc c (place_in r c)) cs → AreSpots spots (λ s. is_placed r s && p s.cell)
listed_placed r cs p spots once has is =
    subst (λ (l : List Spot). AreSpots l (λ s. is_placed r s && p s.cell)) (sym is)
    (spots_same (flat_map (λ c. at_bsc c (place_in r c)) cs) (λ s. is_placed r s && list_any (cell_eq s.cell) cs) (λ s. is_placed r s && p s.cell)
    (λ s. ap (λ t. is_placed r s && t) (has s.cell) ∙ place_there (place_in r s.cell) s.bsc (p s.cell)) (placed_spots (place_in r) cs once))

pub lac_named : (r : State) (lac : ℕ) (spots : List Spot) → IsRegister r → spots ≡ flat_map (λ c. at_bsc c (place_in r c)) (cells_in r lac) → AreSpots spots (λ s. is_placed r s && nat_eq lac s.cell.lac)
lac_named r lac spots sound is =
    listed_placed r (cells_in r lac) (λ c. nat_eq lac c.lac) spots (ascending_cells (cells_in r lac) (cells_in_ascend r lac sound))
    (λ c. any_turned cell_eq cell_decides c (cells_in r lac) ∙ cells_in_has r c lac ∙ ap (λ t. is_some (place_in r c) && t) (turned nat_eq unsigned_Decides c.lac lac)) is

-- the registered cells that pass a test
pub covered_placed : (r : State) (p : Cell → Bool) (cs : List Cell) (spots : List Spot) → AreCells (λ c. is_some (place_in r c) && p c) cs → spots ≡ flat_map (λ c. at_bsc c (place_in r c)) cs → AreSpots spots (λ s. is_placed r s && p s.cell)
covered_placed r p cs spots these is =
    listed_placed r cs p spots (ascending_cells cs these.ordered) (λ c. any_turned cell_eq cell_decides c cs ∙ these.exact c) is
