-- No key is ordered twice, and no order in flight names a cell twice.
use Rattle.std.proofs.Common.{◌≡◌, arith, ℕ, zero, suc, ◌+◌, ◌≤◌, Bool, true, false, ◌&&◌, ◌||◌, not, nat_eq, List, [], ◌∷◌, ◌++◌, Option, Some, None, filter, map, take, refl, sym, ◌∙◌, ap, eqb-true, eq-eqb}
use Rattle.std.specs.Prelude.{if◌then◌else◌}
use Rattle.std.specs.Cmp.{unsigned_Decides}
use Rattle.std.specs.List.{list_any, list_all}
use Rattle.std.specs.Option.{option_map}
use Rattle.std.proofs.lemmas.Bool.{and_parts, and_from, not-true, not-false, not_from_false}
use Rattle.common.specs.Cell.{cell_eq, cell_lt}
use Rattle.common.specs.Equality.{cell_decides}
use Rattle.common.specs.OnceLaws.{DecidesAll, once_filter, turned}
use Rattle.common.specs.Order.{inserted, each_once}
use Rattle.common.specs.Sorting.{sorted_by}
use Rattle.common.specs.SumLaws.{sum_none, count_append, count_flat_map}
use Rattle.common.specs.Sums.{one, sum_of, count_of}
use Rattle.common.specs.declared.cell.Cell.{Cell}
use Rattle.mirror.specs.Seen.{Seen, is_absent, is_the}
use Rattle.warning_book.specs.Sound.{has_serials, IsSound}
use Rattle.warning_book.specs.VersionLaws.{one_version}
use Rattle.warning_book.specs.declared.version.Version.{Version}
use Rattle.warning_book.specs.declared.warning.Warning.{Warning}
use Rattle.order_maker.specs.Actions.{in_cell, deed, needs, replaced, replaced_for, fresh_kind, fresh, is_to_kill, kills, deeds}
use Rattle.centre_events.specs.Effects.{is_among}
use Rattle.order_maker.specs.Grouping.{action_lt, in_order, alone, fits, kind_eq, joined, grouped, first, most_cells}
use Rattle.centre_events.specs.Asking.{is_asked}
use Rattle.centre_events.specs.InFlight.{in_flight, asked_flight, cells_of}
use Rattle.centre_past.specs.Legal.{Legal}
use Rattle.centre_events.specs.Lines.{seen}
use Rattle.centre_events.specs.Past.{Past, From, After}
use Rattle.centre_events.specs.Pending.{actions, actions_in, all_actions, pending}
use Rattle.centre_events.specs.Places.{added_cell, cells}
use Rattle.centre_events.specs.Plan.{wanted}
use Rattle.centre_events.specs.Warnings.{book_of, warnings_of, serials, is_version, has_key}
use Rattle.centre_events.specs.declared.answer.Answer.{Answer}
use Rattle.order_maker.specs.declared.action.Action.{Action}
use Rattle.order_maker.specs.declared.deed.Deed.{Deed}
use Rattle.centre_events.specs.declared.in_flight.InFlight.{InFlight}
use Rattle.centre_events.specs.declared.in_flight.InFlight.TheVariants as flight
use Rattle.centre_events.specs.declared.settings.Settings.{Settings}
use Rattle.order_maker.specs.declared.order.Order.{Order}
use Rattle.order_maker.specs.declared.order_kind.OrderKind.{OrderKind}
use Rattle.order_maker.specs.declared.order_kind.OrderKind.TheVariants.{Kill}
use Rattle.centre_past.proofs.ActingLemmas.{does, writes_by, any_deeds}
use Rattle.centre_past.proofs.AnyLemmas.{and_none, any_implies, contrary}
use Rattle.centre_past.proofs.AskLemmas.{IsQuery}
use Rattle.centre_past.proofs.CountLemmas.{named_once}
use Rattle.order_maker.specs.GroupingLaws.{tests, touches, any_grouped}
use Rattle.centre_past.proofs.HeadlineLemmas.{wanted_version}
use Rattle.centre_past.proofs.KnownLemmas.{legal_unfolded, flight_from, flight_none, among_front}
use Rattle.centre_events.proofs.PastLemmas.{any_image}
use Rattle.centre_past.proofs.UniqueLemmas.{unique, count_none, any_none}
use Rattle.centre_past.proofs.WarningLemmas.{legal_sound}

-- Counts.

-- what passes once at most is counted no more than what follows from it
pub count_one : {X : Type 0} (p : X → Bool) (q : Bool) (xs : List X) → count_of p xs ≤ 1 → (list_any p xs ≡ true → q ≡ true) → count_of p xs ≤ one q
count_one p q xs few gives = step (list_any p xs) refl
  where
    step : (t : Bool) → list_any p xs ≡ t → count_of p xs ≤ one q
    step true e = let all : one q ≡ 1 = ap one (gives e) in omega (arith, few, all)
    step false e = omega (arith, count_none p xs e)

-- where it implies another test, no more pass it
one_below : (t u : Bool) → (t ≡ true → u ≡ true) → one t ≤ one u
one_below true u f = let all : one u ≡ 1 = ap one (f refl) in omega (arith, all)
one_below false u f = omega arith

pub sum_below : {X : Type 0} (q : X → Bool) (f g : X → ℕ) → ((x : X) → q x ≡ true → f x ≤ g x) → (xs : List X) → list_all q xs ≡ true → sum_of f xs ≤ sum_of g xs
sum_below q f g e [] h = omega arith
sum_below q f g e (x ∷ xs) h =
    let parts = and_parts (q x) (list_all q xs) h in
    omega (arith, e x parts.0, sum_below q f g e xs parts.1)

pub all_true : {X : Type 0} (xs : List X) → list_all (λ (x : X). true) xs ≡ true
all_true [] = refl
all_true (x ∷ xs) = all_true xs

pub count_map : {X Y : Type 0} (p : Y → Bool) (f : X → Y) (xs : List X) → count_of p (map f xs) ≡ count_of (λ x. p (f x)) xs
count_map p f [] = refl
count_map p f (x ∷ xs) = ap (λ n. one (p (f x)) + n) (count_map p f xs)

count_inserted : {X : Type 0} (before : X → X → Bool) (p : X → Bool) (x : X) (xs : List X) → count_of p (inserted before x xs) ≡ one (p x) + count_of p xs
count_inserted before p x [] = refl
count_inserted {X} before p x (y ∷ ys) = step (count_inserted before p x ys) (before y x)
  where
    step : count_of p (inserted before x ys) ≡ one (p x) + count_of p ys → (t : Bool) → count_of p (if t then y ∷ inserted before x ys else x ∷ y ∷ ys) ≡ one (p x) + (one (p y) + count_of p ys)
    step rest true = omega (arith, rest)
    step rest false = refl

pub count_sorted : {X : Type 0} (before : X → X → Bool) (p : X → Bool) (xs : List X) → count_of p (sorted_by before xs) ≡ count_of p xs
count_sorted before p [] = refl
count_sorted before p (x ∷ xs) = count_inserted before p x (sorted_by before xs) ∙ ap (λ n. one (p x) + n) (count_sorted before p xs)

pub count_implied : {X : Type 0} (p q : X → Bool) → ((x : X) → p x ≡ true → q x ≡ true) → (xs : List X) → count_of p xs ≤ count_of q xs
count_implied p q e xs = sum_below (λ x. true) (λ x. one (p x)) (λ x. one (q x)) (λ x t. one_below (p x) (q x) (e x)) xs (all_true xs)

-- where each thing is counted once at most, none stands twice
once_from : {X : Type 0} (same : X → X → Bool) → ((x : X) → same x x ≡ true) → (xs : List X) → ((z : X) → count_of (same z) xs ≤ 1) → each_once same xs ≡ true
once_from same itself [] few = refl
once_from {X} same itself (x ∷ xs) few =
    and_from (not (list_any (same x) xs)) (each_once same xs) (not_from_false (list_any (same x) xs) none) (once_from same itself xs (λ z. omega (arith, few z)))
  where
    none : list_any (same x) xs ≡ false
    none = let here : one (same x x) ≡ 1 = ap one (itself x) in any_none (same x) xs (omega (arith, few x, here))

-- and the other way about
once_counted : {X : Type 0} (same : X → X → Bool) → DecidesAll same → (z : X) (xs : List X) → each_once same xs ≡ true → count_of (same z) xs ≤ 1
once_counted same d z [] h = omega arith
once_counted {X} same d z (x ∷ xs) h = step (once_counted same d z xs parts.1) (same z x) refl
  where
    parts : (not (list_any (same x) xs) ≡ true) × (each_once same xs ≡ true)
    parts = and_parts (not (list_any (same x) xs)) (each_once same xs) h

    step : count_of (same z) xs ≤ 1 → (t : Bool) → same z x ≡ t → one t + count_of (same z) xs ≤ 1
    step rest true e =
        let none : list_any (same z) xs ≡ false = ap (λ k. list_any (same k) xs) ((d z x).0 e) ∙ not-true (list_any (same x) xs) parts.0 in
        omega (arith, count_none (same z) xs none)
    step rest false e = omega (arith, rest)

-- what stands once by one test stands once by another that tells more apart
once_finer : {X : Type 0} (same finer : X → X → Bool) → ((x y : X) → finer x y ≡ true → same x y ≡ true) → (xs : List X) → each_once same xs ≡ true → each_once finer xs ≡ true
once_finer same finer e [] h = refl
once_finer same finer e (x ∷ xs) h =
    let parts = and_parts (not (list_any (same x) xs)) (each_once same xs) h in
    let none : list_any (finer x) xs ≡ false = contrary (list_any (finer x) xs) (list_any (same x) xs) (any_implies (finer x) (same x) (e x) xs) (not-true (list_any (same x) xs) parts.0) in
    and_from (not (list_any (finer x) xs)) (each_once finer xs) (not_from_false (list_any (finer x) xs) none) (once_finer same finer e xs parts.1)

-- On one line each serial number is ordered once at most.

abbrev has_number : ℕ → Deed → Bool
has_number s e = nat_eq e.serial s

fresh_count : (v : Seen) (s : ℕ) (o : Option ℕ) → count_of (has_number s) (fresh v o) ≤ one (is_the o s)
fresh_count v s None = omega arith
fresh_count v s (Some t) = step (needs v t)
  where
    step : (u : Bool) → count_of (has_number s) (if u then deed v (fresh_kind (replaced v t)) t ∷ [] else []) ≤ one (nat_eq t s)
    step true = omega arith
    step false = omega arith

kills_few : (v : Seen) (s : ℕ) (ts : List ℕ) → count_of (has_number s) (kills v ts) ≤ count_of (λ t. nat_eq t s) ts
kills_few v s [] = omega arith
kills_few v s (t ∷ ts) = step (kills_few v s ts) (is_to_kill v t)
  where
    step : count_of (has_number s) (kills v ts) ≤ count_of (λ u. nat_eq u s) ts → (k : Bool) → count_of (has_number s) ((if k then deed v Kill t ∷ [] else []) ++ kills v ts) ≤ one (nat_eq t s) + count_of (λ u. nat_eq u s) ts
    step rest true = omega (arith, rest)
    step rest false = omega (arith, rest)

-- what is wanted is not killed
kills_none : (v : Seen) (s : ℕ) (ts : List ℕ) → is_the v.wanted s ≡ true → count_of (has_number s) (kills v ts) ≡ 0
kills_none v s [] h = refl
kills_none v s (t ∷ ts) h = step (kills_none v s ts h) (is_to_kill v t) refl (nat_eq t s) refl
  where
    unwanted : is_to_kill v t ≡ true → not (is_the v.wanted t) ≡ true
    unwanted e =
        (and_parts (not (is_the v.wanted t)) (not (v.is_held t) && (not (is_absent (v.presence t)) && not (is_the (replaced_for v v.wanted) t))) (and_parts (not v.down) (not (is_the v.wanted t) && (not (v.is_held t) && (not (is_absent (v.presence t)) && not (is_the (replaced_for v v.wanted) t)))) e).1).0

    step : count_of (has_number s) (kills v ts) ≡ 0 → (k : Bool) → is_to_kill v t ≡ k → (u : Bool) → nat_eq t s ≡ u → count_of (has_number s) ((if k then deed v Kill t ∷ [] else []) ++ kills v ts) ≡ 0
    step rest true e true f =
        absurd (let no : false ≡ true = sym (ap not (ap (is_the v.wanted) (eqb-true t s f) ∙ h)) ∙ unwanted e in cc)
    step rest true e false f = let here : one (nat_eq t s) ≡ 0 = ap one f in omega (arith, rest, here)
    step rest false e u f = rest

deeds_count : (v : Seen) (s : ℕ) → count_of (λ t. nat_eq t s) v.versions ≤ 1 → count_of (has_number s) (deeds v) ≤ 1
deeds_count v s few = step (is_the v.wanted s) refl
  where
    both : count_of (has_number s) (deeds v) ≡ count_of (has_number s) (fresh v v.wanted) + count_of (has_number s) (kills v v.versions)
    both = count_append (has_number s) (fresh v v.wanted) (kills v v.versions)

    step : (t : Bool) → is_the v.wanted s ≡ t → count_of (has_number s) (deeds v) ≤ 1
    step true e =
        let here : one (is_the v.wanted s) ≡ 1 = ap one e in
        omega (arith, both, here, fresh_count v s v.wanted, kills_none v s v.versions e)
    step false e =
        let here : one (is_the v.wanted s) ≡ 0 = ap one e in
        omega (arith, both, here, fresh_count v s v.wanted, kills_few v s v.versions, few)

-- No key is ordered twice.

-- the action is for the key of that cell, message identifier and serial number
abbrev at_serial : ℕ → OrderKind → ℕ → Bool
at_serial s kind t = nat_eq t s

abbrev at_key : Cell → ℕ → ℕ → Action → Bool
at_key c m s = touches (at_serial s) c m

line_count : (c : Cell) (m s : ℕ) (past : Past) (b : ℕ) (w : Warning) (d : Cell) → has_serials w ≡ true → count_of (at_key c m s) (actions past b w d) ≤ 1
line_count c m s past b w d own =
    omega (arith, count_map (at_key c m s) (in_cell d) (deeds (seen past b w d)), count_implied (λ e. at_key c m s (in_cell d e)) (has_number s) numbered (deeds (seen past b w d)), deeds_count (seen past b w d) s versions)
  where
    numbered : (e : Deed) → at_key c m s (in_cell d e) ≡ true → has_number s e ≡ true
    numbered e h = (and_parts (nat_eq e.message_id m && (cell_eq c d || false)) (nat_eq e.serial s) h).1

    versions : count_of (λ t. nat_eq t s) (serials w) ≤ 1
    versions = omega (arith, count_map (λ t. nat_eq t s) (λ (v : Version). v.serial) w.versions, one_version w.versions s own)

wrote : (v : Seen) (s : ℕ) (o : Option ℕ) → writes_by (at_serial s) v o ≡ true → is_the o s ≡ true
wrote v s None h = cc
wrote v s (Some t) h = (and_parts (needs v t) (nat_eq t s) h).1

-- what is ordered is of a version
ordered_version : (past : Past) (b : ℕ) (w : Warning) (d : Cell) (s : ℕ) → does (at_serial s) (seen past b w d) ≡ true → list_any (is_version s) w.versions ≡ true
ordered_version past b w d s h = step (writes_by (at_serial s) (seen past b w d) (wanted past b w d)) refl h
  where
    killed : List ℕ → Bool
    killed ts = list_any (λ t. is_to_kill (seen past b w d) t && nat_eq t s) ts

    step : (t : Bool) → writes_by (at_serial s) (seen past b w d) (wanted past b w d) ≡ t → (t || killed (serials w)) ≡ true → list_any (is_version s) w.versions ≡ true
    step true e g = wanted_version past b w d s (wrote (seen past b w d) s (wanted past b w d) e)
    step false e g =
        sym (any_image (λ n. nat_eq n s) (λ (v : Version). v.serial) w.versions)
        ∙ any_implies (λ t. is_to_kill (seen past b w d) t && nat_eq t s) (λ t. nat_eq t s) (λ t k. (and_parts (is_to_kill (seen past b w d) t) (nat_eq t s) k).1) (serials w) g

line_key : (c : Cell) (m s : ℕ) (past : Past) (b : ℕ) (w : Warning) (d : Cell) → list_any (at_key c m s) (actions past b w d) ≡ true → (cell_eq c d && has_key m s w) ≡ true
line_key c m s past b w d h =
    let parts = and_parts (nat_eq w.message_id m && cell_eq c d) (does (at_serial s) (seen past b w d)) (sym (any_deeds (at_serial s) c m (seen past b w d) d) ∙ h) in
    let place = and_parts (nat_eq w.message_id m) (cell_eq c d) parts.0 in
    and_from (cell_eq c d) (has_key m s w) place.1 (and_from (nat_eq w.message_id m) (list_any (is_version s) w.versions) place.0 (ordered_version past b w d s parts.1))

line_below : (c : Cell) (m s : ℕ) (past : Past) (b : ℕ) (w : Warning) (d : Cell) → has_serials w ≡ true → count_of (at_key c m s) (actions past b w d) ≤ one (cell_eq c d && has_key m s w)
line_below c m s past b w d own =
    count_one (at_key c m s) (cell_eq c d && has_key m s w) (actions past b w d) (line_count c m s past b w d own) (line_key c m s past b w d)

-- in a list that names each cell once
pub cells_below : (c : Cell) (k : Bool) (cs : List Cell) → each_once cell_eq cs ≡ true → count_of (λ d. cell_eq c d && k) cs ≤ one k
cells_below c true cs once = omega (arith, count_implied (λ d. cell_eq c d && true) (cell_eq c) (λ d h. (and_parts (cell_eq c d) true h).0) cs, once_counted cell_eq cell_decides c cs once)
cells_below c false cs once = omega (arith, sum_none (λ d. one (cell_eq c d && false)) (λ d. ap one (and_none (cell_eq c d))) cs)

warning_below : (c : Cell) (m s : ℕ) (past : Past) (b : ℕ) (cs : List Cell) (w : Warning) → each_once cell_eq cs ≡ true → has_serials w ≡ true → count_of (at_key c m s) (actions_in past b cs w) ≤ one (has_key m s w)
warning_below c m s past b cs w once own =
    omega (arith, count_flat_map (at_key c m s) (actions past b w) cs, sum_below (λ d. true) (λ d. count_of (at_key c m s) (actions past b w d)) (λ d. one (cell_eq c d && has_key m s w)) (λ d t. line_below c m s past b w d own) cs (all_true cs), cells_below c (has_key m s w) cs once)

key_count : (settings : Settings) (past : Past) → Legal settings past → (b : ℕ) (c : Cell) (m s : ℕ) → count_of (at_key c m s) (all_actions past b) ≤ 1
key_count settings past legal b c m s =
    omega (arith, count_flat_map (at_key c m s) (actions_in past b (cells past)) (warnings_of past), sum_below has_serials (λ w. count_of (at_key c m s) (actions_in past b (cells past) w)) (λ w. one (has_key m s w)) (λ w own. warning_below c m s past b (cells past) w once own) (warnings_of past) sound.serials, unique (book_of past) sound m s)
  where
    sound : IsSound (book_of past)
    sound = legal_sound settings past legal

    once : each_once cell_eq (cells past) ≡ true
    once = named_once cell_eq added_cell (λ base. base.cells) refl past (legal_unfolded settings past legal)

-- the two are for one key
abbrev one_key : Action → Action → Bool
one_key x y = at_key x.cell x.message_id x.serial y

itself : (x : Action) → one_key x x ≡ true
itself x =
    and_from (nat_eq x.message_id x.message_id && (cell_eq x.cell x.cell || false)) (nat_eq x.serial x.serial) (and_from (nat_eq x.message_id x.message_id) (cell_eq x.cell x.cell || false) (eq-eqb x.message_id x.message_id refl) (ap (λ t. t || false) ((cell_decides x.cell x.cell).1 refl))) (eq-eqb x.serial x.serial refl)

ordered_once : (settings : Settings) (past : Past) → Legal settings past → (b : ℕ) → each_once one_key (all_actions past b) ≡ true
ordered_once settings past legal b = once_from one_key itself (all_actions past b) (λ z. key_count settings past legal b z.cell z.message_id z.serial)

-- no two actions of a BSC are for one key
pub keys_once : (settings : Settings) (past : Past) → Legal settings past → (b : ℕ) → each_once (λ (x y : Action). cell_eq x.cell y.cell && (nat_eq x.message_id y.message_id && nat_eq x.serial y.serial)) (all_actions past b) ≡ true
keys_once settings past legal b =
    once_finer one_key (λ (x y : Action). cell_eq x.cell y.cell && (nat_eq x.message_id y.message_id && nat_eq x.serial y.serial)) finer (all_actions past b) (ordered_once settings past legal b)
  where
    finer : (x y : Action) → (cell_eq x.cell y.cell && (nat_eq x.message_id y.message_id && nat_eq x.serial y.serial)) ≡ true → one_key x y ≡ true
    finer x y h =
        let parts = and_parts (cell_eq x.cell y.cell) (nat_eq x.message_id y.message_id && nat_eq x.serial y.serial) h in
        let ids = and_parts (nat_eq x.message_id y.message_id) (nat_eq x.serial y.serial) parts.1 in
        and_from (nat_eq y.message_id x.message_id && (cell_eq x.cell y.cell || false)) (nat_eq y.serial x.serial)
        (and_from (nat_eq y.message_id x.message_id) (cell_eq x.cell y.cell || false) (turned nat_eq unsigned_Decides y.message_id x.message_id ∙ ids.0) (ap (λ t. t || false) parts.0))
        (turned nat_eq unsigned_Decides y.serial x.serial ∙ ids.1)

-- and so none stands twice, by any test that tells actions apart
pub actions_once : (settings : Settings) (past : Past) → Legal settings past → (b : ℕ) (same : Action → Action → Bool) → ((x y : Action) → same x y ≡ true → x ≡ y) → each_once same (all_actions past b) ≡ true
actions_once settings past legal b same tells =
    once_finer one_key same (λ x y h. ap (one_key x) (sym (tells x y h)) ∙ itself x) (all_actions past b) (ordered_once settings past legal b)

-- The cells of an order.

abbrev has_each : Order → Bool
has_each order = each_once cell_eq order.cells

joined_once : (a : Action) (xs : List Action) (orders : List Order) → grouped xs ≡ orders → list_any (one_key a) xs ≡ false → list_all has_each orders ≡ true → list_all has_each (joined a orders) ≡ true
joined_once a xs [] e none all = refl
joined_once a xs (order ∷ orders) e none all = step (fits a order) refl
  where
    parts : (has_each order ≡ true) × (list_all has_each orders ≡ true)
    parts = and_parts (has_each order) (list_all has_each orders) all

    -- an action in a cell that the order has already is one of those that were joined to it
    joined_to : fits a order ≡ true → is_among a.cell order.cells ≡ true → list_any (one_key a) xs ≡ true
    joined_to f there =
        let ids = and_parts (nat_eq a.message_id order.message_id) (nat_eq a.serial order.serial) (and_parts (kind_eq a.kind order.kind) (nat_eq a.message_id order.message_id && nat_eq a.serial order.serial) f).1 in
        let here : tests (at_serial a.serial) a.cell a.message_id order ≡ true = and_from (nat_eq order.message_id a.message_id && is_among a.cell order.cells) (nat_eq order.serial a.serial) (and_from (nat_eq order.message_id a.message_id) (is_among a.cell order.cells) (turned nat_eq unsigned_Decides order.message_id a.message_id ∙ ids.0) there) (turned nat_eq unsigned_Decides order.serial a.serial ∙ ids.1) in
        sym (any_grouped (at_serial a.serial) a.cell a.message_id xs)
        ∙ ap (list_any (tests (at_serial a.serial) a.cell a.message_id)) e
        ∙ ap (λ t. t || list_any (tests (at_serial a.serial) a.cell a.message_id) orders) here

    step : (t : Bool) → fits a order ≡ t → list_all has_each (if t then record order { cells = a.cell ∷ order.cells } ∷ orders else alone a ∷ order ∷ orders) ≡ true
    step true f =
        let other : is_among a.cell order.cells ≡ false = contrary (is_among a.cell order.cells) (list_any (one_key a) xs) (joined_to f) none in
        and_from (not (is_among a.cell order.cells) && has_each order) (list_all has_each orders) (and_from (not (is_among a.cell order.cells)) (has_each order) (not_from_false (is_among a.cell order.cells) other) parts.0) parts.1
    step false f = all

grouped_once : (xs : List Action) → each_once one_key xs ≡ true → list_all has_each (grouped xs) ≡ true
grouped_once [] h = refl
grouped_once (a ∷ xs) h =
    let parts = and_parts (not (list_any (one_key a) xs)) (each_once one_key xs) h in
    joined_once a xs (grouped xs) refl (not-true (list_any (one_key a) xs) parts.0) (grouped_once xs parts.1)

-- the cells of each pending order stand there once
pub pending_once : (settings : Settings) (past : Past) → Legal settings past → (b : ℕ) → list_all has_each (pending past b) ≡ true
pending_once settings past legal b =
    grouped_once (in_order (all_actions past b))
    (once_from one_key itself (in_order (all_actions past b)) (λ z. omega (arith, count_sorted action_lt (one_key z) (all_actions past b), key_count settings past legal b z.cell z.message_id z.serial)))

front_once : (n : ℕ) (cs : List Cell) → each_once cell_eq cs ≡ true → each_once cell_eq (take n cs) ≡ true
front_once zero cs h = refl
front_once (suc n) [] h = refl
front_once (suc n) (c ∷ cs) h =
    let parts = and_parts (not (is_among c cs)) (each_once cell_eq cs) h in
    let other : is_among c (take n cs) ≡ false = contrary (is_among c (take n cs)) (is_among c cs) (among_front n c cs) (not-true (is_among c cs) parts.0) in
    and_from (not (is_among c (take n cs))) (each_once cell_eq (take n cs)) (not_from_false (is_among c (take n cs)) other) (front_once n cs parts.1)

-- what is in flight names a cell twice
abbrev repeats : Option InFlight → Bool
repeats None = false
repeats (Some f) = not (each_once cell_eq (cells_of f))

first_once : (orders : List Order) → list_all has_each orders ≡ true → repeats (option_map flight.Order (first orders)) ≡ true → false ≡ true
first_once [] h g = g
first_once (order ∷ orders) h g =
    sym (ap not (front_once most_cells order.cells (and_parts (has_each order) (list_all has_each orders) h).0)) ∙ g

asked_once : (settings : Settings) (past : Past) → Legal settings past → (b : ℕ) (a : Answer) → IsQuery past b a → repeats (asked_flight a) ≡ true → false ≡ true
asked_once settings past legal b a query h =
    sym (ap not (front_once most_cells (sorted_by cell_lt asked) (once_from cell_eq (λ c. (cell_decides c c).1 refl) (sorted_by cell_lt asked) few)))
    ∙ (sym (ap (λ x. repeats (asked_flight x)) query.is) ∙ h)
  where
    asked : List Cell
    asked = filter (is_asked past b query.warning.message_id query.serial query.after) (cells past)

    once : each_once cell_eq asked ≡ true
    once =
        once_filter cell_eq (is_asked past b query.warning.message_id query.serial query.after) (cells past) (named_once cell_eq added_cell (λ base. base.cells) refl past (legal_unfolded settings past legal))

    few : (c : Cell) → count_of (cell_eq c) (sorted_by cell_lt asked) ≤ 1
    few c = omega (arith, count_sorted cell_lt (cell_eq c) asked, once_counted cell_eq cell_decides c asked once)

never_repeats : (settings : Settings) (past : Past) → Legal settings past → (b : ℕ) → repeats (in_flight past b) ≡ true → false ≡ true
never_repeats settings (From base) legal b h = flight_none base b repeats false legal refl h
never_repeats settings (After e before) legal b h =
    flight_from settings before e.event e.answer b repeats false legal.0 refl (first_once (pending before b) (pending_once settings before legal.1 b)) (asked_once settings before legal.1 b) (never_repeats settings before legal.1 b) h

-- and those of what is in flight
pub flight_once : (settings : Settings) (past : Past) → Legal settings past → (b : ℕ) (f : InFlight) → in_flight past b ≡ Some f → each_once cell_eq (cells_of f) ≡ true
flight_once settings past legal b f e =
    not-false (each_once cell_eq (cells_of f)) (sym (ap repeats e) ∙ contrary (repeats (in_flight past b)) false (never_repeats settings past legal b) refl)
