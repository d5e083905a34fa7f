-- What is held for a BSC: how it changes with an action, and its orders, in the order in which they are sent.
use Rattle.std.proofs.Common.{◌≡◌, ℕ, ◌+◌, Bool, true, false, cond, ◌&&◌, ◌||◌, not, nat_eq, List, [], ◌∷◌, ◌++◌, filter, map, Some, None, if◌then◌else◌, refl, sym, ◌∙◌, ap, unwrap_or}
use Rattle.std.proofs.lemmas.Bool.{and_parts, and_from}
use Rattle.std.proofs.lemmas.List.Folds.{list_any-append}
use Rattle.std.proofs.lemmas.Map.Keys.{sorted_head, sorted_tail}
use Rattle.std.specs.BTreeMap.{is_at, insert_entry}
use Rattle.std.specs.BTreeMap.Range.{entries_between}
use Rattle.std.specs.Cmp.{unsigned_Decides}
use Rattle.std.specs.List.{list_all, flat_map, AllByRecursion}
use Rattle.std.specs.List.Sorted.{IsStrictlySortedBy}
use Rattle.std.specs.Map.{keys_of, lookup, set_value, remove_entry}
use Rattle.std.specs.Ordering.{is_eq, match_ordering}
use Rattle.std.specs.declared.cmp.Ordering.{Ordering}
use Rattle.std.specs.declared.cmp.Ordering.TheVariants.{Less, Equal, Greater}
use Rattle.std.specs.declared.ops.Bound.TheVariants.{Included, Excluded}
use Rattle.common.specs.Cell.{cell_eq, cell_lt}
use Rattle.common.specs.Order.{is_ascending}
use Rattle.common.specs.OrderLaws.{ascending_map}
use Rattle.common.specs.SortingLaws.{same_ascending, sorted_ascends, any_sorted}
use Rattle.common.specs.declared.cell.Cell.{Cell}
use Rattle.order_maker.specs.Grouping.{action_lt, in_order, joined, grouped, alone}
use Rattle.order_maker.specs.OrderingLaws.{action_decides, action_order}
use Rattle.order_maker.specs.Pending.{OrderKey, HeldOrders, action_eq, is_listed, key_of, action_in, order_in, order_of, least, key_cmp, is_proper, has_cell, has_some, is_whole, cells_at, holds, AreWhole, IsListOf, IsWithoutCell}
use Rattle.order_maker.specs.declared.action.Action.{Action}
use Rattle.order_maker.specs.declared.order.Order.{Order}
use Rattle.order_maker.proofs.KeyLemmas.{key_decides, at_order, at_bsc, at_action, later_order, later_cell, other_order, same_order, at_between}

-- One action more, and one less.

-- from old to new the order has these cells, and no other order changes
abbrev pub IsChanged : OrderKey → List Cell → HeldOrders → HeldOrders → Type 0
IsChanged k cells old new = (q : OrderKey) → cells_at new q ≡ cond (is_at (key_cmp k) q) cells (cells_at old q)

-- the cells are set
pub cells_set : (k : OrderKey) (cells : List Cell) (old new : HeldOrders) → ((q : OrderKey) → lookup (is_at (key_cmp q)) new ≡ cond (is_at (key_cmp k) q) (Some cells) (lookup (is_at (key_cmp q)) old)) → IsChanged k cells old new
cells_set k cells old new h q = step (is_at (key_cmp k) q) (h q)
  where
    step : (t : Bool) → lookup (is_at (key_cmp q)) new ≡ cond t (Some cells) (lookup (is_at (key_cmp q)) old) → cells_at new q ≡ cond t cells (cells_at old q)
    step true e = ap (λ o. unwrap_or o []) e
    step false e = ap (λ o. unwrap_or o []) e

-- the cells of an order that is there
pub cells_found : (k : OrderKey) (cells : List Cell) (held : HeldOrders) → lookup (is_at (key_cmp k)) held ≡ Some cells → cells_at held k ≡ cells
cells_found k cells held h = ap (λ o. unwrap_or o []) h

-- and of one that isn't
pub cells_absent : (k : OrderKey) (held : HeldOrders) → lookup (is_at (key_cmp k)) held ≡ None → cells_at held k ≡ []
cells_absent k held h = ap (λ o. unwrap_or o []) h

-- where the order's cells are what g makes of a cell and of what they were, each order's are what g makes of that cell of
-- the order and of what they were
cell_changed : (g : Bool → Bool → Bool) → ((h : Bool) → g false h ≡ h) → (k : OrderKey) (c : Cell) (cells : List Cell) (old new : HeldOrders) → IsChanged k cells old new → ((x : Cell) → has_cell cells x ≡ g (cell_eq x c) (has_cell (cells_at old k) x)) → (q : OrderKey) (x : Cell) → has_cell (cells_at new q) x ≡ g (is_at (key_cmp k) q && cell_eq x c) (has_cell (cells_at old q) x)
cell_changed g none k c cells old new change is q x =
    ap (λ t. has_cell t x) (change q) ∙ step (is_at (key_cmp k) q) refl
  where
    step : (t : Bool) → is_at (key_cmp k) q ≡ t → has_cell (cond t cells (cells_at old q)) x ≡ g (t && cell_eq x c) (has_cell (cells_at old q) x)
    step true e = is x ∙ ap (λ j. g (cell_eq x c) (has_cell (cells_at old j) x)) ((key_decides k q).0 e)
    step false e = sym (none (has_cell (cells_at old q) x))

-- an action is put in
pub action_put : (b : ℕ) (a : Action) (cells : List Cell) (old new : HeldOrders) → IsChanged (key_of b a) cells old new → ((x : Cell) → has_cell cells x ≡ (cell_eq x a.cell || has_cell (cells_at old (key_of b a)) x)) → (d : ℕ) (x : Action) → holds new d x ≡ ((nat_eq d b && action_eq x a) || holds old d x)
action_put b a cells old new change is d x =
    cell_changed (λ t h. t || h) (λ h. refl) (key_of b a) a.cell cells old new change is (key_of d x) x.cell
    ∙ ap (λ t. t || holds old d x) (at_order b d a x)

and_true : (h : Bool) → (h && true) ≡ h
and_true true = refl
and_true false = refl

-- a cell of an order is taken out
pub cell_taken : (k : OrderKey) (c : Cell) (cells : List Cell) (old new : HeldOrders) → IsChanged k cells old new → ((x : Cell) → has_cell cells x ≡ (has_cell (cells_at old k) x && not (cell_eq x c))) → IsWithoutCell old new k c
cell_taken = cell_changed (λ t h. h && not t) and_true

-- an order that isn't there has none
pub none_there : (k : OrderKey) (c : Cell) (held : HeldOrders) → lookup (is_at (key_cmp k)) held ≡ None → IsWithoutCell held held k c
none_there k c held h q x = step (is_at (key_cmp k) q) refl
  where
    step : (t : Bool) → is_at (key_cmp k) q ≡ t → has_cell (cells_at held q) x ≡ (has_cell (cells_at held q) x && not (t && cell_eq x c))
    step true e =
        let none : cells_at held q ≡ [] = ap (cells_at held) (sym ((key_decides k q).0 e)) ∙ cells_absent k held h in
        rw none refl
    step false e = sym (and_true (has_cell (cells_at held q) x))

-- an order that has no cell left is removed
pub none_left : (k : OrderKey) (c : Cell) (old mid new : HeldOrders) → IsWithoutCell old mid k c → cells_at mid k ≡ [] → ((q : OrderKey) → lookup (is_at (key_cmp q)) new ≡ cond (is_at (key_cmp k) q) None (lookup (is_at (key_cmp q)) mid)) → IsWithoutCell old new k c
none_left k c old mid new h none gone q x = ap (λ t. has_cell t x) (step (is_at (key_cmp k) q) refl (gone q)) ∙ h q x
  where
    step : (t : Bool) → is_at (key_cmp k) q ≡ t → lookup (is_at (key_cmp q)) new ≡ cond t None (lookup (is_at (key_cmp q)) mid) → cells_at new q ≡ cells_at mid q
    step true e f = ap (λ o. unwrap_or o []) f ∙ sym none ∙ ap (cells_at mid) ((key_decides k q).0 e)
    step false e f = ap (λ o. unwrap_or o []) f

-- an action is taken out
pub action_taken : (b : ℕ) (a : Action) (old new : HeldOrders) → IsWithoutCell old new (key_of b a) a.cell → (d : ℕ) (x : Action) → holds new d x ≡ (holds old d x && not (nat_eq d b && action_eq x a))
action_taken b a old new h d x = h (key_of d x) x.cell ∙ ap (λ t. holds old d x && not t) (at_order b d a x)

-- Each order is whole.

whole_parts : (e : OrderKey × List Cell) → is_whole e ≡ true → (is_proper e.0 ≡ true) × ((has_some e.1 ≡ true) × (is_ascending cell_lt e.1 ≡ true))
whole_parts e h =
    let parts = and_parts (is_proper e.0) (has_some e.1 && is_ascending cell_lt e.1) h in
    (parts.0, and_parts (has_some e.1) (is_ascending cell_lt e.1) parts.1)

whole_from : (k : OrderKey) (cells : List Cell) → is_proper k ≡ true → has_some cells ≡ true → is_ascending cell_lt cells ≡ true → is_whole (k, cells) ≡ true
whole_from k cells p s a =
    and_from (is_proper k) (has_some cells && is_ascending cell_lt cells) p (and_from (has_some cells) (is_ascending cell_lt cells) s a)

-- an order that is there has some cells
pub some_found : (test : OrderKey → Bool) (cells : List Cell) (held : HeldOrders) → AreWhole held → lookup test held ≡ Some cells → has_some cells ≡ true
some_found test cells [] h f = cc
some_found test cells (e ∷ es) h f = step (test e.0) f (some_found test cells es parts.1)
  where
    parts : (is_whole e ≡ true) × (list_all is_whole es ≡ true)
    parts = and_parts (is_whole e) (list_all is_whole es) h

    step : (t : Bool) → cond t (Some e.1) (lookup test es) ≡ Some cells → (lookup test es ≡ Some cells → has_some cells ≡ true) → has_some cells ≡ true
    step true g rest = let is : e.1 ≡ cells = cc in ap has_some (sym is) ∙ (whole_parts e parts.0).1.0
    step false g rest = rest g

-- the cells of an order are set
pub whole_set : (test : OrderKey → Bool) (cells : List Cell) (held : HeldOrders) → AreWhole held → has_some cells ≡ true → is_ascending cell_lt cells ≡ true → list_all is_whole (set_value test held cells) ≡ true
whole_set test cells [] h s a = refl
whole_set test cells (e ∷ es) h s a = step (test e.0) (whole_set test cells es parts.1 s a)
  where
    parts : (is_whole e ≡ true) × (list_all is_whole es ≡ true)
    parts = and_parts (is_whole e) (list_all is_whole es) h

    step : (t : Bool) → list_all is_whole (set_value test es cells) ≡ true → list_all is_whole (cond t ((e.0, cells) ∷ es) (e ∷ set_value test es cells)) ≡ true
    step true rest = and_from (is_whole (e.0, cells)) (list_all is_whole es) (whole_from e.0 cells (whole_parts e parts.0).0 s a) parts.1
    step false rest = and_from (is_whole e) (list_all is_whole (set_value test es cells)) parts.0 rest

-- an order is put in
pub whole_inserted : (k : OrderKey) (cells : List Cell) (held : HeldOrders) → AreWhole held → is_proper k ≡ true → has_some cells ≡ true → is_ascending cell_lt cells ≡ true → list_all is_whole (insert_entry key_cmp held k cells) ≡ true
whole_inserted k cells [] h p s a = and_from (is_whole (k, cells)) true (whole_from k cells p s a) refl
whole_inserted k cells (e ∷ es) h p s a = step (key_cmp k e.0) (whole_inserted k cells es parts.1 p s a)
  where
    parts : (is_whole e ≡ true) × (list_all is_whole es ≡ true)
    parts = and_parts (is_whole e) (list_all is_whole es) h

    step : (o : Ordering) → list_all is_whole (insert_entry key_cmp es k cells) ≡ true → list_all is_whole (match_ordering o ((k, cells) ∷ e ∷ es) ((e.0, cells) ∷ es) (e ∷ insert_entry key_cmp es k cells)) ≡ true
    step Less rest = and_from (is_whole (k, cells)) (list_all is_whole (e ∷ es)) (whole_from k cells p s a) h
    step Equal rest = and_from (is_whole (e.0, cells)) (list_all is_whole es) (whole_from e.0 cells (whole_parts e parts.0).0 s a) parts.1
    step Greater rest = and_from (is_whole e) (list_all is_whole (insert_entry key_cmp es k cells)) parts.0 rest

-- an order is removed
pub whole_removed : (test : OrderKey → Bool) (held : HeldOrders) → AreWhole held → AreWhole (remove_entry test held)
whole_removed test [] h = refl
whole_removed test (e ∷ es) h = step (test e.0) (whole_removed test es parts.1)
  where
    parts : (is_whole e ≡ true) × AreWhole es
    parts = and_parts (is_whole e) (list_all is_whole es) h

    step : (t : Bool) → AreWhole (remove_entry test es) → AreWhole (cond t es (e ∷ remove_entry test es))
    step true rest = parts.1
    step false rest = and_from (is_whole e) (list_all is_whole (remove_entry test es)) parts.0 rest

-- an order whose cells were set is removed
pub whole_set_removed : (test : OrderKey → Bool) (cells : List Cell) (held : HeldOrders) → AreWhole held → AreWhole (remove_entry test (set_value test held cells))
whole_set_removed test cells [] h = refl
whole_set_removed test cells (e ∷ es) h = step (test e.0) refl (whole_set_removed test cells es parts.1)
  where
    parts : (is_whole e ≡ true) × AreWhole es
    parts = and_parts (is_whole e) (list_all is_whole es) h

    step : (t : Bool) → test e.0 ≡ t → AreWhole (remove_entry test (set_value test es cells)) → AreWhole (remove_entry test (cond t ((e.0, cells) ∷ es) (e ∷ set_value test es cells)))
    step true f rest = rw f parts.1
    step false f rest = rw f (and_from (is_whole e) (list_all is_whole (remove_entry test (set_value test es cells))) parts.0 rest)

-- The orders of a BSC, and their actions.

abbrev pub orders_for : ℕ → HeldOrders → HeldOrders
orders_for b held = filter (λ e. at_bsc b e.0) held

abbrev actions_of : OrderKey × List Cell → List Action
actions_of e = map (action_in e.0) e.1

abbrev all_actions : ℕ → HeldOrders → List Action
all_actions b held = flat_map actions_of (orders_for b held)

all_append : {A : Type 0} (p : A → Bool) (xs ys : List A) → list_all p xs ≡ true → list_all p ys ≡ true → list_all p (xs ++ ys) ≡ true
all_append p [] ys h g = g
all_append p (x ∷ xs) ys h g =
    let parts = and_parts (p x) (list_all p xs) h in
    and_from (p x) (list_all p (xs ++ ys)) parts.0 (all_append p xs ys parts.1 g)

ascending_append : {A : Type 0} (before : A → A → Bool) (xs ys : List A) → is_ascending before xs ≡ true → is_ascending before ys ≡ true → list_all (λ x. list_all (before x) ys) xs ≡ true → is_ascending before (xs ++ ys) ≡ true
ascending_append before [] ys h g f = g
ascending_append before (x ∷ xs) ys h g f =
    let up = and_parts (list_all (before x) xs) (is_ascending before xs) h in
    let to = and_parts (list_all (before x) ys) (list_all (λ z. list_all (before z) ys) xs) f in
    and_from (list_all (before x) (xs ++ ys)) (is_ascending before (xs ++ ys)) (all_append (before x) xs ys up.0 to.0) (ascending_append before xs ys up.1 g to.1)

-- the order comes before all of these
abbrev IsFirst : OrderKey → HeldOrders → Type 0
IsFirst k held = AllByRecursion (λ j. key_cmp k j ≡ Less) (keys_of held)

-- an action of an order comes before those of a later one
before_order : (b : ℕ) (k j : OrderKey) (c : Cell) → is_proper k ≡ true → is_proper j ≡ true → at_bsc b k ≡ true → at_bsc b j ≡ true → key_cmp k j ≡ Less → (cells : List Cell) → list_all (action_lt (action_in k c)) (map (action_in j) cells) ≡ true
before_order b k j c h g e f l [] = refl
before_order b k j c h g e f l (d ∷ ds) =
    and_from (action_lt (action_in k c) (action_in j d)) (list_all (action_lt (action_in k c)) (map (action_in j) ds)) (later_order b k j c d h g e f l) (before_order b k j c h g e f l ds)

before_all : (b : ℕ) (k : OrderKey) (c : Cell) (held : HeldOrders) → is_proper k ≡ true → at_bsc b k ≡ true → AreWhole held → IsFirst k held → list_all (action_lt (action_in k c)) (all_actions b held) ≡ true
before_all b k c [] h e w l = refl
before_all b k c (j ∷ js) h e w l = step (at_bsc b j.0) refl (before_all b k c js h e parts.1 l.1)
  where
    parts : (is_whole j ≡ true) × (list_all is_whole js ≡ true)
    parts = and_parts (is_whole j) (list_all is_whole js) w

    step : (t : Bool) → at_bsc b j.0 ≡ t → list_all (action_lt (action_in k c)) (all_actions b js) ≡ true → list_all (action_lt (action_in k c)) (flat_map actions_of (if t then j ∷ orders_for b js else orders_for b js)) ≡ true
    step true f rest =
        all_append (action_lt (action_in k c)) (actions_of j) (all_actions b js) (before_order b k j.0 c h (whole_parts j parts.0).0 e f l.0 j.1) rest
    step false f rest = rest

each_before : (b : ℕ) (k : OrderKey) (held : HeldOrders) → is_proper k ≡ true → at_bsc b k ≡ true → AreWhole held → IsFirst k held → (cells : List Cell) → list_all (λ x. list_all (action_lt x) (all_actions b held)) (map (action_in k) cells) ≡ true
each_before b k held h e w l [] = refl
each_before b k held h e w l (c ∷ cs) =
    and_from (list_all (action_lt (action_in k c)) (all_actions b held)) (list_all (λ x. list_all (action_lt x) (all_actions b held)) (map (action_in k) cs)) (before_all b k c held h e w l) (each_before b k held h e w l cs)

-- the actions of a BSC's orders ascend
all_ascend : (b : ℕ) (held : HeldOrders) → AreWhole held → IsStrictlySortedBy key_cmp (keys_of held) → is_ascending action_lt (all_actions b held) ≡ true
all_ascend b [] w s = refl
all_ascend b (e ∷ es) w s = step (at_bsc b e.0) refl (all_ascend b es parts.1 (sorted_tail key_cmp e.0 (keys_of es) s))
  where
    parts : (is_whole e ≡ true) × (list_all is_whole es ≡ true)
    parts = and_parts (is_whole e) (list_all is_whole es) w

    step : (t : Bool) → at_bsc b e.0 ≡ t → is_ascending action_lt (all_actions b es) ≡ true → is_ascending action_lt (flat_map actions_of (if t then e ∷ orders_for b es else orders_for b es)) ≡ true
    step true f rest =
        let whole = whole_parts e parts.0 in
        ascending_append action_lt (actions_of e) (all_actions b es) (ascending_map cell_lt action_lt (action_in e.0) (later_cell e.0) e.1 whole.1.1) rest (each_before b e.0 es whole.0 f parts.1 (sorted_head key_cmp e.0 (keys_of es) s) e.1)
    step false f rest = rest

-- An action is one of them where it is held.

none_later : (k : OrderKey) (held : HeldOrders) → IsFirst k held → lookup (is_at (key_cmp k)) held ≡ None
none_later k [] l = refl
none_later k (e ∷ es) l = ap (λ o. cond (is_eq o) (Some e.1) (lookup (is_at (key_cmp k)) es)) l.0 ∙ none_later k es l.1

and_false : (t : Bool) → false ≡ (t && false)
and_false true = refl
and_false false = refl

spread : (t x y : Bool) → ((t && x) || (t && y)) ≡ (t && (x || y))
spread true x y = refl
spread false x y = refl

-- an action is one of an order's where the order and the cell are its own
order_lists : (b : ℕ) (a : Action) (k : OrderKey) → is_proper k ≡ true → at_bsc b k ≡ true → (cells : List Cell) → is_listed a (map (action_in k) cells) ≡ (is_at (key_cmp (key_of b a)) k && has_cell cells a.cell)
order_lists b a k h e [] = and_false (is_at (key_cmp (key_of b a)) k)
order_lists b a k h e (c ∷ cs) =
    let one : action_eq a (action_in k c) ≡ (is_at (key_cmp (key_of b a)) k && cell_eq a.cell c) = ap (λ t. t && action_eq a (action_in k c)) (sym e) ∙ sym (at_action b a k c h) in
    (λ i. one i || order_lists b a k h e cs i) ∙ spread (is_at (key_cmp (key_of b a)) k) (cell_eq a.cell c) (has_cell cs a.cell)

or_none : (t : Bool) → (t || false) ≡ t
or_none true = refl
or_none false = refl

all_list : (b : ℕ) (a : Action) (held : HeldOrders) → AreWhole held → IsStrictlySortedBy key_cmp (keys_of held) → is_listed a (all_actions b held) ≡ holds held b a
all_list b a [] w s = refl
all_list b a (e ∷ es) w s = step (at_bsc b e.0) refl (is_at (key_cmp (key_of b a)) e.0) refl (all_list b a es parts.1 (sorted_tail key_cmp e.0 (keys_of es) s))
  where
    parts : (is_whole e ≡ true) × (list_all is_whole es ≡ true)
    parts = and_parts (is_whole e) (list_all is_whole es) w

    later : is_at (key_cmp (key_of b a)) e.0 ≡ true → holds es b a ≡ false
    later f =
        let same : key_of b a ≡ e.0 = (key_decides (key_of b a) e.0).0 f in
        ap (λ k. has_cell (cells_at es k) a.cell) same ∙ ap (λ o. has_cell (unwrap_or o []) a.cell) (none_later e.0 es (sorted_head key_cmp e.0 (keys_of es) s))

    own : (u : Bool) → is_at (key_cmp (key_of b a)) e.0 ≡ u → is_listed a (all_actions b es) ≡ holds es b a → ((u && has_cell e.1 a.cell) || is_listed a (all_actions b es)) ≡ has_cell (unwrap_or (cond u (Some e.1) (lookup (is_at (key_cmp (key_of b a))) es)) []) a.cell
    own true f rest = ap (λ t. has_cell e.1 a.cell || t) (rest ∙ later f) ∙ or_none (has_cell e.1 a.cell)
    own false f rest = rest

    step : (t : Bool) → at_bsc b e.0 ≡ t → (u : Bool) → is_at (key_cmp (key_of b a)) e.0 ≡ u → is_listed a (all_actions b es) ≡ holds es b a → is_listed a (flat_map actions_of (if t then e ∷ orders_for b es else orders_for b es)) ≡ has_cell (unwrap_or (cond u (Some e.1) (lookup (is_at (key_cmp (key_of b a))) es)) []) a.cell
    step true g u f rest =
        list_any-append (action_eq a) (actions_of e) (all_actions b es)
        ∙ ap (λ t. t || is_listed a (all_actions b es)) (order_lists b a e.0 (whole_parts e parts.0).0 g e.1 ∙ ap (λ t. t && has_cell e.1 a.cell) f)
        ∙ own u f rest
    step false g true f rest =
        let same : key_of b a ≡ e.0 = (key_decides (key_of b a) e.0).0 f in
        let there : at_bsc b e.0 ≡ true = (unsigned_Decides e.0.bsc b).1 (λ i. (sym same i).bsc) in
        let no : true ≡ false = sym there ∙ g in
        cc
    step false g false f rest = rest

-- The actions, joined to orders, are these orders again.

order_grouped : (k : OrderKey) (c : Cell) (cs : List Cell) (rest : List Action) (orders : List Order) → grouped rest ≡ orders → ((d : Cell) → joined (action_in k d) orders ≡ order_in k (d ∷ []) ∷ orders) → grouped (map (action_in k) (c ∷ cs) ++ rest) ≡ order_in k (c ∷ cs) ∷ orders
order_grouped k c [] rest orders e apart = ap (joined (action_in k c)) e ∙ apart c
order_grouped k c (d ∷ ds) rest orders e apart =
    ap (joined (action_in k c)) (order_grouped k d ds rest orders e apart)
    ∙ ap (λ t. if t then order_in k (c ∷ d ∷ ds) ∷ orders else alone (action_in k c) ∷ order_in k (d ∷ ds) ∷ orders) (same_order k c (d ∷ ds))

-- an action of an order is joined to none of the later ones
order_apart : (b : ℕ) (k : OrderKey) (held : HeldOrders) → is_proper k ≡ true → at_bsc b k ≡ true → AreWhole held → IsFirst k held → (d : Cell) → joined (action_in k d) (map order_of (orders_for b held)) ≡ order_in k (d ∷ []) ∷ map order_of (orders_for b held)
order_apart b k [] h e w l d = refl
order_apart b k (j ∷ js) h e w l d = step (at_bsc b j.0) refl (order_apart b k js h e parts.1 l.1 d)
  where
    parts : (is_whole j ≡ true) × (list_all is_whole js ≡ true)
    parts = and_parts (is_whole j) (list_all is_whole js) w

    step : (t : Bool) → at_bsc b j.0 ≡ t → joined (action_in k d) (map order_of (orders_for b js)) ≡ order_in k (d ∷ []) ∷ map order_of (orders_for b js) → joined (action_in k d) (map order_of (if t then j ∷ orders_for b js else orders_for b js)) ≡ order_in k (d ∷ []) ∷ map order_of (if t then j ∷ orders_for b js else orders_for b js)
    step true f rest =
        ap (λ t. if t then order_in j.0 (d ∷ j.1) ∷ map order_of (orders_for b js) else alone (action_in k d) ∷ order_of j ∷ map order_of (orders_for b js)) (other_order b k j.0 d j.1 h (whole_parts j parts.0).0 e f l.0)
    step false f rest = rest

all_grouped : (b : ℕ) (held : HeldOrders) → AreWhole held → IsStrictlySortedBy key_cmp (keys_of held) → grouped (all_actions b held) ≡ map order_of (orders_for b held)
all_grouped b [] w s = refl
all_grouped b (e ∷ es) w s = step (at_bsc b e.0) refl (all_grouped b es parts.1 (sorted_tail key_cmp e.0 (keys_of es) s))
  where
    parts : (is_whole e ≡ true) × (list_all is_whole es ≡ true)
    parts = and_parts (is_whole e) (list_all is_whole es) w

    one : at_bsc b e.0 ≡ true → grouped (all_actions b es) ≡ map order_of (orders_for b es) → (cells : List Cell) → has_some cells ≡ true → grouped (map (action_in e.0) cells ++ all_actions b es) ≡ order_in e.0 cells ∷ map order_of (orders_for b es)
    one f rest [] some = cc
    one f rest (c ∷ cs) some =
        order_grouped e.0 c cs (all_actions b es) (map order_of (orders_for b es)) rest (order_apart b e.0 es (whole_parts e parts.0).0 f parts.1 (sorted_head key_cmp e.0 (keys_of es) s))

    step : (t : Bool) → at_bsc b e.0 ≡ t → grouped (all_actions b es) ≡ map order_of (orders_for b es) → grouped (flat_map actions_of (if t then e ∷ orders_for b es else orders_for b es)) ≡ map order_of (if t then e ∷ orders_for b es else orders_for b es)
    step true f rest = one f rest e.1 (whole_parts e parts.0).1.0
    step false f rest = rest

-- the orders that are held for a BSC are those of any list of its actions
pub orders_held : (b : ℕ) (held : HeldOrders) → AreWhole held → IsStrictlySortedBy key_cmp (keys_of held) → (actions : List Action) → IsListOf actions held b → map order_of (orders_for b held) ≡ grouped (in_order actions)
orders_held b held w s actions l =
    sym (all_grouped b held w s)
    ∙ ap grouped (same_ascending action_eq action_lt action_decides action_order.0 action_order.1.1 (all_actions b held) (in_order actions)
    (all_ascend b held w s) (sorted_ascends action_eq action_lt action_order.1.0 action_order.1.1 actions l.once)
    (λ a. all_list b a held w s ∙ sym (l.same a) ∙ sym (any_sorted action_lt (action_eq a) actions)))

-- those between the first of a BSC and the first of the next number are those of the BSC
pub orders_between : (b : ℕ) (held : HeldOrders) → entries_between key_cmp (Included (least b)) (Excluded (least (b + 1))) held ≡ orders_for b held
orders_between b held = λ i. filter (λ e. at_between b e.0 i) held
