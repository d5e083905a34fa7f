-- Sorting and grouping change no test of what the actions touch, nor of what all of them are.
use Rattle.std.proofs.Common.{◌≡◌, ℕ, Bool, true, false, ◌&&◌, ◌||◌, nat_eq, List, [], ◌∷◌, if◌then◌else◌, refl, ◌∙◌, ap, eqb-true}
use Rattle.std.proofs.lemmas.Bool.{and_from, and_parts}
use Rattle.std.specs.List.{list_all, list_any}
use Rattle.common.specs.Cell.{cell_eq}
use Rattle.common.specs.SortingLaws.{all_sorted, any_sorted}
use Rattle.common.specs.declared.cell.Cell.{Cell}
use Rattle.order_maker.specs.Grouping.{kind_eq, action_lt, in_order, alone, fits, joined, grouped}
use Rattle.order_maker.specs.declared.action.Action.{Action}
use Rattle.order_maker.specs.declared.order.Order.{Order}
use Rattle.order_maker.specs.declared.order_kind.OrderKind.{OrderKind}
use Rattle.order_maker.specs.declared.order_kind.OrderKind.TheVariants.{Write, Replace, Kill}

-- the order names the cell and has this message identifier
abbrev pub names_cell : Order → Cell → ℕ → Bool
names_cell order c m = nat_eq order.message_id m && list_any (cell_eq c) order.cells

-- an order names the cell with this message identifier, and what it does passes g
abbrev pub tests : (OrderKind → ℕ → Bool) → Cell → ℕ → Order → Bool
tests g c m order = names_cell order c m && g order.kind order.serial

-- the same of one action
abbrev pub touches : (OrderKind → ℕ → Bool) → Cell → ℕ → Action → Bool
touches g c m a = tests g c m (alone a)

pub kind_same : (x y : OrderKind) → kind_eq x y ≡ true → x ≡ y
kind_same Write Write h = refl
kind_same (Replace old) (Replace other) h = ap (λ s. Replace s) (eqb-true old other h)
kind_same Kill Kill h = refl
kind_same x y h = cc

one_more : (x y z g r : Bool) → (((x && (y || z)) && g) || r) ≡ (((x && (y || false)) && g) || (((x && z) && g) || r))
one_more false y z g r = refl
one_more true true z true r = refl
one_more true true true false r = refl
one_more true true false false r = refl
one_more true false z g r = refl

any_joined : (g : OrderKind → ℕ → Bool) (c : Cell) (m : ℕ) (a : Action) (orders : List Order) → list_any (tests g c m) (joined a orders) ≡ (touches g c m a || list_any (tests g c m) orders)
any_joined g c m a [] = refl
any_joined g c m a (order ∷ orders) = step (fits a order) refl
  where
    at_same : (k : OrderKind) (n t : ℕ) → k ≡ order.kind → n ≡ order.message_id → t ≡ order.serial → (((nat_eq order.message_id m && (cell_eq c a.cell || list_any (cell_eq c) order.cells)) && g order.kind order.serial) || list_any (tests g c m) orders) ≡ (((nat_eq n m && (cell_eq c a.cell || false)) && g k t) || (tests g c m order || list_any (tests g c m) orders))
    at_same k n t e f h = rw (e, f, h) (one_more (nat_eq order.message_id m) (cell_eq c a.cell) (list_any (cell_eq c) order.cells) (g order.kind order.serial) (list_any (tests g c m) orders))

    step : (t : Bool) → fits a order ≡ t → list_any (tests g c m) (joined a (order ∷ orders)) ≡ (touches g c m a || list_any (tests g c m) (order ∷ orders))
    step true h =
        let parts = and_parts (kind_eq a.kind order.kind) (nat_eq a.message_id order.message_id && nat_eq a.serial order.serial) h in
        let ids = and_parts (nat_eq a.message_id order.message_id) (nat_eq a.serial order.serial) parts.1 in
        rw h (at_same a.kind a.message_id a.serial (kind_same a.kind order.kind parts.0) (eqb-true a.message_id order.message_id ids.0) (eqb-true a.serial order.serial ids.1))
    step false h = rw h refl

pub any_grouped : (g : OrderKind → ℕ → Bool) (c : Cell) (m : ℕ) (xs : List Action) → list_any (tests g c m) (grouped xs) ≡ list_any (touches g c m) xs
any_grouped g c m [] = refl
any_grouped g c m (a ∷ xs) = any_joined g c m a (grouped xs) ∙ ap (λ t. touches g c m a || t) (any_grouped g c m xs)

-- what the orders touch is what the actions touch
pub any_ordered : (g : OrderKind → ℕ → Bool) (c : Cell) (m : ℕ) (xs : List Action) → list_any (tests g c m) (grouped (in_order xs)) ≡ list_any (touches g c m) xs
any_ordered g c m xs = any_grouped g c m (in_order xs) ∙ any_sorted action_lt (touches g c m) xs

-- the order is of a kind, a message identifier and a serial number that pass
abbrev pub order_passes : (OrderKind → ℕ → ℕ → Bool) → Order → Bool
order_passes p order = p order.kind order.message_id order.serial

-- the same of one action
abbrev pub action_passes : (OrderKind → ℕ → ℕ → Bool) → Action → Bool
action_passes p a = order_passes p (alone a)

all_joined : (p : OrderKind → ℕ → ℕ → Bool) (a : Action) (orders : List Order) → action_passes p a ≡ true → list_all (order_passes p) orders ≡ true → list_all (order_passes p) (joined a orders) ≡ true
all_joined p a [] h g = and_from (action_passes p a) true h refl
all_joined p a (order ∷ orders) h g = step (fits a order)
  where
    step : (t : Bool) → list_all (order_passes p) (if t then record order { cells = a.cell ∷ order.cells } ∷ orders else alone a ∷ order ∷ orders) ≡ true
    step true = g
    step false = and_from (action_passes p a) (list_all (order_passes p) (order ∷ orders)) h g

-- where all actions pass, all orders made of them do
pub all_grouped : (p : OrderKind → ℕ → ℕ → Bool) (xs : List Action) → list_all (action_passes p) xs ≡ true → list_all (order_passes p) (grouped xs) ≡ true
all_grouped p [] h = refl
all_grouped p (a ∷ xs) h =
    let parts = and_parts (action_passes p a) (list_all (action_passes p) xs) h in
    all_joined p a (grouped xs) parts.0 (all_grouped p xs parts.1)

-- and also once they are put in order
pub all_ordered : (p : OrderKind → ℕ → ℕ → Bool) (xs : List Action) → list_all (action_passes p) xs ≡ true → list_all (order_passes p) (grouped (in_order xs)) ≡ true
all_ordered p xs h = all_grouped p (in_order xs) (all_sorted action_lt (action_passes p) xs h)
