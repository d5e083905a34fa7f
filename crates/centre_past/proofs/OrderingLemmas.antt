-- The order of keys by numbers one after another, and images of things that are put in order.
use Rattle.std.proofs.Common.{◌≡◌, ℕ, Bool, true, false, ◌&&◌, ◌||◌, nat_eq, ltb, List, [], ◌∷◌, map, cond, refl, ◌∙◌, ap, subst}
use Rattle.std.specs.Cmp.{unsigned_Decides}
use Rattle.common.specs.Cell.{cell_eq, cell_lt}
use Rattle.common.specs.Equality.{both, amounts}
use Rattle.common.specs.OnceLaws.{DecidesAll}
use Rattle.common.specs.Order.{inserted}
use Rattle.common.specs.Sorting.{comes_before, sorted_by}
use Rattle.common.specs.declared.cell.Cell.{Cell}
use Rattle.order_maker.specs.OrderingLaws.{IsOrder, by_last, tied_last, by_first, tied_first, order_last, order_first}

-- The order of keys, which does not look at presences.

pub record Key : Type 0 where
  pub cell : Cell
  pub message_id : ℕ
  pub serial : ℕ

abbrev pub bare_lt : Key → Key → Bool
bare_lt x y = cell_lt x.cell y.cell || (cell_eq x.cell y.cell && comes_before x.message_id y.message_id (ltb x.serial y.serial))

abbrev pub bare_same : Key → Key → Bool
bare_same = tied_first (λ k. k.cell.lac) (tied_first (λ k. k.cell.ci) (tied_first (λ k. k.message_id) (tied_last (λ k. k.serial))))

abbrev bare_by : Key → Key → Bool
bare_by = by_first (λ k. k.cell.lac) (by_first (λ k. k.cell.ci) (by_first (λ k. k.message_id) (by_last (λ k. k.serial))))

by_order : IsOrder bare_same bare_by
by_order =
    order_first (λ k. k.cell.lac) (tied_first (λ k. k.cell.ci) (tied_first (λ k. k.message_id) (tied_last (λ k. k.serial)))) (by_first (λ k. k.cell.ci) (by_first (λ k. k.message_id) (by_last (λ k. k.serial))))
    (order_first (λ k. k.cell.ci) (tied_first (λ k. k.message_id) (tied_last (λ k. k.serial))) (by_first (λ k. k.message_id) (by_last (λ k. k.serial)))
    (order_first (λ k. k.message_id) (tied_last (λ k. k.serial)) (by_last (λ k. k.serial)) (order_last (λ (k : Key). k.serial))))

-- by the cell as one, or by its two numbers
cell_then : (p q r s t : Bool) → (p || (q && (r || (s && t)))) ≡ ((p || (q && r)) || ((q && s) && t))
cell_then true q r s t = refl
cell_then false true r s t = refl
cell_then false false r s t = refl

pub bare_order : IsOrder bare_same bare_lt
bare_order =
    subst (λ (before : Key → Key → Bool). IsOrder bare_same before)
    (λ i. λ x y. cell_then (ltb x.cell.lac y.cell.lac) (nat_eq x.cell.lac y.cell.lac) (ltb x.cell.ci y.cell.ci) (nat_eq x.cell.ci y.cell.ci) (comes_before x.message_id y.message_id (ltb x.serial y.serial)) i)
    by_order

pub bare_decides : DecidesAll bare_same
bare_decides x y =
    amounts
    (both (nat_eq x.cell.lac y.cell.lac) (nat_eq x.cell.ci y.cell.ci && (nat_eq x.message_id y.message_id && nat_eq x.serial y.serial)) (unsigned_Decides x.cell.lac y.cell.lac)
    (both (nat_eq x.cell.ci y.cell.ci) (nat_eq x.message_id y.message_id && nat_eq x.serial y.serial) (unsigned_Decides x.cell.ci y.cell.ci)
    (both (nat_eq x.message_id y.message_id) (nat_eq x.serial y.serial) (unsigned_Decides x.message_id y.message_id) (unsigned_Decides x.serial y.serial))))
    (λ e. λ i. record { cell = record { lac = e.0 i; ci = e.1.0 i }; message_id = e.1.1.0 i; serial = e.1.1.1 i })
    (λ e. (λ i. (e i).cell.lac, (λ i. (e i).cell.ci, (λ i. (e i).message_id, λ i. (e i).serial))))

-- Images, put in order.

inserted_map : {X Y : Type 0} (h : X → Y) (before : Y → Y → Bool) (x : X) (xs : List X) → inserted before (h x) (map h xs) ≡ map h (inserted (λ u v. before (h u) (h v)) x xs)
inserted_map h before x [] = refl
inserted_map {X} h before x (y ∷ ys) = step (inserted_map h before x ys) (before (h y) (h x))
  where
    step : inserted before (h x) (map h ys) ≡ map h (inserted (λ u v. before (h u) (h v)) x ys) → (t : Bool) → cond t (h y ∷ inserted before (h x) (map h ys)) (h x ∷ h y ∷ map h ys) ≡ map h (cond t (y ∷ inserted (λ u v. before (h u) (h v)) x ys) (x ∷ y ∷ ys))
    step rest true = ap (λ l. h y ∷ l) rest
    step rest false = refl

-- the images in order are the images of what is in the order of its images
pub sorted_map : {X Y : Type 0} (h : X → Y) (before : Y → Y → Bool) (xs : List X) → sorted_by before (map h xs) ≡ map h (sorted_by (λ x y. before (h x) (h y)) xs)
sorted_map h before [] = refl
sorted_map h before (x ∷ xs) = ap (inserted before (h x)) (sorted_map h before xs) ∙ inserted_map h before x (sorted_by (λ u v. before (h u) (h v)) xs)
