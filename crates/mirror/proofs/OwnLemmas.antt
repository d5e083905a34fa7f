-- Cells that identifications with a cell of their own name, and the first slot of a cell.
use Rattle.std.proofs.Common.{◌≡◌, ℕ, Bool, true, false, cond, ◌&&◌, ◌||◌, List, [], ◌∷◌, filter, Some, if◌then◌else◌, refl, sym, ◌∙◌, ap, arith, Less}
use Rattle.std.proofs.lemmas.Bool.Decides.{nat_tests}
use Rattle.std.proofs.lemmas.Grind.{common_steps}
use Rattle.std.proofs.lemmas.Map.Keys.{sorted_head, sorted_tail}
use Rattle.std.specs.BTreeMap.{is_at}
use Rattle.std.specs.BTreeMap.Range.{range_contains}
use Rattle.std.specs.List.{list_any, AllByRecursion}
use Rattle.std.specs.List.Sorted.{IsStrictlySortedBy}
use Rattle.std.specs.Map.{keys_of}
use Rattle.std.specs.declared.ops.Bound.TheVariants.{Included, Unbounded}
use Rattle.cbsp_ie.specs.CellId.{names}
use Rattle.cbsp_ie.specs.declared.cell_id.CellId.{CellId}
use Rattle.cbsp_ie.specs.declared.cell_id.CellId.TheVariants as id
use Rattle.common.specs.Cell.{cell_eq, cell_cmp}
use Rattle.common.specs.Equality.{cell_decides}
use Rattle.common.specs.OnceLaws.{turned}
use Rattle.common.specs.declared.cell.Cell.{Cell}
use Rattle.mirror.proofs.GatherLemmas.{one_more}
use Rattle.mirror.specs.Known.{is_named, own_cell}
use Rattle.mirror.specs.Order.{Slot, slot_cmp, slot_of}
use Rattle.mirror.specs.Table.{is_slot_in}

-- an identification with a cell of its own names no other cell
pub names_own : (plmn : List ℕ) (i : CellId) (x : Cell) → own_cell i ≡ Some x → (d : Cell) → names plmn i d ≡ (names plmn i x && cell_eq x d)
names_own plmn (id.Global own lac ci) x e d = grind (arith, nat_tests, common_steps, e)
names_own plmn (id.LacCi lac ci) x e d = grind (arith, nat_tests, common_steps, e)
names_own plmn (id.Ci ci) x e d = cc
names_own plmn (id.Lai own lac) x e d = cc
names_own plmn (id.Lac lac) x e d = cc
names_own plmn id.All x e d = cc

-- one that was to come is gathered just where it is known and named
pub own_next : (plmn : List ℕ) (known : Cell → Bool) (i : CellId) (x : Cell) → own_cell i ≡ Some x → (is : List CellId) (d : Cell) (n o : Bool) → n ≡ (((names plmn i x && known x) && cell_eq x d) || o) → ((known d && is_named plmn is d) || n) ≡ ((known d && is_named plmn (i ∷ is) d) || o)
own_next plmn known i x e is d n o h =
    ap (λ t. (known d && is_named plmn is d) || t) h ∙ moved (cell_eq x d) refl ∙ ap (λ t. (known d && (t || is_named plmn is d)) || o) (sym (names_own plmn i x e d))
  where
    arranged : (k m r p : Bool) → ((k && r) || (((m && k) && true) || p)) ≡ ((k && ((m && true) || r)) || p)
    arranged true true true p = refl
    arranged true true false p = refl
    arranged true false true p = refl
    arranged true false false p = refl
    arranged false true r p = refl
    arranged false false r p = refl

    apart : (k m s r p : Bool) → ((k && r) || (((m && s) && false) || p)) ≡ ((k && ((m && false) || r)) || p)
    apart k true true r p = refl
    apart k true false r p = refl
    apart k false s r p = refl

    moved : (t : Bool) → cell_eq x d ≡ t → ((known d && is_named plmn is d) || (((names plmn i x && known x) && t) || o)) ≡ ((known d && ((names plmn i x && t) || is_named plmn is d)) || o)
    moved true q =
        ap (λ k. (known d && is_named plmn is d) || (((names plmn i x && k) && true) || o)) (ap known ((cell_decides x d).0 q)) ∙ arranged (known d) (names plmn i x) (is_named plmn is d) o
    moved false q = apart (known d) (names plmn i x) (known x) (is_named plmn is d) o

-- the first of the slots is one of the BSC and the cell
abbrev pub begins_with : ℕ → Cell → List (Slot × Bool) → Bool
begins_with b c [] = false
begins_with b c (e ∷ es) = is_slot_in b c e.0

-- a slot before a cell's first isn't the cell's
pub before_first : (b : ℕ) (c : Cell) (s : Slot) → range_contains slot_cmp (Included (slot_of b c 0)) Unbounded s ≡ false → is_slot_in b c s ≡ false
before_first b c s h = grind (arith, nat_tests, common_steps)

-- and none after one that comes behind the cell's
after_last : (b : ℕ) (c : Cell) (s t : Slot) → range_contains slot_cmp (Included (slot_of b c 0)) Unbounded s ≡ true → is_slot_in b c s ≡ false → slot_cmp s t ≡ Less → is_slot_in b c t ≡ false
after_last b c s t h g l = grind (arith, nat_tests, common_steps)

pub none_after : (b : ℕ) (c : Cell) (s : Slot) → range_contains slot_cmp (Included (slot_of b c 0)) Unbounded s ≡ true → is_slot_in b c s ≡ false → (es : List (Slot × Bool)) → AllByRecursion (λ t. slot_cmp s t ≡ Less) (keys_of es) → false ≡ list_any (λ e. is_slot_in b c e.0) es
none_after b c s h g [] l = refl
none_after b c s h g (e ∷ es) l = none_after b c s h g es l.1 ∙ ap (λ t. t || list_any (λ x. is_slot_in b c x.0) es) (sym (after_last b c s e.0 h g l.0))

-- a slot of the BSC and the cell is there just where the first from where theirs begin is one of theirs
pub first_tells : (b : ℕ) (c : Cell) (es : List (Slot × Bool)) → IsStrictlySortedBy slot_cmp (keys_of es) → begins_with b c (filter (λ e. range_contains slot_cmp (Included (slot_of b c 0)) Unbounded e.0) es) ≡ list_any (λ e. is_slot_in b c e.0) es
first_tells b c [] o = refl
first_tells b c (e ∷ es) o =
    step (range_contains slot_cmp (Included (slot_of b c 0)) Unbounded e.0) refl (first_tells b c es (sorted_tail slot_cmp e.0 (keys_of es) o))
  where
    own : (t : Bool) → is_slot_in b c e.0 ≡ t → range_contains slot_cmp (Included (slot_of b c 0)) Unbounded e.0 ≡ true → t ≡ (t || list_any (λ x. is_slot_in b c x.0) es)
    own true g h = refl
    own false g h = none_after b c e.0 h g es (sorted_head slot_cmp e.0 (keys_of es) o)

    step : (t : Bool) → range_contains slot_cmp (Included (slot_of b c 0)) Unbounded e.0 ≡ t → begins_with b c (filter (λ x. range_contains slot_cmp (Included (slot_of b c 0)) Unbounded x.0) es) ≡ list_any (λ x. is_slot_in b c x.0) es → begins_with b c (if t then e ∷ filter (λ x. range_contains slot_cmp (Included (slot_of b c 0)) Unbounded x.0) es else filter (λ x. range_contains slot_cmp (Included (slot_of b c 0)) Unbounded x.0) es) ≡ (is_slot_in b c e.0 || list_any (λ x. is_slot_in b c x.0) es)
    step true h rest = own (is_slot_in b c e.0) refl h
    step false h rest = rest ∙ ap (λ t. t || list_any (λ x. is_slot_in b c x.0) es) (sym (before_first b c e.0 h))

-- with one cell more, each gathered is that one or was gathered before
pub one_gathered : (x : Cell) (old new : List Cell) → ((q : Cell) → list_any (is_at (cell_cmp q)) new ≡ cond (is_at (cell_cmp x) q) true (list_any (is_at (cell_cmp q)) old)) → (d : Cell) → list_any (cell_eq d) new ≡ (cell_eq x d || list_any (cell_eq d) old)
one_gathered x old new put d = one_more x old new put d ∙ ap (λ t. t || list_any (cell_eq d) old) (turned cell_eq cell_decides d x)
