-- The order of keys, and how actions stand in orders.
use Rattle.std.proofs.Common.{◌≡◌, arith, ℕ, ◌+◌, Bool, true, false, ◌&&◌, ◌||◌, not, nat_eq, ltb, List, Option, Some, None, refl, sym, ◌∙◌, ap}
use Rattle.std.proofs.lemmas.Bool.Decides.{nat_tests}
use Rattle.std.proofs.lemmas.Grind.{common_steps}
use Rattle.std.specs.BTreeMap.{is_at}
use Rattle.std.specs.Bool.{Decides, one_answer}
use Rattle.std.specs.Cmp.{unsigned_Decides}
use Rattle.std.specs.Option.{is_some, option_cmp}
use Rattle.std.specs.Ordering.{ordering_then, nat_cmp, bool_cmp, is_eq, is_lt, is_le}
use Rattle.std.specs.declared.cmp.Ordering.{Ordering}
use Rattle.std.specs.declared.cmp.Ordering.TheVariants.{Less, Equal, Greater}
use Rattle.common.specs.Cell.{cell_eq, cell_lt, cell_cmp}
use Rattle.common.specs.Equality.{both, amounts, cell_decides}
use Rattle.common.specs.Sorting.{comes_before}
use Rattle.common.specs.declared.cell.Cell.{Cell}
use Rattle.order_maker.specs.Grouping.{kind_rank, old_rank, kind_eq, action_lt, fits}
use Rattle.order_maker.specs.OrderingLaws.{action_decides, kind_decides}
use Rattle.order_maker.specs.Pending.{OrderKey, action_eq, is_kill, old_of, kind_of, key_of, action_in, order_in, least, key_cmp, is_proper}
use Rattle.order_maker.specs.declared.action.Action.{Action}
use Rattle.order_maker.specs.declared.order_kind.OrderKind.{OrderKind}
use Rattle.order_maker.specs.declared.order_kind.OrderKind.TheVariants.{Write, Replace, Kill}

-- Which keys are one key, and which cells one cell.

eq_then : (o p : Ordering) → is_eq (ordering_then o p) ≡ (is_eq o && is_eq p)
eq_then Less p = refl
eq_then Equal p = refl
eq_then Greater p = refl

-- two answers one after the other decide two facts
then_decides : (o p : Ordering) {P Q : Type 0} → Decides (is_eq o) P → Decides (is_eq p) Q → Decides (is_eq (ordering_then o p)) (P × Q)
then_decides o p d e = rw (eq_then o p) (both (is_eq o) (is_eq p) d e)

nat_tied : (m n : ℕ) → is_eq (nat_cmp m n) ≡ nat_eq m n
nat_tied m n = grind (arith, nat_tests, common_steps)

nat_decides : (m n : ℕ) → Decides (is_eq (nat_cmp m n)) (m ≡ n)
nat_decides m n = rw (nat_tied m n) (unsigned_Decides m n)

bool_decides : (a b : Bool) → Decides (is_eq (bool_cmp a b)) (a ≡ b)
bool_decides true true = (λ h. refl, λ e. refl)
bool_decides false false = (λ h. refl, λ e. refl)
bool_decides true false = (λ h. cc, λ e. cc)
bool_decides false true = (λ h. cc, λ e. cc)

option_decides : (o p : Option ℕ) → Decides (is_eq (option_cmp nat_cmp o p)) (o ≡ p)
option_decides None None = (λ h. refl, λ e. refl)
option_decides None (Some n) = (λ h. cc, λ e. cc)
option_decides (Some m) None = (λ h. cc, λ e. cc)
option_decides (Some m) (Some n) = amounts (nat_decides m n) (λ e. ap (λ (k : ℕ). Some k) e) (λ e. cc)

-- which of two cells is sought does not matter
pub cell_turned : (x y : Cell) → cell_eq x y ≡ cell_eq y x
cell_turned x y = one_answer (cell_eq x y) (cell_eq y x) (cell_decides x y) (amounts (cell_decides y x) (λ e. sym e) (λ e. sym e))

-- an order is found where it is held, and nowhere else
pub key_decides : (x y : OrderKey) → Decides (is_at (key_cmp x) y) (x ≡ y)
key_decides x y =
    amounts
    (then_decides (nat_cmp x.bsc y.bsc) (ordering_then (bool_cmp x.is_kill y.is_kill) (ordering_then (nat_cmp x.message_id y.message_id) (ordering_then (nat_cmp x.serial y.serial) (option_cmp nat_cmp x.old y.old)))) (nat_decides x.bsc y.bsc)
    (then_decides (bool_cmp x.is_kill y.is_kill) (ordering_then (nat_cmp x.message_id y.message_id) (ordering_then (nat_cmp x.serial y.serial) (option_cmp nat_cmp x.old y.old))) (bool_decides x.is_kill y.is_kill)
    (then_decides (nat_cmp x.message_id y.message_id) (ordering_then (nat_cmp x.serial y.serial) (option_cmp nat_cmp x.old y.old)) (nat_decides x.message_id y.message_id)
    (then_decides (nat_cmp x.serial y.serial) (option_cmp nat_cmp x.old y.old) (nat_decides x.serial y.serial) (option_decides x.old y.old)))))
    (λ e. λ i. record { bsc = e.0 i; is_kill = e.1.0 i; message_id = e.1.1.0 i; serial = e.1.1.1.0 i; old = e.1.1.1.1 i })
    (λ e. (λ i. (e i).bsc, (λ i. (e i).is_kill, (λ i. (e i).message_id, (λ i. (e i).serial, λ i. (e i).old)))))

-- Keys and actions.

kind_back : (k : OrderKind) → kind_of (is_kill k) (old_of k) ≡ k
kind_back Write = refl
kind_back (Replace old) = refl
kind_back Kill = refl

-- the order of an action, in the cell of the action, is the action
pub action_back : (b : ℕ) (a : Action) → action_in (key_of b a) a.cell ≡ a
action_back b a = λ i. record a { kind = kind_back a.kind i }

kill_back : (k : Bool) (old : Option ℕ) → not (k && is_some old) ≡ true → is_kill (kind_of k old) ≡ k
kill_back true None h = refl
kill_back true (Some old) h = cc
kill_back false None h = refl
kill_back false (Some old) h = refl

old_back : (k : Bool) (old : Option ℕ) → not (k && is_some old) ≡ true → old_of (kind_of k old) ≡ old
old_back true None h = refl
old_back true (Some old) h = cc
old_back false None h = refl
old_back false (Some old) h = refl

-- an order of some kind is that of each of its actions
pub key_back : (k : OrderKey) (c : Cell) → is_proper k ≡ true → key_of k.bsc (action_in k c) ≡ k
key_back k c h = λ i. record k { is_kill = kill_back k.is_kill k.old h i; old = old_back k.is_kill k.old h i }

-- each order of an action is of some kind
pub proper_key : (b : ℕ) (a : Action) → is_proper (key_of b a) ≡ true
proper_key b a = of_kind a.kind
  where
    of_kind : (k : OrderKind) → not (is_kill k && is_some (old_of k)) ≡ true
    of_kind Write = refl
    of_kind (Replace old) = refl
    of_kind Kill = refl

-- two actions are one where their orders and their cells are one, for one BSC
pub at_order : (b d : ℕ) (a x : Action) → (is_at (key_cmp (key_of b a)) (key_of d x) && cell_eq x.cell a.cell) ≡ (nat_eq d b && action_eq x a)
at_order b d a x =
    one_answer (is_at (key_cmp (key_of b a)) (key_of d x) && cell_eq x.cell a.cell) (nat_eq d b && action_eq x a)
    (both (is_at (key_cmp (key_of b a)) (key_of d x)) (cell_eq x.cell a.cell) (key_decides (key_of b a) (key_of d x)) (cell_decides x.cell a.cell))
    (amounts (both (nat_eq d b) (action_eq x a) (unsigned_Decides d b) (action_decides x a))
    (λ e. (λ i. key_of (sym e.0 i) (sym e.1 i), λ i. (e.1 i).cell))
    (λ e. (λ i. (sym e.0 i).bsc, sym (action_back d x) ∙ (λ i. action_in (sym e.0 i) (e.1 i)) ∙ action_back b a)))

-- the order is one of the BSC
abbrev pub at_bsc : ℕ → OrderKey → Bool
at_bsc b k = nat_eq k.bsc b

-- an action is one of an order of its BSC, in one of the order's cells
pub at_action : (b : ℕ) (a : Action) (k : OrderKey) (c : Cell) → is_proper k ≡ true → (is_at (key_cmp (key_of b a)) k && cell_eq a.cell c) ≡ (at_bsc b k && action_eq a (action_in k c))
at_action b a k c h =
    one_answer (is_at (key_cmp (key_of b a)) k && cell_eq a.cell c) (at_bsc b k && action_eq a (action_in k c))
    (both (is_at (key_cmp (key_of b a)) k) (cell_eq a.cell c) (key_decides (key_of b a) k) (cell_decides a.cell c))
    (amounts (both (nat_eq k.bsc b) (action_eq a (action_in k c)) (unsigned_Decides k.bsc b) (action_decides a (action_in k c)))
    (λ e. ((λ i. key_of (sym e.0 i) (e.1 i)) ∙ key_back k c h, λ i. (e.1 i).cell))
    (λ e. (λ i. (sym e.0 i).bsc, sym (action_back b a) ∙ (λ i. action_in (e.0 i) (e.1 i)))))

-- Which comes first.

lt_then : (o r : Ordering) → is_lt (ordering_then o r) ≡ (is_lt o || (is_eq o && is_lt r))
lt_then Less r = refl
lt_then Equal r = refl
lt_then Greater r = refl

nat_before : (m n : ℕ) → is_lt (nat_cmp m n) ≡ ltb m n
nat_before m n = grind (arith, nat_tests, common_steps)

by_nat : (m n : ℕ) (r : Ordering) (rest : Bool) → is_lt r ≡ rest → is_lt (ordering_then (nat_cmp m n) r) ≡ comes_before m n rest
by_nat m n r rest h = lt_then (nat_cmp m n) r ∙ (λ i. nat_before m n i || (nat_tied m n i && h i))

by_kind : (j k : OrderKind) (r : Ordering) (rest : Bool) → is_lt r ≡ rest → is_lt (ordering_then (bool_cmp (is_kill j) (is_kill k)) r) ≡ comes_before (kind_rank j) (kind_rank k) rest
by_kind Write Write r rest h = h
by_kind Write (Replace p) r rest h = h
by_kind Write Kill r rest h = refl
by_kind (Replace o) Write r rest h = h
by_kind (Replace o) (Replace p) r rest h = h
by_kind (Replace o) Kill r rest h = refl
by_kind Kill Write r rest h = refl
by_kind Kill (Replace p) r rest h = refl
by_kind Kill Kill r rest h = h

suc_before : (m n : ℕ) (r : Bool) → comes_before m n r ≡ comes_before (m + 1) (n + 1) r
suc_before m n true = grind (arith, nat_tests, common_steps)
suc_before m n false = grind (arith, nat_tests, common_steps)

none_first : (n : ℕ) (r : Bool) → true ≡ comes_before 0 (n + 1) r
none_first n true = grind (arith, nat_tests, common_steps)
none_first n false = grind (arith, nat_tests, common_steps)

some_last : (n : ℕ) (r : Bool) → false ≡ comes_before (n + 1) 0 r
some_last n true = grind (arith, nat_tests, common_steps)
some_last n false = grind (arith, nat_tests, common_steps)

by_old : (j k : OrderKind) (r : Ordering) (rest : Bool) → is_lt r ≡ rest → is_lt (ordering_then (option_cmp nat_cmp (old_of j) (old_of k)) r) ≡ comes_before (old_rank j) (old_rank k) rest
by_old Write Write r rest h = h
by_old Write (Replace p) r rest h = none_first p rest
by_old Write Kill r rest h = h
by_old (Replace o) Write r rest h = some_last o rest
by_old (Replace o) (Replace p) r rest h = by_nat o p r rest h ∙ suc_before o p rest
by_old (Replace o) Kill r rest h = some_last o rest
by_old Kill Write r rest h = h
by_old Kill (Replace p) r rest h = none_first p rest
by_old Kill Kill r rest h = h

pub cell_before : (x y : Cell) → is_lt (cell_cmp x y) ≡ cell_lt x y
cell_before x y = by_nat x.lac y.lac (nat_cmp x.ci y.ci) (ltb x.ci y.ci) (nat_before x.ci y.ci)

nat_itself : (n : ℕ) → nat_cmp n n ≡ Equal
nat_itself n = grind (arith, nat_tests, common_steps)

then_last : (o p q r : Ordering) (s : Ordering) → ordering_then o (ordering_then p (ordering_then q (ordering_then r s))) ≡ ordering_then (ordering_then o (ordering_then p (ordering_then q r))) s
then_last Less p q r s = refl
then_last Greater p q r s = refl
then_last Equal Less q r s = refl
then_last Equal Greater q r s = refl
then_last Equal Equal Less r s = refl
then_last Equal Equal Greater r s = refl
then_last Equal Equal Equal r s = refl

-- the actions of one BSC stand in the order of their orders, and those of one order in that of their cells
pub orders_before : (b : ℕ) (x y : Action) → is_lt (ordering_then (key_cmp (key_of b x) (key_of b y)) (cell_cmp x.cell y.cell)) ≡ action_lt x y
orders_before b x y =
    ap (λ o. is_lt (ordering_then (ordering_then o (ordering_then (bool_cmp (is_kill x.kind) (is_kill y.kind)) (ordering_then (nat_cmp x.message_id y.message_id) (ordering_then (nat_cmp x.serial y.serial) (option_cmp nat_cmp (old_of x.kind) (old_of y.kind)))))) (cell_cmp x.cell y.cell))) (nat_itself b)
    ∙ ap is_lt (sym (then_last (bool_cmp (is_kill x.kind) (is_kill y.kind)) (nat_cmp x.message_id y.message_id) (nat_cmp x.serial y.serial) (option_cmp nat_cmp (old_of x.kind) (old_of y.kind)) (cell_cmp x.cell y.cell)))
    ∙ by_kind x.kind y.kind (ordering_then (nat_cmp x.message_id y.message_id) (ordering_then (nat_cmp x.serial y.serial) (ordering_then (option_cmp nat_cmp (old_of x.kind) (old_of y.kind)) (cell_cmp x.cell y.cell)))) (comes_before x.message_id y.message_id (comes_before x.serial y.serial (comes_before (old_rank x.kind) (old_rank y.kind) (cell_lt x.cell y.cell))))
    (by_nat x.message_id y.message_id (ordering_then (nat_cmp x.serial y.serial) (ordering_then (option_cmp nat_cmp (old_of x.kind) (old_of y.kind)) (cell_cmp x.cell y.cell))) (comes_before x.serial y.serial (comes_before (old_rank x.kind) (old_rank y.kind) (cell_lt x.cell y.cell)))
    (by_nat x.serial y.serial (ordering_then (option_cmp nat_cmp (old_of x.kind) (old_of y.kind)) (cell_cmp x.cell y.cell)) (comes_before (old_rank x.kind) (old_rank y.kind) (cell_lt x.cell y.cell))
    (by_old x.kind y.kind (cell_cmp x.cell y.cell) (cell_lt x.cell y.cell) (cell_before x.cell y.cell))))

-- of two orders of a BSC, all actions of the first come before those of the second
pub later_order : (b : ℕ) (k j : OrderKey) (c d : Cell) → is_proper k ≡ true → is_proper j ≡ true → at_bsc b k ≡ true → at_bsc b j ≡ true → key_cmp k j ≡ Less → action_lt (action_in k c) (action_in j d) ≡ true
later_order b k j c d h g e f l =
    sym (orders_before b (action_in k c) (action_in j d))
    ∙ (λ i. is_lt (ordering_then (key_cmp (back k c h e i) (back j d g f i)) (cell_cmp c d)))
    ∙ ap (λ o. is_lt (ordering_then o (cell_cmp c d))) l
  where
    back : (t : OrderKey) (x : Cell) → is_proper t ≡ true → at_bsc b t ≡ true → key_of b (action_in t x) ≡ t
    back t x p q = (λ i. key_of (sym ((unsigned_Decides t.bsc b).0 q) i) (action_in t x)) ∙ key_back t x p

key_itself : (k : OrderKey) → is_eq (key_cmp k k) ≡ true
key_itself k = (key_decides k k).1 refl

equal_is : (o : Ordering) → is_eq o ≡ true → o ≡ Equal
equal_is Less h = cc
equal_is Equal h = refl
equal_is Greater h = cc

-- the actions of one order stand in the order of their cells
pub later_cell : (k : OrderKey) (c d : Cell) → cell_lt c d ≡ true → action_lt (action_in k c) (action_in k d) ≡ true
later_cell k c d h =
    sym (orders_before 0 (action_in k c) (action_in k d))
    ∙ ap (λ o. is_lt (ordering_then o (cell_cmp c d))) (equal_is (key_cmp (key_of 0 (action_in k c)) (key_of 0 (action_in k c))) (key_itself (key_of 0 (action_in k c))))
    ∙ cell_before c d ∙ h

-- an action of one order is no other's, for one BSC
pub other_order : (b : ℕ) (k j : OrderKey) (c : Cell) (cells : List Cell) → is_proper k ≡ true → is_proper j ≡ true → at_bsc b k ≡ true → at_bsc b j ≡ true → key_cmp k j ≡ Less → fits (action_in k c) (order_in j cells) ≡ false
other_order b k j c cells h g e f l = step (fits (action_in k c) (order_in j cells)) refl
  where
    back : (t : OrderKey) → is_proper t ≡ true → at_bsc b t ≡ true → key_of b (action_in t c) ≡ t
    back t p q = (λ i. key_of (sym ((unsigned_Decides t.bsc b).0 q) i) (action_in t c)) ∙ key_back t c p

    step : (t : Bool) → fits (action_in k c) (order_in j cells) ≡ t → t ≡ false
    step false q = refl
    step true q =
        let parts = (both (kind_eq (kind_of k.is_kill k.old) (kind_of j.is_kill j.old)) (nat_eq k.message_id j.message_id && nat_eq k.serial j.serial) (kind_decides (kind_of k.is_kill k.old) (kind_of j.is_kill j.old)) (both (nat_eq k.message_id j.message_id) (nat_eq k.serial j.serial) (unsigned_Decides k.message_id j.message_id) (unsigned_Decides k.serial j.serial))).0 q in
        let one : action_in k c ≡ action_in j c = λ i. record { kind = parts.0 i; message_id = parts.1.0 i; serial = parts.1.1 i; cell = c } in
        let same : k ≡ j = sym (back k h e) ∙ ap (key_of b) one ∙ back j g f in
        let no : true ≡ false = sym (key_itself k) ∙ ap (λ t. is_eq (key_cmp k t)) same ∙ ap is_eq l in
        cc

-- an action of an order fits the order
pub same_order : (k : OrderKey) (c : Cell) (cells : List Cell) → fits (action_in k c) (order_in k cells) ≡ true
same_order k c cells =
    (both (kind_eq (kind_of k.is_kill k.old) (kind_of k.is_kill k.old)) (nat_eq k.message_id k.message_id && nat_eq k.serial k.serial) (kind_decides (kind_of k.is_kill k.old) (kind_of k.is_kill k.old)) (both (nat_eq k.message_id k.message_id) (nat_eq k.serial k.serial) (unsigned_Decides k.message_id k.message_id) (unsigned_Decides k.serial k.serial))).1 (refl, (refl, refl))

-- Which keys stand between the first of a BSC and the first of the next number.

le_then : (o r : Ordering) → is_le o ≡ true → is_le r ≡ true → is_le (ordering_then o r) ≡ true
le_then Less r h g = refl
le_then Equal r h g = g
le_then Greater r h g = h

zero_least : (n : ℕ) → is_le (nat_cmp 0 n) ≡ true
zero_least n = grind (arith, nat_tests, common_steps)

write_least : (k : Bool) → is_le (bool_cmp false k) ≡ true
write_least true = refl
write_least false = refl

none_least : (o : Option ℕ) → is_le (option_cmp nat_cmp None o) ≡ true
none_least None = refl
none_least (Some n) = refl

from_number : (b n : ℕ) (r : Ordering) → is_le r ≡ true → is_le (ordering_then (nat_cmp b n) r) ≡ not (ltb n b)
from_number b n Less h = grind (arith, nat_tests, common_steps)
from_number b n Equal h = grind (arith, nat_tests, common_steps)
from_number b n Greater h = cc

-- the first of a BSC comes before all of that BSC and of greater numbers
from_least : (b : ℕ) (k : OrderKey) → is_le (key_cmp (least b) k) ≡ not (ltb k.bsc b)
from_least b k =
    from_number b k.bsc (ordering_then (bool_cmp false k.is_kill) (ordering_then (nat_cmp 0 k.message_id) (ordering_then (nat_cmp 0 k.serial) (option_cmp nat_cmp None k.old))))
    (le_then (bool_cmp false k.is_kill) (ordering_then (nat_cmp 0 k.message_id) (ordering_then (nat_cmp 0 k.serial) (option_cmp nat_cmp None k.old))) (write_least k.is_kill)
    (le_then (nat_cmp 0 k.message_id) (ordering_then (nat_cmp 0 k.serial) (option_cmp nat_cmp None k.old)) (zero_least k.message_id)
    (le_then (nat_cmp 0 k.serial) (option_cmp nat_cmp None k.old) (zero_least k.serial) (none_least k.old))))

between : (b n : ℕ) → (not (ltb n b) && not (not (ltb n (b + 1)))) ≡ nat_eq n b
between b n = grind (arith, nat_tests, common_steps)

pub at_between : (b : ℕ) (k : OrderKey) → (is_le (key_cmp (least b) k) && not (is_le (key_cmp (least (b + 1)) k))) ≡ at_bsc b k
at_between b k = (λ i. from_least b k i && not (from_least (b + 1) k i)) ∙ between b k.bsc
