-- A warning is awaited in the cells in which it is to be written.
use Rattle.std.proofs.Common.{◌≡◌, arith, ℕ, suc, ◌+◌, ◌≤◌, Bool, true, false, ◌&&◌, not, nat_eq, List, [], ◌∷◌, ◌++◌, Option, Some, None, length, cond, refl, sym, ◌∙◌, ap, eqb-true, eq-eqb}
use Rattle.std.specs.Prelude.{find, if◌then◌else◌}
use Rattle.std.specs.Cmp.{unsigned_Decides}
use Rattle.std.specs.List.{list_any, list_all}
use Rattle.std.proofs.lemmas.Bool.{and_parts, and_from, or_parts}
use Rattle.cell_register.specs.Register.{is_place}
use Rattle.common.specs.OnceLaws.{turned}
use Rattle.common.specs.SumLaws.{sum_same, sum_none, count_append, count_flat_map}
use Rattle.common.specs.Sums.{one, sum_of, count_of}
use Rattle.common.specs.declared.cell.Cell.{Cell}
use Rattle.coverage_board.specs.Standings.{standing_of, standing, is_way, way_eq, stands}
use Rattle.coverage_board.specs.declared.way.Way.TheVariants.{Awaited, OnAir, Failed}
use Rattle.mirror.specs.Seen.{Seen, is_on_air, is_the}
use Rattle.order_maker.specs.Actions.{in_cell, deed, needs, replaced, fresh_kind, fresh, is_to_kill, kills, deeds}
use Rattle.order_maker.specs.Grouping.{action_lt, in_order, alone, fits, kind_eq, joined, grouped}
use Rattle.order_maker.specs.declared.action.Action.{Action}
use Rattle.order_maker.specs.declared.deed.Deed.{Deed}
use Rattle.order_maker.specs.declared.order.Order.{Order}
use Rattle.order_maker.specs.declared.order_kind.OrderKind.{OrderKind}
use Rattle.order_maker.specs.declared.order_kind.OrderKind.TheVariants.{Kill}
use Rattle.warning_book.specs.Book.{current_of, kind_of, has_number, warning_of}
use Rattle.warning_book.specs.VersionLaws.{current_among}
use Rattle.warning_book.specs.declared.warning.Warning.{Warning}
use Rattle.centre_events.specs.Cover.{is_covered}
use Rattle.centre_events.specs.Effects.{is_among}
use Rattle.centre_past.specs.Headline.{airs}
use Rattle.centre_events.specs.InFlight.{is_kill}
use Rattle.centre_past.specs.Legal.{Legal}
use Rattle.centre_events.specs.Lines.{seen, stand}
use Rattle.centre_events.specs.Links.{bscs}
use Rattle.centre_past.specs.Numbers.{number_at}
use Rattle.centre_events.specs.Past.{Past, IsUnfolded}
use Rattle.centre_events.specs.Pending.{actions, actions_in, actions_over, all_actions, pending}
use Rattle.centre_events.specs.Places.{place, cells}
use Rattle.centre_events.specs.Plan.{wants, wanted, planned}
use Rattle.centre_events.specs.Presence.{presence}
use Rattle.centre_laws.specs.Spare.{brings, brought, is_brought, AwaitedIsPending}
use Rattle.centre_events.specs.Warnings.{book_of, warnings_of, is_version, has_key}
use Rattle.centre_events.specs.declared.settings.Settings.{Settings}
use Rattle.centre_past.proofs.AnyLemmas.{and_none, any_same, any_never, all_flat, contrary}
use Rattle.order_maker.specs.GroupingLaws.{kind_same}
use Rattle.centre_past.proofs.HeadlineLemmas.{plans, is_free_for, airs_pending, key_of_plan}
use Rattle.centre_past.proofs.KindLemmas.{key_kind_is}
use Rattle.centre_past.proofs.KeyLemmas.{action_keyed, line_keyed}
use Rattle.centre_past.proofs.KnownLemmas.{known_place, legal_unfolded}
use Rattle.centre_past.proofs.LineLemmas.{found_passes}
use Rattle.centre_past.proofs.OnceLemmas.{count_map, count_sorted}
use Rattle.centre_laws.proofs.SpareLemmas.{own_key}
use Rattle.centre_past.proofs.UniqueLemmas.{unique, count_none, any_none}
use Rattle.centre_past.proofs.WarningLemmas.{legal_sound}

-- On one line.

-- the warning of a line awaits its wanted version just where that is to be written
awaits_write : (v : Seen) (s : ℕ) → way_eq Awaited (standing_of v s) ≡ needs v s
awaits_write v s = step v.down (is_on_air (v.presence s)) (v.is_held s)
  where
    step : (d a h : Bool) → way_eq Awaited (if d then Failed else (if a then OnAir else (if h then Failed else Awaited))) ≡ (not d && (not h && not a))
    step true a h = refl
    step false true true = refl
    step false true false = refl
    step false false true = refl
    step false false false = refl

-- what is ordered writes the version of that message identifier and serial number
abbrev writing : ℕ → Option ℕ → OrderKind → ℕ → ℕ → Bool
writing m o kind n s = not (is_kill kind) && (nat_eq n m && is_the o s)

abbrev deed_writes : ℕ → Option ℕ → Deed → Bool
deed_writes m o e = writing m o e.kind e.message_id e.serial

abbrev action_writes : ℕ → Option ℕ → Action → Bool
action_writes m o a = writing m o a.kind a.message_id a.serial

fresh_writes : (o : Option ℕ) → not (is_kill (fresh_kind o)) ≡ true
fresh_writes None = refl
fresh_writes (Some old) = refl

-- a line has one such write where it awaits its wanted version
writes_fresh : (v : Seen) (o wanted : Option ℕ) → ((s : ℕ) → wanted ≡ Some s → o ≡ Some s) → count_of (deed_writes v.message_id o) (fresh v wanted) ≡ one (is_way Awaited (standing v wanted))
writes_fresh v o None same = refl
writes_fresh v o (Some s) same = step (needs v s) refl
  where
    own : deed_writes v.message_id o (deed v (fresh_kind (replaced v s)) s) ≡ true
    own =
        and_from (not (is_kill (fresh_kind (replaced v s)))) (nat_eq v.message_id v.message_id && is_the o s) (fresh_writes (replaced v s))
        (and_from (nat_eq v.message_id v.message_id) (is_the o s) (eq-eqb v.message_id v.message_id refl) (ap (λ k. is_the k s) (same s refl) ∙ eq-eqb s s refl))

    step : (t : Bool) → needs v s ≡ t → count_of (deed_writes v.message_id o) (if t then deed v (fresh_kind (replaced v s)) s ∷ [] else []) ≡ one (way_eq Awaited (standing_of v s))
    step true e = let here : one (deed_writes v.message_id o (deed v (fresh_kind (replaced v s)) s)) ≡ 1 = ap one own in omega (arith, here, ap one (awaits_write v s ∙ e))
    step false e = sym (ap one (awaits_write v s ∙ e))

writes_kills : (m : ℕ) (o : Option ℕ) (v : Seen) (ts : List ℕ) → count_of (deed_writes m o) (kills v ts) ≡ 0
writes_kills m o v [] = refl
writes_kills m o v (t ∷ ts) = step (writes_kills m o v ts) (is_to_kill v t)
  where
    step : count_of (deed_writes m o) (kills v ts) ≡ 0 → (k : Bool) → count_of (deed_writes m o) ((if k then deed v Kill t ∷ [] else []) ++ kills v ts) ≡ 0
    step rest true = omega (arith, rest)
    step rest false = rest

-- what is wanted is the current version
wanted_current : (past : Past) (b : ℕ) (w : Warning) (c : Cell) (s : ℕ) → wanted past b w c ≡ Some s → current_of w ≡ Some s
wanted_current past b w c s e = step (wants past b w c) e
  where
    step : (t : Bool) → (if t then current_of w else None) ≡ Some s → current_of w ≡ Some s
    step true f = f
    step false f = cc

writes_line : (past : Past) (b : ℕ) (w : Warning) (c : Cell) → count_of (action_writes w.message_id (current_of w)) (actions past b w c) ≡ one (stands Awaited (stand past b w c))
writes_line past b w c =
    omega (arith, count_map (action_writes w.message_id (current_of w)) (in_cell c) (deeds (seen past b w c)), count_append (deed_writes w.message_id (current_of w)) (fresh (seen past b w c) (wanted past b w c)) (kills (seen past b w c) (seen past b w c).versions), writes_fresh (seen past b w c) (current_of w) (wanted past b w c) (wanted_current past b w c), writes_kills w.message_id (current_of w) (seen past b w c) (seen past b w c).versions)

writes_lines : (past : Past) (b : ℕ) (w : Warning) (cs : List Cell) → count_of (action_writes w.message_id (current_of w)) (actions_in past b cs w) ≡ number_at past w Awaited cs b
writes_lines past b w cs =
    count_flat_map (action_writes w.message_id (current_of w)) (actions past b w) cs
    ∙ sum_same (λ c. count_of (action_writes w.message_id (current_of w)) (actions past b w c)) (λ c. one (stands Awaited (stand past b w c))) (writes_line past b w) cs

-- On the lines of all warnings.

-- where all pass q, and p and q together give r, none passes p where r fails
count_never : {X : Type 0} (p q : X → Bool) (r : Bool) → ((x : X) → q x ≡ true → p x ≡ true → r ≡ true) → r ≡ false → (xs : List X) → list_all q xs ≡ true → count_of p xs ≡ 0
count_never p q r gives fails [] h = refl
count_never p q r gives fails (x ∷ xs) h = step (count_never p q r gives fails xs parts.1) (p x) refl
  where
    parts : (q x ≡ true) × (list_all q xs ≡ true)
    parts = and_parts (q x) (list_all q xs) h

    step : count_of p xs ≡ 0 → (t : Bool) → p x ≡ t → one t + count_of p xs ≡ 0
    step rest true e = absurd (let clash : true ≡ false = sym (gives x parts.0 e) ∙ fails in cc)
    step rest false e = omega (arith, rest)

-- the warning has the key of that message identifier and serial number, if there is one
abbrev has_the_key : ℕ → Option ℕ → Warning → Bool
has_the_key m None w = false
has_the_key m (Some s) w = has_key m s w

-- the lines of a warning without the key have no write of it
other_lines : (past : Past) (b : ℕ) (cs : List Cell) (m : ℕ) (o : Option ℕ) (w : Warning) → has_the_key m o w ≡ false → count_of (action_writes m o) (actions_in past b cs w) ≡ 0
other_lines past b cs m None w other =
    sum_none (λ a. one (action_writes m None a)) (λ a. ap one (none (not (is_kill a.kind)) (nat_eq a.message_id m))) (actions_in past b cs w)
  where
    none : (k n : Bool) → (k && (n && false)) ≡ false
    none true true = refl
    none true false = refl
    none false n = refl
other_lines past b cs m (Some s) w other =
    count_never (action_writes m (Some s)) (action_keyed of_warning) (has_key m s w) gives other (actions_in past b cs w) all
  where
    of_warning : ℕ → ℕ → Bool
    of_warning n t = has_key n t w

    all : list_all (action_keyed of_warning) (actions_in past b cs w) ≡ true
    all =
        all_flat (action_keyed of_warning) (actions past b w)
        (λ c. line_keyed of_warning past b w c (λ t h. and_from (nat_eq w.message_id w.message_id) (list_any (is_version t) w.versions) (eq-eqb w.message_id w.message_id refl) h)) cs

    gives : (a : Action) → action_keyed of_warning a ≡ true → action_writes m (Some s) a ≡ true → has_key m s w ≡ true
    gives a h g =
        let parts = and_parts (nat_eq a.message_id m) (nat_eq s a.serial) (and_parts (not (is_kill a.kind)) (nat_eq a.message_id m && nat_eq s a.serial) g).1 in
        ap (λ (n : ℕ). has_key n s w) (sym (eqb-true a.message_id m parts.0))
        ∙ ap (λ (t : ℕ). has_key a.message_id t w) (eqb-true s a.serial parts.1)
        ∙ own_key of_warning a.kind a.message_id a.serial h

-- where f is 0 at all that fail a test which one passes at most, its sum is what it is at the one that is found
sum_at : (p q : Warning → Bool) (f : Warning → ℕ) → ((w : Warning) → q w ≡ false → f w ≡ 0) → (ws : List Warning) (w : Warning) → count_of q ws ≤ 1 → q w ≡ true → find p ws ≡ Some w → sum_of f ws ≡ f w
sum_at p q f none [] w few h e = cc
sum_at p q f none (v ∷ vs) w few h e = step (sum_at p q f none vs w) (p v) (q v) refl e
  where
    rest_zero : (us : List Warning) → list_any q us ≡ false → sum_of f us ≡ 0
    rest_zero [] g = refl
    rest_zero (u ∷ us) g =
        let parts = or_parts (q u) (list_any q us) g in
        omega (arith, none u parts.0, rest_zero us parts.1)

    alone : q v ≡ true → list_any q vs ≡ false
    alone g = any_none q vs (let here : one (q v) ≡ 1 = ap one g in omega (arith, few, here))

    step : (count_of q vs ≤ 1 → q w ≡ true → find p vs ≡ Some w → sum_of f vs ≡ f w) → (t u : Bool) → q v ≡ u → cond t (Some v) (find p vs) ≡ Some w → f v + sum_of f vs ≡ f w
    step rest true u is g =
        let same : v ≡ w = cc in
        omega (arith, rest_zero vs (alone (ap q same ∙ h)), ap f same)
    step rest false true is g = absurd (let clash : true ≡ false = sym (found_passes p q vs w g h) ∙ alone is in cc)
    step rest false false is g = omega (arith, none v is, rest (omega (arith, few)) h g)

-- of all lines its own alone have writes of a warning's current version
own_lines : (settings : Settings) (past : Past) → Legal settings past → (b : ℕ) (cs : List Cell) (n : ℕ) (w : Warning) → warning_of (book_of past) n ≡ Some w → count_of (action_writes w.message_id (current_of w)) (actions_over past b cs) ≡ count_of (action_writes w.message_id (current_of w)) (actions_in past b cs w)
own_lines settings past legal b cs n w found =
    count_flat_map (action_writes w.message_id (current_of w)) (actions_in past b cs) (warnings_of past) ∙ step (current_of w) refl
  where
    lines : Option ℕ → Warning → ℕ
    lines o x = count_of (action_writes w.message_id o) (actions_in past b cs x)

    step : (o : Option ℕ) → current_of w ≡ o → sum_of (lines o) (warnings_of past) ≡ lines o w
    step None e =
        sum_none (lines None) (λ x. other_lines past b cs w.message_id None x refl) (warnings_of past) ∙ sym (other_lines past b cs w.message_id None w refl)
    step (Some s) e =
        sum_at (has_number n) (has_key w.message_id s) (lines (Some s)) (other_lines past b cs w.message_id (Some s)) (warnings_of past) w (unique (book_of past) (legal_sound settings past legal) w.message_id s)
        (and_from (nat_eq w.message_id w.message_id) (list_any (is_version s) w.versions) (eq-eqb w.message_id w.message_id refl) (current_among w s e)) found

-- In orders.

-- how many cells the order names, where its kind, message identifier and serial number pass
abbrev cells_where : (OrderKind → ℕ → ℕ → Bool) → Order → ℕ
cells_where p order = if p order.kind order.message_id order.serial then length order.cells else 0

cells_joined : (p : OrderKind → ℕ → ℕ → Bool) (a : Action) (orders : List Order) → sum_of (cells_where p) (joined a orders) ≡ one (p a.kind a.message_id a.serial) + sum_of (cells_where p) orders
cells_joined p a [] = refl
cells_joined p a (order ∷ orders) = step (fits a order) refl
  where
    more : (t : Bool) (n : ℕ) → (if t then suc n else 0) ≡ one t + (if t then n else 0)
    more true n = omega arith
    more false n = refl

    at_same : (k : OrderKind) (n t : ℕ) → k ≡ order.kind → n ≡ order.message_id → t ≡ order.serial → (if p order.kind order.message_id order.serial then suc (length order.cells) else 0) ≡ one (p k n t) + cells_where p order
    at_same k n t e f h = rw (e, f, h) (more (p order.kind order.message_id order.serial) (length order.cells))

    step : (t : Bool) → fits a order ≡ t → sum_of (cells_where p) (if t then record order { cells = a.cell ∷ order.cells } ∷ orders else alone a ∷ order ∷ orders) ≡ one (p a.kind a.message_id a.serial) + (cells_where p order + sum_of (cells_where p) orders)
    step true h =
        let parts = and_parts (kind_eq a.kind order.kind) (nat_eq a.message_id order.message_id && nat_eq a.serial order.serial) h in
        let ids = and_parts (nat_eq a.message_id order.message_id) (nat_eq a.serial order.serial) parts.1 in
        omega (arith, at_same a.kind a.message_id a.serial (kind_same a.kind order.kind parts.0) (eqb-true a.message_id order.message_id ids.0) (eqb-true a.serial order.serial ids.1))
    step false h = refl

-- the orders name as many cells as there are actions
cells_grouped : (p : OrderKind → ℕ → ℕ → Bool) (xs : List Action) → sum_of (cells_where p) (grouped xs) ≡ count_of (λ (a : Action). p a.kind a.message_id a.serial) xs
cells_grouped p [] = refl
cells_grouped p (a ∷ xs) = cells_joined p a (grouped xs) ∙ ap (λ n. one (p a.kind a.message_id a.serial) + n) (cells_grouped p xs)

-- at each BSC the cells that await the warning are as many as those in which it is to be written
awaited_at : (settings : Settings) (past : Past) → Legal settings past → (n : ℕ) (w : Warning) → warning_of (book_of past) n ≡ Some w → (b : ℕ) → number_at past w Awaited (cells past) b ≡ brought past w b
awaited_at settings past legal n w found b =
    sym (cells_grouped (writing w.message_id (current_of w)) (in_order (all_actions past b))
    ∙ count_sorted action_lt (action_writes w.message_id (current_of w)) (all_actions past b)
    ∙ own_lines settings past legal b (cells past) n w found
    ∙ writes_lines past b w (cells past))

-- In each cell.

-- where one has the key at most, the key is planned where the one that has it plans it
planned_by : (settings : Settings) (past : Past) → Legal settings past → (b : ℕ) (c : Cell) (m s n : ℕ) (w : Warning) → warning_of (book_of past) n ≡ Some w → has_key m s w ≡ true → planned past b c m s ≡ plans past b c m s w
planned_by settings past legal b c m s n w found has = step (planned past b c m s) (plans past b c m s w) refl refl
  where
    none : (x : Warning) → has_key m s x ≡ false → one (plans past b c m s x) ≡ 0
    none x h = ap one (contrary (plans past b c m s x) (has_key m s x) (key_of_plan past b c m s x) h)

    same : count_of (plans past b c m s) (warnings_of past) ≡ one (plans past b c m s w)
    same =
        sum_at (has_number n) (has_key m s) (λ x. one (plans past b c m s x)) none (warnings_of past) w (unique (book_of past) (legal_sound settings past legal) m s) has found

    step : (t u : Bool) → planned past b c m s ≡ t → plans past b c m s w ≡ u → t ≡ u
    step true true e f = refl
    step true false e f =
        sym e ∙ any_none (plans past b c m s) (warnings_of past) (same ∙ ap one f)
    step false true e f =
        absurd (let here : one (plans past b c m s w) ≡ 1 = ap one f in omega (arith, same, here, count_none (plans past b c m s) (warnings_of past) e))
    step false false e f = refl

-- a cell in which a version is wanted was registered
wanted_known : (past : Past) → IsUnfolded past → (b : ℕ) (w : Warning) (c : Cell) (s : ℕ) → wanted past b w c ≡ Some s → is_among c (cells past) ≡ true
wanted_known past unfolded b w c s e = step w.active (is_place (place past c) b) (is_covered past w.areas c) refl e
  where
    step : (a p k : Bool) → is_place (place past c) b ≡ p → (if a && (p && k) then current_of w else None) ≡ Some s → is_among c (cells past) ≡ true
    step true true true is f = known_place past unfolded b c is
    step true true false is f = cc
    step true false k is f = cc
    step false p k is f = cc

-- what is to be put on air is awaited
aired_awaited : (v : Seen) (s : ℕ) (known : Bool) (o : Option ℕ) → ((t : ℕ) → o ≡ Some t → (known ≡ true) × (t ≡ s)) → ((known && ((not v.down && not (v.is_held s)) && not (is_on_air (v.presence s)))) && is_the o s) ≡ is_way Awaited (standing v o)
aired_awaited v s known None h = and_none (known && ((not v.down && not (v.is_held s)) && not (is_on_air (v.presence s))))
aired_awaited v s known (Some t) h =
    let is = h t refl in
    ap (λ k. (k && ((not v.down && not (v.is_held s)) && not (is_on_air (v.presence s)))) && nat_eq t s) is.0
    ∙ ap (λ x. ((not v.down && not (v.is_held s)) && not (is_on_air (v.presence s))) && x) (eq-eqb t s is.1)
    ∙ table (not v.down) (not (v.is_held s)) (not (is_on_air (v.presence s)))
    ∙ sym (awaits_write v s)
    ∙ ap (λ (k : ℕ). way_eq Awaited (standing_of v k)) (sym is.1)
  where
    table : (d h a : Bool) → (((d && h) && a) && true) ≡ (d && (h && a))
    table true true true = refl
    table true true false = refl
    table true false a = refl
    table false h a = refl

-- what brings the key on air in the cell puts it on air
brings_airs : (w : Warning) (c : Cell) (s : ℕ) → current_of w ≡ Some s → (order : Order) → (brings w order && is_among c order.cells) ≡ airs c w.message_id s order
brings_airs w c s e order =
    ap (λ o. (not (is_kill order.kind) && (nat_eq order.message_id w.message_id && is_the o order.serial)) && is_among c order.cells) e
    ∙ ap (λ t. (not (is_kill order.kind) && (nat_eq order.message_id w.message_id && t)) && is_among c order.cells) (turned nat_eq unsigned_Decides s order.serial)
    ∙ table (not (is_kill order.kind)) (nat_eq order.message_id w.message_id) (nat_eq order.serial s) (is_among c order.cells)
  where
    table : (k m t a : Bool) → ((k && (m && t)) && a) ≡ ((m && a) && (k && t))
    table true true true true = refl
    table true true true false = refl
    table true true false true = refl
    table true true false false = refl
    table true false t a = refl
    table false true t true = refl
    table false true t false = refl
    table false false t a = refl

-- no order brings a warning without a version on air
brings_none : (w : Warning) (c : Cell) → current_of w ≡ None → (order : Order) → (brings w order && is_among c order.cells) ≡ false
brings_none w c e order =
    ap (λ o. (not (is_kill order.kind) && (nat_eq order.message_id w.message_id && is_the o order.serial)) && is_among c order.cells) e ∙ table (not (is_kill order.kind)) (nat_eq order.message_id w.message_id)
  where
    table : (k m : Bool) → ((k && (m && false)) && is_among c order.cells) ≡ false
    table true true = refl
    table true false = refl
    table false m = refl

-- a warning is awaited just where the pending orders bring it on air
awaited_in : (settings : Settings) (past : Past) → Legal settings past → (n : ℕ) (w : Warning) → warning_of (book_of past) n ≡ Some w → (b : ℕ) (c : Cell) → stands Awaited (stand past b w c) ≡ is_brought past w b c
awaited_in settings past legal n w found b c = step (current_of w) refl
  where
    v : Seen
    v = seen past b w c

    step : (o : Option ℕ) → current_of w ≡ o → is_way Awaited (standing v (wanted past b w c)) ≡ is_brought past w b c
    step None e =
        unwanted (wanted past b w c) refl
        ∙ sym (any_same (λ (order : Order). brings w order && is_among c order.cells) (λ (order : Order). false) (brings_none w c e) (pending past b) ∙ any_never (pending past b))
      where
        unwanted : (k : Option ℕ) → wanted past b w c ≡ k → is_way Awaited (standing v k) ≡ false
        unwanted None f = refl
        unwanted (Some t) f = let clash : None ≡ Some t = sym e ∙ wanted_current past b w c t f in cc
    step (Some s) e =
        sym (any_same (λ (order : Order). brings w order && is_among c order.cells) (airs c w.message_id s) (brings_airs w c s e) (pending past b)
        ∙ airs_pending settings past legal b c w.message_id s
        ∙ ap (λ k. (is_among c (cells past) && (is_free_for past k b c w.message_id s && not (is_on_air (presence past b c w.message_id s)))) && planned past b c w.message_id s) (key_kind_is settings past legal n w found s (current_among w s e))
        ∙ ap (λ t. (is_among c (cells past) && (is_free_for past (kind_of w) b c w.message_id s && not (is_on_air (presence past b c w.message_id s)))) && t) by_own
        ∙ aired_awaited v s (is_among c (cells past)) (wanted past b w c) known)
      where
        by_own : planned past b c w.message_id s ≡ is_the (wanted past b w c) s
        by_own =
            planned_by settings past legal b c w.message_id s n w found (and_from (nat_eq w.message_id w.message_id) (list_any (is_version s) w.versions) (eq-eqb w.message_id w.message_id refl) (current_among w s e))
            ∙ ap (λ t. t && is_the (wanted past b w c) s) (eq-eqb w.message_id w.message_id refl)

        known : (t : ℕ) → wanted past b w c ≡ Some t → (is_among c (cells past) ≡ true) × (t ≡ s)
        known t f =
            let current : Some t ≡ Some s = sym (wanted_current past b w c t f) ∙ e in
            let same : t ≡ s = cc in
            (wanted_known past (legal_unfolded settings past legal) b w c t f, same)

pub awaited_is_pending : (settings : Settings) (past : Past) → Legal settings past → AwaitedIsPending past
awaited_is_pending settings past legal = record {
  same = awaited_in settings past legal;
  each = λ n w found. sum_same (number_at past w Awaited (cells past)) (brought past w) (awaited_at settings past legal n w found) (bscs past);
}
