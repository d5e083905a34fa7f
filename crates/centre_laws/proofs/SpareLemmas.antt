-- No key is ordered twice, so each cell of a pending order is needed.
use Rattle.std.proofs.Common.{◌≡◌, arith, ℕ, ◌+◌, ◌≤◌, Bool, true, false, ◌&&◌, ◌||◌, not, nat_eq, List, [], ◌∷◌, ◌++◌, Option, Some, None, filter, refl, sym, ◌∙◌, ap, cond, subst, eqb-true, eq-eqb}
use Rattle.std.specs.Prelude.{if◌then◌else◌}
use Rattle.std.specs.List.{list_any, list_all}
use Rattle.std.proofs.lemmas.Bool.{and_parts, and_from, or_from, or_left, or_right, not-true}
use Rattle.std.proofs.lemmas.List.Folds.{list_any-append, list_all-append}
use Rattle.common.specs.Cell.{cell_eq}
use Rattle.common.specs.Order.{each_once}
use Rattle.common.specs.SumLaws.{count_append, count_flat_map}
use Rattle.common.specs.Sums.{one, count_of}
use Rattle.common.specs.declared.cell.Cell.{Cell}
use Rattle.mirror.specs.Seen.{Seen, is_absent, is_on_air, is_the}
use Rattle.mirror.specs.declared.presence.Presence.{Presence}
use Rattle.mirror.specs.declared.presence.Presence.TheVariants.{OnAir}
use Rattle.order_maker.specs.Actions.{in_cell, deed, needs, replaced, replaced_for, fresh_kind, fresh, is_to_kill, kills, deeds}
use Rattle.order_maker.specs.Grouping.{action_lt, in_order, alone, fits, kind_eq, joined, grouped}
use Rattle.order_maker.specs.declared.action.Action.{Action}
use Rattle.order_maker.specs.declared.deed.Deed.{Deed}
use Rattle.order_maker.specs.declared.order.Order.{Order}
use Rattle.order_maker.specs.declared.order_kind.OrderKind.{OrderKind}
use Rattle.order_maker.specs.declared.order_kind.OrderKind.TheVariants.{Write, Replace, Kill}
use Rattle.warning_book.specs.Sound.{has_serials, IsSound}
use Rattle.warning_book.specs.VersionLaws.{one_version}
use Rattle.warning_book.specs.declared.version.Version.{Version}
use Rattle.warning_book.specs.declared.warning.Warning.{Warning}
use Rattle.centre_events.specs.Down.{is_down}
use Rattle.centre_events.specs.Effects.{is_among, replaces}
use Rattle.centre_past.specs.Headline.{airs, clears_serial, clears, applied, Agrees}
use Rattle.centre_events.specs.InFlight.{is_kill}
use Rattle.centre_past.specs.Legal.{Legal}
use Rattle.centre_events.specs.Lines.{seen}
use Rattle.centre_events.specs.Past.{Past}
use Rattle.centre_events.specs.Pending.{actions, actions_in, all_actions, pending}
use Rattle.centre_events.specs.Places.{added_cell, cells}
use Rattle.centre_events.specs.Plan.{wanted, planned}
use Rattle.centre_events.specs.Presence.{presence, is_held}
use Rattle.centre_laws.specs.Spare.{without_cell, Misses, NoneToSpare, acts_on, ActsOnce}
use Rattle.centre_events.specs.Warnings.{book_of, warnings_of, serials, is_version, has_key, is_key, key_kind}
use Rattle.centre_events.specs.declared.settings.Settings.{Settings}
use Rattle.centre_past.proofs.ActingLemmas.{does, writes_by, any_deeds, has_serial}
use Rattle.centre_past.proofs.AnyLemmas.{or_none, any_implies, contrary}
use Rattle.centre_past.proofs.ApplyingLemmas.{applied_airs}
use Rattle.centre_past.proofs.CountLemmas.{named_once}
use Rattle.order_maker.specs.GroupingLaws.{kind_same, tests, touches}
use Rattle.centre_past.proofs.HeadlineLemmas.{is_free, the_some, wanted_version, airs_pending, clears_pending}
use Rattle.centre_past.proofs.KeyLemmas.{keyed, order_keyed, pending_keyed, replaced_version}
use Rattle.centre_past.proofs.KnownLemmas.{legal_unfolded}
use Rattle.centre_past.proofs.OnceLemmas.{count_one, sum_below, all_true, count_map, count_sorted, count_implied, cells_below}
use Rattle.centre_events.proofs.PastLemmas.{any_image}
use Rattle.centre_past.proofs.UniqueLemmas.{unique, any_none}
use Rattle.centre_past.proofs.WarningLemmas.{legal_sound}

-- On one line at most one deed is of a version.

-- what is ordered is of the version of that serial number: it is its own, or the one that it replaces
abbrev acting : ℕ → OrderKind → ℕ → Bool
acting s kind t = nat_eq t s || replaces kind s

abbrev is_of : ℕ → Deed → Bool
is_of s e = acting s e.kind e.serial

-- the version is the wanted one, or the one that is replaced for it
abbrev is_fresh : Seen → ℕ → Bool
is_fresh v s = is_the v.wanted s || is_the (replaced_for v v.wanted) s

fresh_replaces : (o : Option ℕ) (s : ℕ) → replaces (fresh_kind o) s ≡ is_the o s
fresh_replaces None s = refl
fresh_replaces (Some old) s = refl

fresh_few : (v : Seen) (s : ℕ) (o : Option ℕ) → count_of (is_of s) (fresh v o) ≤ one (is_the o s || is_the (replaced_for v o) s)
fresh_few v s None = omega arith
fresh_few v s (Some t) = step (needs v t)
  where
    below : (a b : Bool) → a ≡ b → one a + 0 ≤ one b
    below a b e = omega (arith, ap one e)

    step : (u : Bool) → count_of (is_of s) (if u then deed v (fresh_kind (replaced v t)) t ∷ [] else []) ≤ one (nat_eq t s || is_the (if u then replaced v t else None) s)
    step true = below (acting s (fresh_kind (replaced v t)) t) (nat_eq t s || is_the (replaced v t) s) (ap (λ x. nat_eq t s || x) (fresh_replaces (replaced v t) s))
    step false = omega arith

kills_few : (v : Seen) (s : ℕ) (ts : List ℕ) → count_of (is_of s) (kills v ts) ≤ count_of (λ t. nat_eq t s) ts
kills_few v s [] = omega arith
kills_few v s (t ∷ ts) = step (kills_few v s ts) (is_to_kill v t)
  where
    own : one (nat_eq t s || false) ≡ one (nat_eq t s)
    own = ap one (or_none (nat_eq t s))

    step : count_of (is_of s) (kills v ts) ≤ count_of (λ u. nat_eq u s) ts → (k : Bool) → count_of (is_of s) ((if k then deed v Kill t ∷ [] else []) ++ kills v ts) ≤ one (nat_eq t s) + count_of (λ u. nat_eq u s) ts
    step rest true = omega (arith, rest, own)
    step rest false = omega (arith, rest)

-- what is killed is neither wanted nor replaced
killed_other : (v : Seen) (t : ℕ) → is_to_kill v t ≡ true → is_fresh v t ≡ false
killed_other v t h = table (not v.down) (is_the v.wanted t) (not (v.is_held t)) (not (is_absent (v.presence t))) (is_the (replaced_for v v.wanted) t) h
  where
    table : (d w f p r : Bool) → (d && (not w && (f && (p && not r)))) ≡ true → (w || r) ≡ false
    table true false true true false e = refl
    table true false true true true e = cc
    table true false true false r e = cc
    table true false false p r e = cc
    table true true f p r e = cc
    table false w f p r e = cc

kills_spared : (v : Seen) (s : ℕ) → is_fresh v s ≡ true → (ts : List ℕ) → count_of (is_of s) (kills v ts) ≡ 0
kills_spared v s h [] = refl
kills_spared v s h (t ∷ ts) = step (kills_spared v s h ts) (is_to_kill v t) refl (nat_eq t s) refl
  where
    step : count_of (is_of s) (kills v ts) ≡ 0 → (k : Bool) → is_to_kill v t ≡ k → (u : Bool) → nat_eq t s ≡ u → count_of (is_of s) ((if k then deed v Kill t ∷ [] else []) ++ kills v ts) ≡ 0
    step rest true e true f =
        absurd (let no : true ≡ false = sym (ap (is_fresh v) (eqb-true t s f) ∙ h) ∙ killed_other v t e in cc)
    step rest true e false f = let here : one (nat_eq t s || false) ≡ 0 = ap (λ x. one (x || false)) f in omega (arith, rest, here)
    step rest false e u f = rest

deeds_few : (v : Seen) (s : ℕ) → count_of (λ t. nat_eq t s) v.versions ≤ 1 → count_of (is_of s) (deeds v) ≤ 1
deeds_few v s few = step (is_fresh v s) refl
  where
    both : count_of (is_of s) (deeds v) ≡ count_of (is_of s) (fresh v v.wanted) + count_of (is_of s) (kills v v.versions)
    both = count_append (is_of s) (fresh v v.wanted) (kills v v.versions)

    step : (t : Bool) → is_fresh v s ≡ t → count_of (is_of s) (deeds v) ≤ 1
    step true e =
        let here : one (is_fresh v s) ≡ 1 = ap one e in
        omega (arith, both, here, fresh_few v s v.wanted, kills_spared v s e v.versions)
    step false e =
        let here : one (is_fresh v s) ≡ 0 = ap one e in
        omega (arith, both, here, fresh_few v s v.wanted, kills_few v s v.versions, few)

-- Over all lines at most one action is of a key.

line_few : (c : Cell) (m s : ℕ) (past : Past) (b : ℕ) (w : Warning) (d : Cell) → has_serials w ≡ true → count_of (touches (acting s) c m) (actions past b w d) ≤ 1
line_few c m s past b w d own =
    omega (arith, count_map (touches (acting s) c m) (in_cell d) (deeds (seen past b w d)), count_implied (λ e. touches (acting s) c m (in_cell d e)) (is_of s) here (deeds (seen past b w d)), deeds_few (seen past b w d) s versions)
  where
    here : (e : Deed) → touches (acting s) c m (in_cell d e) ≡ true → is_of s e ≡ true
    here e h = (and_parts (nat_eq e.message_id m && (cell_eq c d || false)) (is_of s e) h).1

    versions : count_of (λ t. nat_eq t s) (serials w) ≤ 1
    versions = omega (arith, count_map (λ t. nat_eq t s) (λ (v : Version). v.serial) w.versions, one_version w.versions s own)

-- what is written is wanted, and what it replaces is a version
written_version : (v : Seen) (s : ℕ) (o : Option ℕ) → writes_by (acting s) v o ≡ true → (is_the o s || has_serial s v.versions) ≡ true
written_version v s None h = cc
written_version v s (Some t) h = step (nat_eq t s) (is_the (replaced v t) s) refl (sym (ap (λ x. nat_eq t s || x) (fresh_replaces (replaced v t) s)) ∙ (and_parts (needs v t) (acting s (fresh_kind (replaced v t)) t) h).1)
  where
    step : (a r : Bool) → is_the (replaced v t) s ≡ r → (a || r) ≡ true → (a || has_serial s v.versions) ≡ true
    step true r e g = refl
    step false true e g = replaced_version v t s (the_some (replaced v t) s e)
    step false false e g = cc

-- what is ordered on a line is of one of the warning's versions
ordered_version : (past : Past) (b : ℕ) (w : Warning) (d : Cell) (s : ℕ) → does (acting s) (seen past b w d) ≡ true → list_any (is_version s) w.versions ≡ true
ordered_version past b w d s h = step (writes_by (acting s) v (wanted past b w d)) refl h
  where
    v : Seen
    v = seen past b w d

    listed : has_serial s (serials w) ≡ list_any (is_version s) w.versions
    listed = any_image (λ n. nat_eq n s) (λ (u : Version). u.serial) w.versions

    either : (t : Bool) → is_the (wanted past b w d) s ≡ t → (t || has_serial s (serials w)) ≡ true → list_any (is_version s) w.versions ≡ true
    either true e g = wanted_version past b w d s e
    either false e g = sym listed ∙ g

    killed : (t : ℕ) → (is_to_kill v t && (nat_eq t s || false)) ≡ true → nat_eq t s ≡ true
    killed t k = sym (or_none (nat_eq t s)) ∙ (and_parts (is_to_kill v t) (nat_eq t s || false) k).1

    step : (t : Bool) → writes_by (acting s) v (wanted past b w d) ≡ t → (t || list_any (λ u. is_to_kill v u && (nat_eq u s || false)) (serials w)) ≡ true → list_any (is_version s) w.versions ≡ true
    step true e g = either (is_the (wanted past b w d) s) refl (written_version v s (wanted past b w d) e)
    step false e g = sym listed ∙ any_implies (λ u. is_to_kill v u && (nat_eq u s || false)) (λ u. nat_eq u s) killed (serials w) g

line_key : (c : Cell) (m s : ℕ) (past : Past) (b : ℕ) (w : Warning) (d : Cell) → list_any (touches (acting s) c m) (actions past b w d) ≡ true → (cell_eq c d && has_key m s w) ≡ true
line_key c m s past b w d h =
    let parts = and_parts (nat_eq w.message_id m && cell_eq c d) (does (acting s) (seen past b w d)) (sym (any_deeds (acting s) c m (seen past b w d) d) ∙ h) in
    let place = and_parts (nat_eq w.message_id m) (cell_eq c d) parts.0 in
    and_from (cell_eq c d) (has_key m s w) place.1 (and_from (nat_eq w.message_id m) (list_any (is_version s) w.versions) place.0 (ordered_version past b w d s parts.1))

line_below : (c : Cell) (m s : ℕ) (past : Past) (b : ℕ) (w : Warning) (d : Cell) → has_serials w ≡ true → count_of (touches (acting s) c m) (actions past b w d) ≤ one (cell_eq c d && has_key m s w)
line_below c m s past b w d own =
    count_one (touches (acting s) c m) (cell_eq c d && has_key m s w) (actions past b w d) (line_few c m s past b w d own) (line_key c m s past b w d)

warning_below : (c : Cell) (m s : ℕ) (past : Past) (b : ℕ) (cs : List Cell) (w : Warning) → each_once cell_eq cs ≡ true → has_serials w ≡ true → count_of (touches (acting s) c m) (actions_in past b cs w) ≤ one (has_key m s w)
warning_below c m s past b cs w once own =
    omega (arith, count_flat_map (touches (acting s) c m) (actions past b w) cs, sum_below (λ d. true) (λ d. count_of (touches (acting s) c m) (actions past b w d)) (λ d. one (cell_eq c d && has_key m s w)) (λ d t. line_below c m s past b w d own) cs (all_true cs), cells_below c (has_key m s w) cs once)

touched_once : (settings : Settings) (past : Past) → Legal settings past → (b : ℕ) (c : Cell) (m s : ℕ) → count_of (touches (acting s) c m) (all_actions past b) ≤ 1
touched_once settings past legal b c m s =
    omega (arith, count_flat_map (touches (acting s) c m) (actions_in past b (cells past)) (warnings_of past), sum_below has_serials (λ w. count_of (touches (acting s) c m) (actions_in past b (cells past) w)) (λ w. one (has_key m s w)) (λ w own. warning_below c m s past b (cells past) w once own) (warnings_of past) sound.serials, unique (book_of past) sound m s)
  where
    sound : IsSound (book_of past)
    sound = legal_sound settings past legal

    once : each_once cell_eq (cells past) ≡ true
    once = named_once cell_eq added_cell (λ base. base.cells) refl past (legal_unfolded settings past legal)

-- at most one action of a BSC is of a key
pub acts_once : (settings : Settings) (past : Past) → Legal settings past → ActsOnce past
acts_once settings past legal = record {
  each = λ b c m s. omega (arith, count_implied (acts_on c m s) (touches (acting s) c m) (touching c m s) (all_actions past b), touched_once settings past legal b c m s);
}
  where
    touching : (c : Cell) (m s : ℕ) (a : Action) → acts_on c m s a ≡ true → touches (acting s) c m a ≡ true
    touching c m s a h = table (cell_eq c a.cell) (nat_eq a.message_id m) (acting s a.kind a.serial) h
      where
        table : (x y z : Bool) → (x && (y && z)) ≡ true → ((y && (x || false)) && z) ≡ true
        table true true z e = e
        table true false z e = cc
        table false y z e = cc

-- An order without one of its cells.

-- an order does what one of its actions does
count_joined : (g : OrderKind → ℕ → Bool) (c : Cell) (m : ℕ) (a : Action) (orders : List Order) → count_of (tests g c m) (joined a orders) ≤ one (touches g c m a) + count_of (tests g c m) orders
count_joined g c m a [] = omega arith
count_joined g c m a (order ∷ orders) = step (fits a order) refl
  where
    more : (x y z k : Bool) → one ((x && (y || z)) && k) ≤ one ((x && (y || false)) && k) + one ((x && z) && k)
    more true true z true = omega arith
    more true true z false = omega arith
    more true false z k = omega arith
    more false y z k = omega arith

    at_same : (k : OrderKind) (n t : ℕ) → k ≡ order.kind → n ≡ order.message_id → t ≡ order.serial → one ((nat_eq order.message_id m && (cell_eq c a.cell || is_among c order.cells)) && g order.kind order.serial) ≤ one ((nat_eq n m && (cell_eq c a.cell || false)) && g k t) + one (tests g c m order)
    at_same k n t e f h = rw (e, f, h) (more (nat_eq order.message_id m) (cell_eq c a.cell) (is_among c order.cells) (g order.kind order.serial))

    step : (t : Bool) → fits a order ≡ t → count_of (tests g c m) (if t then record order { cells = a.cell ∷ order.cells } ∷ orders else alone a ∷ order ∷ orders) ≤ one (touches g c m a) + (one (tests g c m order) + count_of (tests g c m) orders)
    step true h =
        let parts = and_parts (kind_eq a.kind order.kind) (nat_eq a.message_id order.message_id && nat_eq a.serial order.serial) h in
        let ids = and_parts (nat_eq a.message_id order.message_id) (nat_eq a.serial order.serial) parts.1 in
        omega (arith, at_same a.kind a.message_id a.serial (kind_same a.kind order.kind parts.0) (eqb-true a.message_id order.message_id ids.0) (eqb-true a.serial order.serial ids.1))
    step false h = omega arith

count_grouped : (g : OrderKind → ℕ → Bool) (c : Cell) (m : ℕ) (xs : List Action) → count_of (tests g c m) (grouped xs) ≤ count_of (touches g c m) xs
count_grouped g c m [] = omega arith
count_grouped g c m (a ∷ xs) = omega (arith, count_joined g c m a (grouped xs), count_grouped g c m xs)

-- at most one pending order is of a key
pending_few : (settings : Settings) (past : Past) → Legal settings past → (b : ℕ) (c : Cell) (m s : ℕ) → count_of (tests (acting s) c m) (pending past b) ≤ 1
pending_few settings past legal b c m s =
    omega (arith, count_grouped (acting s) c m (in_order (all_actions past b)), count_sorted action_lt (touches (acting s) c m) (all_actions past b), touched_once settings past legal b c m s)

-- where one passes and no more do, none passes before it or after it
others_fail : {X : Type 0} (p : X → Bool) (front : List X) (x : X) (back : List X) → count_of p (front ++ x ∷ back) ≤ 1 → p x ≡ true → (list_any p front ≡ false) × (list_any p back ≡ false)
others_fail p front x back few h =
    let here : one (p x) ≡ 1 = ap one h in
    let all : count_of p (front ++ x ∷ back) ≡ count_of p front + (one (p x) + count_of p back) = count_append p front (x ∷ back) in
    (any_none p front (omega (arith, few, here, all)), any_none p back (omega (arith, few, here, all)))

-- the cell is gone
cell_gone : (c : Cell) (cs : List Cell) → is_among c (filter (λ d. not (cell_eq c d)) cs) ≡ false
cell_gone c [] = refl
cell_gone c (d ∷ ds) = step (cell_gone c ds) (cell_eq c d) refl
  where
    step : is_among c (filter (λ e. not (cell_eq c e)) ds) ≡ false → (t : Bool) → cell_eq c d ≡ t → is_among c (if not t then d ∷ filter (λ e. not (cell_eq c e)) ds else filter (λ e. not (cell_eq c e)) ds) ≡ false
    step rest true e = rest
    step rest false e = ap (λ t. t || is_among c (filter (λ k. not (cell_eq c k)) ds)) e ∙ rest

none_without : (g : OrderKind → ℕ → Bool) (c : Cell) (m : ℕ) (order : Order) → tests g c m (without_cell c order) ≡ false
none_without g c m order = ap (λ t. (nat_eq order.message_id m && t) && g order.kind order.serial) (cell_gone c order.cells) ∙ step (nat_eq order.message_id m)
  where
    step : (t : Bool) → ((t && false) && g order.kind order.serial) ≡ false
    step true = refl
    step false = refl

-- what puts a key on air, or takes it off, is of the key
airs_of : (c : Cell) (m s : ℕ) (order : Order) → airs c m s order ≡ true → tests (acting s) c m order ≡ true
airs_of c m s order h =
    let parts = and_parts (nat_eq order.message_id m && is_among c order.cells) (not (is_kill order.kind) && nat_eq order.serial s) h in
    and_from (nat_eq order.message_id m && is_among c order.cells) (acting s order.kind order.serial) parts.0 (or_left (nat_eq order.serial s) (replaces order.kind s) (and_parts (not (is_kill order.kind)) (nat_eq order.serial s) parts.1).1)

clears_of : (c : Cell) (m s : ℕ) (order : Order) → clears c m s order ≡ true → tests (acting s) c m order ≡ true
clears_of c m s order h =
    let parts = and_parts (nat_eq order.message_id m && is_among c order.cells) (clears_serial order.kind order.serial s) h in
    and_from (nat_eq order.message_id m && is_among c order.cells) (acting s order.kind order.serial) parts.0 (step order.kind order.serial parts.1)
  where
    step : (k : OrderKind) (t : ℕ) → clears_serial k t s ≡ true → acting s k t ≡ true
    step Write t g = cc
    step (Replace old) t g = or_right (nat_eq t s) (nat_eq old s) g
    step Kill t g = or_left (nat_eq t s) false g

-- orders of which none is of a key leave it as it was
left_alone : (orders : List Order) (c : Cell) (m s : ℕ) (p : Presence) → list_any (tests (acting s) c m) orders ≡ false → applied orders c m s p ≡ p
left_alone orders c m s p h =
    applied_airs orders c m s p (contrary (list_any (clears c m s) orders) (list_any (tests (acting s) c m) orders) (any_implies (clears c m s) (tests (acting s) c m) (clears_of c m s) orders) h)
    ∙ ap (λ t. cond t OnAir p) (contrary (list_any (airs c m s) orders) (list_any (tests (acting s) c m) orders) (any_implies (airs c m s) (tests (acting s) c m) (airs_of c m s) orders) h)

-- a key that is planned and not on air, or present and not planned, does not agree with the plan
disagrees : (p : Presence) (q : Bool) → (if q then not (is_on_air p) else not (is_absent p)) ≡ true → Agrees p q → ⊥
disagrees p true h g = let no : false ≡ true = sym (ap (λ k. not (is_on_air k)) g) ∙ h in absurd cc
disagrees p false h g = let no : false ≡ true = sym (ap (λ k. not (is_absent k)) g) ∙ h in absurd cc

-- what is known of a pending order in one of its cells: its own key is in the book, free there, and not as planned
pub record IsNeeded (past : Past) (b : ℕ) (c : Cell) (m s : ℕ) : Type 0 where
  pub key : is_key past m s ≡ true
  pub free : is_free past b c m s ≡ true
  pub due : (if planned past b c m s then not (is_on_air (presence past b c m s)) else not (is_absent (presence past b c m s))) ≡ true

-- one of a list that passes
any_between : {X : Type 0} (p : X → Bool) (front : List X) (x : X) (back : List X) → p x ≡ true → list_any p (front ++ x ∷ back) ≡ true
any_between p front x back h = list_any-append p front (x ∷ back) ∙ or_right (list_any p front) (p x || list_any p back) (or_left (p x) (list_any p back) h)

-- of a list that all pass, each does
all_between : {X : Type 0} (p : X → Bool) (front : List X) (x : X) (back : List X) → list_all p (front ++ x ∷ back) ≡ true → p x ≡ true
all_between p front x back h =
    (and_parts (p x) (list_all p back) (and_parts (list_all p front) (p x && list_all p back) (sym (list_all-append p front (x ∷ back)) ∙ h)).1).0

pub own_key : (k : ℕ → ℕ → Bool) (kind : OrderKind) (m s : ℕ) → keyed k kind m s ≡ true → k m s ≡ true
own_key k Write m s h = h
own_key k (Replace old) m s h = (and_parts (k m s) (k m old) h).0
own_key k Kill m s h = h

-- a pending write or replace is of a key that is planned, free and not on air
airs_needed : (settings : Settings) (past : Past) → Legal settings past → (b : ℕ) (c : Cell) (m s : ℕ) → is_key past m s ≡ true → list_any (airs c m s) (pending past b) ≡ true → IsNeeded past b c m s
airs_needed settings past legal b c m s key h =
    let parts = and_parts (is_among c (cells past) && (is_free past b c m s && not (is_on_air (presence past b c m s)))) (planned past b c m s) (sym (airs_pending settings past legal b c m s) ∙ h) in
    let here = and_parts (is_free past b c m s) (not (is_on_air (presence past b c m s))) (and_parts (is_among c (cells past)) (is_free past b c m s && not (is_on_air (presence past b c m s))) parts.0).1 in
    record { key = key; free = here.0; due = ap (λ q. if q then not (is_on_air (presence past b c m s)) else not (is_absent (presence past b c m s))) parts.1 ∙ here.1 }

-- and a pending KILL of one that is not planned, free and not absent
clears_needed : (settings : Settings) (past : Past) → Legal settings past → (b : ℕ) (c : Cell) (m s : ℕ) → is_key past m s ≡ true → list_any (clears c m s) (pending past b) ≡ true → IsNeeded past b c m s
clears_needed settings past legal b c m s key h =
    let parts = and_parts (is_among c (cells past) && (is_free past b c m s && not (is_absent (presence past b c m s)))) (not (planned past b c m s)) (sym (clears_pending settings past legal b c m s key) ∙ h) in
    let here = and_parts (is_free past b c m s) (not (is_absent (presence past b c m s))) (and_parts (is_among c (cells past)) (is_free past b c m s && not (is_absent (presence past b c m s))) parts.0).1 in
    record { key = key; free = here.0; due = ap (λ q. if q then not (is_on_air (presence past b c m s)) else not (is_absent (presence past b c m s))) (not-true (planned past b c m s) parts.1) ∙ here.1 }

-- each pending order is needed in each of its cells
is_needed : (settings : Settings) (past : Past) → Legal settings past → (b : ℕ) (front : List Order) (order : Order) (back : List Order) (c : Cell) → pending past b ≡ front ++ order ∷ back → is_among c order.cells ≡ true → IsNeeded past b c order.message_id order.serial
is_needed settings past legal b front order back c e there = step order.kind refl
  where
    m : ℕ
    m = order.message_id

    s : ℕ
    s = order.serial

    key : is_key past m s ≡ true
    key = own_key (is_key past) order.kind m s (all_between (order_keyed (is_key past)) front order back (sym (ap (list_all (order_keyed (is_key past))) e) ∙ pending_keyed past b))

    in_cell_of : (nat_eq order.message_id m && is_among c order.cells) ≡ true
    in_cell_of = and_from (nat_eq order.message_id m) (is_among c order.cells) (eq-eqb m m refl) there

    among : (p : Order → Bool) → p order ≡ true → list_any p (pending past b) ≡ true
    among p h = ap (list_any p) e ∙ any_between p front order back h

    by_airs : (k : OrderKind) → order.kind ≡ k → is_kill k ≡ false → IsNeeded past b c m s
    by_airs k is h = airs_needed settings past legal b c m s key (among (airs c m s) (and_from (nat_eq order.message_id m && is_among c order.cells) (not (is_kill order.kind) && nat_eq s s) in_cell_of (and_from (not (is_kill order.kind)) (nat_eq s s) (ap (λ j. not (is_kill j)) is ∙ ap not h) (eq-eqb s s refl))))

    step : (k : OrderKind) → order.kind ≡ k → IsNeeded past b c m s
    step Write is = by_airs Write is refl
    step (Replace old) is = by_airs (Replace old) is refl
    step Kill is = clears_needed settings past legal b c m s key (among (clears c m s) (and_from (nat_eq order.message_id m && is_among c order.cells) (clears_serial order.kind s s) in_cell_of (ap (λ j. clears_serial j s s) is ∙ eq-eqb s s refl)))

-- without it in one of them no pending order is of its key there
none_left : (settings : Settings) (past : Past) → Legal settings past → (b : ℕ) (front : List Order) (order : Order) (back : List Order) (c : Cell) → pending past b ≡ front ++ order ∷ back → is_among c order.cells ≡ true → list_any (tests (acting order.serial) c order.message_id) (front ++ without_cell c order ∷ back) ≡ false
none_left settings past legal b front order back c e there =
    list_any-append p front (without_cell c order ∷ back) ∙ or_from (list_any p front) (p (without_cell c order) || list_any p back) others.0 (or_from (p (without_cell c order)) (list_any p back) (none_without (acting order.serial) c order.message_id order) others.1)
  where
    p : Order → Bool
    p = tests (acting order.serial) c order.message_id

    own : p order ≡ true
    own =
        and_from (nat_eq order.message_id order.message_id && is_among c order.cells) (acting order.serial order.kind order.serial)
        (and_from (nat_eq order.message_id order.message_id) (is_among c order.cells) (eq-eqb order.message_id order.message_id refl) there)
        (or_left (nat_eq order.serial order.serial) (replaces order.kind order.serial) (eq-eqb order.serial order.serial refl))

    few : count_of p (front ++ order ∷ back) ≤ 1
    few = omega (arith, ap (count_of p) e, pending_few settings past legal b c order.message_id order.serial)

    others : (list_any p front ≡ false) × (list_any p back ≡ false)
    others = others_fail p front order back few own

-- so its key stays as it was reported, which is not as planned
pub none_to_spare : (settings : Settings) (past : Past) → Legal settings past → NoneToSpare past
none_to_spare settings past legal = record {
  each = λ b front order back c e there.
      misses b c order.message_id order.serial (front ++ without_cell c order ∷ back) (is_needed settings past legal b front order back c e there) (none_left settings past legal b front order back c e there);
}
  where
    misses : (b : ℕ) (c : Cell) (m s : ℕ) (orders : List Order) → IsNeeded past b c m s → list_any (tests (acting s) c m) orders ≡ false → Misses past b c m s orders
    misses b c m s orders needed none =
        let parts = and_parts (not (is_down past (key_kind past m s) b c)) (not (is_held past b c m s)) needed.free in
        record {
          key = needed.key;
          up = not-true (is_down past (key_kind past m s) b c) parts.0;
          free = not-true (is_held past b c m s) parts.1;
          differs = λ agrees. disagrees (presence past b c m s) (planned past b c m s) needed.due (subst (λ p. Agrees p (planned past b c m s)) (left_alone orders c m s (presence past b c m s) none) agrees);
        }
