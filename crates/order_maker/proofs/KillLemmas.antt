-- What is held as the KILLs of versions that a line had before and has now change one after another.
use Rattle.std.proofs.Common.{◌≡◌, ℕ, zero, suc, ◌+◌, ◌<◌, Bool, true, false, ◌&&◌, ◌||◌, not, nat_eq, List, [], ◌∷◌, ◌++◌, length, get_or, take, drop, map, Option, Some, None, if◌then◌else◌, refl, sym, ◌∙◌, ap, arith}
use Rattle.std.proofs.lemmas.Bool.{and_parts, or_right}
use Rattle.std.proofs.lemmas.List.{take_more, take-append-drop}
use Rattle.std.proofs.lemmas.List.Folds.{list_any-append}
use Rattle.std.specs.Bool.{beq}
use Rattle.std.specs.Cmp.{unsigned_Decides}
use Rattle.std.specs.List.{list_any}
use Rattle.common.specs.Cell.{cell_eq}
use Rattle.common.specs.declared.cell.Cell.{Cell}
use Rattle.mirror.specs.Seen.{Seen}
use Rattle.order_maker.proofs.ActionsLemmas.{kills-append, deeds_listed}
use Rattle.order_maker.proofs.ShiftLemmas.{listed_both}
use Rattle.order_maker.specs.Actions.{needs, replaced, fresh_kind, deed, is_to_kill, kills, deeds, in_cell, listed, fresh_deed, kill_deed}
use Rattle.order_maker.specs.Grouping.{kind_eq}
use Rattle.order_maker.specs.Pending.{HeldOrders, action_eq, is_listed, holds, Shifts, IsWith, IsWithout}
use Rattle.order_maker.specs.declared.action.Action.{Action}
use Rattle.order_maker.specs.declared.order_kind.OrderKind.{OrderKind}
use Rattle.order_maker.specs.declared.order_kind.OrderKind.TheVariants.{Write, Replace, Kill}

-- Which actions are KILLs of the versions.

-- the action is a KILL of a message with that identifier, in the cell
abbrev pub is_kill_in : ℕ → Cell → Action → Bool
is_kill_in m c x = kind_eq x.kind Kill && (nat_eq x.message_id m && cell_eq x.cell c)

none_of : (a b : Bool) → false ≡ (a && (b && false))
none_of true true = refl
none_of true false = refl
none_of false b = refl

or_none : (a : Bool) → (a || false) ≡ a
or_none true = refl
or_none false = refl

-- the KILL of one version is found
is_that : (k m e b p : Bool) → b ≡ true → ((k && (m && (true && e))) || ((k && (m && e)) && (b && p))) ≡ ((k && (m && e)) && (b && true))
is_that false m e b p h = refl
is_that true false e b p h = refl
is_that true true false b p h = refl
is_that true true true b p h = sym (ap (λ t. t && true) h)

-- another is sought
is_other : (k m e b p : Bool) → ((k && (m && (false && e))) || ((k && (m && e)) && (b && p))) ≡ ((k && (m && e)) && (b && p))
is_other false m e b p = refl
is_other true false e b p = refl
is_other true true e b p = refl

-- a version that is not to be killed has no KILL
is_kept : (a b p q : Bool) → (q ≡ true → b ≡ false) → (a && (b && p)) ≡ (a && (b && (q || p)))
is_kept a b p false h = refl
is_kept a b p true h = ap (λ t. a && (t && p)) (h refl) ∙ sym (ap (λ t. a && (t && true)) (h refl))

-- an action is one of the KILLs of the versions where it is a KILL for the line of one of these, which is to be killed
pub kills_listed : (v : Seen) (c : Cell) (versions : List ℕ) (x : Action) → is_listed x (map (in_cell c) (kills v versions)) ≡ (is_kill_in v.message_id c x && (is_to_kill v x.serial && list_any (nat_eq x.serial) versions))
kills_listed v c [] x = none_of (is_kill_in v.message_id c x) (is_to_kill v x.serial)
kills_listed v c (t ∷ ts) x = step (is_to_kill v t) refl (kills_listed v c ts x)
  where
    all : Bool
    all = is_kill_in v.message_id c x && (is_to_kill v x.serial && list_any (nat_eq x.serial) ts)

    same : (k : Bool) → is_to_kill v t ≡ k → nat_eq x.serial t ≡ true → is_to_kill v x.serial ≡ k
    same k e f = ap (is_to_kill v) ((unsigned_Decides x.serial t).0 f) ∙ e

    found : is_to_kill v t ≡ true → (q : Bool) → nat_eq x.serial t ≡ q → ((kind_eq x.kind Kill && (nat_eq x.message_id v.message_id && (q && cell_eq x.cell c))) || (is_kill_in v.message_id c x && (is_to_kill v x.serial && list_any (nat_eq x.serial) ts))) ≡ (is_kill_in v.message_id c x && (is_to_kill v x.serial && (q || list_any (nat_eq x.serial) ts)))
    found e true f = is_that (kind_eq x.kind Kill) (nat_eq x.message_id v.message_id) (cell_eq x.cell c) (is_to_kill v x.serial) (list_any (nat_eq x.serial) ts) (same true e f)
    found e false f = is_other (kind_eq x.kind Kill) (nat_eq x.message_id v.message_id) (cell_eq x.cell c) (is_to_kill v x.serial) (list_any (nat_eq x.serial) ts)

    step : (k : Bool) → is_to_kill v t ≡ k → is_listed x (map (in_cell c) (kills v ts)) ≡ (is_kill_in v.message_id c x && (is_to_kill v x.serial && list_any (nat_eq x.serial) ts)) → is_listed x (map (in_cell c) ((if k then deed v Kill t ∷ [] else []) ++ kills v ts)) ≡ (is_kill_in v.message_id c x && (is_to_kill v x.serial && (nat_eq x.serial t || list_any (nat_eq x.serial) ts)))
    step true e rest =
        ap (λ r. action_eq x (in_cell c (deed v Kill t)) || r) rest ∙ found e (nat_eq x.serial t) refl
    step false e rest =
        rest ∙ is_kept (is_kill_in v.message_id c x) (is_to_kill v x.serial) (list_any (nat_eq x.serial) ts) (nat_eq x.serial t) (same false e)

-- The KILL of one version comes or goes.

-- whether an action is held after a KILL that was to be sent, or not, is to be sent now, or not
abbrev pub turned : Bool → Bool → Bool → Bool → Bool
turned true true that held = held
turned false false that held = held
turned true false that held = held && not that
turned false true that held = that || held

turned_not : (k l h : Bool) → turned k l false h ≡ h
turned_not true true h = refl
turned_not false false h = refl
turned_not true false true = refl
turned_not true false false = refl
turned_not false true h = refl

-- whether an action is held after the KILLs of some versions, and then that of one more, have changed
one_more : (n a p q k l : Bool) (was is : Bool) (o h : Bool) → (q ≡ true → was ≡ k) → (q ≡ true → is ≡ l) → (n ≡ true → (a && (was && q)) ≡ true → o ≡ true)
    → h ≡ ((n && (a && (is && p))) || (o && not (n && (a && (was && p)))))
    → turned k l (n && (a && q)) h ≡ ((n && (a && (is && (p || q)))) || (o && not (n && (a && (was && (p || q))))))
one_more false a p q k l was is o h x y z e = turned_not k l h ∙ e
one_more true false p q k l was is o h x y z e = turned_not k l h ∙ e
one_more true true p false k l was is o h x y z e =
    turned_not k l h ∙ e ∙ (λ i. (is && sym (or_none p) i) || (o && not (was && sym (or_none p) i)))
one_more true true p true k l was is o h x y z e =
    ap (turned k l true) (e ∙ (λ i. (y refl i && p) || (o && not (x refl i && p))))
    ∙ ends k l p o (λ f. z refl (ap (λ t. t && true) (x refl) ∙ f))
    ∙ (λ i. (sym (y refl) i && (p || true)) || (o && not (sym (x refl) i && (p || true))))
  where
    ends : (k l p o : Bool) → ((k && true) ≡ true → o ≡ true) → turned k l true ((l && p) || (o && not (k && p))) ≡ ((l && (p || true)) || (o && not (k && (p || true))))
    ends true true true o z = refl
    ends true true false o z = ap (λ t. t && true) (z refl)
    ends false false p o z = refl
    ends true false p false z = refl
    ends true false true true z = refl
    ends true false false true z = refl
    ends false true true o z = refl
    ends false true false o z = refl

-- a serial number is among one version more where it is among those before, or is the last
among_more : (versions : List ℕ) (i serial : ℕ) → i < length versions → serial ≡ get_or versions i serial → (s : ℕ) → list_any (nat_eq s) (take (i + 1) versions) ≡ (list_any (nat_eq s) (take i versions) || nat_eq s serial)
among_more versions i serial h e s =
    ap (list_any (nat_eq s)) (take_more versions i serial h)
    ∙ list_any-append (nat_eq s) (take i versions) (get_or versions i serial ∷ [])
    ∙ ap (λ t. list_any (nat_eq s) (take i versions) || t) (or_none (nat_eq s (get_or versions i serial)))
    ∙ ap (λ t. list_any (nat_eq s) (take i versions) || nat_eq s t) (sym e)

-- the version at an index is among them
among_at : (versions : List ℕ) (i serial : ℕ) → i < length versions → serial ≡ get_or versions i serial → (s : ℕ) → nat_eq s serial ≡ true → list_any (nat_eq s) versions ≡ true
among_at [] i serial h e s f = absurd (omega arith)
among_at (t ∷ ts) zero serial h e s f = ap (λ n. nat_eq s n || list_any (nat_eq s) ts) (sym e) ∙ ap (λ k. k || list_any (nat_eq s) ts) f
among_at (t ∷ ts) (suc i) serial h e s f = or_right (nat_eq s t) (list_any (nat_eq s) ts) (among_at ts i serial (omega arith) e s f)

-- the parts of the test of an action, in another order
in_order_of : (k m s e : Bool) → (k && (m && (s && e))) ≡ ((k && (m && e)) && s)
in_order_of false m s e = refl
in_order_of true false s e = refl
in_order_of true true true true = refl
in_order_of true true true false = refl
in_order_of true true false true = refl
in_order_of true true false false = refl

-- the KILL of one version more, which the line had before and has now, is taken out, put in, or neither
pub kill_step : (b : ℕ) (c : Cell) (v w : Seen) (versions : List ℕ) (i serial : ℕ) (old held next : HeldOrders) → v.message_id ≡ w.message_id → i < length versions → serial ≡ get_or versions i serial
    → ((a : Action) → is_listed a (map (in_cell c) (kills v versions)) ≡ true → holds old b a ≡ true)
    → Shifts old held b (map (in_cell c) (kills v (take i versions))) (map (in_cell c) (kills w (take i versions)))
    → ((d : ℕ) (x : Action) → holds next d x ≡ turned (is_to_kill v serial) (is_to_kill w serial) (nat_eq d b && action_eq x (in_cell c (deed w Kill serial))) (holds held d x))
    → Shifts old next b (map (in_cell c) (kills v (take (i + 1) versions))) (map (in_cell c) (kills w (take (i + 1) versions)))
kill_step b c v w versions i serial old held next m h e there before now = record { each = step }
  where
    -- whether an action is a KILL for the line, of one of these versions, which was to be killed, and is
    was : (xs : List ℕ) (x : Action) → is_listed x (map (in_cell c) (kills v xs)) ≡ (is_kill_in w.message_id c x && (is_to_kill v x.serial && list_any (nat_eq x.serial) xs))
    was xs x = kills_listed v c xs x ∙ ap (λ n. is_kill_in n c x && (is_to_kill v x.serial && list_any (nat_eq x.serial) xs)) m

    there_at : (d : ℕ) (x : Action) → nat_eq d b ≡ true → (is_kill_in w.message_id c x && (is_to_kill v x.serial && nat_eq x.serial serial)) ≡ true → holds old d x ≡ true
    there_at d x n t =
        let one = and_parts (is_kill_in w.message_id c x) (is_to_kill v x.serial && nat_eq x.serial serial) t in
        let two = and_parts (is_to_kill v x.serial) (nat_eq x.serial serial) one.1 in
        ap (λ k. holds old k x) ((unsigned_Decides d b).0 n)
        ∙ there x (was versions x ∙ (λ j. one.0 j && (two.0 j && among_at versions i serial h e x.serial two.1 j)))

    same : (u : Seen) (x : Action) → nat_eq x.serial serial ≡ true → is_to_kill u x.serial ≡ is_to_kill u serial
    same u x q = ap (is_to_kill u) ((unsigned_Decides x.serial serial).0 q)

    step : (d : ℕ) (x : Action) → holds next d x ≡ ((nat_eq d b && is_listed x (map (in_cell c) (kills w (take (i + 1) versions)))) || (holds old d x && not (nat_eq d b && is_listed x (map (in_cell c) (kills v (take (i + 1) versions))))))
    step d x =
        let a : Bool = is_kill_in w.message_id c x in
        let p : Bool = list_any (nat_eq x.serial) (take i versions) in
        let q : Bool = nat_eq x.serial serial in
        let k : Bool = is_to_kill v x.serial in
        let l : Bool = is_to_kill w x.serial in
        now d x
        ∙ ap (λ t. turned (is_to_kill v serial) (is_to_kill w serial) (nat_eq d b && t) (holds held d x)) (in_order_of (kind_eq x.kind Kill) (nat_eq x.message_id w.message_id) q (cell_eq x.cell c))
        ∙ one_more (nat_eq d b) a p q (is_to_kill v serial) (is_to_kill w serial) k l (holds old d x) (holds held d x) (same v x) (same w x) (there_at d x)
        (before.each d x ∙ (λ j. (nat_eq d b && kills_listed w c (take i versions) x j) || (holds old d x && not (nat_eq d b && was (take i versions) x j))))
        ∙ (λ j. (nat_eq d b && (a && (l && sym (among_more versions i serial h e x.serial) j))) || (holds old d x && not (nat_eq d b && (a && (k && sym (among_more versions i serial h e x.serial) j)))))
        ∙ (λ j. (nat_eq d b && sym (kills_listed w c (take (i + 1) versions) x) j) || (holds old d x && not (nat_eq d b && sym (was (take (i + 1) versions) x) j)))

-- a KILL that comes or goes is put in or taken out
pub other_turned : (k l : Bool) → not (beq k l) ≡ true → (that held : Bool) → (if l then that || held else held && not that) ≡ turned k l that held
other_turned true true other that held = cc
other_turned true false other that held = refl
other_turned false true other that held = refl
other_turned false false other that held = cc

-- one that stays is neither
pub same_turned : (k l : Bool) → not (beq k l) ≡ false → (that held : Bool) → held ≡ turned k l that held
same_turned true true same that held = refl
same_turned true false same that held = cc
same_turned false true same that held = cc
same_turned false false same that held = refl

-- The KILL of one version, as a list of deeds.

kill_if : (v : Seen) (serial : ℕ) (t : Bool) → is_to_kill v serial ≡ t → listed (kill_deed v serial) ≡ listed (if t then Some (deed v Kill serial) else None)
kill_if v serial t e = ap (λ k. listed (if k then Some (deed v Kill serial) else None)) e

-- the KILL is put in
pub kill_put : (b : ℕ) (c : Cell) (v : Seen) (serial : ℕ) (held next : HeldOrders) → is_to_kill v serial ≡ true → ((d : ℕ) (x : Action) → holds next d x ≡ ((nat_eq d b && action_eq x (in_cell c (deed v Kill serial))) || holds held d x)) → IsWith held next b (map (in_cell c) (listed (kill_deed v serial)))
kill_put b c v serial held next e now d x =
    now d x
    ∙ (λ i. (nat_eq d b && sym (or_none (action_eq x (in_cell c (deed v Kill serial)))) i) || holds held d x)
    ∙ (λ i. (nat_eq d b && is_listed x (map (in_cell c) (sym (kill_if v serial true e) i))) || holds held d x)

-- and taken out
pub kill_taken : (b : ℕ) (c : Cell) (v : Seen) (serial : ℕ) (held next : HeldOrders) → is_to_kill v serial ≡ true → ((d : ℕ) (x : Action) → holds next d x ≡ (holds held d x && not (nat_eq d b && action_eq x (in_cell c (deed v Kill serial))))) → IsWithout held next b (map (in_cell c) (listed (kill_deed v serial)))
kill_taken b c v serial held next e now d x =
    now d x
    ∙ (λ i. holds held d x && not (nat_eq d b && sym (or_none (action_eq x (in_cell c (deed v Kill serial)))) i))
    ∙ (λ i. holds held d x && not (nat_eq d b && is_listed x (map (in_cell c) (sym (kill_if v serial true e) i))))

with_none : (n h : Bool) → h ≡ ((n && false) || h)
with_none true h = refl
with_none false h = refl

without_none : (n h : Bool) → h ≡ (h && not (n && false))
without_none true true = refl
without_none true false = refl
without_none false true = refl
without_none false false = refl

-- where there is none, nothing is put in
pub none_put : (b : ℕ) (c : Cell) (v : Seen) (serial : ℕ) (held : HeldOrders) → is_to_kill v serial ≡ false → IsWith held held b (map (in_cell c) (listed (kill_deed v serial)))
none_put b c v serial held e d x =
    with_none (nat_eq d b) (holds held d x) ∙ (λ i. (nat_eq d b && is_listed x (map (in_cell c) (sym (kill_if v serial false e) i))) || holds held d x)

-- and nothing taken out
pub none_taken : (b : ℕ) (c : Cell) (v : Seen) (serial : ℕ) (held : HeldOrders) → is_to_kill v serial ≡ false → IsWithout held held b (map (in_cell c) (listed (kill_deed v serial)))
none_taken b c v serial held e d x =
    without_none (nat_eq d b) (holds held d x) ∙ (λ i. holds held d x && not (nat_eq d b && is_listed x (map (in_cell c) (sym (kill_if v serial false e) i))))

-- What is to be ordered on the line, once its write and its KILLs have changed.

kind_of_write : (old : Option ℕ) (k : OrderKind) → kind_eq k (fresh_kind old) ≡ true → kind_eq k Kill ≡ false
kind_of_write old Write h = refl
kind_of_write old (Replace other) h = refl
kind_of_write None Kill h = cc
kind_of_write (Some old) Kill h = cc

-- the line's write is no KILL
write_apart : (v : Seen) (wanted : Option ℕ) (c : Cell) (x : Action) → is_listed x (map (in_cell c) (listed (fresh_deed v wanted))) ≡ true → kind_eq x.kind Kill ≡ false
write_apart v None c x h = cc
write_apart v (Some s) c x h = step (needs v s) h
  where
    step : (t : Bool) → is_listed x (map (in_cell c) (listed (if t then Some (deed v (fresh_kind (replaced v s)) s) else None))) ≡ true → kind_eq x.kind Kill ≡ false
    step true g =
        kind_of_write (replaced v s) x.kind (and_parts (kind_eq x.kind (fresh_kind (replaced v s))) (nat_eq x.message_id v.message_id && (nat_eq x.serial s && cell_eq x.cell c)) (sym (or_none (action_eq x (in_cell c (deed v (fresh_kind (replaced v s)) s)))) ∙ g)).0
    step false g = cc

-- and its KILLs are
kills_are : (v : Seen) (versions : List ℕ) (c : Cell) (x : Action) → is_listed x (map (in_cell c) (kills v versions)) ≡ true → kind_eq x.kind Kill ≡ true
kills_are v versions c x h =
    let all = and_parts (is_kill_in v.message_id c x) (is_to_kill v x.serial && list_any (nat_eq x.serial) versions) (sym (kills_listed v c versions x) ∙ h) in
    (and_parts (kind_eq x.kind Kill) (nat_eq x.message_id v.message_id && cell_eq x.cell c) all.0).0

-- so that no action is both
not_both : (v w : Seen) (versions : List ℕ) (c : Cell) (x : Action) → is_listed x (map (in_cell c) (kills v versions)) ≡ true → is_listed x (map (in_cell c) (listed (fresh_deed w w.wanted))) ≡ false
not_both v w versions c x h = step (is_listed x (map (in_cell c) (listed (fresh_deed w w.wanted)))) refl
  where
    step : (t : Bool) → is_listed x (map (in_cell c) (listed (fresh_deed w w.wanted))) ≡ t → t ≡ false
    step true e = let no : true ≡ false = sym (kills_are v versions c x h) ∙ write_apart w w.wanted c x e in cc
    step false e = refl

-- what is to be ordered on the line is its write and its KILLs
deeds_both : (v : Seen) (c : Cell) (x : Action) → is_listed x (map (in_cell c) (deeds v)) ≡ (is_listed x (map (in_cell c) (listed (fresh_deed v v.wanted))) || is_listed x (map (in_cell c) (kills v v.versions)))
deeds_both v c x = ap (λ ds. is_listed x (map (in_cell c) ds)) (deeds_listed v) ∙ listed_both c (listed (fresh_deed v v.wanted)) (kills v v.versions) x

-- where all that was to be ordered on the line is held, so are its KILLs after its write has changed
pub kills_held : (b : ℕ) (c : Cell) (v w : Seen) (old first : HeldOrders) → ((a : Action) → is_listed a (map (in_cell c) (deeds v)) ≡ true → holds old b a ≡ true) → Shifts old first b (map (in_cell c) (listed (fresh_deed v v.wanted))) (map (in_cell c) (listed (fresh_deed w w.wanted))) → (a : Action) → is_listed a (map (in_cell c) (kills v v.versions)) ≡ true → holds first b a ≡ true
kills_held b c v w old first there shift a h =
    shift.each b a
    ∙ (λ i. (nat_eq b b && is_listed a (map (in_cell c) (listed (fresh_deed w w.wanted)))) || (is_there i && not (nat_eq b b && not_both v v v.versions c a h i)))
    ∙ stays (nat_eq b b) (is_listed a (map (in_cell c) (listed (fresh_deed w w.wanted))))
  where
    is_there : holds old b a ≡ true
    is_there = there a (deeds_both v c a ∙ or_right (is_listed a (map (in_cell c) (listed (fresh_deed v v.wanted)))) (is_listed a (map (in_cell c) (kills v v.versions))) h)

    stays : (n f : Bool) → ((n && f) || (true && not (n && false))) ≡ true
    stays false f = refl
    stays true true = refl
    stays true false = refl

-- whether an action is held after the write has changed, and then the KILLs, and then those of more versions are put in
all_changed : (n f g k l r o : Bool) → (k ≡ true → g ≡ false) → ((n && r) || ((n && l) || (((n && g) || (o && not (n && f))) && not (n && k)))) ≡ ((n && (g || (l || r))) || (o && not (n && (f || k))))
all_changed false f g k l r true apart = refl
all_changed false f g k l r false apart = refl
all_changed true f true false true true o apart = refl
all_changed true f true false true false o apart = refl
all_changed true f true false false true o apart = refl
all_changed true f true false false false o apart = refl
all_changed true f true true l r o apart = let no : true ≡ false = apart refl in cc
all_changed true f false k true true o apart = refl
all_changed true f false k true false o apart = refl
all_changed true f false k false true o apart = refl
all_changed true true false true false false true apart = refl
all_changed true true false true false false false apart = refl
all_changed true true false false false false true apart = refl
all_changed true true false false false false false apart = refl
all_changed true false false true false false true apart = refl
all_changed true false false true false false false apart = refl
all_changed true false false false false false true apart = refl
all_changed true false false false false false false apart = refl

-- the write has changed, then the KILLs of the versions that the line had, and then those of later ones are put in
pub line_changed : (b : ℕ) (c : Cell) (v w : Seen) (old first second new : HeldOrders) → take (length v.versions) w.versions ≡ v.versions
    → Shifts old first b (map (in_cell c) (listed (fresh_deed v v.wanted))) (map (in_cell c) (listed (fresh_deed w w.wanted)))
    → Shifts first second b (map (in_cell c) (kills v v.versions)) (map (in_cell c) (kills w v.versions))
    → IsWith second new b (map (in_cell c) (kills w (drop (length v.versions) w.versions)))
    → Shifts old new b (map (in_cell c) (deeds v)) (map (in_cell c) (deeds w))
line_changed b c v w old first second new begins write some more = record { each = step }
  where
    all : (x : Action) → is_listed x (map (in_cell c) (kills w w.versions)) ≡ (is_listed x (map (in_cell c) (kills w v.versions)) || is_listed x (map (in_cell c) (kills w (drop (length v.versions) w.versions))))
    all x =
        ap (λ ss. is_listed x (map (in_cell c) (kills w ss))) (sym (take-append-drop (length v.versions) w.versions) ∙ ap (λ ss. ss ++ drop (length v.versions) w.versions) begins)
        ∙ ap (λ ds. is_listed x (map (in_cell c) ds)) (kills-append w v.versions (drop (length v.versions) w.versions))
        ∙ listed_both c (kills w v.versions) (kills w (drop (length v.versions) w.versions)) x

    step : (d : ℕ) (x : Action) → holds new d x ≡ ((nat_eq d b && is_listed x (map (in_cell c) (deeds w))) || (holds old d x && not (nat_eq d b && is_listed x (map (in_cell c) (deeds v)))))
    step d x =
        let n : Bool = nat_eq d b in
        let f : Bool = is_listed x (map (in_cell c) (listed (fresh_deed v v.wanted))) in
        let g : Bool = is_listed x (map (in_cell c) (listed (fresh_deed w w.wanted))) in
        let k : Bool = is_listed x (map (in_cell c) (kills v v.versions)) in
        let l : Bool = is_listed x (map (in_cell c) (kills w v.versions)) in
        let r : Bool = is_listed x (map (in_cell c) (kills w (drop (length v.versions) w.versions))) in
        more d x
        ∙ ap (λ t. (n && r) || t) (some.each d x ∙ ap (λ t. (n && l) || (t && not (n && k))) (write.each d x))
        ∙ all_changed n f g k l r (holds old d x) (not_both v w v.versions c x)
        ∙ (λ i. (n && (g || sym (all x) i)) || (holds old d x && not (n && sym (deeds_both v c x) i)))
        ∙ ap (λ t. (n && t) || (holds old d x && not (n && is_listed x (map (in_cell c) (deeds v))))) (sym (deeds_both w c x))
