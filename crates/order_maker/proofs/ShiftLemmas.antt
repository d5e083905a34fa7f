-- What is held as the actions of a line are put in, or taken out, one after another.
use Rattle.std.proofs.Common.{◌≡◌, ℕ, ◌+◌, ◌<◌, Bool, true, false, ◌&&◌, ◌||◌, not, nat_eq, List, ◌++◌, length, get_or, take, map, refl, sym, ◌∙◌, ap}
use Rattle.std.proofs.lemmas.List.{map-append}
use Rattle.std.proofs.lemmas.List.Folds.{list_any-append}
use Rattle.std.specs.List.{list_any}
use Rattle.common.specs.declared.cell.Cell.{Cell}
use Rattle.mirror.specs.Seen.{Seen}
use Rattle.order_maker.proofs.ActionsLemmas.{kills_more, deeds_listed}
use Rattle.order_maker.specs.Actions.{kills, deeds, in_cell, listed, fresh_deed, kill_deed}
use Rattle.order_maker.specs.Pending.{HeldOrders, action_eq, is_listed, holds, Shifts, IsWith, IsWithout}
use Rattle.order_maker.specs.declared.action.Action.{Action}
use Rattle.order_maker.specs.declared.deed.Deed.{Deed}

or_none : (a : Bool) → (a || false) ≡ a
or_none true = refl
or_none false = refl

-- an action is one of two lists where it is one of either
pub listed_both : (c : Cell) (xs ys : List Deed) (x : Action) → is_listed x (map (in_cell c) (xs ++ ys)) ≡ (is_listed x (map (in_cell c) xs) || is_listed x (map (in_cell c) ys))
listed_both c xs ys x =
    ap (list_any (action_eq x)) (map-append (in_cell c) xs ys) ∙ list_any-append (action_eq x) (map (in_cell c) xs) (map (in_cell c) ys)

puts : (n l a h : Bool) → ((n && a) || ((n && l) || h)) ≡ ((n && (l || a)) || h)
puts false l a h = refl
puts true true true h = refl
puts true true false h = refl
puts true false true h = refl
puts true false false h = refl

takes : (n l a h : Bool) → ((h && not (n && l)) && not (n && a)) ≡ (h && not (n && (l || a)))
takes n l a false = refl
takes false l a true = refl
takes true true a true = refl
takes true false a true = refl

-- some are put in, and then others
pub put_both : (b : ℕ) (c : Cell) (xs ys : List Deed) (first held next : HeldOrders) → IsWith first held b (map (in_cell c) xs) → IsWith held next b (map (in_cell c) ys) → IsWith first next b (map (in_cell c) (xs ++ ys))
put_both b c xs ys first held next before now d x =
    now d x
    ∙ ap (λ t. (nat_eq d b && is_listed x (map (in_cell c) ys)) || t) (before d x)
    ∙ puts (nat_eq d b) (is_listed x (map (in_cell c) xs)) (is_listed x (map (in_cell c) ys)) (holds first d x)
    ∙ ap (λ t. (nat_eq d b && t) || holds first d x) (sym (listed_both c xs ys x))

-- some are taken out, and then others
pub taken_both : (b : ℕ) (c : Cell) (xs ys : List Deed) (first held next : HeldOrders) → IsWithout first held b (map (in_cell c) xs) → IsWithout held next b (map (in_cell c) ys) → IsWithout first next b (map (in_cell c) (xs ++ ys))
taken_both b c xs ys first held next before now d x =
    now d x
    ∙ ap (λ t. t && not (nat_eq d b && is_listed x (map (in_cell c) ys))) (before d x)
    ∙ takes (nat_eq d b) (is_listed x (map (in_cell c) xs)) (is_listed x (map (in_cell c) ys)) (holds first d x)
    ∙ ap (λ t. holds first d x && not (nat_eq d b && t)) (sym (listed_both c xs ys x))

-- the KILL of one version more is put in
pub put_next : (b : ℕ) (c : Cell) (v : Seen) (versions : List ℕ) (i serial : ℕ) (first held next : HeldOrders) → i < length versions → serial ≡ get_or versions i serial → IsWith first held b (map (in_cell c) (kills v (take i versions))) → IsWith held next b (map (in_cell c) (listed (kill_deed v serial))) → IsWith first next b (map (in_cell c) (kills v (take (i + 1) versions)))
put_next b c v versions i serial first held next h e before now =
    let last : listed (kill_deed v (get_or versions i serial)) ≡ listed (kill_deed v serial) = ap (λ s. listed (kill_deed v s)) (sym e) in
    let more : kills v (take (i + 1) versions) ≡ kills v (take i versions) ++ listed (kill_deed v serial) = kills_more v versions i serial h ∙ ap (λ ds. kills v (take i versions) ++ ds) last in
    rw more (put_both b c (kills v (take i versions)) (listed (kill_deed v serial)) first held next before now)

-- the KILL of one version more is taken out
pub take_next : (b : ℕ) (c : Cell) (v : Seen) (versions : List ℕ) (i serial : ℕ) (first held next : HeldOrders) → i < length versions → serial ≡ get_or versions i serial → IsWithout first held b (map (in_cell c) (kills v (take i versions))) → IsWithout held next b (map (in_cell c) (listed (kill_deed v serial))) → IsWithout first next b (map (in_cell c) (kills v (take (i + 1) versions)))
take_next b c v versions i serial first held next h e before now =
    let last : listed (kill_deed v (get_or versions i serial)) ≡ listed (kill_deed v serial) = ap (λ s. listed (kill_deed v s)) (sym e) in
    let more : kills v (take (i + 1) versions) ≡ kills v (take i versions) ++ listed (kill_deed v serial) = kills_more v versions i serial h ∙ ap (λ ds. kills v (take i versions) ++ ds) last in
    rw more (taken_both b c (kills v (take i versions)) (listed (kill_deed v serial)) first held next before now)

-- what a line had to be ordered is taken out, and what it has is put in
pub taken_put : (b : ℕ) (c : Cell) (v w : Seen) (old held new : HeldOrders) → IsWithout old held b (map (in_cell c) (listed (fresh_deed v v.wanted) ++ kills v v.versions)) → IsWith held new b (map (in_cell c) (listed (fresh_deed w w.wanted) ++ kills w w.versions)) → Shifts old new b (map (in_cell c) (deeds v)) (map (in_cell c) (deeds w))
taken_put b c v w old held new gone come = record {
  each = λ d a. come d a ∙ (λ i. (nat_eq d b && is_listed a (map (in_cell c) (sym (deeds_listed w) i))) || (gone d a ∙ (λ j. holds old d a && not (nat_eq d b && is_listed a (map (in_cell c) (sym (deeds_listed v) j))))) i);
}
