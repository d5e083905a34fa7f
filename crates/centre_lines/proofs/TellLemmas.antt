-- The changes of the lines on which an event bears lead from what the past says to what it says with the entry.
use Rattle.std.proofs.Common.{◌≡◌, ℕ, Bool, true, false, ◌&&◌, ◌||◌, not, nat_eq, List, [], ◌∷◌, ◌++◌, map, refl, sym, ◌∙◌, ap, eqb-true, eq-eqb, ◌*◌, length, arith, length-append}
use Rattle.std.specs.List.{list_any}
use Rattle.std.proofs.lemmas.Bool.{and_parts, and_from, not-true, or_right}
use Rattle.std.proofs.lemmas.List.{length-map}
use Rattle.std.proofs.lemmas.List.Folds.{list_any-append}
use Rattle.common.specs.Cell.{cell_eq}
use Rattle.common.specs.Order.{each_once}
use Rattle.coverage_plan.specs.Plan.{State}
use Rattle.kept_tables.specs.Changes.{Change, changes_key, Tells}
use Rattle.kept_tables.specs.Tables.{Tables}
use Rattle.kept_tables.specs.View.{View, key_eq, key_at, spot_of, spot_eq}
use Rattle.kept_tables.specs.declared.spot.Spot.{Spot}
use Rattle.mirror.specs.declared.line_key.LineKey.{LineKey}
use Rattle.centre_past.specs.Facts.{facts}
use Rattle.centre_lines.specs.Following.{Happens, Bears, keys_of, entry_of}
use Rattle.centre_events.specs.Past.{After}
use Rattle.centre_past.specs.Reach.{Reach, IsReach, bears}
use Rattle.centre_lines.specs.declared.line_before.LineBefore.{LineBefore}

-- the change of a line from one view to another
abbrev pub from_to : View → View → LineKey → Change
from_to from to k = record { key = k; before = from k; after = to k }

pub any_changes : (from to : View) (k : LineKey) (ks : List LineKey) → changes_key k (map (from_to from to) ks) ≡ list_any (key_eq k) ks
any_changes from to k [] = refl
any_changes from to k (q ∷ ks) = ap (λ t. key_eq k q || t) (any_changes from to k ks)

-- lines, each once, are changed each once
pub tells_keys : (from to : View) (ks : List LineKey) → each_once key_eq ks ≡ true → Tells from to (map (from_to from to) ks)
tells_keys from to [] once = tt
tells_keys from to (k ∷ ks) once =
    let parts = and_parts (not (list_any (key_eq k) ks)) (each_once key_eq ks) once in
    (refl, (refl, (any_changes from to k ks ∙ not-true (list_any (key_eq k) ks) parts.0, tells_keys from to ks parts.1)))

-- the lines of each of the warnings at each of the spots

pub at_spot : (k : LineKey) (p : Spot) (ns : List ℕ) → list_any (key_eq k) (map (key_at p) ns) ≡ (spot_eq (spot_of k) p && list_any (nat_eq k.warning) ns)
at_spot k p [] = none (spot_eq (spot_of k) p)
  where
    none : (t : Bool) → false ≡ (t && false)
    none true = refl
    none false = refl
at_spot k p (n ∷ ns) = ap (λ t. key_eq k (key_at p n) || t) (at_spot k p ns) ∙ table (nat_eq k.bsc p.bsc) (cell_eq k.cell p.cell) (nat_eq k.warning n) (list_any (nat_eq k.warning) ns)
  where
    table : (b c n m : Bool) → ((b && (c && n)) || ((b && c) && m)) ≡ ((b && c) && (n || m))
    table true true n m = refl
    table true false n m = refl
    table false c n m = refl

pub any_keys : (k : LineKey) (ps : List Spot) (ns : List ℕ) → list_any (key_eq k) (keys_of ps ns) ≡ bears (record { spots = ps; warnings = ns }) k
any_keys k [] ns = refl
any_keys k (p ∷ ps) ns =
    list_any-append (key_eq k) (map (key_at p) ns) (keys_of ps ns)
    ∙ ap (λ t. t || list_any (key_eq k) (keys_of ps ns)) (at_spot k p ns)
    ∙ ap (λ t. (spot_eq (spot_of k) p && list_any (nat_eq k.warning) ns) || t) (any_keys k ps ns)
    ∙ table (spot_eq (spot_of k) p) (list_any (spot_eq (spot_of k)) ps) (list_any (nat_eq k.warning) ns)
  where
    table : (x y z : Bool) → ((x && z) || (y && z)) ≡ ((x || y) && z)
    table true true true = refl
    table true true false = refl
    table true false true = refl
    table true false false = refl
    table false y z = refl

-- they are those on which an event bears
pub bears_of : (k : LineKey) (ps : List Spot) (ns : List ℕ) (r : Reach) → IsReach (record { spots = ps; warnings = ns }) r → list_any (key_eq k) (keys_of ps ns) ≡ bears r k
bears_of k ps ns r reach =
    any_keys k ps ns
    ∙ ap (λ t. t && list_any (nat_eq k.warning) ns) (reach.spots (spot_of k))
    ∙ ap (λ t. list_any (spot_eq (spot_of k)) r.spots && t) (reach.warnings k.warning)

-- and as many
pub keys_counted : (ps : List Spot) (ns : List ℕ) → length (keys_of ps ns) ≡ length ps * length ns
keys_counted [] ns = omega arith
keys_counted (p ∷ ps) ns = omega (arith, length-append (map (key_at p) ns) (keys_of ps ns), length-map ns (key_at p), keys_counted ps ns)

once_join : (xs ys : List LineKey) → each_once key_eq xs ≡ true → each_once key_eq ys ≡ true → ((k : LineKey) → list_any (key_eq k) xs ≡ true → list_any (key_eq k) ys ≡ false) → each_once key_eq (xs ++ ys) ≡ true
once_join [] ys h g apart = g
once_join (x ∷ xs) ys h g apart =
    let parts = and_parts (not (list_any (key_eq x) xs)) (each_once key_eq xs) h in
    and_from (not (list_any (key_eq x) (xs ++ ys))) (each_once key_eq (xs ++ ys))
    (ap not (list_any-append (key_eq x) xs ys ∙ ap (λ t. t || list_any (key_eq x) ys) (not-true (list_any (key_eq x) xs) parts.0) ∙ apart x (ap (λ t. t || list_any (key_eq x) xs) (itself x))))
    (once_join xs ys parts.1 g (λ k i. apart k (or_right (key_eq k x) (list_any (key_eq k) xs) i)))
  where
    itself : (k : LineKey) → key_eq k k ≡ true
    itself k = rw (eq-eqb k.bsc k.bsc refl, eq-eqb k.cell.lac k.cell.lac refl, eq-eqb k.cell.ci k.cell.ci refl, eq-eqb k.warning k.warning refl) refl

pub once_at : (p : Spot) (ns : List ℕ) → each_once nat_eq ns ≡ true → each_once key_eq (map (key_at p) ns) ≡ true
once_at p [] h = refl
once_at p (n ∷ ns) h =
    let parts = and_parts (not (list_any (nat_eq n) ns)) (each_once nat_eq ns) h in
    and_from (not (list_any (key_eq (key_at p n)) (map (key_at p) ns))) (each_once key_eq (map (key_at p) ns))
    (ap not (at_spot (key_at p n) p ns ∙ ap (λ t. spot_eq p p && t) (not-true (list_any (nat_eq n) ns) parts.0) ∙ none (spot_eq p p)))
    (once_at p ns parts.1)
  where
    none : (t : Bool) → (t && false) ≡ false
    none true = refl
    none false = refl

pub same_spot : (x y : Spot) → spot_eq x y ≡ true → x ≡ y
same_spot x y h =
    let parts = and_parts (nat_eq x.bsc y.bsc) (cell_eq x.cell y.cell) h in
    let cells = and_parts (nat_eq x.cell.lac y.cell.lac) (nat_eq x.cell.ci y.cell.ci) parts.1 in
    λ i. record { bsc = (eqb-true x.bsc y.bsc parts.0) i; cell = record { lac = (eqb-true x.cell.lac y.cell.lac cells.0) i; ci = (eqb-true x.cell.ci y.cell.ci cells.1) i } }

pub keys_once : (ps : List Spot) (ns : List ℕ) → each_once spot_eq ps ≡ true → each_once nat_eq ns ≡ true → each_once key_eq (keys_of ps ns) ≡ true
keys_once [] ns h g = refl
keys_once (p ∷ ps) ns h g =
    let parts = and_parts (not (list_any (spot_eq p) ps)) (each_once spot_eq ps) h in
    once_join (map (key_at p) ns) (keys_of ps ns) (once_at p ns g) (keys_once ps ns parts.1 g)
    (λ k i.
    let here = and_parts (spot_eq (spot_of k) p) (list_any (nat_eq k.warning) ns) (sym (at_spot k p ns) ∙ i) in
    let same : spot_of k ≡ p = same_spot (spot_of k) p here.0 in
    any_keys k ps ns ∙ ap (λ (q : Spot). list_any (spot_eq q) ps && list_any (nat_eq k.warning) ns) same ∙ ap (λ t. t && list_any (nat_eq k.warning) ns) (not-true (list_any (spot_eq p) ps) parts.0))

-- Where an event has been made, the changes of the lines on which it bears are such changes.

-- both views
abbrev was : {p : State} {t : Tables} {h : Happens} {spots : List Spot} {earlier : List LineBefore} → Bears p t h spots earlier → View
was x = facts x.past

abbrev now : {p : State} {t : Tables} {h : Happens} {spots : List Spot} {earlier : List LineBefore} → Bears p t h spots earlier → View
now {h = h} x = facts (After (entry_of x.desk h) x.past)

map_twice : {A B C : Type 0} (f : A → B) (g : B → C) (k : A → C) → ((x : A) → g (f x) ≡ k x) → (xs : List A) → map g (map f xs) ≡ map k xs
map_twice f g k same [] = refl
map_twice f g k same (x ∷ xs) = ap (λ y. y ∷ map g (map f xs)) (same x) ∙ ap (λ ys. k x ∷ ys) (map_twice f g k same xs)
