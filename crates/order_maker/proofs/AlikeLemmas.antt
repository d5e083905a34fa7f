-- Two lines on which the same is to be ordered.
use Rattle.std.proofs.Common.{◌≡◌, ℕ, Bool, true, false, cond, ◌&&◌, ◌||◌, not, nat_eq, List, [], ◌∷◌, ◌++◌, length, take, reverse, map, find, Option, Some, None, if◌then◌else◌, refl, sym, ◌∙◌, ap, subst}
use Rattle.std.proofs.lemmas.List.{reverse-append}
use Rattle.std.specs.Cmp.{unsigned_Decides}
use Rattle.std.specs.List.{AllByRecursion}
use Rattle.common.specs.declared.cell.Cell.{Cell}
use Rattle.mirror.specs.Seen.{Seen, is_absent, is_on_air, is_the}
use Rattle.order_maker.specs.Actions.{needs, is_replaceable, newest, replaced, replaced_for, fresh_kind, fresh, is_to_kill, kills, deeds, in_cell}
use Rattle.order_maker.specs.Alike.{IsSamePlan, IsAlike, AreAlike, IsWantedAlike}
use Rattle.order_maker.specs.Pending.{HeldOrders, is_listed, holds, Shifts}
use Rattle.order_maker.specs.declared.action.Action.{Action}
use Rattle.order_maker.specs.declared.order_kind.OrderKind.TheVariants.{Kill}

-- The newest version that can be replaced.

all_append : (P : ℕ → Type 0) (xs ys : List ℕ) → AllByRecursion P xs → AllByRecursion P ys → AllByRecursion P (xs ++ ys)
all_append P [] ys h g = g
all_append P (x ∷ xs) ys h g = (h.0, all_append P xs ys h.1 g)

all_reverse : (P : ℕ → Type 0) (xs : List ℕ) → AllByRecursion P xs → AllByRecursion P (reverse xs)
all_reverse P [] h = tt
all_reverse P (x ∷ xs) h =
    subst (AllByRecursion P) (sym (reverse-append (x ∷ []) xs)) (all_append P (reverse xs) (x ∷ []) (all_reverse P xs h.1) (h.0, tt))

find_alike : (p q : ℕ → Bool) (xs : List ℕ) → AllByRecursion (λ s. p s ≡ q s) xs → find p xs ≡ find q xs
find_alike p q [] h = refl
find_alike p q (x ∷ xs) h = λ i. cond (h.0 i) (Some x) (find_alike p q xs h.1 i)

replaceable_alike : (v w : Seen) (s : ℕ) (xs : List ℕ) → AreAlike v w xs → AllByRecursion (λ t. is_replaceable v s t ≡ is_replaceable w s t) xs
replaceable_alike v w s [] h = tt
replaceable_alike v w s (x ∷ xs) h = (
  (λ i. not (nat_eq x s) && (is_on_air (h.0.presence i) && not (h.0.held i))),
  replaceable_alike v w s xs h.1,
)

newest_alike : (v w : Seen) (s : ℕ) (xs : List ℕ) → AreAlike v w xs → newest (is_replaceable v s) xs ≡ newest (is_replaceable w s) xs
newest_alike v w s xs h =
    find_alike (is_replaceable v s) (is_replaceable w s) (reverse xs) (all_reverse (λ t. is_replaceable v s t ≡ is_replaceable w s t) xs (replaceable_alike v w s xs h))

-- What is to be ordered on both.

needs_alike : (v w : Seen) (s : ℕ) → IsSamePlan v w → IsAlike v w s → needs v s ≡ needs w s
needs_alike v w s p h = λ i. not (p.down i) && (not (h.held i) && not (is_on_air (h.presence i)))

replaced_alike : (v w : Seen) (s : ℕ) → IsSamePlan v w → AreAlike v w v.versions → IsAlike v w s → replaced v s ≡ replaced w s
replaced_alike v w s p all h =
    (λ i. if is_absent (h.presence i) then newest_alike v w s v.versions all i else None)
    ∙ ap (λ xs. if is_absent (w.presence s) then newest (is_replaceable w s) xs else None) p.versions

fresh_alike : (v w : Seen) (o : Option ℕ) → IsSamePlan v w → AreAlike v w v.versions → IsWantedAlike v w o → fresh v o ≡ fresh w o
fresh_alike v w None p all h = refl
fresh_alike v w (Some s) p all h =
    λ i. if needs_alike v w s p h i then record { kind = fresh_kind (replaced_alike v w s p all h i); message_id = p.message_id i; serial = s } ∷ [] else []

replaced_for_alike : (v w : Seen) (o : Option ℕ) → IsSamePlan v w → AreAlike v w v.versions → IsWantedAlike v w o → replaced_for v o ≡ replaced_for w o
replaced_for_alike v w None p all h = refl
replaced_for_alike v w (Some s) p all h = λ i. if needs_alike v w s p h i then replaced_alike v w s p all h i else None

kills_alike : (v w : Seen) → IsSamePlan v w → replaced_for v v.wanted ≡ replaced_for w w.wanted → (xs : List ℕ) → AreAlike v w xs → kills v xs ≡ kills w xs
kills_alike v w p r [] h = refl
kills_alike v w p r (t ∷ ts) h =
    let one : is_to_kill v t ≡ is_to_kill w t = λ i. not (p.down i) && (not (is_the (p.wanted i) t) && (not (h.0.held i) && (not (is_absent (h.0.presence i)) && not (is_the (r i) t)))) in
    λ i. (if one i then record { kind = Kill; message_id = p.message_id i; serial = t } ∷ [] else []) ++ kills_alike v w p r ts h.1 i

-- the same is to be ordered on two lines that have the same plan and no version that stands otherwise
pub deeds_alike : (v w : Seen) → IsSamePlan v w → IsWantedAlike v w v.wanted → AreAlike v w v.versions → deeds v ≡ deeds w
deeds_alike v w p h all =
    let fresh_same : fresh v v.wanted ≡ fresh w w.wanted = fresh_alike v w v.wanted p all h ∙ ap (fresh w) p.wanted in
    let replaced_same : replaced_for v v.wanted ≡ replaced_for w w.wanted = replaced_for_alike v w v.wanted p all h ∙ ap (replaced_for w) p.wanted in
    let kills_same : kills v v.versions ≡ kills w w.versions = kills_alike v w p replaced_same v.versions all ∙ ap (kills w) p.versions in
    λ i. fresh_same i ++ kills_same i

all_same : (v w : Seen) → ((s : ℕ) → IsAlike v w s) → (xs : List ℕ) → AreAlike v w xs
all_same v w h [] = tt
all_same v w h (x ∷ xs) = (h x, all_same v w h xs)

wanted_same : (v w : Seen) → ((s : ℕ) → IsAlike v w s) → (o : Option ℕ) → IsWantedAlike v w o
wanted_same v w h None = tt
wanted_same v w h (Some s) = h s

-- and on two that have the same plan, where every version stands alike
pub deeds_same : (v w : Seen) → IsSamePlan v w → ((s : ℕ) → IsAlike v w s) → deeds v ≡ deeds w
deeds_same v w p h = deeds_alike v w p (wanted_same v w h v.wanted) (all_same v w h v.versions)

-- What is held where nothing changes.

kept : (n l h : Bool) → (n ≡ true → l ≡ true → h ≡ true) → h ≡ ((n && l) || (h && not (n && l)))
kept true true h f = rw (f refl refl) refl
kept true false true f = refl
kept true false false f = refl
kept false l true f = refl
kept false l false f = refl

-- the same actions are held for a line on which the same is to be ordered
pub nothing_shifts : (b : ℕ) (c : Cell) (v w : Seen) (held : HeldOrders) → deeds v ≡ deeds w → ((a : Action) → is_listed a (map (in_cell c) (deeds v)) ≡ true → holds held b a ≡ true) → Shifts held held b (map (in_cell c) (deeds v)) (map (in_cell c) (deeds w))
nothing_shifts b c v w held same there = record {
  each = λ d a. kept (nat_eq d b) (is_listed a (map (in_cell c) (deeds v))) (holds held d a) (λ n l. ap (λ k. holds held k a) ((unsigned_Decides d b).0 n) ∙ there a l)
      ∙ (λ i. (nat_eq d b && is_listed a (map (in_cell c) (same i))) || (holds held d a && not (nat_eq d b && is_listed a (map (in_cell c) (deeds v)))));
}

-- The versions of two lines that have the same plan.

-- those of the first are the first of those of the second
pub all_first : (xs ys : List ℕ) → xs ≡ ys → take (length xs) ys ≡ xs
all_first xs ys e = ap (λ zs. take (length zs) ys) e ∙ take_whole ys ∙ sym e
  where
    take_whole : (zs : List ℕ) → take (length zs) zs ≡ zs
    take_whole [] = refl
    take_whole (z ∷ zs) = ap (λ t. z ∷ t) (take_whole zs)
