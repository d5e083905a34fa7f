-- What orders make of a key does not depend on the order in which they come.
use Rattle.std.proofs.Common.{◌≡◌, ℕ, Bool, true, false, ◌||◌, List, [], ◌∷◌, refl, ◌∙◌, cond}
use Rattle.std.proofs.lemmas.Bool.{or_parts}
use Rattle.std.specs.List.{list_any}
use Rattle.common.specs.declared.cell.Cell.{Cell}
use Rattle.centre_past.specs.Headline.{applied, applied_one, airs, clears}
use Rattle.mirror.specs.declared.presence.Presence.{Presence}
use Rattle.mirror.specs.declared.presence.Presence.TheVariants.{Absent, OnAir}
use Rattle.order_maker.specs.declared.order.Order.{Order}

-- a value that is set again stays
again : (a : Bool) (p : Presence) → cond a p p ≡ p
again true p = refl
again false p = refl

-- where no order takes the key off the air, it is on air if one of them puts it there
pub applied_airs : (orders : List Order) (c : Cell) (m s : ℕ) (p : Presence) → list_any (clears c m s) orders ≡ false → applied orders c m s p ≡ cond (list_any (airs c m s) orders) OnAir p
applied_airs [] c m s p h = refl
applied_airs (order ∷ orders) c m s p h =
    applied_airs orders c m s (applied_one c m s order p) (or_parts (clears c m s order) (list_any (clears c m s) orders) h).1
    ∙ step (airs c m s order) (clears c m s order) (list_any (airs c m s) orders) (or_parts (clears c m s order) (list_any (clears c m s) orders) h).0
  where
    step : (a k r : Bool) → k ≡ false → cond r OnAir (cond a OnAir (cond k Absent p)) ≡ cond (a || r) OnAir p
    step true k true e = refl
    step true k false e = refl
    step false true true e = refl
    step false true false e = cc
    step false false r e = refl

-- where none puts the key on air, it is absent if one of them takes it off
pub applied_clears : (orders : List Order) (c : Cell) (m s : ℕ) (p : Presence) → list_any (airs c m s) orders ≡ false → applied orders c m s p ≡ cond (list_any (clears c m s) orders) Absent p
applied_clears [] c m s p h = refl
applied_clears (order ∷ orders) c m s p h =
    applied_clears orders c m s (applied_one c m s order p) (or_parts (airs c m s order) (list_any (airs c m s) orders) h).1
    ∙ step (airs c m s order) (clears c m s order) (list_any (clears c m s) orders) (or_parts (airs c m s order) (list_any (airs c m s) orders) h).0
  where
    step : (a k r : Bool) → a ≡ false → cond r Absent (cond a OnAir (cond k Absent p)) ≡ cond (k || r) Absent p
    step true true true e = refl
    step true true false e = cc
    step true false true e = refl
    step true false false e = cc
    step false true true e = refl
    step false true false e = refl
    step false false r e = refl
