-- The order of selectors is strict and total.
use Rattle.std.proofs.Common.{◌≡◌, true, false, ◌||◌, List, arith}
use Rattle.std.proofs.lemmas.Bool.Decides.{nat_tests}
use Rattle.std.proofs.lemmas.Grind.{common_steps}
use Rattle.areas.specs.Selector.{selector_eq, selector_lt}
use Rattle.common.specs.OnceLaws.{ascending_once}
use Rattle.common.specs.Order.{is_ascending, each_once}
use Rattle.areas.specs.declared.selector.Selector.{Selector}
use Rattle.areas.specs.declared.selector.Selector.TheVariants.{Cell, Lac}

-- what comes before a selector comes before all that the selector comes before
pub selector_follows : (x y z : Selector) → selector_lt x y ≡ true → selector_lt y z ≡ true → selector_lt x z ≡ true
selector_follows (Cell c) (Cell d) (Cell e) g h = grind (arith, nat_tests, common_steps)
selector_follows (Cell c) (Cell d) (Lac m) g h = grind (arith, nat_tests, common_steps)
selector_follows (Cell c) (Lac k) (Cell e) g h = grind (arith, nat_tests, common_steps)
selector_follows (Cell c) (Lac k) (Lac m) g h = grind (arith, nat_tests, common_steps)
selector_follows (Lac l) (Cell d) (Cell e) g h = grind (arith, nat_tests, common_steps)
selector_follows (Lac l) (Cell d) (Lac m) g h = grind (arith, nat_tests, common_steps)
selector_follows (Lac l) (Lac k) (Cell e) g h = grind (arith, nat_tests, common_steps)
selector_follows (Lac l) (Lac k) (Lac m) g h = grind (arith, nat_tests, common_steps)

-- of two selectors one comes before the other
pub selector_apart : (x y : Selector) → selector_eq y x ≡ false → (selector_lt y x || selector_lt x y) ≡ true
selector_apart (Cell c) (Cell d) h = grind (arith, nat_tests, common_steps)
selector_apart (Cell c) (Lac k) h = grind (arith, nat_tests, common_steps)
selector_apart (Lac l) (Cell d) h = grind (arith, nat_tests, common_steps)
selector_apart (Lac l) (Lac k) h = grind (arith, nat_tests, common_steps)

-- what comes after a selector is another
pub selector_other : (x y : Selector) → selector_lt x y ≡ true → selector_eq x y ≡ false
selector_other (Cell c) (Cell d) h = grind (arith, nat_tests, common_steps)
selector_other (Cell c) (Lac k) h = grind (arith, nat_tests, common_steps)
selector_other (Lac l) (Cell d) h = grind (arith, nat_tests, common_steps)
selector_other (Lac l) (Lac k) h = grind (arith, nat_tests, common_steps)

-- selectors in order stand once
pub ordered_once : (xs : List Selector) → is_ascending selector_lt xs ≡ true → each_once selector_eq xs ≡ true
ordered_once = ascending_once selector_eq selector_lt selector_other
