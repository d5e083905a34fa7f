-- That the test of equality answers true of equal selectors, and of no others.
use Rattle.std.specs.Prelude.{◌≡◌, List}
use Rattle.std.specs.Bool.{Decides}
use Rattle.std.specs.Cmp.{unsigned_Decides}
use Rattle.std.specs.Cmp.Lexicographic.{pointwise, pointwise_decides}
use Rattle.common.specs.Equality.{amounts, cell_decides}
use Rattle.areas.specs.Selector.{selector_eq}
use Rattle.areas.specs.declared.selector.Selector.{Selector}
use Rattle.areas.specs.declared.selector.Selector.TheVariants.{Cell, Lac}

-- the test of two selectors is true where they are one selector, and nowhere else
pub selector_decides : (x y : Selector) → Decides (selector_eq x y) (x ≡ y)
selector_decides (Cell c) (Cell d) = amounts (cell_decides c d) (λ e. λ i. Cell (e i)) (λ e. cc)
selector_decides (Lac l) (Lac k) = amounts (unsigned_Decides l k) (λ e. λ i. Lac (e i)) (λ e. cc)
selector_decides x y = (λ h. cc, λ e. cc)

-- the test of two lists of selectors is true where they are one list, and nowhere else
pub selectors_decide : (x y : List Selector) → Decides (pointwise selector_eq x y) (x ≡ y)
selectors_decide = pointwise_decides selector_decides
