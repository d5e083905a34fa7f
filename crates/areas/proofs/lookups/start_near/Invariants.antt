use Rattle.std.proofs.Common.{◌≡◌, true}
use Rattle.std.specs.List.{AllWithin}
use Rattle.areas.specs.Selector.{selector_lt}
use Rattle.areas.specs.declared.selector.Selector.TheVariants as selector
use Rattle.areas.proofs.lookups.start_near.Given as goal

-- the selectors passed come before the location area
abbrev pub invariant-loop-place : goal.invariant-loop-place
invariant-loop-place l = AllWithin (λ s. selector_lt s (selector.Lac l.lac) ≡ true) l.selectors 0 l.place
