use Rattle.std.proofs.Common.{◌≡◌, ◌&&◌, not, ℕ, List, drop}
use Rattle.std.specs.Prelude.{bytes_eq}
use Rattle.areas.specs.Areas.{is_among}
use Rattle.areas.specs.Holders.{holds}
use Rattle.areas.specs.declared.selector.Selector.{Selector}
use Rattle.areas.proofs.holders.Holders.remove_all.Given as goal

-- without those to come it has what it has without all of them
abbrev pub invariant-loop-s : goal.invariant-loop-s
invariant-loop-s l = (t : Selector) (b : List ℕ) → (not (is_among t (drop l.s-index l.selectors) && bytes_eq l.a b) && holds l.self t b) ≡ (not (is_among t l.selectors && bytes_eq l.a b) && holds l.initial.self t b)
