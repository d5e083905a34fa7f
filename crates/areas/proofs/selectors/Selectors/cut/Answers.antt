use Rattle.std.proofs.Common.{not, rules}
use Rattle.std.proofs.lemmas.Fn.{filter_same}
use Rattle.areas.specs.Selector.{selector_eq}
use Rattle.areas.proofs.selectors.Selectors.cut.Goals as goal

pub returns : goal.returns
returns c =
    rw (← c.self.view_is) (filter_same _ (λ t. not (selector_eq t c.args.s)) _ (λ x b f' k. search rules) _ _ c.retain.ensures.filtered)
