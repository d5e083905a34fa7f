use Rattle.std.proofs.Common.{◌≡◌, rules}
use Rattle.std.specs.Cmp.Lexicographic.{pointwise}
use Rattle.areas.specs.Equality.{selectors_decide}
use Rattle.areas.specs.Selector.{selector_eq}
use Rattle.common.specs.Equality.{answered}
use Rattle.areas.proofs.selectors.SelectorsPartialEq.eq.Goals as goal

pub returns-clause-same : goal.returns-clause-same
returns-clause-same c =
    let test : c.eq.result ≡ pointwise selector_eq c.args.self.now c.args.other.now = search rules in
    answered test (selectors_decide c.args.self.now c.args.other.now)
