use Rattle.std.proofs.Common.{◌≡◌, nat_eq, rules}
use Rattle.std.proofs.lemmas.Slice.Eq.{bytes_eq-Decides}
use Rattle.std.specs.Cmp.Lexicographic.{pointwise, pointwise_decides}
use Rattle.common.specs.Equality.{answered}
use Rattle.common.proofs.names.NamesPartialEq.eq.Goals as goal

pub returns-clause-same : goal.returns-clause-same
returns-clause-same c =
    let test : c.eq.result ≡ pointwise (pointwise nat_eq) c.args.self.now c.args.other.now = search rules in
    answered test (pointwise_decides bytes_eq-Decides c.args.self.now c.args.other.now)
