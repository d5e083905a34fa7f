use Rattle.std.proofs.Common.{◌≡◌, rules}
use Rattle.common.specs.Equality.{answered}
use Rattle.mirror.specs.Blank.{line_eq}
use Rattle.mirror.specs.BlankLaws.{line_decides}
use Rattle.mirror.proofs.line.Line.same.Goals as goal

pub returns : goal.returns
returns c =
    let test : c.eq.result ≡ line_eq c.args.self.now c.args.other.now = search rules in answered test (line_decides c.args.self.now c.args.other.now)
