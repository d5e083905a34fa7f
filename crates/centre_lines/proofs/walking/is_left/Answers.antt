use Rattle.std.proofs.Common.{sym}
use Rattle.mirror.specs.BlankLaws.{line_decides}
use Rattle.centre_lines.proofs.walking.is_left.Goals as goal

pub returns : goal.returns
returns c = sym ((line_decides c.args.then.now c.args.line.now).1 (c.requires c.if-stepped.false))
