use Rattle.std.proofs.Common.{◌≡◌, rules}
use Rattle.kept_tables.proofs.NextLemmas.{line_same}
use Rattle.kept_tables.proofs.kept_tables.change_line.Goals as goal

pub returns-then-is_kept-clause-set : goal.returns-then-is_kept-clause-set
returns-then-is_kept-clause-set c =
    let same : c.args.before.now ≡ c.args.after.now = search rules in
    line_same c.args.lines.now c.args.key c.args.before.now c.args.after.now same c.requires.there
