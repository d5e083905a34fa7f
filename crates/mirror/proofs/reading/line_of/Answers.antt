use Rattle.std.proofs.Common.{◌∙◌, ap}
use Rattle.std.specs.Option.{unwrap_or}
use Rattle.mirror.proofs.KeptLemmas.{found_at}
use Rattle.mirror.specs.Line.{blank_line}
use Rattle.mirror.proofs.reading.line_of.Goals as goal

pub returns : goal.returns
returns c =
    let k = c.args.key in
    (rw c.of.ensures at c.line_of.ensures) ∙ ap (λ o. unwrap_or o blank_line) (found_at k.bsc k.cell k.warning c.args.lines.now)
