use Rattle.std.proofs.Common.{◌∙◌}
use Rattle.console_text.proofs.PartLemmas.{parts_more}
use Rattle.console_text.proofs.parts.split_parts.Goals as goal

pub loop-part-preserved : goal.loop-part-preserved
loop-part-preserved c =
    parts_more c.args.separator c.loop-part.parts.items c.push_part.new.parts.items c.loop-part.rest.now c.in-Some.part.now c.in-Some.behind.now c.in-Some.ensures.0 c.in-Some.ensures.1 c.in_ok-push_part.ensures
    ∙ c.loop-part.invariant
