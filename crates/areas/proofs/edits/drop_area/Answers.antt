use Rattle.std.proofs.Common.{not, rules}
use Rattle.std.proofs.lemmas.Fn.{filter_same}
use Rattle.areas.specs.Areas.{is_named}
use Rattle.areas.proofs.edits.drop_area.Goals as goal

pub returns : goal.returns
returns c =
    filter_same _ (λ x. not (is_named c.args.a.now x)) _ (λ x b f' k. search rules) _ _ c.retain.ensures.filtered
