use Rattle.std.proofs.Common.{ap, sym, ◌∙◌}
use Rattle.std.specs.List.{list_any}
use Rattle.link_resets.specs.Frames.{same_key}
use Rattle.link_resets.proofs.KeyLemmas.{once_more}
use Rattle.link_resets.proofs.emergencies.add_key.Goals as goal

pub returns-clause-once : goal.returns-clause-once
returns-clause-once c = once_more _ _ _ c.in_ok-push.ensures.items c.requires (sym (ap (list_any (same_key c.args.key)) c.as_slice.ensures.value) ∙ (sym c.is_known.ensures ∙ c.if-is_known.false))
