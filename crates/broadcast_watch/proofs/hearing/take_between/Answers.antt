use Rattle.std.proofs.Common.{rules}
use Rattle.std.proofs.lemmas.Fn.{filter_same}
use Rattle.broadcast_watch.specs.Spells.{is_outside}
use Rattle.broadcast_watch.specs.declared.spell.Spell.{Spell}
use Rattle.broadcast_watch.proofs.hearing.take_between.Goals as goal

pub returns : goal.returns
returns c = filter_same _ (λ (s : Spell). is_outside c.args.first c.args.last s) _ (λ s b f' k. search rules) _ _ c.retain.ensures.filtered
