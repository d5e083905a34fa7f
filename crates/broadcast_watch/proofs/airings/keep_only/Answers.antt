use Rattle.std.proofs.Common.{rules}
use Rattle.std.proofs.lemmas.Fn.{filter_same}
use Rattle.broadcast_watch.specs.Versions.{is_among}
use Rattle.broadcast_watch.specs.declared.airing.Airing.{Airing}
use Rattle.broadcast_watch.proofs.airings.keep_only.Goals as goal

pub returns : goal.returns
returns c = filter_same _ (λ (a : Airing). is_among c.args.versions.now a.version) _ (λ a b f' k. search rules) _ _ c.retain.ensures.filtered
