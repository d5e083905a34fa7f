use Rattle.std.proofs.Common.{not, rules}
use Rattle.std.proofs.lemmas.Fn.{filter_same}
use Rattle.broadcast_watch.specs.Airings.{is_of}
use Rattle.broadcast_watch.specs.declared.airing.Airing.{Airing}
use Rattle.broadcast_watch.proofs.airings.take_out.Goals as goal

pub returns : goal.returns
returns c = filter_same _ (λ (a : Airing). not (is_of c.args.version a)) _ (λ a b f' k. search rules) _ _ c.retain.ensures.filtered
