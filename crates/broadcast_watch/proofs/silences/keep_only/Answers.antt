use Rattle.std.proofs.Common.{rules}
use Rattle.std.proofs.lemmas.Map.Made.{filter_same_pairs}
use Rattle.broadcast_watch.specs.Versions.{is_among, version_of}
use Rattle.broadcast_watch.proofs.silences.keep_only.Goals as goal

pub returns : goal.returns
returns c = filter_same_pairs _ (λ e. is_among c.args.versions.now (version_of e.0)) _ (λ k v b w f' t. search rules) _ _ c.retain.ensures.filtered
