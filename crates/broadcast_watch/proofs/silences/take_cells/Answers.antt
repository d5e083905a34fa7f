use Rattle.std.proofs.Common.{rules}
use Rattle.std.specs.List.{filter}
use Rattle.std.proofs.lemmas.Map.Made.{map_same_pairs}
use Rattle.broadcast_watch.specs.Spells.{is_elsewhere}
use Rattle.broadcast_watch.proofs.silences.take_cells.Goals as goal

pub returns : goal.returns
returns c = map_same_pairs _ (filter (is_elsewhere c.args.cells.now)) _ (λ k v b w f' t. search rules) _ _ c.retain.ensures.filtered
