use Rattle.areas.proofs.SearchLemmas.{has_area-place}
use Rattle.areas.proofs.lookups.has_area.Goals as goal

pub returns : goal.returns
returns c = has_area-place c.args.a.now c.args.areas.now c.place_of.result c.place_of.ensures
