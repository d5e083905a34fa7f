use Rattle.std.proofs.Common.{◌∙◌, ap}
use Rattle.std.specs.Option.{is_some}
use Rattle.common.specs.Cell.{cell_eq}
use Rattle.centre_events.proofs.FindingLemmas.{is_some_position, stands_there}
use Rattle.centre_events.proofs.finding.place_of.Goals as goal

pub returns-in-None-clause-found : goal.returns-in-None-clause-found
returns-in-None-clause-found c = ap is_some c.first_place.ensures ∙ is_some_position (cell_eq c.args.c) c.args.cells.now

pub returns-in-None-clause-place : goal.returns-in-None-clause-place
returns-in-None-clause-place c = stands_there c.args.c c.args.cells.now c.first_place.result c.first_place.ensures
