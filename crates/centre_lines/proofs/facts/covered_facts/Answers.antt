use Rattle.std.proofs.Common.{refl}
use Rattle.centre_lines.proofs.CoveredLemmas.{some_areas}
use Rattle.centre_lines.proofs.facts.covered_facts.Goals as goal

pub returns-clause-facts : goal.returns-clause-facts
returns-clause-facts c =
    rw (c.message_id.ensures, c.of.ensures, c.serials.ensures, c.wanted-wanted.ensures, c.is_active.ensures, c.is_active-2.ensures, c.serial.ensures, c.is_here-here.ensures.here, c.is_some.ensures, some_areas c.args.covering) refl
