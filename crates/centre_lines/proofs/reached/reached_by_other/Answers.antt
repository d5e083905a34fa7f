use Rattle.std.specs.Option.{option_copied}
use Rattle.centre_lines.proofs.BeforeLemmas.{flying_kept, told_kept}
use Rattle.centre_lines.proofs.IndicatedLemmas.{bears_on_all}
use Rattle.centre_lines.proofs.reached.reached_by_other.Goals as goal

pub returns : goal.returns
returns c = record {
  reached = λ settings past legal kept accepted. record {
    other = c.requires.other;
    reach = bears_on_all settings past legal c.args.event.now c.args.answer.now c.in_ok-reach.reach.spots.items c.in_ok-reach.reach.warnings.items
        (c.in_ok-reach.ensures settings past (record {
          told = rw (c.lines.ensures) (told_kept settings past c.args.kept.now legal kept);
          flying = flying_kept past c.args.kept.now.links c.args.event.now (option_copied c.flight_of.result) kept.linked c.requires.other c.flight_of.ensures;
          accepted = accepted;
        }));
  };
}
