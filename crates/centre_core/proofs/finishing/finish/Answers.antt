use Rattle.std.specs.Option.{option_copied}
use Rattle.centre_events.specs.declared.entry.Entry.{Entry}
use Rattle.centre_lines.proofs.FinishLemmas.{made_of, links_then}
use Rattle.centre_core.proofs.finishing.finish.Goals as goal

pub bear-requires : goal.bear-requires
bear-requires c = record {
  made = made_of c.args.kept.now c.args.event.now c.args.answer.now c.args.before.place c.args.before.up c.args.before.reached.spots.items c.args.before.reached.lines (option_copied c.flight_of.result) c.requires c.flight_of.ensures;
}

pub returns-clause-kept : goal.returns-clause-kept
returns-clause-kept c = λ x.
    let entry : Entry = record { desk = x.desk; event = c.args.event.now; answer = c.args.answer.now } in
    let y = made_of c.args.kept.now c.args.event.now c.args.answer.now c.args.before.place c.args.before.up c.args.before.reached.spots.items c.args.before.reached.lines (option_copied c.flight_of.result) x c.flight_of.ensures in
    record {
      registered = x.registered;
      selected = x.selected;
      booked = x.booked;
      linked = links_then x.settings x.past entry c.args.before.place c.args.kept.now.links c.follow.new.links (x.accepted, x.legal) x.linked x.is_place c.in_ok-follow.ensures.followed;
      downs = c.in_ok-bear.ensures.downs y;
      tables = c.in_ok-bear.ensures.tables y;
    }
