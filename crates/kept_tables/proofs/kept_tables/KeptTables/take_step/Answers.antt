use Rattle.std.proofs.lemmas.Result.{on_ok_weaker}
use Rattle.kept_tables.specs.Changes.{Change, change_of}
use Rattle.kept_tables.proofs.SettleLemmas.{next_part, settled_more}
use Rattle.kept_tables.proofs.kept_tables.KeptTables.take_step.Goals as goal

-- the tables have the part of the step
pub change_standing-requires : goal.change_standing-requires
change_standing-requires c =
    let x : Change = change_of c.args.step.now in
    let n = c.requires in
    next_part n.start n.changes n.begins c.args.self.now n.done x n.later n.split c.tell_range.ensures c.tell_counts.ensures n.made

-- it is taken
pub returns-clause-made : goal.returns-clause-made
returns-clause-made c =
    let x : Change = change_of c.args.step.now in
    on_ok_weaker c.change_standing.result
    (λ done n. settled_more n.start n.changes n.begins c.args.self.now c.change_standing.new.self n.done x n.later n.split c.tell_range.ensures c.tell_counts.ensures n.made done)
    c.change_standing.ensures.changed
