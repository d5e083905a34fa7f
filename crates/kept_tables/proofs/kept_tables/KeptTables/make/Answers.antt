use Rattle.std.proofs.lemmas.Result.{on_ok_weaker}
use Rattle.kept_tables.specs.Changes.{Change}
use Rattle.kept_tables.proofs.SettleLemmas.{next_part, settled_more}
use Rattle.kept_tables.proofs.kept_tables.KeptTables.make.Goals as goal

-- the tables have the part of the change
pub change-requires : goal.change-requires
change-requires c =
    let x : Change = record { key = c.args.key.now; before = c.args.before.now; after = c.args.after.now } in
    let n = c.requires.next in
    record {
      part = next_part n.start n.changes n.begins c.args.self.now n.done x n.later n.split c.tell_range.ensures c.tell_counts.ensures n.made;
      line = c.requires.line;
      areas = c.requires.areas;
    }

-- it is made
pub returns-clause-made : goal.returns-clause-made
returns-clause-made c =
    let x : Change = record { key = c.args.key.now; before = c.args.before.now; after = c.args.after.now } in
    on_ok_weaker c.change.result
    (λ done n. settled_more n.start n.changes n.begins c.args.self.now c.change.new.self n.done x n.later n.split c.tell_range.ensures c.tell_counts.ensures n.made done)
    c.change.ensures.changed
