use Rattle.journal_office.proofs.PuttingLemmas.{entries_none, entries_more, entries_all}
use Rattle.journal_office.proofs.office_journal.put_each.Goals as goal

pub loop-entry-init : goal.loop-entry-init
loop-entry-init g c = entries_none c.args.entries.now c.args.writing.now

pub loop-entry-preserved : goal.loop-entry-preserved
loop-entry-preserved g c =
    entries_more c.args.entries.now c.loop-entry.entry-index c.entry-item.result _ _ _ _ c.loop-entry-test.true c.entry-item.is c.loop-entry.invariant c.in_ok-put_entry.ensures c.put_peer.ensures

pub returns : goal.returns
returns g c = entries_all c.args.entries.now c.loop-entry.entry-index _ _ c.loop-entry-test.false c.loop-entry.invariant
