use Rattle.std.proofs.Common.{◌∙◌, ◌++◌, [], ap, sym, append_assoc, append-nil}
use Rattle.server_consoles.proofs.WatchLemmas.{leads_further, leads_to_the_end}
use Rattle.server_consoles.proofs.entry_text.put_entries.Goals as goal

pub loop-entry-init : goal.loop-entry-init
loop-entry-init c = ([], sym (append-nil c.args.text.now.items), λ end others handed. handed)

pub loop-entry-preserved : goal.loop-entry-preserved
loop-entry-preserved c =
    let so_far = c.loop-entry.invariant in
    let one = c.in_ok-put_entry.ensures in (
      so_far.0 ++ one.0,
      one.1 ∙ ap (λ xs. xs ++ one.0) so_far.1 ∙ append_assoc c.args.text.now.items so_far.0 one.0,
      leads_further c.args.number c.loop-entry.last c.saturating_add-last.result c.args.entries.now c.loop-entry.entry-index c.entry-item.result so_far.0 one.0 c.saturating_add-last.ensures c.loop-entry-test.true c.entry-item.is so_far.2 one.2,
    )

pub returns : goal.returns
returns c =
    let so_far = c.loop-entry.invariant in
    (so_far.0, so_far.1, leads_to_the_end c.args.number c.loop-entry.last c.args.entries.now c.loop-entry.entry-index so_far.0 c.loop-entry-test.false so_far.2)
