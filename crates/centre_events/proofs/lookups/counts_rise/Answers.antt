use Rattle.std.proofs.Common.{rules}
use Rattle.std.proofs.lemmas.List.Sorted.{answers_always}
use Rattle.cbsp_ie.specs.declared.count_entry.CountEntry.{CountEntry}
use Rattle.centre_events.specs.Lookups.{id_lt}
use Rattle.centre_events.proofs.LookupLemmas.{ordered_at_true}
use Rattle.centre_events.proofs.lookups.counts_rise.Goals as goal

pub returns : goal.returns
returns c h = ordered_at_true (λ (e : CountEntry). e.id) c.args.entries.now c.is_sorted_by.result h (c.is_sorted_by.ensures.cases (λ (x y : CountEntry). id_lt x.id y.id) (answers_always _ _ _ (λ f a r q k. search rules)))
