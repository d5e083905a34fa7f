use Rattle.std.proofs.Common.{◌≡◌, ◌∙◌, ◌+◌, ◌-◌, ◌++◌, rules, take, drop, subst}
use Rattle.centre_past.specs.Legal.{Known, all_entries}
use Rattle.office.proofs.HandingLemmas.{copied_more}
use Rattle.office.proofs.copying.copy_entries.Goals as goal

pub loop-place-preserved : goal.loop-place-preserved
loop-place-preserved c = record {
  copied = copied_more c.args.after c.loop-place.place (all_entries c.args.centre.now.known) c.loop-place.copies.items c.copy_entry.new.copies.items (search rules) c.loop-place.invariant.copied
      (subst (λ (k : Known). c.copy_entry.new.copies.items ≡ c.loop-place.copies.items ++ take 1 (drop (c.loop-place.place + 1 - 1) (all_entries k))) c.loop-place.invariant.same c.in_ok-copy_entry.ensures.copied);
  same = c.copy_entry.ensures.unchanged ∙ c.loop-place.invariant.same;
}
