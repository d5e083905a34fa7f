use Rattle.std.proofs.Common.{◌≡◌, [], sym, ap, ◌∙◌}
use Rattle.std.proofs.lemmas.Bool.{eqb-true}
use Rattle.std.proofs.lemmas.List.{nil_from_length}
use Rattle.std.specs.List.{slice_index_or}
use Rattle.mirror.proofs.DownLemmas.{zeros_as_none}
use Rattle.mirror.proofs.downs.make_counts.Goals as goal

pub returns-in_ok-counts-clause-same : goal.returns-in_ok-counts-clause-same
returns-in_ok-counts-clause-same c n =
    let none : c.args.counts.now.items ≡ [] = nil_from_length c.args.counts.now.items (sym c.args.counts.now.ok.0 ∙ eqb-true c.args.counts.now.len 0 (sym c.is_empty.ensures ∙ c.if-is_empty.true)) in
    ap (λ xs. slice_index_or xs n 0) (c.in_ok-counts.ensures.items_if_clones_equal (λ y h. h)) ∙ zeros_as_none n ∙ sym (ap (λ xs. slice_index_or xs n 0) none)
