use Rattle.std.proofs.Common.{◌≡◌, ◌∙◌, get_or, arith, rules, le-ltb}
use Rattle.std.proofs.lemmas.List.Sorted.{IsPartitionPoint-from_clause}
use Rattle.areas.proofs.SelectorSearch.{comes_before, parted, told_at_point, none_at_point}
use Rattle.areas.specs.Selector.{selector_eq}
use Rattle.areas.specs.declared.selector.Selector.{Selector}
use Rattle.areas.specs.declared.selector.Selector.TheVariants as selector
use Rattle.areas.proofs.lookups.is_among.Goals as goal

pub returns-then-place-selectors : goal.returns-then-place-selectors
returns-then-place-selectors c =
    let none : Selector = selector.Cell (record { lac = 0; ci = 0 }) in
    let point = IsPartitionPoint-from_clause (comes_before c.args.s) _ _ c.partition_point-place.ensures.partitioned (parted c.args.s c.args.selectors.now c.requires) (λ x r q k. search rules) in
    let told : c.eq.result ≡ selector_eq (get_or c.args.selectors.now c.partition_point-place.result none) c.args.s = search rules in
    told ∙ told_at_point c.args.s c.args.selectors.now c.partition_point-place.result none c.requires c.if-place-selectors.true point

pub returns-else-place-selectors : goal.returns-else-place-selectors
returns-else-place-selectors c =
    let point = IsPartitionPoint-from_clause (comes_before c.args.s) _ _ c.partition_point-place.ensures.partitioned (parted c.args.s c.args.selectors.now c.requires) (λ x r q k. search rules) in
    le-ltb c.partition_point-place.result _ c.if-place-selectors.false
    ∙ none_at_point c.args.s c.args.selectors.now c.partition_point-place.result (selector.Cell (record { lac = 0; ci = 0 })) c.requires c.partition_point-place.ensures.bound point (λ h. absurd (omega (arith, c.if-place-selectors.false)))
