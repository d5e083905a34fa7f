use Rattle.std.proofs.Common.{◌≡◌, ◌∙◌, nat_eq, get_or, sym, arith, rules, le-ltb}
use Rattle.std.proofs.lemmas.List.Sorted.{IsPartitionPoint-from_clause}
use Rattle.centre_lines.proofs.ListedLemmas.{is_below, none_at_start, none_between, parted, told_at_start}
use Rattle.centre_lines.proofs.reading.is_listed.Goals as goal

pub returns-then-begins_behind : goal.returns-then-begins_behind
returns-then-begins_behind c =
    sym (none_between c.args.n c.args.warnings.now c.args.near.now c.requires (c.ends_before.ensures.bound c.if-ends_before.true) (c.ends_before.ensures.greater c.if-ends_before.true) (c.begins_behind.ensures c.if-begins_behind.true))

pub returns-then-place-warnings : goal.returns-then-place-warnings
returns-then-place-warnings c =
    let point = IsPartitionPoint-from_clause (is_below c.args.n) _ _ c.partition_point-place.ensures.partitioned (parted c.args.n c.args.warnings.now c.requires) (λ x r q k. search rules) in
    let told : c.eq.result ≡ nat_eq c.args.n (get_or c.args.warnings.now c.partition_point-place.result c.index-warnings-place.result) = search rules in
    told ∙ told_at_start c.args.n c.args.warnings.now c.partition_point-place.result c.index-warnings-place.result c.requires c.if-place-warnings.true point

pub returns-else-place-warnings : goal.returns-else-place-warnings
returns-else-place-warnings c =
    let point = IsPartitionPoint-from_clause (is_below c.args.n) _ _ c.partition_point-place.ensures.partitioned (parted c.args.n c.args.warnings.now c.requires) (λ x r q k. search rules) in
    le-ltb c.partition_point-place.result _ c.if-place-warnings.false
    ∙ none_at_start c.args.n c.args.warnings.now c.partition_point-place.result 0 c.requires c.partition_point-place.ensures.bound point (λ h. absurd (omega (arith, c.if-place-warnings.false)))
