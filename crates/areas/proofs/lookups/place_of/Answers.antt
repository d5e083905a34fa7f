use Rattle.std.proofs.Common.{◌≡◌, ◌∙◌, true, false, sym, ap, arith, rules}
use Rattle.std.proofs.lemmas.List.Sorted.{IsPartitionPoint-from_clause}
use Rattle.areas.proofs.SearchLemmas.{comes_before, parted, found_at_point, none_at_point}
use Rattle.areas.specs.Areas.{is_named, empty_area}
use Rattle.areas.proofs.lookups.place_of.Goals.{else-place-areas-via-then-place-areas+else-eq, else-place-areas-via-else-place-areas}
use Rattle.areas.proofs.lookups.place_of.Goals as goal

pub returns-then-eq : goal.returns-then-eq
returns-then-eq c =
    let point = IsPartitionPoint-from_clause (comes_before c.args.a.now) _ _ c.partition_point-place.ensures.partitioned (parted c.args.a.now c.args.areas.now c.requires) (λ x r q k. search rules) in
    let named : is_named c.args.a.now c.index-areas-place.result ≡ true = search rules in
    found_at_point c.args.a.now c.args.areas.now c.partition_point-place.result c.index-areas-place.result c.if-place-areas.true point (ap (is_named c.args.a.now) (sym c.index-areas-place.is) ∙ named)

pub returns-else-place-areas : goal.returns-else-place-areas
returns-else-place-areas c =
    let point = IsPartitionPoint-from_clause (comes_before c.args.a.now) _ _ c.partition_point-place.ensures.partitioned (parted c.args.a.now c.args.areas.now c.requires) (λ x r q k. search rules) in
    elim c.else-place-areas.branch [
      | else-place-areas-via-then-place-areas+else-eq w ↦
          let other : is_named c.args.a.now w.index-areas-place.result ≡ false = search rules in
          none_at_point c.args.a.now c.args.areas.now c.partition_point-place.result w.index-areas-place.result c.requires c.partition_point-place.ensures.bound point (λ _. ap (is_named c.args.a.now) (sym w.index-areas-place.is) ∙ other)
      | else-place-areas-via-else-place-areas w ↦
          none_at_point c.args.a.now c.args.areas.now c.partition_point-place.result (empty_area c.args.a.now) c.requires c.partition_point-place.ensures.bound point (λ h. absurd (omega (arith, w.if-place-areas.false)))
    ]
