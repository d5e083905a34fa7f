use Rattle.std.proofs.Common.{rules}
use Rattle.std.proofs.lemmas.List.Sorted.{IsPartitionPoint-from_clause}
use Rattle.cell_register.specs.Register.{new_placed}
use Rattle.cell_register.proofs.AreaLemmas.{is_before, is_up_to, before_parted, up_to_parted, start_before_end, between}
use Rattle.cell_register.proofs.by_cell.in_area.Goals as goal

pub slice_bounds-result-count : goal.slice_bounds-result-count
slice_bounds-result-count c =
    let lac = c.args.lac in
    let ps = c.args.places.now in
    let start = IsPartitionPoint-from_clause (is_before lac) _ _ c.partition_point-start.ensures.partitioned (before_parted lac ps c.requires) (λ x r q k. search rules) in
    let end = IsPartitionPoint-from_clause (is_up_to lac) _ _ c.partition_point-end.ensures.partitioned (up_to_parted lac ps c.requires) (λ x r q k. search rules) in
    start_before_end lac ps c.partition_point-start.result c.partition_point-end.result (new_placed (record { lac = 0; ci = 0 }) 0) c.partition_point-start.ensures.bound start end

pub slice_bounds-result-start : goal.slice_bounds-result-start
slice_bounds-result-start c = slice_bounds-result-count c

pub returns : goal.returns
returns c =
    let lac = c.args.lac in
    let ps = c.args.places.now in
    let start = IsPartitionPoint-from_clause (is_before lac) _ _ c.partition_point-start.ensures.partitioned (before_parted lac ps c.requires) (λ x r q k. search rules) in
    let end = IsPartitionPoint-from_clause (is_up_to lac) _ _ c.partition_point-end.ensures.partitioned (up_to_parted lac ps c.requires) (λ x r q k. search rules) in
    let ordered = start_before_end lac ps c.partition_point-start.result c.partition_point-end.result (new_placed (record { lac = 0; ci = 0 }) 0) c.partition_point-start.ensures.bound start end in
    between lac ps c.partition_point-start.result c.partition_point-end.result ordered c.partition_point-end.ensures.bound start end
