use Rattle.std.proofs.Common.{◌≡◌, ◌||◌, ◌∙◌, ap, rules}
use Rattle.std.specs.List.{list_any}
use Rattle.cell_register.specs.Register.{cells_of, place_in, is_place}
use Rattle.common.specs.Cell.{cell_eq}
use Rattle.common.specs.declared.cell.Cell.{Cell}
use Rattle.mirror.proofs.GatherLemmas.{among_registered, known_in_turn}
use Rattle.mirror.proofs.TableLemmas.{line_by_slot}
use Rattle.mirror.specs.Table.{down_for_some, has_line}
use Rattle.mirror.proofs.line_table.LineTable.known_cells.Goals as goal

pub returns-clause-known : goal.returns-clause-known
returns-clause-known c =
    let list : c.into_vec-gathered.result.items ≡ cells_of c.args.register.now c.args.b = search rules in
    let registered : (d : Cell) → list_any (cell_eq d) c.into_vec-gathered.result.items ≡ is_place (place_in c.args.register.now d) c.args.b = λ d. ap (list_any (cell_eq d)) list ∙ among_registered c.args.register.now c.args.b d c.tell_soundness.ensures in
    let with_downs : (d : Cell) → list_any (cell_eq d) c.add_cells_down.new.gathered.items ≡ (down_for_some c.args.self.now c.args.b d || list_any (cell_eq d) c.into_vec-gathered.result.items) = rw (← c.self.view_is) c.in_ok-add_cells_down.ensures in
    let with_lines : (d : Cell) → list_any (cell_eq d) c.add_line_cells.new.gathered.items ≡ (has_line c.args.self.now c.args.b d || list_any (cell_eq d) c.add_cells_down.new.gathered.items) = λ d. (rw c.slots.ensures at c.in_ok-add_line_cells.ensures) d ∙ ap (λ t. t || list_any (cell_eq d) c.add_cells_down.new.gathered.items) (rw (← c.self.view_is) (line_by_slot c.args.b d c.self.inside.index c.self.inside.lines c.self.invariant.none_blank c.self.invariant.indexed)) in
    λ d. c.in_ok-cells.ensures.cells d ∙ with_lines d ∙ ap (λ t. has_line c.args.self.now c.args.b d || t) (with_downs d ∙ ap (λ t. down_for_some c.args.self.now c.args.b d || t) (registered d)) ∙ known_in_turn (is_place (place_in c.args.register.now d) c.args.b) (down_for_some c.args.self.now c.args.b d) (has_line c.args.self.now c.args.b d)
