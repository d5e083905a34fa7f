use Rattle.std.proofs.Common.{◌≡◌, ◌+◌, Bool, [], ◌∷◌, ◌&&◌, ◌||◌, true, false, Some, drop, get_or, sym, ◌∙◌, ap, rules}
use Rattle.std.proofs.lemmas.Bool.{and_parts}
use Rattle.std.proofs.lemmas.List.{drop_more}
use Rattle.std.specs.List.{list_any}
use Rattle.cbsp_ie.specs.CellId.{names}
use Rattle.cbsp_ie.specs.declared.cell_id.CellId.{CellId}
use Rattle.cbsp_ie.specs.declared.cell_id.CellId.TheVariants as id
use Rattle.common.specs.Cell.{cell_eq}
use Rattle.common.specs.declared.cell.Cell.{Cell}
use Rattle.mirror.proofs.OwnLemmas.{own_next, one_gathered}
use Rattle.mirror.specs.Known.{are_of_cells, is_known, own_cell}
use Rattle.mirror.proofs.line_table.LineTable.add_own_cells.Goals as goal
use Rattle.mirror.proofs.line_table.LineTable.add_own_cells.Goals.{then-names+then-is_known+in_ok-insert, else-names, else-names-via-then-names+else-is_known, else-names-via-else-names}

pub loop-id-preserved : goal.loop-id-preserved
loop-id-preserved c =
    let none : CellId = id.Global [] 0 0 in
    let item = get_or c.args.ids.now c.loop-id.id-index none in
    let rest = drop (c.loop-id.id-index + 1) c.args.ids.now in
    let came : drop c.loop-id.id-index c.args.ids.now ≡ item ∷ rest = drop_more c.args.ids.now c.loop-id.id-index none c.loop-id-test.true in
    let own : own_cell item ≡ Some c.in-Some.c = search rules in
    let all : are_of_cells (item ∷ rest) ≡ true = rw came at c.loop-id.invariant.0 in
    let known : Cell → Bool = λ d. is_known c.args.self.now c.args.register.now c.args.b d in
    let more : (d : Cell) → list_any (cell_eq d) c.if-names.gathered.keys ≡ (((names c.args.network item c.in-Some.c && known c.in-Some.c) && cell_eq c.in-Some.c d) || list_any (cell_eq d) c.loop-id.gathered.keys) =
    λ d. elim c.if-names.branch [
      | then-names+then-is_known+in_ok-insert w ↦
          (let one : (names c.args.network item c.in-Some.c && known c.in-Some.c) ≡ true = search rules in
          ap (λ g. list_any (cell_eq d) g.keys) w.gathered-is ∙ one_gathered c.in-Some.c c.loop-id.gathered.keys w.insert.new.self.keys w.in_ok-insert.ensures.updates.0 d ∙ ap (λ t. (t && cell_eq c.in-Some.c d) || list_any (cell_eq d) c.loop-id.gathered.keys) (sym one))
      | else-names w ↦
          (let no : (names c.args.network item c.in-Some.c && known c.in-Some.c) ≡ false = elim w.else-names.branch [ else-names-via-then-names+else-is_known v ↦ search rules | else-names-via-else-names v ↦ search rules ] in
          ap (λ g. list_any (cell_eq d) g.keys) w.gathered-is ∙ ap (λ t. (t && cell_eq c.in-Some.c d) || list_any (cell_eq d) c.loop-id.gathered.keys) (sym no))
    ] in
    ((and_parts _ (are_of_cells rest) all).1, λ d. own_next c.args.network known item c.in-Some.c own rest d (list_any (cell_eq d) c.if-names.gathered.keys) (list_any (cell_eq d) c.loop-id.gathered.keys) (more d) ∙ (rw came at (c.loop-id.invariant.1 d)))
