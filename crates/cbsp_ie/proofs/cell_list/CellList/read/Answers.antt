use Rattle.std.proofs.Common.{◌≡◌, ◌*◌, ◌-◌, drop, take, length, sym, ◌∙◌, arith}
use Rattle.cbsp_ie.specs.declared.form.Form.TheVariants as form
use Rattle.cbsp_ie.specs.Form.{size_of}
use Rattle.cbsp_ie.specs.Identifications.{HasForm}
use Rattle.cbsp_ie.specs.CellList.{ids_at}
use Rattle.cbsp_ie.proofs.CellListLemmas.{EachHasForm-ids_at, HasForm-ids_at, no_cells, some_cells}
use Rattle.cbsp_ie.proofs.NumberLemmas.{IsBytes, IsBytes-drop, after_first}
use Rattle.cbsp_ie.proofs.cell_list.CellList.read.Goals as goal

bytes : (c : goal.In-Some-whole_entries) → IsBytes (take (length c.args.listed.now - 1) (drop 1 c.args.listed.now))
bytes c = rw (after_first c.args.listed.now) (IsBytes-drop 1 c.args.listed.now (λ i. omega (arith, c.type_inv.listed i)))

whole : (c : goal.In-Some-whole_entries) → c.in-Some-whole_entries.count * size_of c.in-Some.form ≡ length (take (length c.args.listed.now - 1) (drop 1 c.args.listed.now))
whole c = rw (← c.size.ensures) c.in-Some-whole_entries.ensures.some

has : (c : goal.In-Some-whole_entries) → HasForm c.in-Some.form (ids_at c.in-Some.form c.in-Some-whole_entries.count (take (length c.args.listed.now - 1) (drop 1 c.args.listed.now)))
has c = HasForm-ids_at _ _ _ (λ e. c.in-Some-whole_entries.ensures.one (c.size.ensures ∙ e)) (whole c) (bytes c)

pub invariant_of-result : goal.invariant_of-result
invariant_of-result c = (omega arith, EachHasForm-ids_at form.LacCi 0 c.args.listed.now (omega arith) (λ i. omega (arith, c.type_inv.listed i)))

pub returns-in_default-clause-found : goal.returns-in_default-clause-found
returns-in_default-clause-found c = no_cells c.args.listed.now (omega arith)

pub invariant_of-result-in-Some-whole_entries : goal.invariant_of-result-in-Some-whole_entries
invariant_of-result-in-Some-whole_entries c = (whole c, has c)

pub returns-in-Some-whole_entries-clause-found : goal.returns-in-Some-whole_entries-clause-found
returns-in-Some-whole_entries-clause-found c =
    some_cells c.args.listed.now _ _ _ (omega arith) (after_first c.args.listed.now) (sym c.from_discriminator.ensures ∙ c.in-Some.is) (has c) (whole c) (bytes c)
