-- Identifications of one form, as a cell list has them (3GPP TS 48.049, 8.2.6).
use Rattle.std.specs.Prelude.{◌≡◌, Bool, ◌&&◌, List, [], ◌∷◌}
use Rattle.std.specs.Cmp.Lexicographic.{pointwise}
use Rattle.std.specs.List.{AllByRecursion}
use Rattle.common.specs.declared.cell.Cell.{Cell}
use Rattle.cbsp_ie.specs.declared.cell_id.CellId.{CellId}
use Rattle.cbsp_ie.specs.declared.cell_id.CellId.TheVariants as id
use Rattle.cbsp_ie.specs.declared.form.Form.{Form}
use Rattle.cbsp_ie.specs.declared.form.Form.TheVariants as form
use Rattle.cbsp_ie.specs.CellId.{IsCellId, form_eq, form_of, id_eq}

-- a form, which also an empty list has, and the identifications in their order
pub record Identifications : Type 0 where
  pub form : Form
  pub ids : List CellId

-- every identification has the form; a list that names every cell is one identification
abbrev pub HasForm : Form → List CellId → Type 0
HasForm form.All ids = ids ≡ id.All ∷ []
HasForm f ids = AllByRecursion (λ i. (form_of i ≡ f) × IsCellId i) ids

-- the identification of one cell of the centre's network
abbrev pub id_of_cell : Cell → CellId
id_of_cell cell = id.LacCi cell.lac cell.ci

-- the two are the same identifications, of the same form
abbrev pub identifications_eq : Identifications → Identifications → Bool
identifications_eq a b = form_eq a.form b.form && pointwise id_eq a.ids b.ids
