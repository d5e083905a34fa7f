-- A cell list, as the octets after its length (3GPP TS 48.049, 8.2.6).
use Rattle.std.specs.Prelude.{◌≡◌, ◌≢◌, ℕ, zero, suc, ◌*◌, ◌%◌, List, [], ◌∷◌, drop, length, Option, Some, None}
use Rattle.std.specs.List.{flat_map}
use Rattle.cbsp_ie.specs.declared.cell_id.CellId.{CellId}
use Rattle.cbsp_ie.specs.declared.form.Form.{Form}
use Rattle.cbsp_ie.specs.declared.form.Form.TheVariants as form
use Rattle.cbsp_ie.specs.declared.ie_fault.IeFault.{IeFault}
use Rattle.cbsp_ie.specs.declared.ie_fault.IeFault.TheVariants as ie
use Rattle.cbsp_ie.specs.CellId.{id_at, id_octets}
use Rattle.cbsp_ie.specs.Form.{form_with, size_of}
use Rattle.cbsp_ie.specs.Identifications.{HasForm, Identifications}

-- the octets are read as these identifications: none at all, or a discriminator, of which the high
-- four bits are spare, and the identifications
abbrev pub IsCellList : List ℕ → Identifications → Type 0
IsCellList [] cells = (cells.form ≡ form.LacCi) × (cells.ids ≡ [])
IsCellList (discriminator ∷ rest) cells =
    (form_with (discriminator % 16) ≡ Some cells.form) × HasForm cells.form cells.ids × (rest ≡ flat_map id_octets cells.ids)

-- no number of identifications of the form has so many octets
abbrev pub IsPartial : Form → ℕ → Type 0
IsPartial f octets = (count : ℕ) → count * size_of f ≢ octets

-- what is wrong with so many octets after a discriminator that announces the form, if any
abbrev pub IsFaultAfter : Option Form → ℕ → ℕ → IeFault → Type 0
IsFaultAfter None value octets fault = fault ≡ ie.BadDiscriminator value
IsFaultAfter (Some f) value octets fault = IsPartial f octets × (fault ≡ ie.PartialEntry)

-- what is wrong with the octets of a cell list: first the discriminator, then the entries
abbrev pub IsBadCellList : List ℕ → IeFault → Type 0
IsBadCellList [] fault = ⊥
IsBadCellList (discriminator ∷ rest) fault =
    IsFaultAfter (form_with (discriminator % 16)) (discriminator % 16) (length rest) fault

-- so many identifications of the form, one after the other
unfoldable pub ids_at : Form → ℕ → List ℕ → List CellId
ids_at f zero octets = []
ids_at f (suc count) octets = id_at f octets ∷ ids_at f count (drop (size_of f) octets)
