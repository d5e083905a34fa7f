-- The identification of cells (3GPP TS 48.049, 8.2.6), and which cells it names.
use Rattle.std.specs.Prelude.{◌≡◌, ℕ, ◌<◌, Bool, true, false, ◌&&◌, List, [], ◌++◌, take, drop, length, slice_index, nat_eq}
use Rattle.std.specs.Int.{bytes_high_first}
use Rattle.byteorder.specs.Endian.{big_number}
use Rattle.std.specs.Cmp.Lexicographic.{pointwise}
use Rattle.common.specs.declared.cell.Cell.{Cell}
use Rattle.cbsp_ie.specs.declared.cell_id.CellId.{CellId}
use Rattle.cbsp_ie.specs.declared.cell_id.CellId.TheVariants as id
use Rattle.cbsp_ie.specs.declared.form.Form.{Form}
use Rattle.cbsp_ie.specs.declared.form.Form.TheVariants as form

-- the form of the identification
abbrev pub form_of : CellId → Form
form_of (id.Global plmn lac ci) = form.Global
form_of (id.LacCi lac ci) = form.LacCi
form_of (id.Ci ci) = form.Ci
form_of (id.Lai plmn lac) = form.Lai
form_of (id.Lac lac) = form.Lac
form_of id.All = form.All

-- whether the identification names the cell, where the centre's network is plmn: the network, the location
-- area and the cell identity are compared, as far as the form has them
abbrev pub names : List ℕ → CellId → Cell → Bool
names plmn (id.Global own lac ci) cell = pointwise nat_eq own plmn && nat_eq lac cell.lac && nat_eq ci cell.ci
names plmn (id.LacCi lac ci) cell = nat_eq lac cell.lac && nat_eq ci cell.ci
names plmn (id.Ci ci) cell = nat_eq ci cell.ci
names plmn (id.Lai own lac) cell = pointwise nat_eq own plmn && nat_eq lac cell.lac
names plmn (id.Lac lac) cell = nat_eq lac cell.lac
names plmn id.All cell = true

-- the three octets of a network
abbrev pub IsPlmn : List ℕ → Type 0
IsPlmn plmn = (length plmn ≡ 3) × ((i : ℕ) → slice_index plmn i < 256)

-- the numbers of the identification are in their ranges
abbrev pub IsCellId : CellId → Type 0
IsCellId (id.Global plmn lac ci) = IsPlmn plmn × (lac < 65536) × (ci < 65536)
IsCellId (id.LacCi lac ci) = (lac < 65536) × (ci < 65536)
IsCellId (id.Ci ci) = ci < 65536
IsCellId (id.Lai plmn lac) = IsPlmn plmn × (lac < 65536)
IsCellId (id.Lac lac) = lac < 65536
IsCellId id.All = Unit {0}

-- its octets: of the network, the location area and the cell, as far as the form has them
abbrev pub id_octets : CellId → List ℕ
id_octets (id.Global plmn lac ci) = plmn ++ (bytes_high_first 2 lac ++ bytes_high_first 2 ci)
id_octets (id.LacCi lac ci) = bytes_high_first 2 lac ++ bytes_high_first 2 ci
id_octets (id.Ci ci) = bytes_high_first 2 ci
id_octets (id.Lai plmn lac) = plmn ++ bytes_high_first 2 lac
id_octets (id.Lac lac) = bytes_high_first 2 lac
id_octets id.All = []

-- the identification of the form at the front of the octets, where there are enough of them
abbrev pub id_at : Form → List ℕ → CellId
id_at form.Global octets = id.Global (take 3 octets) (big_number 2 (drop 3 octets)) (big_number 2 (drop 5 octets))
id_at form.LacCi octets = id.LacCi (big_number 2 octets) (big_number 2 (drop 2 octets))
id_at form.Ci octets = id.Ci (big_number 2 octets)
id_at form.Lai octets = id.Lai (take 3 octets) (big_number 2 (drop 3 octets))
id_at form.Lac octets = id.Lac (big_number 2 octets)
id_at form.All octets = id.All

-- the two are one identification
abbrev pub id_eq : CellId → CellId → Bool
id_eq (id.Global p l c) (id.Global q m d) = pointwise nat_eq p q && nat_eq l m && nat_eq c d
id_eq (id.LacCi l c) (id.LacCi m d) = nat_eq l m && nat_eq c d
id_eq (id.Ci c) (id.Ci d) = nat_eq c d
id_eq (id.Lai p l) (id.Lai q m) = pointwise nat_eq p q && nat_eq l m
id_eq (id.Lac l) (id.Lac m) = nat_eq l m
id_eq id.All id.All = true
id_eq a b = false

-- the two are one form
abbrev pub form_eq : Form → Form → Bool
form_eq form.Global form.Global = true
form_eq form.LacCi form.LacCi = true
form_eq form.Ci form.Ci = true
form_eq form.Lai form.Lai = true
form_eq form.Lac form.Lac = true
form_eq form.All form.All = true
form_eq a b = false
