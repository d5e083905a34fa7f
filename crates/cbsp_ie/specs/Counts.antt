-- Numbers of broadcasts completed, by identifications of one form (3GPP TS 48.049, 8.2.10).
use Rattle.std.specs.Prelude.{◌≡◌, ◌<◌, Bool, ◌&&◌, List, nat_eq}
use Rattle.std.specs.Cmp.Lexicographic.{pointwise}
use Rattle.std.specs.List.{AllByRecursion}
use Rattle.cbsp_ie.specs.declared.count_entry.CountEntry.{CountEntry}
use Rattle.cbsp_ie.specs.declared.form.Form.{Form}
use Rattle.cbsp_ie.specs.CellId.{IsCellId, form_eq, form_of, id_eq}

-- a form, which also an empty list has, and the entries in their order
pub record Numbers : Type 0 where
  pub form : Form
  pub entries : List CountEntry

-- the numbers of the entry are in their ranges
abbrev pub IsCountEntry : CountEntry → Type 0
IsCountEntry e = IsCellId e.id × (e.number < 65536) × (e.info < 256)

-- every entry's identification has the form
abbrev pub AreCountsOf : Form → List CountEntry → Type 0
AreCountsOf f entries = AllByRecursion (λ e. (form_of e.id ≡ f) × IsCountEntry e) entries

-- the two are one entry
abbrev pub count_eq : CountEntry → CountEntry → Bool
count_eq a b = id_eq a.id b.id && nat_eq a.number b.number && nat_eq a.info b.info

-- the two are the same entries, of the same form
abbrev pub numbers_eq : Numbers → Numbers → Bool
numbers_eq a b = form_eq a.form b.form && pointwise count_eq a.entries b.entries
