-- That each test of equality answers true of equal values, and of no others.
use Rattle.std.specs.Prelude.{◌≡◌, ◌&&◌, List, nat_eq}
use Rattle.std.proofs.Common.{refl}
use Rattle.std.proofs.lemmas.Slice.Eq.{bytes_eq-Decides}
use Rattle.std.specs.Bool.{Decides}
use Rattle.std.specs.Cmp.{unsigned_Decides}
use Rattle.std.specs.Cmp.Lexicographic.{pointwise, pointwise_decides}
use Rattle.cbsp_ie.specs.declared.cell_id.CellId.{CellId}
use Rattle.cbsp_ie.specs.declared.cell_id.CellId.TheVariants as id
use Rattle.cbsp_ie.specs.declared.count_entry.CountEntry.{CountEntry}
use Rattle.cbsp_ie.specs.declared.fail_entry.FailEntry.{FailEntry}
use Rattle.cbsp_ie.specs.declared.form.Form.{Form}
use Rattle.cbsp_ie.specs.declared.form.Form.TheVariants as form
use Rattle.common.specs.Equality.{both, amounts}
use Rattle.cbsp_ie.specs.CellId.{form_eq, id_eq}
use Rattle.cbsp_ie.specs.Counts.{Numbers, count_eq, numbers_eq}
use Rattle.cbsp_ie.specs.Failures.{failure_eq}
use Rattle.cbsp_ie.specs.Identifications.{Identifications, identifications_eq}

-- the test of two forms answers whether they are the same
pub form_decides : (a b : Form) → Decides (form_eq a b) (a ≡ b)
form_decides form.Global form.Global = (λ h. refl, λ e. refl)
form_decides form.LacCi form.LacCi = (λ h. refl, λ e. refl)
form_decides form.Ci form.Ci = (λ h. refl, λ e. refl)
form_decides form.Lai form.Lai = (λ h. refl, λ e. refl)
form_decides form.Lac form.Lac = (λ h. refl, λ e. refl)
form_decides form.All form.All = (λ h. refl, λ e. refl)
form_decides a b = (λ h. cc, λ e. cc)

-- the test of two identifications of cells answers whether they are the same
pub id_decides : (a b : CellId) → Decides (id_eq a b) (a ≡ b)
id_decides (id.Global p l c) (id.Global q m d) =
    amounts (both (pointwise nat_eq p q && nat_eq l m) (nat_eq c d) (both (pointwise nat_eq p q) (nat_eq l m) (bytes_eq-Decides p q) (unsigned_Decides l m)) (unsigned_Decides c d))
    (λ e. λ i. id.Global (e.0.0 i) (e.0.1 i) (e.1 i)) (λ e. ((cc, cc), cc))
id_decides (id.LacCi l c) (id.LacCi m d) =
    amounts (both (nat_eq l m) (nat_eq c d) (unsigned_Decides l m) (unsigned_Decides c d)) (λ e. λ i. id.LacCi (e.0 i) (e.1 i)) (λ e. (cc, cc))
id_decides (id.Ci c) (id.Ci d) = amounts (unsigned_Decides c d) (λ e. λ i. id.Ci (e i)) (λ e. cc)
id_decides (id.Lai p l) (id.Lai q m) =
    amounts (both (pointwise nat_eq p q) (nat_eq l m) (bytes_eq-Decides p q) (unsigned_Decides l m)) (λ e. λ i. id.Lai (e.0 i) (e.1 i)) (λ e. (cc, cc))
id_decides (id.Lac l) (id.Lac m) = amounts (unsigned_Decides l m) (λ e. λ i. id.Lac (e i)) (λ e. cc)
id_decides id.All id.All = (λ h. refl, λ e. refl)
id_decides a b = (λ h. cc, λ e. cc)

-- the test of two lists of identifications answers whether they are the same
pub identifications_decide : (a b : Identifications) → Decides (identifications_eq a b) (a ≡ b)
identifications_decide a b =
    amounts (both (form_eq a.form b.form) (pointwise id_eq a.ids b.ids) (form_decides a.form b.form) (pointwise_decides id_decides a.ids b.ids))
    (λ e. λ i. record { form = e.0 i; ids = e.1 i }) (λ e. (λ i. (e i).form, λ i. (e i).ids))

-- the test of two entries of a list of broadcasts completed answers whether they are the same
pub count_decides : (a b : CountEntry) → Decides (count_eq a b) (a ≡ b)
count_decides a b =
    amounts (both (id_eq a.id b.id && nat_eq a.number b.number) (nat_eq a.info b.info) (both (id_eq a.id b.id) (nat_eq a.number b.number) (id_decides a.id b.id) (unsigned_Decides a.number b.number)) (unsigned_Decides a.info b.info))
    (λ e. λ i. record { id = e.0.0 i; number = e.0.1 i; info = e.1 i }) (λ e. ((λ i. (e i).id, λ i. (e i).number), λ i. (e i).info))

-- the test of two lists of broadcasts completed answers whether they are the same
pub numbers_decide : (a b : Numbers) → Decides (numbers_eq a b) (a ≡ b)
numbers_decide a b =
    amounts (both (form_eq a.form b.form) (pointwise count_eq a.entries b.entries) (form_decides a.form b.form) (pointwise_decides count_decides a.entries b.entries))
    (λ e. λ i. record { form = e.0 i; entries = e.1 i }) (λ e. (λ i. (e i).form, λ i. (e i).entries))

-- the test of two entries of a failure list answers whether they are the same
pub failure_decides : (a b : FailEntry) → Decides (failure_eq a b) (a ≡ b)
failure_decides a b =
    amounts (both (id_eq a.id b.id) (nat_eq a.cause.0 b.cause.0) (id_decides a.id b.id) (unsigned_Decides a.cause.0 b.cause.0))
    (λ e. λ i. record { id = e.0 i; cause = record { 0 = e.1 i } }) (λ e. (λ i. (e i).id, λ i. (e i).cause.0))

-- the test of two failure lists answers whether they are the same
pub failures_decide : (a b : List FailEntry) → Decides (pointwise failure_eq a b) (a ≡ b)
failures_decide = pointwise_decides failure_decides
