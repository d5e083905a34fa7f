-- The octets of a cell list, and the identifications that they are read as.
use Rattle.std.proofs.Common.{◌≡◌, ℕ, zero, suc, ◌+◌, ◌*◌, ◌%◌, ◌<◌, ◌≤◌, List, [], ◌∷◌, ◌++◌, drop, length, slice_get, slice_index, Some, refl, sym, ◌∙◌, ap, arith}
use Rattle.std.proofs.lemmas.List.{length-append, drop-drop, length-drop, take-append-drop}
use Rattle.std.proofs.Math.Nat.{suc-mul}
use Rattle.std.proofs.Math.Seq.{drop-append_seam}
use Rattle.std.specs.List.{AllByRecursion, flat_map}
use Rattle.cbsp_ie.specs.declared.cell_id.CellId.{CellId}
use Rattle.cbsp_ie.specs.declared.cell_id.CellId.TheVariants as id
use Rattle.cbsp_ie.specs.declared.form.Form.{Form}
use Rattle.cbsp_ie.specs.declared.form.Form.TheVariants as form
use Rattle.cbsp_ie.specs.CellId.{IsCellId, form_of, id_at, id_octets}
use Rattle.cbsp_ie.specs.CellList.{IsCellList, ids_at}
use Rattle.cbsp_ie.specs.Form.{form_with, size_of}
use Rattle.cbsp_ie.specs.Identifications.{HasForm}
use Rattle.cbsp_ie.proofs.CellIdLemmas.{IsCellId-id_at, form_of-id_at, id_at-id_octets, id_octets-id_at, length-id_octets}
use Rattle.cbsp_ie.proofs.NumberLemmas.{IsBytes, IsBytes-drop}

-- every identification has the form and is in range
abbrev pub EachHasForm : Form → List CellId → Type 0
EachHasForm f ids = AllByRecursion (λ i. (form_of i ≡ f) × IsCellId i) ids

pub length-ids_at : (f : Form) (n : ℕ) (octets : List ℕ) → length (ids_at f n octets) ≡ n
unfolding ids_at
length-ids_at f zero octets = refl
length-ids_at f (suc n) octets = ap suc (length-ids_at f n (drop (size_of f) octets))

-- the front of whole identifications, and what is left
first_fits : (f : Form) (n : ℕ) (octets : List ℕ) → suc n * size_of f ≡ length octets → size_of f ≤ length octets
first_fits f n octets h = let e = suc-mul n (size_of f) in omega arith

rest_fits : (f : Form) (n : ℕ) (octets : List ℕ) → suc n * size_of f ≡ length octets → n * size_of f ≡ length (drop (size_of f) octets)
rest_fits f n octets h = let e = suc-mul n (size_of f) in rw (length-drop (size_of f) octets) (omega arith)

pub EachHasForm-ids_at : (f : Form) (n : ℕ) (octets : List ℕ) → n * size_of f ≡ length octets → IsBytes octets → EachHasForm f (ids_at f n octets)
unfolding ids_at
EachHasForm-ids_at f zero octets h bytes = tt
EachHasForm-ids_at f (suc n) octets h bytes = (
  (form_of-id_at f octets, IsCellId-id_at f octets (first_fits f n octets h) bytes),
  EachHasForm-ids_at f n (drop (size_of f) octets) (rest_fits f n octets h) (IsBytes-drop (size_of f) octets bytes),
)

pub HasForm-ids_at : (f : Form) (n : ℕ) (octets : List ℕ) → (size_of f ≡ 0 → n ≡ 1) → n * size_of f ≡ length octets → IsBytes octets → HasForm f (ids_at f n octets)
unfolding ids_at
HasForm-ids_at form.Global n octets one h bytes = EachHasForm-ids_at form.Global n octets h bytes
HasForm-ids_at form.LacCi n octets one h bytes = EachHasForm-ids_at form.LacCi n octets h bytes
HasForm-ids_at form.Ci n octets one h bytes = EachHasForm-ids_at form.Ci n octets h bytes
HasForm-ids_at form.Lai n octets one h bytes = EachHasForm-ids_at form.Lai n octets h bytes
HasForm-ids_at form.Lac n octets one h bytes = EachHasForm-ids_at form.Lac n octets h bytes
HasForm-ids_at form.All n octets one h bytes = rw (one refl) refl

-- the octets that identifications were read from are their octets
pub flat_map-ids_at : (f : Form) (n : ℕ) (octets : List ℕ) → n * size_of f ≡ length octets → IsBytes octets → flat_map id_octets (ids_at f n octets) ≡ octets
unfolding ids_at
flat_map-ids_at f zero [] h bytes = refl
flat_map-ids_at f zero (x ∷ octets) h bytes = absurd (omega arith)
flat_map-ids_at f (suc n) octets h bytes =
    (λ i. id_octets-id_at f octets (first_fits f n octets h) bytes i ++ flat_map-ids_at f n (drop (size_of f) octets) (rest_fits f n octets h) (IsBytes-drop (size_of f) octets bytes) i)
    ∙ take-append-drop (size_of f) octets

-- identifications are read back from their octets
pub ids_at-flat_map : (f : Form) (ids : List CellId) → EachHasForm f ids → ids_at f (length ids) (flat_map id_octets ids) ≡ ids
unfolding ids_at
ids_at-flat_map f [] h = refl
ids_at-flat_map f (i ∷ ids) h =
    let rest = flat_map id_octets ids in
    let front : id_at f (id_octets i ++ rest) ≡ i = rw (← h.0.0) (id_at-id_octets i rest h.0.1) in
    let size : length (id_octets i) ≡ size_of f = length-id_octets i h.0.1 ∙ ap size_of h.0.0 in
    let after : drop (size_of f) (id_octets i ++ rest) ≡ rest = rw (← size) (drop-append_seam (id_octets i) rest) in
    rw (front, after) (ap (λ (xs : List CellId). i ∷ xs) (ids_at-flat_map f ids h.1))

-- as many octets as identifications of the form have
pub length-flat_map-ids : (f : Form) (ids : List CellId) → EachHasForm f ids → length (flat_map id_octets ids) ≡ length ids * size_of f
length-flat_map-ids f [] h = omega arith
length-flat_map-ids f (i ∷ ids) h =
    let size : length (id_octets i) ≡ size_of f = length-id_octets i h.0.1 ∙ ap size_of h.0.0 in
    let more = length-flat_map-ids f ids h.1 in
    let joined = length-append (id_octets i) (flat_map id_octets ids) in
    let e = suc-mul (length ids) (size_of f) in
    omega arith

-- the identification at a place is read where the ones before it end
pub slice_get-ids_at : (f : Form) (n : ℕ) (octets : List ℕ) (k : ℕ) → k < n → slice_get (ids_at f n octets) k ≡ Some (id_at f (drop (k * size_of f) octets))
unfolding ids_at
slice_get-ids_at f zero octets k lt = absurd (omega arith)
slice_get-ids_at f (suc n) octets zero lt = let e : 0 * size_of f ≡ 0 = omega arith in rw e refl
slice_get-ids_at f (suc n) octets (suc k) lt =
    let e : size_of f + k * size_of f ≡ suc k * size_of f = (let m = suc-mul k (size_of f) in omega arith) in
    slice_get-ids_at f n (drop (size_of f) octets) k (omega arith)
    ∙ ap (λ (o : List ℕ). Some (id_at f o)) (drop-drop (k * size_of f) (size_of f) octets ∙ ap (λ (m : ℕ). drop m octets) e)

-- no octets are read as an empty list
pub no_cells : (listed : List ℕ) → length listed < 1 → IsCellList listed (record { form = form.LacCi; ids = ids_at form.LacCi 0 listed })
unfolding ids_at
no_cells [] lt = (refl, refl)
no_cells (d ∷ rest) lt = absurd (omega arith)

-- a discriminator and whole identifications are read as these
pub some_cells : (listed octets : List ℕ) (f : Form) (n : ℕ) → 1 ≤ length listed → octets ≡ drop 1 listed → form_with (slice_index listed 0 % 16) ≡ Some f
    → HasForm f (ids_at f n octets) → n * size_of f ≡ length octets → IsBytes octets → IsCellList listed (record { form = f; ids = ids_at f n octets })
some_cells [] octets f n some parts announced has whole bytes = absurd (omega arith)
some_cells (d ∷ rest) octets f n some parts announced has whole bytes =
    (announced, has, sym parts ∙ sym (flat_map-ids_at f n octets whole bytes))

pub ids_at-all : ids_at form.All 1 [] ≡ id.All ∷ []
unfolding ids_at
ids_at-all = refl

-- identifications of any form: their octets are as many
pub length-flat_map-any : (f : Form) (ids : List CellId) → HasForm f ids → length (flat_map id_octets ids) ≡ length ids * size_of f
length-flat_map-any form.Global ids h = length-flat_map-ids form.Global ids h
length-flat_map-any form.LacCi ids h = length-flat_map-ids form.LacCi ids h
length-flat_map-any form.Ci ids h = length-flat_map-ids form.Ci ids h
length-flat_map-any form.Lai ids h = length-flat_map-ids form.Lai ids h
length-flat_map-any form.Lac ids h = length-flat_map-ids form.Lac ids h
length-flat_map-any form.All ids h = rw h refl
