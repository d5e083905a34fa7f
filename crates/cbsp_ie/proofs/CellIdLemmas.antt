-- An identification and its octets, from the one to the other and back.
use Rattle.std.proofs.Common.{◌≡◌, ℕ, zero, suc, ◌<◌, ◌≤◌, List, [], ◌∷◌, ◌++◌, take, length, refl, arith}
use Rattle.std.specs.Int.{bytes_high_first}
use Rattle.byteorder.specs.Numbers.{big_number-reads_back}
use Rattle.cbsp_ie.specs.declared.cell_id.CellId.{CellId}
use Rattle.cbsp_ie.specs.declared.cell_id.CellId.TheVariants as id
use Rattle.cbsp_ie.specs.declared.form.Form.{Form}
use Rattle.cbsp_ie.specs.declared.form.Form.TheVariants as form
use Rattle.cbsp_ie.specs.CellId.{IsCellId, IsPlmn, form_of, id_at, id_octets}
use Rattle.cbsp_ie.specs.Form.{size_of}
use Rattle.cbsp_ie.proofs.NumberLemmas.{IsBytes, two_back, two_fits}

pub form_of-id_at : (f : Form) (octets : List ℕ) → form_of (id_at f octets) ≡ f
form_of-id_at form.Global octets = refl
form_of-id_at form.LacCi octets = refl
form_of-id_at form.Ci octets = refl
form_of-id_at form.Lai octets = refl
form_of-id_at form.Lac octets = refl
form_of-id_at form.All octets = refl

pub length-id_octets : (i : CellId) → IsCellId i → length (id_octets i) ≡ size_of (form_of i)
length-id_octets (id.Global (a ∷ b ∷ c ∷ []) l m) h = refl
length-id_octets (id.Global plmn l m) h = absurd (let e : length plmn ≡ 3 = h.0.0 in omega arith)
length-id_octets (id.LacCi l m) h = refl
length-id_octets (id.Ci m) h = refl
length-id_octets (id.Lai (a ∷ b ∷ c ∷ []) l) h = refl
length-id_octets (id.Lai plmn l) h = absurd (let e : length plmn ≡ 3 = h.0.0 in omega arith)
length-id_octets (id.Lac l) h = refl
length-id_octets id.All h = refl

-- the octets that an identification was read from are its octets
pub id_octets-id_at : (f : Form) (octets : List ℕ) → size_of f ≤ length octets → IsBytes octets → id_octets (id_at f octets) ≡ take (size_of f) octets
id_octets-id_at form.Global (p ∷ q ∷ r ∷ a ∷ b ∷ c ∷ d ∷ rest) le bytes =
    λ i. p ∷ q ∷ r ∷ (two_back a b (c ∷ d ∷ rest) (bytes 3) (bytes 4) i ++ two_back c d rest (bytes 5) (bytes 6) i)
id_octets-id_at form.Global octets le bytes = absurd (omega arith)
id_octets-id_at form.LacCi (a ∷ b ∷ c ∷ d ∷ rest) le bytes =
    λ i. two_back a b (c ∷ d ∷ rest) (bytes 0) (bytes 1) i ++ two_back c d rest (bytes 2) (bytes 3) i
id_octets-id_at form.LacCi octets le bytes = absurd (omega arith)
id_octets-id_at form.Ci (a ∷ b ∷ rest) le bytes = two_back a b rest (bytes 0) (bytes 1)
id_octets-id_at form.Ci octets le bytes = absurd (omega arith)
id_octets-id_at form.Lai (p ∷ q ∷ r ∷ a ∷ b ∷ rest) le bytes =
    λ i. p ∷ q ∷ r ∷ two_back a b rest (bytes 3) (bytes 4) i
id_octets-id_at form.Lai octets le bytes = absurd (omega arith)
id_octets-id_at form.Lac (a ∷ b ∷ rest) le bytes = two_back a b rest (bytes 0) (bytes 1)
id_octets-id_at form.Lac octets le bytes = absurd (omega arith)
id_octets-id_at form.All octets le bytes = refl

plmn_ranges : (p q r : ℕ) → p < 256 → q < 256 → r < 256 → IsPlmn (p ∷ q ∷ r ∷ [])
plmn_ranges p q r first second third = (refl, bytes)
  where
    bytes : IsBytes (p ∷ q ∷ r ∷ [])
    bytes zero = first
    bytes (suc zero) = second
    bytes (suc (suc zero)) = third
    bytes (suc (suc (suc i))) = omega arith

-- what is read is in range
pub IsCellId-id_at : (f : Form) (octets : List ℕ) → size_of f ≤ length octets → IsBytes octets → IsCellId (id_at f octets)
IsCellId-id_at form.Global (p ∷ q ∷ r ∷ a ∷ b ∷ c ∷ d ∷ rest) le bytes =
    (plmn_ranges p q r (bytes 0) (bytes 1) (bytes 2), two_fits a b (c ∷ d ∷ rest) (bytes 3) (bytes 4), two_fits c d rest (bytes 5) (bytes 6))
IsCellId-id_at form.Global octets le bytes = absurd (omega arith)
IsCellId-id_at form.LacCi (a ∷ b ∷ c ∷ d ∷ rest) le bytes =
    (two_fits a b (c ∷ d ∷ rest) (bytes 0) (bytes 1), two_fits c d rest (bytes 2) (bytes 3))
IsCellId-id_at form.LacCi octets le bytes = absurd (omega arith)
IsCellId-id_at form.Ci (a ∷ b ∷ rest) le bytes = two_fits a b rest (bytes 0) (bytes 1)
IsCellId-id_at form.Ci octets le bytes = absurd (omega arith)
IsCellId-id_at form.Lai (p ∷ q ∷ r ∷ a ∷ b ∷ rest) le bytes =
    (plmn_ranges p q r (bytes 0) (bytes 1) (bytes 2), two_fits a b rest (bytes 3) (bytes 4))
IsCellId-id_at form.Lai octets le bytes = absurd (omega arith)
IsCellId-id_at form.Lac (a ∷ b ∷ rest) le bytes = two_fits a b rest (bytes 0) (bytes 1)
IsCellId-id_at form.Lac octets le bytes = absurd (omega arith)
IsCellId-id_at form.All octets le bytes = tt

-- an identification is read back from its octets, whatever follows them
pub id_at-id_octets : (i : CellId) (rest : List ℕ) → IsCellId i → id_at (form_of i) (id_octets i ++ rest) ≡ i
id_at-id_octets (id.Global (p ∷ q ∷ r ∷ []) l m) rest h =
    λ i. id.Global (p ∷ q ∷ r ∷ []) (big_number-reads_back 2 l (bytes_high_first 2 m ++ rest) h.1 i) (big_number-reads_back 2 m rest h.2 i)
id_at-id_octets (id.Global plmn l m) rest h = absurd (let e : length plmn ≡ 3 = h.0.0 in omega arith)
id_at-id_octets (id.LacCi l m) rest h =
    λ i. id.LacCi (big_number-reads_back 2 l (bytes_high_first 2 m ++ rest) h.0 i) (big_number-reads_back 2 m rest h.1 i)
id_at-id_octets (id.Ci m) rest h = λ i. id.Ci (big_number-reads_back 2 m rest h i)
id_at-id_octets (id.Lai (p ∷ q ∷ r ∷ []) l) rest h = λ i. id.Lai (p ∷ q ∷ r ∷ []) (big_number-reads_back 2 l rest h.1 i)
id_at-id_octets (id.Lai plmn l) rest h = absurd (let e : length plmn ≡ 3 = h.0.0 in omega arith)
id_at-id_octets (id.Lac l) rest h = λ i. id.Lac (big_number-reads_back 2 l rest h i)
id_at-id_octets id.All rest h = refl
