-- The forms of identifications: their discriminators and sizes (3GPP TS 48.049, 8.2.6).
use Rattle.std.specs.Prelude.{ℕ, ◌==◌, List, [], ◌∷◌, Option}
use Rattle.std.specs.List.{find}
use Rattle.cbsp_ie.specs.declared.form.Form.{Form}
use Rattle.cbsp_ie.specs.declared.form.Form.TheVariants.{Global, LacCi, Ci, Lai, Lac, All}

-- the value that announces the form, in the low four bits of a discriminator octet
abbrev pub discriminator_of : Form → ℕ
discriminator_of Global = 0
discriminator_of LacCi = 1
discriminator_of Ci = 2
discriminator_of Lai = 4
discriminator_of Lac = 5
discriminator_of All = 6

-- every form
abbrev pub forms : List Form
forms = Global ∷ LacCi ∷ Ci ∷ Lai ∷ Lac ∷ All ∷ []

-- the form that the value announces
abbrev pub form_with : ℕ → Option Form
form_with value = find (λ f. discriminator_of f == value) forms

-- how many octets an identification of the form has
abbrev pub size_of : Form → ℕ
size_of Global = 7
size_of LacCi = 4
size_of Ci = 2
size_of Lai = 5
size_of Lac = 2
size_of All = 0
