-- A body as elements, one behind another (TS 48.049, 8.1.1).
use Rattle.std.specs.Prelude.{◌≡◌, ◌≢◌, ℕ, ◌≤◌, ◌==◌, Bool, List, [], ◌∷◌, ◌++◌, length}
use Rattle.std.specs.List.{filter}
use Rattle.cbsp_ie.specs.declared.element.Element.{Element}
use Rattle.cbsp_ie.specs.declared.element_id.ElementId.{ElementId}
use Rattle.cbsp_ie.specs.declared.element_id.ElementId.TheVariants.{MessageContent}
use Rattle.cbsp_ie.specs.Element.{IsElement, element_id_of}
use Rattle.cbsp_ie.specs.ElementId.{code_of}

-- the octets are these elements, with nothing between or after them
abbrev pub AreElements : List ℕ → List Element → Type 0
AreElements octets [] = octets ≡ []
AreElements octets (e ∷ es) =
    (front : List ℕ) × (rest : List ℕ) × (octets ≡ front ++ rest) × IsElement front e × AreElements rest es

-- the element has the identifier
abbrev pub has_id : ElementId → Element → Bool
has_id id e = code_of id == code_of (element_id_of e)

-- those of the elements that have the identifier, in their order
abbrev pub with_id : ElementId → List Element → List Element
with_id id es = filter (has_id id) es

-- no identifier but that of a page stands twice
abbrev pub IsOnce : List Element → Type 0
IsOnce es = (id : ElementId) → id ≢ MessageContent → length (with_id id es) ≤ 1
