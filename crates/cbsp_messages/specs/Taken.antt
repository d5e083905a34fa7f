-- What the reader has taken from a body so far.
use Rattle.std.specs.Prelude.{◌≡◌, ℕ, true, List, ◌++◌}
use Rattle.std.specs.List.{AllByRecursion}
use Rattle.cbsp_ie.specs.declared.element.Element.{Element}
use Rattle.cbsp_ie.specs.declared.element_id.ElementId.{ElementId}
use Rattle.cbsp_messages.specs.declared.elements.Elements.{Elements}
use Rattle.cbsp_messages.specs.declared.layout.Layout.{Layout}
use Rattle.cbsp_messages.specs.Elements.{AreElements, with_id}
use Rattle.cbsp_messages.specs.Layout.{demanded_of}
use Rattle.cbsp_messages.specs.Parts.{Parts, is_there, values_at}

-- the values in their places
abbrev pub parts_taken : Elements → Parts
parts_taken e = record { pages = e.pages; old_serial = e.old_serial; new_serial = e.new_serial; cells = e.cells; category = e.category; period = e.period; requested = e.requested; counts = e.counts; failures = e.failures; cause = e.cause; dcs = e.dcs; recovery = e.recovery; message_id = e.message_id; emergency = e.emergency; warning_type = e.warning_type; security = e.security; channel = e.channel; page_count = e.page_count; kind = e.kind; warning_period = e.warning_period }

-- the places hold just these elements
abbrev pub Holds : Parts → List Element → Type 0
Holds parts es = (id : ElementId) → with_id id es ≡ values_at parts id

-- the octets up to the rest are elements, and the places hold them
pub record Takes (octets rest : List ℕ) (parts : Parts) : Type 0 where
  pub front : List ℕ
  pub is : octets ≡ front ++ rest
  pub elements : List Element
  pub joined : AreElements front elements
  pub holds : Holds parts elements

-- each demanded element is there
abbrev pub HasDemanded : Layout → Parts → Type 0
HasDemanded l parts = AllByRecursion (λ id. is_there parts id ≡ true) (demanded_of l)
