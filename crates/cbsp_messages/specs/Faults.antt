-- What is wrong with a body that spells no message: the first fault, in the order in which they are
-- looked for.
use Rattle.std.specs.Prelude.{◌≡◌, ◌≢◌, ℕ, ◌<◌, ◌≤◌, ◌==◌, ◌⊎◌, List, [], ◌∷◌, ◌++◌, length, Option, Some, None, MatchOption}
use Rattle.std.specs.List.{find}
use Rattle.cbsp_ie.specs.declared.element.Element.{Element}
use Rattle.cbsp_ie.specs.declared.element.Element.TheVariants as element
use Rattle.cbsp_ie.specs.declared.element_id.ElementId.{ElementId}
use Rattle.cbsp_ie.specs.declared.element_id.ElementId.TheVariants as id
use Rattle.cbsp_ie.specs.declared.ie_fault.IeFault.{IeFault}
use Rattle.cbsp_ie.specs.Element.{IsElement, IsElementFault, element_id_of}
use Rattle.cbsp_ie.specs.IeFault.{fault_number}
use Rattle.cbsp_messages.specs.declared.fault.MessageFault.{MessageFault}
use Rattle.cbsp_messages.specs.declared.fault.MessageFault.TheVariants as fault
use Rattle.cbsp_messages.specs.declared.layout.Layout.{Layout}
use Rattle.cbsp_messages.specs.declared.layout.Layout.TheVariants as layout
use Rattle.cbsp_messages.specs.declared.message_type.MessageType.{MessageType}
use Rattle.cbsp_messages.specs.Elements.{AreElements, IsOnce, with_id}
use Rattle.cbsp_messages.specs.Layout.{demanded_of, layout_at}
use Rattle.cbsp_messages.specs.MessageType.{type_with}

-- the number by which the fault is known; out of memory has none
abbrev pub number_of : MessageFault → Option ℕ
number_of (fault.Element f) = Some (fault_number f)
number_of (fault.Repeated id) = Some 6
number_of (fault.Missing id) = Some 7
number_of fault.BadPages = Some 8
number_of fault.NotInProfile = Some 9
number_of fault.Memory = None

-- the octets behind these elements begin with no element, or with one that stands a second time
abbrev pub IsNextFault : List Element → List ℕ → MessageFault → Type 0
IsNextFault before octets f =
    ((bad : IeFault) × IsElementFault octets bad × (f ≡ fault.Element bad))
    ⊎ ((front : List ℕ) × (rest : List ℕ) × (e : Element) × (octets ≡ front ++ rest) × IsElement front e
    × (element_id_of e ≢ id.MessageContent) × (0 < length (with_id (element_id_of e) before)) × (f ≡ fault.Repeated (element_id_of e)))

-- the body is whole elements up to a first fault
pub record IsCutFault (body : List ℕ) (f : MessageFault) : Type 0 where
  pub front : List ℕ
  pub rest : List ℕ
  pub parts : body ≡ front ++ rest
  pub some : 0 < length rest
  pub elements : List Element
  pub joined : AreElements front elements
  pub once : IsOnce elements
  pub bad : IsNextFault elements rest f

-- the first demanded identifier with no element
abbrev pub missing : Layout → (ElementId → List Element) → Option ElementId
missing l at = find (λ id. length (at id) == 0) (demanded_of l)

-- the pages are 1 to 15, and as many as the Number of Pages says
abbrev pub HavePages : (ElementId → List Element) → Type 0
HavePages at =
    (1 ≤ length (at id.MessageContent)) × (length (at id.MessageContent) ≤ 15)
    × (at id.NumberOfPages ≡ element.NumberOfPages (length (at id.MessageContent)) ∷ [])

-- what is wrong with the pages
abbrev pub IsPagesFault : Layout → (ElementId → List Element) → MessageFault → Type 0
IsPagesFault layout.WriteReplace at f = ¬ (HavePages at) × (f ≡ fault.BadPages)
IsPagesFault other at f = ⊥

-- what is wrong with elements of which each is whole and none stands twice
abbrev pub IsContentFault : MessageType → (ElementId → List Element) → MessageFault → Type 0
IsContentFault t at f = MatchOption (missing (layout_at t at) at) (IsPagesFault (layout_at t at) at f) (λ id. f ≡ fault.Missing id)

-- the same of a whole body
pub record IsWholeFault (t : MessageType) (body : List ℕ) (f : MessageFault) : Type 0 where
  pub elements : List Element
  pub joined : AreElements body elements
  pub once : IsOnce elements
  pub bad : IsContentFault t (λ id. with_id id elements) f

-- what is wrong with a body of the type: an element on the way, or else the elements as a whole
abbrev pub IsFaultAs : MessageType → List ℕ → MessageFault → Type 0
IsFaultAs t body f = IsCutFault body f ⊎ IsWholeFault t body f

-- what is wrong with a body behind the octet of a type
abbrev pub IsFault : ℕ → List ℕ → MessageFault → Type 0
IsFault kind body f = MatchOption (type_with kind) (f ≡ fault.NotInProfile) (λ t. IsFaultAs t body f)
