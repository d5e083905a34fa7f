-- That octets are read in one way: as one element, or with one fault.
use Rattle.std.specs.Prelude.{◌≡◌, ℕ, ◌++◌, List}
use Rattle.cbsp_ie.specs.declared.element.Element.{Element}
use Rattle.cbsp_ie.specs.declared.ie_fault.IeFault.{IeFault}
use Rattle.cbsp_ie.specs.Element.{IsElement, IsElementFault}
use Rattle.cbsp_ie.specs.Written.{FitsElement, IsInRange, element_octets, plain_element}

-- one element stands at the front of octets
abbrev pub OneReading : Type 0
OneReading =
    (text rest other left : List ℕ) (e g : Element) → text ++ rest ≡ other ++ left → IsElement text e → IsElement other g
    → (e ≡ g) × (text ≡ other) × (rest ≡ left)

-- octets at whose front an element stands have no fault
abbrev pub NoFault : Type 0
NoFault = (text rest : List ℕ) (e : Element) (fault : IeFault) → IsElement text e → IsElementFault (text ++ rest) fault → ⊥

-- octets have one fault
abbrev pub OneFault : Type 0
OneFault = (octets : List ℕ) (a b : IeFault) → IsElementFault octets a → IsElementFault octets b → a ≡ b

-- what is written for an element is read as it, without its spare bits
abbrev pub WrittenIsRead : Type 0
WrittenIsRead = (e : Element) → IsInRange e → FitsElement e → IsElement (element_octets e) (plain_element e)
