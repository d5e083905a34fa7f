-- Which bodies spell a message (TS 48.049, 8.1.3).
use Rattle.std.specs.Prelude.{◌≡◌, ℕ, ◌≤◌, List, length}
use Rattle.std.specs.List.{AllByRecursion}
use Rattle.cbsp_ie.specs.declared.element.Element.{Element}
use Rattle.cbsp_ie.specs.declared.element_id.ElementId.{ElementId}
use Rattle.cbsp_messages.specs.declared.message.Message.{Message}
use Rattle.cbsp_messages.specs.declared.message.Message.TheVariants as message
use Rattle.cbsp_messages.specs.Elements.{AreElements, IsOnce, with_id}
use Rattle.cbsp_messages.specs.Layout.{layout_at, written_of}
use Rattle.cbsp_messages.specs.Message.{layout_of, type_of}
use Rattle.cbsp_messages.specs.MessageType.{code_of}
use Rattle.cbsp_messages.specs.Parts.{parts_of, values_at}

-- a WRITE-REPLACE has 1 to 15 pages, but for an emergency warning's
abbrev pub HasPages : Message → Type 0
HasPages (message.WriteReplace m) =
    (1 ≤ length m.pages) × (length m.pages ≤ 15)
HasPages other = Unit {0}

-- the elements are laid out as the message is, and at each identifier that its layout lists they are those of the
-- message
abbrev pub Says : (ElementId → List Element) → Message → Type 0
Says at m =
    AllByRecursion (λ id. at id ≡ values_at (parts_of m) id) (written_of (layout_of m)) × HasPages m × (layout_at (type_of m) at ≡ layout_of m)

-- the octet of the type and the body are the message: the body is whole elements, no identifier but that of
-- a page stands twice, and the listed elements, in whatever order, say what the message says
pub record Spells (kind : ℕ) (body : List ℕ) (m : Message) : Type 0 where
  pub is_kind : kind ≡ code_of (type_of m)
  pub elements : List Element
  pub joined : AreElements body elements
  pub once : IsOnce elements
  pub says : Says (λ id. with_id id elements) m
