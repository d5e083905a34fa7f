-- Elements one behind another: one more, those of an identifier, and none that stands twice.
use Rattle.std.proofs.Common.{◌≡◌, ℕ, cond, List, [], ◌∷◌, ◌++◌, refl, sym, ap, ◌∙◌, append_assoc}
use Rattle.std.proofs.lemmas.List.{append-nil}
use Rattle.std.proofs.lemmas.List.Elements.{filter-append}
use Rattle.cbsp_ie.specs.declared.element.Element.{Element}
use Rattle.cbsp_ie.specs.declared.element_id.ElementId.{ElementId}
use Rattle.cbsp_ie.specs.Element.{IsElement}
use Rattle.cbsp_messages.specs.Elements.{AreElements, has_id, with_id}

-- one element more at the end
pub AreElements-push : (front piece : List ℕ) (es : List Element) (e : Element) → AreElements front es → IsElement piece e → AreElements (front ++ piece) (es ++ e ∷ [])
AreElements-push front piece [] e none is = (piece, [], rw none (sym (append-nil piece)), is, refl)
AreElements-push front piece (x ∷ es) e h is =
    (h.0, h.1 ++ piece, ap (λ o. o ++ piece) h.2 ∙ append_assoc h.0 h.1 piece, h.3, AreElements-push h.1 piece es e h.4 is)

-- elements behind elements
pub AreElements-append : (a b : List ℕ) (xs ys : List Element) → AreElements a xs → AreElements b ys → AreElements (a ++ b) (xs ++ ys)
AreElements-append a b [] ys none hs = rw none hs
AreElements-append a b (x ∷ xs) ys h hs =
    (h.0, h.1 ++ b, ap (λ o. o ++ b) h.2 ∙ append_assoc h.0 h.1 b, h.3, AreElements-append h.1 b xs ys h.4 hs)

-- the element alone, if it has the identifier
abbrev pub only : ElementId → Element → List Element
only id e = cond (has_id id e) (e ∷ []) []

pub with_id-push : (id : ElementId) (es : List Element) (e : Element) → with_id id (es ++ e ∷ []) ≡ with_id id es ++ only id e
with_id-push id es e = filter-append (has_id id) es (e ∷ [])
