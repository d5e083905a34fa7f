-- Whether a RESET COMPLETE is of all the cells.
use Rattle.std.proofs.Common.{◌≡◌, ◌≢◌, ◌↔◌, ◌∙◌, inl, inr, ℕ, Bool, true, false, List, [], ◌++◌, Result, Ok, Err, length, take, drop, refl, sym, ap, subst, take-append-drop}
use Rattle.std.specs.Prelude.{IsTrue}
use Rattle.cbsp_ie.specs.Element.{IsElement}
use Rattle.cbsp_ie.specs.Identifications.{Identifications}
use Rattle.cbsp_ie.specs.declared.element.Element.{Element}
use Rattle.cbsp_ie.specs.declared.element.Element.TheVariants as element
use Rattle.cbsp_ie.specs.declared.ie_fault.IeFault.{IeFault}
use Rattle.centre_past.specs.declared.lists.cell_row.CellRow.{CellRow}
use Rattle.link_resets.specs.Resets.{IsOfAll, are_named}

-- what was read at the front of the body is the one element there
abbrev pub IsOnly : List ℕ → Result (Element × ℕ) IeFault → Type 0
IsOnly body r = (text rest : List ℕ) (e : Element) → body ≡ text ++ rest → IsElement text e → r ≡ Ok (e, length text)

-- it lists none
pub lists_none : (plmn : List ℕ) (cells : List CellRow) (body : List ℕ) → body ≡ [] → IsTrue true ↔ IsOfAll plmn cells body
lists_none plmn cells body none = (λ yes. inl none, λ is. refl)

-- it begins with another element, or with none
pub lists_other : (plmn : List ℕ) (cells : List CellRow) (body : List ℕ) (r : Result (Element × ℕ) IeFault) → body ≢ [] → IsOnly body r
    → ((list : Identifications) (n : ℕ) → r ≢ Ok (element.CellList list, n)) → IsTrue false ↔ IsOfAll plmn cells body
lists_other plmn cells body r some only other = (
  λ no. cc,
  λ is. absurd (elim is [
    | inl none ↦ some none
    | inr all ↦ other all.list (length all.text) (only all.text all.rest (element.CellList all.list) all.parts all.first)
  ]),
)

-- the list of what was read
list_at : Identifications → Element → Identifications
list_at none (element.CellList list) = list
list_at none other = none

list_of : Identifications → Result (Element × ℕ) IeFault → Identifications
list_of none (Ok read) = list_at none read.0
list_of none (Err fault) = none

-- it begins with a list
pub lists_some : (plmn : List ℕ) (cells : List CellRow) (body : List ℕ) (list : Identifications) (n : ℕ) (named : Bool) (r : Result (Element × ℕ) IeFault) → body ≢ [] → IsOnly body r
    → r ≡ Ok (element.CellList list, n) → IsElement (take n body) (element.CellList list) → named ≡ are_named plmn list.ids cells → IsTrue named ↔ IsOfAll plmn cells body
unfolding list_of list_at
lists_some plmn cells body list n named r some only read first same = (
  λ yes. inr (record { text = take n body; rest = drop n body; list = list; parts = sym (take-append-drop n body); first = first; named = sym same ∙ yes }),
  λ is. elim is [
    | inl none ↦ absurd (some none)
    | inr all ↦ (
        let found = only all.text all.rest (element.CellList all.list) all.parts all.first in
        let is_it : all.list ≡ list = ap (list_of list) (sym found ∙ read) in
        same ∙ subst (λ (l : Identifications). are_named plmn l.ids cells ≡ true) is_it all.named)
  ],
)
