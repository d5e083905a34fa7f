-- What the reader has taken, from element to element, and what it then knows of the whole body.
use Rattle.std.proofs.Common.{◌≡◌, ◌≢◌, ℕ, zero, suc, ◌<◌, ◌==◌, ◌⊎◌, inl, inr, Bool, true, false, not, cond, List, [], ◌∷◌, ◌++◌, length, take, drop, Some, None, Result, Ok, Err, refl, sym, ap, subst, ◌∙◌, append_assoc, arith}
use Rattle.std.specs.Prelude.{IfOk, IfErr}
use Rattle.std.specs.List.{AllByRecursion, find}
use Rattle.std.proofs.lemmas.Bool.{eqb-true}
use Rattle.std.proofs.lemmas.List.{append-nil, take-append-drop}
use Rattle.cbsp_ie.specs.declared.element.Element.{Element}
use Rattle.cbsp_ie.specs.declared.element_id.ElementId.{ElementId}
use Rattle.cbsp_ie.specs.declared.element_id.ElementId.TheVariants as id
use Rattle.cbsp_ie.specs.declared.ie_fault.IeFault.{IeFault}
use Rattle.cbsp_ie.specs.Element.{IsElement, IsElementFault, element_id_of}
use Rattle.common.specs.OrderLaws.{find_passes}
use Rattle.cbsp_messages.specs.declared.fault.MessageFault.{MessageFault}
use Rattle.cbsp_messages.specs.declared.fault.MessageFault.TheVariants as fault
use Rattle.cbsp_messages.specs.declared.message.Message.{Message}
use Rattle.cbsp_messages.specs.declared.message.Message.TheVariants as message
use Rattle.cbsp_messages.specs.declared.layout.Layout.{Layout}
use Rattle.cbsp_messages.specs.declared.layout.Layout.TheVariants as layout
use Rattle.cbsp_messages.specs.declared.message_type.MessageType.{MessageType}
use Rattle.cbsp_messages.specs.declared.message_type.MessageType.TheVariants as type
use Rattle.cbsp_messages.specs.Elements.{AreElements, IsOnce, with_id}
use Rattle.cbsp_messages.specs.Faults.{IsCutFault, IsWholeFault, IsContentFault, IsPagesFault, IsFault, IsFaultAs, missing}
use Rattle.cbsp_messages.specs.Layout.{demanded_of, layout_at, type_in}
use Rattle.cbsp_messages.specs.Message.{layout_of, type_of}
use Rattle.cbsp_messages.specs.MessageType.{code_of, message_types, type_with}
use Rattle.cbsp_messages.specs.Parts.{Parts, no_parts, values_at, is_there, with_element}
use Rattle.cbsp_messages.specs.Spelling.{Says, Spells}
use Rattle.cbsp_messages.specs.Taken.{HasDemanded, Holds, Takes}
use Rattle.cbsp_messages.proofs.ElementsLemmas.{AreElements-push, only, with_id-push}
use Rattle.cbsp_messages.proofs.PartsLemmas.{is_there-values, values_at-none, values_at-once, values_at-put}

pub Takes-start : (octets : List ℕ) → Takes octets octets no_parts
Takes-start octets = record { front = []; is = refl; elements = []; joined = refl; holds = λ which. sym (values_at-none which) }

pub Takes-more : (octets rest : List ℕ) (parts : Parts) (used : ℕ) (e : Element) → Takes octets rest parts → IsElement (take used rest) e
    → (element_id_of e ≢ id.MessageContent → is_there parts (element_id_of e) ≡ false) → Takes octets (drop used rest) (with_element parts e)
Takes-more octets rest parts used e so_far is fresh = record {
  front = so_far.front ++ take used rest;
  is = so_far.is ∙ ap (λ o. so_far.front ++ o) (sym (take-append-drop used rest)) ∙ sym (append_assoc so_far.front (take used rest) (drop used rest));
  elements = so_far.elements ++ e ∷ [];
  joined = AreElements-push so_far.front (take used rest) so_far.elements e so_far.joined is;
  holds = λ which. with_id-push which so_far.elements e ∙ ap (λ es. es ++ only which e) (so_far.holds which) ∙ sym (values_at-put parts e which fresh);
}

-- no identifier but that of a page has two elements among those that are held
Holds-once : (parts : Parts) (es : List Element) → Holds parts es → IsOnce es
Holds-once parts es holds which other = rw (holds which) (values_at-once parts which other)

pub Takes-fault : (octets rest : List ℕ) (parts : Parts) (bad : IeFault) → Takes octets rest parts → 0 < length rest → IsElementFault rest bad → IsCutFault octets (fault.Element bad)
Takes-fault octets rest parts bad so_far some is = record {
  front = so_far.front;
  rest = rest;
  parts = so_far.is;
  some = some;
  elements = so_far.elements;
  joined = so_far.joined;
  once = Holds-once parts so_far.elements so_far.holds;
  bad = inl (bad, is, refl);
}

-- is_there says that there is an element
Holds-there : (parts : Parts) (es : List Element) (which : ElementId) → Holds parts es → is_there parts which ≡ not (length (with_id which es) == 0)
Holds-there parts es which holds = rw (holds which) (is_there-values parts which)

positive : (n : ℕ) → true ≡ not (n == 0) → 0 < n
positive zero e = absurd cc
positive (suc n) e = omega arith

pub Takes-repeat : (octets rest : List ℕ) (parts : Parts) (used : ℕ) (e : Element) → Takes octets rest parts → 0 < length rest → IsElement (take used rest) e
    → element_id_of e ≢ id.MessageContent → is_there parts (element_id_of e) ≡ true → IsCutFault octets (fault.Repeated (element_id_of e))
Takes-repeat octets rest parts used e so_far some is other there = record {
  front = so_far.front;
  rest = rest;
  parts = so_far.is;
  some = some;
  elements = so_far.elements;
  joined = so_far.joined;
  once = Holds-once parts so_far.elements so_far.holds;
  bad = inr (take used rest, drop used rest, e, sym (take-append-drop used rest), is, other, positive _ (sym there ∙ Holds-there parts so_far.elements (element_id_of e) so_far.holds), refl);
}

pub Takes-refused : (octets rest : List ℕ) (parts : Parts) (used : ℕ) (e : Element) (f : MessageFault) → Takes octets rest parts → 0 < length rest → IsElement (take used rest) e
    → (f ≡ fault.Memory) ⊎ ((element_id_of e ≢ id.MessageContent) × (is_there parts (element_id_of e) ≡ true) × (f ≡ fault.Repeated (element_id_of e)))
    → (f ≡ fault.Memory) ⊎ IsCutFault octets f
Takes-refused octets rest parts used e f so_far some is (inl memory) = inl memory
Takes-refused octets rest parts used e f so_far some is (inr why) =
    inr (rw why.2 (Takes-repeat octets rest parts used e so_far some is why.0 why.1))

-- ---- the whole body

whole : (body : List ℕ) (parts : Parts) (taken : Takes body [] parts) → AreElements body taken.elements
whole body parts taken = subst (λ o. AreElements o taken.elements) (sym (taken.is ∙ append-nil taken.front)) taken.joined

-- what stands for each identifier is what its place holds
values : (body : List ℕ) (parts : Parts) (taken : Takes body [] parts) → values_at parts ≡ (λ which. with_id which taken.elements)
values body parts taken i which = sym (taken.holds which) i

pub Spells-taken : (body : List ℕ) (parts : Parts) (t : MessageType) (kind : ℕ) (m : Message) → Takes body [] parts → kind ≡ code_of t → type_of m ≡ t → Says (values_at parts) m → Spells kind body m
Spells-taken body parts t kind m taken is_kind has_type says = record {
  is_kind = is_kind ∙ ap code_of (sym has_type);
  elements = taken.elements;
  joined = whole body parts taken;
  once = Holds-once parts taken.elements taken.holds;
  says = subst (λ at. Says at m) (values body parts taken) says;
}

IsWholeFault-taken : (body : List ℕ) (parts : Parts) (t : MessageType) (f : MessageFault) → Takes body [] parts → IsContentFault t (values_at parts) f → IsWholeFault t body f
IsWholeFault-taken body parts t f taken bad = record {
  elements = taken.elements;
  joined = whole body parts taken;
  once = Holds-once parts taken.elements taken.holds;
  bad = subst (λ at. IsContentFault t at f) (values body parts taken) bad;
}

not_not : (b : Bool) → not (not b) ≡ b
not_not true = refl
not_not false = refl

-- the test that the reader makes is that there is no value
not_there : (parts : Parts) → ◌≡◌ {A = ElementId → Bool} (λ which. not (is_there parts which)) (λ which. length (values_at parts which) == 0)
not_there parts i which = (ap not (is_there-values parts which) ∙ not_not (length (values_at parts which) == 0)) i

pub missing-taken : (parts : Parts) (l : Layout) → find (λ which. not (is_there parts which)) (demanded_of l) ≡ missing l (values_at parts)
missing-taken parts l = ap (λ test. find test (demanded_of l)) (not_there parts)

pub IsFault-missing : (body : List ℕ) (parts : Parts) (t : MessageType) (which : ElementId) → Takes body [] parts
    → Some which ≡ find (λ which. not (is_there parts which)) (demanded_of (layout_at t (values_at parts))) → IsFaultAs t body (fault.Missing which)
IsFault-missing body parts t which taken first =
    inr (IsWholeFault-taken body parts t (fault.Missing which) taken (rw (sym (first ∙ missing-taken parts (layout_at t (values_at parts)))) refl))

IsFault-pages : (body : List ℕ) (parts : Parts) (t : MessageType) (f : MessageFault) → Takes body [] parts
    → None ≡ find (λ which. not (is_there parts which)) (demanded_of (layout_at t (values_at parts))) → IsPagesFault (layout_at t (values_at parts)) (values_at parts) f → IsFaultAs t body f
IsFault-pages body parts t f taken none bad =
    inr (IsWholeFault-taken body parts t f taken (rw (sym (none ∙ missing-taken parts (layout_at t (values_at parts)))) bad))

-- what no look-up finds is nowhere
all_there : (parts : Parts) (ids : List ElementId) → None ≡ find (λ which. not (is_there parts which)) ids → AllByRecursion (λ which. is_there parts which ≡ true) ids
all_there parts [] none = tt
all_there parts (which ∷ ids) none =
    elim (is_there parts which) as (λ b. None ≡ cond (not b) (Some which) (find (λ which. not (is_there parts which)) ids) → (b ≡ true) × AllByRecursion (λ which. is_there parts which ≡ true) ids) [
      | true ↦ λ h. (refl, all_there parts ids h)
      | false ↦ λ h. absurd cc
    ] none

pub HasDemanded-taken : (parts : Parts) (l : Layout) → None ≡ find (λ which. not (is_there parts which)) (demanded_of l) → HasDemanded l parts
HasDemanded-taken parts l none = all_there parts (demanded_of l) none

-- ---- the layout

-- the layout of a body of a type is one of the type
pub type_in-layout_at : (t : MessageType) (at : ElementId → List Element) → type_in (layout_at t at) ≡ t
type_in-layout_at type.WriteReplace at = elim (length (at id.EmergencyIndicator) == 0) as (λ none. type_in (cond none layout.WriteReplace layout.WriteEmergency) ≡ type.WriteReplace) [
  | true ↦ refl
  | false ↦ refl
]
type_in-layout_at type.WriteComplete at = refl
type_in-layout_at type.WriteFailure at = refl
type_in-layout_at type.Kill at = refl
type_in-layout_at type.KillComplete at = refl
type_in-layout_at type.KillFailure at = refl
type_in-layout_at type.StatusQuery at = refl
type_in-layout_at type.StatusComplete at = refl
type_in-layout_at type.StatusFailure at = refl
type_in-layout_at type.Restart at = refl
type_in-layout_at type.Failure at = refl
type_in-layout_at type.ErrorIndication at = refl

-- the type of a message is that of its layout
type_in-layout_of : (m : Message) → type_in (layout_of m) ≡ type_of m
type_in-layout_of (message.WriteReplace m) = refl
type_in-layout_of (message.WriteEmergency m) = refl
type_in-layout_of (message.WriteComplete m) = refl
type_in-layout_of (message.WriteFailure m) = refl
type_in-layout_of (message.Kill m) = refl
type_in-layout_of (message.KillComplete m) = refl
type_in-layout_of (message.KillFailure m) = refl
type_in-layout_of (message.StatusQuery m) = refl
type_in-layout_of (message.StatusComplete m) = refl
type_in-layout_of (message.StatusFailure m) = refl
type_in-layout_of (message.Restart m) = refl
type_in-layout_of (message.Failure m) = refl
type_in-layout_of (message.ErrorIndication m) = refl

-- a message of the layout of a body is of the body's type
of_type : (t : MessageType) (at : ElementId → List Element) (m : Message) → layout_of m ≡ layout_at t at → type_of m ≡ t
of_type t at m laid = sym (type_in-layout_of m) ∙ ap type_in laid ∙ type_in-layout_at t at

-- ---- what read_as and read answer

pub type_of-result : (at : ElementId → List Element) (t : MessageType) (l : Layout) (r : Result Message MessageFault) → l ≡ layout_at t at → IfOk r (λ m. layout_of m ≡ l)
    → IfOk r (λ m. type_of m ≡ t)
type_of-result at t l (Ok m) is laid = of_type t at m (laid ∙ is)
type_of-result at t l (Err f) is laid = tt

pub Spells-result : (body : List ℕ) (parts : Parts) (t : MessageType) (r : Result Message MessageFault) → Takes body [] parts
    → IfOk r (λ m. layout_of m ≡ layout_at t (values_at parts)) → IfOk r (Says (values_at parts)) → IfOk r (Spells (code_of t) body)
Spells-result body parts t (Ok m) taken laid says = Spells-taken body parts t (code_of t) m taken refl (of_type t (values_at parts) m laid) says
Spells-result body parts t (Err f) taken laid says = tt

pub IsFault-result : (body : List ℕ) (parts : Parts) (t : MessageType) (r : Result Message MessageFault) → Takes body [] parts
    → None ≡ find (λ which. not (is_there parts which)) (demanded_of (layout_at t (values_at parts)))
    → IfErr r (λ f. (f ≡ fault.Memory) ⊎ IsPagesFault (layout_at t (values_at parts)) (values_at parts) f) → IfErr r (λ f. (f ≡ fault.Memory) ⊎ IsFaultAs t body f)
IsFault-result body parts t (Ok m) taken none bad = tt
IsFault-result body parts t (Err f) taken none (inl memory) = inl memory
IsFault-result body parts t (Err f) taken none (inr bad) = inr (IsFault-pages body parts t f taken none bad)

pub code_of-type_with : (kind : ℕ) (t : MessageType) → type_with kind ≡ Some t → kind ≡ code_of t
code_of-type_with kind t e = sym (eqb-true _ _ (find_passes (λ t. code_of t == kind) message_types t e))

pub Spells-octet : (body : List ℕ) (kind : ℕ) (t : MessageType) (r : Result Message MessageFault) → type_with kind ≡ Some t → IfOk r (Spells (code_of t) body) → IfOk r (Spells kind body)
Spells-octet body kind t r is_kind h = subst (λ k. IfOk r (Spells k body)) (sym (code_of-type_with kind t is_kind)) h

pub IsFault-octet : (body : List ℕ) (kind : ℕ) (t : MessageType) (r : Result Message MessageFault) → type_with kind ≡ Some t
    → IfErr r (λ f. (f ≡ fault.Memory) ⊎ IsFaultAs t body f) → IfErr r (λ f. (f ≡ fault.Memory) ⊎ IsFault kind body f)
IsFault-octet body kind t (Ok m) is_kind h = tt
IsFault-octet body kind t (Err f) is_kind (inl memory) = inl memory
IsFault-octet body kind t (Err f) is_kind (inr bad) = inr (rw is_kind bad)
