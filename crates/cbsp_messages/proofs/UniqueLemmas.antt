-- A body has one reading or one fault.
use Rattle.std.proofs.Common.{◌≡◌, ◌≢◌, ℕ, ◌<◌, ◌≤◌, ◌+◌, ◌⊎◌, inl, inr, true, List, [], ◌∷◌, ◌++◌, length, Option, Some, None, Result, Ok, Err, refl, sym, ap, subst, ◌∙◌, append_assoc, arith, eq-eqb}
use Rattle.std.specs.Prelude.{IfErr, IfOk, MatchOption, MatchResult}
use Rattle.std.specs.List.{AllByRecursion}
use Rattle.std.proofs.lemmas.List.{append-nil, length-append}
use Rattle.std.proofs.lemmas.List.Elements.{filter-append}
use Rattle.cbsp_ie.specs.declared.element.Element.{Element}
use Rattle.cbsp_ie.specs.declared.element_id.ElementId.{ElementId}
use Rattle.cbsp_ie.specs.declared.element_id.ElementId.TheVariants as id
use Rattle.cbsp_ie.specs.Element.{IsElement, IsElementFault, element_id_of}
use Rattle.cbsp_ie.proofs.ElementLemmas.{no_fault_lem, one_fault_lem, one_reading_lem}
use Rattle.cbsp_messages.specs.declared.fault.MessageFault.{MessageFault}
use Rattle.cbsp_messages.specs.declared.fault.MessageFault.TheVariants as fault
use Rattle.cbsp_messages.specs.declared.message.Message.{Message}
use Rattle.cbsp_messages.specs.declared.layout.Layout.{Layout}
use Rattle.cbsp_messages.specs.declared.layout.Layout.TheVariants as layout
use Rattle.cbsp_messages.specs.declared.message_type.MessageType.{MessageType}
use Rattle.cbsp_messages.specs.declared.message_type.MessageType.TheVariants as type
use Rattle.cbsp_messages.specs.Elements.{AreElements, IsOnce, has_id, with_id}
use Rattle.cbsp_messages.specs.Faults.{HavePages, IsContentFault, IsCutFault, IsFault, IsFaultAs, IsNextFault, IsPagesFault, IsWholeFault, missing}
use Rattle.cbsp_messages.specs.Layout.{layout_at, written_of}
use Rattle.cbsp_messages.specs.Message.{layout_of, type_of}
use Rattle.cbsp_messages.specs.MessageType.{code_of, type_with}
use Rattle.cbsp_messages.specs.Parts.{parts_of, values_at}
use Rattle.cbsp_messages.specs.Spelling.{Says, Spells}
use Rattle.cbsp_messages.proofs.MessageLemmas.{none_missing, one_values, pages_right}

one_reading : (a x b y : List ℕ) (d e : Element) → a ++ x ≡ b ++ y → IsElement a d → IsElement b e → (a ≡ b) × (d ≡ e)
one_reading a x b y d e same is_d is_e = let one = one_reading_lem a x b y d e same is_d is_e in (one.1, one.0)

-- an element has octets
some_octets : (a : List ℕ) (e : Element) → IsElement a e → 0 < length a
some_octets a e is = rw is.parts (omega arith)

cancel_left : (a x y : List ℕ) → a ++ x ≡ a ++ y → x ≡ y
cancel_left [] x y e = e
cancel_left (n ∷ a) x y e = cancel_left a x y cc

-- ys are xs and more, whose octets stand before the rest s of what is the rest r behind xs
record Longer (xs ys : List Element) (r s : List ℕ) : Type 0 where
  more : List Element
  is : ys ≡ xs ++ more
  octets : List ℕ
  joined : AreElements octets more
  parts : r ≡ octets ++ s

Longer-cons : (x y : Element) (xs ys : List Element) (r s : List ℕ) → x ≡ y → Longer xs ys r s → Longer (x ∷ xs) (y ∷ ys) r s
Longer-cons x y xs ys r s e longer = record {
  more = longer.more;
  is = ap (λ z. z ∷ ys) (sym e) ∙ ap (λ zs. x ∷ zs) longer.is;
  octets = longer.octets;
  joined = longer.joined;
  parts = longer.parts;
}

-- of two runs of elements at the front of the same octets one goes on from the other
prefixes : (xs ys : List Element) (a r b s : List ℕ) → AreElements a xs → AreElements b ys → a ++ r ≡ b ++ s → Longer xs ys r s ⊎ Longer ys xs s r
prefixes [] ys a r b s none joined same =
    inl (record { more = ys; is = refl; octets = b; joined = joined; parts = ap (λ o. o ++ r) (sym none) ∙ same })
prefixes (x ∷ xs) [] a r b s joined none same =
    inr (record { more = x ∷ xs; is = refl; octets = a; joined = joined; parts = ap (λ o. o ++ s) (sym none) ∙ sym same })
prefixes (x ∷ xs) (y ∷ ys) a r b s h k same =
    let front : h.0 ++ (h.1 ++ r) ≡ k.0 ++ (k.1 ++ s) =
    sym (append_assoc h.0 h.1 r) ∙ ap (λ o. o ++ r) (sym h.2) ∙ same ∙ ap (λ o. o ++ s) k.2 ∙ append_assoc k.0 k.1 s in
    let one = one_reading h.0 (h.1 ++ r) k.0 (k.1 ++ s) x y front h.3 k.3 in
    let rest : h.1 ++ r ≡ k.1 ++ s = cancel_left h.0 (h.1 ++ r) (k.1 ++ s) (front ∙ ap (λ o. o ++ (k.1 ++ s)) (sym one.0)) in
    elim (prefixes xs ys h.1 r k.1 s h.4 k.4 rest) [
      | inl longer ↦ inl (Longer-cons x y xs ys r s one.1 longer)
      | inr longer ↦ inr (Longer-cons y x ys xs s r (sym one.1) longer)
    ]

-- elements of no octets
none_of_nothing : (es : List Element) → AreElements [] es → es ≡ []
none_of_nothing [] h = refl
none_of_nothing (e ∷ es) h = absurd (let some = some_octets h.0 e h.3 in let none : 0 ≡ length h.0 + length h.1 = ap length h.2 ∙ length-append h.0 h.1 in omega arith)

-- octets are spelled by one list of elements
pub one_list : (octets : List ℕ) (xs ys : List Element) → AreElements octets xs → AreElements octets ys → xs ≡ ys
one_list octets xs ys h k = elim (prefixes xs ys octets [] octets [] h k refl) [
  | inl longer ↦ one_more xs ys longer
  | inr longer ↦ sym (one_more ys xs longer)
]
  where
    one_more : (xs ys : List Element) → Longer xs ys [] [] → xs ≡ ys
    one_more xs ys longer =
        let nothing : longer.octets ≡ [] = sym (longer.parts ∙ append-nil longer.octets) in
        let no_more : longer.more ≡ [] = none_of_nothing longer.more (subst (λ o. AreElements o longer.more) nothing longer.joined) in
        sym (longer.is ∙ ap (λ es. xs ++ es) no_more ∙ append-nil xs)

-- the elements with the identifier of one that stands behind others are those of the others and it
has_own : (e : Element) → has_id (element_id_of e) e ≡ true
has_own e = eq-eqb _ _ refl

again : (before more : List Element) (e : Element) → 0 < length (with_id (element_id_of e) before) → 2 ≤ length (with_id (element_id_of e) (before ++ e ∷ more))
again before more e there =
    rw (filter-append (has_id (element_id_of e)) before (e ∷ more), has_own e)
    (omega (arith, length-append (with_id (element_id_of e) before) (e ∷ with_id (element_id_of e) more)))

-- where a whole element follows that does not repeat another, there is no fault
no_next_fault : (before more : List Element) (octets front rest : List ℕ) (e : Element) (f : MessageFault) → octets ≡ front ++ rest → IsElement front e
    → IsOnce (before ++ e ∷ more) → IsNextFault before octets f → ⊥
no_next_fault before more octets front rest e f parts is once (inl bad) = no_fault_lem front rest e bad.0 is (subst (λ o. IsElementFault o bad.0) parts bad.1)
no_next_fault before more octets front rest e f parts is once (inr bad) =
    let same : e ≡ bad.2 = (one_reading front rest bad.0 bad.1 e bad.2 (sym parts ∙ bad.3) is bad.4).1 in
    let other : element_id_of e ≢ id.MessageContent = λ h. bad.5 (ap element_id_of (sym same) ∙ h) in
    let there : 0 < length (with_id (element_id_of e) before) = subst (λ x. 0 < length (with_id (element_id_of x) before)) (sym same) bad.6 in
    let once_at = once (element_id_of e) other in
    let twice = again before more e there in
    omega arith

-- two faults behind the same elements are one
one_next_fault : (before : List Element) (octets : List ℕ) (f g : MessageFault) → IsNextFault before octets f → IsNextFault before octets g → f ≡ g
one_next_fault before octets f g (inl a) (inl b) = a.2 ∙ ap (λ x. fault.Element x) (one_fault_lem octets a.0 b.0 a.1 b.1) ∙ sym b.2
one_next_fault before octets f g (inl a) (inr b) = absurd (no_fault_lem b.0 b.1 b.2 a.0 b.4 (subst (λ o. IsElementFault o a.0) b.3 a.1))
one_next_fault before octets f g (inr a) (inl b) = absurd (no_fault_lem a.0 a.1 a.2 b.0 a.4 (subst (λ o. IsElementFault o b.0) a.3 b.1))
one_next_fault before octets f g (inr a) (inr b) =
    a.7 ∙ ap (λ e. fault.Repeated (element_id_of e)) ((one_reading a.0 a.1 b.0 b.1 a.2 b.2 (sym a.3 ∙ b.3) a.4 b.4).1) ∙ sym b.7

-- the longer run goes past the place of the fault only if there is no fault
longer_fault : (xs ys : List Element) (r s : List ℕ) (f g : MessageFault) → Longer xs ys r s → IsOnce ys → IsNextFault xs r f → IsNextFault ys s g → f ≡ g
longer_fault xs ys r s f g longer once bad_f bad_g = go longer.more longer.is longer.joined
  where
    go : (more : List Element) → ys ≡ xs ++ more → AreElements longer.octets more → f ≡ g
    go [] is none =
        let same_ys : xs ≡ ys = sym (is ∙ append-nil xs) in
        let same_s : r ≡ s = longer.parts ∙ ap (λ o. o ++ s) none in
        one_next_fault xs r f g bad_f (subst (λ zs. IsNextFault zs r g) (sym same_ys) (subst (λ o. IsNextFault ys o g) (sym same_s) bad_g))
    go (e ∷ more) is h =
        absurd (no_next_fault xs more r h.0 (h.1 ++ s) e f (longer.parts ∙ ap (λ o. o ++ s) h.2 ∙ append_assoc h.0 h.1 s) h.3 (subst IsOnce is once) bad_f)

pub one_cut_fault : (body : List ℕ) (f g : MessageFault) → IsCutFault body f → IsCutFault body g → f ≡ g
one_cut_fault body f g a b = elim (prefixes a.elements b.elements a.front a.rest b.front b.rest a.joined b.joined (sym a.parts ∙ b.parts)) [
  | inl longer ↦ longer_fault a.elements b.elements a.rest b.rest f g longer b.once a.bad b.bad
  | inr longer ↦ sym (longer_fault b.elements a.elements b.rest a.rest g f longer a.once b.bad a.bad)
]

-- a body that is whole elements, none of which repeats another, has no fault on the way
pub not_whole : (body : List ℕ) (es : List Element) (f : MessageFault) → AreElements body es → IsOnce es → IsCutFault body f → ⊥
not_whole body es f joined once cut =
    elim (prefixes cut.elements es cut.front cut.rest body [] cut.joined joined (sym cut.parts ∙ sym (append-nil body))) [
      | inl longer ↦ past longer longer.more longer.is longer.joined
      | inr longer ↦ (let none : 0 ≡ length longer.octets + length cut.rest = ap length longer.parts ∙ length-append longer.octets cut.rest in let some = cut.some in omega arith)
    ]
  where
    past : (longer : Longer cut.elements es cut.rest []) (more : List Element) → es ≡ cut.elements ++ more → AreElements longer.octets more → ⊥
    past longer [] is none =
        let nothing : 0 ≡ length cut.rest = sym (ap length (longer.parts ∙ append-nil longer.octets ∙ none)) in
        let some = cut.some in
        omega arith
    past longer (e ∷ more) is h =
        no_next_fault cut.elements more cut.rest h.0 h.1 e f (longer.parts ∙ append-nil longer.octets ∙ h.2) h.3 (subst IsOnce is once) cut.bad

-- ---- the fault of a body of whole elements

pages_fault : (l : Layout) (at : ElementId → List Element) (f : MessageFault) → IsPagesFault l at f → (l ≡ layout.WriteReplace) × ¬ (HavePages at) × (f ≡ fault.BadPages)
pages_fault layout.WriteReplace at f bad = (refl, bad.0, bad.1)
pages_fault other at f bad = absurd bad

one_content_fault : (l : Layout) (at : ElementId → List Element) (first : Option ElementId) (f g : MessageFault)
    → MatchOption first (IsPagesFault l at f) (λ which. f ≡ fault.Missing which) → MatchOption first (IsPagesFault l at g) (λ which. g ≡ fault.Missing which) → f ≡ g
one_content_fault l at None f g a b = (pages_fault l at f a).2 ∙ sym (pages_fault l at g b).2
one_content_fault l at (Some which) f g a b = a ∙ sym b

pub one_whole_fault : (t : MessageType) (body : List ℕ) (f g : MessageFault) → IsWholeFault t body f → IsWholeFault t body g → f ≡ g
one_whole_fault t body f g a b =
    let same : a.elements ≡ b.elements = one_list body a.elements b.elements a.joined b.joined in
    let at : ElementId → List Element = λ which. with_id which b.elements in
    one_content_fault (layout_at t at) at (missing (layout_at t at) at) f g
    (subst (λ es. IsContentFault t (λ which. with_id which es) f) same a.bad) b.bad

one_typed_fault : (body : List ℕ) (kind : Option MessageType) (f g : MessageFault)
    → MatchOption kind (f ≡ fault.NotInProfile) (λ t. IsCutFault body f ⊎ IsWholeFault t body f)
    → MatchOption kind (g ≡ fault.NotInProfile) (λ t. IsCutFault body g ⊎ IsWholeFault t body g) → f ≡ g
one_typed_fault body None f g a b = a ∙ sym b
one_typed_fault body (Some t) f g (inl a) (inl b) = one_cut_fault body f g a b
one_typed_fault body (Some t) f g (inl a) (inr b) = absurd (not_whole body b.elements f b.joined b.once a)
one_typed_fault body (Some t) f g (inr a) (inl b) = absurd (not_whole body a.elements g a.joined a.once b)
one_typed_fault body (Some t) f g (inr a) (inr b) = one_whole_fault t body f g a b

-- a body has one fault at most
pub one_fault_at_most : (kind : ℕ) (body : List ℕ) (f g : MessageFault) → IsFault kind body f → IsFault kind body g → f ≡ g
one_fault_at_most kind body f g a b = one_typed_fault body (type_with kind) f g a b

-- the octet of a type names it
type_with-code_of : (t : MessageType) → type_with (code_of t) ≡ Some t
type_with-code_of type.WriteReplace = refl
type_with-code_of type.WriteComplete = refl
type_with-code_of type.WriteFailure = refl
type_with-code_of type.Kill = refl
type_with-code_of type.KillComplete = refl
type_with-code_of type.KillFailure = refl
type_with-code_of type.StatusQuery = refl
type_with-code_of type.StatusComplete = refl
type_with-code_of type.StatusFailure = refl
type_with-code_of type.Restart = refl
type_with-code_of type.Failure = refl
type_with-code_of type.ErrorIndication = refl

no_whole_fault : (body : List ℕ) (m : Message) (f : MessageFault) (kind : ℕ) (spells : Spells kind body m) → IsContentFault (type_of m) (λ which. with_id which spells.elements) f → ⊥
no_whole_fault body m f kind spells bad =
    let at : ElementId → List Element = λ which. with_id which spells.elements in
    let laid : MatchOption (missing (layout_of m) at) (IsPagesFault (layout_of m) at f) (λ which. f ≡ fault.Missing which) =
    subst (λ l. MatchOption (missing l at) (IsPagesFault l at f) (λ which. f ≡ fault.Missing which)) spells.says.2 bad in
    let pages : IsPagesFault (layout_of m) at f = subst (λ first. MatchOption first (IsPagesFault (layout_of m) at f) (λ which. f ≡ fault.Missing which)) (none_missing m at spells.says) laid in
    let wrong = pages_fault (layout_of m) at f pages in
    wrong.1 (pages_right m at wrong.0 spells.says)

-- a body that spells a message has no fault
pub no_fault_if_spelled : (kind : ℕ) (body : List ℕ) (m : Message) (f : MessageFault) → Spells kind body m → IsFault kind body f → ⊥
no_fault_if_spelled kind body m f spells bad =
    let has_type : type_with kind ≡ Some (type_of m) = ap type_with spells.is_kind ∙ type_with-code_of (type_of m) in
    let bad_at : IsCutFault body f ⊎ IsWholeFault (type_of m) body f = subst (λ kind. MatchOption kind (f ≡ fault.NotInProfile) (λ t. IsCutFault body f ⊎ IsWholeFault t body f)) has_type bad in
    elim bad_at [
      | inl cut ↦ not_whole body spells.elements f spells.joined spells.once cut
      | inr late ↦ no_whole_fault body m f kind spells (subst (λ es. IsContentFault (type_of m) (λ which. with_id which es) f) (one_list body late.elements spells.elements late.joined spells.joined) late.bad)
    ]

some_same : (t u : MessageType) → ◌≡◌ {A = Option MessageType} (Some t) (Some u) → t ≡ u
some_same t u e = cc

both_say : (ids : List ElementId) (at a b : ElementId → List Element) → AllByRecursion (λ which. at which ≡ a which) ids → AllByRecursion (λ which. at which ≡ b which) ids
    → AllByRecursion (λ which. a which ≡ b which) ids
both_say [] at a b h k = tt
both_say (which ∷ ids) at a b h k = (sym h.0 ∙ k.0, both_say ids at a b h.1 k.1)

-- a body spells one message at most
pub one_message_at_most : (kind : ℕ) (body : List ℕ) (m n : Message) → Spells kind body m → Spells kind body n → m ≡ n
one_message_at_most kind body m n a b =
    let same_code : code_of (type_of m) ≡ code_of (type_of n) = sym a.is_kind ∙ b.is_kind in
    let same_type : type_of m ≡ type_of n = some_same (type_of m) (type_of n) (sym (type_with-code_of (type_of m)) ∙ ap type_with same_code ∙ type_with-code_of (type_of n)) in
    let same : b.elements ≡ a.elements = one_list body b.elements a.elements b.joined a.joined in
    let says_n : Says (λ which. with_id which a.elements) n = subst (λ es. Says (λ which. with_id which es) n) same b.says in
    let same_layout : layout_of m ≡ layout_of n = sym a.says.2 ∙ ap (λ t. layout_at t (λ which. with_id which a.elements)) same_type ∙ says_n.2 in
    let values_n : AllByRecursion (λ which. with_id which a.elements ≡ values_at (parts_of n) which) (written_of (layout_of m)) =
    subst (λ l. AllByRecursion (λ which. with_id which a.elements ≡ values_at (parts_of n) which) (written_of l)) (sym same_layout) says_n.0 in
    one_values m n same_layout (both_say (written_of (layout_of m)) (λ which. with_id which a.elements) (values_at (parts_of m)) (values_at (parts_of n)) a.says.0 values_n)

-- an answer that is spelled so or is the fault is the message that is spelled, unless memory ran out
pub only_answer : (kind : ℕ) (body : List ℕ) (answer : Result Message MessageFault) (m : Message) → IfOk answer (Spells kind body)
    → IfErr answer (λ f. (f ≡ fault.Memory) ⊎ IsFault kind body f) → Spells kind body m → MatchResult answer (λ read. read ≡ m) (λ f. f ≡ fault.Memory)
only_answer kind body (Ok read) m found wrong spells = one_message_at_most kind body read m found spells
only_answer kind body (Err f) m found (inl memory) spells = memory
only_answer kind body (Err f) m found (inr bad) spells = absurd (no_fault_if_spelled kind body m f spells bad)

-- the same where the type is known
pub only_answer_as : (t : MessageType) (body : List ℕ) (answer : Result Message MessageFault) (m : Message) → IfOk answer (Spells (code_of t) body)
    → IfErr answer (λ f. (f ≡ fault.Memory) ⊎ IsFaultAs t body f) → Spells (code_of t) body m → MatchResult answer (λ read. read ≡ m) (λ f. f ≡ fault.Memory)
only_answer_as t body (Ok read) m found wrong spells = one_message_at_most (code_of t) body read m found spells
only_answer_as t body (Err f) m found (inl memory) spells = memory
only_answer_as t body (Err f) m found (inr bad) spells =
    absurd (no_fault_if_spelled (code_of t) body m f spells (subst (λ kind. MatchOption kind (f ≡ fault.NotInProfile) (λ t. IsFaultAs t body f)) (sym (type_with-code_of t)) bad))
