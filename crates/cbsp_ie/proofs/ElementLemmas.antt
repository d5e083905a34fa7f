-- Elements and their octets: one element stands at the front of octets, or they have one fault.
use Rattle.std.proofs.Common.{◌≡◌, ℕ, suc, ◌+◌, ◌*◌, ◌/◌, ◌%◌, ◌<◌, ◌≤◌, inl, inr, List, [], ◌∷◌, ◌++◌, take, drop, length, slice_index, Option, Some, None, Result, Ok, Err, IfOk, IfErr, refl, sym, ◌∙◌, ap, subst, arith, append-nil, eqb-true, ◌==◌}
use Rattle.std.proofs.lemmas.List.{length-append, length-take-le, take-append-drop}
use Rattle.std.proofs.Math.Nat.{mul-div_cancel}
use Rattle.std.proofs.Math.Seq.{drop-append_seam, take-append_seam}
use Rattle.std.specs.Int.{bytes_high_first}
use Rattle.std.specs.List.{flat_map}
use Rattle.byteorder.specs.Endian.{big_number}
use Rattle.byteorder.specs.Numbers.{big_number-reads_back}
use Rattle.cbsp_ie.specs.declared.cell_id.CellId.{CellId}
use Rattle.cbsp_ie.specs.declared.element.Element.{Element}
use Rattle.cbsp_ie.specs.declared.element.Element.TheVariants as element
use Rattle.cbsp_ie.specs.declared.element_id.ElementId.{ElementId}
use Rattle.cbsp_ie.specs.declared.element_id.ElementId.TheVariants as element_id
use Rattle.cbsp_ie.specs.declared.extent.Extent.{Extent}
use Rattle.cbsp_ie.specs.declared.extent.Extent.TheVariants as extent
use Rattle.cbsp_ie.specs.declared.fail_entry.FailEntry.{FailEntry}
use Rattle.cbsp_ie.specs.declared.form.Form.{Form}
use Rattle.cbsp_ie.specs.declared.form.Form.TheVariants as form
use Rattle.cbsp_ie.specs.declared.ie_fault.IeFault.{IeFault}
use Rattle.cbsp_ie.specs.CellId.{id_octets}
use Rattle.cbsp_ie.specs.CellList.{IsBadCellList, IsCellList, IsFaultAfter, ids_at}
use Rattle.cbsp_ie.specs.CountList.{IsBadCountList, IsCountFaultAfter, IsCountList, counts_at}
use Rattle.cbsp_ie.specs.Counts.{Numbers}
use Rattle.cbsp_ie.specs.Element.{HasValue, IsContentFault, IsElement, IsElementFault, IsListed, IsNamedFault, IsShort, IsTwo, IsValueFault, IsWhole, content_of, element_id_of}
use Rattle.cbsp_ie.specs.ElementId.{code_of, element_ids, extent_of, id_of}
use Rattle.cbsp_ie.specs.FailureList.{AreFailures, IsBadFailureList, entries_after}
use Rattle.cbsp_ie.specs.Form.{form_with, size_of}
use Rattle.cbsp_ie.specs.Identifications.{HasForm, Identifications}
use Rattle.cbsp_ie.specs.Laws.{NoFault, OneFault, OneReading}
use Rattle.common.specs.OrderLaws.{find_passes}
use Rattle.cbsp_ie.proofs.CellListLemmas.{ids_at-all, ids_at-flat_map, length-flat_map-ids}
use Rattle.cbsp_ie.proofs.CountListLemmas.{counts_at-AreCounts, length-AreCounts}
use Rattle.cbsp_ie.proofs.FailureListLemmas.{entries_after-AreFailures, not_bad_list, one_bad_list}

-- ---- identifiers

pub id_of-code_of : (id : ElementId) → id_of (code_of id) ≡ Some id
id_of-code_of element_id.MessageContent = refl
id_of-code_of element_id.OldSerialNumber = refl
id_of-code_of element_id.NewSerialNumber = refl
id_of-code_of element_id.CellList = refl
id_of-code_of element_id.Category = refl
id_of-code_of element_id.RepetitionPeriod = refl
id_of-code_of element_id.BroadcastsRequested = refl
id_of-code_of element_id.BroadcastsCompleted = refl
id_of-code_of element_id.FailureList = refl
id_of-code_of element_id.Cause = refl
id_of-code_of element_id.DataCodingScheme = refl
id_of-code_of element_id.RecoveryIndication = refl
id_of-code_of element_id.MessageIdentifier = refl
id_of-code_of element_id.EmergencyIndicator = refl
id_of-code_of element_id.WarningType = refl
id_of-code_of element_id.WarningSecurity = refl
id_of-code_of element_id.ChannelIndicator = refl
id_of-code_of element_id.NumberOfPages = refl
id_of-code_of element_id.BroadcastMessageType = refl
id_of-code_of element_id.WarningPeriod = refl

pub code_of-id_of : (code : ℕ) (id : ElementId) → id_of code ≡ Some id → code_of id ≡ code
code_of-id_of code id h = eqb-true (code_of id) code (find_passes (λ i. code_of i == code) element_ids id h)

-- ---- lists: one that is read has no fault, and one that is not has one fault

-- the octets of identifications are whole
cells_whole : (f : Form) (ids : List CellId) → HasForm f ids → (n : ℕ) × (n * size_of f ≡ length (flat_map id_octets ids))
cells_whole form.Global ids h = (length ids, sym (length-flat_map-ids form.Global ids h))
cells_whole form.LacCi ids h = (length ids, sym (length-flat_map-ids form.LacCi ids h))
cells_whole form.Ci ids h = (length ids, sym (length-flat_map-ids form.Ci ids h))
cells_whole form.Lai ids h = (length ids, sym (length-flat_map-ids form.Lai ids h))
cells_whole form.Lac ids h = (length ids, sym (length-flat_map-ids form.Lac ids h))
cells_whole form.All ids h = (1, rw h refl)

pub not_bad_cells : (listed : List ℕ) (cells : Identifications) (fault : IeFault) → IsCellList listed cells → IsBadCellList listed fault → ⊥
not_bad_cells [] cells fault h bad = bad
not_bad_cells (d ∷ rest) cells fault h bad =
    let w = cells_whole cells.form cells.ids h.1 in
    let P : Option Form → Type 0 = λ o. IsFaultAfter o (d % 16) (length rest) fault in
    (subst P h.0 bad).0 w.0 (w.1 ∙ ap length (sym h.2))

pub one_bad_cells : (listed : List ℕ) (a b : IeFault) → IsBadCellList listed a → IsBadCellList listed b → a ≡ b
one_bad_cells [] a b h k = absurd h
one_bad_cells (d ∷ rest) a b h k = by (form_with (d % 16)) h k
  where
    by : (o : Option Form) → IsFaultAfter o (d % 16) (length rest) a → IsFaultAfter o (d % 16) (length rest) b → a ≡ b
    by None h k = h ∙ sym k
    by (Some f) h k = h.1 ∙ sym k.1

pub not_bad_counts : (listed : List ℕ) (numbers : Numbers) (fault : IeFault) → IsCountList listed numbers → IsBadCountList listed fault → ⊥
not_bad_counts [] numbers fault h bad = bad
not_bad_counts (d ∷ rest) numbers fault h bad =
    let P : Option Form → Type 0 = λ o. IsCountFaultAfter o (d % 16) (length rest) fault in
    (subst P h.0 bad).0 (length numbers.entries) (sym (length-AreCounts numbers.form rest numbers.entries h.1 h.2))

pub one_bad_counts : (listed : List ℕ) (a b : IeFault) → IsBadCountList listed a → IsBadCountList listed b → a ≡ b
one_bad_counts [] a b h k = absurd h
one_bad_counts (d ∷ rest) a b h k = by (form_with (d % 16)) h k
  where
    by : (o : Option Form) → IsCountFaultAfter o (d % 16) (length rest) a → IsCountFaultAfter o (d % 16) (length rest) b → a ≡ b
    by None h k = h ∙ sym k
    by (Some f) h k = h.1 ∙ sym k.1

pub not_bad_failures : (listed : List ℕ) (es : List FailEntry) (fault : IeFault) → AreFailures listed es → IsBadFailureList listed fault → ⊥
not_bad_failures listed es fault h bad = not_bad_list listed bad.front bad.rest es bad.entries fault bad.parts h bad.good bad.bad

pub one_bad_failures : (listed : List ℕ) (a b : IeFault) → IsBadFailureList listed a → IsBadFailureList listed b → a ≡ b
one_bad_failures listed a b h k = one_bad_list listed h.front h.rest k.front k.rest h.entries k.entries a b h.parts h.good h.bad k.parts k.good k.bad

-- ---- values

-- how many octets the value has that stands at the front
abbrev value_size : Extent → List ℕ → ℕ
value_size (extent.Fixed size) octets = size
value_size extent.Counted octets = 2 + big_number 2 octets

-- the octets of a list that has its length before it
listed_at : (listed x : List ℕ) → length listed < 65536 → take (big_number 2 ((bytes_high_first 2 (length listed) ++ listed) ++ x)) (drop 2 ((bytes_high_first 2 (length listed) ++ listed) ++ x)) ≡ listed
listed_at listed x lt = rw (big_number-reads_back 2 (length listed) (listed ++ x) lt) (take-append_seam listed x)

listed_size : (listed x : List ℕ) → length listed < 65536 → 2 + big_number 2 ((bytes_high_first 2 (length listed) ++ listed) ++ x) ≡ length (bytes_high_first 2 (length listed) ++ listed)
listed_size listed x lt = rw (big_number-reads_back 2 (length listed) (listed ++ x) lt) (omega arith)

size_of-IsListed : (P : List ℕ → Type 0) (value x : List ℕ) → IsListed P value → value_size extent.Counted (value ++ x) ≡ length value
size_of-IsListed P value x h = rw h.2 (listed_size h.0 x h.1)

-- a value has as many octets as its extent says
value_size-HasValue : (e : Element) (value x : List ℕ) → HasValue e value → value_size (extent_of (element_id_of e)) (value ++ x) ≡ length value
value_size-HasValue (element.MessageContent page) value x h = rw h.2 (let e : length page.octets ≡ 82 = h.1 in omega arith)
value_size-HasValue (element.OldSerialNumber n) value x h = rw h.1 refl
value_size-HasValue (element.NewSerialNumber n) value x h = rw h.1 refl
value_size-HasValue (element.CellList cells) value x h = size_of-IsListed (λ listed. IsCellList listed cells) value x h
value_size-HasValue (element.Category n) value x h = rw h.2 refl
value_size-HasValue (element.RepetitionPeriod n) value x h = rw h.1 refl
value_size-HasValue (element.BroadcastsRequested n) value x h = rw h.1 refl
value_size-HasValue (element.BroadcastsCompleted numbers) value x h = size_of-IsListed (λ listed. IsCountList listed numbers) value x h
value_size-HasValue (element.FailureList entries) value x h = size_of-IsListed (λ listed. AreFailures listed entries) value x h
value_size-HasValue (element.Cause cause) value x h = rw h refl
value_size-HasValue (element.DataCodingScheme n) value x h = rw h refl
value_size-HasValue (element.RecoveryIndication n) value x h = rw h.2 refl
value_size-HasValue (element.MessageIdentifier n) value x h = rw h.1 refl
value_size-HasValue (element.EmergencyIndicator n) value x h = rw h refl
value_size-HasValue (element.WarningType n) value x h = rw h.1 refl
value_size-HasValue (element.WarningSecurity security) value x h = rw h.1 (sym h.0)
value_size-HasValue (element.ChannelIndicator n) value x h = rw h.2 refl
value_size-HasValue (element.NumberOfPages n) value x h = rw h refl
value_size-HasValue (element.BroadcastMessageType n) value x h = rw h.2 refl
value_size-HasValue (element.WarningPeriod n) value x h = rw h refl

-- two values of one element at the front of the same octets are as long
pub same_value : (e g : Element) (value other x y : List ℕ) → element_id_of e ≡ element_id_of g → value ++ x ≡ other ++ y → HasValue e value → HasValue g other → value ≡ other
same_value e g value other x y id same h k =
    let long : length value ≡ length other =
    sym (value_size-HasValue e value x h) ∙ (λ i. value_size (extent_of (id i)) (same i)) ∙ value_size-HasValue g other y k in
    sym (take-append_seam value x) ∙ (λ i. take (long i) (same i)) ∙ take-append_seam other y

-- ---- the value of an element, from its octets

abbrev form_or : Option Form → Form
form_or None = form.LacCi
form_or (Some f) = f

abbrev count_in : Form → ℕ → ℕ
count_in form.All octets = 1
count_in f octets = octets / size_of f

abbrev cells_in : List ℕ → Identifications
cells_in [] = record { form = form.LacCi; ids = [] }
cells_in (d ∷ rest) = let f = form_or (form_with (d % 16)) in record { form = f; ids = ids_at f (count_in f (length rest)) rest }

abbrev counts_in : List ℕ → Numbers
counts_in [] = record { form = form.LacCi; entries = [] }
counts_in (d ∷ rest) = let f = form_or (form_with (d % 16)) in record { form = f; entries = counts_at f (length rest / (size_of f + 3)) rest }

divided : (n m octets : ℕ) → octets ≡ n * m → 0 < m → octets / m ≡ n
divided n m octets h some = rw h (mul-div_cancel n some)

ids_in : (f : Form) (ids : List CellId) (rest : List ℕ) → HasForm f ids → rest ≡ flat_map id_octets ids → ids_at f (count_in f (length rest)) rest ≡ ids
ids_in form.Global ids rest h parts =
    let count = divided (length ids) (size_of form.Global) (length rest) (ap length parts ∙ length-flat_map-ids form.Global ids h) (omega arith) in
    (λ i. ids_at form.Global (count i) (parts i)) ∙ ids_at-flat_map form.Global ids h
ids_in form.LacCi ids rest h parts =
    let count = divided (length ids) (size_of form.LacCi) (length rest) (ap length parts ∙ length-flat_map-ids form.LacCi ids h) (omega arith) in
    (λ i. ids_at form.LacCi (count i) (parts i)) ∙ ids_at-flat_map form.LacCi ids h
ids_in form.Ci ids rest h parts =
    let count = divided (length ids) (size_of form.Ci) (length rest) (ap length parts ∙ length-flat_map-ids form.Ci ids h) (omega arith) in
    (λ i. ids_at form.Ci (count i) (parts i)) ∙ ids_at-flat_map form.Ci ids h
ids_in form.Lai ids rest h parts =
    let count = divided (length ids) (size_of form.Lai) (length rest) (ap length parts ∙ length-flat_map-ids form.Lai ids h) (omega arith) in
    (λ i. ids_at form.Lai (count i) (parts i)) ∙ ids_at-flat_map form.Lai ids h
ids_in form.Lac ids rest h parts =
    let count = divided (length ids) (size_of form.Lac) (length rest) (ap length parts ∙ length-flat_map-ids form.Lac ids h) (omega arith) in
    (λ i. ids_at form.Lac (count i) (parts i)) ∙ ids_at-flat_map form.Lac ids h
ids_in form.All ids rest h parts = rw (parts, h) ids_at-all

cells_in-is : (listed : List ℕ) (cells : Identifications) → IsCellList listed cells → cells_in listed ≡ cells
cells_in-is [] cells h = λ i. record { form = sym h.0 i; ids = sym h.1 i }
cells_in-is (d ∷ rest) cells h =
    ap (λ (o : Option Form). let f = form_or o in let r : Identifications = record { form = f; ids = ids_at f (count_in f (length rest)) rest } in r) h.0
    ∙ (λ i. record { form = cells.form; ids = ids_in cells.form cells.ids rest h.1 h.2 i })

counts_in-is : (listed : List ℕ) (numbers : Numbers) → IsCountList listed numbers → counts_in listed ≡ numbers
counts_in-is [] numbers h = λ i. record { form = sym h.0 i; entries = sym h.1 i }
counts_in-is (d ∷ rest) numbers h =
    let count = divided (length numbers.entries) (size_of numbers.form + 3) (length rest) (length-AreCounts numbers.form rest numbers.entries h.1 h.2) (omega arith) in
    ap (λ (o : Option Form). let f = form_or o in let r : Numbers = record { form = f; entries = counts_at f (length rest / (size_of f + 3)) rest } in r) h.0
    ∙ (λ i. record { form = numbers.form; entries = (ap (λ (n : ℕ). counts_at numbers.form n rest) count ∙ counts_at-AreCounts numbers.form rest numbers.entries h.1 h.2) i })

abbrev listed_in : List ℕ → List ℕ
listed_in value = take (big_number 2 value) (drop 2 value)

listed_in-is : (P : List ℕ → Type 0) (value : List ℕ) (h : IsListed P value) → listed_in value ≡ h.0
listed_in-is P value h =
    let whole : value ≡ (bytes_high_first 2 (length h.0) ++ h.0) ++ [] = h.2 ∙ sym (append-nil (bytes_high_first 2 (length h.0) ++ h.0)) in
    ap listed_in whole ∙ listed_at h.0 [] h.1

two_in : (n : ℕ) (value : List ℕ) → IsTwo n value → big_number 2 value ≡ n
two_in n value h = ap (big_number 2) h.1 ∙ big_number-reads_back 2 n [] h.0

-- the value, whichever element the octets are of
abbrev value_of : ElementId → List ℕ → Element
value_of element_id.MessageContent value = element.MessageContent (record { used = slice_index value 0; octets = drop 1 value })
value_of element_id.OldSerialNumber value = element.OldSerialNumber (big_number 2 value)
value_of element_id.NewSerialNumber value = element.NewSerialNumber (big_number 2 value)
value_of element_id.CellList value = element.CellList (cells_in (listed_in value))
value_of element_id.Category value = element.Category (slice_index value 0 % 16)
value_of element_id.RepetitionPeriod value = element.RepetitionPeriod (big_number 2 value)
value_of element_id.BroadcastsRequested value = element.BroadcastsRequested (big_number 2 value)
value_of element_id.BroadcastsCompleted value = element.BroadcastsCompleted (counts_in (listed_in value))
value_of element_id.FailureList value = element.FailureList (entries_after 0 (listed_in value))
value_of element_id.Cause value = element.Cause (record { 0 = slice_index value 0 })
value_of element_id.DataCodingScheme value = element.DataCodingScheme (slice_index value 0)
value_of element_id.RecoveryIndication value = element.RecoveryIndication (slice_index value 0 % 16)
value_of element_id.MessageIdentifier value = element.MessageIdentifier (big_number 2 value)
value_of element_id.EmergencyIndicator value = element.EmergencyIndicator (slice_index value 0)
value_of element_id.WarningType value = element.WarningType (big_number 2 value)
value_of element_id.WarningSecurity value = element.WarningSecurity value
value_of element_id.ChannelIndicator value = element.ChannelIndicator (slice_index value 0 % 16)
value_of element_id.NumberOfPages value = element.NumberOfPages (slice_index value 0)
value_of element_id.BroadcastMessageType value = element.BroadcastMessageType (slice_index value 0 % 16)
value_of element_id.WarningPeriod value = element.WarningPeriod (slice_index value 0)

value_of-HasValue : (e : Element) (value : List ℕ) → HasValue e value → value_of (element_id_of e) value ≡ e
value_of-HasValue (element.MessageContent page) value h = rw h.2 refl
value_of-HasValue (element.OldSerialNumber n) value h = ap (λ (m : ℕ). element.OldSerialNumber m) (two_in n value h)
value_of-HasValue (element.NewSerialNumber n) value h = ap (λ (m : ℕ). element.NewSerialNumber m) (two_in n value h)
value_of-HasValue (element.CellList cells) value h =
    ap (λ (l : List ℕ). element.CellList (cells_in l)) (listed_in-is (λ listed. IsCellList listed cells) value h) ∙ ap (λ (c : Identifications). element.CellList c) (cells_in-is h.0 cells h.3)
value_of-HasValue (element.Category n) value h = rw (h.2, h.1) refl
value_of-HasValue (element.RepetitionPeriod n) value h = ap (λ (m : ℕ). element.RepetitionPeriod m) (two_in n value h)
value_of-HasValue (element.BroadcastsRequested n) value h = ap (λ (m : ℕ). element.BroadcastsRequested m) (two_in n value h)
value_of-HasValue (element.BroadcastsCompleted numbers) value h =
    ap (λ (l : List ℕ). element.BroadcastsCompleted (counts_in l)) (listed_in-is (λ listed. IsCountList listed numbers) value h) ∙ ap (λ (c : Numbers). element.BroadcastsCompleted c) (counts_in-is h.0 numbers h.3)
value_of-HasValue (element.FailureList entries) value h =
    ap (λ (l : List ℕ). element.FailureList (entries_after 0 l)) (listed_in-is (λ listed. AreFailures listed entries) value h) ∙ ap (λ (c : List FailEntry). element.FailureList c) (entries_after-AreFailures h.0 entries h.3)
value_of-HasValue (element.Cause cause) value h = rw h refl
value_of-HasValue (element.DataCodingScheme n) value h = rw h refl
value_of-HasValue (element.RecoveryIndication n) value h = rw (h.2, h.1) refl
value_of-HasValue (element.MessageIdentifier n) value h = ap (λ (m : ℕ). element.MessageIdentifier m) (two_in n value h)
value_of-HasValue (element.EmergencyIndicator n) value h = rw h refl
value_of-HasValue (element.WarningType n) value h = ap (λ (m : ℕ). element.WarningType m) (two_in n value h)
value_of-HasValue (element.WarningSecurity security) value h = rw h.1 refl
value_of-HasValue (element.ChannelIndicator n) value h = rw (h.2, h.1) refl
value_of-HasValue (element.NumberOfPages n) value h = rw h refl
value_of-HasValue (element.BroadcastMessageType n) value h = rw (h.2, h.1) refl
value_of-HasValue (element.WarningPeriod n) value h = rw h refl

-- ---- faults

whole_or_short : (x : Extent) (octets : List ℕ) → value_size x octets ≤ length octets → IsShort x octets → ⊥
whole_or_short (extent.Fixed size) octets le short = omega arith
whole_or_short extent.Counted octets le (inl short) = omega arith
whole_or_short extent.Counted octets le (inr short) = omega arith

size_from_whole : (x : Extent) (octets : List ℕ) → IsWhole x octets → value_size x octets ≤ length octets
size_from_whole (extent.Fixed size) octets h = h
size_from_whole extent.Counted octets h = h.1

no_content_fault : (e : Element) (value x : List ℕ) (fault : IeFault) → HasValue e value → IsContentFault (element_id_of e) (content_of (extent_of (element_id_of e)) (value ++ x)) fault → ⊥
no_content_fault (element.MessageContent page) value x fault h bad =
    let P : List ℕ → Type 0 = λ o. 82 < slice_index (take 83 (o ++ x)) 0 in
    let above : 82 < page.used = subst P h.2 bad.0 in
    let le : page.used ≤ 82 = h.0 in
    omega arith
no_content_fault (element.OldSerialNumber n) value x fault h bad = bad
no_content_fault (element.NewSerialNumber n) value x fault h bad = bad
no_content_fault (element.CellList cells) value x fault h bad =
    let P : List ℕ → Type 0 = λ o. IsBadCellList (listed_in (o ++ x)) fault in
    let Q : List ℕ → Type 0 = λ o. IsBadCellList o fault in
    not_bad_cells h.0 cells fault h.3 (subst Q (listed_at h.0 x h.1) (subst P h.2 bad))
no_content_fault (element.Category n) value x fault h bad = bad
no_content_fault (element.RepetitionPeriod n) value x fault h bad = bad
no_content_fault (element.BroadcastsRequested n) value x fault h bad = bad
no_content_fault (element.BroadcastsCompleted numbers) value x fault h bad =
    let P : List ℕ → Type 0 = λ o. IsBadCountList (listed_in (o ++ x)) fault in
    let Q : List ℕ → Type 0 = λ o. IsBadCountList o fault in
    not_bad_counts h.0 numbers fault h.3 (subst Q (listed_at h.0 x h.1) (subst P h.2 bad))
no_content_fault (element.FailureList entries) value x fault h bad =
    let P : List ℕ → Type 0 = λ o. IsBadFailureList (listed_in (o ++ x)) fault in
    let Q : List ℕ → Type 0 = λ o. IsBadFailureList o fault in
    not_bad_failures h.0 entries fault h.3 (subst Q (listed_at h.0 x h.1) (subst P h.2 bad))
no_content_fault (element.Cause cause) value x fault h bad = bad
no_content_fault (element.DataCodingScheme n) value x fault h bad = bad
no_content_fault (element.RecoveryIndication n) value x fault h bad = bad
no_content_fault (element.MessageIdentifier n) value x fault h bad = bad
no_content_fault (element.EmergencyIndicator n) value x fault h bad = bad
no_content_fault (element.WarningType n) value x fault h bad = bad
no_content_fault (element.WarningSecurity security) value x fault h bad = bad
no_content_fault (element.ChannelIndicator n) value x fault h bad = bad
no_content_fault (element.NumberOfPages n) value x fault h bad = bad
no_content_fault (element.BroadcastMessageType n) value x fault h bad = bad
no_content_fault (element.WarningPeriod n) value x fault h bad = bad

no_value_fault : (e : Element) (value x : List ℕ) (fault : IeFault) → HasValue e value → IsValueFault (element_id_of e) (value ++ x) fault → ⊥
no_value_fault e value x fault h (inl short) =
    let size = value_size-HasValue e value x h in
    let long = length-append value x in
    whole_or_short (extent_of (element_id_of e)) (value ++ x) (omega arith) short.0
no_value_fault e value x fault h (inr bad) = no_content_fault e value x fault h bad.1

one_content_fault : (id : ElementId) (content : List ℕ) (a b : IeFault) → IsContentFault id content a → IsContentFault id content b → a ≡ b
one_content_fault element_id.MessageContent content a b h k = h.1 ∙ sym k.1
one_content_fault element_id.CellList content a b h k = one_bad_cells content a b h k
one_content_fault element_id.BroadcastsCompleted content a b h k = one_bad_counts content a b h k
one_content_fault element_id.FailureList content a b h k = one_bad_failures content a b h k
one_content_fault id content a b h k = absurd h

one_value_fault : (id : ElementId) (octets : List ℕ) (a b : IeFault) → IsValueFault id octets a → IsValueFault id octets b → a ≡ b
one_value_fault id octets a b (inl h) (inl k) = h.1 ∙ sym k.1
one_value_fault id octets a b (inl h) (inr k) = absurd (whole_or_short (extent_of id) octets (size_from_whole (extent_of id) octets k.0) h.0)
one_value_fault id octets a b (inr h) (inl k) = absurd (whole_or_short (extent_of id) octets (size_from_whole (extent_of id) octets h.0) k.0)
one_value_fault id octets a b (inr h) (inr k) = one_content_fault id (content_of (extent_of id) octets) a b h.1 k.1

-- ---- the laws

pub one_reading_lem : OneReading
one_reading_lem text rest other left e g same h k =
    let heads : code_of (element_id_of e) ∷ (h.value ++ rest) ≡ code_of (element_id_of g) ∷ (k.value ++ left) =
    ap (λ (o : List ℕ). o ++ rest) (sym h.parts) ∙ same ∙ ap (λ (o : List ℕ). o ++ left) k.parts in
    let codes : code_of (element_id_of e) ≡ code_of (element_id_of g) = cc in
    let some : Some (element_id_of e) ≡ Some (element_id_of g) = sym (id_of-code_of (element_id_of e)) ∙ ap id_of codes ∙ id_of-code_of (element_id_of g) in
    let id : element_id_of e ≡ element_id_of g = cc in
    let tails : h.value ++ rest ≡ k.value ++ left = cc in
    let value = same_value e g h.value k.value rest left id tails h.has_value k.has_value in
    let element = sym (value_of-HasValue e h.value h.has_value) ∙ (λ i. value_of (id i) (value i)) ∙ value_of-HasValue g k.value k.has_value in
    let after = sym (drop-append_seam h.value rest) ∙ (λ i. drop (length (value i)) (tails i)) ∙ drop-append_seam k.value left in
    (element, h.parts ∙ (λ i. codes i ∷ value i) ∙ sym k.parts, after)

pub no_fault_lem : NoFault
no_fault_lem text rest e fault h bad =
    let P : List ℕ → Type 0 = λ o. IsElementFault (o ++ rest) fault in
    let Q : Option ElementId → Type 0 = λ o. IsNamedFault o (code_of (element_id_of e)) (h.value ++ rest) fault in
    no_value_fault e h.value rest fault h.has_value (subst Q (id_of-code_of (element_id_of e)) (subst P h.parts bad))

pub one_fault_lem : OneFault
one_fault_lem [] a b h k = h ∙ sym k
one_fault_lem (code ∷ octets) a b h k = by (id_of code) h k
  where
    by : (o : Option ElementId) → IsNamedFault o code octets a → IsNamedFault o code octets b → a ≡ b
    by None h k = h ∙ sym k
    by (Some id) h k = one_value_fault id octets a b h k

-- ---- the reader

-- the element whose identifier and value are found
pub element_found : (octets after : List ℕ) (id : ElementId) (e : Element) (size : ℕ) → 1 ≤ length octets → after ≡ drop 1 octets → id_of (slice_index octets 0) ≡ Some id → element_id_of e ≡ id
    → HasValue e (take size after) → IsElement (take (size + 1) octets) e
element_found [] after id e size some parts named is h = absurd (omega arith)
element_found (code ∷ rest) after id e size some parts named is h =
    let more : size + 1 ≡ suc size = omega arith in
    let codes : code_of (element_id_of e) ≡ code = ap code_of is ∙ code_of-id_of code id named in
    record {
      value = take size after;
      parts = rw more (λ i. sym codes i ∷ take size (sym parts i));
      has_value = h;
    }

-- what is found, or the fault, is the only answer
pub only_answer : (octets : List ℕ) (answer : Result (Element × ℕ) IeFault) → IfOk answer (λ r. r.1 ≤ length octets) → IfOk answer (λ r. IsElement (take r.1 octets) r.0) → IfErr answer (IsElementFault octets)
    → (text rest : List ℕ) (e : Element) → octets ≡ text ++ rest → IsElement text e → answer ≡ Ok (e, length text)
only_answer octets (Ok r) within found fault text rest e parts h =
    let one = one_reading_lem (take r.1 octets) (drop r.1 octets) text rest r.0 e (take-append-drop r.1 octets ∙ parts) found h in
    let size : length (take r.1 octets) ≡ r.1 = length-take-le r.1 octets within in
    λ i. Ok (one.0 i, (sym size ∙ ap length one.1) i)
only_answer octets (Err f) within found fault text rest e parts h =
    let P : List ℕ → Type 0 = λ o. IsElementFault o f in
    absurd (no_fault_lem text rest e f h (subst P parts fault))
