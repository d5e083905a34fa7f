-- An element that is read of octets: its numbers are in their ranges, its lists have room, it has no spare bits, and it is
-- written in octets.
use Rattle.std.proofs.Common.{◌≡◌, ℕ, suc, ◌%◌, ◌<◌, List, [], ◌∷◌, ◌++◌, length, map, cond, true, false, Bool, refl, sym, ap, subst, arith}
use Rattle.std.specs.Int.{bytes_high_first}
use Rattle.std.specs.List.{AllByRecursion, filter, flat_map}
use Rattle.cbsp_ie.specs.declared.count_entry.CountEntry.{CountEntry}
use Rattle.cbsp_ie.specs.declared.element.Element.{Element}
use Rattle.cbsp_ie.specs.declared.element.Element.TheVariants as element
use Rattle.cbsp_ie.specs.declared.element_id.ElementId.{ElementId}
use Rattle.cbsp_ie.specs.declared.element_id.ElementId.TheVariants as id
use Rattle.cbsp_ie.specs.declared.fail_entry.FailEntry.{FailEntry}
use Rattle.cbsp_ie.specs.declared.form.Form.{Form}
use Rattle.cbsp_ie.specs.declared.form.Form.TheVariants as form
use Rattle.cbsp_ie.specs.CellId.{form_of, id_octets}
use Rattle.cbsp_ie.specs.CellList.{IsCellList}
use Rattle.cbsp_ie.specs.CountList.{AreCounts, IsCountList}
use Rattle.cbsp_ie.specs.Counts.{AreCountsOf, Numbers}
use Rattle.cbsp_ie.specs.Element.{HasValue, IsElement, element_id_of}
use Rattle.cbsp_ie.specs.ElementId.{code_of}
use Rattle.cbsp_ie.specs.FailureList.{AreFailures}
use Rattle.cbsp_ie.specs.Failures.{IsFailEntry}
use Rattle.cbsp_ie.specs.Form.{discriminator_of}
use Rattle.cbsp_ie.specs.Identifications.{HasForm, Identifications}
use Rattle.cbsp_ie.specs.Written.{FitsElement, IsInRange, cells_octets, count_octets, counts_octets, element_octets, failure_octets, failures_octets, plain_count, plain_element, value_octets}
use Rattle.cbsp_ie.proofs.CountListLemmas.{length-AreCounts, length-flat_map-counts}
use Rattle.cbsp_ie.proofs.FailureListLemmas.{length-AreFailures}
use Rattle.cbsp_messages.specs.Elements.{AreElements}
use Rattle.hex.specs.Hex.{IsBytes}
use Rattle.journal_text.proofs.OctetLemmas.{bytes_append, bytes_back, bytes_cons, bytes_front, bytes_id, bytes_none, bytes_two}

-- an element that is written as it stands
pub record StandsAsWritten (e : Element) : Type 0 where
  pub range : IsInRange e
  pub fits : FitsElement e
  pub plain : plain_element e ≡ e
  pub octets : IsBytes (element_octets e)

-- ---- what the lists are read of

cells_range : (listed : List ℕ) (cells : Identifications) → IsCellList listed cells → HasForm cells.form cells.ids
cells_range [] cells h = subst (λ f. HasForm f cells.ids) (sym h.0) (subst (λ ids. HasForm form.LacCi ids) (sym h.1) tt)
cells_range (d ∷ rest) cells h = h.1

cells_fit : (listed : List ℕ) (cells : Identifications) → length listed < 65536 → IsCellList listed cells → length (cells_octets cells) < 65536
cells_fit [] cells short h = omega (arith, ap (λ ids. length (flat_map id_octets ids)) h.1)
cells_fit (d ∷ rest) cells short h = omega (arith, short, ap length h.2)

discriminator_low : (f : Form) → discriminator_of f < 256
discriminator_low form.Global = omega arith
discriminator_low form.LacCi = omega arith
discriminator_low form.Ci = omega arith
discriminator_low form.Lai = omega arith
discriminator_low form.Lac = omega arith
discriminator_low form.All = omega arith

cells_bytes : (listed : List ℕ) (cells : Identifications) → IsBytes listed → IsCellList listed cells → IsBytes (cells_octets cells)
cells_bytes [] cells bytes h =
    bytes_cons (discriminator_of cells.form) (flat_map id_octets cells.ids) (discriminator_low cells.form) (subst (λ ids. IsBytes (flat_map id_octets ids)) (sym h.1) bytes_none)
cells_bytes (d ∷ rest) cells bytes h =
    bytes_cons (discriminator_of cells.form) (flat_map id_octets cells.ids) (discriminator_low cells.form) (subst IsBytes h.2 (λ i. bytes (suc i)))

counts_range : (listed : List ℕ) (numbers : Numbers) → IsCountList listed numbers → AreCountsOf numbers.form numbers.entries
counts_range [] numbers h = subst (λ es. AreCountsOf numbers.form es) (sym h.1) tt
counts_range (d ∷ rest) numbers h = h.1

counts_fit : (listed : List ℕ) (numbers : Numbers) → length listed < 65536 → IsCountList listed numbers → length (counts_octets numbers) < 65536
counts_fit [] numbers short h = omega (arith, ap (λ es. length (flat_map count_octets es)) h.1)
counts_fit (d ∷ rest) numbers short h =
    omega (arith, short, length-AreCounts numbers.form rest numbers.entries h.1 h.2, length-flat_map-counts numbers.form numbers.entries h.1)

entry_plain : (e : CountEntry) (info : ℕ) → e.info ≡ info % 16 → plain_count e ≡ e
entry_plain e info is = let low : e.info % 16 ≡ e.info = omega (arith, is) in λ i. record e { info = low i }

entries_plain : (octets : List ℕ) (es : List CountEntry) → AreCounts octets es → map plain_count es ≡ es
entries_plain octets [] h = refl
entries_plain octets (e ∷ es) h =
    let first = entry_plain e h.3.0 h.3.1 in let others = entries_plain h.1 es h.4 in λ i. first i ∷ others i

counts_plain : (listed : List ℕ) (numbers : Numbers) → IsCountList listed numbers → map plain_count numbers.entries ≡ numbers.entries
counts_plain [] numbers h = subst (λ es. map plain_count es ≡ es) (sym h.1) refl
counts_plain (d ∷ rest) numbers h = entries_plain rest numbers.entries h.2

entries_bytes : (f : Form) (es : List CountEntry) → AreCountsOf f es → IsBytes (flat_map count_octets es)
entries_bytes f [] h = bytes_none
entries_bytes f (e ∷ es) h =
    bytes_append (count_octets e) (flat_map count_octets es)
    (bytes_append (id_octets e.id) (bytes_high_first 2 e.number ++ (e.info % 16) ∷ []) (bytes_id e.id h.0.1.0)
    (bytes_append (bytes_high_first 2 e.number) ((e.info % 16) ∷ []) (bytes_two e.number) (bytes_cons (e.info % 16) [] (omega arith) bytes_none)))
    (entries_bytes f es h.1)

counts_bytes : (numbers : Numbers) → AreCountsOf numbers.form numbers.entries → IsBytes (counts_octets numbers)
counts_bytes numbers h =
    bytes_cons (discriminator_of numbers.form) (flat_map count_octets numbers.entries) (discriminator_low numbers.form) (entries_bytes numbers.form numbers.entries h)

failures_range : (listed : List ℕ) (es : List FailEntry) → AreFailures listed es → AllByRecursion IsFailEntry es
failures_range listed [] h = tt
failures_range listed (e ∷ es) h = (h.3.2, failures_range h.1 es h.4)

failures_bytes : (es : List FailEntry) → AllByRecursion IsFailEntry es → IsBytes (failures_octets es)
failures_bytes [] h = bytes_none
failures_bytes (e ∷ es) h =
    bytes_append (failure_octets e) (failures_octets es)
    (bytes_cons (discriminator_of (form_of e.id)) (id_octets e.id ++ e.cause.0 ∷ []) (discriminator_low (form_of e.id))
    (bytes_append (id_octets e.id) (e.cause.0 ∷ []) (bytes_id e.id h.0.0) (bytes_cons e.cause.0 [] h.0.1 bytes_none)))
    (failures_bytes es h.1)

-- ---- one element

in_range : (e : Element) (value : List ℕ) → HasValue e value → IsInRange e
in_range (element.MessageContent page) value h = (h.0, h.1)
in_range (element.OldSerialNumber n) value h = h.0
in_range (element.NewSerialNumber n) value h = h.0
in_range (element.CellList cells) value h = cells_range h.0 cells h.3
in_range (element.RepetitionPeriod n) value h = h.0
in_range (element.BroadcastsRequested n) value h = h.0
in_range (element.BroadcastsCompleted numbers) value h = counts_range h.0 numbers h.3
in_range (element.FailureList entries) value h = failures_range h.0 entries h.3
in_range (element.MessageIdentifier n) value h = h.0
in_range (element.WarningType n) value h = h.0
in_range (element.WarningSecurity security) value h = h.0
in_range other value h = tt

has_room : (e : Element) (value : List ℕ) → HasValue e value → FitsElement e
has_room (element.CellList cells) value h = cells_fit h.0 cells h.1 h.3
has_room (element.BroadcastsCompleted numbers) value h = counts_fit h.0 numbers h.1 h.3
has_room (element.FailureList entries) value h = omega (arith, h.1, length-AreFailures h.0 entries h.3)
has_room other value h = tt

low_stays : (n octet : ℕ) → n ≡ octet % 16 → n % 16 ≡ n
low_stays n octet is = omega (arith, is)

without_spare : (e : Element) (value : List ℕ) → HasValue e value → plain_element e ≡ e
without_spare (element.Category n) value h = ap (λ (m : ℕ). element.Category m) (low_stays n h.0 h.1)
without_spare (element.BroadcastsCompleted numbers) value h =
    let same = counts_plain h.0 numbers h.3 in λ i. element.BroadcastsCompleted (record { form = numbers.form; entries = same i })
without_spare (element.RecoveryIndication n) value h = ap (λ (m : ℕ). element.RecoveryIndication m) (low_stays n h.0 h.1)
without_spare (element.ChannelIndicator n) value h = ap (λ (m : ℕ). element.ChannelIndicator m) (low_stays n h.0 h.1)
without_spare (element.BroadcastMessageType n) value h = ap (λ (m : ℕ). element.BroadcastMessageType m) (low_stays n h.0 h.1)
without_spare other value h = refl

-- the low four bits of an octet
low_bytes : (n : ℕ) → IsBytes ((n % 16) ∷ [])
low_bytes n = bytes_cons (n % 16) [] (omega arith) bytes_none

-- octets after two of their length
listed_bytes : (listed : List ℕ) → IsBytes listed → IsBytes (bytes_high_first 2 (length listed) ++ listed)
listed_bytes listed bytes = bytes_append (bytes_high_first 2 (length listed)) listed (bytes_two (length listed)) bytes

value_bytes : (e : Element) (value : List ℕ) → IsBytes value → HasValue e value → IsBytes (value_octets e)
value_bytes (element.MessageContent page) value bytes h = subst IsBytes h.2 bytes
value_bytes (element.OldSerialNumber n) value bytes h = bytes_two n
value_bytes (element.NewSerialNumber n) value bytes h = bytes_two n
value_bytes (element.CellList cells) value bytes h =
    listed_bytes (cells_octets cells) (cells_bytes h.0 cells (bytes_back (bytes_high_first 2 (length h.0)) h.0 (subst IsBytes h.2 bytes)) h.3)
value_bytes (element.Category n) value bytes h = low_bytes n
value_bytes (element.RepetitionPeriod n) value bytes h = bytes_two n
value_bytes (element.BroadcastsRequested n) value bytes h = bytes_two n
value_bytes (element.BroadcastsCompleted numbers) value bytes h = listed_bytes (counts_octets numbers) (counts_bytes numbers (counts_range h.0 numbers h.3))
value_bytes (element.FailureList entries) value bytes h = listed_bytes (failures_octets entries) (failures_bytes entries (failures_range h.0 entries h.3))
value_bytes (element.Cause cause) value bytes h = subst IsBytes h bytes
value_bytes (element.DataCodingScheme n) value bytes h = subst IsBytes h bytes
value_bytes (element.RecoveryIndication n) value bytes h = low_bytes n
value_bytes (element.MessageIdentifier n) value bytes h = bytes_two n
value_bytes (element.EmergencyIndicator n) value bytes h = subst IsBytes h bytes
value_bytes (element.WarningType n) value bytes h = bytes_two n
value_bytes (element.WarningSecurity security) value bytes h = subst IsBytes h.1 bytes
value_bytes (element.ChannelIndicator n) value bytes h = low_bytes n
value_bytes (element.NumberOfPages n) value bytes h = subst IsBytes h bytes
value_bytes (element.BroadcastMessageType n) value bytes h = low_bytes n
value_bytes (element.WarningPeriod n) value bytes h = subst IsBytes h bytes

code_low : (which : ElementId) → code_of which < 256
code_low id.MessageContent = omega arith
code_low id.OldSerialNumber = omega arith
code_low id.NewSerialNumber = omega arith
code_low id.CellList = omega arith
code_low id.Category = omega arith
code_low id.RepetitionPeriod = omega arith
code_low id.BroadcastsRequested = omega arith
code_low id.BroadcastsCompleted = omega arith
code_low id.FailureList = omega arith
code_low id.Cause = omega arith
code_low id.DataCodingScheme = omega arith
code_low id.RecoveryIndication = omega arith
code_low id.MessageIdentifier = omega arith
code_low id.EmergencyIndicator = omega arith
code_low id.WarningType = omega arith
code_low id.WarningSecurity = omega arith
code_low id.ChannelIndicator = omega arith
code_low id.NumberOfPages = omega arith
code_low id.BroadcastMessageType = omega arith
code_low id.WarningPeriod = omega arith

element_as_written : (octets : List ℕ) (e : Element) → IsBytes octets → IsElement octets e → StandsAsWritten e
element_as_written octets e bytes is =
    let all : IsBytes (code_of (element_id_of e) ∷ is.value) = subst IsBytes is.parts bytes in
    record {
      range = in_range e is.value is.has_value;
      fits = has_room e is.value is.has_value;
      plain = without_spare e is.value is.has_value;
      octets = bytes_cons (code_of (element_id_of e)) (value_octets e) (code_low (element_id_of e)) (value_bytes e is.value (λ i. all (suc i)) is.has_value);
    }

-- ---- all elements of a body

pub all_as_written : (octets : List ℕ) (es : List Element) → IsBytes octets → AreElements octets es → AllByRecursion StandsAsWritten es
all_as_written octets [] bytes h = tt
all_as_written octets (e ∷ es) bytes h =
    let parts : IsBytes (h.0 ++ h.1) = subst IsBytes h.2 bytes in
    (element_as_written h.0 e (bytes_front h.0 h.1 parts) h.3, all_as_written h.1 es (bytes_back h.0 h.1 parts) h.4)

-- those of them that pass a test
pub some_as_written : (test : Element → Bool) (es : List Element) → AllByRecursion StandsAsWritten es → AllByRecursion StandsAsWritten (filter test es)
some_as_written test [] h = tt
some_as_written test (e ∷ es) h =
    let others = some_as_written test es h.1 in
    elim (test e) as (λ b. AllByRecursion StandsAsWritten (cond b (e ∷ filter test es) (filter test es))) [
      | true ↦ (h.0, others)
      | false ↦ others
    ]

-- their octets
pub elements_bytes : (es : List Element) → AllByRecursion StandsAsWritten es → IsBytes (flat_map element_octets es)
elements_bytes [] h = bytes_none
elements_bytes (e ∷ es) h = bytes_append (element_octets e) (flat_map element_octets es) h.0.octets (elements_bytes es h.1)
