-- What is written for an element is read as it, without its spare bits.
use Rattle.std.proofs.Common.{◌≡◌, ℕ, ◌%◌, List, [], ◌∷◌, map, Some, refl, arith}
use Rattle.std.specs.List.{AllByRecursion, flat_map}
use Rattle.cbsp_ie.specs.declared.count_entry.CountEntry.{CountEntry}
use Rattle.cbsp_ie.specs.declared.element.Element.TheVariants as element
use Rattle.cbsp_ie.specs.declared.fail_entry.FailEntry.{FailEntry}
use Rattle.cbsp_ie.specs.declared.form.Form.{Form}
use Rattle.cbsp_ie.specs.declared.form.Form.TheVariants as form
use Rattle.cbsp_ie.specs.CellId.{form_of}
use Rattle.cbsp_ie.specs.CountList.{AreCounts}
use Rattle.cbsp_ie.specs.Counts.{AreCountsOf}
use Rattle.cbsp_ie.specs.FailureList.{AreFailures}
use Rattle.cbsp_ie.specs.Failures.{IsFailEntry}
use Rattle.cbsp_ie.specs.Form.{discriminator_of, form_with}
use Rattle.cbsp_ie.specs.Laws.{WrittenIsRead}
use Rattle.cbsp_ie.specs.Written.{cells_octets, count_octets, counts_octets, failure_octets, failures_octets, plain_count, value_octets}

form_with-discriminator_of : (f : Form) → form_with (discriminator_of f % 16) ≡ Some f
form_with-discriminator_of form.Global = refl
form_with-discriminator_of form.LacCi = refl
form_with-discriminator_of form.Ci = refl
form_with-discriminator_of form.Lai = refl
form_with-discriminator_of form.Lac = refl
form_with-discriminator_of form.All = refl

low_stays : (n : ℕ) → n % 16 ≡ n % 16 % 16
low_stays n = omega arith

pub AreCounts-written : (es : List CountEntry) → AreCounts (flat_map count_octets es) (map plain_count es)
AreCounts-written [] = refl
AreCounts-written (e ∷ es) = (count_octets e, flat_map count_octets es, refl, (e.info % 16, low_stays e.info, refl), AreCounts-written es)

pub AreCountsOf-plain : (f : Form) (es : List CountEntry) → AreCountsOf f es → AreCountsOf f (map plain_count es)
AreCountsOf-plain f [] h = tt
AreCountsOf-plain f (e ∷ es) h = ((h.0.0, (h.0.1.0, h.0.1.1, omega arith)), AreCountsOf-plain f es h.1)

pub AreFailures-written : (es : List FailEntry) → AllByRecursion IsFailEntry es → AreFailures (failures_octets es) es
AreFailures-written [] h = refl
AreFailures-written (e ∷ es) h =
    (failure_octets e, failures_octets es, refl, (discriminator_of (form_of e.id), form_with-discriminator_of (form_of e.id), h.0, refl), AreFailures-written es h.1)

pub written_is_read_lem : WrittenIsRead
written_is_read_lem (element.MessageContent page) h fits = record { value = value_octets (element.MessageContent page); parts = refl; has_value = (h.0, h.1, refl) }
written_is_read_lem (element.OldSerialNumber n) h fits = record { value = value_octets (element.OldSerialNumber n); parts = refl; has_value = (h, refl) }
written_is_read_lem (element.NewSerialNumber n) h fits = record { value = value_octets (element.NewSerialNumber n); parts = refl; has_value = (h, refl) }
written_is_read_lem (element.CellList cells) h fits = record { value = value_octets (element.CellList cells); parts = refl; has_value = (cells_octets cells, fits, refl, (form_with-discriminator_of cells.form, h, refl)) }
written_is_read_lem (element.Category n) h fits = record { value = value_octets (element.Category n); parts = refl; has_value = (n % 16, low_stays n, refl) }
written_is_read_lem (element.RepetitionPeriod n) h fits = record { value = value_octets (element.RepetitionPeriod n); parts = refl; has_value = (h, refl) }
written_is_read_lem (element.BroadcastsRequested n) h fits = record { value = value_octets (element.BroadcastsRequested n); parts = refl; has_value = (h, refl) }
written_is_read_lem (element.BroadcastsCompleted numbers) h fits = record { value = value_octets (element.BroadcastsCompleted numbers); parts = refl; has_value = (counts_octets numbers, fits, refl, (form_with-discriminator_of numbers.form, AreCountsOf-plain numbers.form numbers.entries h, AreCounts-written numbers.entries)) }
written_is_read_lem (element.FailureList entries) h fits = record { value = value_octets (element.FailureList entries); parts = refl; has_value = (failures_octets entries, fits, refl, AreFailures-written entries h) }
written_is_read_lem (element.Cause cause) h fits = record { value = value_octets (element.Cause cause); parts = refl; has_value = refl }
written_is_read_lem (element.DataCodingScheme n) h fits = record { value = value_octets (element.DataCodingScheme n); parts = refl; has_value = refl }
written_is_read_lem (element.RecoveryIndication n) h fits = record { value = value_octets (element.RecoveryIndication n); parts = refl; has_value = (n % 16, low_stays n, refl) }
written_is_read_lem (element.MessageIdentifier n) h fits = record { value = value_octets (element.MessageIdentifier n); parts = refl; has_value = (h, refl) }
written_is_read_lem (element.EmergencyIndicator n) h fits = record { value = value_octets (element.EmergencyIndicator n); parts = refl; has_value = refl }
written_is_read_lem (element.WarningType n) h fits = record { value = value_octets (element.WarningType n); parts = refl; has_value = (h, refl) }
written_is_read_lem (element.WarningSecurity security) h fits = record { value = value_octets (element.WarningSecurity security); parts = refl; has_value = (h, refl) }
written_is_read_lem (element.ChannelIndicator n) h fits = record { value = value_octets (element.ChannelIndicator n); parts = refl; has_value = (n % 16, low_stays n, refl) }
written_is_read_lem (element.NumberOfPages n) h fits = record { value = value_octets (element.NumberOfPages n); parts = refl; has_value = refl }
written_is_read_lem (element.BroadcastMessageType n) h fits = record { value = value_octets (element.BroadcastMessageType n); parts = refl; has_value = (n % 16, low_stays n, refl) }
written_is_read_lem (element.WarningPeriod n) h fits = record { value = value_octets (element.WarningPeriod n); parts = refl; has_value = refl }
