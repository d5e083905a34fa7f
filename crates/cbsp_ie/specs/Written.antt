-- The octets that are written for an information element: spare bits are 0, and an empty list is its
-- discriminator alone (3GPP TS 48.049, 8.2).
use Rattle.std.specs.Prelude.{◌≡◌, ℕ, ◌%◌, ◌<◌, ◌≤◌, List, [], ◌∷◌, ◌++◌, length, map}
use Rattle.std.specs.Int.{bytes_high_first}
use Rattle.std.specs.List.{AllByRecursion, flat_map}
use Rattle.cbsp_ie.specs.declared.count_entry.CountEntry.{CountEntry}
use Rattle.cbsp_ie.specs.declared.element.Element.{Element}
use Rattle.cbsp_ie.specs.declared.element.Element.TheVariants as element
use Rattle.cbsp_ie.specs.declared.fail_entry.FailEntry.{FailEntry}
use Rattle.cbsp_ie.specs.CellId.{form_of, id_octets}
use Rattle.cbsp_ie.specs.Counts.{AreCountsOf, Numbers}
use Rattle.cbsp_ie.specs.Element.{element_id_of}
use Rattle.cbsp_ie.specs.ElementId.{code_of}
use Rattle.cbsp_ie.specs.Failures.{IsFailEntry}
use Rattle.cbsp_ie.specs.Form.{discriminator_of}
use Rattle.cbsp_ie.specs.Identifications.{HasForm, Identifications}

-- a cell list after its length
abbrev pub cells_octets : Identifications → List ℕ
cells_octets cells = discriminator_of cells.form ∷ flat_map id_octets cells.ids

-- an entry of a list of broadcasts completed
abbrev pub count_octets : CountEntry → List ℕ
count_octets e = id_octets e.id ++ (bytes_high_first 2 e.number ++ (e.info % 16) ∷ [])

-- a list of broadcasts completed after its length
abbrev pub counts_octets : Numbers → List ℕ
counts_octets numbers = discriminator_of numbers.form ∷ flat_map count_octets numbers.entries

-- an entry of a failure list
abbrev pub failure_octets : FailEntry → List ℕ
failure_octets e = discriminator_of (form_of e.id) ∷ (id_octets e.id ++ e.cause.0 ∷ [])

-- a failure list after its length
abbrev pub failures_octets : List FailEntry → List ℕ
failures_octets entries = flat_map failure_octets entries

-- octets after two of their length
abbrev pub listed_octets : List ℕ → List ℕ
listed_octets listed = bytes_high_first 2 (length listed) ++ listed

-- the value of an element
abbrev pub value_octets : Element → List ℕ
value_octets (element.MessageContent page) = page.used ∷ page.octets
value_octets (element.OldSerialNumber n) = bytes_high_first 2 n
value_octets (element.NewSerialNumber n) = bytes_high_first 2 n
value_octets (element.CellList cells) = listed_octets (cells_octets cells)
value_octets (element.Category n) = (n % 16) ∷ []
value_octets (element.RepetitionPeriod n) = bytes_high_first 2 n
value_octets (element.BroadcastsRequested n) = bytes_high_first 2 n
value_octets (element.BroadcastsCompleted numbers) = listed_octets (counts_octets numbers)
value_octets (element.FailureList entries) = listed_octets (failures_octets entries)
value_octets (element.Cause cause) = cause.0 ∷ []
value_octets (element.DataCodingScheme n) = n ∷ []
value_octets (element.RecoveryIndication n) = (n % 16) ∷ []
value_octets (element.MessageIdentifier n) = bytes_high_first 2 n
value_octets (element.EmergencyIndicator n) = n ∷ []
value_octets (element.WarningType n) = bytes_high_first 2 n
value_octets (element.WarningSecurity security) = security
value_octets (element.ChannelIndicator n) = (n % 16) ∷ []
value_octets (element.NumberOfPages n) = n ∷ []
value_octets (element.BroadcastMessageType n) = (n % 16) ∷ []
value_octets (element.WarningPeriod n) = n ∷ []

-- an element
abbrev pub element_octets : Element → List ℕ
element_octets e = code_of (element_id_of e) ∷ value_octets e

-- a list has so few octets after its length that the length can say how many
abbrev pub FitsElement : Element → Type 0
FitsElement (element.CellList cells) = length (cells_octets cells) < 65536
FitsElement (element.BroadcastsCompleted numbers) = length (counts_octets numbers) < 65536
FitsElement (element.FailureList entries) = length (failures_octets entries) < 65536
FitsElement other = Unit {0}

-- the numbers of the element are in the ranges that its octets have
abbrev pub IsInRange : Element → Type 0
IsInRange (element.MessageContent page) = (page.used ≤ 82) × (length page.octets ≡ 82)
IsInRange (element.OldSerialNumber n) = n < 65536
IsInRange (element.NewSerialNumber n) = n < 65536
IsInRange (element.CellList cells) = HasForm cells.form cells.ids
IsInRange (element.RepetitionPeriod n) = n < 65536
IsInRange (element.BroadcastsRequested n) = n < 65536
IsInRange (element.BroadcastsCompleted numbers) = AreCountsOf numbers.form numbers.entries
IsInRange (element.FailureList entries) = AllByRecursion IsFailEntry entries
IsInRange (element.MessageIdentifier n) = n < 65536
IsInRange (element.WarningType n) = n < 65536
IsInRange (element.WarningSecurity security) = length security ≡ 50
IsInRange other = Unit {0}

-- the entry without the spare bits of its info
abbrev pub plain_count : CountEntry → CountEntry
plain_count e = record e { info = e.info % 16 }

-- the list without the spare bits of its infos
abbrev pub plain_counts : Numbers → Numbers
plain_counts numbers = record { form = numbers.form; entries = map plain_count numbers.entries }

-- the element without spare bits
abbrev pub plain_element : Element → Element
plain_element (element.Category n) = element.Category (n % 16)
plain_element (element.BroadcastsCompleted numbers) = element.BroadcastsCompleted (plain_counts numbers)
plain_element (element.RecoveryIndication n) = element.RecoveryIndication (n % 16)
plain_element (element.ChannelIndicator n) = element.ChannelIndicator (n % 16)
plain_element (element.BroadcastMessageType n) = element.BroadcastMessageType (n % 16)
plain_element other = other
