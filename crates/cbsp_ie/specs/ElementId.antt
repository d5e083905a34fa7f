-- The information elements, by the octet that names each (3GPP TS 48.049, 8.2.1), and their lengths.
use Rattle.std.specs.Prelude.{◌≡◌, ℕ, ◌==◌, List, [], ◌∷◌, Option, Some, None, Result, MatchResult}
use Rattle.std.specs.List.{find}
use Rattle.cbsp_ie.specs.declared.element_id.ElementId.{ElementId}
use Rattle.cbsp_ie.specs.declared.element_id.ElementId.TheVariants.{MessageContent, OldSerialNumber, NewSerialNumber, CellList, Category, RepetitionPeriod, BroadcastsRequested, BroadcastsCompleted, FailureList, Cause, DataCodingScheme, RecoveryIndication, MessageIdentifier, EmergencyIndicator, WarningType, WarningSecurity, ChannelIndicator, NumberOfPages, BroadcastMessageType, WarningPeriod}
use Rattle.cbsp_ie.specs.declared.element_id.UnknownElementId.{UnknownElementId}
use Rattle.cbsp_ie.specs.declared.extent.Extent.{Extent}
use Rattle.cbsp_ie.specs.declared.extent.Extent.TheVariants.{Fixed, Counted}

-- the octet that names the element
abbrev pub code_of : ElementId → ℕ
code_of MessageContent = 0x01
code_of OldSerialNumber = 0x02
code_of NewSerialNumber = 0x03
code_of CellList = 0x04
code_of Category = 0x05
code_of RepetitionPeriod = 0x06
code_of BroadcastsRequested = 0x07
code_of BroadcastsCompleted = 0x08
code_of FailureList = 0x09
code_of Cause = 0x0b
code_of DataCodingScheme = 0x0c
code_of RecoveryIndication = 0x0d
code_of MessageIdentifier = 0x0e
code_of EmergencyIndicator = 0x0f
code_of WarningType = 0x10
code_of WarningSecurity = 0x11
code_of ChannelIndicator = 0x12
code_of NumberOfPages = 0x13
code_of BroadcastMessageType = 0x16
code_of WarningPeriod = 0x17

-- every element, in the order of the octets
abbrev pub element_ids : List ElementId
element_ids =
    MessageContent ∷ OldSerialNumber ∷ NewSerialNumber ∷ CellList ∷ Category ∷ RepetitionPeriod ∷ BroadcastsRequested ∷ BroadcastsCompleted ∷ FailureList ∷ Cause ∷ DataCodingScheme ∷ RecoveryIndication ∷ MessageIdentifier ∷ EmergencyIndicator ∷ WarningType ∷ WarningSecurity ∷ ChannelIndicator ∷ NumberOfPages ∷ BroadcastMessageType ∷ WarningPeriod ∷ []

-- the element that the octet names
abbrev pub id_of : ℕ → Option ElementId
id_of code = find (λ id. code_of id == code) element_ids

-- the answer is that element, or the octet where it names none
abbrev pub NamesElement : ℕ → Result ElementId UnknownElementId → Type 0
NamesElement code r = MatchResult r (λ id. id_of code ≡ Some id) (λ e. (e.0 ≡ code) × (id_of code ≡ None))

-- how many octets follow the one that names the element: a number, or a length and so many octets
abbrev pub extent_of : ElementId → Extent
extent_of MessageContent = Fixed 83
extent_of OldSerialNumber = Fixed 2
extent_of NewSerialNumber = Fixed 2
extent_of CellList = Counted
extent_of Category = Fixed 1
extent_of RepetitionPeriod = Fixed 2
extent_of BroadcastsRequested = Fixed 2
extent_of BroadcastsCompleted = Counted
extent_of FailureList = Counted
extent_of Cause = Fixed 1
extent_of DataCodingScheme = Fixed 1
extent_of RecoveryIndication = Fixed 1
extent_of MessageIdentifier = Fixed 2
extent_of EmergencyIndicator = Fixed 1
extent_of WarningType = Fixed 2
extent_of WarningSecurity = Fixed 50
extent_of ChannelIndicator = Fixed 1
extent_of NumberOfPages = Fixed 1
extent_of BroadcastMessageType = Fixed 1
extent_of WarningPeriod = Fixed 1
