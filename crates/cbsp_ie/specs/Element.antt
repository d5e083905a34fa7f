-- Which octets are read as an information element, and what is wrong with those that are not
-- (3GPP TS 48.049, 8.2).
use Rattle.std.specs.Prelude.{◌≡◌, ℕ, ◌+◌, ◌%◌, ◌<◌, ◌≤◌, ◌⊎◌, List, [], ◌∷◌, ◌++◌, take, drop, length, slice_index, Option, Some, None}
use Rattle.std.specs.Int.{bytes_high_first}
use Rattle.byteorder.specs.Endian.{big_number}
use Rattle.cbsp_ie.specs.declared.element.Element.{Element}
use Rattle.cbsp_ie.specs.declared.element.Element.TheVariants as element
use Rattle.cbsp_ie.specs.declared.element_id.ElementId.{ElementId}
use Rattle.cbsp_ie.specs.declared.element_id.ElementId.TheVariants as element_id
use Rattle.cbsp_ie.specs.declared.extent.Extent.{Extent}
use Rattle.cbsp_ie.specs.declared.extent.Extent.TheVariants as extent
use Rattle.cbsp_ie.specs.declared.ie_fault.IeFault.{IeFault}
use Rattle.cbsp_ie.specs.declared.ie_fault.IeFault.TheVariants as ie
use Rattle.cbsp_ie.specs.CellList.{IsBadCellList, IsCellList}
use Rattle.cbsp_ie.specs.CountList.{IsBadCountList, IsCountList}
use Rattle.cbsp_ie.specs.ElementId.{code_of, extent_of, id_of}
use Rattle.cbsp_ie.specs.FailureList.{AreFailures, IsBadFailureList}
use Rattle.cbsp_ie.specs.Page.{IsPage}

-- which element it is
abbrev pub element_id_of : Element → ElementId
element_id_of (element.MessageContent page) = element_id.MessageContent
element_id_of (element.OldSerialNumber n) = element_id.OldSerialNumber
element_id_of (element.NewSerialNumber n) = element_id.NewSerialNumber
element_id_of (element.CellList cells) = element_id.CellList
element_id_of (element.Category n) = element_id.Category
element_id_of (element.RepetitionPeriod n) = element_id.RepetitionPeriod
element_id_of (element.BroadcastsRequested n) = element_id.BroadcastsRequested
element_id_of (element.BroadcastsCompleted counts) = element_id.BroadcastsCompleted
element_id_of (element.FailureList failures) = element_id.FailureList
element_id_of (element.Cause cause) = element_id.Cause
element_id_of (element.DataCodingScheme n) = element_id.DataCodingScheme
element_id_of (element.RecoveryIndication n) = element_id.RecoveryIndication
element_id_of (element.MessageIdentifier n) = element_id.MessageIdentifier
element_id_of (element.EmergencyIndicator n) = element_id.EmergencyIndicator
element_id_of (element.WarningType n) = element_id.WarningType
element_id_of (element.WarningSecurity octets) = element_id.WarningSecurity
element_id_of (element.ChannelIndicator n) = element_id.ChannelIndicator
element_id_of (element.NumberOfPages n) = element_id.NumberOfPages
element_id_of (element.BroadcastMessageType n) = element_id.BroadcastMessageType
element_id_of (element.WarningPeriod n) = element_id.WarningPeriod

-- the two octets are read as the number, the most significant first
abbrev pub IsTwo : ℕ → List ℕ → Type 0
IsTwo n octets = (n < 65536) × (octets ≡ bytes_high_first 2 n)

-- the one octet is read as the number
abbrev pub IsOne : ℕ → List ℕ → Type 0
IsOne n octets = octets ≡ n ∷ []

-- the low four bits of the octet are read as the number, and the high four are spare
abbrev pub IsLow : ℕ → List ℕ → Type 0
IsLow n octets = (octet : ℕ) × (n ≡ octet % 16) × (octets ≡ octet ∷ [])

-- the octets are two of length, and as many that are read so
abbrev pub IsListed : (List ℕ → Type 0) → List ℕ → Type 0
IsListed reads octets =
    (listed : List ℕ) × (length listed < 65536) × (octets ≡ bytes_high_first 2 (length listed) ++ listed) × reads listed

-- the octets after the one that names the element are read as its value; where four bits are used of
-- an octet, the high four are spare
abbrev pub HasValue : Element → List ℕ → Type 0
HasValue (element.MessageContent page) octets = IsPage octets page
HasValue (element.OldSerialNumber n) octets = IsTwo n octets
HasValue (element.NewSerialNumber n) octets = IsTwo n octets
HasValue (element.CellList cells) octets = IsListed (λ listed. IsCellList listed cells) octets
HasValue (element.Category n) octets = IsLow n octets
HasValue (element.RepetitionPeriod n) octets = IsTwo n octets
HasValue (element.BroadcastsRequested n) octets = IsTwo n octets
HasValue (element.BroadcastsCompleted counts) octets = IsListed (λ listed. IsCountList listed counts) octets
HasValue (element.FailureList failures) octets = IsListed (λ listed. AreFailures listed failures) octets
HasValue (element.Cause cause) octets = IsOne cause.0 octets
HasValue (element.DataCodingScheme n) octets = IsOne n octets
HasValue (element.RecoveryIndication n) octets = IsLow n octets
HasValue (element.MessageIdentifier n) octets = IsTwo n octets
HasValue (element.EmergencyIndicator n) octets = IsOne n octets
HasValue (element.WarningType n) octets = IsTwo n octets
HasValue (element.WarningSecurity security) octets = (length security ≡ 50) × (octets ≡ security)
HasValue (element.ChannelIndicator n) octets = IsLow n octets
HasValue (element.NumberOfPages n) octets = IsOne n octets
HasValue (element.BroadcastMessageType n) octets = IsLow n octets
HasValue (element.WarningPeriod n) octets = IsOne n octets

-- the octets are read as the element, and none of them is left over
pub record IsElement (octets : List ℕ) (e : Element) : Type 0 where
  pub value : List ℕ
  pub parts : octets ≡ code_of (element_id_of e) ∷ value
  pub has_value : HasValue e value

-- there are fewer octets than the value needs
abbrev pub IsShort : Extent → List ℕ → Type 0
IsShort (extent.Fixed size) octets = length octets < size
IsShort extent.Counted octets = (length octets < 2) ⊎ (length octets < 2 + big_number 2 octets)

-- there are as many octets as the value needs
abbrev pub IsWhole : Extent → List ℕ → Type 0
IsWhole (extent.Fixed size) octets = size ≤ length octets
IsWhole extent.Counted octets = (2 ≤ length octets) × (2 + big_number 2 octets ≤ length octets)

-- the value's octets, of a counted one those after its length
abbrev pub content_of : Extent → List ℕ → List ℕ
content_of (extent.Fixed size) octets = take size octets
content_of extent.Counted octets = take (big_number 2 octets) (drop 2 octets)

-- what is wrong with the octets of a value that is whole
abbrev pub IsContentFault : ElementId → List ℕ → IeFault → Type 0
IsContentFault element_id.MessageContent content fault = (82 < slice_index content 0) × (fault ≡ ie.LongPage)
IsContentFault element_id.CellList content fault = IsBadCellList content fault
IsContentFault element_id.BroadcastsCompleted content fault = IsBadCountList content fault
IsContentFault element_id.FailureList content fault = IsBadFailureList content fault
IsContentFault other content fault = ⊥

-- what is wrong with the octets after the one that names the element: first that there are too few
abbrev pub IsValueFault : ElementId → List ℕ → IeFault → Type 0
IsValueFault id octets fault =
    (IsShort (extent_of id) octets × (fault ≡ ie.Cut))
    ⊎ (IsWhole (extent_of id) octets × IsContentFault id (content_of (extent_of id) octets) fault)

-- the same, where an octet may name no element
abbrev pub IsNamedFault : Option ElementId → ℕ → List ℕ → IeFault → Type 0
IsNamedFault None code octets fault = fault ≡ ie.UnknownElement code
IsNamedFault (Some id) code octets fault = IsValueFault id octets fault

-- what is wrong with the element at the front of the octets
abbrev pub IsElementFault : List ℕ → IeFault → Type 0
IsElementFault [] fault = fault ≡ ie.Cut
IsElementFault (code ∷ octets) fault = IsNamedFault (id_of code) code octets fault
