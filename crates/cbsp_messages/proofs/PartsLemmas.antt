-- The elements of parts by their identifiers.
use Rattle.std.proofs.Common.{◌≡◌, ◌≢◌, ◌≤◌, ◌==◌, true, false, not, List, [], ◌∷◌, ◌++◌, length, map, Option, Some, None, refl, sym, ap, arith}
use Rattle.std.specs.Prelude.{is_some}
use Rattle.std.proofs.lemmas.List.{append-nil, map-append, length-map}
use Rattle.cbsp_ie.specs.declared.element.Element.{Element}
use Rattle.cbsp_ie.specs.declared.element.Element.TheVariants as element
use Rattle.cbsp_ie.specs.declared.element_id.ElementId.{ElementId}
use Rattle.cbsp_ie.specs.declared.element_id.ElementId.TheVariants as id
use Rattle.cbsp_ie.specs.Element.{element_id_of}
use Rattle.cbsp_ie.specs.Page.{PageContent}
use Rattle.cbsp_messages.specs.Parts.{Parts, no_parts, one_of, values_at, is_there, with_element}
use Rattle.cbsp_messages.proofs.ElementsLemmas.{only}

one_of-once : {A : Type 0} (make : A → Element) (o : Option A) → length (one_of make o) ≤ 1
one_of-once make None = omega arith
one_of-once make (Some value) = omega arith

-- what is put in an empty place
one_of-fresh : {A : Type 0} (make : A → Element) (o : Option A) (e : Element) → is_some o ≡ false → e ∷ [] ≡ one_of make o ++ e ∷ []
one_of-fresh make None e h = refl
one_of-fresh make (Some value) e h = absurd (let e : true ≡ false = h in cc)

one_of-there : {A : Type 0} (make : A → Element) (o : Option A) → is_some o ≡ not (length (one_of make o) == 0)
one_of-there make None = refl
one_of-there make (Some value) = refl

pages-there : (make : PageContent → Element) (pages : List PageContent) → not (length pages == 0) ≡ not (length (map make pages) == 0)
pages-there make pages = ap (λ n. not (n == 0)) (sym (length-map pages make))

-- no identifier but that of a page has two elements
pub values_at-once : (parts : Parts) (which : ElementId) → which ≢ id.MessageContent → length (values_at parts which) ≤ 1
values_at-once parts id.MessageContent h = absurd (h refl)
values_at-once parts id.OldSerialNumber h = one_of-once (λ n. element.OldSerialNumber n) parts.old_serial
values_at-once parts id.NewSerialNumber h = one_of-once (λ n. element.NewSerialNumber n) parts.new_serial
values_at-once parts id.CellList h = one_of-once (λ cells. element.CellList cells) parts.cells
values_at-once parts id.Category h = one_of-once (λ n. element.Category n) parts.category
values_at-once parts id.RepetitionPeriod h = one_of-once (λ n. element.RepetitionPeriod n) parts.period
values_at-once parts id.BroadcastsRequested h = one_of-once (λ n. element.BroadcastsRequested n) parts.requested
values_at-once parts id.BroadcastsCompleted h = one_of-once (λ counts. element.BroadcastsCompleted counts) parts.counts
values_at-once parts id.FailureList h = one_of-once (λ failures. element.FailureList failures) parts.failures
values_at-once parts id.Cause h = one_of-once (λ cause. element.Cause cause) parts.cause
values_at-once parts id.DataCodingScheme h = one_of-once (λ n. element.DataCodingScheme n) parts.dcs
values_at-once parts id.RecoveryIndication h = one_of-once (λ n. element.RecoveryIndication n) parts.recovery
values_at-once parts id.MessageIdentifier h = one_of-once (λ n. element.MessageIdentifier n) parts.message_id
values_at-once parts id.EmergencyIndicator h = one_of-once (λ n. element.EmergencyIndicator n) parts.emergency
values_at-once parts id.WarningType h = one_of-once (λ n. element.WarningType n) parts.warning_type
values_at-once parts id.WarningSecurity h = one_of-once (λ octets. element.WarningSecurity octets) parts.security
values_at-once parts id.ChannelIndicator h = one_of-once (λ n. element.ChannelIndicator n) parts.channel
values_at-once parts id.NumberOfPages h = one_of-once (λ n. element.NumberOfPages n) parts.page_count
values_at-once parts id.BroadcastMessageType h = one_of-once (λ n. element.BroadcastMessageType n) parts.kind
values_at-once parts id.WarningPeriod h = one_of-once (λ n. element.WarningPeriod n) parts.warning_period

-- is_there tells whether there are values
pub is_there-values : (parts : Parts) (which : ElementId) → is_there parts which ≡ not (length (values_at parts which) == 0)
is_there-values parts id.MessageContent = pages-there (λ page. element.MessageContent page) parts.pages
is_there-values parts id.OldSerialNumber = one_of-there (λ n. element.OldSerialNumber n) parts.old_serial
is_there-values parts id.NewSerialNumber = one_of-there (λ n. element.NewSerialNumber n) parts.new_serial
is_there-values parts id.CellList = one_of-there (λ cells. element.CellList cells) parts.cells
is_there-values parts id.Category = one_of-there (λ n. element.Category n) parts.category
is_there-values parts id.RepetitionPeriod = one_of-there (λ n. element.RepetitionPeriod n) parts.period
is_there-values parts id.BroadcastsRequested = one_of-there (λ n. element.BroadcastsRequested n) parts.requested
is_there-values parts id.BroadcastsCompleted = one_of-there (λ counts. element.BroadcastsCompleted counts) parts.counts
is_there-values parts id.FailureList = one_of-there (λ failures. element.FailureList failures) parts.failures
is_there-values parts id.Cause = one_of-there (λ cause. element.Cause cause) parts.cause
is_there-values parts id.DataCodingScheme = one_of-there (λ n. element.DataCodingScheme n) parts.dcs
is_there-values parts id.RecoveryIndication = one_of-there (λ n. element.RecoveryIndication n) parts.recovery
is_there-values parts id.MessageIdentifier = one_of-there (λ n. element.MessageIdentifier n) parts.message_id
is_there-values parts id.EmergencyIndicator = one_of-there (λ n. element.EmergencyIndicator n) parts.emergency
is_there-values parts id.WarningType = one_of-there (λ n. element.WarningType n) parts.warning_type
is_there-values parts id.WarningSecurity = one_of-there (λ octets. element.WarningSecurity octets) parts.security
is_there-values parts id.ChannelIndicator = one_of-there (λ n. element.ChannelIndicator n) parts.channel
is_there-values parts id.NumberOfPages = one_of-there (λ n. element.NumberOfPages n) parts.page_count
is_there-values parts id.BroadcastMessageType = one_of-there (λ n. element.BroadcastMessageType n) parts.kind
is_there-values parts id.WarningPeriod = one_of-there (λ n. element.WarningPeriod n) parts.warning_period

-- an element that is put in stands behind the others of its identifier
pub values_at-put : (parts : Parts) (e : Element) (which : ElementId) → (element_id_of e ≢ id.MessageContent → is_there parts (element_id_of e) ≡ false)
    → values_at (with_element parts e) which ≡ values_at parts which ++ only which e
values_at-put parts (element.MessageContent page) id.MessageContent h = map-append (λ page. element.MessageContent page) parts.pages (page ∷ [])
values_at-put parts (element.MessageContent page) which h = sym (append-nil _)
values_at-put parts (element.OldSerialNumber n) id.OldSerialNumber h = one_of-fresh (λ n. element.OldSerialNumber n) parts.old_serial (element.OldSerialNumber n) (h (λ e. absurd cc))
values_at-put parts (element.OldSerialNumber n) which h = sym (append-nil _)
values_at-put parts (element.NewSerialNumber n) id.NewSerialNumber h = one_of-fresh (λ n. element.NewSerialNumber n) parts.new_serial (element.NewSerialNumber n) (h (λ e. absurd cc))
values_at-put parts (element.NewSerialNumber n) which h = sym (append-nil _)
values_at-put parts (element.CellList cells) id.CellList h = one_of-fresh (λ cells. element.CellList cells) parts.cells (element.CellList cells) (h (λ e. absurd cc))
values_at-put parts (element.CellList cells) which h = sym (append-nil _)
values_at-put parts (element.Category n) id.Category h = one_of-fresh (λ n. element.Category n) parts.category (element.Category n) (h (λ e. absurd cc))
values_at-put parts (element.Category n) which h = sym (append-nil _)
values_at-put parts (element.RepetitionPeriod n) id.RepetitionPeriod h = one_of-fresh (λ n. element.RepetitionPeriod n) parts.period (element.RepetitionPeriod n) (h (λ e. absurd cc))
values_at-put parts (element.RepetitionPeriod n) which h = sym (append-nil _)
values_at-put parts (element.BroadcastsRequested n) id.BroadcastsRequested h = one_of-fresh (λ n. element.BroadcastsRequested n) parts.requested (element.BroadcastsRequested n) (h (λ e. absurd cc))
values_at-put parts (element.BroadcastsRequested n) which h = sym (append-nil _)
values_at-put parts (element.BroadcastsCompleted counts) id.BroadcastsCompleted h = one_of-fresh (λ counts. element.BroadcastsCompleted counts) parts.counts (element.BroadcastsCompleted counts) (h (λ e. absurd cc))
values_at-put parts (element.BroadcastsCompleted counts) which h = sym (append-nil _)
values_at-put parts (element.FailureList failures) id.FailureList h = one_of-fresh (λ failures. element.FailureList failures) parts.failures (element.FailureList failures) (h (λ e. absurd cc))
values_at-put parts (element.FailureList failures) which h = sym (append-nil _)
values_at-put parts (element.Cause cause) id.Cause h = one_of-fresh (λ cause. element.Cause cause) parts.cause (element.Cause cause) (h (λ e. absurd cc))
values_at-put parts (element.Cause cause) which h = sym (append-nil _)
values_at-put parts (element.DataCodingScheme n) id.DataCodingScheme h = one_of-fresh (λ n. element.DataCodingScheme n) parts.dcs (element.DataCodingScheme n) (h (λ e. absurd cc))
values_at-put parts (element.DataCodingScheme n) which h = sym (append-nil _)
values_at-put parts (element.RecoveryIndication n) id.RecoveryIndication h = one_of-fresh (λ n. element.RecoveryIndication n) parts.recovery (element.RecoveryIndication n) (h (λ e. absurd cc))
values_at-put parts (element.RecoveryIndication n) which h = sym (append-nil _)
values_at-put parts (element.MessageIdentifier n) id.MessageIdentifier h = one_of-fresh (λ n. element.MessageIdentifier n) parts.message_id (element.MessageIdentifier n) (h (λ e. absurd cc))
values_at-put parts (element.MessageIdentifier n) which h = sym (append-nil _)
values_at-put parts (element.EmergencyIndicator n) id.EmergencyIndicator h = one_of-fresh (λ n. element.EmergencyIndicator n) parts.emergency (element.EmergencyIndicator n) (h (λ e. absurd cc))
values_at-put parts (element.EmergencyIndicator n) which h = sym (append-nil _)
values_at-put parts (element.WarningType n) id.WarningType h = one_of-fresh (λ n. element.WarningType n) parts.warning_type (element.WarningType n) (h (λ e. absurd cc))
values_at-put parts (element.WarningType n) which h = sym (append-nil _)
values_at-put parts (element.WarningSecurity octets) id.WarningSecurity h = one_of-fresh (λ octets. element.WarningSecurity octets) parts.security (element.WarningSecurity octets) (h (λ e. absurd cc))
values_at-put parts (element.WarningSecurity octets) which h = sym (append-nil _)
values_at-put parts (element.ChannelIndicator n) id.ChannelIndicator h = one_of-fresh (λ n. element.ChannelIndicator n) parts.channel (element.ChannelIndicator n) (h (λ e. absurd cc))
values_at-put parts (element.ChannelIndicator n) which h = sym (append-nil _)
values_at-put parts (element.NumberOfPages n) id.NumberOfPages h = one_of-fresh (λ n. element.NumberOfPages n) parts.page_count (element.NumberOfPages n) (h (λ e. absurd cc))
values_at-put parts (element.NumberOfPages n) which h = sym (append-nil _)
values_at-put parts (element.BroadcastMessageType n) id.BroadcastMessageType h = one_of-fresh (λ n. element.BroadcastMessageType n) parts.kind (element.BroadcastMessageType n) (h (λ e. absurd cc))
values_at-put parts (element.BroadcastMessageType n) which h = sym (append-nil _)
values_at-put parts (element.WarningPeriod n) id.WarningPeriod h = one_of-fresh (λ n. element.WarningPeriod n) parts.warning_period (element.WarningPeriod n) (h (λ e. absurd cc))
values_at-put parts (element.WarningPeriod n) which h = sym (append-nil _)

pub values_at-none : (which : ElementId) → values_at no_parts which ≡ []
values_at-none id.MessageContent = refl
values_at-none id.OldSerialNumber = refl
values_at-none id.NewSerialNumber = refl
values_at-none id.CellList = refl
values_at-none id.Category = refl
values_at-none id.RepetitionPeriod = refl
values_at-none id.BroadcastsRequested = refl
values_at-none id.BroadcastsCompleted = refl
values_at-none id.FailureList = refl
values_at-none id.Cause = refl
values_at-none id.DataCodingScheme = refl
values_at-none id.RecoveryIndication = refl
values_at-none id.MessageIdentifier = refl
values_at-none id.EmergencyIndicator = refl
values_at-none id.WarningType = refl
values_at-none id.WarningSecurity = refl
values_at-none id.ChannelIndicator = refl
values_at-none id.NumberOfPages = refl
values_at-none id.BroadcastMessageType = refl
values_at-none id.WarningPeriod = refl
