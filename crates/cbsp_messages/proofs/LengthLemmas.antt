-- What is written of a message that fits is short enough to be read.
use Rattle.std.proofs.Common.{◌≡◌, ℕ, ◌+◌, ◌*◌, ◌<◌, ◌≤◌, List, [], ◌∷◌, length, map, Option, Some, None, refl, ap, arith, length-append}
use Rattle.std.specs.Prelude.{IfSome}
use Rattle.std.specs.List.{AllByRecursion, flat_map}
use Rattle.std.proofs.lemmas.List.{append-nil}
use Rattle.cbsp_ie.specs.declared.element.Element.{Element}
use Rattle.cbsp_ie.specs.declared.element.Element.TheVariants as element
use Rattle.cbsp_ie.specs.declared.element_id.ElementId.{ElementId}
use Rattle.cbsp_ie.specs.declared.element_id.ElementId.TheVariants as id
use Rattle.cbsp_ie.specs.ElementId.{code_of}
use Rattle.cbsp_ie.specs.Frame.{longest_body}
use Rattle.cbsp_ie.specs.Page.{PageContent}
use Rattle.cbsp_ie.specs.Written.{cells_octets, counts_octets, element_octets, failures_octets, listed_octets}
use Rattle.cbsp_messages.specs.declared.message.Message.{Message}
use Rattle.cbsp_messages.specs.declared.message.Message.TheVariants as message
use Rattle.cbsp_messages.specs.declared.layout.Layout.{Layout}
use Rattle.cbsp_messages.specs.declared.layout.Layout.TheVariants as layout
use Rattle.cbsp_messages.specs.Layout.{written_of}
use Rattle.cbsp_messages.specs.Message.{layout_of}
use Rattle.cbsp_messages.specs.Parts.{Parts, one_of, page_element, parts_of}
use Rattle.cbsp_messages.specs.Ranged.{AreInRange}
use Rattle.cbsp_messages.specs.Spelling.{HasPages}
use Rattle.cbsp_messages.specs.Written.{Fits, octets_at, written}

-- ---- the elements with one identifier

-- an element that may be there has so many octets at most, where its value says so
one_short : {A : Type 0} (make : A → Element) (P : A → Type 0) (n : ℕ) → ((x : A) → P x → length (element_octets (make x)) ≤ n) → (o : Option A) → IfSome o P → length (flat_map element_octets (one_of make o)) ≤ n
one_short make P n short None h = omega arith
one_short make P n short (Some x) h =
    let here : length (element_octets (make x)) ≤ n = short x h in
    omega (arith, ap length (append-nil (element_octets (make x))))

-- the same of an element that always has as many
any_short : {A : Type 0} (make : A → Element) (n : ℕ) → ((x : A) → length (element_octets (make x)) ≤ n) → (o : Option A) → length (flat_map element_octets (one_of make o)) ≤ n
any_short make n short None = omega arith
any_short make n short (Some x) =
    let here : length (element_octets (make x)) ≤ n = short x in
    omega (arith, ap length (append-nil (element_octets (make x))))

-- a list after its identifier and its length
listed_short : (which : ℕ) (listed : List ℕ) → length listed < 65536 → length (which ∷ listed_octets listed) ≤ 65538
listed_short which listed h = omega arith

pages_length : (pages : List PageContent) → AllByRecursion (λ page. length page.octets ≡ 82) pages → length (flat_map element_octets (map page_element pages)) ≡ length pages * 84
pages_length [] h = refl
pages_length (page ∷ pages) h =
    let rest : length (flat_map element_octets (map page_element pages)) ≡ length pages * 84 = pages_length pages h.1 in
    let here : length page.octets ≡ 82 = h.0 in
    omega (arith, length-append (element_octets (page_element page)) (flat_map element_octets (map page_element pages)))

few_pages : (m : Message) → HasPages m → length (parts_of m).pages ≤ 15
few_pages (message.WriteReplace m) h = h.1
few_pages (message.WriteEmergency m) h = omega arith
few_pages (message.WriteComplete m) h = omega arith
few_pages (message.WriteFailure m) h = omega arith
few_pages (message.Kill m) h = omega arith
few_pages (message.KillComplete m) h = omega arith
few_pages (message.KillFailure m) h = omega arith
few_pages (message.StatusQuery m) h = omega arith
few_pages (message.StatusComplete m) h = omega arith
few_pages (message.StatusFailure m) h = omega arith
few_pages (message.Restart m) h = omega arith
few_pages (message.Failure m) h = omega arith
few_pages (message.ErrorIndication m) h = omega arith

-- the most octets that the elements with an identifier have
abbrev most_at : ElementId → ℕ
most_at id.MessageContent = 1260
most_at id.CellList = 65538
most_at id.BroadcastsCompleted = 65538
most_at id.FailureList = 65538
most_at id.WarningSecurity = 51
most_at other = 3

-- what of the parts bounds their octets
record AreShort (parts : Parts) : Type 0 where
  pages : length parts.pages ≤ 15
  whole : AllByRecursion (λ page. length page.octets ≡ 82) parts.pages
  cells : IfSome parts.cells (λ cells. length (cells_octets cells) < 65536)
  counts : IfSome parts.counts (λ counts. length (counts_octets counts) < 65536)
  failures : IfSome parts.failures (λ failures. length (failures_octets failures) < 65536)
  security : IfSome parts.security (λ octets. length octets ≡ 50)

at_most : (parts : Parts) → AreShort parts → (which : ElementId) → length (octets_at parts which) ≤ most_at which
at_most parts h id.MessageContent = let few = h.pages in omega (arith, pages_length parts.pages h.whole)
at_most parts h id.OldSerialNumber = any_short (λ n. element.OldSerialNumber n) 3 (λ n. omega arith) parts.old_serial
at_most parts h id.NewSerialNumber = any_short (λ n. element.NewSerialNumber n) 3 (λ n. omega arith) parts.new_serial
at_most parts h id.CellList = one_short (λ cells. element.CellList cells) (λ cells. length (cells_octets cells) < 65536) 65538 (λ cells k. listed_short (code_of id.CellList) (cells_octets cells) k) parts.cells h.cells
at_most parts h id.Category = any_short (λ n. element.Category n) 3 (λ n. omega arith) parts.category
at_most parts h id.RepetitionPeriod = any_short (λ n. element.RepetitionPeriod n) 3 (λ n. omega arith) parts.period
at_most parts h id.BroadcastsRequested = any_short (λ n. element.BroadcastsRequested n) 3 (λ n. omega arith) parts.requested
at_most parts h id.BroadcastsCompleted = one_short (λ counts. element.BroadcastsCompleted counts) (λ counts. length (counts_octets counts) < 65536) 65538 (λ counts k. listed_short (code_of id.BroadcastsCompleted) (counts_octets counts) k) parts.counts h.counts
at_most parts h id.FailureList = one_short (λ failures. element.FailureList failures) (λ failures. length (failures_octets failures) < 65536) 65538 (λ failures k. listed_short (code_of id.FailureList) (failures_octets failures) k) parts.failures h.failures
at_most parts h id.Cause = any_short (λ cause. element.Cause cause) 3 (λ cause. omega arith) parts.cause
at_most parts h id.DataCodingScheme = any_short (λ n. element.DataCodingScheme n) 3 (λ n. omega arith) parts.dcs
at_most parts h id.RecoveryIndication = any_short (λ n. element.RecoveryIndication n) 3 (λ n. omega arith) parts.recovery
at_most parts h id.MessageIdentifier = any_short (λ n. element.MessageIdentifier n) 3 (λ n. omega arith) parts.message_id
at_most parts h id.EmergencyIndicator = any_short (λ n. element.EmergencyIndicator n) 3 (λ n. omega arith) parts.emergency
at_most parts h id.WarningType = any_short (λ n. element.WarningType n) 3 (λ n. omega arith) parts.warning_type
at_most parts h id.WarningSecurity = one_short (λ octets. element.WarningSecurity octets) (λ octets. length octets ≡ 50) 51 (λ octets k. omega (arith, k)) parts.security h.security
at_most parts h id.ChannelIndicator = any_short (λ n. element.ChannelIndicator n) 3 (λ n. omega arith) parts.channel
at_most parts h id.NumberOfPages = any_short (λ n. element.NumberOfPages n) 3 (λ n. omega arith) parts.page_count
at_most parts h id.BroadcastMessageType = any_short (λ n. element.BroadcastMessageType n) 3 (λ n. omega arith) parts.kind
at_most parts h id.WarningPeriod = any_short (λ n. element.WarningPeriod n) 3 (λ n. omega arith) parts.warning_period

-- ---- the body

abbrev most_of : List ElementId → ℕ
most_of [] = 0
most_of (which ∷ ids) = most_at which + most_of ids

all_short : (parts : Parts) → AreShort parts → (ids : List ElementId) → length (flat_map (octets_at parts) ids) ≤ most_of ids
all_short parts h [] = omega arith
all_short parts h (which ∷ ids) =
    let here : length (octets_at parts which) ≤ most_at which = at_most parts h which in
    let rest : length (flat_map (octets_at parts) ids) ≤ most_of ids = all_short parts h ids in
    omega (arith, length-append (octets_at parts which) (flat_map (octets_at parts) ids))

layout_short : (l : Layout) → most_of (written_of l) ≤ longest_body
layout_short layout.WriteReplace = omega arith
layout_short layout.WriteEmergency = omega arith
layout_short layout.WriteComplete = omega arith
layout_short layout.WriteFailure = omega arith
layout_short layout.Kill = omega arith
layout_short layout.KillComplete = omega arith
layout_short layout.KillFailure = omega arith
layout_short layout.StatusQuery = omega arith
layout_short layout.StatusComplete = omega arith
layout_short layout.StatusFailure = omega arith
layout_short layout.Restart = omega arith
layout_short layout.Failure = omega arith
layout_short layout.ErrorIndication = omega arith

pub short_body : (m : Message) → AreInRange (parts_of m) → Fits m → length (written m) ≤ longest_body
short_body m ranges fits =
    let short : AreShort (parts_of m) = record { pages = few_pages m fits.pages; whole = ranges.pages; cells = fits.cells; counts = fits.counts; failures = fits.failures; security = ranges.security } in
    let all : length (written m) ≤ most_of (written_of (layout_of m)) = all_short (parts_of m) short (written_of (layout_of m)) in
    let most : most_of (written_of (layout_of m)) ≤ longest_body = layout_short (layout_of m) in
    omega arith
