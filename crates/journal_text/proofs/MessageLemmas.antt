-- A message that is read of octets is written as it stands.
use Rattle.std.proofs.Common.{◌≡◌, ℕ, ◌%◌, ◌<◌, ◌≤◌, true, List, [], ◌∷◌, ◌++◌, length, map, Option, Some, None, refl, ap, subst, arith}
use Rattle.std.specs.Prelude.{IfSome, option_map}
use Rattle.std.specs.Int.{bytes_high_first}
use Rattle.std.specs.List.{AllByRecursion, flat_map}
use Rattle.cbsp_ie.specs.declared.element.Element.{Element}
use Rattle.cbsp_ie.specs.declared.element.Element.TheVariants as element
use Rattle.cbsp_ie.specs.declared.element_id.ElementId.{ElementId}
use Rattle.cbsp_ie.specs.declared.element_id.ElementId.TheVariants as id
use Rattle.cbsp_ie.specs.Counts.{Numbers}
use Rattle.cbsp_ie.specs.ElementId.{code_of as element_code}
use Rattle.cbsp_ie.specs.Page.{PageContent}
use Rattle.cbsp_ie.specs.Written.{FitsElement, IsInRange, plain_counts, plain_element}
use Rattle.cbsp_messages.specs.declared.message.Message.{Message}
use Rattle.cbsp_messages.specs.declared.message.Message.TheVariants as message
use Rattle.cbsp_messages.specs.declared.message_type.MessageType.{MessageType}
use Rattle.cbsp_messages.specs.declared.message_type.MessageType.TheVariants as type
use Rattle.cbsp_messages.specs.Elements.{has_id, with_id}
use Rattle.cbsp_messages.specs.Layout.{written_of}
use Rattle.cbsp_messages.specs.Message.{layout_of, type_of}
use Rattle.cbsp_messages.specs.MessageType.{code_of, is_report}
use Rattle.cbsp_messages.specs.Parts.{Parts, one_of, page_element, parts_of, values_at}
use Rattle.cbsp_messages.specs.Ranged.{AreInRange}
use Rattle.cbsp_messages.specs.Spelling.{HasPages, Spells}
use Rattle.cbsp_messages.specs.Written.{Fits, frame_of, low, octets_at, plain, written}
use Rattle.cbsp_messages.proofs.LengthLemmas.{short_body}
use Rattle.cbsp_messages.proofs.WrittenLemmas.{Spells-written}
use Rattle.hex.specs.Hex.{IsBytes}
use Rattle.journal_text.specs.Laws.{ReadHasFrame, RestartHasFrame, restart_of}
use Rattle.journal_text.specs.Sayable.{HasFrame}
use Rattle.journal_text.proofs.ElementLemmas.{StandsAsWritten, all_as_written, elements_bytes, some_as_written}
use Rattle.journal_text.proofs.OctetLemmas.{bytes_append, bytes_cons, bytes_none, bytes_three}

-- every element of the parts is written as it stands
abbrev AllStand : Parts → Type 0
AllStand parts = (which : ElementId) → AllByRecursion StandsAsWritten (values_at parts which)

-- ---- the elements that a message is read of are its own

listed : (ids : List ElementId) (at own : ElementId → List Element) → ((which : ElementId) → AllByRecursion StandsAsWritten (at which)) → AllByRecursion (λ which. at which ≡ own which) ids
    → AllByRecursion (λ which. AllByRecursion StandsAsWritten (own which)) ids
listed [] at own stand same = tt
listed (which ∷ ids) at own stand same = (subst (λ es. AllByRecursion StandsAsWritten es) same.0 (stand which), listed ids at own stand same.1)

each_at : (m : Message) → AllByRecursion (λ which. AllByRecursion StandsAsWritten (values_at (parts_of m) which)) (written_of (layout_of m)) → AllStand (parts_of m)
each_at (message.WriteReplace m) all id.MessageIdentifier = all.0
each_at (message.WriteReplace m) all id.NewSerialNumber = all.1.0
each_at (message.WriteReplace m) all id.OldSerialNumber = all.1.1.0
each_at (message.WriteReplace m) all id.CellList = all.1.1.1.0
each_at (message.WriteReplace m) all id.ChannelIndicator = all.1.1.1.1.0
each_at (message.WriteReplace m) all id.Category = all.1.1.1.1.1.0
each_at (message.WriteReplace m) all id.RepetitionPeriod = all.1.1.1.1.1.1.0
each_at (message.WriteReplace m) all id.BroadcastsRequested = all.1.1.1.1.1.1.1.0
each_at (message.WriteReplace m) all id.NumberOfPages = all.1.1.1.1.1.1.1.1.0
each_at (message.WriteReplace m) all id.DataCodingScheme = all.1.1.1.1.1.1.1.1.1.0
each_at (message.WriteReplace m) all id.MessageContent = all.1.1.1.1.1.1.1.1.1.1.0
each_at (message.WriteReplace m) all which = tt
each_at (message.WriteEmergency m) all id.MessageIdentifier = all.0
each_at (message.WriteEmergency m) all id.NewSerialNumber = all.1.0
each_at (message.WriteEmergency m) all id.OldSerialNumber = all.1.1.0
each_at (message.WriteEmergency m) all id.CellList = all.1.1.1.0
each_at (message.WriteEmergency m) all id.EmergencyIndicator = all.1.1.1.1.0
each_at (message.WriteEmergency m) all id.WarningType = all.1.1.1.1.1.0
each_at (message.WriteEmergency m) all id.WarningPeriod = all.1.1.1.1.1.1.0
each_at (message.WriteEmergency m) all id.WarningSecurity = all.1.1.1.1.1.1.1.0
each_at (message.WriteEmergency m) all which = tt
each_at (message.WriteComplete m) all id.MessageIdentifier = all.0
each_at (message.WriteComplete m) all id.NewSerialNumber = all.1.0
each_at (message.WriteComplete m) all id.OldSerialNumber = all.1.1.0
each_at (message.WriteComplete m) all id.BroadcastsCompleted = all.1.1.1.0
each_at (message.WriteComplete m) all id.CellList = all.1.1.1.1.0
each_at (message.WriteComplete m) all id.ChannelIndicator = all.1.1.1.1.1.0
each_at (message.WriteComplete m) all which = tt
each_at (message.WriteFailure m) all id.MessageIdentifier = all.0
each_at (message.WriteFailure m) all id.NewSerialNumber = all.1.0
each_at (message.WriteFailure m) all id.OldSerialNumber = all.1.1.0
each_at (message.WriteFailure m) all id.FailureList = all.1.1.1.0
each_at (message.WriteFailure m) all id.BroadcastsCompleted = all.1.1.1.1.0
each_at (message.WriteFailure m) all id.CellList = all.1.1.1.1.1.0
each_at (message.WriteFailure m) all id.ChannelIndicator = all.1.1.1.1.1.1.0
each_at (message.WriteFailure m) all which = tt
each_at (message.Kill m) all id.MessageIdentifier = all.0
each_at (message.Kill m) all id.OldSerialNumber = all.1.0
each_at (message.Kill m) all id.CellList = all.1.1.0
each_at (message.Kill m) all id.ChannelIndicator = all.1.1.1.0
each_at (message.Kill m) all which = tt
each_at (message.KillComplete m) all id.MessageIdentifier = all.0
each_at (message.KillComplete m) all id.OldSerialNumber = all.1.0
each_at (message.KillComplete m) all id.BroadcastsCompleted = all.1.1.0
each_at (message.KillComplete m) all id.CellList = all.1.1.1.0
each_at (message.KillComplete m) all id.ChannelIndicator = all.1.1.1.1.0
each_at (message.KillComplete m) all which = tt
each_at (message.KillFailure m) all id.MessageIdentifier = all.0
each_at (message.KillFailure m) all id.OldSerialNumber = all.1.0
each_at (message.KillFailure m) all id.FailureList = all.1.1.0
each_at (message.KillFailure m) all id.BroadcastsCompleted = all.1.1.1.0
each_at (message.KillFailure m) all id.CellList = all.1.1.1.1.0
each_at (message.KillFailure m) all id.ChannelIndicator = all.1.1.1.1.1.0
each_at (message.KillFailure m) all which = tt
each_at (message.StatusQuery m) all id.MessageIdentifier = all.0
each_at (message.StatusQuery m) all id.OldSerialNumber = all.1.0
each_at (message.StatusQuery m) all id.CellList = all.1.1.0
each_at (message.StatusQuery m) all id.ChannelIndicator = all.1.1.1.0
each_at (message.StatusQuery m) all which = tt
each_at (message.StatusComplete m) all id.MessageIdentifier = all.0
each_at (message.StatusComplete m) all id.OldSerialNumber = all.1.0
each_at (message.StatusComplete m) all id.BroadcastsCompleted = all.1.1.0
each_at (message.StatusComplete m) all id.ChannelIndicator = all.1.1.1.0
each_at (message.StatusComplete m) all which = tt
each_at (message.StatusFailure m) all id.MessageIdentifier = all.0
each_at (message.StatusFailure m) all id.OldSerialNumber = all.1.0
each_at (message.StatusFailure m) all id.FailureList = all.1.1.0
each_at (message.StatusFailure m) all id.BroadcastsCompleted = all.1.1.1.0
each_at (message.StatusFailure m) all id.ChannelIndicator = all.1.1.1.1.0
each_at (message.StatusFailure m) all which = tt
each_at (message.Restart m) all id.CellList = all.0
each_at (message.Restart m) all id.BroadcastMessageType = all.1.0
each_at (message.Restart m) all id.RecoveryIndication = all.1.1.0
each_at (message.Restart m) all which = tt
each_at (message.Failure m) all id.FailureList = all.0
each_at (message.Failure m) all id.BroadcastMessageType = all.1.0
each_at (message.Failure m) all which = tt
each_at (message.ErrorIndication m) all id.Cause = all.0
each_at (message.ErrorIndication m) all id.MessageIdentifier = all.1.0
each_at (message.ErrorIndication m) all id.NewSerialNumber = all.1.1.0
each_at (message.ErrorIndication m) all id.OldSerialNumber = all.1.1.1.0
each_at (message.ErrorIndication m) all id.ChannelIndicator = all.1.1.1.1.0
each_at (message.ErrorIndication m) all which = tt

stand : (kind : ℕ) (body : List ℕ) (m : Message) → IsBytes body → Spells kind body m → AllStand (parts_of m)
stand kind body m bytes spells =
    let all = all_as_written body spells.elements bytes spells.joined in
    each_at m (listed (written_of (layout_of m)) (λ which. with_id which spells.elements) (values_at (parts_of m)) (λ which. some_as_written (has_id which) spells.elements all) spells.says.0)

-- ---- so its parts are in their ranges

one_range : {A : Type 0} (make : A → Element) (P : A → Type 0) → ((x : A) → IsInRange (make x) → P x) → (o : Option A) → AllByRecursion StandsAsWritten (one_of make o) → IfSome o P
one_range make P why None h = tt
one_range make P why (Some x) h = why x h.0.range

pages_range : (pages : List PageContent) → AllByRecursion StandsAsWritten (map page_element pages) → AllByRecursion (λ page. length page.octets ≡ 82) pages
pages_range [] h = tt
pages_range (page ∷ pages) h = (h.0.range.1, pages_range pages h.1)

pages_short : (pages : List PageContent) → AllByRecursion StandsAsWritten (map page_element pages) → AllByRecursion (λ page. page.used ≤ 82) pages
pages_short [] h = tt
pages_short (page ∷ pages) h = (h.0.range.0, pages_short pages h.1)

in_range : (parts : Parts) → AllStand parts → AreInRange parts
in_range parts all = record {
  message_id = one_range (λ n. element.MessageIdentifier n) _ (λ x h. h) parts.message_id (all id.MessageIdentifier);
  new_serial = one_range (λ n. element.NewSerialNumber n) _ (λ x h. h) parts.new_serial (all id.NewSerialNumber);
  old_serial = one_range (λ n. element.OldSerialNumber n) _ (λ x h. h) parts.old_serial (all id.OldSerialNumber);
  period = one_range (λ n. element.RepetitionPeriod n) _ (λ x h. h) parts.period (all id.RepetitionPeriod);
  requested = one_range (λ n. element.BroadcastsRequested n) _ (λ x h. h) parts.requested (all id.BroadcastsRequested);
  cells = one_range (λ cells. element.CellList cells) _ (λ x h. h) parts.cells (all id.CellList);
  counts = one_range (λ counts. element.BroadcastsCompleted counts) _ (λ x h. h) parts.counts (all id.BroadcastsCompleted);
  failures = one_range (λ failures. element.FailureList failures) _ (λ x h. h) parts.failures (all id.FailureList);
  warning_type = one_range (λ n. element.WarningType n) _ (λ x h. h) parts.warning_type (all id.WarningType);
  security = one_range (λ octets. element.WarningSecurity octets) _ (λ x h. h) parts.security (all id.WarningSecurity);
  pages = pages_range parts.pages (all id.MessageContent);
}

-- ---- and its lists have room

one_fits : {A : Type 0} (make : A → Element) (P : A → Type 0) → ((x : A) → FitsElement (make x) → P x) → (o : Option A) → AllByRecursion StandsAsWritten (one_of make o) → IfSome o P
one_fits make P why None h = tt
one_fits make P why (Some x) h = why x h.0.fits

has_room : (m : Message) → HasPages m → AllStand (parts_of m) → Fits m
has_room m pages all = record {
  cells = one_fits (λ cells. element.CellList cells) _ (λ x h. h) (parts_of m).cells (all id.CellList);
  counts = one_fits (λ counts. element.BroadcastsCompleted counts) _ (λ x h. h) (parts_of m).counts (all id.BroadcastsCompleted);
  failures = one_fits (λ failures. element.FailureList failures) _ (λ x h. h) (parts_of m).failures (all id.FailureList);
  pages = pages;
}

-- ---- it has no spare bits

one_plain : {A : Type 0} (make : A → Element) (f : A → A) → ((x : A) → plain_element (make x) ≡ make x → f x ≡ x) → (o : Option A) → AllByRecursion StandsAsWritten (one_of make o) → option_map f o ≡ o
one_plain make f why None h = refl
one_plain make f why (Some x) h = ap (λ y. Some y) (why x h.0.plain)

channel_plain : (o : Option ℕ) → AllByRecursion StandsAsWritten (one_of (λ n. element.ChannelIndicator n) o) → option_map low o ≡ o
channel_plain o h = one_plain (λ n. element.ChannelIndicator n) low (λ x same. cc same) o h

counts_plain : (o : Option Numbers) → AllByRecursion StandsAsWritten (one_of (λ counts. element.BroadcastsCompleted counts) o) → option_map plain_counts o ≡ o
counts_plain o h = one_plain (λ counts. element.BroadcastsCompleted counts) plain_counts (λ x same. cc same) o h

without_spare : (m : Message) → AllStand (parts_of m) → plain m ≡ m
without_spare (message.WriteReplace m) all =
    let channel = channel_plain m.channel (all id.ChannelIndicator) in
    let category : low m.category ≡ m.category = cc (all id.Category).0.plain in
    λ i. message.WriteReplace (record m { channel = channel i; category = category i })
without_spare (message.WriteEmergency m) all = refl
without_spare (message.WriteComplete m) all =
    let counts = counts_plain m.counts (all id.BroadcastsCompleted) in
    let channel = channel_plain m.channel (all id.ChannelIndicator) in
    λ i. message.WriteComplete (record m { counts = counts i; channel = channel i })
without_spare (message.WriteFailure m) all =
    let counts = counts_plain m.counts (all id.BroadcastsCompleted) in
    let channel = channel_plain m.channel (all id.ChannelIndicator) in
    λ i. message.WriteFailure (record m { counts = counts i; channel = channel i })
without_spare (message.Kill m) all =
    let channel = channel_plain m.channel (all id.ChannelIndicator) in
    λ i. message.Kill (record m { channel = channel i })
without_spare (message.KillComplete m) all =
    let counts = counts_plain m.counts (all id.BroadcastsCompleted) in
    let channel = channel_plain m.channel (all id.ChannelIndicator) in
    λ i. message.KillComplete (record m { counts = counts i; channel = channel i })
without_spare (message.KillFailure m) all =
    let counts = counts_plain m.counts (all id.BroadcastsCompleted) in
    let channel = channel_plain m.channel (all id.ChannelIndicator) in
    λ i. message.KillFailure (record m { counts = counts i; channel = channel i })
without_spare (message.StatusQuery m) all =
    let channel = channel_plain m.channel (all id.ChannelIndicator) in
    λ i. message.StatusQuery (record m { channel = channel i })
without_spare (message.StatusComplete m) all =
    let counts : plain_counts m.counts ≡ m.counts = cc (all id.BroadcastsCompleted).0.plain in
    let channel = channel_plain m.channel (all id.ChannelIndicator) in
    λ i. message.StatusComplete (record m { counts = counts i; channel = channel i })
without_spare (message.StatusFailure m) all =
    let counts = counts_plain m.counts (all id.BroadcastsCompleted) in
    let channel = channel_plain m.channel (all id.ChannelIndicator) in
    λ i. message.StatusFailure (record m { counts = counts i; channel = channel i })
without_spare (message.Restart m) all =
    let kind : low m.kind ≡ m.kind = cc (all id.BroadcastMessageType).0.plain in
    let recovery : low m.recovery ≡ m.recovery = cc (all id.RecoveryIndication).0.plain in
    λ i. message.Restart (record m { kind = kind i; recovery = recovery i })
without_spare (message.Failure m) all =
    let kind : low m.kind ≡ m.kind = cc (all id.BroadcastMessageType).0.plain in
    λ i. message.Failure (record m { kind = kind i })
without_spare (message.ErrorIndication m) all =
    let channel = channel_plain m.channel (all id.ChannelIndicator) in
    λ i. message.ErrorIndication (record m { channel = channel i })

-- ---- its frame is octets

parts_bytes : (parts : Parts) → AllStand parts → (ids : List ElementId) → IsBytes (flat_map (octets_at parts) ids)
parts_bytes parts all [] = bytes_none
parts_bytes parts all (which ∷ ids) =
    bytes_append (octets_at parts which) (flat_map (octets_at parts) ids) (elements_bytes (values_at parts which) (all which)) (parts_bytes parts all ids)

type_low : (t : MessageType) → code_of t < 256
type_low type.WriteReplace = omega arith
type_low type.WriteComplete = omega arith
type_low type.WriteFailure = omega arith
type_low type.Kill = omega arith
type_low type.KillComplete = omega arith
type_low type.KillFailure = omega arith
type_low type.StatusQuery = omega arith
type_low type.StatusComplete = omega arith
type_low type.StatusFailure = omega arith
type_low type.Restart = omega arith
type_low type.Failure = omega arith
type_low type.ErrorIndication = omega arith

frame_bytes : (m : Message) → AllStand (parts_of m) → IsBytes (frame_of m)
frame_bytes m all =
    bytes_cons (code_of (type_of m)) (bytes_high_first 3 (length (written m)) ++ written m) (type_low (type_of m))
    (bytes_append (bytes_high_first 3 (length (written m))) (written m) (bytes_three (length (written m))) (parts_bytes (parts_of m) all (written_of (layout_of m))))

-- ---- a report whose elements are written as they stand has a frame

has_frame : (m : Message) → is_report (type_of m) ≡ true → HasPages m → AllStand (parts_of m) → HasFrame m
has_frame m report pages all =
    let ranges = in_range (parts_of m) all in
    let fits = has_room m pages all in
    let same = without_spare m all in
    record {
      report = report;
      fits = fits;
      plain = same;
      encoded = subst (λ n. Spells (code_of (type_of m)) (written m) n) same (Spells-written m ranges (pages_short (parts_of m).pages (all id.MessageContent)) fits);
      short = short_body m ranges fits;
      octets = frame_bytes m all;
    }

pub read_has_frame : ReadHasFrame
read_has_frame kind body m bytes spells report = has_frame m report spells.says.1 (stand kind body m bytes spells)

-- ---- the RESTART of all cells

restart_stands : (kind recovery : ℕ) → kind < 16 → recovery < 16 → AllStand (parts_of (restart_of kind recovery))
restart_stands kind recovery k r id.CellList = (
  record {
    range = refl;
    fits = omega arith;
    plain = refl;
    octets = bytes_cons 4 (0 ∷ 1 ∷ 6 ∷ []) (omega arith) (bytes_cons 0 (1 ∷ 6 ∷ []) (omega arith) (bytes_cons 1 (6 ∷ []) (omega arith) (bytes_cons 6 [] (omega arith) bytes_none)));
  },
  tt,
)
restart_stands kind recovery k r id.BroadcastMessageType = (
  record {
    range = tt;
    fits = tt;
    plain = ap (λ (n : ℕ). element.BroadcastMessageType n) (omega (arith, k));
    octets = bytes_cons (element_code id.BroadcastMessageType) ((kind % 16) ∷ []) (omega arith) (bytes_cons (kind % 16) [] (omega arith) bytes_none);
  },
  tt,
)
restart_stands kind recovery k r id.RecoveryIndication = (
  record {
    range = tt;
    fits = tt;
    plain = ap (λ (n : ℕ). element.RecoveryIndication n) (omega (arith, r));
    octets = bytes_cons (element_code id.RecoveryIndication) ((recovery % 16) ∷ []) (omega arith) (bytes_cons (recovery % 16) [] (omega arith) bytes_none);
  },
  tt,
)
restart_stands kind recovery k r which = tt

pub restart_has_frame : RestartHasFrame
restart_has_frame kind recovery k r = has_frame (restart_of kind recovery) refl tt (restart_stands kind recovery k r)
