-- What is written for a message is read as the message without its spare bits.
use Rattle.std.proofs.Common.{◌≡◌, ℕ, ◌<◌, ◌≤◌, ◌==◌, ◌⊎◌, inl, inr, Bool, true, false, cond, List, [], ◌∷◌, ◌++◌, length, map, drop, Option, Some, None, Result, Ok, Err, refl, sym, ap, subst, ◌∙◌, arith}
use Rattle.std.specs.Prelude.{IfOk, IfSome, option_map}
use Rattle.std.specs.Global.{Vec}
use Rattle.std.specs.declared.alloc.AllocError.{AllocError}
use Rattle.std.specs.List.{AllByRecursion, filter, flat_map}
use Rattle.std.proofs.lemmas.List.{append-nil, length-map}
use Rattle.std.proofs.lemmas.List.Elements.{filter-append}
use Rattle.cbsp_ie.specs.declared.element.Element.{Element}
use Rattle.cbsp_ie.specs.declared.element.Element.TheVariants as element
use Rattle.cbsp_ie.specs.declared.element_id.ElementId.{ElementId}
use Rattle.cbsp_ie.specs.declared.element_id.ElementId.TheVariants as id
use Rattle.cbsp_ie.specs.Element.{element_id_of}
use Rattle.cbsp_ie.specs.ElementId.{code_of}
use Rattle.cbsp_ie.specs.Page.{PageContent}
use Rattle.cbsp_ie.specs.Written.{FitsElement, IsInRange, element_octets, plain_counts, plain_element}
use Rattle.cbsp_ie.proofs.WrittenLemmas.{written_is_read_lem}
use Rattle.cbsp_messages.specs.declared.message.Message.{Message}
use Rattle.cbsp_messages.specs.declared.message.Message.TheVariants as message
use Rattle.cbsp_messages.specs.declared.layout.Layout.{Layout}
use Rattle.cbsp_messages.specs.declared.layout.Layout.TheVariants as layout
use Rattle.cbsp_messages.specs.Elements.{AreElements, IsOnce, has_id, with_id}
use Rattle.cbsp_messages.specs.Layout.{layout_at, written_of}
use Rattle.cbsp_messages.specs.Message.{layout_of, type_of}
use Rattle.cbsp_messages.specs.MessageType as types
use Rattle.cbsp_messages.specs.Parts.{Parts, one_of, page_element, parts_of, values_at}
use Rattle.cbsp_messages.specs.Ranged.{AreInRange}
use Rattle.cbsp_messages.specs.Spelling.{HasPages, Says, Spells}
use Rattle.cbsp_messages.specs.Written.{Fits, HasShortPages, frame_of, low, octets_at, plain, written}
use Rattle.cbsp_messages.proofs.ElementsLemmas.{AreElements-append}
use Rattle.cbsp_messages.proofs.PartsLemmas.{values_at-once}

-- ---- the octets of elements that can be written are these elements

-- an element that can be written
abbrev IsWritable : Element → Type 0
IsWritable e = IsInRange e × FitsElement e

are_plain : (es : List Element) → AllByRecursion IsWritable es → AreElements (flat_map element_octets es) (map plain_element es)
are_plain [] h = refl
are_plain (e ∷ es) h = (element_octets e, flat_map element_octets es, refl, written_is_read_lem e h.0.0 h.0.1, are_plain es h.1)

-- the elements with an identifier as they are read
abbrev plain_at : Parts → ElementId → List Element
plain_at parts which = map plain_element (values_at parts which)

are_plain_at : (parts : Parts) → ((which : ElementId) → AllByRecursion IsWritable (values_at parts which)) → (ids : List ElementId)
    → AreElements (flat_map (octets_at parts) ids) (flat_map (plain_at parts) ids)
are_plain_at parts writable [] = refl
are_plain_at parts writable (which ∷ ids) =
    AreElements-append (octets_at parts which) (flat_map (octets_at parts) ids) (plain_at parts which) (flat_map (plain_at parts) ids)
    (are_plain (values_at parts which) (writable which)) (are_plain_at parts writable ids)

-- ---- the elements of a message that fits can be written

-- an element that may be there can be written where its value says so
one_writable : {A : Type 0} (make : A → Element) (P : A → Type 0) → ((x : A) → P x → IsWritable (make x)) → (o : Option A) → IfSome o P → AllByRecursion IsWritable (one_of make o)
one_writable make P why None h = tt
one_writable make P why (Some x) h = (why x h, tt)

any_writable : {A : Type 0} (make : A → Element) → ((x : A) → IsWritable (make x)) → (o : Option A) → AllByRecursion IsWritable (one_of make o)
any_writable make why None = tt
any_writable make why (Some x) = (why x, tt)

-- two facts of one value
both_if : {A : Type 0} (P Q : A → Type 0) (o : Option A) → IfSome o P → IfSome o Q → IfSome o (λ x. P x × Q x)
both_if P Q None h k = tt
both_if P Q (Some x) h k = (h, k)

pages_writable : (pages : List PageContent) → AllByRecursion (λ page. page.used ≤ 82) pages → AllByRecursion (λ page. length page.octets ≡ 82) pages
    → AllByRecursion IsWritable (map page_element pages)
pages_writable [] h k = tt
pages_writable (page ∷ pages) h k = (((h.0, k.0), tt), pages_writable pages h.1 k.1)

parts_writable : (m : Message) → AreInRange (parts_of m) → HasShortPages m → Fits m → (which : ElementId) → AllByRecursion IsWritable (values_at (parts_of m) which)
parts_writable m ranges short fits id.MessageContent = pages_writable (parts_of m).pages short ranges.pages
parts_writable m ranges short fits id.OldSerialNumber = one_writable (λ n. element.OldSerialNumber n) (λ n. n < 65536) (λ n h. (h, tt)) (parts_of m).old_serial ranges.old_serial
parts_writable m ranges short fits id.NewSerialNumber = one_writable (λ n. element.NewSerialNumber n) (λ n. n < 65536) (λ n h. (h, tt)) (parts_of m).new_serial ranges.new_serial
parts_writable m ranges short fits id.CellList = one_writable (λ cells. element.CellList cells) _ (λ x h. h) (parts_of m).cells (both_if _ _ (parts_of m).cells ranges.cells fits.cells)
parts_writable m ranges short fits id.Category = any_writable (λ n. element.Category n) (λ x. (tt, tt)) (parts_of m).category
parts_writable m ranges short fits id.RepetitionPeriod = one_writable (λ n. element.RepetitionPeriod n) (λ n. n < 65536) (λ n h. (h, tt)) (parts_of m).period ranges.period
parts_writable m ranges short fits id.BroadcastsRequested = one_writable (λ n. element.BroadcastsRequested n) (λ n. n < 65536) (λ n h. (h, tt)) (parts_of m).requested ranges.requested
parts_writable m ranges short fits id.BroadcastsCompleted = one_writable (λ counts. element.BroadcastsCompleted counts) _ (λ x h. h) (parts_of m).counts (both_if _ _ (parts_of m).counts ranges.counts fits.counts)
parts_writable m ranges short fits id.FailureList = one_writable (λ failures. element.FailureList failures) _ (λ x h. h) (parts_of m).failures (both_if _ _ (parts_of m).failures ranges.failures fits.failures)
parts_writable m ranges short fits id.Cause = any_writable (λ cause. element.Cause cause) (λ x. (tt, tt)) (parts_of m).cause
parts_writable m ranges short fits id.DataCodingScheme = any_writable (λ n. element.DataCodingScheme n) (λ x. (tt, tt)) (parts_of m).dcs
parts_writable m ranges short fits id.RecoveryIndication = any_writable (λ n. element.RecoveryIndication n) (λ x. (tt, tt)) (parts_of m).recovery
parts_writable m ranges short fits id.MessageIdentifier = one_writable (λ n. element.MessageIdentifier n) (λ n. n < 65536) (λ n h. (h, tt)) (parts_of m).message_id ranges.message_id
parts_writable m ranges short fits id.EmergencyIndicator = any_writable (λ n. element.EmergencyIndicator n) (λ x. (tt, tt)) (parts_of m).emergency
parts_writable m ranges short fits id.WarningType = one_writable (λ n. element.WarningType n) (λ n. n < 65536) (λ n h. (h, tt)) (parts_of m).warning_type ranges.warning_type
parts_writable m ranges short fits id.WarningSecurity = one_writable (λ octets. element.WarningSecurity octets) (λ octets. length octets ≡ 50) (λ octets h. (h, tt)) (parts_of m).security ranges.security
parts_writable m ranges short fits id.ChannelIndicator = any_writable (λ n. element.ChannelIndicator n) (λ x. (tt, tt)) (parts_of m).channel
parts_writable m ranges short fits id.NumberOfPages = any_writable (λ n. element.NumberOfPages n) (λ x. (tt, tt)) (parts_of m).page_count
parts_writable m ranges short fits id.BroadcastMessageType = any_writable (λ n. element.BroadcastMessageType n) (λ x. (tt, tt)) (parts_of m).kind
parts_writable m ranges short fits id.WarningPeriod = any_writable (λ n. element.WarningPeriod n) (λ x. (tt, tt)) (parts_of m).warning_period

-- ---- the elements by their identifiers

-- every element is one of the identifier
abbrev AreOf : ElementId → List Element → Type 0
AreOf which es = AllByRecursion (λ e. element_id_of e ≡ which) es

one_of-id : {A : Type 0} (which : ElementId) (make : A → Element) → ((x : A) → element_id_of (plain_element (make x)) ≡ which) → (o : Option A) → AreOf which (map plain_element (one_of make o))
one_of-id which make why None = tt
one_of-id which make why (Some x) = (why x, tt)

pages-id : (pages : List PageContent) → AreOf id.MessageContent (map plain_element (map page_element pages))
pages-id [] = tt
pages-id (page ∷ pages) = (refl, pages-id pages)

plain_at-id : (parts : Parts) (which : ElementId) → AreOf which (plain_at parts which)
plain_at-id parts id.MessageContent = pages-id parts.pages
plain_at-id parts id.OldSerialNumber = one_of-id id.OldSerialNumber (λ n. element.OldSerialNumber n) (λ x. refl) parts.old_serial
plain_at-id parts id.NewSerialNumber = one_of-id id.NewSerialNumber (λ n. element.NewSerialNumber n) (λ x. refl) parts.new_serial
plain_at-id parts id.CellList = one_of-id id.CellList (λ cells. element.CellList cells) (λ x. refl) parts.cells
plain_at-id parts id.Category = one_of-id id.Category (λ n. element.Category n) (λ x. refl) parts.category
plain_at-id parts id.RepetitionPeriod = one_of-id id.RepetitionPeriod (λ n. element.RepetitionPeriod n) (λ x. refl) parts.period
plain_at-id parts id.BroadcastsRequested = one_of-id id.BroadcastsRequested (λ n. element.BroadcastsRequested n) (λ x. refl) parts.requested
plain_at-id parts id.BroadcastsCompleted = one_of-id id.BroadcastsCompleted (λ counts. element.BroadcastsCompleted counts) (λ x. refl) parts.counts
plain_at-id parts id.FailureList = one_of-id id.FailureList (λ failures. element.FailureList failures) (λ x. refl) parts.failures
plain_at-id parts id.Cause = one_of-id id.Cause (λ cause. element.Cause cause) (λ x. refl) parts.cause
plain_at-id parts id.DataCodingScheme = one_of-id id.DataCodingScheme (λ n. element.DataCodingScheme n) (λ x. refl) parts.dcs
plain_at-id parts id.RecoveryIndication = one_of-id id.RecoveryIndication (λ n. element.RecoveryIndication n) (λ x. refl) parts.recovery
plain_at-id parts id.MessageIdentifier = one_of-id id.MessageIdentifier (λ n. element.MessageIdentifier n) (λ x. refl) parts.message_id
plain_at-id parts id.EmergencyIndicator = one_of-id id.EmergencyIndicator (λ n. element.EmergencyIndicator n) (λ x. refl) parts.emergency
plain_at-id parts id.WarningType = one_of-id id.WarningType (λ n. element.WarningType n) (λ x. refl) parts.warning_type
plain_at-id parts id.WarningSecurity = one_of-id id.WarningSecurity (λ octets. element.WarningSecurity octets) (λ x. refl) parts.security
plain_at-id parts id.ChannelIndicator = one_of-id id.ChannelIndicator (λ n. element.ChannelIndicator n) (λ x. refl) parts.channel
plain_at-id parts id.NumberOfPages = one_of-id id.NumberOfPages (λ n. element.NumberOfPages n) (λ x. refl) parts.page_count
plain_at-id parts id.BroadcastMessageType = one_of-id id.BroadcastMessageType (λ n. element.BroadcastMessageType n) (λ x. refl) parts.kind
plain_at-id parts id.WarningPeriod = one_of-id id.WarningPeriod (λ n. element.WarningPeriod n) (λ x. refl) parts.warning_period

-- of elements with one identifier all or none have another
abbrev if_same : ElementId → ElementId → List Element → List Element
if_same which own es = cond (code_of which == code_of own) es []

keeps : (b : Bool) (test : Element → Bool) (es : List Element) → AllByRecursion (λ e. test e ≡ b) es → filter test es ≡ cond b es []
keeps true test [] h = refl
keeps false test [] h = refl
keeps true test (e ∷ es) h = rw h.0 (ap (λ xs. e ∷ xs) (keeps true test es h.1))
keeps false test (e ∷ es) h = rw h.0 (keeps false test es h.1)

tested : (which own : ElementId) (es : List Element) → AreOf own es → AllByRecursion (λ e. has_id which e ≡ (code_of which == code_of own)) es
tested which own [] h = tt
tested which own (e ∷ es) h = (ap (λ i. code_of which == code_of i) h.0, tested which own es h.1)

with_id-flat_map : (parts : Parts) (which : ElementId) (ids : List ElementId)
    → with_id which (flat_map (plain_at parts) ids) ≡ flat_map (λ own. if_same which own (plain_at parts own)) ids
with_id-flat_map parts which [] = refl
with_id-flat_map parts which (own ∷ ids) =
    filter-append (has_id which) (plain_at parts own) (flat_map (plain_at parts) ids)
    ∙ ap (λ es. es ++ with_id which (flat_map (plain_at parts) ids)) (keeps (code_of which == code_of own) (has_id which) (plain_at parts own) (tested which own (plain_at parts own) (plain_at-id parts own)))
    ∙ ap (λ es. if_same which own (plain_at parts own) ++ es) (with_id-flat_map parts which ids)

-- the table lists each identifier once: of what it lists, one identifier has its own elements
abbrev picked : (ElementId → List Element) → ElementId → List ElementId → List Element
picked at which ids = flat_map (λ own. if_same which own (at own)) ids

picks : (l : Layout) (at : ElementId → List Element) → AllByRecursion (λ which. picked at which (written_of l) ≡ at which) (written_of l)
picks layout.WriteReplace at = (append-nil _, (append-nil _, (append-nil _, (append-nil _, (append-nil _, (append-nil _, (append-nil _, (append-nil _, (append-nil _, (append-nil _, (append-nil _, tt)))))))))))
picks layout.WriteEmergency at = (append-nil _, (append-nil _, (append-nil _, (append-nil _, (append-nil _, (append-nil _, (append-nil _, (append-nil _, tt))))))))
picks layout.WriteComplete at = (append-nil _, (append-nil _, (append-nil _, (append-nil _, (append-nil _, (append-nil _, tt))))))
picks layout.WriteFailure at = (append-nil _, (append-nil _, (append-nil _, (append-nil _, (append-nil _, (append-nil _, (append-nil _, tt)))))))
picks layout.Kill at = (append-nil _, (append-nil _, (append-nil _, (append-nil _, tt))))
picks layout.KillComplete at = (append-nil _, (append-nil _, (append-nil _, (append-nil _, (append-nil _, tt)))))
picks layout.KillFailure at = (append-nil _, (append-nil _, (append-nil _, (append-nil _, (append-nil _, (append-nil _, tt))))))
picks layout.StatusQuery at = (append-nil _, (append-nil _, (append-nil _, (append-nil _, tt))))
picks layout.StatusComplete at = (append-nil _, (append-nil _, (append-nil _, (append-nil _, tt))))
picks layout.StatusFailure at = (append-nil _, (append-nil _, (append-nil _, (append-nil _, (append-nil _, tt)))))
picks layout.Restart at = (append-nil _, (append-nil _, (append-nil _, tt)))
picks layout.Failure at = (append-nil _, (append-nil _, tt))
picks layout.ErrorIndication at = (append-nil _, (append-nil _, (append-nil _, (append-nil _, (append-nil _, tt)))))

picks_few : (l : Layout) (at : ElementId → List Element) (which : ElementId) → (picked at which (written_of l) ≡ at which) ⊎ (picked at which (written_of l) ≡ [])
picks_few layout.WriteReplace at id.MessageIdentifier = inl (append-nil _)
picks_few layout.WriteReplace at id.NewSerialNumber = inl (append-nil _)
picks_few layout.WriteReplace at id.OldSerialNumber = inl (append-nil _)
picks_few layout.WriteReplace at id.CellList = inl (append-nil _)
picks_few layout.WriteReplace at id.ChannelIndicator = inl (append-nil _)
picks_few layout.WriteReplace at id.Category = inl (append-nil _)
picks_few layout.WriteReplace at id.RepetitionPeriod = inl (append-nil _)
picks_few layout.WriteReplace at id.BroadcastsRequested = inl (append-nil _)
picks_few layout.WriteReplace at id.NumberOfPages = inl (append-nil _)
picks_few layout.WriteReplace at id.DataCodingScheme = inl (append-nil _)
picks_few layout.WriteReplace at id.MessageContent = inl (append-nil _)
picks_few layout.WriteReplace at which = inr refl
picks_few layout.WriteEmergency at id.MessageIdentifier = inl (append-nil _)
picks_few layout.WriteEmergency at id.NewSerialNumber = inl (append-nil _)
picks_few layout.WriteEmergency at id.OldSerialNumber = inl (append-nil _)
picks_few layout.WriteEmergency at id.CellList = inl (append-nil _)
picks_few layout.WriteEmergency at id.EmergencyIndicator = inl (append-nil _)
picks_few layout.WriteEmergency at id.WarningType = inl (append-nil _)
picks_few layout.WriteEmergency at id.WarningPeriod = inl (append-nil _)
picks_few layout.WriteEmergency at id.WarningSecurity = inl (append-nil _)
picks_few layout.WriteEmergency at which = inr refl
picks_few layout.WriteComplete at id.MessageIdentifier = inl (append-nil _)
picks_few layout.WriteComplete at id.NewSerialNumber = inl (append-nil _)
picks_few layout.WriteComplete at id.OldSerialNumber = inl (append-nil _)
picks_few layout.WriteComplete at id.BroadcastsCompleted = inl (append-nil _)
picks_few layout.WriteComplete at id.CellList = inl (append-nil _)
picks_few layout.WriteComplete at id.ChannelIndicator = inl (append-nil _)
picks_few layout.WriteComplete at which = inr refl
picks_few layout.WriteFailure at id.MessageIdentifier = inl (append-nil _)
picks_few layout.WriteFailure at id.NewSerialNumber = inl (append-nil _)
picks_few layout.WriteFailure at id.OldSerialNumber = inl (append-nil _)
picks_few layout.WriteFailure at id.FailureList = inl (append-nil _)
picks_few layout.WriteFailure at id.BroadcastsCompleted = inl (append-nil _)
picks_few layout.WriteFailure at id.CellList = inl (append-nil _)
picks_few layout.WriteFailure at id.ChannelIndicator = inl (append-nil _)
picks_few layout.WriteFailure at which = inr refl
picks_few layout.Kill at id.MessageIdentifier = inl (append-nil _)
picks_few layout.Kill at id.OldSerialNumber = inl (append-nil _)
picks_few layout.Kill at id.CellList = inl (append-nil _)
picks_few layout.Kill at id.ChannelIndicator = inl (append-nil _)
picks_few layout.Kill at which = inr refl
picks_few layout.KillComplete at id.MessageIdentifier = inl (append-nil _)
picks_few layout.KillComplete at id.OldSerialNumber = inl (append-nil _)
picks_few layout.KillComplete at id.BroadcastsCompleted = inl (append-nil _)
picks_few layout.KillComplete at id.CellList = inl (append-nil _)
picks_few layout.KillComplete at id.ChannelIndicator = inl (append-nil _)
picks_few layout.KillComplete at which = inr refl
picks_few layout.KillFailure at id.MessageIdentifier = inl (append-nil _)
picks_few layout.KillFailure at id.OldSerialNumber = inl (append-nil _)
picks_few layout.KillFailure at id.FailureList = inl (append-nil _)
picks_few layout.KillFailure at id.BroadcastsCompleted = inl (append-nil _)
picks_few layout.KillFailure at id.CellList = inl (append-nil _)
picks_few layout.KillFailure at id.ChannelIndicator = inl (append-nil _)
picks_few layout.KillFailure at which = inr refl
picks_few layout.StatusQuery at id.MessageIdentifier = inl (append-nil _)
picks_few layout.StatusQuery at id.OldSerialNumber = inl (append-nil _)
picks_few layout.StatusQuery at id.CellList = inl (append-nil _)
picks_few layout.StatusQuery at id.ChannelIndicator = inl (append-nil _)
picks_few layout.StatusQuery at which = inr refl
picks_few layout.StatusComplete at id.MessageIdentifier = inl (append-nil _)
picks_few layout.StatusComplete at id.OldSerialNumber = inl (append-nil _)
picks_few layout.StatusComplete at id.BroadcastsCompleted = inl (append-nil _)
picks_few layout.StatusComplete at id.ChannelIndicator = inl (append-nil _)
picks_few layout.StatusComplete at which = inr refl
picks_few layout.StatusFailure at id.MessageIdentifier = inl (append-nil _)
picks_few layout.StatusFailure at id.OldSerialNumber = inl (append-nil _)
picks_few layout.StatusFailure at id.FailureList = inl (append-nil _)
picks_few layout.StatusFailure at id.BroadcastsCompleted = inl (append-nil _)
picks_few layout.StatusFailure at id.ChannelIndicator = inl (append-nil _)
picks_few layout.StatusFailure at which = inr refl
picks_few layout.Restart at id.CellList = inl (append-nil _)
picks_few layout.Restart at id.BroadcastMessageType = inl (append-nil _)
picks_few layout.Restart at id.RecoveryIndication = inl (append-nil _)
picks_few layout.Restart at which = inr refl
picks_few layout.Failure at id.FailureList = inl (append-nil _)
picks_few layout.Failure at id.BroadcastMessageType = inl (append-nil _)
picks_few layout.Failure at which = inr refl
picks_few layout.ErrorIndication at id.Cause = inl (append-nil _)
picks_few layout.ErrorIndication at id.MessageIdentifier = inl (append-nil _)
picks_few layout.ErrorIndication at id.NewSerialNumber = inl (append-nil _)
picks_few layout.ErrorIndication at id.OldSerialNumber = inl (append-nil _)
picks_few layout.ErrorIndication at id.ChannelIndicator = inl (append-nil _)
picks_few layout.ErrorIndication at which = inr refl

-- ---- the message without spare bits

plain_option : {A : Type 0} (make : A → Element) (f : A → A) → ((x : A) → plain_element (make x) ≡ make (f x)) → (o : Option A) → map plain_element (one_of make o) ≡ one_of make (option_map f o)
plain_option make f why None = refl
plain_option make f why (Some x) = ap (λ e. e ∷ []) (why x)

kept : {A : Type 0} (make : A → Element) → ((x : A) → plain_element (make x) ≡ make x) → (o : Option A) → map plain_element (one_of make o) ≡ one_of make o
kept make why None = refl
kept make why (Some x) = ap (λ e. e ∷ []) (why x)

pages_kept : (pages : List PageContent) → map plain_element (map page_element pages) ≡ map page_element pages
pages_kept [] = refl
pages_kept (page ∷ pages) = ap (λ es. page_element page ∷ es) (pages_kept pages)

plain_values : (m : Message) → AllByRecursion (λ which. plain_at (parts_of m) which ≡ values_at (parts_of (plain m)) which) (written_of (layout_of m))
plain_values (message.WriteReplace m) = (refl, (refl, (kept (λ n. element.OldSerialNumber n) (λ x. refl) m.old, (refl, (plain_option (λ n. element.ChannelIndicator n) low (λ x. refl) m.channel, (refl, (refl, (refl, (refl, (refl, (pages_kept m.pages, tt)))))))))))
plain_values (message.WriteEmergency m) = (refl, (refl, (kept (λ n. element.OldSerialNumber n) (λ x. refl) m.old, (refl, (refl, (refl, (refl, (refl, tt))))))))
plain_values (message.WriteComplete m) = (refl, (refl, (kept (λ n. element.OldSerialNumber n) (λ x. refl) m.old, (plain_option (λ counts. element.BroadcastsCompleted counts) plain_counts (λ x. refl) m.counts, (kept (λ cells. element.CellList cells) (λ x. refl) m.cells, (plain_option (λ n. element.ChannelIndicator n) low (λ x. refl) m.channel, tt))))))
plain_values (message.WriteFailure m) = (refl, (refl, (kept (λ n. element.OldSerialNumber n) (λ x. refl) m.old, (refl, (plain_option (λ counts. element.BroadcastsCompleted counts) plain_counts (λ x. refl) m.counts, (kept (λ cells. element.CellList cells) (λ x. refl) m.cells, (plain_option (λ n. element.ChannelIndicator n) low (λ x. refl) m.channel, tt)))))))
plain_values (message.Kill m) = (refl, (refl, (refl, (plain_option (λ n. element.ChannelIndicator n) low (λ x. refl) m.channel, tt))))
plain_values (message.KillComplete m) = (refl, (refl, (plain_option (λ counts. element.BroadcastsCompleted counts) plain_counts (λ x. refl) m.counts, (kept (λ cells. element.CellList cells) (λ x. refl) m.cells, (plain_option (λ n. element.ChannelIndicator n) low (λ x. refl) m.channel, tt)))))
plain_values (message.KillFailure m) = (refl, (refl, (refl, (plain_option (λ counts. element.BroadcastsCompleted counts) plain_counts (λ x. refl) m.counts, (kept (λ cells. element.CellList cells) (λ x. refl) m.cells, (plain_option (λ n. element.ChannelIndicator n) low (λ x. refl) m.channel, tt))))))
plain_values (message.StatusQuery m) = (refl, (refl, (refl, (plain_option (λ n. element.ChannelIndicator n) low (λ x. refl) m.channel, tt))))
plain_values (message.StatusComplete m) = (refl, (refl, (refl, (plain_option (λ n. element.ChannelIndicator n) low (λ x. refl) m.channel, tt))))
plain_values (message.StatusFailure m) = (refl, (refl, (refl, (plain_option (λ counts. element.BroadcastsCompleted counts) plain_counts (λ x. refl) m.counts, (plain_option (λ n. element.ChannelIndicator n) low (λ x. refl) m.channel, tt)))))
plain_values (message.Restart m) = (refl, (refl, (refl, tt)))
plain_values (message.Failure m) = (refl, (refl, tt))
plain_values (message.ErrorIndication m) = (refl, (kept (λ n. element.MessageIdentifier n) (λ x. refl) m.message_id, (kept (λ n. element.NewSerialNumber n) (λ x. refl) m.serial, (kept (λ n. element.OldSerialNumber n) (λ x. refl) m.old, (plain_option (λ n. element.ChannelIndicator n) low (λ x. refl) m.channel, tt)))))

type_of-plain : (m : Message) → type_of (plain m) ≡ type_of m
type_of-plain (message.WriteReplace m) = refl
type_of-plain (message.WriteEmergency m) = refl
type_of-plain (message.WriteComplete m) = refl
type_of-plain (message.WriteFailure m) = refl
type_of-plain (message.Kill m) = refl
type_of-plain (message.KillComplete m) = refl
type_of-plain (message.KillFailure m) = refl
type_of-plain (message.StatusQuery m) = refl
type_of-plain (message.StatusComplete m) = refl
type_of-plain (message.StatusFailure m) = refl
type_of-plain (message.Restart m) = refl
type_of-plain (message.Failure m) = refl
type_of-plain (message.ErrorIndication m) = refl

layout_of-plain : (m : Message) → layout_of (plain m) ≡ layout_of m
layout_of-plain (message.WriteReplace m) = refl
layout_of-plain (message.WriteEmergency m) = refl
layout_of-plain (message.WriteComplete m) = refl
layout_of-plain (message.WriteFailure m) = refl
layout_of-plain (message.Kill m) = refl
layout_of-plain (message.KillComplete m) = refl
layout_of-plain (message.KillFailure m) = refl
layout_of-plain (message.StatusQuery m) = refl
layout_of-plain (message.StatusComplete m) = refl
layout_of-plain (message.StatusFailure m) = refl
layout_of-plain (message.Restart m) = refl
layout_of-plain (message.Failure m) = refl
layout_of-plain (message.ErrorIndication m) = refl

HasPages-plain : (m : Message) → HasPages m → HasPages (plain m)
HasPages-plain (message.WriteReplace m) h = h
HasPages-plain (message.WriteEmergency m) h = tt
HasPages-plain (message.WriteComplete m) h = tt
HasPages-plain (message.WriteFailure m) h = tt
HasPages-plain (message.Kill m) h = tt
HasPages-plain (message.KillComplete m) h = tt
HasPages-plain (message.KillFailure m) h = tt
HasPages-plain (message.StatusQuery m) h = tt
HasPages-plain (message.StatusComplete m) h = tt
HasPages-plain (message.StatusFailure m) h = tt
HasPages-plain (message.Restart m) h = tt
HasPages-plain (message.Failure m) h = tt
HasPages-plain (message.ErrorIndication m) h = tt

joined : (ids : List ElementId) (a b c d : ElementId → List Element) → ((which : ElementId) → a which ≡ b which) → AllByRecursion (λ which. b which ≡ c which) ids → AllByRecursion (λ which. c which ≡ d which) ids
    → AllByRecursion (λ which. a which ≡ d which) ids
joined [] a b c d f g h = tt
joined (which ∷ ids) a b c d f g h = (f which ∙ g.0 ∙ h.0, joined ids a b c d f g.1 h.1)

-- the elements of a message as they are read
abbrev plain_elements : Message → List Element
plain_elements m = flat_map (plain_at (parts_of m)) (written_of (layout_of m))

once : (m : Message) → IsOnce (plain_elements m)
once m which other =
    let all = with_id-flat_map (parts_of m) which (written_of (layout_of m)) in
    let few : length (plain_at (parts_of m) which) ≤ 1 = rw (length-map (values_at (parts_of m) which) plain_element) (values_at-once (parts_of m) which other) in
    rw all (elim (picks_few (layout_of m) (plain_at (parts_of m)) which) [ inl own ↦ rw own few | inr none ↦ rw none (omega arith) ])

-- they are laid out as the message is
laid : (m : Message) → layout_at (type_of (plain m)) (λ which. with_id which (plain_elements m)) ≡ layout_of (plain m)
laid (message.WriteReplace m) = rw (with_id-flat_map (parts_of (message.WriteReplace m)) id.EmergencyIndicator (written_of layout.WriteReplace)) refl
laid (message.WriteEmergency m) = rw (with_id-flat_map (parts_of (message.WriteEmergency m)) id.EmergencyIndicator (written_of layout.WriteEmergency)) refl
laid (message.WriteComplete m) = refl
laid (message.WriteFailure m) = refl
laid (message.Kill m) = refl
laid (message.KillComplete m) = refl
laid (message.KillFailure m) = refl
laid (message.StatusQuery m) = refl
laid (message.StatusComplete m) = refl
laid (message.StatusFailure m) = refl
laid (message.Restart m) = refl
laid (message.Failure m) = refl
laid (message.ErrorIndication m) = refl

says : (m : Message) → HasPages m → Says (λ which. with_id which (plain_elements m)) (plain m)
says m pages = (
  subst (λ l. AllByRecursion (λ which. with_id which (plain_elements m) ≡ values_at (parts_of (plain m)) which) (written_of l)) (sym (layout_of-plain m))
      (joined (written_of (layout_of m)) (λ which. with_id which (plain_elements m)) (λ which. picked (plain_at (parts_of m)) which (written_of (layout_of m))) (plain_at (parts_of m)) (values_at (parts_of (plain m)))
      (λ which. with_id-flat_map (parts_of m) which (written_of (layout_of m))) (picks (layout_of m) (plain_at (parts_of m))) (plain_values m)),
  HasPages-plain m pages,
  laid m,
)

pub Spells-written : (m : Message) → AreInRange (parts_of m) → HasShortPages m → Fits m → Spells (types.code_of (type_of m)) (written m) (plain m)
Spells-written m ranges short fits = record {
  is_kind = ap types.code_of (sym (type_of-plain m));
  elements = plain_elements m;
  joined = are_plain_at (parts_of m) (parts_writable m ranges short fits) (written_of (layout_of m));
  once = once m;
  says = says m fits.pages;
}

-- a frame that is written spells the message behind its first four octets
pub Spells-frame : (m : Message) (answer : Result (Vec ℕ) AllocError) → AreInRange (parts_of m) → Fits m → IfOk answer (λ octets. octets.items ≡ frame_of m) → HasShortPages m
    → IfOk answer (λ octets. Spells (types.code_of (type_of m)) (drop 4 octets.items) (plain m))
Spells-frame m (Ok octets) ranges fits frame short = rw frame (Spells-written m ranges short fits)
Spells-frame m (Err e) ranges fits frame short = tt
