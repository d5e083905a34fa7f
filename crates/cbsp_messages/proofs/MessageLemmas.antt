-- A message is what its elements say, and its elements are neither missing nor too many.
use Rattle.std.proofs.Common.{◌≡◌, ℕ, ◌≤◌, ◌==◌, false, List, [], ◌∷◌, length, map, Option, Some, None, refl, sym, ap, ◌∙◌, arith}
use Rattle.std.specs.List.{AllByRecursion}
use Rattle.std.proofs.lemmas.Bool.{ne_eqb}
use Rattle.std.proofs.lemmas.List.{length-map}
use Rattle.cbsp_ie.specs.declared.element.Element.{Element}
use Rattle.cbsp_ie.specs.declared.element.Element.TheVariants as element
use Rattle.cbsp_ie.specs.declared.element_id.ElementId.{ElementId}
use Rattle.cbsp_ie.specs.declared.element_id.ElementId.TheVariants as id
use Rattle.cbsp_ie.specs.Page.{PageContent}
use Rattle.cbsp_messages.specs.declared.layout.Layout.TheVariants as layout
use Rattle.cbsp_messages.specs.declared.message.Message.{Message}
use Rattle.cbsp_messages.specs.declared.message.Message.TheVariants as message
use Rattle.cbsp_messages.specs.Faults.{HavePages, missing}
use Rattle.cbsp_messages.specs.Layout.{written_of}
use Rattle.cbsp_messages.specs.Message.{layout_of}
use Rattle.cbsp_messages.specs.Parts.{one_of, parts_of, values_at}
use Rattle.cbsp_messages.specs.Spelling.{Says}

one_of_same : {A : Type 0} (make : A → Element) → ((x y : A) → make x ≡ make y → x ≡ y) → (o p : Option A) → one_of make o ≡ one_of make p → o ≡ p
one_of_same make same None None e = refl
one_of_same make same None (Some y) e = absurd cc
one_of_same make same (Some x) None e = absurd cc
one_of_same make same (Some x) (Some y) e = ap (λ z. Some z) (same x y cc)

pages_same : (ps qs : List PageContent) → map (λ page. element.MessageContent page) ps ≡ map (λ page. element.MessageContent page) qs → ps ≡ qs
pages_same [] [] e = refl
pages_same [] (q ∷ qs) e = absurd cc
pages_same (p ∷ ps) [] e = absurd cc
pages_same (p ∷ ps) (q ∷ qs) e =
    let first : p ≡ q = cc in
    let others : ps ≡ qs = pages_same ps qs cc in
    λ i. first i ∷ others i

-- messages of one layout with the same elements are the same
pub one_values : (m n : Message) → layout_of m ≡ layout_of n → AllByRecursion (λ which. values_at (parts_of m) which ≡ values_at (parts_of n) which) (written_of (layout_of m)) → m ≡ n
one_values (message.WriteReplace a) (message.WriteReplace b) t h =
    let e0 : a.message_id ≡ b.message_id = (let e : element.MessageIdentifier a.message_id ∷ [] ≡ element.MessageIdentifier b.message_id ∷ [] = h.0 in cc) in
    let e1 : a.serial ≡ b.serial = (let e : element.NewSerialNumber a.serial ∷ [] ≡ element.NewSerialNumber b.serial ∷ [] = h.1.0 in cc) in
    let e2 = one_of_same (λ n. element.OldSerialNumber n) (λ x y e. cc) a.old b.old h.1.1.0 in
    let e3 : a.cells ≡ b.cells = (let e : element.CellList a.cells ∷ [] ≡ element.CellList b.cells ∷ [] = h.1.1.1.0 in cc) in
    let e4 = one_of_same (λ n. element.ChannelIndicator n) (λ x y e. cc) a.channel b.channel h.1.1.1.1.0 in
    let e5 : a.category ≡ b.category = (let e : element.Category a.category ∷ [] ≡ element.Category b.category ∷ [] = h.1.1.1.1.1.0 in cc) in
    let e6 : a.period ≡ b.period = (let e : element.RepetitionPeriod a.period ∷ [] ≡ element.RepetitionPeriod b.period ∷ [] = h.1.1.1.1.1.1.0 in cc) in
    let e7 : a.requested ≡ b.requested = (let e : element.BroadcastsRequested a.requested ∷ [] ≡ element.BroadcastsRequested b.requested ∷ [] = h.1.1.1.1.1.1.1.0 in cc) in
    let e8 = pages_same a.pages b.pages h.1.1.1.1.1.1.1.1.1.1.0 in
    let e9 : a.dcs ≡ b.dcs = (let e : element.DataCodingScheme a.dcs ∷ [] ≡ element.DataCodingScheme b.dcs ∷ [] = h.1.1.1.1.1.1.1.1.1.0 in cc) in
    λ i. message.WriteReplace (record { message_id = e0 i; serial = e1 i; old = e2 i; cells = e3 i; channel = e4 i; category = e5 i; period = e6 i; requested = e7 i; pages = e8 i; dcs = e9 i })
one_values (message.WriteEmergency a) (message.WriteEmergency b) t h =
    let e0 : a.message_id ≡ b.message_id = (let e : element.MessageIdentifier a.message_id ∷ [] ≡ element.MessageIdentifier b.message_id ∷ [] = h.0 in cc) in
    let e1 : a.serial ≡ b.serial = (let e : element.NewSerialNumber a.serial ∷ [] ≡ element.NewSerialNumber b.serial ∷ [] = h.1.0 in cc) in
    let e2 = one_of_same (λ n. element.OldSerialNumber n) (λ x y e. cc) a.old b.old h.1.1.0 in
    let e3 : a.cells ≡ b.cells = (let e : element.CellList a.cells ∷ [] ≡ element.CellList b.cells ∷ [] = h.1.1.1.0 in cc) in
    let e4 : a.indicator ≡ b.indicator = (let e : element.EmergencyIndicator a.indicator ∷ [] ≡ element.EmergencyIndicator b.indicator ∷ [] = h.1.1.1.1.0 in cc) in
    let e5 : a.warning_type ≡ b.warning_type = (let e : element.WarningType a.warning_type ∷ [] ≡ element.WarningType b.warning_type ∷ [] = h.1.1.1.1.1.0 in cc) in
    let e6 : a.warning_period ≡ b.warning_period = (let e : element.WarningPeriod a.warning_period ∷ [] ≡ element.WarningPeriod b.warning_period ∷ [] = h.1.1.1.1.1.1.0 in cc) in
    let e7 : a.security ≡ b.security = (let e : element.WarningSecurity a.security ∷ [] ≡ element.WarningSecurity b.security ∷ [] = h.1.1.1.1.1.1.1.0 in cc) in
    λ i. message.WriteEmergency (record { message_id = e0 i; serial = e1 i; old = e2 i; cells = e3 i; indicator = e4 i; warning_type = e5 i; warning_period = e6 i; security = e7 i })
one_values (message.WriteComplete a) (message.WriteComplete b) t h =
    let e0 : a.message_id ≡ b.message_id = (let e : element.MessageIdentifier a.message_id ∷ [] ≡ element.MessageIdentifier b.message_id ∷ [] = h.0 in cc) in
    let e1 : a.serial ≡ b.serial = (let e : element.NewSerialNumber a.serial ∷ [] ≡ element.NewSerialNumber b.serial ∷ [] = h.1.0 in cc) in
    let e2 = one_of_same (λ n. element.OldSerialNumber n) (λ x y e. cc) a.old b.old h.1.1.0 in
    let e3 = one_of_same (λ counts. element.BroadcastsCompleted counts) (λ x y e. cc) a.counts b.counts h.1.1.1.0 in
    let e4 = one_of_same (λ cells. element.CellList cells) (λ x y e. cc) a.cells b.cells h.1.1.1.1.0 in
    let e5 = one_of_same (λ n. element.ChannelIndicator n) (λ x y e. cc) a.channel b.channel h.1.1.1.1.1.0 in
    λ i. message.WriteComplete (record { message_id = e0 i; serial = e1 i; old = e2 i; counts = e3 i; cells = e4 i; channel = e5 i })
one_values (message.WriteFailure a) (message.WriteFailure b) t h =
    let e0 : a.message_id ≡ b.message_id = (let e : element.MessageIdentifier a.message_id ∷ [] ≡ element.MessageIdentifier b.message_id ∷ [] = h.0 in cc) in
    let e1 : a.serial ≡ b.serial = (let e : element.NewSerialNumber a.serial ∷ [] ≡ element.NewSerialNumber b.serial ∷ [] = h.1.0 in cc) in
    let e2 = one_of_same (λ n. element.OldSerialNumber n) (λ x y e. cc) a.old b.old h.1.1.0 in
    let e3 : a.failures ≡ b.failures = (let e : element.FailureList a.failures ∷ [] ≡ element.FailureList b.failures ∷ [] = h.1.1.1.0 in cc) in
    let e4 = one_of_same (λ counts. element.BroadcastsCompleted counts) (λ x y e. cc) a.counts b.counts h.1.1.1.1.0 in
    let e5 = one_of_same (λ cells. element.CellList cells) (λ x y e. cc) a.cells b.cells h.1.1.1.1.1.0 in
    let e6 = one_of_same (λ n. element.ChannelIndicator n) (λ x y e. cc) a.channel b.channel h.1.1.1.1.1.1.0 in
    λ i. message.WriteFailure (record { message_id = e0 i; serial = e1 i; old = e2 i; failures = e3 i; counts = e4 i; cells = e5 i; channel = e6 i })
one_values (message.Kill a) (message.Kill b) t h =
    let e0 : a.message_id ≡ b.message_id = (let e : element.MessageIdentifier a.message_id ∷ [] ≡ element.MessageIdentifier b.message_id ∷ [] = h.0 in cc) in
    let e1 : a.serial ≡ b.serial = (let e : element.OldSerialNumber a.serial ∷ [] ≡ element.OldSerialNumber b.serial ∷ [] = h.1.0 in cc) in
    let e2 : a.cells ≡ b.cells = (let e : element.CellList a.cells ∷ [] ≡ element.CellList b.cells ∷ [] = h.1.1.0 in cc) in
    let e3 = one_of_same (λ n. element.ChannelIndicator n) (λ x y e. cc) a.channel b.channel h.1.1.1.0 in
    λ i. message.Kill (record { message_id = e0 i; serial = e1 i; cells = e2 i; channel = e3 i })
one_values (message.KillComplete a) (message.KillComplete b) t h =
    let e0 : a.message_id ≡ b.message_id = (let e : element.MessageIdentifier a.message_id ∷ [] ≡ element.MessageIdentifier b.message_id ∷ [] = h.0 in cc) in
    let e1 : a.serial ≡ b.serial = (let e : element.OldSerialNumber a.serial ∷ [] ≡ element.OldSerialNumber b.serial ∷ [] = h.1.0 in cc) in
    let e2 = one_of_same (λ counts. element.BroadcastsCompleted counts) (λ x y e. cc) a.counts b.counts h.1.1.0 in
    let e3 = one_of_same (λ cells. element.CellList cells) (λ x y e. cc) a.cells b.cells h.1.1.1.0 in
    let e4 = one_of_same (λ n. element.ChannelIndicator n) (λ x y e. cc) a.channel b.channel h.1.1.1.1.0 in
    λ i. message.KillComplete (record { message_id = e0 i; serial = e1 i; counts = e2 i; cells = e3 i; channel = e4 i })
one_values (message.KillFailure a) (message.KillFailure b) t h =
    let e0 : a.message_id ≡ b.message_id = (let e : element.MessageIdentifier a.message_id ∷ [] ≡ element.MessageIdentifier b.message_id ∷ [] = h.0 in cc) in
    let e1 : a.serial ≡ b.serial = (let e : element.OldSerialNumber a.serial ∷ [] ≡ element.OldSerialNumber b.serial ∷ [] = h.1.0 in cc) in
    let e2 : a.failures ≡ b.failures = (let e : element.FailureList a.failures ∷ [] ≡ element.FailureList b.failures ∷ [] = h.1.1.0 in cc) in
    let e3 = one_of_same (λ counts. element.BroadcastsCompleted counts) (λ x y e. cc) a.counts b.counts h.1.1.1.0 in
    let e4 = one_of_same (λ cells. element.CellList cells) (λ x y e. cc) a.cells b.cells h.1.1.1.1.0 in
    let e5 = one_of_same (λ n. element.ChannelIndicator n) (λ x y e. cc) a.channel b.channel h.1.1.1.1.1.0 in
    λ i. message.KillFailure (record { message_id = e0 i; serial = e1 i; failures = e2 i; counts = e3 i; cells = e4 i; channel = e5 i })
one_values (message.StatusQuery a) (message.StatusQuery b) t h =
    let e0 : a.message_id ≡ b.message_id = (let e : element.MessageIdentifier a.message_id ∷ [] ≡ element.MessageIdentifier b.message_id ∷ [] = h.0 in cc) in
    let e1 : a.serial ≡ b.serial = (let e : element.OldSerialNumber a.serial ∷ [] ≡ element.OldSerialNumber b.serial ∷ [] = h.1.0 in cc) in
    let e2 : a.cells ≡ b.cells = (let e : element.CellList a.cells ∷ [] ≡ element.CellList b.cells ∷ [] = h.1.1.0 in cc) in
    let e3 = one_of_same (λ n. element.ChannelIndicator n) (λ x y e. cc) a.channel b.channel h.1.1.1.0 in
    λ i. message.StatusQuery (record { message_id = e0 i; serial = e1 i; cells = e2 i; channel = e3 i })
one_values (message.StatusComplete a) (message.StatusComplete b) t h =
    let e0 : a.message_id ≡ b.message_id = (let e : element.MessageIdentifier a.message_id ∷ [] ≡ element.MessageIdentifier b.message_id ∷ [] = h.0 in cc) in
    let e1 : a.serial ≡ b.serial = (let e : element.OldSerialNumber a.serial ∷ [] ≡ element.OldSerialNumber b.serial ∷ [] = h.1.0 in cc) in
    let e2 : a.counts ≡ b.counts = (let e : element.BroadcastsCompleted a.counts ∷ [] ≡ element.BroadcastsCompleted b.counts ∷ [] = h.1.1.0 in cc) in
    let e3 = one_of_same (λ n. element.ChannelIndicator n) (λ x y e. cc) a.channel b.channel h.1.1.1.0 in
    λ i. message.StatusComplete (record { message_id = e0 i; serial = e1 i; counts = e2 i; channel = e3 i })
one_values (message.StatusFailure a) (message.StatusFailure b) t h =
    let e0 : a.message_id ≡ b.message_id = (let e : element.MessageIdentifier a.message_id ∷ [] ≡ element.MessageIdentifier b.message_id ∷ [] = h.0 in cc) in
    let e1 : a.serial ≡ b.serial = (let e : element.OldSerialNumber a.serial ∷ [] ≡ element.OldSerialNumber b.serial ∷ [] = h.1.0 in cc) in
    let e2 : a.failures ≡ b.failures = (let e : element.FailureList a.failures ∷ [] ≡ element.FailureList b.failures ∷ [] = h.1.1.0 in cc) in
    let e3 = one_of_same (λ counts. element.BroadcastsCompleted counts) (λ x y e. cc) a.counts b.counts h.1.1.1.0 in
    let e4 = one_of_same (λ n. element.ChannelIndicator n) (λ x y e. cc) a.channel b.channel h.1.1.1.1.0 in
    λ i. message.StatusFailure (record { message_id = e0 i; serial = e1 i; failures = e2 i; counts = e3 i; channel = e4 i })
one_values (message.Restart a) (message.Restart b) t h =
    let e0 : a.cells ≡ b.cells = (let e : element.CellList a.cells ∷ [] ≡ element.CellList b.cells ∷ [] = h.0 in cc) in
    let e1 : a.kind ≡ b.kind = (let e : element.BroadcastMessageType a.kind ∷ [] ≡ element.BroadcastMessageType b.kind ∷ [] = h.1.0 in cc) in
    let e2 : a.recovery ≡ b.recovery = (let e : element.RecoveryIndication a.recovery ∷ [] ≡ element.RecoveryIndication b.recovery ∷ [] = h.1.1.0 in cc) in
    λ i. message.Restart (record { cells = e0 i; kind = e1 i; recovery = e2 i })
one_values (message.Failure a) (message.Failure b) t h =
    let e0 : a.failures ≡ b.failures = (let e : element.FailureList a.failures ∷ [] ≡ element.FailureList b.failures ∷ [] = h.0 in cc) in
    let e1 : a.kind ≡ b.kind = (let e : element.BroadcastMessageType a.kind ∷ [] ≡ element.BroadcastMessageType b.kind ∷ [] = h.1.0 in cc) in
    λ i. message.Failure (record { failures = e0 i; kind = e1 i })
one_values (message.ErrorIndication a) (message.ErrorIndication b) t h =
    let e0 : a.cause ≡ b.cause = (let e : element.Cause a.cause ∷ [] ≡ element.Cause b.cause ∷ [] = h.0 in cc) in
    let e1 = one_of_same (λ n. element.MessageIdentifier n) (λ x y e. cc) a.message_id b.message_id h.1.0 in
    let e2 = one_of_same (λ n. element.NewSerialNumber n) (λ x y e. cc) a.serial b.serial h.1.1.0 in
    let e3 = one_of_same (λ n. element.OldSerialNumber n) (λ x y e. cc) a.old b.old h.1.1.1.0 in
    let e4 = one_of_same (λ n. element.ChannelIndicator n) (λ x y e. cc) a.channel b.channel h.1.1.1.1.0 in
    λ i. message.ErrorIndication (record { cause = e0 i; message_id = e1 i; serial = e2 i; old = e3 i; channel = e4 i })
one_values m n t h = absurd cc

not_empty : (n : ℕ) → 1 ≤ n → (n == 0) ≡ false
not_empty n h = ne_eqb n 0 (λ none. omega arith)

pages_there : (pages : List PageContent) → 1 ≤ length pages → (length (map (λ page. element.MessageContent page) pages) == 0) ≡ false
pages_there pages some = not_empty _ (rw (length-map pages (λ page. element.MessageContent page)) some)

-- no demanded element of a message is missing
pub none_missing : (m : Message) (at : ElementId → List Element) → Says at m → missing (layout_of m) at ≡ None
none_missing (message.WriteReplace m) at h = rw (h.0.0, h.0.1.0, h.0.1.1.1.0, h.0.1.1.1.1.1.0, h.0.1.1.1.1.1.1.0, h.0.1.1.1.1.1.1.1.0, h.0.1.1.1.1.1.1.1.1.0, h.0.1.1.1.1.1.1.1.1.1.0, h.0.1.1.1.1.1.1.1.1.1.1.0, pages_there m.pages h.1.0) refl
none_missing (message.WriteEmergency m) at h = rw (h.0.0, h.0.1.0, h.0.1.1.1.0, h.0.1.1.1.1.0, h.0.1.1.1.1.1.0, h.0.1.1.1.1.1.1.0, h.0.1.1.1.1.1.1.1.0) refl
none_missing (message.WriteComplete m) at h = rw (h.0.0, h.0.1.0) refl
none_missing (message.WriteFailure m) at h = rw (h.0.0, h.0.1.0, h.0.1.1.1.0) refl
none_missing (message.Kill m) at h = rw (h.0.0, h.0.1.0, h.0.1.1.0) refl
none_missing (message.KillComplete m) at h = rw (h.0.0, h.0.1.0) refl
none_missing (message.KillFailure m) at h = rw (h.0.0, h.0.1.0, h.0.1.1.0) refl
none_missing (message.StatusQuery m) at h = rw (h.0.0, h.0.1.0, h.0.1.1.0) refl
none_missing (message.StatusComplete m) at h = rw (h.0.0, h.0.1.0, h.0.1.1.0) refl
none_missing (message.StatusFailure m) at h = rw (h.0.0, h.0.1.0, h.0.1.1.0) refl
none_missing (message.Restart m) at h = rw (h.0.0, h.0.1.0, h.0.1.1.0) refl
none_missing (message.Failure m) at h = rw (h.0.0, h.0.1.0) refl
none_missing (message.ErrorIndication m) at h = rw h.0.0 refl

-- the pages of a WRITE-REPLACE that is laid out with them are as many as they should be
pub pages_right : (m : Message) (at : ElementId → List Element) → layout_of m ≡ layout.WriteReplace → Says at m → HavePages at
pages_right (message.WriteReplace m) at t h =
    let count : length (at id.MessageContent) ≡ length m.pages = ap length h.0.1.1.1.1.1.1.1.1.1.1.0 ∙ length-map m.pages (λ page. element.MessageContent page) in
    (omega (arith, h.1.0), omega (arith, h.1.1), h.0.1.1.1.1.1.1.1.1.0 ∙ ap (λ n. element.NumberOfPages n ∷ []) (sym count))
pages_right m at t h = absurd cc
