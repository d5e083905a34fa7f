-- After a lawful past an event that is accepted makes no order pending for a BSC that it doesn't affect: it is so after its whole.
use Rattle.std.proofs.Common.{List, ◌≡◌, ℕ, true, false, Ok, Err, sym, ap, ◌∙◌, refl, nat_le, if◌then◌else◌}
use Rattle.std.specs.Option.{is_some}
use Rattle.coverage_plan.specs.declared.edit.Edit.{Edit}
use Rattle.coverage_plan.specs.declared.edit.Edit.TheVariants as edit
use Rattle.order_maker.specs.Grouping.{first}
use Rattle.order_maker.specs.declared.order.Order.{Order}
use Rattle.centre_events.specs.Base.{Base}
use Rattle.centre_events.specs.Folding.{base_of, folded, folded_with}
use Rattle.centre_events.specs.Links.{is_bsc}
use Rattle.centre_events.specs.Past.{Past, From, After, entry_count, position}
use Rattle.centre_events.specs.Pending.{pending}
use Rattle.centre_events.specs.Verdict.{answered, is_full, last_position, verdict}
use Rattle.centre_events.specs.declared.entry.Entry.{Entry}
use Rattle.centre_events.specs.declared.event.Event.{Event}
use Rattle.centre_events.specs.declared.event.Event.TheVariants as event
use Rattle.centre_events.specs.declared.refusal.Refusal.TheVariants as refusal
use Rattle.centre_events.specs.declared.settings.Settings.{Settings}
use Rattle.centre_events.proofs.FoldingLemmas.{alike, folded_one}
use Rattle.centre_past.specs.Legal.{HasWhole, Lawful, lasting}
use Rattle.centre_past.proofs.LawfulLemmas.{accepted, counted, whole}
use Rattle.office.specs.Affecting.{LeavesOrders, affects, edit_affects}
use Rattle.office.proofs.PendingLemmas.{orders_left}

-- whom an event affects is told by the base that the past comes to

edit_over : (p : Past) (e : Edit) (b : ℕ) → edit_affects (folded p) e b ≡ edit_affects p e b
edit_over p (edit.AddBsc d) b = refl
edit_over p (edit.RemoveBsc d) b = refl
edit_over p (edit.AddCell c d) b = refl
edit_over p (edit.MoveCell c d) b = refl
edit_over p (edit.RemoveCell c) b = refl
edit_over p (edit.AddArea x) b = refl
edit_over p (edit.DropArea x) b = refl
edit_over p (edit.Put x s) b = refl
edit_over p (edit.Cut x s) b = refl
edit_over p (edit.Issue notice areas) b = refl
edit_over p (edit.Update n content) b = refl
edit_over p (edit.Widen n x) b = refl
edit_over p (edit.Narrow n x) b = refl
edit_over p (edit.Stop n) b = refl
edit_over p (edit.Forget n) b = refl

affects_over : (p : Past) (e : Event) (b : ℕ) → affects (folded p) e b ≡ affects p e b
affects_over p (event.Edit e) b = edit_over p e b
affects_over p (event.Retry d) b = refl
affects_over p (event.LinkUp d) b = refl
affects_over p (event.LinkDown d generation) b = refl
affects_over p (event.Send d generation) b = refl
affects_over p (event.Ask d generation n after) b = refl
affects_over p (event.Report d generation m) b = refl

affects_same : (p q : Past) → base_of p ≡ base_of q → (e : Event) (b : ℕ) → affects p e b ≡ affects q e b
affects_same p q same e b = sym (affects_over p e b) ∙ ap (λ (x : Base). affects (From x) e b) same ∙ affects_over q e b

pending_same : (p q : Past) → base_of p ≡ base_of q → (b : ℕ) → pending p b ≡ pending q b
pending_same p q same b = ap (λ (x : Base). pending (From x) b) same

bsc_same : (p q : Past) → base_of p ≡ base_of q → (b : ℕ) → is_bsc p b ≡ is_bsc q b
bsc_same p q same b = ap (λ (x : Base). x.is_bsc b) same

carried : (p q : Past) (e : Entry) → base_of p ≡ base_of q → LeavesOrders p e → LeavesOrders q e
carried p q e same leaves b other there has =
    let more : base_of (After e p) ≡ base_of (After e q) = folded_one e p ∙ ap (folded_with e) same ∙ sym (folded_one e q) in
    let before : is_some (first (pending p b)) ≡ true = leaves b (affects_same p q same e.event b ∙ other) (bsc_same (After e p) (After e q) more b ∙ there) (ap (λ (orders : List Order). is_some (first orders)) (pending_same (After e p) (After e q) more b) ∙ has) in
    ap (λ (orders : List Order). is_some (first orders)) (pending_same q p (sym same) b) ∙ before

-- an event that is accepted is so after the whole of the past
accepted_whole : (settings : Settings) (past : Past) (e : Entry) (w : HasWhole settings.network past) → verdict settings past e.event ≡ Ok e.answer → verdict (lasting settings.network) w.full e.event ≡ Ok e.answer
accepted_whole settings past e w v = ap (λ t. if t then Err refusal.JournalFull else answered settings.network w.full e.event) room ∙ alike settings.network w.full past w.same e.event ∙ (accepted settings past e.event e.answer v).0
  where
    left : nat_le last_position (position w.full) ≡ false
    left = ap (λ (x : Base). nat_le last_position x.folded) w.same ∙ (accepted settings past e.event e.answer v).1

    few : nat_le last_position (entry_count w.full) ≡ false
    few = ap (nat_le last_position) (counted (lasting settings.network) w.full w.legal) ∙ left

    room : is_full (lasting settings.network) w.full ≡ false
    room = rw (few, left) refl

pub orders_left_lawful : (settings : Settings) (past : Past) (e : Entry) → Lawful settings past → verdict settings past e.event ≡ Ok e.answer → LeavesOrders past e
orders_left_lawful settings past e lawful v =
    let w : HasWhole settings.network past = whole settings past lawful in
    carried w.full past e w.same (orders_left (lasting settings.network) w.full e w.legal (accepted_whole settings past e w v))
