-- What orders in turn write.
use Rattle.std.proofs.Common.{◌≡◌, inl, inr, ℕ, ◌+◌, ◌-◌, List, [], ◌∷◌, ◌++◌, Option, Some, None, unwrap_or, Result, Ok, Err, OnOk, IfErr, length, take, refl, sym, ap, ◌∙◌, subst, append_assoc, append-nil}
use Rattle.std.specs.Io.KnownBytes.{Appends}
use Rattle.std.specs.List.{flat_map}
use Rattle.std.specs.Prelude.{slice_get}
use Rattle.std.proofs.KnownBytes.{Appends-nil, Appends-trans}
use Rattle.std.proofs.lemmas.Grind.{flat_map-append}
use Rattle.centre_past.specs.Fits.{AnswerFits}
use Rattle.centre_past.specs.Legal.{all_entries}
use Rattle.centre_events.specs.declared.event.Event.{Event}
use Rattle.link_worker.specs.declared.end.End.{End}
use Rattle.link_worker.specs.declared.end.End.TheVariants as end
use Rattle.centre_events.specs.declared.refusal.Refusal.{Refusal}
use Rattle.centre_events.specs.declared.refusal.Refusal.TheVariants as refusal
use Rattle.link_worker.specs.Ends.{IfShut, IsRefusedEnd, unsent_end}
use Rattle.link_worker.specs.Orders.{EndsAsUnsent, EndsWriting, Gets, IsCutAt, IsOrder, IsRefusedOrder, StopsAtLast, StopsInFrame, Writes, receipt_frame}
use Rattle.link_worker.proofs.ListLemmas.{AllByRecursion-append, last_put}
use Rattle.office.specs.Desks.{DeskState}
use Rattle.office.specs.Helds.{receipt_at}
use Rattle.office.specs.Offices.{IsRefusedIn, IsRefusedSomewhere, IsSameDesk, IsSubmitted}
use Rattle.office.specs.Sendings.{IsRefusedDue, IsSent, IsUnsent, event_for}
use Rattle.office.specs.declared.receipt.Receipt.{Receipt}
use Rattle.office.specs.declared.unsent.Unsent.{Unsent}
use Rattle.office.specs.declared.unsent.Unsent.TheVariants as unsent
use Rattle.office.specs.declared.wake.Wake.{Wake}
use Rattle.office.specs.declared.wake.Wake.TheVariants as wake

-- no receipt came
Gets-none : (b generation : ℕ) (d : DeskState) → Gets b generation d [] d
Gets-none b generation d = record { receipts = sym (append-nil d.receipts); orders = tt; number = refl }

-- room for receipts bears on none of this
Gets-room : (b generation : ℕ) (d e : DeskState) → e ≡ record d { spare = e.spare } → Gets b generation d [] e
Gets-room b generation d e same = record {
  receipts = ap (λ (s : DeskState). s.receipts) same ∙ sym (append-nil d.receipts);
  orders = tt;
  number = ap (λ (s : DeskState). s.number) same;
}

-- some receipts came, and then others
Gets-more : (b generation : ℕ) (c d e : DeskState) (xs ys : List Receipt) → Gets b generation c xs d → Gets b generation d ys e → Gets b generation c (xs ++ ys) e
Gets-more b generation c d e xs ys p q = record {
  receipts = q.receipts ∙ ap (λ rs. rs ++ ys) p.receipts ∙ append_assoc c.receipts xs ys;
  orders = AllByRecursion-append (λ r. IsOrder b generation r.event) xs ys p.orders q.orders;
  number = q.number ∙ p.number;
}

-- nothing is written yet
pub Writes-none : (b generation : ℕ) (d : DeskState) (p : Option (List ℕ)) → Writes b generation d d p p
Writes-none b generation d p = record { more = []; gets = Gets-none b generation d; written = Appends-nil p }

-- to let go of receipts writes nothing
pub Writes-same : (b generation : ℕ) (d e : DeskState) (p : Option (List ℕ)) → IsSameDesk d e → Writes b generation d e p p
Writes-same b generation d e p same = record {
  more = [];
  gets = record { receipts = ap (λ (s : DeskState). s.receipts) same ∙ sym (append-nil d.receipts); orders = tt; number = ap (λ (s : DeskState). s.number) same };
  written = Appends-nil p;
}

-- a refused event writes nothing
pub Writes-room : (b generation : ℕ) (d e : DeskState) (p : Option (List ℕ)) → e ≡ record d { spare = e.spare } → Writes b generation d e p p
Writes-room b generation d e p same = record { more = []; gets = Gets-room b generation d e same; written = Appends-nil p }

-- some orders, and then others
pub Writes-more : (b generation : ℕ) (c d e : DeskState) (p q r : Option (List ℕ)) → Writes b generation c d p q → Writes b generation d e q r → Writes b generation c e p r
Writes-more b generation c d e p q r one two = record {
  more = one.more ++ two.more;
  gets = Gets-more b generation c d e one.more two.more one.gets two.gets;
  written = subst (Appends p r) (sym (flat_map-append receipt_frame one.more two.more)) (Appends-trans p q r _ _ one.written two.written);
}

-- some orders, and then one whose frame is not written to its end
Stops-more : (b generation : ℕ) (c d e : DeskState) (p q r : Option (List ℕ)) (x : End) → Writes b generation c d p q → StopsAtLast b generation d e q r x → StopsAtLast b generation c e p r x
Stops-more b generation c d e p q r x one two =
    let part = take two.count (receipt_frame two.last) in
    record {
      more = one.more ++ two.more;
      last = two.last;
      count = two.count;
      gets = subst (λ rs. Gets b generation c rs e) (sym (append_assoc one.more two.more (two.last ∷ []))) (Gets-more b generation c d e one.more (two.more ++ two.last ∷ []) one.gets two.gets);
      cut = two.cut;
      written = subst (Appends p r)
          (sym (append_assoc (flat_map receipt_frame one.more) (flat_map receipt_frame two.more) part) ∙ ap (λ xs. xs ++ part) (sym (flat_map-append receipt_frame one.more two.more)))
          (Appends-trans p q r _ _ one.written two.written);
    }

-- some orders, and then the end
pub Ends-more : (b generation : ℕ) (c d e : DeskState) (p q r : Option (List ℕ)) (x : End) → Writes b generation c d p q → EndsWriting b generation d e q r x → EndsWriting b generation c e p r x
Ends-more b generation c d e p q r end.PeerEnded one two = absurd two
Ends-more b generation c d e p q r end.CutFrame one two = absurd two
Ends-more b generation c d e p q r end.ReadFault one two = absurd two
Ends-more b generation c d e p q r end.WriteFault one two = Stops-more b generation c d e p q r end.WriteFault one two
Ends-more b generation c d e p q r (end.BadMessage f) one two = absurd two
Ends-more b generation c d e p q r end.TooLong one two = absurd two
Ends-more b generation c d e p q r end.Superseded one two = (Writes-more b generation c d e p q r one two.0, two.1)
Ends-more b generation c d e p q r (end.Refused x) one (inl two) = inl (Writes-more b generation c d e p q r one two.0, two.1)
Ends-more b generation c d e p q r (end.Refused x) one (inr two) = inr (two.0, Stops-more b generation c d e p q r (end.Refused x) one two.1)
Ends-more b generation c d e p q r end.GateShut one two = Stops-more b generation c d e p q r end.GateShut one two

-- room for receipts bears on no refusal
refused_in_room : (d e : DeskState) (event : Event) (r : Refusal) → e ≡ record d { spare = e.spare } → IsRefusedIn d event r → IsRefusedIn e event r
refused_in_room d e event r same why =
    subst (λ s. IsRefusedIn s event r) (sym same) (record {
      centre = why.centre;
      meets = record { lawful = why.meets.lawful; headline = why.meets.headline; entries = why.meets.entries; place = why.meets.place; later = why.meets.later };
      refuses = why.refuses;
    })

pub refused_room : (d e : DeskState) (event : Event) (r : Refusal) → e ≡ record d { spare = e.spare } → IsRefusedSomewhere d event r → IsRefusedSomewhere e event r
refused_room d e event r same (inl memory) = inl memory
refused_room d e event r same (inr (inl wrong)) = inr (inl wrong)
refused_room d e event r same (inr (inr why)) = inr (inr (refused_in_room d e event r same why))

-- an end that a refusal makes
ends_unsent : (b generation : ℕ) (c d : DeskState) (p q : Option (List ℕ)) (x : End) → Writes b generation c d p q → IsRefusedEnd x → EndsAsUnsent b generation d x
    → EndsWriting b generation c d p q x
ends_unsent b generation c d p q end.PeerEnded one refused why = absurd refused
ends_unsent b generation c d p q end.CutFrame one refused why = absurd refused
ends_unsent b generation c d p q end.ReadFault one refused why = absurd refused
ends_unsent b generation c d p q end.WriteFault one refused why = absurd refused
ends_unsent b generation c d p q (end.BadMessage f) one refused why = absurd refused
ends_unsent b generation c d p q end.TooLong one refused why = absurd refused
ends_unsent b generation c d p q end.Superseded one refused why = (one, inl why)
ends_unsent b generation c d p q (end.Refused x) one refused why = inl (one, why)
ends_unsent b generation c d p q end.GateShut one refused why = absurd refused

-- a refusal shuts no gate
pub refused_open : (P : Type 0) (x : End) → IsRefusedEnd x → IfShut P x
refused_open P end.PeerEnded p = tt
refused_open P end.CutFrame p = tt
refused_open P end.ReadFault p = tt
refused_open P end.WriteFault p = tt
refused_open P (end.BadMessage f) p = tt
refused_open P end.TooLong p = tt
refused_open P end.Superseded p = tt
refused_open P (end.Refused r) p = tt
refused_open P end.GateShut p = absurd p

-- what is entered for what is due is an order or a query over the link
due_is_order : (b generation : ℕ) (w : Wake) (e : Event) → event_for b generation w ≡ Some e → IsOrder b generation e
due_is_order b generation wake.Order e is = subst (IsOrder b generation) (ap (λ o. unwrap_or o e) is) (refl, refl)
due_is_order b generation (wake.Query x cells) e is = subst (IsOrder b generation) (ap (λ o. unwrap_or o e) is) (refl, refl)
due_is_order b generation wake.Ended e is = let no : None ≡ Some e = is in cc
due_is_order b generation wake.StaleCentre e is = let no : None ≡ Some e = is in cc

-- what was due is refused
refused_due : (b generation : ℕ) (d : DeskState) (r : Refusal) → IsRefusedDue b generation d r → IsRefusedOrder b generation d r
refused_due b generation d r why = inr (
  why.event,
  due_is_order b generation why.wake why.event why.is_event,
  elim why.cause [
    | inl memory ↦ inl memory
    | inr (inl wrong) ↦ inr (inl (length (all_entries why.centre), wrong))
    | inr (inr refuses) ↦ inr (inr (record { centre = why.centre; meets = refuses.0; refuses = refuses.1 }))
  ],
)

-- nothing was sent, and the desk let go of receipts alone
pub Ends-unsent : (b generation : ℕ) (d e : DeskState) (p : Option (List ℕ)) (u : Unsent) (x : End) → IsSameDesk d e → IsUnsent b generation e u → unsent_end u ≡ Some x → IsRefusedEnd x → EndsWriting b generation d e p p x
Ends-unsent b generation d e p unsent.Ended x same why makes refused = subst (EndsWriting b generation d e p p) (ap (λ o. unwrap_or o x) makes) (Writes-same b generation d e p same, inr why)
Ends-unsent b generation d e p unsent.StaleCentre x same why makes refused = subst (EndsWriting b generation d e p p) (ap (λ o. unwrap_or o x) makes) (inl (Writes-same b generation d e p same, (refusal.Stale, refl, inl (refl, why))))
Ends-unsent b generation d e p (unsent.Refused r) x same why makes refused = ends_unsent b generation d e p p x (Writes-same b generation d e p same) refused (r, makes, refused_due b generation e r why)

-- an order was accepted, and its receipt is the last
module _ (b generation : ℕ) (d e : DeskState) (event : Event) (r : Receipt) (submitted : IsSubmitted d event e) (order : IsOrder b generation event)
    (last : slice_get e.receipts (length e.receipts - 1) ≡ Some r) where
  abbrev put : Receipt
  put = receipt_at (length (all_entries submitted.centre) + 1) event submitted.answer

  is_put : r ≡ put
  is_put = last_put d.receipts e.receipts put r submitted.receipts last

  -- its message fits
  pub receipt_fits : AnswerFits r.answer
  receipt_fits = subst (λ (s : Receipt). AnswerFits s.answer) (sym is_put) submitted.message_fits

  gets : Gets b generation d (r ∷ []) e
  gets = record {
    receipts = submitted.receipts ∙ ap (λ s. d.receipts ++ s ∷ []) (sym is_put);
    orders = (subst (λ (s : Receipt). IsOrder b generation s.event) (sym is_put) order, tt);
    number = submitted.number;
  }

  -- its frame is written
  pub Writes-one : (p q : Option (List ℕ)) → Appends p q (receipt_frame r) → Writes b generation d e p q
  Writes-one p q written = record { more = r ∷ []; gets = gets; written = subst (Appends p q) (sym (append-nil (receipt_frame r))) written }

  -- so many octets of it are written
  stops : (p q : Option (List ℕ)) (x : End) (count : ℕ) → IsCutAt x count (length (receipt_frame r)) → Appends p q (take count (receipt_frame r)) → StopsAtLast b generation d e p q x
  stops p q x count cut written = record { more = []; last = r; count = count; gets = gets; cut = cut; written = written }

  -- its frame is not written to its end
  pub Ends-one : (p q : Option (List ℕ)) (x : End) → StopsInFrame p q (receipt_frame r) x → EndsWriting b generation d e p q x
  Ends-one p q end.PeerEnded part = absurd part
  Ends-one p q end.CutFrame part = absurd part
  Ends-one p q end.ReadFault part = absurd part
  Ends-one p q end.WriteFault part = stops p q end.WriteFault part.count part.short part.appended
  Ends-one p q (end.BadMessage f) part = absurd part
  Ends-one p q end.TooLong part = absurd part
  Ends-one p q end.Superseded part = absurd part
  Ends-one p q (end.Refused x) part = inr (part.0, stops p q (end.Refused x) 0 refl (subst (λ s. Appends p s []) (sym part.1) (Appends-nil p)))
  Ends-one p q end.GateShut part = stops p q end.GateShut 0 refl (subst (λ s. Appends p s []) (sym part) (Appends-nil p))

-- what was due was entered, and its receipt is the last
module _ (b generation : ℕ) (d e : DeskState) (r : Receipt) (sent : IsSent b generation d e) (last : slice_get e.receipts (length e.receipts - 1) ≡ Some r) where
  order : IsOrder b generation sent.event
  order = due_is_order b generation sent.wake sent.event sent.is_event

  pub sent_fits : AnswerFits r.answer
  sent_fits = receipt_fits b generation sent.desk e sent.event r sent.submitted order last

  pub sent_written : (result : Result Unit End) (p q : Option (List ℕ)) → OnOk result (Appends p q (receipt_frame r)) → OnOk result (Writes b generation d e p q)
  sent_written (Ok done) p q written = Writes-more b generation d sent.desk e p p q (Writes-same b generation d sent.desk p sent.same) (Writes-one b generation sent.desk e sent.event r sent.submitted order last p q written)
  sent_written (Err x) p q written = written

  pub sent_ended : (result : Result Unit End) (p q : Option (List ℕ)) → IfErr result (StopsInFrame p q (receipt_frame r)) → IfErr result (EndsWriting b generation d e p q)
  sent_ended (Ok done) p q part = part
  sent_ended (Err x) p q part = Ends-more b generation d sent.desk e p p q x (Writes-same b generation d sent.desk p sent.same) (Ends-one b generation sent.desk e sent.event r sent.submitted order last p q x part)
