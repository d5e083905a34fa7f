-- What a centre answers, and what always holds of it one entry further.
use Rattle.std.proofs.Common.{◌≡◌, inl, inr, ℕ, ◌+◌, ◌-◌, ◌*◌, ◌^◌, ◌<◌, ◌≤◌, Bool, true, false, List, [], ◌∷◌, ◌++◌, Result, Ok, Err, length, refl, sym, ◌∙◌, ap, subst, arith, length-append}
use Rattle.std.proofs.lemmas.List.{append_assoc, append-nil, reverse-append, length-map}
use Rattle.std.specs.Prelude.{IsErrAnd, IfErr, IsOk}
use Rattle.areas.specs.declared.area.Area.{Area}
use Rattle.cell_register.specs.Register as register
use Rattle.kept_tables.specs.Consistent.{Consistent}
use Rattle.kept_tables.specs.declared.spot.Spot.{Spot}
use Rattle.mirror.specs.Table.{down_at}
use Rattle.warning_book.specs.Book as book
use Rattle.centre_core.specs.Centre.{ComesFrom, IsCentre, IsRefused, IsWhole, Leaves, Refuses, past_over}
use Rattle.centre_past.specs.Links.{AreLinksOf, up_before}
use Rattle.centre_lines.specs.Following.{Finishes, WasReached, bearing, before_past, most_accesses}
use Rattle.centre_past.specs.IsKept.{IsKept, OnlyReadsIn}
use Rattle.centre_past.specs.Facts.{facts}
use Rattle.centre_events.specs.Kept.{Gives, IsChecked, is_edit, register_then, areas_then}
use Rattle.coverage_plan.specs.Edited.{edited}
use Rattle.centre_past.specs.Legal.{CentreState, Known, Legal, lasting, past}
use Rattle.centre_events.specs.Base.{empty_base}
use Rattle.centre_events.specs.Folding.{base_of}
use Rattle.centre_events.proofs.FoldingLemmas.{past_whole}
use Rattle.centre_events.specs.Past.{Past, After, past_of, position, since}
use Rattle.centre_past.specs.Reach.{edit_reach, looked_at, size, reach, reach_of}
use Rattle.centre_events.specs.Verdict.{verdict, answered, edit_answered}
use Rattle.centre_events.specs.Warnings.{book_of, book_then}
use Rattle.centre_events.specs.declared.answer.Answer.{Answer}
use Rattle.coverage_plan.specs.declared.edit.Edit.{Edit}
use Rattle.centre_events.specs.declared.entry.Entry.{Entry}
use Rattle.centre_events.specs.declared.event.Event.{Event}
use Rattle.centre_events.specs.declared.event.Event.TheVariants as event
use Rattle.centre_lines.specs.declared.lines_before.LinesBefore.{LinesBefore}
use Rattle.centre_lines.specs.declared.lines_before.LinesBefore.TheVariants as lines
use Rattle.centre_past.specs.declared.kept.Kept.{Kept}
use Rattle.centre_events.specs.declared.refusal.Refusal.{Refusal}
use Rattle.centre_events.specs.declared.refusal.Refusal.TheVariants.{Stale, Memory, WrongDesk}
use Rattle.centre_events.specs.declared.settings.Settings.{Settings}
use Rattle.centre_past.specs.VerdictLaws.{verdict_is_no_stale, verdict_is_no_want, verdict_is_no_wrong_desk}
use Rattle.centre_past.proofs.AreaLemmas.{areas_with}
use Rattle.centre_core.proofs.FoldedLemmas.{answered_over, edit_size_over, lasting_is, reach_over, room_is}
use Rattle.centre_events.proofs.PastLemmas.{position_journal}
use Rattle.centre_past.proofs.ReadLemmas.{reads_kept}
use Rattle.centre_past.proofs.RegisterLemmas.{register_with}
use Rattle.centre_past.proofs.UniqueLemmas.{verdict_answered}

-- an event that is no edit leaves the register, the areas and the book
pub register_stays : (e : Event) (r : register.State) → is_edit e ≡ false → register_then e r ≡ r
register_stays (event.Edit x) r h = cc
register_stays other r h = refl

pub areas_stay : (e : Event) (l : List Area) → is_edit e ≡ false → areas_then e l ≡ l
areas_stay (event.Edit x) l h = cc
areas_stay other l h = refl

pub book_stays : (e : Event) (st : book.State) → is_edit e ≡ false → book_then e st ≡ st
book_stays (event.Edit x) st h = cc
book_stays other st h = refl

-- what is given where the journal has room
pub given_there : (settings : Settings) (xs ys : List Entry) (e : Event) (r : Result Answer Refusal) → length ys < settings.limit → length xs + length ys < 2 ^ 64 - 1 → Gives (answered settings.network (past_of (xs ++ ys)) e) r → Gives (verdict settings (past_over xs ys) e) r
given_there settings xs ys e r few low given = subst (λ v. Gives v r) (sym (room_is settings xs ys e few low)) given

-- what is found of an edit where the journal has room
pub checked_there : {A : Type 0} (settings : Settings) (xs ys : List Entry) (e : Event) (r : Result A Refusal) → length ys < settings.limit → length xs + length ys < 2 ^ 64 - 1 → IsChecked (answered settings.network (past_of (xs ++ ys)) e) r → IsChecked (verdict settings (past_over xs ys) e) r
checked_there settings xs ys e r few low given = subst (λ v. IsChecked v r) (sym (room_is settings xs ys e few low)) given

-- an event that is accepted is answered so after all entries
pub answered_all : (settings : Settings) (xs ys : List Entry) (e : Event) (a : Answer) → verdict settings (past_over xs ys) e ≡ Ok a → answered settings.network (past_of (xs ++ ys)) e ≡ Ok a
answered_all settings xs ys e a h = sym (answered_over settings.network xs ys e) ∙ verdict_answered settings (past_over xs ys) e a h

-- and accepted after them over the empty base, where there is a number for its entry
pub accepted_all : (settings : Settings) (xs ys : List Entry) (e : Event) (a : Answer) → length xs + length ys < 2 ^ 64 - 1 → verdict settings (past_over xs ys) e ≡ Ok a → verdict (lasting settings.network) (past_of (xs ++ ys)) e ≡ Ok a
accepted_all settings xs ys e a low h = lasting_is settings.network xs ys e low ∙ answered_all settings xs ys e a h

-- Before an event is entered.

-- an edit bears on as many lines whatever it is answered
pub edit_reach_is : (past : Past) (e : Edit) (v : Result Answer Refusal) → reach past (event.Edit e) v ≡ size (edit_reach past e)
edit_reach_is past e (Ok a) = omega arith
edit_reach_is past e (Err x) = omega arith

-- After an edit is made, or at once where the event is none.

abbrev pub finishes : (settings : Settings) (past : Past) (desk : ℕ) (e : Event) (a : Answer) (s t : Kept) (place : ℕ) (up : Bool) (spots : List Spot) (earlier : LinesBefore) → Legal settings past → verdict settings past e ≡ Ok a → IsKept past s → t.plan.register ≡ register_then e s.plan.register → t.plan.areas ≡ areas_then e s.plan.areas → t.plan.book ≡ book_then e s.plan.book → t.links ≡ s.links → t.tables ≡ s.tables → up ≡ up_before past e → place ≡ position past + 1 → WasReached past e a spots earlier → Finishes t e a place up spots earlier
finishes settings past desk e a s t place up spots earlier legal accepted kept registered selected booked linked tables is_up is_place reached = record {
  settings = settings;
  past = past;
  desk = desk;
  legal = legal;
  accepted = accepted;
  registered = rw registered (register_with settings.network (let x : Entry = record { desk = desk; event = e; answer = a } in x) past s.plan.register (verdict_answered settings past e a accepted) kept.registered);
  selected = rw selected (areas_with settings.network (let x : Entry = record { desk = desk; event = e; answer = a } in x) past s.plan.areas (verdict_answered settings past e a accepted) kept.selected);
  booked = booked ∙ ap (book_then e) kept.booked;
  linked = rw linked kept.linked;
  is_up = is_up;
  is_place = is_place;
  downs = λ k b c. ap (λ u. down_at u.lines k b c) tables ∙ kept.downs k b c;
  tables = subst (λ u. Consistent u (facts past)) (sym tables) kept.tables;
  reached = reached;
}

abbrev pub finishes_edit : (settings : Settings) (past : Past) (desk : ℕ) (e : Edit) (a : Answer) (s t : Kept) (place : ℕ) (spots : List Spot) (earlier : LinesBefore) → Legal settings past → verdict settings past (event.Edit e) ≡ Ok a → IsKept past s → t ≡ record s { plan = edited e s.plan } → place ≡ position past + 1 → WasReached past (event.Edit e) a spots earlier → Finishes t (event.Edit e) a place false spots earlier
finishes_edit settings past desk e a s t place spots earlier legal accepted kept made is_place reached =
    finishes settings past desk (event.Edit e) a s t place false spots earlier legal accepted kept (ap (λ (k : Kept). k.plan.register) made) (ap (λ (k : Kept). k.plan.areas) made) (ap (λ (k : Kept). k.plan.book) made) (ap (λ (k : Kept). k.links) made) (ap (λ (k : Kept). k.tables) made) refl is_place reached

abbrev pub finishes_other : (settings : Settings) (past : Past) (desk : ℕ) (e : Event) (a : Answer) (s : Kept) (place : ℕ) (up : Bool) (spots : List Spot) (earlier : LinesBefore) → Legal settings past → verdict settings past e ≡ Ok a → IsKept past s → is_edit e ≡ false → up ≡ up_before past e → place ≡ position past + 1 → WasReached past e a spots earlier → Finishes s e a place up spots earlier
finishes_other settings past desk e a s place up spots earlier legal accepted kept other is_up is_place reached =
    finishes settings past desk e a s s place up spots earlier legal accepted kept (sym (register_stays e s.plan.register other)) (sym (areas_stay e s.plan.areas other)) (sym (book_stays e s.plan.book other)) refl refl is_up is_place reached

-- the number of the next entry
pub next_place : (xs ys : List Entry) → length xs + length ys + 1 ≡ position (past_of (xs ++ ys)) + 1
next_place xs ys = omega (arith, position_journal (xs ++ ys), length-append xs ys)

place_then : (xs ys folded now : List Entry) (last : ℕ) → folded ≡ xs → now ≡ ys → last ≡ length folded + length now → last + 1 ≡ position (past_of (xs ++ ys)) + 1
place_then xs ys folded now last same_folded same is =
    omega (arith, is, ap length same_folded, ap length same, next_place xs ys)

-- reading lines keeps what always holds
pub centre_reads : {settings : Settings} {xs ys : List Entry} {stale : Bool} {b s t : Kept} → IsCentre settings xs ys stale b s → OnlyReadsIn s t → IsCentre settings xs ys stale b t
centre_reads {xs} {ys} {s} {t} sound reads = record {
  few = sound.few;
  long = sound.long;
  legal = sound.legal;
  base = sound.base;
  whole = λ h. reads_kept (past_of (xs ++ ys)) s t (sound.whole h) reads;
}

-- a centre that isn't stale is whole
pub whole_centre : {settings : Settings} {xs ys : List Entry} {stale : Bool} {b s : Kept} → IsCentre settings xs ys stale b s → stale ≡ false → IsWhole settings.network xs ys s
whole_centre sound h = record { legal = sound.legal; kept = sound.whole h }

-- what is seen of a centre says whether it is stale
pub not_stale : {seen now : CentreState} → seen ≡ now → now.known.stale ≡ false → seen.known.stale ≡ false
not_stale same h = ap (λ (v : CentreState). v.known.stale) same ∙ h

-- What is found before an edit is made.

-- what the verdict refuses is refused
pub refused_as : {A : Type 0} (settings : Settings) (before : Past) (e : Event) (r : Result A Refusal) (x : Refusal) → IsErrAnd r (λ y. y ≡ x) → verdict settings before e ≡ Err x → IfErr r (IsRefused settings before e)
refused_as settings before e (Ok free) x h is = tt
refused_as settings before e (Err y) x h is = inr (is ∙ ap Err (sym h))

-- where memory runs out, an event whose verdict is no refusal is refused by `Memory`
pub starved : {A : Type 0} (settings : Settings) (before : Past) (e : Event) (r : Result A Refusal) → IsErrAnd r (λ y. y ≡ Memory) → IsOk (verdict settings before e) → IfErr r (IsRefused settings before e)
starved settings before e (Ok free) h given = tt
starved settings before e (Err y) h given = inl (h, given)

-- the same where the refusal is `Memory`
pub starved_as : {A : Type 0} (settings : Settings) (before : Past) (e : Event) (r : Result A Refusal) (x : Refusal) → IsErrAnd r (λ y. y ≡ x) → x ≡ Memory → IsOk (verdict settings before e) → IfErr r (IsRefused settings before e)
starved_as settings before e (Ok free) x h is given = tt
starved_as settings before e (Err y) x h is given = inl (h ∙ is, given)

answer_in : (v : Result Answer Refusal) → IsOk v → (a : Answer) × (v ≡ Ok a)
answer_in (Ok a) h = (a, refl)
answer_in (Err x) h = cc

-- the lines of an edit that is looked at are read within its reach
pub looked_within : (xs ys : List Entry) (e : Edit) (old new : ℕ) → new ≤ old + size (edit_reach (past_of (xs ++ ys)) e) → new ≤ old + 3 * size (edit_reach (past_over xs ys) e)
looked_within xs ys e old new looks = omega (arith, looks, edit_size_over xs ys e)

-- where it is accepted they are told of and read, and after that those that it may change
pub reached_within : (settings : Settings) (xs ys : List Entry) (s t : Kept) (e : Edit) (old mid new : ℕ) → IsOk (verdict settings (past_over xs ys) (event.Edit e)) → ((settings : Settings) (past : Past) (a : Answer) → Legal settings past → IsKept past t → edit_answered past e ≡ Ok a → new ≤ mid + 2 * size (edit_reach past e)) → IsWhole settings.network xs ys s → OnlyReadsIn s t → mid ≤ old + size (edit_reach (past_of (xs ++ ys)) e) → new ≤ old + 3 * size (edit_reach (past_over xs ys) e)
reached_within settings xs ys s t e old mid new given now centre reads looks =
    let found = answer_in (verdict settings (past_over xs ys) (event.Edit e)) given in
    let kept : IsKept (past_of (xs ++ ys)) t = reads_kept (past_of (xs ++ ys)) s t centre.kept reads in
    let bears : new ≤ mid + 2 * size (edit_reach (past_of (xs ++ ys)) e) = now (lasting settings.network) (past_of (xs ++ ys)) found.0 centre.legal kept (answered_all settings xs ys (event.Edit e) found.0 found.1) in
    omega (arith, bears, looks, edit_size_over xs ys e)

-- those of an event that is looked at alone
looked_in : (past : Past) (e : Event) (v : Result Answer Refusal) → looked_at past e ≤ reach past e v
looked_in past e (Ok a) = omega arith
looked_in past e (Err x) = omega arith

-- What a centre is, one event further.

pub centre_after : {settings : Settings} {xs ys folded now : List Entry} {stale : Bool} {b s t : Kept} → IsCentre settings xs ys stale b s → folded ≡ xs → now ≡ ys → OnlyReadsIn s t → IsCentre settings folded now stale b t
centre_after {settings} {xs} {now} {stale} {b} {t} sound same_folded same reads =
    subst (λ fs. IsCentre settings fs now stale b t) (sym same_folded)
    (subst (λ js. IsCentre settings xs js stale b t) (sym same) (centre_reads sound reads))

-- where the base is copied, it stays what the folded entries come to
pub centre_based : {settings : Settings} {xs ys folded now : List Entry} {stale : Bool} {b base s : Kept} → IsCentre settings xs ys stale b s → folded ≡ xs → now ≡ ys → ((past : Past) → IsKept past b → IsKept past base) → IsCentre settings folded now stale base s
centre_based {settings} {xs} {ys} {now} {stale} {base} {s} sound same_folded same copied =
    subst (λ fs. IsCentre settings fs now stale base s) (sym same_folded)
    (subst (λ js. IsCentre settings xs js stale base s) (sym same) (record { few = sound.few; long = sound.long; legal = sound.legal; base = copied (past_of xs) sound.base; whole = sound.whole }))

-- what is made anew is whole
pub centre_rebuilt : {settings : Settings} {xs ys folded now : List Entry} {stale : Bool} {b base s t : Kept} → IsCentre settings xs ys stale b s → folded ≡ xs → now ≡ ys → ((past : Past) → IsKept past b → IsKept past base) → IsKept (past_of (xs ++ ys)) t → IsCentre settings folded now false base t
centre_rebuilt {settings} {xs} {ys} {now} {base} {t} sound same_folded same copied kept =
    subst (λ fs. IsCentre settings fs now false base t) (sym same_folded)
    (subst (λ js. IsCentre settings xs js false base t) (sym same) (record { few = sound.few; long = sound.long; legal = sound.legal; base = copied (past_of xs) sound.base; whole = λ h. kept }))

-- where memory runs out while an event is entered
pub centre_stale : {settings : Settings} {xs ys folded now : List Entry} {stale : Bool} {b s t : Kept} → IsCentre settings xs ys stale b s → folded ≡ xs → now ≡ ys → IsCentre settings folded now true b t
centre_stale {settings} {xs} {now} {b} {t} sound same_folded same =
    subst (λ fs. IsCentre settings fs now true b t) (sym same_folded)
    (subst (λ js. IsCentre settings xs js true b t) (sym same) (record { few = sound.few; long = sound.long; legal = sound.legal; base = sound.base; whole = λ h. cc }))

pub leaves_stale : (settings : Settings) {xs ys folded now : List Entry} (stale : Bool) (r : Result Answer Refusal) → IsErrAnd r (λ y. y ≡ Memory) → folded ≡ xs → now ≡ ys → IfErr r (λ x. Leaves (record { settings = settings; folded = xs; journal = ys; stale = stale }) x (record { settings = settings; folded = folded; journal = now; stale = true }))
leaves_stale settings stale (Ok a) h same_folded same = tt
leaves_stale settings {xs} {now} stale (Err y) h same_folded same =
    inr (h, ap (λ fs. let known : Known = record { settings = settings; folded = fs; journal = now; stale = true } in known) same_folded ∙ ap (λ js. let known : Known = record { settings = settings; folded = xs; journal = js; stale = true } in known) same)

-- all entries, with one more
all_with : (xs ys : List Entry) (e : Entry) → past_of (xs ++ (ys ++ e ∷ [])) ≡ After e (past_of (xs ++ ys))
all_with xs ys e = ap (λ zs. past_of zs) (sym (append_assoc xs ys (e ∷ []))) ∙ ap (λ zs. since empty_base zs) (reverse-append (xs ++ ys) (e ∷ []))

-- an accepted event is entered
pub centre_entered : {settings : Settings} {xs ys folded now : List Entry} {stale : Bool} {b s t : Kept} {e : Entry} → IsCentre settings xs ys stale b s → length ys < settings.limit → length xs + length ys < 2 ^ 64 - 1 → folded ≡ xs → now ≡ ys ++ e ∷ [] → verdict settings (past_over xs ys) e.event ≡ Ok e.answer → IsKept (After e (past_of (xs ++ ys))) t → IsCentre settings folded now false b t
centre_entered {settings} {xs} {ys} {now} {b} {t} {e} sound few low same_folded same accepted kept =
    subst (λ fs. IsCentre settings fs now false b t) (sym same_folded)
    (subst (λ js. IsCentre settings xs js false b t) (sym same) (record {
      few = sound.few;
      long = omega (arith, few, length-append ys (e ∷ []));
      legal = subst (Legal (lasting settings.network)) (sym (all_with xs ys e)) (accepted_all settings xs ys e.event e.answer low accepted, sound.legal);
      base = sound.base;
      whole = λ h. subst (λ p. IsKept p t) (sym (all_with xs ys e)) kept;
    }))

-- a refusal that is given
pub refuses : (centre : Known) (e : Event) (r : Result Answer Refusal) (x : Refusal) → IsErrAnd r (λ y. y ≡ x) → centre.stale ≡ false → IsRefused centre.settings (past centre) e x → IfErr r (Refuses centre e)
refuses centre e (Ok a) x h whole given = tt
refuses centre e (Err y) x h whole (inl g) = inr (whole, inl (h ∙ g.0, g.1))
refuses centre e (Err y) x h whole (inr g) = inr (whole, inr (g ∙ ap Err (sym h)))

-- the same where memory runs out
pub refuses_starved : (centre : Known) (e : Event) (r : Result Answer Refusal) → IsErrAnd r (λ y. y ≡ Memory) → centre.stale ≡ false → IsOk (verdict centre.settings (past centre) e) → IfErr r (Refuses centre e)
refuses_starved centre e r h whole given = refuses centre e r Memory h whole (inl (refl, given))

-- The lines that were read or set.

-- no more lines are changed by an edit than it bears on
pub edit_counted : (past : Past) (e : Edit) (a : Answer) (st : book.State) (spots : List Spot) (earlier : LinesBefore) → WasReached past (event.Edit e) a spots earlier → most_accesses (event.Edit e) a st spots earlier ≤ size (reach_of past (event.Edit e) a)
edit_counted past e a st spots (lines.Read v) was =
    subst (λ n. n ≤ size (reach_of past (event.Edit e) a)) (sym (ap length was.lines ∙ length-map was.keys (before_past past))) was.few
edit_counted past e a st spots (lines.Unread ns) was = let no : true ≡ false = was.other in cc

-- those on which another event bears are told of, read and set
pub other_counted : (past : Past) (e : Event) (a : Answer) (st : book.State) (spots : List Spot) (earlier : LinesBefore) → st ≡ book_of past → WasReached past e a spots earlier → most_accesses e a st spots earlier ≤ 3 * size (reach_of past e a)
other_counted past e a st spots (lines.Read v) is was =
    let few : length v.items ≤ size (reach_of past e a) = subst (λ n. n ≤ size (reach_of past e a)) (sym (ap length was.lines ∙ length-map was.keys (before_past past))) was.few in
    omega (arith, few)
other_counted past e a st spots (lines.Unread ns) is was =
    let same : length spots * length (bearing e a st ns.items) ≡ size (reach_of past e a) =
    ap (λ b. length spots * length (bearing e a b ns.items)) is ∙ ap (λ n. n * length (bearing e a (book_of past) ns.items)) was.reach.spots_counted ∙ ap (λ n. length (reach_of past e a).spots * n) was.reach.warnings_counted in
    omega (arith, same)

pub within_four : (settings : Settings) (xs ys : List Entry) (e : Event) (old new : ℕ) → new ≤ old + looked_at (past_of (xs ++ ys)) e → new ≤ old + 4 * reach (past_over xs ys) e (verdict settings (past_over xs ys) e)
within_four settings xs ys e old new looks =
    omega (arith, looks, reach_over xs ys e (verdict settings (past_over xs ys) e), looked_in (past_of (xs ++ ys)) e (verdict settings (past_over xs ys) e))

pub edit_lines : (settings : Settings) (past : Past) (e : Edit) (old new : ℕ) → new ≤ old + 3 * size (edit_reach past e) → new ≤ old + 4 * reach past (event.Edit e) (verdict settings past (event.Edit e))
edit_lines settings past e old new h = omega (arith, h, edit_reach_is past e (verdict settings past (event.Edit e)))

pub edit_lines_then : (settings : Settings) (xs ys : List Entry) (e : Edit) (a : Answer) (st : book.State) (old mid new : ℕ) (spots : List Spot) (earlier : LinesBefore) → mid ≤ old + 3 * size (edit_reach (past_over xs ys) e) → new ≤ mid + most_accesses (event.Edit e) a st spots earlier → WasReached (past_of (xs ++ ys)) (event.Edit e) a spots earlier → new ≤ old + 4 * reach (past_over xs ys) (event.Edit e) (verdict settings (past_over xs ys) (event.Edit e))
edit_lines_then settings xs ys e a st old mid new spots earlier before now was =
    omega (arith, before, now, edit_counted (past_of (xs ++ ys)) e a st spots earlier was, edit_size_over xs ys e, edit_reach_is (past_over xs ys) e (verdict settings (past_over xs ys) (event.Edit e)))

pub lines_then : (settings : Settings) (xs ys : List Entry) (e : Event) (a : Answer) (st : book.State) (old mid new : ℕ) (spots : List Spot) (earlier : LinesBefore) → verdict settings (past_over xs ys) e ≡ Ok a → st ≡ book_of (past_of (xs ++ ys)) → mid ≤ old + looked_at (past_of (xs ++ ys)) e → new ≤ mid + most_accesses e a st spots earlier → WasReached (past_of (xs ++ ys)) e a spots earlier → new ≤ old + 4 * reach (past_over xs ys) e (verdict settings (past_over xs ys) e)
lines_then settings xs ys e a st old mid new spots earlier is booked before now was =
    let all : reach (past_over xs ys) e (verdict settings (past_over xs ys) e) ≡ size (reach_of (past_of (xs ++ ys)) e a) + looked_at (past_of (xs ++ ys)) e = ap (reach (past_over xs ys) e) is ∙ reach_over xs ys e (Ok a) in
    omega (arith, before, now, other_counted (past_of (xs ++ ys)) e a st spots earlier booked was, all)

-- What is known where an event is entered.

-- what is answered where an edit is made that is accepted
pub made_there : (settings : Settings) {xs ys : List Entry} {s t : Kept} (e : Edit) (r : Result Answer Refusal) → IsWhole settings.network xs ys s → OnlyReadsIn s t → length ys < settings.limit → length xs + length ys < 2 ^ 64 - 1 → IsOk (verdict settings (past_over xs ys) (event.Edit e)) → ((past : Past) → IsKept past t → IsOk (edit_answered past e) → Gives (edit_answered past e) r) → Gives (verdict settings (past_over xs ys) (event.Edit e)) r
made_there settings {xs} {ys} {s} {t} e r centre reads few low accepted made =
    given_there settings xs ys (event.Edit e) r few low (made (past_of (xs ++ ys)) (reads_kept (past_of (xs ++ ys)) s t centre.kept reads) (subst IsOk (room_is settings xs ys (event.Edit e) few low) accepted))

pub record Enters (t : Kept) (e : Entry) (past : Past) (place : ℕ) (up : Bool) (spots : List Spot) (earlier : LinesBefore) : Type 0 where
  pub known : Finishes t e.event e.answer place up spots earlier
  pub desk : known.desk ≡ e.desk
  pub is_past : known.past ≡ past

pub edit_enters : (settings : Settings) {xs ys folded now : List Entry} {desk : ℕ} {e : Edit} {a : Answer} {entry : Entry} {r s t : Kept} {last : ℕ} {spots : List Spot} {earlier : LinesBefore} → IsWhole settings.network xs ys r → length xs + length ys < 2 ^ 64 - 1 → folded ≡ xs → now ≡ ys → last ≡ length folded + length now → OnlyReadsIn r s → verdict settings (past_over xs ys) (event.Edit e) ≡ Ok a → t ≡ record s { plan = edited e s.plan } → entry ≡ record { desk = desk; event = event.Edit e; answer = a } → WasReached (past_of (xs ++ ys)) (event.Edit e) a spots earlier → Enters t entry (past_of (xs ++ ys)) (last + 1) false spots earlier
edit_enters settings {xs} {ys} {folded} {now} {desk} {e} {a} {r} {s} {t} {last} {spots} {earlier} centre low same_folded same is reads accepted made entered reached =
    subst (λ x. Enters t x (past_of (xs ++ ys)) (last + 1) false spots earlier) (sym entered) (record {
      known = finishes_edit (lasting settings.network) (past_of (xs ++ ys)) desk e a s t (last + 1) spots earlier centre.legal (accepted_all settings xs ys (event.Edit e) a low accepted) (reads_kept (past_of (xs ++ ys)) r s centre.kept reads) made (place_then xs ys folded now last same_folded same is) reached;
      desk = refl;
      is_past = refl;
    })

pub other_enters : (settings : Settings) {xs ys folded now : List Entry} {desk : ℕ} {e : Event} {a : Answer} {entry : Entry} {r s : Kept} {last : ℕ} {up : Bool} {spots : List Spot} {earlier : LinesBefore} → IsWhole settings.network xs ys r → length xs + length ys < 2 ^ 64 - 1 → folded ≡ xs → now ≡ ys → last ≡ length folded + length now → OnlyReadsIn r s → verdict settings (past_over xs ys) e ≡ Ok a → is_edit e ≡ false → entry ≡ record { desk = desk; event = e; answer = a } → ((past : Past) → AreLinksOf past s.links → up ≡ up_before past entry.event) → WasReached (past_of (xs ++ ys)) e a spots earlier → Enters s entry (past_of (xs ++ ys)) (last + 1) up spots earlier
other_enters settings {xs} {ys} {folded} {now} {desk} {e} {a} {r} {s} {last} {up} {spots} {earlier} centre low same_folded same is reads accepted other entered up_is reached =
    subst (λ x. Enters s x (past_of (xs ++ ys)) (last + 1) up spots earlier) (sym entered) (record {
      known = finishes_other (lasting settings.network) (past_of (xs ++ ys)) desk e a s (last + 1) up spots earlier centre.legal (accepted_all settings xs ys e a low accepted) kept other (up_is (past_of (xs ++ ys)) kept.linked ∙ ap (λ (x : Entry). up_before (past_of (xs ++ ys)) x.event) entered) (place_then xs ys folded now last same_folded same is) reached;
      desk = refl;
      is_past = refl;
    })
  where
    kept : IsKept (past_of (xs ++ ys)) s
    kept = reads_kept (past_of (xs ++ ys)) r s centre.kept reads

-- what is kept then
pub kept_entered : {t new : Kept} {e : Entry} {past : Past} {place : ℕ} {up : Bool} {spots : List Spot} {earlier : LinesBefore} → Enters t e past place up spots earlier → ((x : Finishes t e.event e.answer place up spots earlier) → IsKept (After (record { desk = x.desk; event = e.event; answer = e.answer }) x.past) new) → IsKept (After e past) new
kept_entered {new} {e} x f =
    subst (λ p. IsKept (After e p) new) x.is_past (subst (λ d. IsKept (After (record { desk = d; event = e.event; answer = e.answer }) x.known.past) new) x.desk (f x.known))

pub entry_accepted : (settings : Settings) (past : Past) {desk : ℕ} {e : Event} {a : Answer} {entry : Entry} → verdict settings past e ≡ Ok a → entry ≡ record { desk = desk; event = e; answer = a } → verdict settings past entry.event ≡ Ok entry.answer
entry_accepted settings past accepted is = subst (λ (x : Entry). verdict settings past x.event ≡ Ok x.answer) (sym is) accepted

-- Where entries are folded.

-- what is kept of all entries becomes the base
pub centre_folded : {settings : Settings} {xs ys folded now : List Entry} {stale : Bool} {b base s : Kept} → IsCentre settings xs ys stale b s → folded ≡ xs ++ ys → now ≡ [] → IsKept (past_of (xs ++ ys)) base → IsCentre settings folded now stale base s
centre_folded {settings} {xs} {ys} {now} {stale} {base} {s} sound all none kept =
    subst (λ fs. IsCentre settings fs now stale base s) (sym all)
    (subst (λ js. IsCentre settings (xs ++ ys) js stale base s) (sym none) (record {
      few = sound.few;
      long = omega arith;
      legal = subst (λ zs. Legal (lasting settings.network) (past_of zs)) (sym (append-nil (xs ++ ys))) sound.legal;
      base = kept;
      whole = λ h. subst (λ zs. IsKept (past_of zs) s) (sym (append-nil (xs ++ ys))) (sound.whole h);
    }))

-- the past comes to the same base
pub folded_same : (xs ys : List Entry) {folded now : List Entry} → folded ≡ xs ++ ys → now ≡ [] → base_of (past_over folded now) ≡ base_of (past_over xs ys)
folded_same xs ys {now} all none =
    ap (λ fs. base_of (past_over fs now)) all ∙ ap (λ js. base_of (past_over (xs ++ ys) js)) none ∙ sym (past_whole xs ys)

-- Where a refusal comes from.

comes_from : (centre : Known) (e : Event) (r : Refusal) → Refuses centre e r → ComesFrom centre e r
comes_from centre e Stale (inl (is, stale)) = stale
comes_from centre e Stale (inr (whole, inl (is, may))) = absurd (let no : Stale ≡ Memory = is in cc)
comes_from centre e Stale (inr (whole, inr given)) = absurd (verdict_is_no_stale centre.settings (past centre) e given)
comes_from centre e Memory (inl (is, stale)) = absurd (let no : Memory ≡ Stale = is in cc)
comes_from centre e Memory (inr (whole, inl (is, may))) = (whole, may)
comes_from centre e Memory (inr (whole, inr given)) = absurd (verdict_is_no_want centre.settings (past centre) e given)
comes_from centre e (WrongDesk position) (inl (is, stale)) = let no : WrongDesk position ≡ Stale = is in cc
comes_from centre e (WrongDesk position) (inr (whole, inl (is, may))) = let no : WrongDesk position ≡ Memory = is in cc
comes_from centre e (WrongDesk position) (inr (whole, inr given)) = verdict_is_no_wrong_desk centre.settings (past centre) e position given
comes_from centre e r (inl (is, stale)) = absurd (let no : r ≡ Stale = is in cc)
comes_from centre e r (inr (whole, inl (is, may))) = absurd (let no : r ≡ Memory = is in cc)
comes_from centre e r (inr (whole, inr given)) = (whole, given)

pub comes_if : (centre : Known) (e : Event) (o : Result Answer Refusal) → IfErr o (Refuses centre e) → IfErr o (ComesFrom centre e)
comes_if centre e (Ok a) h = tt
comes_if centre e (Err r) h = comes_from centre e r h
