-- After an accepted event nothing is due for a BSC that it doesn't affect and for which nothing was due.
use Rattle.std.proofs.Common.{◌≡◌, ℕ, ◌+◌, Bool, true, false, ◌&&◌, nat_eq, List, [], ◌∷◌, Option, Some, None, Ok, unwrap_or, if◌then◌else◌, refl, sym, ap, ◌∙◌, arith}
use Rattle.std.proofs.lemmas.Bool.{and_from, and_parts}
use Rattle.std.proofs.lemmas.Bool.Decides.{nat_tests}
use Rattle.std.proofs.lemmas.List.{reverse-append}
use Rattle.std.specs.Option.{is_some}
use Rattle.coverage_plan.specs.declared.edit.Edit.{Edit}
use Rattle.coverage_plan.specs.declared.edit.Edit.TheVariants as edit
use Rattle.order_maker.specs.Grouping.{first}
use Rattle.centre_events.specs.Folding.{base_of}
use Rattle.centre_events.specs.InFlight.{asked_flight, in_flight, is_replied, sent_flight}
use Rattle.centre_events.specs.Links.{is_bsc, is_up, last_link}
use Rattle.centre_events.specs.Past.{Past, After, past_of, position, since}
use Rattle.centre_events.specs.Pending.{pending}
use Rattle.centre_events.specs.Verdict.{add_bsc_checks, answered, ask_checks, edit_answered, remove_bsc_checks, send_answer, send_checks, verdict}
use Rattle.centre_events.specs.declared.answer.Answer.{Answer}
use Rattle.centre_events.specs.declared.answer.Answer.TheVariants as answer
use Rattle.centre_events.specs.declared.entry.Entry.{Entry}
use Rattle.centre_events.specs.declared.event.Event.{Event}
use Rattle.centre_events.specs.declared.event.Event.TheVariants as event
use Rattle.centre_events.specs.declared.in_flight.InFlight.{InFlight}
use Rattle.centre_events.specs.declared.network.Network.{Network}
use Rattle.centre_past.specs.Legal.{Known, Lawful, past}
use Rattle.centre_past.proofs.CheckLemmas.{no_check}
use Rattle.centre_past.proofs.LineLemmas.{entry_of}
use Rattle.centre_past.proofs.UniqueLemmas.{verdict_answered}
use Rattle.office.specs.Affecting.{LeavesIdle, affects, with_entry}
use Rattle.office.specs.Wakes.{is_full, is_linked, query_of}
use Rattle.office.specs.Wishes.{wish_for}
use Rattle.office.specs.declared.wake.Wake.{Wake}
use Rattle.office.specs.declared.wake.Wake.TheVariants as wake
use Rattle.office.specs.declared.wish.Wish.{Wish}
use Rattle.office.proofs.LawfulLemmas.{orders_left_lawful}

-- what is due, by what is told: whether the centre is stale, the link is up, the journal is full, something is in flight, an order is
-- pending, and which query is wished for
abbrev pub due_by : Bool → Bool → Bool → Bool → Bool → Option Wake → Option Wake
due_by stale linked full flying ordered query =
    if stale then Some wake.StaleCentre
    else (if linked then (if full then Some wake.Order else (if flying then None else (if ordered then Some wake.Order else query))) else Some wake.Ended)

-- nothing is due where the link is up still, the journal isn't full, what was in flight is so, and no order is pending that wasn't
idle_stays : (s l l' f f' x x' p p' : Bool) (q : Option Wake) → due_by s l f x p q ≡ None → (l ≡ true → l' ≡ true) → f' ≡ false → (x ≡ true → x' ≡ true) → (l' ≡ true → p' ≡ true → p ≡ true) → due_by s l' f' x' p' q ≡ None
idle_stays true l l' f f' x x' p p' q none up room flying ordered = cc
idle_stays false false l' f f' x x' p p' q none up room flying ordered = cc
idle_stays false true l' true f' x x' p p' q none up room flying ordered = cc
idle_stays false true false false f' x x' p p' q none up room flying ordered = let no : false ≡ true = up refl in cc
idle_stays false true true false true x x' p p' q none up room flying ordered = cc
idle_stays false true true false false x true p p' q none up room flying ordered = refl
idle_stays false true true false false true false p p' q none up room flying ordered = let no : false ≡ true = flying refl in cc
idle_stays false true true false false false false true p' q none up room flying ordered = cc
idle_stays false true true false false false false false true q none up room flying ordered = let no : false ≡ true = ordered refl refl in cc
idle_stays false true true false false false false false false q none up room flying ordered = none

-- The link of a BSC that the event doesn't affect.

-- the BSC is there, with that link, and it is up
abbrev pub StaysUp : Past → Past → ℕ → Type 0
StaysUp past new b = (is_bsc new b ≡ true) × (last_link new b ≡ last_link past b) × (is_up new b ≡ true)

pub same_bsc : (d b : ℕ) → nat_eq d b ≡ true → d ≡ b
same_bsc d b is = grind (arith, nat_tests, is)

pub edit_stays_up : (past : Past) (desk : ℕ) (e : Edit) (a : Answer) → edit_answered past e ≡ Ok a → (b : ℕ) → is_bsc past b ≡ true → is_up past b ≡ true → StaysUp past (After (entry_of desk (event.Edit e) a) past) b
edit_stays_up past desk (edit.AddBsc d) a v b there up = at (nat_eq d b) refl
  where
    absent : is_bsc past d ≡ false
    absent = (no_check (add_bsc_checks past d) (Ok answer.Done) a v).0

    at : (t : Bool) → nat_eq d b ≡ t → (unwrap_or (if t then Some true else None) (is_bsc past b) ≡ true) × (unwrap_or (if t then Some 0 else None) (last_link past b) ≡ last_link past b) × (unwrap_or (if t then Some false else None) (is_up past b) ≡ true)
    at true is =
        let no : false ≡ true = sym absent ∙ ap (is_bsc past) (same_bsc d b is) ∙ there in cc
    at false is = (there, refl, up)
edit_stays_up past desk (edit.RemoveBsc d) a v b there up = at (nat_eq d b) refl
  where
    down : is_up past d ≡ false
    down = (no_check (remove_bsc_checks past d) (Ok answer.Done) a v).1.1.0

    at : (t : Bool) → nat_eq d b ≡ t → (unwrap_or (if t then Some false else None) (is_bsc past b) ≡ true) × (last_link past b ≡ last_link past b) × (is_up past b ≡ true)
    at true is =
        let no : false ≡ true = sym down ∙ ap (is_up past) (same_bsc d b is) ∙ up in cc
    at false is = (there, refl, up)
edit_stays_up past desk (edit.AddCell c d) a v b there up = (there, refl, up)
edit_stays_up past desk (edit.MoveCell c d) a v b there up = (there, refl, up)
edit_stays_up past desk (edit.RemoveCell c) a v b there up = (there, refl, up)
edit_stays_up past desk (edit.AddArea x) a v b there up = (there, refl, up)
edit_stays_up past desk (edit.DropArea x) a v b there up = (there, refl, up)
edit_stays_up past desk (edit.Put x s) a v b there up = (there, refl, up)
edit_stays_up past desk (edit.Cut x s) a v b there up = (there, refl, up)
edit_stays_up past desk (edit.Issue notice areas) a v b there up = (there, refl, up)
edit_stays_up past desk (edit.Update n content) a v b there up = (there, refl, up)
edit_stays_up past desk (edit.Widen n x) a v b there up = (there, refl, up)
edit_stays_up past desk (edit.Narrow n x) a v b there up = (there, refl, up)
edit_stays_up past desk (edit.Stop n) a v b there up = (there, refl, up)
edit_stays_up past desk (edit.Forget n) a v b there up = (there, refl, up)

stays_up : (network : Network) (past : Past) (desk : ℕ) (e : Event) (a : Answer) → answered network past e ≡ Ok a → (b : ℕ) → affects past e b ≡ false → is_bsc past b ≡ true → is_up past b ≡ true → StaysUp past (After (entry_of desk e a) past) b
stays_up network past desk (event.Edit e) a v b other there up = edit_stays_up past desk e a v b there up
stays_up network past desk (event.Retry d) a v b other there up = (there, refl, up)
stays_up network past desk (event.LinkUp d) a v b other there up = (
  there,
  ap (λ t. unwrap_or (if t then Some (position past + 1) else None) (last_link past b)) other,
  ap (λ t. unwrap_or (if t then Some true else None) (is_up past b)) other ∙ up,
)
stays_up network past desk (event.LinkDown d generation) a v b other there up = (there, refl, ap (λ t. unwrap_or (if t then Some false else None) (is_up past b)) other ∙ up)
stays_up network past desk (event.Send d generation) a v b other there up = (there, refl, up)
stays_up network past desk (event.Ask d generation n after) a v b other there up = (there, refl, up)
stays_up network past desk (event.Report d generation m) a v b other there up = (there, refl, up)

-- What is in flight to it.

-- an order or a query is sent only where nothing is in flight
not_sent : (past : Past) (d b : ℕ) (now : Option InFlight) → is_some (in_flight past d) ≡ false → is_some (in_flight past b) ≡ true → is_some (unwrap_or (if nat_eq d b then Some now else None) (in_flight past b)) ≡ true
not_sent past d b now idle flying = at (nat_eq d b) refl
  where
    at : (t : Bool) → nat_eq d b ≡ t → is_some (unwrap_or (if t then Some now else None) (in_flight past b)) ≡ true
    at true is =
        let no : false ≡ true = sym idle ∙ ap (λ n. is_some (in_flight past n)) (same_bsc d b is) ∙ flying in cc
    at false is = flying

stays_flying : (network : Network) (past : Past) (desk : ℕ) (e : Event) (a : Answer) → answered network past e ≡ Ok a → (b : ℕ) → affects past e b ≡ false → is_some (in_flight past b) ≡ true → is_some (in_flight (After (entry_of desk e a) past) b) ≡ true
stays_flying network past desk (event.Edit e) a v b other flying = flying
stays_flying network past desk (event.Retry d) a v b other flying = flying
stays_flying network past desk (event.LinkUp d) a v b other flying = ap (λ t. is_some (unwrap_or (if t && is_up past b then Some None else None) (in_flight past b))) other ∙ flying
stays_flying network past desk (event.LinkDown d generation) a v b other flying = ap (λ t. is_some (unwrap_or (if t then Some None else None) (in_flight past b))) other ∙ flying
stays_flying network past desk (event.Send d generation) a v b other flying =
    not_sent past d b (sent_flight a) (no_check (send_checks past d generation) (send_answer network.broadcasts past (first (pending past d))) a v).1.1.1.0 flying
stays_flying network past desk (event.Ask d generation n after) a v b other flying =
    not_sent past d b (asked_flight a) (no_check (ask_checks past d generation n) _ a v).1.1.1.1.0 flying
stays_flying network past desk (event.Report d generation m) a v b other flying =
    ap (λ t. is_some (unwrap_or (if t && is_replied a then Some None else None) (in_flight past b))) other ∙ flying

-- So nothing is due that wasn't.

linked_stays : (centre : Known) (e : Entry) → verdict centre.settings (past centre) e.event ≡ Ok e.answer → (b generation : ℕ) → affects (past centre) e.event b ≡ false → is_linked centre b generation ≡ true → (is_bsc (After e (past centre)) b && (nat_eq (last_link (After e (past centre)) b) generation && is_up (After e (past centre)) b)) ≡ true
linked_stays centre e v b generation other linked =
    let there = and_parts (is_bsc (past centre) b) (nat_eq (last_link (past centre) b) generation && is_up (past centre) b) linked in
    let parts = and_parts (nat_eq (last_link (past centre) b) generation) (is_up (past centre) b) there.1 in
    let stays : StaysUp (past centre) (After e (past centre)) b = stays_up centre.settings.network (past centre) e.desk e.event e.answer (verdict_answered centre.settings (past centre) e.event e.answer v) b other there.0 parts.1 in
    and_from (is_bsc (After e (past centre)) b) (nat_eq (last_link (After e (past centre)) b) generation && is_up (After e (past centre)) b) stays.0
    (and_from (nat_eq (last_link (After e (past centre)) b) generation) (is_up (After e (past centre)) b) (ap (λ n. nat_eq n generation) stays.1 ∙ parts.0) stays.2)

-- what is due after one more entry, by the past then
abbrev due_then : Known → Entry → List Wish → ℕ → ℕ → Past → Option Wake
due_then centre e wishes b generation now =
    due_by centre.stale (is_bsc now b && (nat_eq (last_link now b) generation && is_up now b)) (is_full (with_entry centre e)) (is_some (in_flight now b)) (is_some (first (pending now b))) (query_of (wish_for wishes b))

pub idle_left : (centre : Known) (e : Entry) → Lawful centre.settings (past centre) → verdict centre.settings (past centre) e.event ≡ Ok e.answer → LeavesIdle centre e
idle_left centre e lawful v wishes b generation other none room =
    let now : past (with_entry centre e) ≡ After e (past centre) = ap (since (base_of (past_of centre.folded))) (reverse-append centre.journal (e ∷ [])) in
    let after : due_then centre e wishes b generation (After e (past centre)) ≡ None =
    idle_stays centre.stale (is_linked centre b generation) (is_bsc (After e (past centre)) b && (nat_eq (last_link (After e (past centre)) b) generation && is_up (After e (past centre)) b)) (is_full centre) (is_full (with_entry centre e)) (is_some (in_flight (past centre) b)) (is_some (in_flight (After e (past centre)) b)) (is_some (first (pending (past centre) b))) (is_some (first (pending (After e (past centre)) b))) (query_of (wish_for wishes b))
    none (linked_stays centre e v b generation other) room
    (stays_flying centre.settings.network (past centre) e.desk e.event e.answer (verdict_answered centre.settings (past centre) e.event e.answer v) b other)
    (λ linked has. orders_left_lawful centre.settings (past centre) e lawful v b other (and_parts (is_bsc (After e (past centre)) b) (nat_eq (last_link (After e (past centre)) b) generation && is_up (After e (past centre)) b) linked).0 has) in
    ap (due_then centre e wishes b generation) now ∙ after
