-- Nobody is missed: after an accepted event, nothing is due for a link for which nothing was due, if those who wait for its BSC aren't woken.
use Rattle.std.proofs.Common.{◌≡◌, ℕ, Bool, true, false, ◌&&◌, ◌||◌, nat_eq, List, [], ◌∷◌, Option, Some, None, Ok, cond, if◌then◌else◌, ◌++◌, refl, ap, ◌∙◌, subst}
use Rattle.std.proofs.lemmas.Bool.{and_parts}
use Rattle.std.proofs.lemmas.List.{reverse-append}
use Rattle.std.specs.Option.{is_some}
use Rattle.centre_events.specs.Folding.{base_of}
use Rattle.centre_events.specs.Links.{is_bsc, is_up, last_link}
use Rattle.centre_events.specs.Past.{Past, After, past_of, since}
use Rattle.centre_events.specs.Verdict.{answered, verdict}
use Rattle.centre_events.specs.declared.answer.Answer.{Answer}
use Rattle.centre_events.specs.declared.entry.Entry.{Entry}
use Rattle.centre_events.specs.declared.event.Event.{Event}
use Rattle.centre_events.specs.declared.event.Event.TheVariants as event
use Rattle.centre_events.specs.InFlight.{in_flight}
use Rattle.centre_events.specs.declared.network.Network.{Network}
use Rattle.centre_past.specs.Legal.{Known, Lawful, past}
use Rattle.centre_past.specs.LinkStates.{link_state}
use Rattle.centre_past.proofs.LineLemmas.{entry_of}
use Rattle.centre_past.proofs.UniqueLemmas.{verdict_answered}
use Rattle.office.specs.Affecting.{IsDueAtItsBsc, MissesNobody, affects, changes_link, has_work, with_entry}
use Rattle.office.specs.Wakes.{due, due_over, is_full, is_linked, query_of}
use Rattle.office.specs.Wishes.{is_wish_of, wish_for, without_wish}
use Rattle.office.specs.declared.wake.Wake.{Wake}
use Rattle.office.specs.declared.wake.Wake.TheVariants as wake
use Rattle.office.specs.declared.wish.Wish.{Wish}
use Rattle.office.proofs.DueLemmas.{due_by, edit_stays_up, idle_left, same_bsc}

-- where nobody who waits for a BSC is woken: the journal has room, and of a BSC that is affected the latest link is what it was, and nothing
-- is due for it
not_woken : (stale full affected link work : Bool) → (stale || (full || (affected && (link || work)))) ≡ false → (full ≡ false) × (affected ≡ true → (link ≡ false) × (work ≡ false))
not_woken true full affected link work is = cc
not_woken false true affected link work is = cc
not_woken false false true true work is = cc
not_woken false false true false true is = cc
not_woken false false true false false is = (refl, λ yes. (refl, refl))
not_woken false false false link work is = (refl, λ yes. cc)

nothing : (o : Option Wake) → is_some o ≡ false → o ≡ None
nothing None is = refl
nothing (Some w) is = cc

-- nothing is due only for the latest link, which is up
idle_linked : (stale linked : Bool) (over : Option Wake) → (if stale then Some wake.StaleCentre else (if linked then over else Some wake.Ended)) ≡ None → linked ≡ true
idle_linked true linked over none = cc
idle_linked false true over none = refl
idle_linked false false over none = cc

-- an event that brings no link up or down leaves the latest link of a BSC that was up
link_stays : (network : Network) (past : Past) (desk : ℕ) (e : Event) (a : Answer) → answered network past e ≡ Ok a → changes_link e ≡ false → (b : ℕ) → is_bsc past b ≡ true → is_up past b ≡ true → last_link (After (entry_of desk e a) past) b ≡ last_link past b
link_stays network past desk (event.Edit e) a v same b there up = (edit_stays_up past desk e a v b there up).1
link_stays network past desk (event.Retry d) a v same b there up = refl
link_stays network past desk (event.LinkUp d) a v same b there up = cc
link_stays network past desk (event.LinkDown d generation) a v same b there up = cc
link_stays network past desk (event.Send d generation) a v same b there up = refl
link_stays network past desk (event.Ask d generation n after) a v same b there up = refl
link_stays network past desk (event.Report d generation m) a v same b there up = refl

-- so a link for which nothing was due is the latest after it
is_latest : (centre : Known) (e : Entry) → verdict centre.settings (past centre) e.event ≡ Ok e.answer → changes_link e.event ≡ false → (b generation : ℕ) → is_linked centre b generation ≡ true → last_link (past (with_entry centre e)) b ≡ generation
is_latest centre e v same b generation linked =
    let there = and_parts (is_bsc (past centre) b) (nat_eq (last_link (past centre) b) generation && is_up (past centre) b) linked in
    let parts = and_parts (nat_eq (last_link (past centre) b) generation) (is_up (past centre) b) there.1 in
    let now : past (with_entry centre e) ≡ After e (past centre) = ap (since (base_of (past_of centre.folded))) (reverse-append centre.journal (e ∷ [])) in
    let stays : last_link (After e (past centre)) b ≡ last_link (past centre) b = link_stays centre.settings.network (past centre) e.desk e.event e.answer (verdict_answered centre.settings (past centre) e.event e.answer v) same b there.0 parts.1 in
    ap (λ (p : Past). last_link p b) now ∙ stays ∙ same_bsc (last_link (past centre) b) generation parts.0

pub nobody_missed : (centre : Known) (e : Entry) → Lawful centre.settings (past centre) → verdict centre.settings (past centre) e.event ≡ Ok e.answer → MissesNobody centre e
nobody_missed centre e lawful v wishes b generation none quiet = step (affects (past centre) e.event b) refl
  where
    apart : (is_full (with_entry centre e) ≡ false) × (affects (past centre) e.event b ≡ true → (changes_link e.event ≡ false) × (has_work (with_entry centre e) wishes b ≡ false))
    apart = not_woken centre.stale (is_full (with_entry centre e)) (affects (past centre) e.event b) (changes_link e.event) (has_work (with_entry centre e) wishes b) quiet

    step : (t : Bool) → affects (past centre) e.event b ≡ t → due (with_entry centre e) wishes b generation ≡ None
    step false is = idle_left centre e lawful v wishes b generation is none apart.0
    step true is =
        let idle = apart.1 is in
        let linked : is_linked centre b generation ≡ true = idle_linked centre.stale (is_linked centre b generation) (due_over centre wishes b) none in
        subst (λ g. due (with_entry centre e) wishes b g ≡ None) (is_latest centre e v idle.0 b generation linked) (nothing (due (with_entry centre e) wishes b (last_link (past (with_entry centre e)) b)) idle.1)

-- the wish for another BSC is what it was
pub wish_left : (w : Wish) (ws : List Wish) (b : ℕ) → nat_eq w.bsc b ≡ false → wish_for (without_wish w.bsc ws ++ w ∷ []) b ≡ wish_for ws b
wish_left w [] b other = ap (λ t. cond t (Some w) None) other
wish_left w (v ∷ ws) b other = step (wish_left w ws b other) (is_wish_of w.bsc v) refl
  where
    step : wish_for (without_wish w.bsc ws ++ w ∷ []) b ≡ wish_for ws b → (t : Bool) → is_wish_of w.bsc v ≡ t → wish_for (without_wish w.bsc (v ∷ ws) ++ w ∷ []) b ≡ wish_for (v ∷ ws) b
    step rest true e = let at : is_wish_of b v ≡ false = ap (λ n. nat_eq n b) (same_bsc v.bsc w.bsc e) ∙ other in rw (e, at) rest
    step rest false e = rw e (ap (λ o. cond (is_wish_of b v) (Some v) o) rest)

pub others_as_before : (centre : Known) (wishes : List Wish) (w : Wish) → IsDueAtItsBsc centre wishes w
others_as_before centre wishes w b generation other =
    ap (λ (o : Option Wish). due_by centre.stale (is_linked centre b generation) (is_full centre) (is_some (in_flight (past centre) b)) (link_state (past centre) b).has_pending (query_of o)) (wish_left w wishes b other)
