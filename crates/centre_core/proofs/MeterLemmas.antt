-- The lines that are read or set where what is kept is made anew.
use Rattle.std.specs.Prelude.{OnOk, Some, slice_get}
use Rattle.std.proofs.Common.{◌≡◌, ℕ, ◌+◌, ◌-◌, ◌*◌, ◌≤◌, List, Result, Ok, Err, sym, ap, subst, length, take, arith}
use Rattle.kept_tables.specs.declared.spot.Spot.{Spot}
use Rattle.coverage_plan.specs.declared.edit.Edit.{Edit}
use Rattle.coverage_plan.specs.Edited.{edited}
use Rattle.centre_events.specs.Past.{Past, After, past_of}
use Rattle.centre_events.specs.Verdict.{answered, edit_answered, verdict}
use Rattle.centre_events.specs.declared.answer.Answer.{Answer}
use Rattle.centre_events.specs.declared.entry.Entry.{Entry}
use Rattle.centre_events.specs.declared.event.Event.TheVariants as event
use Rattle.centre_events.specs.declared.settings.Settings.{Settings}
use Rattle.centre_past.specs.IsKept.{IsKept}
use Rattle.centre_past.specs.Legal.{Legal}
use Rattle.centre_past.specs.Reach.{edit_reach, reach_of, size}
use Rattle.centre_past.specs.declared.kept.Kept.{Kept}
use Rattle.centre_past.proofs.UniqueLemmas.{verdict_answered}
use Rattle.centre_lines.specs.Following.{Follows, IsLegal, WasReached, most_accesses}
use Rattle.centre_lines.specs.declared.lines_before.LinesBefore.{LinesBefore}
use Rattle.centre_core.specs.Centre.{all_reach}
use Rattle.centre_core.proofs.CentreLemmas.{edit_counted, other_counted}
use Rattle.centre_core.proofs.RebuildLemmas.{Here, here, past_here}

-- how often lines were read or set
abbrev meter_of : Kept → ℕ
meter_of s = s.tables.lines.meter

pub edit_metered : {E : Type 0} (r s t new : Kept) (e : Entry) (edit : Edit) (place : ℕ) (spots : List Spot) (earlier : LinesBefore) (o : Result Unit E) → e.event ≡ event.Edit edit → t ≡ record s { plan = edited edit s.plan } → ((settings : Settings) (past : Past) (a : Answer) → Legal settings past → IsKept past r → edit_answered past edit ≡ Ok a → WasReached past (event.Edit edit) a spots earlier) → ((settings : Settings) (past : Past) (a : Answer) → Legal settings past → IsKept past r → edit_answered past edit ≡ Ok a → meter_of s ≤ meter_of r + 2 * size (edit_reach past edit)) → meter_of new ≤ meter_of t + most_accesses e.event e.answer t.plan.book spots earlier → OnOk o ((x : Follows r e place) → meter_of new ≤ meter_of r + 4 * size (reach_of x.past e.event e.answer))
edit_metered r s t new e edit place spots earlier (Err u) is made reached read now = tt
edit_metered r s t new e edit place spots earlier (Ok u) is made reached read now = λ x.
    let accepted : edit_answered x.past edit ≡ Ok e.answer = verdict_answered x.settings x.past (event.Edit edit) e.answer (subst (λ v. verdict x.settings x.past v ≡ Ok e.answer) is x.accepted) in
    let before : meter_of s ≤ meter_of r + 2 * size (edit_reach x.past edit) = read x.settings x.past e.answer x.legal x.kept accepted in
    let few : most_accesses (event.Edit edit) e.answer t.plan.book spots earlier ≤ size (edit_reach x.past edit) = edit_counted x.past edit e.answer t.plan.book spots earlier (reached x.settings x.past e.answer x.legal x.kept accepted) in
    let is_edit : most_accesses e.event e.answer t.plan.book spots earlier ≡ most_accesses (event.Edit edit) e.answer t.plan.book spots earlier = ap (λ v. most_accesses v e.answer t.plan.book spots earlier) is in
    let same : meter_of t ≡ meter_of s = ap meter_of made in
    let so : size (reach_of x.past e.event e.answer) ≡ size (edit_reach x.past edit) = ap (λ v. size (reach_of x.past v e.answer)) is in
    omega (arith, before, few, is_edit, same, so, now)

pub other_metered : {E : Type 0} (r new : Kept) (e : Entry) (place : ℕ) (spots : List Spot) (earlier : LinesBefore) (o : Result Unit E) → ((settings : Settings) (past : Past) → Legal settings past → IsKept past r → answered settings.network past e.event ≡ Ok e.answer → WasReached past e.event e.answer spots earlier) → meter_of new ≤ meter_of r + most_accesses e.event e.answer r.plan.book spots earlier → OnOk o ((x : Follows r e place) → meter_of new ≤ meter_of r + 4 * size (reach_of x.past e.event e.answer))
other_metered r new e place spots earlier (Err u) reached now = tt
other_metered r new e place spots earlier (Ok u) reached now = λ x.
    let accepted : answered x.settings.network x.past e.event ≡ Ok e.answer = verdict_answered x.settings x.past e.event e.answer x.accepted in
    let few : most_accesses e.event e.answer r.plan.book spots earlier ≤ 3 * size (reach_of x.past e.event e.answer) = other_counted x.past e.event e.answer r.plan.book spots earlier x.kept.booked (reached x.settings x.past x.legal x.kept accepted) in
    omega (arith, few, now)

-- The walk over the journal, one entry further.

further : (past : Past) (e : Entry) (old new : ℕ) → new ≤ old + 4 * size (reach_of past e.event e.answer) → new + 4 * all_reach past ≤ old + 4 * all_reach (After e past)
further past e old new step = omega (arith, step)

pub metered_more : {E : Type 0} (journal : List Entry) (x : IsLegal journal) (place : ℕ) (e : Entry) (s new : Kept) (o : Result Unit E) → 1 ≤ place → place ≤ length journal → Some e ≡ slice_get journal (place - 1) → IsKept (past_of (take (place - 1) journal)) s → OnOk o ((y : Follows s e place) → meter_of new ≤ meter_of s + 4 * size (reach_of y.past e.event e.answer)) → OnOk o (meter_of new + 4 * all_reach (past_of (take (place - 1) journal)) ≤ meter_of s + 4 * all_reach (past_of (take place journal)))
metered_more journal x place e s new (Err u) first last is kept f = tt
metered_more journal x place e s new (Ok u) first last is kept f =
    let found : Here s e (past_of (take (place - 1) journal)) place = here journal x place e s first last is kept in
    subst (λ p. meter_of new + 4 * all_reach (past_of (take (place - 1) journal)) ≤ meter_of s + 4 * all_reach p) (sym (past_here journal place e first last is))
    (further (past_of (take (place - 1) journal)) e (meter_of s) (meter_of new) (subst (λ p. meter_of new ≤ meter_of s + 4 * size (reach_of p e.event e.answer)) found.is_past (f found.follows)))

-- Where the count of lines begins later than the meter.

pub lines_most : (begun old new most : ℕ) → new ≤ old + most → new - begun ≤ old - begun + most
lines_most begun old new most h = omega (arith, h)

pub lines_least : (begun old new : ℕ) → old ≤ new → old - begun ≤ new - begun
lines_least begun old new h = omega (arith, h)

-- what a checkpoint counts isn't among the lines
pub lines_stay : (begun old new : ℕ) → old ≤ new → new - (new - (old - begun)) ≡ old - begun
lines_stay begun old new h = omega (arith, h)

-- a rebuild's lines are those since the copy of the base
pub lines_since : (begun new most : ℕ) → new ≤ begun + most → new - begun ≤ most
lines_since begun new most h = omega (arith, h)
