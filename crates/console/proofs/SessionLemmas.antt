-- Events and reports in a whole centre and in a stale one.
use Rattle.std.proofs.Common.{◌≡◌, inl, inr, ℕ, ◌+◌, true, false, Some, Ok, Err, List, [], ◌∷◌, ◌++◌, length, length-append, refl, sym, ap, arith, ◌∙◌}
use Rattle.centre_core.specs.Centre.{Leaves, Refuses}
use Rattle.centre_past.specs.Legal.{Known, all_entries, past}
use Rattle.centre_events.specs.Verdict.{verdict}
use Rattle.centre_past.specs.VerdictLaws.{verdict_is_no_want}
use Rattle.centre_events.specs.declared.answer.Answer.{Answer}
use Rattle.centre_events.specs.declared.entry.Entry.{Entry}
use Rattle.centre_events.specs.declared.event.Event.{Event}
use Rattle.centre_events.specs.declared.refusal.Refusal.{Refusal}
use Rattle.centre_events.specs.declared.refusal.Refusal.TheVariants as refusal
use Rattle.console.specs.Sessions.{SessionState, verdict_in, entry_of, SubmitsOrStarves}
use Rattle.console.specs.declared.kept.Kept.{Kept}
use Rattle.console_text.specs.declared.response.Response.{Response}
use Rattle.console_text.specs.declared.response.Response.TheVariants as response

-- a whole centre answers the verdict, a stale one that it is stale
pub verdict_whole : (old : SessionState) (e : Event) → old.centre.stale ≡ false → verdict_in old e ≡ verdict old.centre.settings (past old.centre) e
verdict_whole old e whole = rw whole refl

verdict_stale : (old : SessionState) (e : Event) → old.centre.stale ≡ true → verdict_in old e ≡ Err refusal.Stale
verdict_stale old e stale = rw stale refl

-- the session of a centre and of generations that are kept
abbrev session_of : Known → List Kept → SessionState
session_of centre kept = record { centre = centre; kept = kept }

pub same_session : (old : SessionState) (new : SessionState) (centre : Known) → new.kept ≡ old.kept → new.centre ≡ centre → new ≡ record old { centre = centre }
same_session old new centre kept same = ap (λ k. session_of new.centre k) kept ∙ ap (λ c. session_of c old.kept) same

-- an event that is refused: nothing changed, or memory ran out and the centre is stale now
pub refused : (old new : SessionState) (e : Event) (r : Refusal) → new.kept ≡ old.kept → Refuses old.centre e r → Leaves old.centre r new.centre
    → SubmitsOrStarves old e (response.Refused r) new
refused old new e r kept (inl stale) (inl same) = inl (verdict_stale old e stale.1 ∙ ap Err (sym stale.0), same_session old new old.centre kept same)
refused old new e r kept (inl stale) (inr left) = absurd (cc (stale.0, left.0))
refused old new e r kept (inr (whole, inl want)) (inl same) =
    inr ((whole, want.1), inl (ap response.Refused want.0, same_session old new old.centre kept same))
refused old new e r kept (inr (whole, inl want)) (inr left) =
    inr ((whole, want.1), inr (ap response.Refused want.0, same_session old new (record old.centre { stale = true }) kept left.1))
refused old new e r kept (inr (whole, inr given)) (inl same) = inl (verdict_whole old e whole ∙ given, same_session old new old.centre kept same)
refused old new e r kept (inr (whole, inr given)) (inr left) =
    absurd (verdict_is_no_want old.centre.settings (past old.centre) e (given ∙ ap Err left.0))

-- one entry more, of those that were folded and those since
one_more : (folded journal : List Entry) (e : Entry) → length (folded ++ (journal ++ e ∷ [])) ≡ length (folded ++ journal) + 1
one_more folded journal e =
    omega (arith, length-append folded (journal ++ e ∷ []), length-append journal (e ∷ []), length-append folded journal)

-- an event that is accepted
pub accepted : (old new : SessionState) (e : Event) (a : Answer) (number : ℕ) → new.kept ≡ old.kept → verdict old.centre.settings (past old.centre) e ≡ Ok a
    → old.centre.stale ≡ false → new.centre ≡ record old.centre { journal = old.centre.journal ++ entry_of e a ∷ [] } → number ≡ length (all_entries new.centre)
    → SubmitsOrStarves old e (response.Accepted number a) new
accepted old new e a number kept is whole entry count =
    inl (
      (verdict_whole old e whole ∙ is, count ∙ ap (λ c. length (all_entries c)) entry ∙ one_more old.centre.folded old.centre.journal (entry_of e a)),
      same_session old new (record old.centre { journal = old.centre.journal ++ entry_of e a ∷ [] }) kept entry,
    )
