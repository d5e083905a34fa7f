-- From what a checkpoint of the centre answers to what a line is answered.
use Rattle.std.proofs.Common.{◌≡◌, ◌⊎◌, inl, inr, ℕ, true, false, length, sym, ap, ◌∙◌, subst}
use Rattle.std.specs.Bool.{MatchBool}
use Rattle.centre_past.specs.Legal.{checkpointed}
use Rattle.centre_events.specs.declared.refusal.Refusal.{Refusal}
use Rattle.centre_events.specs.declared.refusal.Refusal.TheVariants as refusal
use Rattle.console.specs.Sessions.{SessionState, Folds, RespondsOrStarves, Says}
use Rattle.console_text.specs.declared.line.Line.TheVariants as line
use Rattle.console_text.specs.declared.response.Response.{Response}
use Rattle.console_text.specs.declared.response.Response.TheVariants as response
use Rattle.console.proofs.SessionLemmas.{same_session}

-- a whole centre whose entries are folded
pub folded : (old : SessionState) (count : ℕ) (r : Response) (new : SessionState) → old.centre.stale ≡ false → count ≡ length old.centre.journal
    → new.centre ≡ checkpointed old.centre → new.kept ≡ old.kept → r ≡ response.Folded count
    → RespondsOrStarves old line.Checkpoint r new
folded old count r new whole counted centre kept is =
    inl (subst (λ t. MatchBool t (Says old (response.Refused refusal.Stale) r new) (Folds old r new)) (sym whole)
    (is ∙ ap response.Folded counted, same_session old new (checkpointed old.centre) kept centre))

-- a centre that folds none: it is stale, or memory ran out
pub unfolded : (old : SessionState) (e : Refusal) (r : Response) (new : SessionState)
    → ((e ≡ refusal.Stale) × (old.centre.stale ≡ true)) ⊎ ((e ≡ refusal.Memory) × (old.centre.stale ≡ false)) → new ≡ old → r ≡ response.Refused e
    → RespondsOrStarves old line.Checkpoint r new
unfolded old e r new (inl stale) same is =
    inl (subst (λ t. MatchBool t (Says old (response.Refused refusal.Stale) r new) (Folds old r new)) (sym stale.1) (is ∙ ap response.Refused stale.0, same))
unfolded old e r new (inr want) same is = inr (want.1, (is ∙ ap response.Refused want.0, same))
