-- Checks that a lower crate makes refuse an edit as they do there.
use Rattle.std.proofs.Common.{◌≡◌, ◌⊎◌, inl, inr, Bool, true, false, List, [], ◌∷◌, Some, None, Result, Ok, Err, IsErrAnd, IfErr, refl, sym, ◌∙◌, ap}
use Rattle.common.specs.Checks.{first_refusal}
use Rattle.coverage_plan.specs.Checks.{IsRefusal, translated}
use Rattle.coverage_plan.specs.declared.refusal.Refusal.{Refusal}
use Rattle.coverage_plan.specs.declared.refusal.Refusal.TheVariants.{Memory}

pub translated_none : {E : Type 0} (f : E → Refusal) (checks : List (Bool × E)) → first_refusal checks ≡ None → first_refusal (translated f checks) ≡ None
translated_none f [] h = refl
translated_none f ((true, refusal) ∷ checks) h = cc
translated_none f ((false, refusal) ∷ checks) h = translated_none f checks h

pub translated_first : {E : Type 0} (f : E → Refusal) (checks : List (Bool × E)) (refusal : E) → first_refusal checks ≡ Some refusal → first_refusal (translated f checks) ≡ Some (f refusal)
translated_first f [] refusal h = cc
translated_first f ((true, first) ∷ checks) refusal h = let same : first ≡ refusal = cc in ap (λ r. Some (f r)) same
translated_first f ((false, first) ∷ checks) refusal h = translated_first f checks refusal h

-- what a lower crate refuses is refused so
pub refused_by : {A E : Type 0} (f : E → Refusal) (checks : List (Bool × E)) (r : Result A Refusal) (first : E) → IsErrAnd r (λ e. e ≡ f first) → first_refusal checks ≡ Some first → IfErr r (λ e. first_refusal (translated f checks) ≡ Some e)
refused_by f checks (Ok a) first h g = tt
refused_by f checks (Err e) first h g = translated_first f checks first g ∙ ap (λ x. Some x) (sym h)

-- the same behind a check that fails to hold
pub refused_after : {A E : Type 0} (t : Bool) (other : Refusal) (f : E → Refusal) (checks : List (Bool × E)) (r : Result A Refusal) (first : E) → t ≡ false → IsErrAnd r (λ e. e ≡ f first) → first_refusal checks ≡ Some first → IfErr r (λ e. first_refusal ((t, other) ∷ translated f checks) ≡ Some e)
refused_after true other f checks r first fails h g = cc
refused_after false other f checks r first fails h g = refused_by f checks r first h g

-- what a lower crate refuses, or for which it is out of memory, is refused so
pub refusal_by : {A E : Type 0} (f : E → Refusal) (memory : E) (checks : List (Bool × E)) (r : Result A Refusal) (first : E) → f memory ≡ Memory → IsErrAnd r (λ e. e ≡ f first) → (first_refusal checks ≡ Some first) ⊎ ((first ≡ memory) × (first_refusal checks ≡ None)) → IfErr r (IsRefusal (translated f checks))
refusal_by f memory checks (Ok a) first is h g = tt
refusal_by f memory checks (Err e) first is h (inl g) = inl (translated_first f checks first g ∙ ap (λ x. Some x) (sym h))
refusal_by f memory checks (Err e) first is h (inr g) = inr (h ∙ (ap f g.0 ∙ is), translated_none f checks g.1)

-- the same behind a check that fails to hold
pub refusal_after : {A E : Type 0} (t : Bool) (other : Refusal) (f : E → Refusal) (memory : E) (checks : List (Bool × E)) (r : Result A Refusal) (first : E) → t ≡ false → f memory ≡ Memory → IsErrAnd r (λ e. e ≡ f first) → (first_refusal checks ≡ Some first) ⊎ ((first ≡ memory) × (first_refusal checks ≡ None)) → IfErr r (IsRefusal ((t, other) ∷ translated f checks))
refusal_after true other f memory checks r first fails is h g = cc
refusal_after false other f memory checks r first fails is h g = refusal_by f memory checks r first is h g
