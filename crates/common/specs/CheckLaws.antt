-- What follows where none of an edit's checks holds.
use Rattle.std.proofs.Common.{◌≡◌, Bool, true, false, List, [], ◌∷◌, None, refl}
use Rattle.common.specs.Checks.{first_refusal}

-- each of the checks fails to hold
abbrev pub NoneHolds : {E : Type 0} → List (Bool × E) → Type 0
NoneHolds [] = Unit {0}
NoneHolds (check ∷ checks) = (check.0 ≡ false) × NoneHolds checks

-- an edit that nothing refuses passes each of its checks
pub none_holds : {E : Type 0} (checks : List (Bool × E)) → first_refusal checks ≡ None → NoneHolds checks
none_holds [] h = tt
none_holds ((true, refusal) ∷ checks) h = cc
none_holds ((false, refusal) ∷ checks) h = (refl, none_holds checks h)
