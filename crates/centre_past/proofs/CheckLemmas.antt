-- Checks, and the answer after them.
use Rattle.std.proofs.Common.{◌≡◌, Bool, true, false, List, [], ◌∷◌, ◌++◌, Some, None, Result, Ok, Err, cond, refl, sym, ap, subst}
use Rattle.std.specs.Prelude.{IsOk}
use Rattle.common.specs.CheckLaws.{NoneHolds}
use Rattle.common.specs.Checks.{first_refusal}
use Rattle.coverage_plan.specs.Checks.{translated}
use Rattle.centre_events.specs.Verdict.{unless}
use Rattle.centre_events.specs.declared.answer.Answer.{Answer}
use Rattle.centre_events.specs.declared.refusal.Refusal.{Refusal}

-- an answer that is none of the refusals comes after all checks
pub unless_ok : (checks : List (Bool × Refusal)) (r : Result Answer Refusal) (a : Answer) → unless checks r ≡ Ok a → r ≡ Ok a
unless_ok [] r a h = h
unless_ok (check ∷ checks) r a h = step (unless_ok checks r a) check.0 h
  where
    step : (unless checks r ≡ Ok a → r ≡ Ok a) → (t : Bool) → cond t (Err check.1) (unless checks r) ≡ Ok a → r ≡ Ok a
    step rest true e = cc
    step rest false e = rest e

-- no check of an accepted event held
pub no_check : (checks : List (Bool × Refusal)) (r : Result Answer Refusal) (a : Answer) → unless checks r ≡ Ok a → NoneHolds checks
no_check [] r a h = tt
no_check ((true, refusal) ∷ checks) r a h = cc
no_check ((false, refusal) ∷ checks) r a h = (refl, no_check checks r a h)

-- the checks of a lower crate, whose refusals f says in the centre's words

-- where none of them holds, the answer stands
pub taken : {E : Type 0} (f : E → Refusal) (checks : List (Bool × E)) (r : Result Answer Refusal) → first_refusal checks ≡ None → unless (translated f checks) r ≡ r
taken f [] r h = refl
taken f ((true, e) ∷ checks) r h = cc
taken f ((false, e) ∷ checks) r h = taken f checks r h

-- the first that holds refuses, whatever checks follow
pub refused_first : {E : Type 0} (f : E → Refusal) (checks : List (Bool × E)) (rest : List (Bool × Refusal)) (r : Result Answer Refusal) (e : E) → first_refusal checks ≡ Some e → unless (translated f checks ++ rest) r ≡ Err (f e)
refused_first f [] rest r e h = cc
refused_first f ((true, x) ∷ checks) rest r e h = let same : x ≡ e = cc in ap (λ k. Err (f k)) same
refused_first f ((false, x) ∷ checks) rest r e h = refused_first f checks rest r e h

pub refused : {E : Type 0} (f : E → Refusal) (checks : List (Bool × E)) (r : Result Answer Refusal) (e : E) → first_refusal checks ≡ Some e → unless (translated f checks) r ≡ Err (f e)
refused f [] r e h = cc
refused f ((true, x) ∷ checks) r e h = let same : x ≡ e = cc in ap (λ k. Err (f k)) same
refused f ((false, x) ∷ checks) r e h = refused f checks r e h

-- what is answered after checks none of which holds
pub ok_after : {E : Type 0} (f : E → Refusal) (checks : List (Bool × E)) (r : Result Answer Refusal) → first_refusal checks ≡ None → IsOk r → IsOk (unless (translated f checks) r)
ok_after f checks r h o = subst IsOk (sym (taken f checks r h)) o

-- an answer that is no refusal is what the checks leave
pub ok_is : (checks : List (Bool × Refusal)) (r : Result Answer Refusal) → IsOk (unless checks r) → unless checks r ≡ r
ok_is [] r h = refl
ok_is ((true, e) ∷ checks) r h = cc
ok_is ((false, e) ∷ checks) r h = ok_is checks r h

-- none of them held where the answer stands
pub none_held : {E : Type 0} (f : E → Refusal) (checks : List (Bool × E)) (r : Result Answer Refusal) (a : Answer) → unless (translated f checks) r ≡ Ok a → first_refusal checks ≡ None
none_held f [] r a h = refl
none_held f ((true, e) ∷ checks) r a h = cc
none_held f ((false, e) ∷ checks) r a h = none_held f checks r a h

-- after a check that does not hold
pub past_check : (t : Bool) (e : Refusal) (v w : Result Answer Refusal) → t ≡ false → v ≡ w → cond t (Err e) v ≡ w
past_check true e v w h g = cc
past_check false e v w h g = g

-- after a check that did not hold
pub checked_after : (t : Bool) (e : Refusal) (v : Result Answer Refusal) (a : Answer) → cond t (Err e) v ≡ Ok a → v ≡ Ok a
checked_after true e v a h = cc
checked_after false e v a h = h

-- where none of a lower crate's checks holds, those that follow decide
pub passed : {E : Type 0} (f : E → Refusal) (checks : List (Bool × E)) (rest : List (Bool × Refusal)) (r : Result Answer Refusal) → first_refusal checks ≡ None → unless (translated f checks ++ rest) r ≡ unless rest r
passed f [] rest r h = refl
passed f ((true, e) ∷ checks) rest r h = cc
passed f ((false, e) ∷ checks) rest r h = passed f checks rest r h

-- the centre's own checks: where none holds the answer stands
pub none_left : (checks : List (Bool × Refusal)) (r : Result Answer Refusal) → first_refusal checks ≡ None → unless checks r ≡ r
none_left [] r h = refl
none_left ((true, e) ∷ checks) r h = cc
none_left ((false, e) ∷ checks) r h = none_left checks r h

-- where none holds, those that follow decide
pub none_before : (checks rest : List (Bool × Refusal)) (r : Result Answer Refusal) → first_refusal checks ≡ None → unless (checks ++ rest) r ≡ unless rest r
none_before [] rest r h = refl
none_before ((true, e) ∷ checks) rest r h = cc
none_before ((false, e) ∷ checks) rest r h = none_before checks rest r h

-- none of a lower crate's checks holds before or after some of the centre's own, where the answer stands
pub none_around : {E : Type 0} (f : E → Refusal) (first : List (Bool × E)) (own : List (Bool × Refusal)) (rest : List (Bool × E)) (r : Result Answer Refusal) → IsOk (unless (translated f first ++ (own ++ translated f rest)) r) → first_refusal (first ++ rest) ≡ None
none_around f [] [] [] r ok = refl
none_around f [] [] ((true, e) ∷ rest) r ok = cc
none_around f [] [] ((false, e) ∷ rest) r ok = none_around f [] [] rest r ok
none_around f [] ((true, e) ∷ own) rest r ok = cc
none_around f [] ((false, e) ∷ own) rest r ok = none_around f [] own rest r ok
none_around f ((true, e) ∷ first) own rest r ok = cc
none_around f ((false, e) ∷ first) own rest r ok = none_around f first own rest r ok
