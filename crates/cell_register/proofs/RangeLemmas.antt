-- What a range of a map or a set gives, one element after another.
use Rattle.std.proofs.Common.{◌≡◌, true, List, [], ◌++◌, Option, None, Some, sym, ◌∙◌, ap, append-nil}
use Rattle.std.specs.List.{list_any}
use Rattle.std.specs.Map.Iter.{TakesFirst}
use Rattle.std.specs.Option.{is_some}

-- there is a first element just where the list is not empty
pub first_there : {A X : Type 0} (shows : A → X) (xs rest : List X) (first : Option A) → TakesFirst shows xs first rest → is_some first ≡ list_any (λ _. true) xs
first_there shows xs rest None h = sym (ap (list_any (λ _. true)) h.0)
first_there shows xs rest (Some x) h = sym (ap (list_any (λ _. true)) h)

-- where nothing is to come, what was found is all
pub all_found : {A : Type 0} (found rest all : List A) → found ++ rest ≡ all → rest ≡ [] → found ≡ all
all_found found rest all h none = sym (append-nil found) ∙ sym (ap (λ xs. found ++ xs) none) ∙ h
