-- The last of a list is what stands at its last place. The serial numbers of versions follow what is done to these.
use Rattle.std.proofs.Common.{◌≡◌, ℕ, suc, ◌-◌, Bool, true, false, not, cond, List, [], ◌∷◌, ◌++◌, Some, None, map, nat_eq, length, refl, sym, ap, ◌∙◌, arith}
use Rattle.std.proofs.lemmas.List.{map-append}
use Rattle.std.specs.List.{filter, last_or, slice_get}
use Rattle.warning_book.specs.Book.{but_serial}
use Rattle.warning_book.specs.declared.version.Version.{Version}

last_from : {X : Type 0} (x : X) (xs : List X) → last_or (Some x) xs ≡ slice_get (x ∷ xs) (length xs)
last_from x [] = refl
last_from x (y ∷ xs) = last_from y xs

pub last_at : {X : Type 0} (xs : List X) → last_or None xs ≡ slice_get xs (length xs - 1)
last_at [] = refl
last_at (x ∷ xs) = let place : length xs ≡ suc (length xs) - 1 = omega arith in last_from x xs ∙ ap (slice_get (x ∷ xs)) place

-- the serial numbers of the versions, in their order
abbrev pub serials_of : List Version → List ℕ
serials_of vs = map (λ v. v.serial) vs

-- without one of them
abbrev pub other_serials : ℕ → List ℕ → List ℕ
other_serials s ss = filter (λ other. not (nat_eq other s)) ss

-- taking out a version takes out its serial number
pub serials_but : (s : ℕ) (vs : List Version) → serials_of (but_serial s vs) ≡ other_serials s (serials_of vs)
serials_but s [] = refl
serials_but s (v ∷ vs) = step (serials_but s vs) (nat_eq v.serial s)
  where
    step : serials_of (but_serial s vs) ≡ other_serials s (serials_of vs) → (t : Bool) → serials_of (cond (not t) (v ∷ but_serial s vs) (but_serial s vs)) ≡ cond (not t) (v.serial ∷ other_serials s (serials_of vs)) (other_serials s (serials_of vs))
    step rest true = rest
    step rest false = ap (λ ss. v.serial ∷ ss) rest

-- where the version is then put last in the one list, and its serial number in the other, they are still in step
pub serials_followed : (v : Version) (vs us : List Version) (ss ts : List ℕ) → ss ≡ serials_of vs → us ≡ but_serial v.serial vs ++ v ∷ [] → ts ≡ other_serials v.serial ss ++ v.serial ∷ [] → ts ≡ serials_of us
serials_followed v vs us ss ts before versions serials =
    serials
    ∙ ap (λ xs. xs ++ v.serial ∷ []) (ap (other_serials v.serial) before ∙ sym (serials_but v.serial vs))
    ∙ sym (map-append (λ (u : Version). u.serial) (but_serial v.serial vs) (v ∷ []))
    ∙ ap serials_of (sym versions)
