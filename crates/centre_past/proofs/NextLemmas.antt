-- The versions of a warning after an Update: each serial number that a version had is one of a version still, and so is
-- the one that was given.
use Rattle.std.proofs.Common.{◌≡◌, ℕ, Bool, true, false, ◌||◌, not, nat_eq, List, [], ◌∷◌, ◌++◌, Option, Some, None, filter, cond, refl, sym, ◌∙◌, ap, eqb-true, eq-eqb}
use Rattle.std.specs.Prelude.{find}
use Rattle.std.specs.Cmp.{unsigned_Decides}
use Rattle.std.specs.List.{list_any}
use Rattle.std.specs.Option.{option_or}
use Rattle.std.proofs.lemmas.Bool.{and_parts, or_left, or_right, or_parts, not-true}
use Rattle.std.proofs.lemmas.List.Folds.{list_any-append}
use Rattle.common.specs.OnceLaws.{turned}
use Rattle.common.specs.OrderLaws.{find_passes}
use Rattle.serials.specs.Serials.{update_of, next_of}
use Rattle.warning_book.specs.Book.{but_serial, followed, has_serial, last_serial, version_after, with_next}
use Rattle.warning_book.specs.declared.content.Content.{Content}
use Rattle.warning_book.specs.declared.version.Version.{Version}
use Rattle.centre_events.specs.Facts.{version_at}
use Rattle.centre_events.specs.Stepping.{same_update, updates_once}
use Rattle.centre_events.specs.Warnings.{is_version}
use Rattle.centre_past.proofs.LineLemmas.{version_more}
use Rattle.centre_past.proofs.StepLemmas.{none_later}

-- Which serial numbers there are.

-- all but one are left where that one leaves
any_but_serial : (s t : ℕ) → nat_eq t s ≡ false → (vs : List Version) → list_any (is_version t) (but_serial s vs) ≡ list_any (is_version t) vs
any_but_serial s t other [] = refl
any_but_serial s t other (v ∷ vs) = step (nat_eq v.serial s) refl (any_but_serial s t other vs)
  where
    apart : nat_eq v.serial s ≡ true → nat_eq v.serial t ≡ false
    apart e = ap (λ k. nat_eq k t) (eqb-true v.serial s e) ∙ turned nat_eq unsigned_Decides s t ∙ other

    step : (u : Bool) → nat_eq v.serial s ≡ u → list_any (is_version t) (but_serial s vs) ≡ list_any (is_version t) vs → list_any (is_version t) (cond (not u) (v ∷ but_serial s vs) (but_serial s vs)) ≡ (nat_eq v.serial t || list_any (is_version t) vs)
    step true e rest = rest ∙ ap (λ x. x || list_any (is_version t) vs) (sym (apart e))
    step false e rest = ap (λ x. nat_eq v.serial t || x) rest

-- none leaves where no version has it
none_leaves : (s : ℕ) (vs : List Version) → list_any (is_version s) vs ≡ false → but_serial s vs ≡ vs
none_leaves s [] h = refl
none_leaves s (v ∷ vs) h =
    let parts = or_parts (nat_eq v.serial s) (list_any (is_version s) vs) h in
    ap (λ t. cond (not t) (v ∷ but_serial s vs) (but_serial s vs)) parts.0 ∙ ap (λ us. v ∷ us) (none_leaves s vs parts.1)

-- so an Update whose serial number no version has adds one alone
pub next_new : (content : Content) (s : ℕ) (vs : List Version) → last_serial vs ≡ Some s → list_any (is_version (next_of s)) vs ≡ false → with_next content vs ≡ vs ++ version_after content s ∷ []
next_new content s vs last none = ap (λ o. followed content o vs) last ∙ ap (λ us. us ++ version_after content s ∷ []) (none_leaves (next_of s) vs none)

-- an Update keeps each serial number
pub next_keeps : (content : Content) (s : ℕ) (vs : List Version) → list_any (is_version s) vs ≡ true → list_any (is_version s) (with_next content vs) ≡ true
next_keeps content s vs h = step (last_serial vs)
  where
    step : (o : Option ℕ) → list_any (is_version s) (followed content o vs) ≡ true
    step None = h
    step (Some t) = list_any-append (is_version s) (but_serial (next_of t) vs) (version_after content t ∷ []) ∙ at (nat_eq s (next_of t)) refl
      where
        at : (u : Bool) → nat_eq s (next_of t) ≡ u → (list_any (is_version s) (but_serial (next_of t) vs) || (nat_eq (next_of t) s || false)) ≡ true
        at true e =
            or_right (list_any (is_version s) (but_serial (next_of t) vs)) (nat_eq (next_of t) s || false) (or_left (nat_eq (next_of t) s) false (turned nat_eq unsigned_Decides (next_of t) s ∙ e))
        at false e =
            or_left (list_any (is_version s) (but_serial (next_of t) vs)) (nat_eq (next_of t) s || false) (any_but_serial (next_of t) s e vs ∙ h)

-- and gives one
pub next_there : (content : Content) (s : ℕ) (vs : List Version) → last_serial vs ≡ Some s → list_any (is_version (next_of s)) (with_next content vs) ≡ true
next_there content s vs last =
    ap (λ o. list_any (is_version (next_of s)) (followed content o vs)) last
    ∙ list_any-append (is_version (next_of s)) (but_serial (next_of s) vs) (version_after content s ∷ [])
    ∙ or_right (list_any (is_version (next_of s)) (but_serial (next_of s) vs)) (nat_eq (next_of s) (next_of s) || false) (or_left (nat_eq (next_of s) (next_of s)) false (eq-eqb (next_of s) (next_of s) refl))

-- Which version has an update number.

find_kept : {A : Type 0} (p q : A → Bool) (xs : List A) (x : A) → find p xs ≡ Some x → q x ≡ true → find p (filter q xs) ≡ Some x
find_kept p q [] x h g = cc
find_kept p q (y ∷ ys) x h g = step (find_kept p q ys x) (p y) refl h
  where
    step : (find p ys ≡ Some x → q x ≡ true → find p (filter q ys) ≡ Some x) → (t : Bool) → p y ≡ t → cond t (Some y) (find p ys) ≡ Some x → find p (cond (q y) (y ∷ filter q ys) (filter q ys)) ≡ Some x
    step rest true e f =
        let same : y ≡ x = cc in
        ap (λ t. find p (cond t (y ∷ filter q ys) (filter q ys))) (ap q same ∙ g) ∙ ap (λ t. cond t (Some y) (find p (filter q ys))) e ∙ ap (λ z. Some z) same
    step rest false e f = kept (q y)
      where
        kept : (t : Bool) → find p (cond t (y ∷ filter q ys) (filter q ys)) ≡ Some x
        kept true = ap (λ t. cond t (Some y) (find p (filter q ys))) e ∙ rest f g
        kept false = rest f g

find_none : {A : Type 0} (p q : A → Bool) (xs : List A) → find p xs ≡ None → find p (filter q xs) ≡ None
find_none p q [] h = refl
find_none p q (y ∷ ys) h = step (find_none p q ys) (p y) refl h
  where
    step : (find p ys ≡ None → find p (filter q ys) ≡ None) → (t : Bool) → p y ≡ t → cond t (Some y) (find p ys) ≡ None → find p (cond (q y) (y ∷ filter q ys) (filter q ys)) ≡ None
    step rest true e f = cc
    step rest false e f = kept (q y)
      where
        kept : (t : Bool) → find p (cond t (y ∷ filter q ys) (filter q ys)) ≡ None
        kept true = ap (λ t. cond t (Some y) (find p (filter q ys))) e ∙ rest f
        kept false = rest f

find_more : {A : Type 0} (p : A → Bool) (xs ys : List A) (x : A) → find p xs ≡ Some x → find p (xs ++ ys) ≡ Some x
find_more p [] ys x h = cc
find_more p (y ∷ xs) ys x h = step (find_more p xs ys x) (p y) h
  where
    step : (find p xs ≡ Some x → find p (xs ++ ys) ≡ Some x) → (t : Bool) → cond t (Some y) (find p xs) ≡ Some x → cond t (Some y) (find p (xs ++ ys)) ≡ Some x
    step rest true g = g
    step rest false g = rest g

-- where the version of an update number leaves, no other has it
find_gone : (s u : ℕ) (vs : List Version) (v : Version) → updates_once vs ≡ true → version_at vs u ≡ Some v → nat_eq v.serial s ≡ true → version_at (but_serial s vs) u ≡ None
find_gone s u [] v once h g = refl
find_gone s u (x ∷ vs) v once h g = step (λ i. find_gone s u vs v (and_parts (not (list_any (same_update x) vs)) (updates_once vs) once).1 i g) (nat_eq (update_of x.serial) u) refl h
  where
    parts : (not (list_any (same_update x) vs) ≡ true) × (updates_once vs ≡ true)
    parts = and_parts (not (list_any (same_update x) vs)) (updates_once vs) once

    step : (version_at vs u ≡ Some v → version_at (but_serial s vs) u ≡ None) → (t : Bool) → nat_eq (update_of x.serial) u ≡ t → cond t (Some x) (version_at vs u) ≡ Some v → version_at (but_serial s (x ∷ vs)) u ≡ None
    step rest true e f =
        let same : x ≡ v = cc in
        ap (λ t. version_at (cond (not t) (x ∷ but_serial s vs) (but_serial s vs)) u) (ap (λ (y : Version). nat_eq y.serial s) same ∙ g)
        ∙ find_none (λ (y : Version). nat_eq (update_of y.serial) u) (λ (y : Version). not (has_serial s y)) vs (none_later x vs u (not-true (list_any (same_update x) vs) parts.0) e)
    step rest false e f = kept (nat_eq x.serial s)
      where
        kept : (t : Bool) → version_at (cond (not t) (x ∷ but_serial s vs) (but_serial s vs)) u ≡ None
        kept true = rest f
        kept false = ap (λ t. cond t (Some x) (version_at (but_serial s vs) u)) e ∙ rest f

-- the one that has an update number after an Update has the serial number of the one that had it before
pub next_at : (content : Content) (vs : List Version) → updates_once vs ≡ true → (u : ℕ) (v : Version) → version_at vs u ≡ Some v → (x : Version) × ((version_at (with_next content vs) u ≡ Some x) × (x.serial ≡ v.serial))
next_at content vs once u v h = step (last_serial vs)
  where
    step : (o : Option ℕ) → (x : Version) × ((version_at (followed content o vs) u ≡ Some x) × (x.serial ≡ v.serial))
    step None = (v, (h, refl))
    step (Some t) = at (nat_eq v.serial (next_of t)) refl
      where
        new : Version
        new = version_after content t

        given : nat_eq v.serial (next_of t) ≡ true → nat_eq (update_of new.serial) u ≡ true
        given e = ap (λ k. nat_eq (update_of k) u) (sym (eqb-true v.serial (next_of t) e)) ∙ find_passes (λ (y : Version). nat_eq (update_of y.serial) u) vs v h

        at : (c : Bool) → nat_eq v.serial (next_of t) ≡ c → (x : Version) × ((version_at (but_serial (next_of t) vs ++ new ∷ []) u ≡ Some x) × (x.serial ≡ v.serial))
        at true e = (
          new,
          (
            version_more u (but_serial (next_of t) vs) new
                ∙ ap (λ o. option_or o (cond (nat_eq (update_of new.serial) u) (Some new) None)) (find_gone (next_of t) u vs v once h e)
                ∙ ap (λ c. cond c (Some new) None) (given e),
            sym (eqb-true v.serial (next_of t) e),
          ),
        )
        at false e = (
          v,
          (
            find_more (λ (y : Version). nat_eq (update_of y.serial) u) (but_serial (next_of t) vs) (new ∷ []) v
                (find_kept (λ (y : Version). nat_eq (update_of y.serial) u) (λ (y : Version). not (has_serial (next_of t) y)) vs v h (ap not e)),
            refl,
          ),
        )
