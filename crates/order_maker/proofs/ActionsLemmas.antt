-- What is to be ordered on a line, as a walk over its versions finds it.
use Rattle.std.proofs.Common.{◌≡◌, ℕ, ◌+◌, ◌<◌, Bool, true, false, List, [], ◌∷◌, ◌++◌, length, get_or, take, Option, Some, None, find, if◌then◌else◌, refl, sym, ap, ◌∙◌}
use Rattle.std.proofs.lemmas.List.{take_more, reverse-append, append-nil, append_assoc}
use Rattle.mirror.specs.Seen.{Seen}
use Rattle.order_maker.specs.Actions.{needs, newest, replaced, fresh_kind, deed, fresh, is_to_kill, kills, deeds, listed, fresh_deed, kill_deed}
use Rattle.order_maker.specs.declared.deed.Deed.{Deed}
use Rattle.order_maker.specs.declared.order_kind.OrderKind.TheVariants.{Kill}

-- one version further, the newest that passes is that version if it passes
pub newest_more : (p : ℕ → Bool) (xs : List ℕ) (i d : ℕ) → i < length xs → newest p (take (i + 1) xs) ≡ (if p (get_or xs i d) then Some (get_or xs i d) else newest p (take i xs))
newest_more p xs i d h =
    ap (newest p) (take_more xs i d h) ∙ ap (find p) (reverse-append (take i xs) (get_or xs i d ∷ []))

-- a deed that depends on a test, as a list
listed_if : (b : Bool) (d : Deed) → listed (if b then Some d else None) ≡ (if b then d ∷ [] else [])
listed_if true d = refl
listed_if false d = refl

-- the write, as a list
pub fresh_listed : (v : Seen) (wanted : Option ℕ) → listed (fresh_deed v wanted) ≡ fresh v wanted
fresh_listed v None = refl
fresh_listed v (Some s) = listed_if (needs v s) (deed v (fresh_kind (replaced v s)) s)

pub kills-append : (v : Seen) (xs ys : List ℕ) → kills v (xs ++ ys) ≡ kills v xs ++ kills v ys
kills-append v [] ys = refl
kills-append v (t ∷ xs) ys =
    let first : List Deed = if is_to_kill v t then deed v Kill t ∷ [] else [] in
    ap (λ ds. first ++ ds) (kills-append v xs ys) ∙ sym (append_assoc first (kills v xs) (kills v ys))

-- one version further, its KILL comes last
pub kills_more : (v : Seen) (xs : List ℕ) (i d : ℕ) → i < length xs → kills v (take (i + 1) xs) ≡ kills v (take i xs) ++ listed (kill_deed v (get_or xs i d))
kills_more v xs i d h =
    let t : ℕ = get_or xs i d in
    let last : List Deed = if is_to_kill v t then deed v Kill t ∷ [] else [] in
    ap (kills v) (take_more xs i d h) ∙ kills-append v (take i xs) (t ∷ [])
    ∙ ap (λ ds. kills v (take i xs) ++ ds) (append-nil last ∙ sym (listed_if (is_to_kill v t) (deed v Kill t)))

-- what is to be ordered is the write and the KILLs
pub deeds_listed : (v : Seen) → deeds v ≡ listed (fresh_deed v v.wanted) ++ kills v v.versions
deeds_listed v = ap (λ ds. ds ++ kills v v.versions) (sym (fresh_listed v v.wanted))
