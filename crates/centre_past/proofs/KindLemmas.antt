-- The kind of a key is that of the one warning in the book that has it.
use Rattle.std.proofs.Common.{◌≡◌, ℕ, ◌+◌, ◌≤◌, Bool, true, false, ◌&&◌, ◌||◌, nat_eq, List, [], ◌∷◌, Some, None, cond, refl, sym, ◌∙◌, ap, eq-eqb, arith}
use Rattle.std.specs.Prelude.{find}
use Rattle.std.specs.List.{list_any}
use Rattle.std.proofs.lemmas.Bool.{and_parts, and_from}
use Rattle.common.specs.Sums.{one, count_of}
use Rattle.warning_book.specs.Book.{has_number, kind_of, warning_of}
use Rattle.warning_book.specs.declared.kind.Kind.{Kind}
use Rattle.warning_book.specs.declared.warning.Warning.{Warning}
use Rattle.centre_events.specs.Past.{Past}
use Rattle.centre_events.specs.Warnings.{book_of, has_key, is_version, key_kind, kind_in}
use Rattle.centre_events.specs.declared.settings.Settings.{Settings}
use Rattle.centre_past.specs.Legal.{Legal}
use Rattle.centre_past.proofs.AnyLemmas.{and_none, any_implies, contrary, or_none}
use Rattle.centre_past.proofs.UniqueLemmas.{any_none, unique}
use Rattle.centre_past.proofs.WarningLemmas.{legal_sound}

-- a warning of a number that passes is one that does
passes_found : (p : Warning → Bool) (n : ℕ) (w : Warning) → p w ≡ true → (ws : List Warning) → find (has_number n) ws ≡ Some w → list_any p ws ≡ true
passes_found p n w passes [] h = cc
passes_found p n w passes (v ∷ ws) h = step (has_number n v) h (passes_found p n w passes ws)
  where
    either : (a b : Bool) → a ≡ true → (a || b) ≡ true
    either true b e = refl
    either false b e = cc

    or_else : (a b : Bool) → b ≡ true → (a || b) ≡ true
    or_else true b e = refl
    or_else false b e = e

    step : (t : Bool) → cond t (Some v) (find (has_number n) ws) ≡ Some w → (find (has_number n) ws ≡ Some w → list_any p ws ≡ true) → (p v || list_any p ws) ≡ true
    step true g rest = let same : v ≡ w = cc in either (p v) (list_any p ws) (ap p same ∙ passes)
    step false g rest = or_else (p v) (list_any p ws) (rest g)

-- where at most one passes, the warning of a number that does is the first
first_found : (p : Warning → Bool) (n : ℕ) (w : Warning) → p w ≡ true → (ws : List Warning) → find (has_number n) ws ≡ Some w → count_of p ws ≤ 1 → find p ws ≡ Some w
first_found p n w passes [] h few = cc
first_found p n w passes (v ∷ ws) h few = step (has_number n v) (p v) refl h few (passes_found p n w passes ws) (first_found p n w passes ws)
  where
    step : (t u : Bool) → p v ≡ u → cond t (Some v) (find (has_number n) ws) ≡ Some w → one u + count_of p ws ≤ 1 → (find (has_number n) ws ≡ Some w → list_any p ws ≡ true) → (find (has_number n) ws ≡ Some w → count_of p ws ≤ 1 → find p ws ≡ Some w) → cond u (Some v) (find p ws) ≡ Some w
    step true true e g few there rest = g
    step true false e g few there rest = let same : v ≡ w = cc in let no : true ≡ false = sym (ap p same ∙ passes) ∙ e in cc
    step false true e g few there rest = let no : true ≡ false = sym (there g) ∙ any_none p ws (omega (arith, few)) in cc
    step false false e g few there rest = rest g (omega (arith, few))

-- the kind of a key of a warning in the book is the warning's
pub key_kind_is : (settings : Settings) (past : Past) → Legal settings past → (n : ℕ) (w : Warning) → warning_of (book_of past) n ≡ Some w → (s : ℕ) → list_any (is_version s) w.versions ≡ true → key_kind past w.message_id s ≡ kind_of w
key_kind_is settings past legal n w found s there =
    ap kind_in (first_found (has_key w.message_id s) n w (and_from (nat_eq w.message_id w.message_id) (list_any (is_version s) w.versions) (eq-eqb w.message_id w.message_id refl) there) (book_of past).warnings found (unique (book_of past) (legal_sound settings past legal) w.message_id s))

-- where at most one warning has a key, what is asked of the kind of each that passes is asked of the kind of the key
pub any_by_kind : (x : Kind → Bool) (m s : ℕ) (p : Warning → Bool) → ((w : Warning) → p w ≡ true → has_key m s w ≡ true) → (ws : List Warning) → count_of (has_key m s) ws ≤ 1 → list_any (λ w. x (kind_of w) && p w) ws ≡ (x (kind_in (find (has_key m s) ws)) && list_any p ws)
any_by_kind x m s p keyed [] few = sym (and_none (x (kind_in None)))
any_by_kind x m s p keyed (w ∷ ws) few = step (has_key m s w) refl few (any_by_kind x m s p keyed ws)
  where
    q : Warning → Bool
    q v = x (kind_of v) && p v

    none : count_of (has_key m s) ws ≤ 0 → (r : Warning → Bool) → ((v : Warning) → r v ≡ true → has_key m s v ≡ true) → list_any r ws ≡ false
    none few r keyed = contrary (list_any r ws) (list_any (has_key m s) ws) (any_implies r (has_key m s) keyed ws) (any_none (has_key m s) ws (omega (arith, few)))

    here : (a b c d : Bool) → c ≡ false → d ≡ false → ((a && b) || c) ≡ (a && (b || d))
    here a b false false e f = or_none (a && b) ∙ ap (λ t. a && t) (sym (or_none b))
    here a b false true e f = cc
    here a b true d e f = cc

    later : (a b c d e : Bool) → b ≡ false → c ≡ (d && e) → ((a && b) || c) ≡ (d && (b || e))
    later a false c d e f g = ap (λ t. t || c) (and_none a) ∙ g
    later a true c d e f g = cc

    step : (t : Bool) → has_key m s w ≡ t → one t + count_of (has_key m s) ws ≤ 1 → (count_of (has_key m s) ws ≤ 1 → list_any q ws ≡ (x (kind_in (find (has_key m s) ws)) && list_any p ws)) → ((x (kind_of w) && p w) || list_any q ws) ≡ (x (kind_in (cond t (Some w) (find (has_key m s) ws))) && (p w || list_any p ws))
    step true e bound rest =
        here (x (kind_of w)) (p w) (list_any q ws) (list_any p ws) (none (omega (arith, bound)) q (λ v g. keyed v (and_parts (x (kind_of v)) (p v) g).1)) (none (omega (arith, bound)) p keyed)
    step false e bound rest =
        later (x (kind_of w)) (p w) (list_any q ws) (x (kind_in (find (has_key m s) ws))) (list_any p ws) (contrary (p w) (has_key m s w) (keyed w) e) (rest (omega (arith, bound)))
