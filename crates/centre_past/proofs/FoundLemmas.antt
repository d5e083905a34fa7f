-- The warning of a number in the book, after each edit.
use Rattle.std.proofs.Common.{◌≡◌, arith, ℕ, ◌+◌, Bool, true, false, ◌||◌, List, [], ◌∷◌, ◌++◌, Option, Some, None, Ok, nat_eq, nat_le, cond, unwrap_or, refl, sym, ◌∙◌, ap, eqb-true}
use Rattle.std.specs.Prelude.{find}
use Rattle.std.specs.Cmp.{unsigned_Decides}
use Rattle.std.specs.List.{list_any, list_all}
use Rattle.std.specs.Option.{option_map, option_or, is_some}
use Rattle.std.proofs.lemmas.Bool.{and_parts, or_from}
use Rattle.std.proofs.lemmas.Bool.Decides.{nat_tests}
use Rattle.std.proofs.lemmas.Grind.{common_steps}
use Rattle.common.specs.OnceLaws.{turned}
use Rattle.warning_book.specs.Book.{has_number, new_serial, new_warning, changed_if, edited, without}
use Rattle.warning_book.specs.Laws.{KeepsNumber, found_edited, found_without, found_issued}
use Rattle.warning_book.specs.Sound.{IsSound, was_issued}
use Rattle.warning_book.specs.declared.notice.Notice.{Notice}
use Rattle.warning_book.specs.declared.warning.Warning.{Warning}
use Rattle.centre_past.specs.Issued.{edit_makes}
use Rattle.centre_events.specs.Past.{Past, by_edit}
use Rattle.centre_events.specs.Verdict.{answered, edit_answered, issue, issue_checks, issue_answer}
use Rattle.centre_events.specs.Warnings.{book_of, warnings_of, book_then}
use Rattle.coverage_plan.specs.Edited.{book_after, with_issue}
use Rattle.centre_events.specs.declared.answer.Answer.{Answer}
use Rattle.centre_events.specs.declared.answer.Answer.TheVariants as answer
use Rattle.coverage_plan.specs.declared.edit.Edit.{Edit}
use Rattle.coverage_plan.specs.declared.edit.Edit.TheVariants as edit
use Rattle.centre_events.specs.declared.event.Event.{Event}
use Rattle.centre_events.specs.declared.event.Event.TheVariants as event
use Rattle.centre_events.specs.declared.network.Network.{Network}
use Rattle.centre_past.proofs.CheckLemmas.{unless_ok}

-- The warning of a number after each edit.

-- what is found has the number
pub found_number : (n : ℕ) (ws : List Warning) (w : Warning) → find (has_number n) ws ≡ Some w → nat_eq w.number n ≡ true
found_number n [] w h = cc
found_number n (v ∷ ws) w h = step (found_number n ws w) (has_number n v) refl h
  where
    step : (find (has_number n) ws ≡ Some w → nat_eq w.number n ≡ true) → (t : Bool) → has_number n v ≡ t → cond t (Some v) (find (has_number n) ws) ≡ Some w → nat_eq w.number n ≡ true
    step rest true e g = let same : v ≡ w = cc in ap (has_number n) (sym same) ∙ e
    step rest false e g = rest g

-- a warning of the number is there just where one is found
pub found_any : (n : ℕ) (ws : List Warning) → list_any (has_number n) ws ≡ is_some (find (has_number n) ws)
found_any n [] = refl
found_any n (w ∷ ws) = step (found_any n ws) (has_number n w)
  where
    step : list_any (has_number n) ws ≡ is_some (find (has_number n) ws) → (t : Bool) → (t || list_any (has_number n) ws) ≡ is_some (cond t (Some w) (find (has_number n) ws))
    step rest true = refl
    step rest false = rest

none_from : {X : Type 0} (o : Option X) → is_some o ≡ false → o ≡ None
none_from None h = refl
none_from (Some x) h = cc

above : (k i n : ℕ) → nat_le k i ≡ true → nat_eq (i + 1) n ≡ true → nat_eq k n ≡ false
above k i n h e = grind (arith, nat_tests, common_steps)

-- the next number is new
new_number : (i n : ℕ) (ws : List Warning) → list_all (was_issued i) ws ≡ true → nat_eq (i + 1) n ≡ true → list_any (has_number n) ws ≡ false
new_number i n [] given e = refl
new_number i n (w ∷ ws) given e =
    let parts = and_parts (was_issued i w) (list_all (was_issued i) ws) given in
    or_from (nat_eq w.number n) (list_any (has_number n) ws) (above w.number i n (and_parts (nat_le 1 w.number) (nat_le w.number i) parts.0).1 e) (new_number i n ws parts.1 e)

issued_found : (n i : ℕ) (ws : List Warning) (w : Warning) → list_all (was_issued i) ws ≡ true → w.number ≡ i + 1 → find (has_number n) (ws ++ w ∷ []) ≡ cond (nat_eq (i + 1) n) (Some w) (find (has_number n) ws)
issued_found n i ws w given e =
    found_issued n ws w
    ∙ ap (λ k. option_or (find (has_number n) ws) (cond (nat_eq k n) (Some w) None)) e
    ∙ step (nat_eq (i + 1) n) refl
  where
    alone : (o : Option Warning) → option_or o None ≡ o
    alone None = refl
    alone (Some v) = refl

    step : (t : Bool) → nat_eq (i + 1) n ≡ t → option_or (find (has_number n) ws) (cond t (Some w) None) ≡ cond t (Some w) (find (has_number n) ws)
    step true g = ap (λ o. option_or o (Some w)) (none_from (find (has_number n) ws) (sym (found_any n ws) ∙ new_number i n ws given g))
    step false g = alone (find (has_number n) ws)

edited_found : (n m : ℕ) (f : Warning → Warning) → KeepsNumber f → (ws : List Warning) → find (has_number n) (edited m f ws) ≡ cond (nat_eq m n) (option_map f (find (has_number n) ws)) (find (has_number n) ws)
edited_found n m f keeps ws = found_edited m n f keeps ws ∙ step (find (has_number n) ws) refl
  where
    none : (t : Bool) → None ≡ cond {A = Option Warning} t None None
    none true = refl
    none false = refl

    pulled : (w : Warning) (t : Bool) → Some (cond t (f w) w) ≡ cond t (Some (f w)) (Some w)
    pulled w true = refl
    pulled w false = refl

    step : (o : Option Warning) → find (has_number n) ws ≡ o → option_map (changed_if m f) o ≡ cond (nat_eq m n) (option_map f o) o
    step None e = none (nat_eq m n)
    step (Some w) e =
        ap (λ k. Some (cond (nat_eq k m) (f w) w)) (eqb-true w.number n (found_number n ws w e))
        ∙ ap (λ t. Some (cond t (f w) w)) (turned nat_eq unsigned_Decides n m)
        ∙ pulled w (nat_eq m n)

-- What is said of the warning of a number, by a function of what is found.

view_cond : {A : Type 0} (view : Option Warning → A) (t : Bool) (x y : Option Warning) → view (cond t x y) ≡ cond t (view x) (view y)
view_cond view true x y = refl
view_cond view false x y = refl

pub view_edited : {A : Type 0} (view : Option Warning → A) (n m : ℕ) (f : Warning → Warning) → KeepsNumber f → (ws : List Warning) → view (find (has_number n) (edited m f ws)) ≡ cond (nat_eq m n) (view (option_map f (find (has_number n) ws))) (view (find (has_number n) ws))
view_edited view n m f keeps ws =
    ap view (edited_found n m f keeps ws) ∙ view_cond view (nat_eq m n) (option_map f (find (has_number n) ws)) (find (has_number n) ws)

pub view_without : {A : Type 0} (view : Option Warning → A) (n m : ℕ) (ws : List Warning) → view (find (has_number n) (without m ws)) ≡ cond (nat_eq m n) (view None) (view (find (has_number n) ws))
view_without view n m ws = ap view (found_without m n ws) ∙ view_cond view (nat_eq m n) None (find (has_number n) ws)

cond_same : {A : Type 0} (t : Bool) (x : A) → cond t x x ≡ x
cond_same true x = refl
cond_same false x = refl

-- an edit that leaves what is said
pub view_kept : {A : Type 0} (view : Option Warning → A) (n m : ℕ) (f : Warning → Warning) → KeepsNumber f → ((o : Option Warning) → view (option_map f o) ≡ view o) → (ws : List Warning) → view (find (has_number n) (edited m f ws)) ≡ view (find (has_number n) ws)
view_kept view n m f keeps same ws =
    view_edited view n m f keeps ws
    ∙ ap (λ x. cond (nat_eq m n) x (view (find (has_number n) ws))) (same (find (has_number n) ws))
    ∙ cond_same (nat_eq m n) (view (find (has_number n) ws))

-- the answer of an accepted Issue: the next number, and the serial number of the book
pub issue_told : (past : Past) (notice : Notice) (areas : List (List ℕ)) (a : Answer) → issue past notice areas ≡ Ok a → (s : ℕ) × ((new_serial (book_of past) notice ≡ Some s) × (a ≡ answer.Issued ((book_of past).issued + 1) s))
issue_told past notice areas a h =
    step (new_serial (book_of past) notice) refl (unless_ok (issue_checks past notice areas) (issue_answer ((book_of past).issued + 1) (new_serial (book_of past) notice)) a h)
  where
    step : (o : Option ℕ) → new_serial (book_of past) notice ≡ o → issue_answer ((book_of past).issued + 1) o ≡ Ok a → (s : ℕ) × ((new_serial (book_of past) notice ≡ Some s) × (a ≡ answer.Issued ((book_of past).issued + 1) s))
    step None e g = absurd (cc)
    step (Some s) e g = let same : answer.Issued ((book_of past).issued + 1) s ≡ a = cc in (s, (e, sym same))

pub view_issued : {A : Type 0} (view : Option Warning → A) (said : Answer → A) (past : Past) (n : ℕ) (notice : Notice) (areas : List (List ℕ)) (a : Answer) → issue past notice areas ≡ Ok a → IsSound (book_of past) → ((s : ℕ) → cond (nat_eq ((book_of past).issued + 1) n) (view (Some (new_warning ((book_of past).issued + 1) notice areas s))) (view (find (has_number n) (warnings_of past))) ≡ said (answer.Issued ((book_of past).issued + 1) s)) → view (find (has_number n) (book_after (edit.Issue notice areas) (book_of past)).warnings) ≡ said a
view_issued view said past n notice areas a h sound same =
    let told = issue_told past notice areas a h in
    ap (λ o. view (find (has_number n) (with_issue notice areas o (book_of past)).warnings)) told.1.0
    ∙ ap view (issued_found n (book_of past).issued (warnings_of past) (new_warning ((book_of past).issued + 1) notice areas told.0) sound.given refl)
    ∙ view_cond view (nat_eq ((book_of past).issued + 1) n) (Some (new_warning ((book_of past).issued + 1) notice areas told.0)) (find (has_number n) (warnings_of past))
    ∙ same told.0
    ∙ sym (ap said told.1.1)

-- what the last entry that decides says
pub mark_cond : {A : Type 0} (t : Bool) (x y : A) → cond t x y ≡ unwrap_or (cond t (Some x) None) y
mark_cond true x y = refl
mark_cond false x y = refl

-- an event is an edit or leaves the book
pub view_then : {A : Type 0} (view : Option Warning → A) (f : Edit → Answer → A → A) (network : Network) (past : Past) (n : ℕ) (e : Event) (a : Answer) (old : A) → answered network past e ≡ Ok a → view (find (has_number n) (warnings_of past)) ≡ old → ((x : Edit) → edit_answered past x ≡ Ok a → view (find (has_number n) (book_after x (book_of past)).warnings) ≡ f x a (view (find (has_number n) (warnings_of past)))) → view (find (has_number n) (book_then e (book_of past)).warnings) ≡ edit_makes f e a old
view_then view f network past n (event.Edit x) a old h same after = after x h ∙ ap (f x a) same
view_then view f network past n other a old h same after = same

pub mark_then : {A : Type 0} (view : Option Warning → A) (mark : Answer → Edit → Option A) (network : Network) (past : Past) (n : ℕ) (e : Event) (a : Answer) (old : A) → answered network past e ≡ Ok a → view (find (has_number n) (warnings_of past)) ≡ old → ((x : Edit) → edit_answered past x ≡ Ok a → view (find (has_number n) (book_after x (book_of past)).warnings) ≡ unwrap_or (mark a x) (view (find (has_number n) (warnings_of past)))) → view (find (has_number n) (book_then e (book_of past)).warnings) ≡ unwrap_or (by_edit (mark a) e) old
mark_then view mark network past n (event.Edit x) a old h same after = after x h ∙ ap (unwrap_or (mark a x)) same
mark_then view mark network past n other a old h same after = same
