-- An area that a warning in the book of a lawful past names is there.
use Rattle.std.proofs.Common.{◌≡◌, ℕ, ◌+◌, Bool, true, false, ◌||◌, not, List, [], ◌∷◌, ◌++◌, Option, Some, None, Ok, unwrap_or, refl, sym, ◌∙◌, ap}
use Rattle.std.specs.Prelude.{bytes_eq, if◌then◌else◌}
use Rattle.std.specs.List.{list_any}
use Rattle.std.proofs.lemmas.Bool.{not-false, or_parts}
use Rattle.std.proofs.lemmas.List.Folds.{list_any-append}
use Rattle.std.proofs.lemmas.Slice.Eq.{bytes_eq-Decides}
use Rattle.centre_events.specs.Base.{Base}
use Rattle.centre_events.specs.Cover.{area_mark, is_area}
use Rattle.centre_events.specs.Past.{Past, From, After, by_edit}
use Rattle.centre_events.specs.Verdict.{answered, drop_area_checks, edit_answered, is_in_use, issue_answer, issue_checks, widen_checks}
use Rattle.centre_events.specs.Warnings.{book_of, book_then, warnings_of}
use Rattle.centre_events.specs.declared.answer.Answer.{Answer}
use Rattle.centre_events.specs.declared.answer.Answer.TheVariants as answer
use Rattle.centre_events.specs.declared.event.Event.{Event}
use Rattle.centre_events.specs.declared.event.Event.TheVariants as event
use Rattle.centre_events.specs.declared.network.Network.{Network}
use Rattle.centre_events.specs.declared.settings.Settings.{Settings}
use Rattle.centre_past.specs.Legal.{Lawful, Legal, lasting}
use Rattle.centre_past.proofs.AnyLemmas.{any_filter}
use Rattle.centre_past.proofs.CheckLemmas.{no_check}
use Rattle.centre_past.proofs.LawfulLemmas.{whole}
use Rattle.centre_past.proofs.UniqueLemmas.{verdict_answered}
use Rattle.coverage_plan.specs.Edited.{book_after, with_issue}
use Rattle.coverage_plan.specs.declared.edit.Edit.{Edit}
use Rattle.coverage_plan.specs.declared.edit.Edit.TheVariants as edit
use Rattle.warning_book.specs.Book.{changed_if, edited, has_number, names, narrowed, new_serial, stopped, updated, widened}
use Rattle.warning_book.specs.declared.warning.Warning.{Warning}

-- one of the warnings names the area
abbrev are_using : List ℕ → List Warning → Bool
are_using a ws = list_any (names a) ws

-- what follows from both parts of an `or` follows from it, and what follows from it follows from each part
either : (t u there : Bool) → (t ≡ true → there ≡ true) → (u ≡ true → there ≡ true) → (t || u) ≡ true → there ≡ true
either true u there f g h = f refl
either false u there f g h = g h

left_of : (t u there : Bool) → ((t || u) ≡ true → there ≡ true) → t ≡ true → there ≡ true
left_of true u there f h = f refl
left_of false u there f h = cc

right_of : (t u there : Bool) → ((t || u) ≡ true → there ≡ true) → u ≡ true → there ≡ true
right_of true u there f h = f refl
right_of false u there f h = f h

-- where an area that the changed warning names is there, so is each that the edited warnings name
edited_use : (n : ℕ) (f : Warning → Warning) (a : List ℕ) (there : Bool) → ((w : Warning) → (names a w ≡ true → there ≡ true) → names a (f w) ≡ true → there ≡ true) → (ws : List Warning) → (are_using a ws ≡ true → there ≡ true) → are_using a (edited n f ws) ≡ true → there ≡ true
edited_use n f a there change [] known h = known h
edited_use n f a there change (w ∷ ws) known h =
    either (names a (changed_if n f w)) (are_using a (edited n f ws)) there (step (has_number n w)) (edited_use n f a there change ws (right_of (names a w) (are_using a ws) there known)) h
  where
    first : names a w ≡ true → there ≡ true
    first = left_of (names a w) (are_using a ws) there known

    step : (t : Bool) → names a (if t then f w else w) ≡ true → there ≡ true
    step true = change w first
    step false = first

-- each of the areas of an Issue is there
issued_there : (past : Past) (a : List ℕ) (areas : List (List ℕ)) → list_any (λ x. not (is_area past x)) areas ≡ false → list_any (λ x. bytes_eq x a) areas ≡ true → is_area past a ≡ true
issued_there past a [] none h = cc
issued_there past a (x ∷ areas) none h =
    let parts = or_parts (not (is_area past x)) (list_any (λ y. not (is_area past y)) areas) none in
    either (bytes_eq x a) (list_any (λ y. bytes_eq y a) areas) (is_area past a)
    (λ same. ap (is_area past) (sym ((bytes_eq-Decides x a).0 same)) ∙ not-false (is_area past x) parts.0) (issued_there past a areas parts.1) h

-- so is each area that a warning names after the Issue
issue_use : (past : Past) (a : List ℕ) (areas : List (List ℕ)) (w : Warning) → w.areas ≡ areas → list_any (λ x. not (is_area past x)) areas ≡ false → (are_using a (warnings_of past) ≡ true → is_area past a ≡ true) → are_using a (warnings_of past ++ w ∷ []) ≡ true → is_area past a ≡ true
issue_use past a areas w own none known h =
    either (are_using a (warnings_of past)) (names a w || false) (is_area past a) known
    (either (names a w) false (is_area past a) (λ named. issued_there past a areas none (ap (list_any (λ x. bytes_eq x a)) (sym own) ∙ named)) (λ no. cc))
    (sym (list_any-append (names a) (warnings_of past) (w ∷ [])) ∙ h)

-- an area that a warning names after an accepted edit is there after it, if so it was before
edit_use : (past : Past) (e : Edit) (given : Answer) (a : List ℕ) → edit_answered past e ≡ Ok given → (is_in_use past a ≡ true → is_area past a ≡ true) → are_using a (book_after e (book_of past)).warnings ≡ true → unwrap_or (area_mark a e) (is_area past a) ≡ true
edit_use past (edit.AddArea x) given a v known h = step (bytes_eq x a)
  where
    step : (t : Bool) → unwrap_or (if t then Some true else None) (is_area past a) ≡ true
    step true = refl
    step false = known h
edit_use past (edit.DropArea x) given a v known h = step (bytes_eq x a) refl
  where
    step : (t : Bool) → bytes_eq x a ≡ t → unwrap_or (if t then Some false else None) (is_area past a) ≡ true
    step true same =
        let unused : are_using x (warnings_of past) ≡ false = (no_check (drop_area_checks past x) (Ok answer.Done) given v).1.0 in
        let no : true ≡ false = sym h ∙ ap (λ y. are_using y (warnings_of past)) (sym ((bytes_eq-Decides x a).0 same)) ∙ unused in
        cc
    step false other = known h
edit_use past (edit.Issue notice areas) given a v known h = step (new_serial (book_of past) notice) h
  where
    none : list_any (λ x. not (is_area past x)) areas ≡ false
    none = (no_check (issue_checks past notice areas) (issue_answer ((book_of past).issued + 1) (new_serial (book_of past) notice)) given v).0

    step : (o : Option ℕ) → are_using a (with_issue notice areas o (book_of past)).warnings ≡ true → is_area past a ≡ true
    step None g = known g
    step (Some s) g = issue_use past a areas _ refl none known g
edit_use past (edit.Update n content) given a v known h = edited_use n (updated content) a (is_area past a) (λ w same. same) (warnings_of past) known h
edit_use past (edit.Widen n x) given a v known h = edited_use n (widened x) a (is_area past a) more (warnings_of past) known h
  where
    there : is_area past x ≡ true
    there = not-false (is_area past x) (no_check (widen_checks past n x) (Ok answer.Done) given v).0

    more : (w : Warning) → (names a w ≡ true → is_area past a ≡ true) → names a (widened x w) ≡ true → is_area past a ≡ true
    more w were g =
        either (names a w) (bytes_eq x a || false) (is_area past a) were
        (either (bytes_eq x a) false (is_area past a) (λ same. ap (is_area past) (sym ((bytes_eq-Decides x a).0 same)) ∙ there) (λ no. cc))
        (sym (list_any-append (λ y. bytes_eq y a) w.areas (x ∷ [])) ∙ g)
edit_use past (edit.Narrow n x) given a v known h =
    edited_use n (narrowed x) a (is_area past a) (λ w were g. were (any_filter (λ y. bytes_eq y a) (λ y. not (bytes_eq y x)) w.areas g)) (warnings_of past) known h
edit_use past (edit.Stop n) given a v known h = edited_use n stopped a (is_area past a) (λ w same. same) (warnings_of past) known h
edit_use past (edit.Forget n) given a v known h = known (any_filter (names a) (λ w. not (has_number n w)) (warnings_of past) h)
edit_use past other given a v known h = known h

-- no other event changes the warnings or the areas
use_then : (network : Network) (past : Past) (e : Event) (given : Answer) (a : List ℕ) → answered network past e ≡ Ok given → (is_in_use past a ≡ true → is_area past a ≡ true) → are_using a (book_then e (book_of past)).warnings ≡ true → unwrap_or (by_edit (area_mark a) e) (is_area past a) ≡ true
use_then network past (event.Edit e) given a v known h = edit_use past e given a v known h
use_then network past other given a v known h = known h

-- after every legal past, and after every lawful one, an area that a warning names is there
legal_use : (settings : Settings) (past : Past) → Legal settings past → (a : List ℕ) → is_in_use past a ≡ true → is_area past a ≡ true
legal_use settings (From base) legal a h = let no : true ≡ false = sym h ∙ ap (λ (b : Base). are_using a b.book.warnings) legal in absurd (cc no)
legal_use settings (After e before) legal a h =
    use_then settings.network before e.event e.answer a (verdict_answered settings before e.event e.answer legal.0) (legal_use settings before legal.1 a) h

pub lawful_use : (settings : Settings) (past : Past) → Lawful settings past → (a : List ℕ) → is_in_use past a ≡ true → is_area past a ≡ true
lawful_use settings past lawful a h =
    let w = whole settings past lawful in
    sym (ap (λ (b : Base). b.is_area a) w.same) ∙ legal_use (lasting settings.network) w.full w.legal a (ap (λ (b : Base). are_using a b.book.warnings) w.same ∙ h)
