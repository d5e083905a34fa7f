-- The losses of links that a start enters, one after another.
use Rattle.std.proofs.Common.{◌≡◌, ◌∙◌, ℕ, ◌+◌, ◌-◌, ◌<◌, ◌≤◌, Bool, true, false, List, [], ◌∷◌, ◌++◌, Result, Ok, Err, OnOk, cond, length, get_or, map, take, drop, refl, sym, ap, subst, arith}
use Rattle.std.proofs.Math.Seq.{drop-append_seam}
use Rattle.std.proofs.lemmas.List.{append_assoc, length-append, map-append, take_all, take_more}
use Rattle.std.proofs.lemmas.List.Elements.{filter-append}
use Rattle.std.specs.List.{filter}
use Rattle.centre_events.specs.Links.{is_up}
use Rattle.centre_events.specs.Past.{Past}
use Rattle.centre_events.specs.declared.entry.Entry.{Entry}
use Rattle.centre_events.specs.declared.event.Event.{Event}
use Rattle.centre_events.specs.declared.refusal.Refusal.{Refusal}
use Rattle.centre_past.specs.Legal.{Known, all_entries, past}
use Rattle.centre_past.specs.Lists.{bsc_row, bsc_rows, registered_bscs}
use Rattle.centre_past.specs.declared.lists.bsc_row.BscRow.{BscRow}
use Rattle.centre_questions.specs.Questions.{value_of}
use Rattle.centre_questions.specs.declared.question.Question.TheVariants as question
use Rattle.centre_questions.specs.declared.seen_value.SeenValue.{SeenValue}
use Rattle.centre_questions.specs.declared.seen_value.SeenValue.TheVariants as value
use Rattle.journal_file.specs.Writing.{WritingState}
use Rattle.journal_laws.specs.Files.{with_entry}
use Rattle.journal_laws.specs.Starts.{EntersEvent}
use Rattle.journal_office.specs.Losses.{EntersInto, FoldsInto, LosesEach, loss_of, losses, row_is_up, row_loss, row_losses}
use Rattle.journal_office.specs.OfficeJournals.{PutsEntries}
use Rattle.office.specs.Handing.{AreEntriesAfter, entries_after}
use Rattle.office.specs.declared.entries.Entries.{Entries}

-- ---- the entry of a loss, and its line

-- the entry behind those that were there is handed out alone
new_entry : (entry : Entry) (mid new : Known) (place : ℕ) → new ≡ with_entry entry mid → place ≡ length (all_entries mid) → take 1 (entries_after place new) ≡ entry ∷ []
new_entry entry mid new place is at =
    let all = mid.folded ++ (mid.journal ++ entry ∷ []) in
    let there : place + (length mid.folded - place) ≡ length (all_entries mid) = omega (arith, at, length-append mid.folded mid.journal) in
    let one : drop (length (all_entries mid)) all ≡ entry ∷ [] = ap (drop (length (all_entries mid))) (sym (append_assoc mid.folded mid.journal (entry ∷ []))) ∙ drop-append_seam (all_entries mid) (entry ∷ []) in
    subst (λ c. take 1 (entries_after place c) ≡ entry ∷ []) (sym is) (ap (λ n. take 1 (drop n all)) there ∙ ap (take 1) one)

pub entered_if : {E : Type 0} (r : Result (Unit {0}) E) (event : Event) (place : ℕ) (e : Entries) (mid new : Known) (before after : WritingState) → place ≡ length (all_entries mid) → EntersEvent mid event new
    → AreEntriesAfter place 1 new e → OnOk r (PutsEntries e.entries.items before after) → OnOk r (EntersInto event mid before new after)
entered_if (Ok x) event place e mid new before after at enters are puts =
    record { enters = enters; puts = subst (λ es. PutsEntries es before after) (are.entries ∙ new_entry enters.entry mid new place enters.centre at) puts }
entered_if (Err f) event place e mid new before after at enters are puts = tt

-- ---- the loss by a row

-- no link is lost that isn't up
pub lost_none : (row : BscRow) (a : Known) (u : WritingState) → row.is_up ≡ false → LosesEach (row_losses (row ∷ [])) a u a u
lost_none row a u down =
    let none : row_losses (row ∷ []) ≡ [] = ap (λ (b : Bool). map row_loss (cond b (row ∷ []) [])) down in
    subst (λ es. LosesEach es a u a u) (sym none) (refl, refl)

-- one that is up is
pub lost_one : {E : Type 0} (r : Result (Unit {0}) E) (row : BscRow) (a b c : Known) (u v w : WritingState) → row.is_up ≡ true → FoldsInto a u b v → OnOk r (EntersInto (row_loss row) b v c w)
    → OnOk r (LosesEach (row_losses (row ∷ [])) a u c w)
lost_one (Ok x) row a b c u v w up folds enters =
    let one : row_losses (row ∷ []) ≡ row_loss row ∷ [] = ap (λ (t : Bool). map row_loss (cond t (row ∷ []) [])) up in
    subst (λ es. LosesEach es a u c w) (sym one) (b, v, c, w, folds, enters, (refl, refl))
lost_one (Err f) row a b c u v w up folds enters = tt

-- ---- one after another

lost_both : (xs ys : List Event) (a b c : Known) (u v w : WritingState) → LosesEach xs a u b v → LosesEach ys b v c w → LosesEach (xs ++ ys) a u c w
lost_both [] ys a b c u v w first second = subst (λ k. LosesEach ys k u c w) first.0 (subst (λ s. LosesEach ys b s c w) first.1 second)
lost_both (x ∷ xs) ys a b c u v w first second = (first.0, first.1, first.2, first.3, first.4, first.5, lost_both xs ys first.2 b c first.3 v w first.6 second)

row_losses-append : (xs ys : List BscRow) → row_losses (xs ++ ys) ≡ row_losses xs ++ row_losses ys
row_losses-append xs ys = ap (map row_loss) (filter-append row_is_up xs ys) ∙ map-append row_loss (filter row_is_up xs) (filter row_is_up ys)

-- none yet
pub losses_none : (rows : List BscRow) (a : Known) (u : WritingState) → LosesEach (row_losses (take 0 rows)) a u a u
losses_none rows a u = (refl, refl)

-- one more
pub losses_more : (rows : List BscRow) (index : ℕ) (row : BscRow) (a b c : Known) (u v w : WritingState) → index < length rows → row ≡ get_or rows index row
    → LosesEach (row_losses (take index rows)) a u b v → LosesEach (row_losses (row ∷ [])) b v c w → LosesEach (row_losses (take (index + 1) rows)) a u c w
losses_more rows index row a b c u v w short is before one =
    let parts : take (index + 1) rows ≡ take index rows ++ row ∷ [] = take_more rows index row short ∙ ap (λ x. take index rows ++ x ∷ []) (sym is) in
    subst (λ es. LosesEach es a u c w) (sym (ap row_losses parts ∙ row_losses-append (take index rows) (row ∷ [])))
    (lost_both (row_losses (take index rows)) (row_losses (row ∷ [])) a b c u v w before one)

-- all
pub losses_all : (rows : List BscRow) (index : ℕ) (a b : Known) (u v : WritingState) → length rows ≤ index → LosesEach (row_losses (take index rows)) a u b v → LosesEach (row_losses rows) a u b v
losses_all rows index a b u v end each = subst (λ rs. LosesEach (row_losses rs) a u b v) (take_all index rows end) each

-- ---- by the list of the BSCs

losses_of : (past : Past) (bs : List ℕ) → row_losses (map (bsc_row past) bs) ≡ map (loss_of past) (filter (is_up past) bs)
losses_of past [] = refl
losses_of past (b ∷ bs) =
    elim (is_up past b) as (λ t. map row_loss (cond t (bsc_row past b ∷ filter row_is_up (map (bsc_row past) bs)) (filter row_is_up (map (bsc_row past) bs))) ≡ map (loss_of past) (cond t (b ∷ filter (is_up past) bs) (filter (is_up past) bs))) [
      | true ↦ ap (λ s. loss_of past b ∷ s) (losses_of past bs)
      | false ↦ losses_of past bs
    ]

abbrev rows_in : Result SeenValue Refusal → List BscRow
rows_in (Ok (value.Bscs rows)) = rows
rows_in other = []

-- the rows that were seen are those of the BSCs
pub links_if : {E : Type 0} (r : Result (Unit {0}) E) (seen : SeenValue) (rows : List BscRow) (a b : Known) (u v : WritingState) → value_of (past a) question.Bscs ≡ Ok seen → seen ≡ value.Bscs rows
    → OnOk r (LosesEach (row_losses rows) a u b v) → OnOk r (LosesEach (losses (past a)) a u b v)
links_if (Ok x) seen rows a b u v shown is each =
    let same : bsc_rows (past a) ≡ rows = ap rows_in (shown ∙ ap (λ (s : SeenValue). Ok s) is) in
    subst (λ es. LosesEach es a u b v) (ap row_losses (sym same) ∙ losses_of (past a) (registered_bscs (past a))) each
links_if (Err f) seen rows a b u v shown is each = tt
