-- What lists need to know of what a whole centre keeps.
use Rattle.std.proofs.Common.{◌≡◌, ℕ, Bool, true, false, List, [], Option, Some, None, Result, Ok, Err, IfOk, length, refl, sym, ap, ◌∙◌, subst}
use Rattle.std.specs.Prelude.{IfSome, IsSome, if◌then◌else◌}
use Rattle.std.specs.Option.{option_map}
use Rattle.areas.specs.Areas.{has_area}
use Rattle.areas.specs.declared.area.Area.{Area}
use Rattle.warning_book.specs.Book.{warning_of}
use Rattle.warning_book.specs.declared.warning.Warning.{Warning}
use Rattle.centre_answers.specs.Asked.{Tells}
use Rattle.centre_events.specs.Cover.{is_area}
use Rattle.centre_events.specs.Kept.{AreAreasOf}
use Rattle.centre_events.specs.Past.{Past}
use Rattle.centre_events.specs.Warnings.{book_of}
use Rattle.centre_past.specs.Alike.{SaysTheSame}
use Rattle.centre_past.specs.IsKept.{IsKept}
use Rattle.centre_past.specs.Legal.{Legal}
use Rattle.centre_past.specs.Lists.{failed_of, failed_rows, sheet_of, warning_sheet}
use Rattle.centre_past.specs.Numbers.{board, total}
use Rattle.centre_past.specs.declared.kept.Kept.{Kept}
use Rattle.centre_past.specs.declared.lists.failed_row.FailedRow.{FailedRow}
use Rattle.centre_past.specs.declared.lists.plan_counts.PlanCounts.{PlanCounts}
use Rattle.coverage_board.specs.declared.numbers.Numbers.{Numbers}
use Rattle.centre_events.specs.declared.refusal.Refusal.{Refusal}
use Rattle.centre_events.specs.declared.settings.Settings.{Settings}
use Rattle.centre_past.proofs.ListLemmas.{failed_counted}

-- the tables that are kept of a legal past tell what it says
pub kept_tells : (settings : Settings) (past : Past) (s : Kept) → Legal settings past → IsKept past s → Tells past s.tables
kept_tells settings past s legal kept = record { settings = settings; legal = legal; is = kept.tables }

-- the areas that are kept of one past are those of another that says the same
pub area_kept : (p q : Past) (l : List Area) (a : List ℕ) → SaysTheSame p q → AreAreasOf q l → has_area l a ≡ is_area p a
area_kept p q l a same tied = tied.names a ∙ sym (same.parts.is_area a)

-- A warning that has numbers has a sheet and a list of failures, since the book has it.

mapped : {X Y Z : Type 0} (f : X → Y) (g : X → Z) (o : Option X) (y : Y) → option_map f o ≡ Some y → IsSome (option_map g o)
mapped f g None y h = absurd (cc h)
mapped f g (Some x) y h = refl

unmapped : {X Y Z : Type 0} (f : X → Y) (g : X → Z) (o : Option X) → option_map f o ≡ None → option_map g o ≡ None
unmapped f g None h = refl
unmapped f g (Some x) h = absurd (cc h)

pub sheet_there : (past : Past) (n : ℕ) (x : Numbers) → board past n ≡ Some x → IsSome (sheet_of past n)
sheet_there past n x h = mapped (total past) (warning_sheet past) (warning_of (book_of past) n) x h

pub failed_there : (past : Past) (n : ℕ) (x : Numbers) → board past n ≡ Some x → IsSome (failed_of past n)
failed_there past n x h = mapped (total past) (failed_rows past) (warning_of (book_of past) n) x h

pub no_sheet : (past : Past) (n : ℕ) → board past n ≡ None → sheet_of past n ≡ None
no_sheet past n h = unmapped (total past) (warning_sheet past) (warning_of (book_of past) n) h

pub none_failed : (past : Past) (n : ℕ) → board past n ≡ None → failed_of past n ≡ None
none_failed past n h = unmapped (total past) (failed_rows past) (warning_of (book_of past) n) h

-- As many cells are listed in which a warning failed as its numbers say.

-- the rows, if there are any
abbrev rows_or_none : Option (List FailedRow) → List FailedRow
rows_or_none None = []
rows_or_none (Some rows) = rows

counted : (settings : Settings) (past : Past) → Legal settings past → (o : Option Warning) (rows : List FailedRow) → option_map (failed_rows past) o ≡ Some rows → IfSome (option_map (total past) o) (λ n. length rows ≡ n.failed)
counted settings past legal None rows h = tt
counted settings past legal (Some w) rows h = ap (λ o. length (rows_or_none o)) (sym h) ∙ failed_counted settings past legal w

-- also by another past that says the same
pub failed_count : (settings : Settings) (p q : Past) (n : ℕ) (r : Result (List FailedRow) Refusal) → Legal settings q → SaysTheSame p q → IfOk r (λ rows. failed_of p n ≡ Some rows) → IfOk r (λ rows. IfSome (board p n) (λ x. length rows ≡ x.failed))
failed_count settings p q n (Err e) legal same h = tt
failed_count settings p q n (Ok rows) legal same h =
    subst (λ o. IfSome o (λ x. length rows ≡ x.failed)) (sym (same.numbers n)) (counted settings q legal (warning_of (book_of q) n) rows (sym (same.listed_failed n) ∙ h))

-- How many there are of each thing, where the centre isn't stale.

pub counts_if : (stale : Bool) (x y : PlanCounts) → stale ≡ false → x ≡ y → Some x ≡ (if stale then None else Some y)
counts_if true x y h is = absurd (cc h)
counts_if false x y h is = ap Some is
