-- The changes of an edit, made one by one.
use Rattle.std.proofs.Common.{◌≡◌, ℕ, ◌+◌, ◌<◌, List, [], ◌∷◌, ◌++◌, length, get_or, map, take, drop, sym, ◌∙◌, ap}
use Rattle.std.proofs.lemmas.List.{drop_more, map-append, take-append-drop, take_more}
use Rattle.std.specs.List.{list_any}
use Rattle.coverage_plan.specs.Plan.{State}
use Rattle.kept_tables.specs.Changes.{Change, IsNext}
use Rattle.kept_tables.specs.Tables.{Tables}
use Rattle.mirror.specs.Table.{downs_of, is_that_place}
use Rattle.warning_book.specs.Book.{warning_of}
use Rattle.centre_events.specs.Warnings.{kind_in}
use Rattle.centre_lines.specs.Following.{Happens, change_of, line_now}
use Rattle.centre_past.specs.State.{facts_from}
use Rattle.centre_lines.specs.declared.line_before.LineBefore.{LineBefore}

-- a list by what stands before one of its elements, that one, and what stands after it
pub parted : {A B : Type 0} (f : A → B) (xs : List A) (i : ℕ) (x : A) → i < length xs → x ≡ get_or xs i x → map f xs ≡ map f (take i xs) ++ f x ∷ map f (drop (i + 1) xs)
parted f xs i x below is =
    ap (map f) (sym (take-append-drop i xs) ∙ ap (λ rest. take i xs ++ rest) (drop_more xs i x below ∙ ap (λ y. y ∷ drop (i + 1) xs) (sym is)))
    ∙ map-append f (take i xs) (x ∷ drop (i + 1) xs)

pub one_more : {A B : Type 0} (f : A → B) (xs : List A) (i : ℕ) (x : A) → i < length xs → x ≡ get_or xs i x → map f (take i xs) ++ f x ∷ [] ≡ map f (take (i + 1) xs)
one_more f xs i x below is =
    sym (map-append f (take i xs) (x ∷ [])) ∙ ap (map f) (ap (λ y. take i xs ++ y ∷ []) is ∙ sym (take_more xs i x below))

-- the change that is next, if it is another one by name
abbrev pub next_as : (t : Tables) (x y : Change) → x ≡ y → IsNext t x → IsNext t y
next_as t x y same n = record {
  start = n.start;
  changes = n.changes;
  begins = n.begins;
  done = n.done;
  later = n.later;
  split = n.split ∙ ap (λ z. n.done ++ z ∷ n.later) same;
  made = n.made;
}

-- tables with the same cells down make the same change of a line
pub change_as : (h : Happens) (p : State) (t u : Tables) (x : LineBefore) → u.lines.downs ≡ t.lines.downs → change_of h p t x ≡ change_of h p u x
change_as h p t u x same =
    λ i. record { key = x.key; before = x.before; after = facts_from p.register p.areas (list_any (is_that_place x.key.bsc x.key.cell) (downs_of (kind_in (warning_of p.book x.key.warning)) (sym same i))) x.key.bsc x.key.cell (line_now h p.book.warnings x.key.bsc x.key.cell (warning_of p.book x.key.warning) x.before.line) (warning_of p.book x.key.warning) }
