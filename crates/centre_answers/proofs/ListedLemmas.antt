-- The cells that a centre finds for an indication are those that the past says it lists.
use Rattle.std.proofs.Common.{◌≡◌, ℕ, Bool, true, false, ◌&&◌, ◌||◌, List, filter, refl, sym, ◌∙◌, ap}
use Rattle.std.specs.List.{list_any}
use Rattle.std.proofs.lemmas.Bool.{and_parts, false_from_ne_true}
use Rattle.cbsp_ie.specs.declared.cell_id.CellId.{CellId}
use Rattle.cell_register.specs.CellLaws.{cell_lt_apart, cell_lt_follows}
use Rattle.cell_register.specs.Register.{State}
use Rattle.common.specs.Cell.{cell_eq, cell_lt}
use Rattle.common.specs.Equality.{cell_decides}
use Rattle.common.specs.OnceLaws.{any_filter_same, any_turned, once_filter, turned}
use Rattle.common.specs.Order.{is_ascending}
use Rattle.common.specs.Sorting.{sorted_by}
use Rattle.common.specs.SortingLaws.{any_sorted, same_ascending, sorted_ascends}
use Rattle.common.specs.declared.cell.Cell.{Cell}
use Rattle.mirror.specs.Known as kept
use Rattle.mirror.specs.Table.{Table}
use Rattle.warning_book.specs.declared.kind.Kind.TheVariants as kind
use Rattle.centre_events.specs.Effects.{is_about, is_among}
use Rattle.centre_past.specs.Idle.{AreKnownOf}
use Rattle.centre_events.specs.Known.{is_known, is_named, known_named}
use Rattle.centre_past.specs.Legal.{Legal}
use Rattle.centre_events.specs.Outcomes.{listed_cells}
use Rattle.centre_events.specs.Past.{Past}
use Rattle.centre_events.specs.Places.{added_cell, cells}
use Rattle.centre_events.specs.declared.settings.Settings.{Settings}
use Rattle.centre_past.proofs.CountLemmas.{both_or_it, named_once}
use Rattle.centre_past.proofs.KnownLemmas.{legal_unfolded}
use Rattle.centre_past.proofs.MarkLemmas.{known_cell}
use Rattle.centre_past.proofs.RegisterLemmas.{cell_apart}

-- no cell comes before itself
strict : (c : Cell) → cell_lt c c ≡ false
strict c = false_from_ne_true (cell_lt c c) (λ h. let no : true ≡ false = sym ((cell_decides c c).1 refl) ∙ cell_apart c c h in cc)

-- of two cells one comes before the other
pub apart : (x y : Cell) → cell_eq x y ≡ false → (cell_lt y x || cell_lt x y) ≡ true
apart x y h = cell_lt_apart x y (turned cell_eq cell_decides y x ∙ h)

-- of what is registered, those that pass
pub filtered : (p : Cell → Bool) (c : Cell) (cs : List Cell) → list_any (cell_eq c) (filter p cs) ≡ (p c && list_any (cell_eq c) cs)
filtered p c cs =
    any_turned cell_eq cell_decides c (filter p cs)
    ∙ any_filter_same cell_eq cell_decides p c cs
    ∙ ap (λ t. p c && t) (sym (any_turned cell_eq cell_decides c cs))

pub named_cells : (settings : Settings) (past : Past) (network : List ℕ) (t : Table) (r : State) (b : ℕ) (ids : List CellId) (cs : List Cell) → Legal settings past → AreKnownOf past t r → is_ascending cell_lt cs ≡ true → ((c : Cell) → list_any (cell_eq c) cs ≡ (kept.is_known t r b c && kept.is_named network ids c)) → cs ≡ known_named network past b ids
named_cells settings past network t r b ids cs legal knows ascends all =
    same_ascending cell_eq cell_lt cell_decides strict cell_lt_follows cs (sorted_by cell_lt (filter listed (cells past))) ascends
    (sorted_ascends cell_eq cell_lt apart cell_lt_follows (filter listed (cells past)) (once_filter cell_eq listed (cells past) (named_once cell_eq added_cell (λ base. base.cells) refl past (legal_unfolded settings past legal))))
    members
  where
    listed : Cell → Bool
    listed c = is_known past b c && is_named network ids c

    members : (c : Cell) → list_any (cell_eq c) cs ≡ list_any (cell_eq c) (sorted_by cell_lt (filter (λ d. is_known past b d && is_named network ids d) (cells past)))
    members c =
        let p : Cell → Bool = λ d. is_known past b d && is_named network ids d in
        all c
        ∙ ap (λ k. k && is_named network ids c) (knows.known b c)
        ∙ both_or_it (is_known past b c && is_named network ids c) (is_among c (cells past)) (λ h. known_cell settings past legal b c (and_parts (is_known past b c) (is_named network ids c) h).0)
        ∙ sym (filtered p c (cells past))
        ∙ sym (any_sorted cell_lt (cell_eq c) (filter p (cells past)))

-- where the indication is about warnings of one of the kinds
pub listed_is : (settings : Settings) (past : Past) (network : List ℕ) (t : Table) (r : State) (b number : ℕ) (ids : List CellId) (cs : List Cell) → Legal settings past → AreKnownOf past t r → (is_about number kind.Cbs || is_about number kind.Emergency) ≡ true → is_ascending cell_lt cs ≡ true → ((c : Cell) → list_any (cell_eq c) cs ≡ (kept.is_known t r b c && kept.is_named network ids c)) → cs ≡ listed_cells network past b number ids
listed_is settings past network t r b number ids cs legal knows about ascends all = rw about (named_cells settings past network t r b ids cs legal knows ascends all)
