-- Lines on which an edit of a BSC or a cell does not bear have the same part after it.
use Rattle.std.proofs.Common.{◌≡◌, ℕ, Bool, true, false, ◌||◌, nat_eq, Option, Some, None, Ok, unwrap_or, refl, sym, ◌∙◌, ap}
use Rattle.std.specs.Prelude.{if◌then◌else◌}
use Rattle.std.specs.List.{list_any}
use Rattle.std.specs.Option.{is_some}
use Rattle.std.proofs.lemmas.Bool.{or_parts}
use Rattle.cell_register.specs.Register.{is_place}
use Rattle.common.specs.Cell.{cell_eq}
use Rattle.common.specs.Equality.{cell_decides}
use Rattle.common.specs.declared.cell.Cell.{Cell}
use Rattle.kept_tables.specs.Same.{SamePart}
use Rattle.kept_tables.specs.View.{spot_eq}
use Rattle.mirror.specs.declared.presence.Presence.TheVariants.{Absent}
use Rattle.warning_book.specs.Book.{kind_of, warning_of}
use Rattle.warning_book.specs.declared.warning.Warning.{Warning}
use Rattle.centre_events.specs.Down.{is_down}
use Rattle.centre_events.specs.Effects.{state_after}
use Rattle.centre_events.specs.Facts.{key_state}
use Rattle.centre_past.specs.Facts.{facts_of}
use Rattle.centre_events.specs.Known.{is_known}
use Rattle.centre_past.specs.Legal.{Legal}
use Rattle.centre_events.specs.Past.{Past, After}
use Rattle.centre_events.specs.Places.{place, is_registered}
use Rattle.centre_past.specs.Reach.{spot, at_bsc, reach_of}
use Rattle.centre_events.specs.Verdict.{edit_answered, add_cell_checks}
use Rattle.centre_events.specs.Warnings.{book_of, is_version}
use Rattle.centre_events.specs.declared.answer.Answer.{Answer}
use Rattle.centre_events.specs.declared.answer.Answer.TheVariants as answer
use Rattle.coverage_plan.specs.declared.edit.Edit.TheVariants as edit
use Rattle.centre_events.specs.declared.effect.Effect.TheVariants.{Sets, Leaves}
use Rattle.centre_events.specs.declared.event.Event.TheVariants as event
use Rattle.centre_events.specs.declared.settings.Settings.{Settings}
use Rattle.centre_past.proofs.AnyLemmas.{contrary}
use Rattle.centre_past.proofs.CheckLemmas.{no_check}
use Rattle.centre_past.proofs.LineLemmas.{same_kept, same_none, unknown_blank, not_down, entry_of, Outside}
use Rattle.centre_lines.proofs.ReachLemmas.{not_there, number_there, not_known, spot_there, bsc_there}

-- BSCs.

pub outside_add_bsc : (past : Past) (desk other : ℕ) (a : Answer) → Outside past desk (event.Edit (edit.AddBsc other)) a
outside_add_bsc past desk other a k h = record { line = refl; deeds = refl; total = refl; area = λ x. refl }

pub outside_remove_bsc : (settings : Settings) (past : Past) → Legal settings past → (desk other : ℕ) (a : Answer) → Outside past desk (event.Edit (edit.RemoveBsc other)) a
outside_remove_bsc settings past legal desk other a k h = step (warning_of (book_of past) k.warning) refl
  where
    new : Past
    new = After (entry_of desk (event.Edit (edit.RemoveBsc other)) a) past

    unknown : (w : Warning) → warning_of (book_of past) k.warning ≡ Some w → nat_eq other k.bsc ≡ true → is_known past k.bsc k.cell ≡ false
    unknown = not_known settings past legal other k h

    step : (o : Option Warning) → warning_of (book_of past) k.warning ≡ o → SamePart (facts_of past k.bsc k.cell o) (facts_of new k.bsc k.cell o)
    step None e = same_none past new k.bsc k.cell
    step (Some w) e = same_kept past new k.bsc k.cell w refl refl (down (nat_eq other k.bsc) refl) (λ s there. at s there (nat_eq other k.bsc) refl)
      where
        down : (t : Bool) → nat_eq other k.bsc ≡ t → is_down past (kind_of w) k.bsc k.cell ≡ unwrap_or (if t then Some false else None) (is_down past (kind_of w) k.bsc k.cell)
        down true same = not_down past (kind_of w) k.bsc k.cell (unknown w e same)
        down false other = refl

        at : (s : ℕ) → list_any (is_version s) w.versions ≡ true → (t : Bool) → nat_eq other k.bsc ≡ t → state_after (if t then Sets Absent else Leaves) (if t then Some 0 else None) (key_state past k.bsc k.cell w.message_id s) ≡ key_state past k.bsc k.cell w.message_id s
        at s there true same =
            let none = unknown_blank past k.bsc k.cell k.warning w (unknown w e same) e s there in
            ap (state_after (Sets Absent) (Some 0)) none ∙ sym none
        at s there false other = refl

-- Cells: where the cell comes to be, or was, is one of the spots on which the edit bears.

not_some : {X : Type 0} (o : Option X) → is_some o ≡ false → o ≡ None
not_some None h = refl
not_some (Some x) h = cc

pub outside_add_cell : (past : Past) (desk : ℕ) (d : Cell) (b : ℕ) (a : Answer) → edit_answered past (edit.AddCell d b) ≡ Ok a → Outside past desk (event.Edit (edit.AddCell d b)) a
outside_add_cell past desk d b a v k h = step (warning_of (book_of past) k.warning) refl
  where
    new : Past
    new = After (entry_of desk (event.Edit (edit.AddCell d b)) a) past

    registered : is_registered past d ≡ false
    registered = (no_check (add_cell_checks past d b) (Ok answer.Done) a v).1.0

    elsewhere : (w : Warning) → warning_of (book_of past) k.warning ≡ Some w → spot_eq (spot k.bsc k.cell) (spot b d) ≡ false
    elsewhere w e = (or_parts (spot_eq (spot k.bsc k.cell) (spot b d)) false (not_there (reach_of past (event.Edit (edit.AddCell d b)) a) k h (number_there past (λ v. true) k.warning w e refl))).0

    here : (w : Warning) → warning_of (book_of past) k.warning ≡ Some w → (t : Bool) → cell_eq d k.cell ≡ t → is_place (place past k.cell) k.bsc ≡ is_place (unwrap_or (if t then Some (Some b) else None) (place past k.cell)) k.bsc
    here w e true same =
        let before : place past k.cell ≡ None = ap (place past) (sym ((cell_decides d k.cell).0 same)) ∙ not_some (place past d) registered in
        let after : nat_eq b k.bsc ≡ false = contrary (nat_eq b k.bsc) (spot_eq (spot k.bsc k.cell) (spot b d)) (λ g. spot_there b k.bsc d k.cell g same) (elsewhere w e) in
        ap (λ o. is_place o k.bsc) before ∙ sym after
    here w e false other = refl

    step : (o : Option Warning) → warning_of (book_of past) k.warning ≡ o → SamePart (facts_of past k.bsc k.cell o) (facts_of new k.bsc k.cell o)
    step None e = same_none past new k.bsc k.cell
    step (Some w) e = same_kept past new k.bsc k.cell w (here w e (cell_eq d k.cell) refl) refl refl (λ s there. refl)

pub outside_move_cell : (past : Past) (desk : ℕ) (d : Cell) (b : ℕ) (a : Answer) → Outside past desk (event.Edit (edit.MoveCell d b)) a
outside_move_cell past desk d b a k h = step (warning_of (book_of past) k.warning) refl
  where
    new : Past
    new = After (entry_of desk (event.Edit (edit.MoveCell d b)) a) past

    elsewhere : (w : Warning) → warning_of (book_of past) k.warning ≡ Some w → (spot_eq (spot k.bsc k.cell) (spot b d) || list_any (spot_eq (spot k.bsc k.cell)) (at_bsc d (place past d))) ≡ false
    elsewhere w e = not_there (reach_of past (event.Edit (edit.MoveCell d b)) a) k h (number_there past (λ v. true) k.warning w e refl)

    here : (w : Warning) → warning_of (book_of past) k.warning ≡ Some w → (t : Bool) → cell_eq d k.cell ≡ t → is_place (place past k.cell) k.bsc ≡ is_place (unwrap_or (if t then Some (Some b) else None) (place past k.cell)) k.bsc
    here w e true same =
        let parts = or_parts (spot_eq (spot k.bsc k.cell) (spot b d)) (list_any (spot_eq (spot k.bsc k.cell)) (at_bsc d (place past d))) (elsewhere w e) in
        contrary (is_place (place past k.cell) k.bsc) (list_any (spot_eq (spot k.bsc k.cell)) (at_bsc d (place past d)))
        (λ g. bsc_there k.bsc d k.cell (place past d) same (ap (λ x. is_place (place past x) k.bsc) ((cell_decides d k.cell).0 same) ∙ g)) parts.1
        ∙ sym (contrary (nat_eq b k.bsc) (spot_eq (spot k.bsc k.cell) (spot b d)) (λ g. spot_there b k.bsc d k.cell g same) parts.0)
    here w e false other = refl

    step : (o : Option Warning) → warning_of (book_of past) k.warning ≡ o → SamePart (facts_of past k.bsc k.cell o) (facts_of new k.bsc k.cell o)
    step None e = same_none past new k.bsc k.cell
    step (Some w) e = same_kept past new k.bsc k.cell w (here w e (cell_eq d k.cell) refl) refl refl (λ s there. refl)

pub outside_remove_cell : (past : Past) (desk : ℕ) (d : Cell) (a : Answer) → Outside past desk (event.Edit (edit.RemoveCell d)) a
outside_remove_cell past desk d a k h = step (warning_of (book_of past) k.warning) refl
  where
    new : Past
    new = After (entry_of desk (event.Edit (edit.RemoveCell d)) a) past

    elsewhere : (w : Warning) → warning_of (book_of past) k.warning ≡ Some w → list_any (spot_eq (spot k.bsc k.cell)) (at_bsc d (place past d)) ≡ false
    elsewhere w e = not_there (reach_of past (event.Edit (edit.RemoveCell d)) a) k h (number_there past (λ v. true) k.warning w e refl)

    here : (w : Warning) → warning_of (book_of past) k.warning ≡ Some w → (t : Bool) → cell_eq d k.cell ≡ t → is_place (place past k.cell) k.bsc ≡ is_place (unwrap_or (if t then Some None else None) (place past k.cell)) k.bsc
    here w e true same =
        contrary (is_place (place past k.cell) k.bsc) (list_any (spot_eq (spot k.bsc k.cell)) (at_bsc d (place past d)))
        (λ g. bsc_there k.bsc d k.cell (place past d) same (ap (λ x. is_place (place past x) k.bsc) ((cell_decides d k.cell).0 same) ∙ g)) (elsewhere w e)
    here w e false other = refl

    step : (o : Option Warning) → warning_of (book_of past) k.warning ≡ o → SamePart (facts_of past k.bsc k.cell o) (facts_of new k.bsc k.cell o)
    step None e = same_none past new k.bsc k.cell
    step (Some w) e = same_kept past new k.bsc k.cell w (here w e (cell_eq d k.cell) refl) refl refl (λ s there. refl)
