use Rattle.std.proofs.Common.{◌≡◌, ℕ, sym, subst}
use Rattle.std.proofs.lemmas.Result.{on_ok_weaker}
use Rattle.common.specs.declared.cell.Cell.{Cell}
use Rattle.kept_tables.specs.Consistent.{Consistent}
use Rattle.mirror.specs.Table.{down_at}
use Rattle.warning_book.specs.declared.kind.Kind.{Kind}
use Rattle.centre_events.specs.Down.{is_down}
use Rattle.centre_events.specs.Past.{After}
use Rattle.centre_past.specs.Facts.{facts}
use Rattle.centre_lines.specs.Following.{Happens, Made, MadeEdit, MadeOther, entry_of, happens}
use Rattle.centre_lines.proofs.following.bear.Goals as goal

-- an edit

pub returns-in-Read-clause-tables : goal.returns-in-Read-clause-tables
returns-in-Read-clause-tables c =
    let h : Happens = happens c.args.h.now in
    let p = c.args.plan.now in
    on_ok_weaker c.follow_edit.result
    (λ done.
    subst (λ ls. (y : Made p c.args.tables.now h c.args.reached.spots.items ls) → Consistent c.follow_edit.new.tables (facts (After (entry_of y.desk h) y.past))) (sym c.in-Read.is)
    (subst (λ xs. (y : MadeEdit p c.args.tables.now h c.args.reached.spots.items xs) → Consistent c.follow_edit.new.tables (facts (After (entry_of y.desk h) y.past))) c.as_slice-in-Read.ensures.value
    (subst (λ ps. (y : MadeEdit p c.args.tables.now h ps c.as_slice-in-Read.result.now) → Consistent c.follow_edit.new.tables (facts (After (entry_of y.desk h) y.past))) c.as_slice.ensures.value done)))
    c.follow_edit.ensures.tables

pub returns-in-Read-clause-downs : goal.returns-in-Read-clause-downs
returns-in-Read-clause-downs c =
    let h : Happens = happens c.args.h.now in
    let p = c.args.plan.now in
    on_ok_weaker c.follow_edit.result
    (λ done.
    subst (λ ls. (y : Made p c.args.tables.now h c.args.reached.spots.items ls) → (k : Kind) (b : ℕ) (d : Cell) → down_at c.follow_edit.new.tables.lines k b d ≡ is_down (After (entry_of y.desk h) y.past) k b d) (sym c.in-Read.is)
    (subst (λ xs. (y : MadeEdit p c.args.tables.now h c.args.reached.spots.items xs) → (k : Kind) (b : ℕ) (d : Cell) → down_at c.follow_edit.new.tables.lines k b d ≡ is_down (After (entry_of y.desk h) y.past) k b d) c.as_slice-in-Read.ensures.value
    (subst (λ ps. (y : MadeEdit p c.args.tables.now h ps c.as_slice-in-Read.result.now) → (k : Kind) (b : ℕ) (d : Cell) → down_at c.follow_edit.new.tables.lines k b d ≡ is_down (After (entry_of y.desk h) y.past) k b d) c.as_slice.ensures.value done)))
    c.follow_edit.ensures.downs

-- any other event

pub returns-clause-tables : goal.returns-clause-tables
returns-clause-tables c =
    let h : Happens = happens c.args.h.now in
    let p = c.args.plan.now in
    on_ok_weaker c.follow_other.result
    (λ done.
    subst (λ ls. (y : Made p c.args.tables.now h c.args.reached.spots.items ls) → Consistent c.follow_other.new.tables (facts (After (entry_of y.desk h) y.past))) (sym c.in-Unread.is)
    (subst (λ xs. (y : MadeOther p c.args.tables.now h c.args.reached.spots.items xs) → Consistent c.follow_other.new.tables (facts (After (entry_of y.desk h) y.past))) c.as_slice-in-Unread-2.ensures.value
    (subst (λ ps. (y : MadeOther p c.args.tables.now h ps c.as_slice-in-Unread-2.result.now) → Consistent c.follow_other.new.tables (facts (After (entry_of y.desk h) y.past))) c.as_slice-in-Unread.ensures.value done)))
    c.follow_other.ensures.tables

pub returns-clause-downs : goal.returns-clause-downs
returns-clause-downs c =
    let h : Happens = happens c.args.h.now in
    let p = c.args.plan.now in
    on_ok_weaker c.follow_other.result
    (λ done.
    subst (λ ls. (y : Made p c.args.tables.now h c.args.reached.spots.items ls) → (k : Kind) (b : ℕ) (d : Cell) → down_at c.follow_other.new.tables.lines k b d ≡ is_down (After (entry_of y.desk h) y.past) k b d) (sym c.in-Unread.is)
    (subst (λ xs. (y : MadeOther p c.args.tables.now h c.args.reached.spots.items xs) → (k : Kind) (b : ℕ) (d : Cell) → down_at c.follow_other.new.tables.lines k b d ≡ is_down (After (entry_of y.desk h) y.past) k b d) c.as_slice-in-Unread-2.ensures.value
    (subst (λ ps. (y : MadeOther p c.args.tables.now h ps c.as_slice-in-Unread-2.result.now) → (k : Kind) (b : ℕ) (d : Cell) → down_at c.follow_other.new.tables.lines k b d ≡ is_down (After (entry_of y.desk h) y.past) k b d) c.as_slice-in-Unread.ensures.value done)))
    c.follow_other.ensures.downs
