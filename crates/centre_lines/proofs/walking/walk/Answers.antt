use Rattle.std.proofs.Common.{◌≡◌, sym, ◌∙◌, ap, subst}
use Rattle.std.specs.Prelude.{OnOk, if◌then◌else◌}
use Rattle.kept_tables.specs.Consistent.{Consistent}
use Rattle.warning_book.specs.Book.{numbers}
use Rattle.centre_lines.specs.Following.{Happens, bearing, happens, keys_of}
use Rattle.centre_lines.specs.Walking.{Walks, walked}
use Rattle.centre_lines.proofs.walking.walk.Goals as goal

pub returns-then-leaves_blank-clause-walked : goal.returns-then-leaves_blank-clause-walked
returns-then-leaves_blank-clause-walked c =
    let h : Happens = happens c.args.h.now in
    let all : bearing c.args.h.now.event.now c.args.h.now.answer.now c.args.plan.now.book c.args.warnings.now ≡ numbers c.args.plan.now.book.warnings =
    ap (λ b. if b then numbers c.args.plan.now.book.warnings else c.args.warnings.now) (sym c.leaves_blank.ensures ∙ c.if-leaves_blank.true) in
    subst (λ ns. OnOk c.walk_indicated.result ((x : Walks c.args.plan.now h c.args.tables.now (keys_of c.args.spots.now ns)) → Consistent c.walk_indicated.new.tables (walked x (keys_of c.args.spots.now ns)))) (sym all) c.walk_indicated.ensures.walked

pub returns-clause-walked : goal.returns-clause-walked
returns-clause-walked c =
    let h : Happens = happens c.args.h.now in
    let those : bearing c.args.h.now.event.now c.args.h.now.answer.now c.args.plan.now.book c.args.warnings.now ≡ c.args.warnings.now =
    ap (λ b. if b then numbers c.args.plan.now.book.warnings else c.args.warnings.now) (sym c.leaves_blank.ensures ∙ c.if-leaves_blank.false) in
    subst (λ ns. OnOk c.walk_named.result ((x : Walks c.args.plan.now h c.args.tables.now (keys_of c.args.spots.now ns)) → Consistent c.walk_named.new.tables (walked x (keys_of c.args.spots.now ns)))) (sym those) c.walk_named.ensures.walked
