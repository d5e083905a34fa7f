use Rattle.std.proofs.Common.{◌≡◌, true, ◌∙◌, ap, map, length, sym, subst, arith, rules}
use Rattle.std.proofs.lemmas.Result.{on_ok_weaker}
use Rattle.kept_tables.specs.Consistent.{Consistent}
use Rattle.kept_tables.specs.View.{key_at}
use Rattle.warning_book.specs.Book.{numbers}
use Rattle.centre_past.proofs.ReadLemmas.{as_itself}
use Rattle.centre_lines.specs.Following.{Happens, LinesAreOf, happens}
use Rattle.centre_lines.specs.Walking.{Walks, walked}
use Rattle.centre_lines.proofs.WalkLemmas.{in_book_walked, indicated_walked, indicated_walks}
use Rattle.centre_lines.proofs.walking.walk_indicated_spot.Goals as goal

-- those that may change are walked
pub walk_spot-requires : goal.walk_spot-requires
walk_spot-requires c = record {
  walks = subst (λ ns. Walks c.args.plan.now (happens c.args.h.now) c.indicated.new.tables (map (key_at c.args.spot.now) ns)) (sym c.as_slice.ensures.value)
      (indicated_walks c.args.spot.now c.args.all.now c.requires.walks c.indicated.new.tables c.in_ok-indicated.indicated.items c.requires.all c.in_ok-indicated.ensures.which c.in_ok-indicated.ensures.order (c.indicated.ensures.kept c.args.tables.now (as_itself c.args.tables.now)));
}

pub returns-clause-walked : goal.returns-clause-walked
returns-clause-walked c =
    let h : Happens = happens c.args.h.now in
    let keeps : c.keeps_downs.result ≡ true = search rules in
    on_ok_weaker c.walk_spot.result
    (λ done x.
    indicated_walked c.args.spot.now c.args.all.now x c.walk_spot.new.tables c.in_ok-indicated.indicated.items c.requires.all c.in_ok-indicated.ensures.which c.requires.blank (c.keeps_downs.ensures keeps)
    (subst (λ ns. (y : Walks c.args.plan.now h c.indicated.new.tables (map (key_at c.args.spot.now) ns)) → Consistent c.walk_spot.new.tables (walked y (map (key_at c.args.spot.now) ns))) c.as_slice.ensures.value done
    (indicated_walks c.args.spot.now c.args.all.now x c.indicated.new.tables c.in_ok-indicated.indicated.items c.requires.all c.in_ok-indicated.ensures.which c.in_ok-indicated.ensures.order (c.indicated.ensures.kept c.args.tables.now (as_itself c.args.tables.now)))))
    c.walk_spot.ensures.walked

-- no other line is told of, and no cell comes to be down

pub returns-in_err-indicated-clause-downs : goal.returns-in_err-indicated-clause-downs
returns-in_err-indicated-clause-downs c = (c.indicated.ensures.kept c.args.tables.now (as_itself c.args.tables.now)).downs

pub returns-clause-downs : goal.returns-clause-downs
returns-clause-downs c = c.walk_spot.ensures.downs ∙ (c.indicated.ensures.kept c.args.tables.now (as_itself c.args.tables.now)).downs

pub returns-in_err-indicated-clause-least : goal.returns-in_err-indicated-clause-least
returns-in_err-indicated-clause-least c = (c.indicated.ensures.kept c.args.tables.now (as_itself c.args.tables.now)).meter

pub returns-clause-least : goal.returns-clause-least
returns-clause-least c =
    let before = (c.indicated.ensures.kept c.args.tables.now (as_itself c.args.tables.now)).meter in
    omega (arith, before, c.walk_spot.ensures.least)

pub returns-then-not-keeps_downs-clause-meter : goal.returns-then-not-keeps_downs-clause-meter
returns-then-not-keeps_downs-clause-meter c =
    c.walk_near.ensures.meter (subst (λ ns. LinesAreOf ns c.args.tables.now) (sym c.requires.all) (in_book_walked c.requires.walks))

pub returns-in_err-indicated-clause-meter : goal.returns-in_err-indicated-clause-meter
returns-in_err-indicated-clause-meter c =
    let told = c.indicated.ensures.meter (numbers c.args.plan.now.book.warnings) (in_book_walked c.requires.walks c.args.spot.now.bsc c.args.spot.now.cell) in
    omega (arith, told, ap length c.requires.all)

pub returns-clause-meter : goal.returns-clause-meter
returns-clause-meter c =
    let told = c.indicated.ensures.meter (numbers c.args.plan.now.book.warnings) (in_book_walked c.requires.walks c.args.spot.now.bsc c.args.spot.now.cell) in
    let few = c.in_ok-indicated.ensures.few (numbers c.args.plan.now.book.warnings) (in_book_walked c.requires.walks c.args.spot.now.bsc c.args.spot.now.cell) in
    omega (arith, told, few, c.walk_spot.ensures.meter, ap length c.as_slice.ensures.value, ap length c.requires.all)
