use Rattle.std.proofs.Common.{◌≡◌, ◌∙◌, ◌-◌, true, length, take, drop, sym, ap, arith}
use Rattle.std.proofs.lemmas.List.{length-drop, take_all}
use Rattle.areas.proofs.ShareLemmas.{selected_behind, dropped_ascend, none_selected}
use Rattle.areas.specs.Areas.{selects}
use Rattle.areas.specs.Shares.{tells}
use Rattle.areas.specs.declared.share.Share.TheVariants.{Nothing, From}
use Rattle.areas.proofs.coverage.Coverage.covers.Goals as goal

pub returns-in-Nothing : goal.returns-in-Nothing
returns-in-Nothing c =
    let xs = c.self.inside.selectors.now in
    let told : tells xs c.args.c.lac Nothing ≡ true = ap (tells xs c.args.c.lac) (sym c.in-Nothing.is) ∙ rw c.self.view_is c.share.ensures in
    rw (← c.self.view_is) (none_selected c.args.c xs told)

pub selects-requires : goal.selects-requires
selects-requires c =
    let xs = c.self.inside.selectors.now in
    let rest : take (length xs - c.from.result) (drop c.from.result xs) ≡ drop c.from.result xs = take_all (length xs - c.from.result) (drop c.from.result xs) (omega (arith, length-drop c.from.result xs)) in
    rw rest (dropped_ascend c.from.result xs c.self.invariant.ordered)

pub returns-in-From : goal.returns-in-From
returns-in-From c =
    let xs = c.self.inside.selectors.now in
    let told : tells xs c.args.c.lac (From c.in-From.place) ≡ true = ap (tells xs c.args.c.lac) (sym c.in-From.is) ∙ rw c.self.view_is c.share.ensures in
    let rest : take (length xs - c.from.result) (drop c.from.result xs) ≡ drop c.from.result xs = take_all (length xs - c.from.result) (drop c.from.result xs) (omega (arith, length-drop c.from.result xs)) in
    rw (← c.self.view_is) (c.selects.ensures ∙ ap (λ ys. selects ys c.args.c) (rest ∙ ap (λ n. drop n xs) c.from.ensures) ∙ selected_behind c.args.c xs c.in-From.place told)
