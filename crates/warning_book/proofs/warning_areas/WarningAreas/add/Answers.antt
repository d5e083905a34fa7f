use Rattle.std.proofs.Common.{◌≡◌, ◌∙◌, ap, false, rules}
use Rattle.std.specs.Prelude.{bytes_eq}
use Rattle.std.specs.List.{list_any}
use Rattle.warning_book.specs.Classes.{have_classes}
use Rattle.warning_book.proofs.AreaLemmas.{new_last}
use Rattle.warning_book.proofs.ClassLemmas.{classes_last}
use Rattle.warning_book.proofs.warning_areas.WarningAreas.add.Goals as goal

pub returns-clause-put : goal.returns-clause-put
returns-clause-put c =
    let new : list_any (λ b. bytes_eq b c.args.a) c.self.inside.names.keys ≡ false = search rules in
    rw (← c.self.view_is) (c.in_ok-insert.ensures.keys ∙ new_last c.args.a c.self.inside.names.keys new)

pub invariant_of-self-2 : goal.invariant_of-self-2
invariant_of-self-2 c =
    let new : list_any (λ b. bytes_eq b c.args.a) c.self.inside.names.keys ≡ false = search rules in
    ap (have_classes c.with-classes.result.digits) (c.in_ok-insert.ensures.keys ∙ new_last c.args.a c.self.inside.names.keys new) ∙ classes_last c.self.inside.classes.digits c.with-classes.result.digits c.self.inside.names.keys c.args.a c.with-classes.ensures.others c.with-classes.ensures.own c.self.invariant
