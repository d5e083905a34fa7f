use Rattle.std.proofs.Common.{not, rules}
use Rattle.std.specs.Prelude.{bytes_eq}
use Rattle.std.proofs.lemmas.Fn.{filter_same}
use Rattle.warning_book.proofs.warning_areas.WarningAreas.cut.Goals as goal

pub returns : goal.returns
returns c =
    rw (← c.self.view_is) (filter_same _ (λ b. not (bytes_eq b c.args.a.now)) _ (λ x b f' k. search rules) _ _ c.retain.ensures.filtered)
