use Rattle.std.proofs.Common.{◌≡◌, ◌∙◌, sym, ap, arith}
use Rattle.std.specs.Prelude.{slice_get}
use Rattle.std.specs.Option.{option_copied}
use Rattle.std.proofs.lemmas.Grind.{common_steps}
use Rattle.std.proofs.lemmas.List.Folds.{find_at}
use Rattle.std.proofs.lemmas.Option.{gets}
use Rattle.warning_book.specs.Book.{has_number}
use Rattle.warning_book.proofs.lookups.find.Goals as goal

pub returns : goal.returns
returns c =
    let read : option_copied c.get.result ≡ slice_get c.args.warnings.now c.place_of.result = grind (arith, common_steps, gets) in
    read ∙ ap (slice_get c.args.warnings.now) c.place_of.ensures ∙ sym (find_at (has_number c.args.number) c.args.warnings.now)
