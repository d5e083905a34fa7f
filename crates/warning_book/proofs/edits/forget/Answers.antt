use Rattle.std.proofs.Common.{not, rules}
use Rattle.std.proofs.lemmas.Fn.{filter_same}
use Rattle.warning_book.specs.Book.{has_number}
use Rattle.warning_book.proofs.edits.forget.Goals as goal

pub returns : goal.returns
returns c =
    filter_same _ (λ w. not (has_number c.args.number w)) _ (λ w b f' k. search rules) _ _ c.retain.ensures.filtered
