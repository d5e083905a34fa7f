use Rattle.std.proofs.Common.{not, nat_eq, rules}
use Rattle.std.proofs.lemmas.Fn.{filter_same}
use Rattle.warning_book.proofs.versions.take_serial_out.Goals as goal

pub returns-clause-items : goal.returns-clause-items
returns-clause-items c =
    filter_same _ (λ other. not (nat_eq other c.args.serial)) _ (λ x b f' k. search rules) _ _ c.retain.ensures.filtered
