use Rattle.centre_past.specs.declared.kept.Kept.{Kept}
use Rattle.centre_past.proofs.EmptyLemmas.{empty_kept}
use Rattle.centre_past.proofs.kept.Kept.new.Goals as goal

pub returns-clause-kept : goal.returns-clause-kept
returns-clause-kept c =
    let s : Kept = record { plan = c.new.result; links = c.new-2.result; tables = c.new-3.result } in
    empty_kept s c.new.ensures c.new-2.ensures c.new-3.ensures
