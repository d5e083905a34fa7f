use Rattle.std.proofs.Common.{sym, ◌∙◌, inr}
use Rattle.cbsp_messages.proofs.ReadingLemmas.{Spells-result, IsFault-missing, IsFault-result, type_of-result}
use Rattle.cbsp_messages.proofs.reading.message_as.Goals as goal

pub returns-in-Some-clause-fault : goal.returns-in-Some-clause-fault
returns-in-Some-clause-fault c =
    inr (IsFault-missing _ _ c.args.kind _ c.in_ok-elements.ensures.found (rw (← c.layout-layout.ensures) (sym c.in-Some.is ∙ c.first_missing.ensures)))

pub returns-clause-kind : goal.returns-clause-kind
returns-clause-kind c = type_of-result _ c.args.kind _ _ c.layout-layout.ensures c.message_of.ensures.laid

pub returns-clause-found : goal.returns-clause-found
returns-clause-found c =
    Spells-result _ _ c.args.kind _ c.in_ok-elements.ensures.found (rw (← c.layout-layout.ensures) c.message_of.ensures.laid) c.message_of.ensures.says

pub returns-clause-fault : goal.returns-clause-fault
returns-clause-fault c =
    IsFault-result _ _ c.args.kind _ c.in_ok-elements.ensures.found (rw (← c.layout-layout.ensures) (sym c.in_default.is ∙ c.first_missing.ensures)) (rw (← c.layout-layout.ensures) c.message_of.ensures.fault)
