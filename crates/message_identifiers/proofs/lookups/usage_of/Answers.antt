use Rattle.std.proofs.Common.{◌∙◌}
use Rattle.message_identifiers.proofs.TableLemmas.{usage_found, usage_unfound}
use Rattle.message_identifiers.proofs.lookups.usage_of.Goals as goal

pub returns-in-Some : goal.returns-in-Some
returns-in-Some c = usage_found c.args.number c.rows.result.now c.in-Some.it c.rows.ensures c.in-Some.ensures

pub returns-in-None : goal.returns-in-None
returns-in-None c = c.rowless_usage.ensures ∙ usage_unfound c.args.number c.rows.result.now c.rows.ensures c.in-None.ensures
