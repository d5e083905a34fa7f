use Rattle.std.proofs.Common.{◌∙◌}
use Rattle.message_identifiers.proofs.TableLemmas.{number_found}
use Rattle.message_identifiers.proofs.lookups.number_of.Goals as goal

pub returns : goal.returns
returns c = c.number_among.ensures ∙ number_found c.args.name.now c.rows.result.now c.rows.ensures
