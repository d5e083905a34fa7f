use Rattle.centre_past.proofs.OnceLemmas as once
use Rattle.centre_laws.proofs.laws.actions_once.Goals as goal

pub returns-clause-keys : goal.returns-clause-keys
returns-clause-keys c = once.keys_once

pub returns-clause-actions : goal.returns-clause-actions
returns-clause-actions c = once.actions_once
