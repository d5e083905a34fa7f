use Rattle.std.proofs.Common.{append_assoc, rules}
use Rattle.std.proofs.lemmas.Result.{IfOk-equal}
use Rattle.server_http.proofs.replying.add_common.Goals as goal

pub returns-clause-fields : goal.returns-clause-fields
returns-clause-fields c = search (rules, IfOk-equal, append_assoc)
