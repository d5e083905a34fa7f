use Rattle.std.proofs.Common.{refl}
use Rattle.message_identifiers.specs.Table.{table}
use Rattle.message_identifiers.proofs.table.rows.Goals as goal

pub returns : goal.returns
unfolding table
returns c = refl
