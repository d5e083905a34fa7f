use Rattle.message_identifiers.proofs.LawLemmas.{distinct_names, distinct_numbers}
use Rattle.message_identifiers.proofs.laws.rows_are_distinct.Goals as goal

pub returns-clause-numbers : goal.returns-clause-numbers
returns-clause-numbers c = distinct_numbers

pub returns-clause-names : goal.returns-clause-names
returns-clause-names c = distinct_names
