use Rattle.std.proofs.Common.{◌≡◌, take}
use Rattle.centre_answers.proofs.lists.warnings.names_copied.Given as goal

-- the names passed
abbrev pub invariant-loop-name : goal.invariant-loop-name
invariant-loop-name l = l.copy.items ≡ take l.name-index l.names
