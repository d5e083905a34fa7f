use Rattle.std.proofs.Common.{◌≡◌, take}
use Rattle.warning_book.specs.ClassedNames.{names_of}
use Rattle.warning_book.proofs.questions.classed_names.Given as goal

-- the names passed
abbrev pub invariant-loop-name : goal.invariant-loop-name
invariant-loop-name l = names_of l.all.items ≡ take l.name-index l.names
