use Rattle.std.proofs.Common.{◌≡◌, drop}
use Rattle.journal_text.specs.Texts.{followed}
use Rattle.journal_text.proofs.names.push_more_names.Given as goal

-- the line so far, and the names ahead, are the whole line
abbrev pub invariant-loop-name : goal.invariant-loop-name
invariant-loop-name l = followed 44 l.line.items (drop l.name-index l.names) ≡ followed 44 l.initial.line.items l.names
