use Rattle.std.proofs.Common.{◌≡◌, ◌++◌, drop}
use Rattle.lists_text.specs.ListTexts.{after_commas}
use Rattle.lists_text.proofs.names.push_more_names.Given as goal

-- the text so far, and the names ahead, are the whole text
abbrev pub invariant-loop-name : goal.invariant-loop-name
invariant-loop-name l = l.text.items ++ after_commas (drop l.name-index l.names) ≡ l.initial.text.items ++ after_commas l.names
