use Rattle.std.proofs.Common.{◌≡◌, ◌++◌, List, ℕ, drop}
use Rattle.server_consoles.proofs.WatchLemmas.{LeadsTo}
use Rattle.server_consoles.proofs.entry_text.put_entries.Given as goal

-- what was put behind the text, with what the entries ahead add, is the text of all entries
abbrev pub invariant-loop-entry : goal.invariant-loop-entry
invariant-loop-entry l = (added : List ℕ) × (l.text.items ≡ l.initial.text.items ++ added) × LeadsTo l.number l.entries l.last (drop l.entry-index l.entries) added
