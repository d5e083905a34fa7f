use Rattle.std.proofs.Common.{◌≡◌}
use Rattle.console_text.proofs.grammar.read_names.Given as goal

-- the names so far are the parts so far
abbrev pub invariant-loop-part : goal.invariant-loop-part
invariant-loop-part l = l.names.items ≡ l.yielded
