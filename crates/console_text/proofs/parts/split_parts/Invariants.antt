use Rattle.std.proofs.Common.{◌≡◌, ◌++◌, length}
use Rattle.console_text.specs.Parts.{parts_of}
use Rattle.console_text.proofs.parts.split_parts.Given as goal

-- the parts so far, and those of what is left, are all of them
abbrev pub invariant-loop-part : goal.invariant-loop-part
invariant-loop-part l = l.parts.items ++ parts_of l.separator l.rest ≡ parts_of l.separator l.text

abbrev pub decreases-loop-part : goal.decreases-loop-part
decreases-loop-part l = length l.rest
