use Rattle.std.proofs.Common.{◌≡◌, ◌≤◌, length}
use Rattle.link_rules.specs.Words.{words_of}
use Rattle.link_rules.proofs.words.cut_word.Given as goal

-- the words of what is left are all of them
abbrev pub invariant-loop-part : goal.invariant-loop-part
invariant-loop-part l = record { words : words_of l.rest ≡ words_of l.line; within : length l.rest ≤ length l.line }

abbrev pub decreases-loop-part : goal.decreases-loop-part
decreases-loop-part l = length l.rest
