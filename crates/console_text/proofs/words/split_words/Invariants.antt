use Rattle.std.proofs.Common.{◌≡◌, ◌++◌, length}
use Rattle.console_text.specs.Parts.{parts_of}
use Rattle.console_text.specs.Words.{words_of, non_empty}
use Rattle.console_text.proofs.words.split_words.Given as goal

-- the words so far, and those of what is left, are all of them
abbrev pub invariant-loop-word : goal.invariant-loop-word
invariant-loop-word l = l.words.items ++ non_empty (parts_of 32 l.rest) ≡ words_of l.line

abbrev pub decreases-loop-word : goal.decreases-loop-word
decreases-loop-word l = length l.rest
