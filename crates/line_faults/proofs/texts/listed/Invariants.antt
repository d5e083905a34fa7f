use Rattle.std.proofs.Common.{◌≡◌, ◌++◌, drop, string_bytes}
use Rattle.line_faults.specs.Texts.{listed}
use Rattle.line_faults.proofs.texts.listed.Given as goal

-- the text so far, and the words ahead, are all of it
abbrev pub invariant-loop-word : goal.invariant-loop-word
invariant-loop-word l = string_bytes l.text ++ listed (drop l.word-index l.words) ≡ listed l.words
