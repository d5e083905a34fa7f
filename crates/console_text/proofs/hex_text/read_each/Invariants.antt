use Rattle.std.proofs.Common.{◌≡◌, drop}
use Rattle.console_text.specs.HexText.{all_octets_of}
use Rattle.console_text.proofs.HexTextLemmas.{after_pages}
use Rattle.console_text.proofs.hex_text.read_each.Given as goal

-- the pages so far, and those of the texts that are left, are all of them
abbrev pub invariant-loop-text : goal.invariant-loop-text
invariant-loop-text l = after_pages l.pages.items (all_octets_of (drop l.text-index l.texts)) ≡ all_octets_of l.texts
