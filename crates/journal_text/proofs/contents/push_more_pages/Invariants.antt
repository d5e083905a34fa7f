use Rattle.std.proofs.Common.{◌≡◌, drop, map, take}
use Rattle.std.specs.List.{AllByRecursion}
use Rattle.hex.specs.Hex.{IsBytes, encode_lower}
use Rattle.journal_text.specs.Texts.{followed}
use Rattle.journal_text.proofs.contents.push_more_pages.Given as goal

-- the line so far, and the pages ahead, are the whole line; those passed are octets
abbrev pub invariant-loop-page : goal.invariant-loop-page
invariant-loop-page l = record {
  text : followed 47 l.line.items (map encode_lower (drop l.page-index l.pages)) ≡ followed 47 l.initial.line.items (map encode_lower l.pages);
  octets : AllByRecursion IsBytes (take l.page-index l.pages);
}
