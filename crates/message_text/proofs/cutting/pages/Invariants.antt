use Rattle.std.proofs.Common.{◌≡◌, ◌-◌, ◌≤◌, length, take, Some, vec_len}
use Rattle.std.specs.List.{AllByRecursion}
use Rattle.message_text.specs.Reading.{read_pages}
use Rattle.message_text.specs.Texts.{HasRoom, Needs}
use Rattle.message_text.proofs.CuttingLemmas.{Reaches}
use Rattle.message_text.proofs.cutting.pages.Given as goal

abbrev pub decreases-loop-written : goal.decreases-loop-written
decreases-loop-written l = length l.letters - l.written

-- the pages are read as the letters written, and no fewer pages have as many
abbrev pub invariant-loop-written : goal.invariant-loop-written
invariant-loop-written l = record {
  place : l.written ≤ length l.letters;
  read : read_pages l.coding l.pages.items ≡ Some (take l.written l.letters);
  count : vec_len l.pages ≤ 15;
  sizes : AllByRecursion HasRoom l.pages.items;
  reach : Reaches l.coding l.letters (vec_len l.pages) l.written;
  fewest : Needs l.coding l.letters (vec_len l.pages);
}
