use Rattle.std.proofs.Common.{◌≡◌, ℕ, List, true, bytes_eq, drop}
use Rattle.common.specs.Order.{each_once}
use Rattle.coverage_board.specs.AreaSets.{names_at}
use Rattle.coverage_board.specs.Board.{area_in}
use Rattle.coverage_board.specs.Parts.{has_area}
use Rattle.coverage_board.proofs.AreaLemmas.{moved_where}
use Rattle.coverage_board.proofs.area_numbers.AreaNumbers.move_all.Given as goal

-- the areas to come have their old numbers, and moving their parts comes to what moving all comes to
abbrev pub invariant-loop-index : goal.invariant-loop-index
invariant-loop-index l = record {
  once : each_once bytes_eq (drop l.index l.names) ≡ true;
  kept : (a : List ℕ) → has_area (names_at l.left (drop l.index l.names)) a ≡ true → area_in l.self a ≡ area_in l.initial.self a;
  among : (a : List ℕ) → has_area (names_at l.left (drop l.index l.names)) a ≡ true → has_area (names_at l.bits l.names) a ≡ true;
  numbers : (a : List ℕ) → moved_where l.out l.part (has_area (names_at l.left (drop l.index l.names)) a) (area_in l.self a) ≡ moved_where l.out l.part (has_area (names_at l.bits l.names) a) (area_in l.initial.self a);
}
