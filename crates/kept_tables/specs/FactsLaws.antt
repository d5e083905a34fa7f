-- Nothing is ordered on the line of a warning that isn't in the book, and it adds nothing to the board.
use Rattle.std.proofs.Common.{◌≡◌, Bool, true, false, ℕ, List, [], refl}
use Rattle.coverage_board.specs.Numbers.{zero_numbers}
use Rattle.kept_tables.specs.Facts.{no_facts, deeds_of, total_of_line, area_of_line}

-- nothing is ordered on it
pub deeds_of_none : (down here : Bool) → deeds_of (no_facts down here) ≡ []
deeds_of_none down here = refl

-- it adds nothing to the numbers of its warning
pub total_of_none : (down here : Bool) → total_of_line (no_facts down here) ≡ zero_numbers
total_of_none down true = refl
total_of_none down false = refl

-- nor to those of an area
pub area_of_none : (a : List ℕ) (down here : Bool) → area_of_line a (no_facts down here) ≡ zero_numbers
area_of_none a down here = refl
