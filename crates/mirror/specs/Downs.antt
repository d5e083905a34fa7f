-- How the cells that are down are counted.
use Rattle.std.specs.Prelude.{◌≡◌, ◌⊎◌, ℕ, ◌+◌, ◌*◌, ◌<◌, ◌%◌, Bool, List, [], nat_eq, filter, length}
use Rattle.std.specs.List.{slice_index_or}
use Rattle.common.specs.declared.cell.Cell.{Cell}
use Rattle.mirror.specs.Order.{Place}

-- the cell's class, one of 8,192, which is made of its identity and its location area
abbrev pub class_of : Cell → ℕ
class_of c = (c.ci + c.lac * 61) % 8192

-- the place's cell is of that class
abbrev pub has_class : ℕ → Place → Bool
has_class n p = nat_eq (class_of p.cell) n

-- how many of the places are of that class
abbrev pub count_at : ℕ → List Place → ℕ
count_at n ps = length (filter (has_class n) ps)

-- the count is that of so many. One of 255 says nothing: so many there were at some time, and from then on it stays
abbrev pub IsCount : ℕ → ℕ → Type 0
IsCount count n = count < 255 → count ≡ n

-- by the class, how many of the places are of it
abbrev pub AreCounts : List ℕ → List Place → Type 0
AreCounts counts ps = (n : ℕ) → n < 8192 → IsCount (slice_index_or counts n 0) (count_at n ps)

-- there are no counts, or one for each class
abbrev pub AreNoneOrAll : List ℕ → Type 0
AreNoneOrAll counts = (counts ≡ []) ⊎ (length counts ≡ 8192)
