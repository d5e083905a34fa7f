-- Names that have their classes beside them.
use Rattle.std.specs.Prelude.{ℕ, List, map}
use Rattle.warning_book.specs.declared.classed_name.ClassedName.{ClassedName}

-- the names, without their classes
abbrev pub names_of : List ClassedName → List (List ℕ)
names_of names = map (λ n. n.name.now) names
