-- What an operator is told who types a number that is no text identifier.
use Rattle.std.specs.Prelude.{ℕ, List, [], ◌∷◌, ◌++◌, Option, Some, None, codes, decimal}
use Rattle.std.specs.List.{flat_map}
use Rattle.message_identifiers.specs.Lookups.{name_of, usage_of}
use Rattle.message_identifiers.specs.Nearness.{nearest_to}
use Rattle.message_identifiers.specs.declared.usage.Usage.{Usage}
use Rattle.message_identifiers.specs.declared.usage.Usage.TheVariants.{Text, Emergency, Unassigned}

-- numbers, each behind a comma
abbrev pub after_commas : List ℕ → List ℕ
after_commas numbers = flat_map (λ n. codes ", " ++ decimal n) numbers

-- numbers with a comma between them
abbrev pub joined : List ℕ → List ℕ
joined [] = []
joined (first ∷ more) = decimal first ++ after_commas more

-- the name, if there is one
abbrev pub name_or_kind : Option (List ℕ) → List ℕ
name_or_kind None = codes "an emergency"
name_or_kind (Some name) = name

-- what was meant by the number, by what it is for
abbrev pub hint_by : ℕ → Usage → List ℕ
hint_by n Text = codes "nearest " ++ joined (nearest_to n)
hint_by n Emergency = name_or_kind (name_of n) ++ codes ", which alert sends"
hint_by n Unassigned = codes "nearest " ++ joined (nearest_to n)

-- what was meant by the number
abbrev pub hint : ℕ → List ℕ
hint n = hint_by n (usage_of n)

-- the answer to a `say` with the number
unfoldable pub unusual_text : ℕ → List ℕ
unusual_text n = codes "unusual identifier " ++ (decimal n ++ (codes ": " ++ (hint n ++ (codes "; to say it all the same type !" ++ (decimal n ++ 10 ∷ [])))))
