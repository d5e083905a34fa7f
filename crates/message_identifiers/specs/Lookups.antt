-- What is found in the table of message identifiers.
use Rattle.std.specs.Prelude.{ℕ, List, Option, Some, None, ◌&&◌, ◌==◌, nat_le, bytes_eq, find, option_map, if◌then◌else◌}
use Rattle.message_identifiers.specs.Table.{Row, table}
use Rattle.message_identifiers.specs.declared.usage.Usage.{Usage}
use Rattle.message_identifiers.specs.declared.usage.Usage.TheVariants.{Emergency, Unassigned}

-- the row that has the name
abbrev pub row_named : List ℕ → Option Row
row_named name = find (λ (r : Row). bytes_eq name r.name) table

-- the row that has the number
abbrev pub row_of : ℕ → Option Row
row_of n = find (λ (r : Row). r.number == n) table

-- the number for which the name stands
abbrev pub number_of : List ℕ → Option ℕ
number_of name = option_map (λ (r : Row). r.number) (row_named name)

-- the name of the number
abbrev pub name_of : ℕ → Option (List ℕ)
name_of n = option_map (λ (r : Row). r.name) (row_of n)

-- what a number without a row is for: 4352 to 4359 are those of the ETWS, of which the last three are kept for its future
abbrev pub rowless_usage : ℕ → Usage
rowless_usage n = if nat_le 4352 n && nat_le n 4359 then Emergency else Unassigned

-- what the row says, if there is one
abbrev pub usage_with : ℕ → Option Row → Usage
usage_with n (Some r) = r.usage
usage_with n None = rowless_usage n

-- what the number is for
abbrev pub usage_of : ℕ → Usage
usage_of n = usage_with n (row_of n)
