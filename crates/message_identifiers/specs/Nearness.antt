-- Which text identifiers were meant by a number that is none.
use Rattle.std.specs.Prelude.{ℕ, ◌+◌, ◌-◌, ◌*◌, ◌/◌, ◌%◌, ◌==◌, ◌||◌, nat_lt, Bool, true, false, List, [], ◌∷◌, filter, map, take, if◌then◌else◌}
use Rattle.std.specs.List.{list_any}
use Rattle.message_identifiers.specs.Table.{Row, table}
use Rattle.message_identifiers.specs.declared.usage.Usage.{Usage}
use Rattle.message_identifiers.specs.declared.usage.Usage.TheVariants.{Text, Emergency, Unassigned}

-- a warning with a text may have it
abbrev pub is_text : Usage → Bool
is_text Text = true
is_text Emergency = false
is_text Unassigned = false

-- the identifiers of warnings with a text, by their numbers
abbrev pub text_numbers : List ℕ
text_numbers = map (λ (r : Row). r.number) (filter (λ (r : Row). is_text r.usage) table)

-- the number without one of its decimal digits: that of ones, of tens, of hundreds and so on, by the power of ten
abbrev pub without : ℕ → ℕ → ℕ
without power n = n / (power * 10) * power + n % power

-- the powers of ten of the digits of a message identifier
abbrev pub powers : List ℕ
powers = 1 ∷ 10 ∷ 100 ∷ 1000 ∷ 10000 ∷ []

-- the two numbers are the same where that digit is left out of one of them, or of both
abbrev pub is_near_at : ℕ → ℕ → ℕ → Bool
is_near_at n known power = without power known == n || without power n == known || without power n == without power known

-- one digit was left out, put in or changed
abbrev pub is_near : ℕ → ℕ → Bool
is_near n known = list_any (is_near_at n known) powers

-- the first three text identifiers from which a number is so
abbrev pub near_numbers : ℕ → List ℕ
near_numbers n = take 3 (filter (is_near n) text_numbers)

-- how far a number is from another
abbrev pub distance : ℕ → ℕ → ℕ
distance a b = (a - b) + (b - a)

-- the text identifier that is closest to a number above all of them or below
abbrev pub closest : ℕ → ℕ
closest n = if nat_lt n 4370 then 4370 else 4399

-- those, or else that one
abbrev pub or_closest : ℕ → List ℕ → List ℕ
or_closest n [] = closest n ∷ []
or_closest n (first ∷ more) = first ∷ more

-- the text identifiers that were meant by a number
abbrev pub nearest_to : ℕ → List ℕ
nearest_to n = or_closest n (near_numbers n)
