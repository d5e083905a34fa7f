-- From the identifiers of the code to the rows of the table.
use Rattle.std.proofs.Common.{◌≡◌, ◌∙◌, ℕ, Bool, true, false, cond, eqb, List, [], ◌∷◌, Option, Some, None, bytes_eq, ap, refl, sym}
use Rattle.std.specs.Prelude.{filter, find, map, option_map}
use Rattle.message_identifiers.specs.Lookups.{name_of, number_of, rowless_usage, usage_of, usage_with}
use Rattle.message_identifiers.specs.Nearness.{is_text, text_numbers}
use Rattle.message_identifiers.specs.Table.{Row, row_for, table}
use Rattle.message_identifiers.specs.declared.identifier.Identifier.{Identifier}

found_by : (b : Bool) (i : Identifier) (rest : Option Identifier) → cond b (Some (row_for i)) (option_map row_for rest) ≡ option_map row_for (cond b (Some i) rest)
found_by true i rest = refl
found_by false i rest = refl

-- the row that is found is that of the identifier
found_row : (p : Row → Bool) (identifiers : List Identifier) → find p (map row_for identifiers) ≡ option_map row_for (find (λ i. p (row_for i)) identifiers)
found_row p [] = refl
found_row p (i ∷ more) = ap (λ o. cond (p (row_for i)) (Some (row_for i)) o) (found_row p more) ∙ found_by (p (row_for i)) i (find (λ j. p (row_for j)) more)

-- in the table
table_row : (p : Row → Bool) (identifiers : List Identifier) → map row_for identifiers ≡ table → find p table ≡ option_map row_for (find (λ i. p (row_for i)) identifiers)
table_row p identifiers e = ap (find p) (sym e) ∙ found_row p identifiers

number_by : (o : Option Identifier) → option_map (λ (r : Row). r.number) (option_map row_for o) ≡ option_map (λ (i : Identifier). i.number) o
number_by None = refl
number_by (Some i) = refl

pub number_found : (name : List ℕ) (identifiers : List Identifier) → map row_for identifiers ≡ table
    → option_map (λ (i : Identifier). i.number) (find (λ (i : Identifier). bytes_eq name i.name.now) identifiers) ≡ number_of name
number_found name identifiers e = sym (ap (option_map (λ (r : Row). r.number)) (table_row (λ r. bytes_eq name r.name) identifiers e) ∙ number_by (find (λ (i : Identifier). bytes_eq name i.name.now) identifiers))

name_by : (o : Option Identifier) → option_map (λ (r : Row). r.name) (option_map row_for o) ≡ option_map (λ (i : Identifier). i.name.now) o
name_by None = refl
name_by (Some i) = refl

-- by what is found
pub name_found : (n : ℕ) (identifiers : List Identifier) (o : Option Identifier) → map row_for identifiers ≡ table → o ≡ find (λ (i : Identifier). eqb i.number n) identifiers
    → name_of n ≡ option_map (λ (i : Identifier). i.name.now) o
name_found n identifiers o e f = ap (option_map (λ (r : Row). r.name)) (table_row (λ r. eqb r.number n) identifiers e ∙ ap (option_map row_for) (sym f)) ∙ name_by o

pub usage_found : (n : ℕ) (identifiers : List Identifier) (i : Identifier) → map row_for identifiers ≡ table → Some i ≡ find (λ (j : Identifier). eqb j.number n) identifiers → i.usage ≡ usage_of n
usage_found n identifiers i e f = sym (ap (usage_with n) (table_row (λ r. eqb r.number n) identifiers e ∙ ap (option_map row_for) (sym f)))

pub usage_unfound : (n : ℕ) (identifiers : List Identifier) → map row_for identifiers ≡ table → None ≡ find (λ (j : Identifier). eqb j.number n) identifiers → rowless_usage n ≡ usage_of n
usage_unfound n identifiers e f = sym (ap (usage_with n) (table_row (λ r. eqb r.number n) identifiers e ∙ ap (option_map row_for) (sym f)))

text_by : (b : Bool) (i : Identifier) (rest : List Row) (others : List Identifier) → map (λ (r : Row). r.number) rest ≡ map (λ (j : Identifier). j.number) others
    → map (λ (r : Row). r.number) (cond b (row_for i ∷ rest) rest) ≡ map (λ (j : Identifier). j.number) (cond b (i ∷ others) others)
text_by true i rest others e = ap (λ ns. i.number ∷ ns) e
text_by false i rest others e = e

texts_of : (identifiers : List Identifier) → map (λ (r : Row). r.number) (filter (λ (r : Row). is_text r.usage) (map row_for identifiers)) ≡ map (λ (i : Identifier). i.number) (filter (λ (i : Identifier). is_text i.usage) identifiers)
texts_of [] = refl
texts_of (i ∷ more) = text_by (is_text i.usage) i (filter (λ (r : Row). is_text r.usage) (map row_for more)) (filter (λ (j : Identifier). is_text j.usage) more) (texts_of more)

-- the identifiers of warnings with a text
pub near_found : (identifiers : List Identifier) → map row_for identifiers ≡ table → text_numbers ≡ map (λ (i : Identifier). i.number) (filter (λ (i : Identifier). is_text i.usage) identifiers)
near_found identifiers e = ap (λ t. map (λ (r : Row). r.number) (filter (λ (r : Row). is_text r.usage) t)) (sym e) ∙ texts_of identifiers
