-- A failure list, as the octets after its length (3GPP TS 48.049, 8.2.11).
use Rattle.std.specs.Prelude.{◌≡◌, ℕ, zero, suc, ◌+◌, ◌%◌, ◌<◌, List, [], ◌∷◌, ◌++◌, length, slice_index, Option, Some, None}
use Rattle.cbsp_ie.specs.declared.fail_entry.FailEntry.{FailEntry}
use Rattle.cbsp_ie.specs.declared.form.Form.{Form}
use Rattle.cbsp_ie.specs.declared.form.Form.TheVariants as form
use Rattle.cbsp_ie.specs.declared.ie_fault.IeFault.{IeFault}
use Rattle.cbsp_ie.specs.declared.ie_fault.IeFault.TheVariants as ie
use Rattle.cbsp_ie.specs.CellId.{form_of, id_at, id_octets}
use Rattle.cbsp_ie.specs.Failures.{IsFailEntry}
use Rattle.cbsp_ie.specs.Form.{form_with, size_of}

-- the octets are read as the entry: a discriminator, of which the high four bits are spare, the
-- identification and the cause
abbrev pub IsFailure : List ℕ → FailEntry → Type 0
IsFailure octets e =
    (discriminator : ℕ) × (form_with (discriminator % 16) ≡ Some (form_of e.id)) × IsFailEntry e
    × (octets ≡ discriminator ∷ (id_octets e.id ++ e.cause.0 ∷ []))

-- the octets are read as these entries
abbrev pub AreFailures : List ℕ → List FailEntry → Type 0
AreFailures octets [] = octets ≡ []
AreFailures octets (e ∷ es) =
    (front : List ℕ) × (rest : List ℕ) × (octets ≡ front ++ rest) × IsFailure front e × AreFailures rest es

-- what is wrong with an entry whose discriminator announces the form, where so many octets follow
abbrev pub IsEntryFault : Option Form → ℕ → ℕ → IeFault → Type 0
IsEntryFault None value octets fault = fault ≡ ie.BadDiscriminator value
IsEntryFault (Some f) value octets fault = (octets < size_of f + 1) × (fault ≡ ie.PartialEntry)

-- what is wrong with the entry at the front: first its discriminator, then its length
abbrev pub StartsBadly : List ℕ → IeFault → Type 0
StartsBadly [] fault = ⊥
StartsBadly (discriminator ∷ rest) fault =
    IsEntryFault (form_with (discriminator % 16)) (discriminator % 16) (length rest) fault

-- what is wrong with the octets: whole entries, and then the first that has a fault
pub record IsBadFailureList (octets : List ℕ) (fault : IeFault) : Type 0 where
  pub front : List ℕ
  pub rest : List ℕ
  pub parts : octets ≡ front ++ rest
  pub entries : List FailEntry
  pub good : AreFailures front entries
  pub bad : StartsBadly rest fault

-- the entry after a discriminator that announces the form
abbrev pub failure_after : Option Form → List ℕ → FailEntry
failure_after None octets = record { id = id_at form.All octets; cause = record { 0 = 0 } }
failure_after (Some f) octets = record { id = id_at f octets; cause = record { 0 = slice_index octets (size_of f) } }

-- how many octets the entry has after its discriminator
abbrev pub size_after : Option Form → ℕ
size_after None = 0
size_after (Some f) = size_of f + 1

-- the entries that begin after so many octets
unfoldable pub entries_after : ℕ → List ℕ → List FailEntry
entries_after skip [] = []
entries_after zero (discriminator ∷ rest) =
    failure_after (form_with (discriminator % 16)) rest ∷ entries_after (size_after (form_with (discriminator % 16))) rest
entries_after (suc skip) (octet ∷ rest) = entries_after skip rest
