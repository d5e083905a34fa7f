-- A list of broadcasts completed, as the octets after its length (3GPP TS 48.049, 8.2.10).
use Rattle.std.specs.Prelude.{◌≡◌, ◌≢◌, ℕ, zero, suc, ◌+◌, ◌*◌, ◌%◌, List, [], ◌∷◌, ◌++◌, drop, length, slice_index, Option, Some, None}
use Rattle.std.specs.Int.{bytes_high_first}
use Rattle.byteorder.specs.Endian.{big_number}
use Rattle.cbsp_ie.specs.declared.count_entry.CountEntry.{CountEntry}
use Rattle.cbsp_ie.specs.declared.form.Form.{Form}
use Rattle.cbsp_ie.specs.declared.form.Form.TheVariants as form
use Rattle.cbsp_ie.specs.declared.ie_fault.IeFault.{IeFault}
use Rattle.cbsp_ie.specs.declared.ie_fault.IeFault.TheVariants as ie
use Rattle.cbsp_ie.specs.CellId.{id_at, id_octets}
use Rattle.cbsp_ie.specs.Counts.{AreCountsOf, Numbers}
use Rattle.cbsp_ie.specs.Form.{form_with, size_of}

-- the octets are read as the entry: the identification, the number, and the info, of which the high
-- four bits are spare
abbrev pub IsCount : List ℕ → CountEntry → Type 0
IsCount octets e =
    (info : ℕ) × (e.info ≡ info % 16) × (octets ≡ id_octets e.id ++ (bytes_high_first 2 e.number ++ info ∷ []))

-- the octets are read as these entries
abbrev pub AreCounts : List ℕ → List CountEntry → Type 0
AreCounts octets [] = octets ≡ []
AreCounts octets (e ∷ es) =
    (front : List ℕ) × (rest : List ℕ) × (octets ≡ front ++ rest) × IsCount front e × AreCounts rest es

-- the octets are read as these entries of one form: none at all, or a discriminator, of which the
-- high four bits are spare, and the entries
abbrev pub IsCountList : List ℕ → Numbers → Type 0
IsCountList [] numbers = (numbers.form ≡ form.LacCi) × (numbers.entries ≡ [])
IsCountList (discriminator ∷ rest) numbers =
    (form_with (discriminator % 16) ≡ Some numbers.form) × AreCountsOf numbers.form numbers.entries × AreCounts rest numbers.entries

-- no number of entries of the form has so many octets
abbrev pub IsPartialCount : Form → ℕ → Type 0
IsPartialCount f octets = (count : ℕ) → count * (size_of f + 3) ≢ octets

-- what is wrong with so many octets after a discriminator that announces the form, if any
abbrev pub IsCountFaultAfter : Option Form → ℕ → ℕ → IeFault → Type 0
IsCountFaultAfter None value octets fault = fault ≡ ie.BadDiscriminator value
IsCountFaultAfter (Some f) value octets fault = IsPartialCount f octets × (fault ≡ ie.PartialEntry)

-- what is wrong with the octets of the list: first the discriminator, then the entries
abbrev pub IsBadCountList : List ℕ → IeFault → Type 0
IsBadCountList [] fault = ⊥
IsBadCountList (discriminator ∷ rest) fault =
    IsCountFaultAfter (form_with (discriminator % 16)) (discriminator % 16) (length rest) fault

-- the entry of the form at the front of the octets, where there are enough of them
abbrev pub count_at : Form → List ℕ → CountEntry
count_at f octets = record {
  id = id_at f octets;
  number = big_number 2 (drop (size_of f) octets);
  info = slice_index octets (size_of f + 2) % 16;
}

-- so many entries of the form, one after the other
unfoldable pub counts_at : Form → ℕ → List ℕ → List CountEntry
counts_at f zero octets = []
counts_at f (suc count) octets = count_at f octets ∷ counts_at f count (drop (size_of f + 3) octets)
