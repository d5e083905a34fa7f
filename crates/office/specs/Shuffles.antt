-- When entries are a shuffle of what the desks have as receipts, and why an office can't be settled.
use Rattle.std.specs.Prelude.{◌≡◌, ◌≢◌, ◌<◌, ◌≤◌, ◌-◌, ◌++◌, ℕ, List, [], ◌∷◌, Some, slice_get, length, take, drop, All, Any}
use Rattle.common.specs.Sums.{sum_of}
use Rattle.centre_past.specs.Legal.{Known}
use Rattle.centre_events.specs.declared.entry.Entry.{Entry}
use Rattle.office.specs.Desks.{DeskState}
use Rattle.office.specs.Helds.{IsByOpened, entry_of}
use Rattle.office.specs.Receipts.{receipts_from, receipts_of}
use Rattle.office.specs.declared.fault.Fault.{Fault}
use Rattle.office.specs.declared.fault.Fault.TheVariants as fault
use Rattle.office.specs.declared.receipt.Receipt.{Receipt}

-- the receipt's entry stands at its place in the journal, before which so many entries were folded, and is of the desk
abbrev pub IsEntryOf : ℕ → ℕ → List Entry → Receipt → Type 0
IsEntryOf desk folded journal r = (folded < r.place) × (slice_get journal (r.place - folded - 1) ≡ Some (entry_of desk r.event r.answer))

-- each receipt's entry stands so, and each place is above the one before it
abbrev pub AreEntriesOf : ℕ → ℕ → List Entry → ℕ → List Receipt → Type 0
AreEntriesOf desk folded journal before [] = Unit {0}
AreEntriesOf desk folded journal before (r ∷ rs) = ((before < r.place) × IsEntryOf desk folded journal r) × AreEntriesOf desk folded journal r.place rs

-- of the receipts, the first, so many, have places among the folded entries, and the others have their entries in the journal
abbrev pub AreSplit : ℕ → ℕ → List Entry → ℕ → List Receipt → Type 0
AreSplit desk folded journal count receipts = All (λ (r : Receipt). r.place ≤ folded) (take count receipts) × AreEntriesOf desk folded journal 0 (drop count receipts)

-- The desk's receipts above the folded entries are its entries in the journal, in their order, with their places. The others are as
-- many as it has folded entries, and their places are among the folded ones. The desk let go of no receipt but of these.
pub record HasItsEntries (folded journal : List Entry) (d : DeskState) : Type 0 where
  pub earlier : List Receipt
  pub receipts : d.receipts ≡ earlier ++ receipts_from d.number (length folded) journal
  pub counted : length earlier ≡ length (receipts_of d.number folded)
  pub places : All (λ (r : Receipt). r.place ≤ length folded) earlier
  pub released : d.released ≤ length earlier

-- how many receipts the desks have, all together
abbrev pub receipt_count : List DeskState → ℕ
receipt_count desks = sum_of (λ (d : DeskState). length d.receipts) desks

-- each entry, folded or not, is of a desk that was opened, the receipts of each desk are its entries, no desk is missing, and there are
-- exactly as many entries as receipts, so that none has its receipt twice
pub record IsShuffle (opened : ℕ) (folded journal : List Entry) (desks : List DeskState) : Type 0 where
  pub entries : All (IsByOpened opened) (folded ++ journal)
  pub lists : All (HasItsEntries folded journal) desks
  pub every : (n : ℕ) → 0 < n → n ≤ opened → Any (λ (d : DeskState). d.number ≡ n) desks
  pub counted : length (folded ++ journal) ≡ receipt_count desks

-- the receipts of a desk of that number aren't its entries
abbrev pub IsMismatch : List Entry → List Entry → List DeskState → ℕ → Type 0
IsMismatch folded journal desks n = Any (λ (d : DeskState). (d.number ≡ n) × ¬ HasItsEntries folded journal d) desks

-- the desk of that number was opened, and isn't there
abbrev pub IsMissing : ℕ → List DeskState → ℕ → Type 0
IsMissing opened desks n = ((0 < n) × (n ≤ opened)) × All (λ (d : DeskState). d.number ≢ n) desks

-- what the fault says: a desk's receipts aren't its entries; or each desk's are, and a desk is missing
abbrev pub IsFault : ℕ → List Entry → List Entry → List DeskState → Fault → Type 0
IsFault opened folded journal desks (fault.Mismatch n) = IsMismatch folded journal desks n
IsFault opened folded journal desks (fault.MissingDesk n) = IsMissing opened desks n × All (HasItsEntries folded journal) desks

-- for some number of desks that were opened, the entries are a shuffle of their receipts
abbrev pub IsSettled : Known → List DeskState → Type 0
IsSettled centre desks = (opened : ℕ) × IsShuffle opened centre.folded centre.journal desks

-- for some number of desks that were opened, the fault is so
abbrev pub IsUnsettled : Known → List DeskState → Fault → Type 0
IsUnsettled centre desks f = (opened : ℕ) × IsFault opened centre.folded centre.journal desks f
