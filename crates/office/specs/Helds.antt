-- What stands under the lock, what always holds of it, and when a desk is as the office knows it.
use Rattle.std.specs.Prelude.{◌≡◌, ◌≤◌, ◌<◌, ◌⊎◌, ◌+◌, ◌++◌, ◌==◌, ◌&&◌, ℕ, Bool, true, false, List, [], ◌∷◌, Ok, length, All, nat_lt, nat_le, get_or}
use Rattle.centre_past.specs.Fits.{AnswerFits}
use Rattle.centre_past.specs.Legal.{Known, all_entries, past}
use Rattle.centre_events.specs.Verdict.{verdict}
use Rattle.centre_events.specs.declared.answer.Answer.{Answer}
use Rattle.centre_events.specs.declared.entry.Entry.{Entry}
use Rattle.centre_events.specs.declared.event.Event.{Event}
use Rattle.centre_events.specs.declared.refusal.Refusal.{Refusal}
use Rattle.centre_events.specs.declared.refusal.Refusal.TheVariants as refusal
use Rattle.office.specs.Desks.{DeskState}
use Rattle.office.specs.Receipts.{receipts_of, last_place}
use Rattle.office.specs.declared.receipt.Receipt.{Receipt}
use Rattle.office.specs.declared.row.Row.{Row}
use Rattle.office.specs.declared.wish.Wish.{Wish}
use Rattle.office.specs.Wishes.{is_same_bsc}
use Rattle.common.specs.Order.{each_once}

-- what stands under the lock: the centre, a row for each desk that was opened, those rows as they were when entries were last folded,
-- how many receipts the desks have, all together, the parts and the amount of the share that is kept for desks not yet opened, the
-- wishes for queries, and how often those who wait for entries were interrupted
pub record HeldState : Type 0 where
  pub centre : Known
  pub rows : List Row
  pub base_rows : List Row
  pub total : ℕ
  pub rest_parts : ℕ
  pub rest_amount : ℕ
  pub wishes : List Wish
  pub interrupts : ℕ

-- a row without entries
abbrev pub no_row : Row
no_row = record { entries = 0; last = 0 }

-- what the entries say of the desk
abbrev pub row_of : ℕ → List Entry → Row
row_of desk entries = record { entries = length (receipts_of desk entries); last = last_place (receipts_of desk entries) }

-- each row says what the entries do of its desk; the first is that of desk 1
abbrev pub RowsFit : List Row → List Entry → Type 0
RowsFit rows entries = (k : ℕ) → k < length rows → get_or rows k no_row ≡ row_of (k + 1) entries

-- the entry's desk is one of those opened
abbrev pub IsByOpened : ℕ → Entry → Type 0
IsByOpened opened e = (0 < e.desk) × (e.desk ≤ opened)

-- the rows are those of the entries, every one of which is of a desk that has a row
pub record AreRowsOf (rows : List Row) (entries : List Entry) : Type 0 where
  pub fit : RowsFit rows entries
  pub opened : All (IsByOpened (length rows)) entries

-- There are exactly as many entries as all desks have receipts, those counted that were folded: the rows are those of all entries, and
-- the earlier rows those of the folded ones; the book, whose total is the sum of the amounts of all shares, has the number of all
-- entries, and the share kept for desks not yet opened has no amount. It has a part for each of 1,024 desks that isn't opened, and one
-- more. So the amounts of the desks' shares, which are the numbers of their receipts, come to the number of entries.
pub record IsHeld (rows base_rows : List Row) (folded journal : List Entry) (total parts amount : ℕ) : Type 0 where
  pub all_rows : AreRowsOf rows (folded ++ journal)
  pub folded_rows : AreRowsOf base_rows folded
  pub counted : total ≡ length (folded ++ journal)
  pub parts_left : parts + length rows ≡ 1025
  pub few : length rows ≤ 1024
  pub nothing : amount ≡ 0

-- no two wishes are for one BSC
abbrev pub HasEachOnce : List Wish → Type 0
HasEachOnce wishes = each_once is_same_bsc wishes ≡ true

-- the desk was opened, and has as many receipts as there are entries of it, the last at the last one's place
abbrev pub fits : ℕ → List Entry → DeskState → Bool
fits opened entries d = ((nat_lt 0 d.number && nat_le d.number opened) && (length (receipts_of d.number entries) == length d.receipts))
    && (last_place (receipts_of d.number entries) == last_place d.receipts)

-- the entry of an event that a desk submitted
abbrev pub entry_of : ℕ → Event → Answer → Entry
entry_of desk event answer = record { desk = desk; event = event; answer = answer }

-- the receipt of an event
abbrev pub receipt_at : ℕ → Event → Answer → Receipt
receipt_at place event answer = record { place = place; event = event; answer = answer }

-- a row with that many entries, the last at that place
abbrev pub row_at : ℕ → ℕ → Row
row_at entries last = record { entries = entries; last = last }

-- the event was accepted: it is the one new entry, of that desk, with the verdict as its answer, and the desk has its receipt, and lets
-- go of none
pub record IsEntered (old : Known) (before : DeskState) (event : Event) (new : Known) (after : DeskState) : Type 0 where
  pub answer : Answer
  pub is_verdict : verdict old.settings (past old) event ≡ Ok answer
  pub whole : old.stale ≡ false
  pub message_fits : AnswerFits answer
  pub entry : new ≡ record old { journal = old.journal ++ entry_of before.number event answer ∷ [] }
  pub receipts : after.receipts ≡ before.receipts ++ receipt_at (length (all_entries old) + 1) event answer ∷ []
  pub number : after.number ≡ before.number
  pub released : after.released ≡ before.released
  pub held : after.released < length after.receipts

-- why no entry is folded: the centre is stale, or it is whole and memory runs out
abbrev pub RefusesFold : Known → Refusal → Type 0
RefusesFold centre r = ((r ≡ refusal.Stale) × (centre.stale ≡ true)) ⊎ ((r ≡ refusal.Memory) × (centre.stale ≡ false))
