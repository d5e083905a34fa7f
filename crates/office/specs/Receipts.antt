-- The receipts of a desk: its entries, in their order, with their places.
use Rattle.std.specs.Prelude.{ℕ, ◌+◌, ◌==◌, List, [], ◌∷◌, if◌then◌else◌}
use Rattle.centre_events.specs.declared.entry.Entry.{Entry}
use Rattle.office.specs.declared.receipt.Receipt.{Receipt}

-- the receipt of an entry at its place
abbrev pub receipt_of : ℕ → Entry → Receipt
receipt_of place e = record { place = place; event = e.event; answer = e.answer }

-- the receipts of the desk for its entries among these, before which so many stand
abbrev pub receipts_from : ℕ → ℕ → List Entry → List Receipt
receipts_from desk n [] = []
receipts_from desk n (e ∷ es) = if e.desk == desk then receipt_of (n + 1) e ∷ receipts_from desk (n + 1) es else receipts_from desk (n + 1) es

-- the receipts of the desk for its entries among all
abbrev pub receipts_of : ℕ → List Entry → List Receipt
receipts_of desk entries = receipts_from desk 0 entries

-- the place of the last receipt, or that number where there is none
abbrev pub last_place_or : ℕ → List Receipt → ℕ
last_place_or n [] = n
last_place_or n (r ∷ rs) = last_place_or r.place rs

-- the place of the last receipt, 0 where there is none
abbrev pub last_place : List Receipt → ℕ
last_place receipts = last_place_or 0 receipts
