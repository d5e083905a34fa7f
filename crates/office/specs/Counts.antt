-- What an office counts.
use Rattle.std.specs.Prelude.{ℕ, ◌+◌, ◌-◌, ◌^◌, List, min, nat_lt, replicate, set, slice_index, if◌then◌else◌}
use Rattle.centre_events.specs.Refusals.{refusal_number}
use Rattle.centre_events.specs.declared.refusal.Refusal.{Refusal}
use Rattle.office.specs.Kinds.{kind_number}
use Rattle.office.specs.declared.counts.Counts.{Counts}
use Rattle.office.specs.declared.event_kind.EventKind.{EventKind}

-- nothing was counted
abbrev pub no_counts : Counts
no_counts = record { entries = replicate 21 0; refusals = replicate 38 0; receipts = 0 }

-- one more, where there is a number for that
abbrev pub one_more : ℕ → ℕ
one_more n = min (n + 1) (2 ^ 64 - 1)

-- one more at that place
abbrev pub one_more_at : ℕ → List ℕ → List ℕ
one_more_at k counts = set counts k (one_more (slice_index counts k))

-- the number of a cause, which is below 38
abbrev pub cause_number : Refusal → ℕ
cause_number r = if nat_lt (refusal_number r) 38 then refusal_number r else 0

-- an event of that kind was entered, and its receipt is kept
abbrev pub with_entry : EventKind → Counts → Counts
with_entry k c = record c { entries = one_more_at (kind_number k) c.entries; receipts = one_more c.receipts }

-- an event or a question was refused for that cause
abbrev pub with_refusal : Refusal → Counts → Counts
with_refusal r c = record c { refusals = one_more_at (cause_number r) c.refusals }

-- so many receipts were let go of
abbrev pub without_receipts : ℕ → Counts → Counts
without_receipts n c = record c { receipts = c.receipts - n }

-- how many events of that kind were entered
abbrev pub kind_count : Counts → EventKind → ℕ
kind_count c k = slice_index c.entries (kind_number k)

-- how many events and questions were refused for that cause
abbrev pub cause_count : Counts → Refusal → ℕ
cause_count c r = slice_index c.refusals (cause_number r)
