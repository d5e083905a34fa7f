-- When the journal is folded.
use Rattle.std.specs.Prelude.{ℕ, ◌+◌, ◌-◌, ◌*◌, ◌/◌, ◌^◌, Bool, ◌||◌, false, true, max, min, nat_le}
use Rattle.link_rules.specs.declared.fold_pace.FoldPace.{FoldPace}

-- so many more; the greatest number of 64 bits stays
abbrev pub more : ℕ → ℕ → ℕ
more n k = min (n + k) (2 ^ 64 - 1)

-- how many entries the journal has before it is folded: so many, or nine tenths of those that it may have, but one at least
abbrev pub entries_before : ℕ → ℕ → ℕ
entries_before fold limit = max (min fold (limit * 9 / 10)) 1

-- as at the beginning
abbrev pub first_pace : ℕ → ℕ → FoldPace
first_pace fold limit = record { every = entries_before fold limit; limit = limit; entries = 0; large = 0; due = entries_before fold limit; was_told = false }

-- how many entries there are, and how many more large ones count as
abbrev pub weight : FoldPace → ℕ
weight p = more p.entries p.large

-- a fold is due: there are so many, or the journal is full
abbrev pub is_due : FoldPace → Bool
is_due p = nat_le p.due (weight p) || nat_le p.limit p.entries

-- one entry more, or none, of which so many octets or cells are kept: each 64 of them count as one entry more
abbrev pub counted : ℕ → FoldPace → FoldPace
counted kept p = record p { entries = more p.entries 1; large = more p.large (kept / 64) }

-- the journal has so many
abbrev pub known : ℕ → FoldPace → FoldPace
known entries p = record p { entries = entries }

-- it was folded, and has none
abbrev pub folded : FoldPace → FoldPace
folded p = record p { entries = 0; large = 0; due = p.every; was_told = false }

-- memory ran out for a fold: it is due with 1,000 entries more, or where the journal is full
abbrev pub put_off : FoldPace → FoldPace
put_off p = record p { due = more (weight p) 1000; was_told = true }
