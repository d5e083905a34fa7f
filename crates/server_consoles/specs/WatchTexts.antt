-- What is written to a console that follows the journal.
use Rattle.std.specs.Prelude.{◌≡◌, ℕ, ◌+◌, ◌-◌, ◌^◌, min, List, [], ◌∷◌, ◌++◌, Option, codes, decimal, unwrap_or, if◌then◌else◌, ◌==◌}
use Rattle.centre_events.specs.declared.entry.Entry.{Entry}
use Rattle.journal_text.specs.Reading.{IsLineFor}

-- an entry: its number, the number of its desk, and its line
abbrev pub entry_text : ℕ → ℕ → List ℕ → List ℕ
entry_text number desk line = codes "entry " ++ decimal number ++ codes " desk " ++ decimal desk ++ codes " " ++ line ++ 10 ∷ []

-- entries that were folded before they could be handed on
abbrev pub missed_text : ℕ → List ℕ
missed_text count = codes "missed " ++ decimal count ++ 10 ∷ []

-- the text is that of the entry, with the line that asks for its event; with none, where it has no line
abbrev pub IsEntryText : ℕ → Entry → List ℕ → Type 0
IsEntryText number entry text = (line : Option (List ℕ)) × IsLineFor entry.event line × (text ≡ entry_text number entry.desk (unwrap_or line []))

-- the number of an entry that stands so many behind that one; no entry has a greater number than the last here
abbrev pub number_behind : ℕ → ℕ → ℕ
number_behind number count = min (number + count) (2 ^ 64 - 1)

-- the text of entries that stand one behind another, and behind that number, and the number of the last
abbrev pub AreHandedOn : ℕ → List Entry → ℕ → List ℕ → Type 0
AreHandedOn number [] last text = (last ≡ number) × (text ≡ [])
AreHandedOn number (entry ∷ entries) last text =
    (first : List ℕ) × (others : List ℕ) × IsEntryText (number_behind number 1) entry first × AreHandedOn (number_behind number 1) entries last others × (text ≡ first ++ others)

-- what is said of entries that are missed; nothing where there are none
abbrev pub missed_part : ℕ → List ℕ
missed_part count = if count == 0 then [] else missed_text count

-- the text of the entries behind that place, where so many are missed and these come then, and the place of the last
abbrev pub IsWatchText : ℕ → ℕ → List Entry → ℕ → List ℕ → Type 0
IsWatchText place missed entries last text =
    (others : List ℕ) × AreHandedOn (number_behind place missed) entries last others × (text ≡ missed_part missed ++ others)
