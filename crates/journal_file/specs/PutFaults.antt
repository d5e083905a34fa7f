-- Why a line isn't put.
use Rattle.std.specs.Prelude.{◌≡◌, ℕ, ◌^◌, ◌-◌, List, ⊤}
use Rattle.journal_file.specs.Lines.{IsCommentLine, IsEntryLine}
use Rattle.journal_file.specs.declared.put_fault.PutFault.{PutFault}
use Rattle.journal_file.specs.declared.put_fault.PutFault.TheVariants.{BadLine, Full, Memory}

-- what each fault says of the place of the last entry, and of the line of the next
abbrev pub IsRefused : ℕ → List ℕ → PutFault → Type 0
IsRefused taken line BadLine = ¬ IsEntryLine line
IsRefused taken line Full = taken ≡ 2 ^ 64 - 1
IsRefused taken line Memory = ⊤

-- what each fault says of a comment
abbrev pub IsRefusedComment : List ℕ → PutFault → Type 0
IsRefusedComment line BadLine = ¬ IsCommentLine line
IsRefusedComment line Full = ⊥
IsRefusedComment line Memory = ⊤
