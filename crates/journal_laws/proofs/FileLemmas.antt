-- The lines of a file.
use Rattle.std.proofs.Common.{◌≡◌, ◌∙◌, ℕ, List, [], ◌∷◌, ◌++◌, refl, sym, ap}
use Rattle.std.specs.List.{AllByRecursion}
use Rattle.console_text.specs.Lines.{lines_of}
use Rattle.console_text.specs.Parts.{HasNone}
use Rattle.console_text.proofs.PartLemmas.{parts_more}
use Rattle.journal_laws.specs.Files.{file_of}

-- each line of a file, and nothing behind the last
pub lines_of_file : (lines : List (List ℕ)) → AllByRecursion (HasNone 10) lines → lines_of (file_of lines) ≡ lines ++ [] ∷ []
lines_of_file [] all = refl
lines_of_file (line ∷ lines) all =
    sym (parts_more 10 [] (line ∷ []) (file_of (line ∷ lines)) line (file_of lines) refl all.0 refl) ∙ ap (λ (rest : List (List ℕ)). line ∷ rest) (lines_of_file lines all.1)
