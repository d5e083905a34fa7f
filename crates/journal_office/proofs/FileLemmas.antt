-- The lines that a start took of a file, as `replay` reads them.
use Rattle.std.proofs.Common.{◌≡◌, ◌∙◌, ℕ, true, false, not, List, [], ◌∷◌, ◌++◌, cond, drop, sym, ap, subst}
use Rattle.std.specs.List.{AllByRecursion}
use Rattle.journal_file.specs.Lines.{IsLine, is_comment, without_comments}
use Rattle.journal_laws.specs.Starts.{IsShortLine}
use Rattle.journal_laws.proofs.StartLemmas.{start_is_replayed}
use Rattle.journal_office.specs.Entered.{FileIsReplayed}

-- lines without their comments are lines
short_without : (lines : List (List ℕ)) → AllByRecursion IsLine lines → AllByRecursion IsShortLine (without_comments lines)
short_without [] each = tt
short_without (line ∷ lines) each =
    elim (not (is_comment line)) as (λ b. AllByRecursion IsShortLine (cond b (line ∷ without_comments lines) (without_comments lines))) [
      | true ↦ (each.0, short_without lines each.1)
      | false ↦ short_without lines each.1
    ]

each_behind : (lines : List (List ℕ)) → AllByRecursion IsLine lines → AllByRecursion IsLine (drop 1 lines)
each_behind [] each = tt
each_behind (line ∷ lines) each = each.1

pub file_is_replayed : FileIsReplayed
file_is_replayed heading given left old new loaded none starts =
    let lines = starts.loads.lines in
    let same : new.taken ≡ without_comments (drop 1 lines) = starts.loads.passed.taken ∙ ap (λ ls. ls ++ without_comments (drop 1 lines)) none in
    start_is_replayed new.taken new.centre (subst (AllByRecursion IsShortLine) (sym same) (short_without (drop 1 lines) (each_behind lines starts.loads.passed.each))) starts.made
