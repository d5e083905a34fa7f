use Rattle.std.proofs.Common.{◌≡◌, ℕ, ◌||◌, not, nat_eq, ◌∙◌, ap, sym, filter, unwrap_or}
use Rattle.std.specs.List.{list_any}
use Rattle.std.specs.Map.{lookup}
use Rattle.areas.specs.Areas.{areas_of}
use Rattle.mirror.specs.Blank.{is_blank}
use Rattle.mirror.specs.Line.{blank_line}
use Rattle.mirror.specs.Table.{is_slot, line_at}
use Rattle.warning_book.specs.Book.{is_so, names_one_of}
use Rattle.centre_lines.proofs.reading.near.Goals as goal

pub returns-clause-warnings : goal.returns-clause-warnings
returns-clause-warnings c =
    let b = c.args.spot.now.bsc in
    let cell = c.args.spot.now.cell in
    let kept : (n : ℕ) → list_any (nat_eq n) c.as_slice.result.now ≡ not (is_blank (line_at c.warnings_at.new.self.lines b cell n)) =
    λ n. ap (list_any (nat_eq n)) c.as_slice.ensures.value ∙ c.in_ok-kept.ensures.which n ∙ ap (λ ls. not (is_blank (unwrap_or (lookup (is_slot b cell n) ls) blank_line))) (sym c.warnings_at.ensures.lines) in
    let named : (n : ℕ) → list_any (nat_eq n) c.as_slice-2.result.now ≡ is_so n (names_one_of (areas_of c.args.plan.now.areas cell)) c.args.plan.now.book.warnings =
    λ n. ap (list_any (nat_eq n)) c.as_slice-2.ensures.value ∙ c.in_ok-named.ensures.which n in
    c.in_ok-near.ensures ∙ (λ i. filter (λ n. kept n i || named n i) c.args.warnings.now)
