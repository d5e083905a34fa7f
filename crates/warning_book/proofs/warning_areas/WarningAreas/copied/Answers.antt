use Rattle.std.proofs.Common.{◌∙◌, ℕ, List, get_or, ap}
use Rattle.std.specs.Prelude.{bytes_eq}
use Rattle.std.specs.List.{list_any}
use Rattle.warning_book.proofs.AreaLemmas.{none_before}
use Rattle.warning_book.proofs.warning_areas.WarningAreas.copied.Goals as goal

pub add-requires : goal.add-requires
add-requires c =
    ap (λ (a : List ℕ). list_any (λ b. bytes_eq b a) c.loop-name.areas) (c.in_ok-copied.ensures ∙ c.name-item.is)
    ∙ ap (λ (l : List (List ℕ)). list_any (λ b. bytes_eq b (get_or c.args.names.now c.loop-name.name-index c.name-item.result)) l) c.loop-name.invariant
    ∙ none_before c.args.names.now c.loop-name.name-index c.name-item.result c.requires c.loop-name-test.true
