use Rattle.std.proofs.Common.{◌≡◌, Some, sym, ◌∙◌, ap}
use Rattle.std.specs.Option.{unwrap_or}
use Rattle.mirror.proofs.LinesLemmas.{slot_found}
use Rattle.mirror.specs.Line.{blank_line}
use Rattle.mirror.specs.Lines.{line_of}
use Rattle.mirror.specs.declared.line.Line.{Line}
use Rattle.mirror.proofs.lines.place_of.Goals as goal

pub returns-clause-found : goal.returns-clause-found
returns-clause-found c =
    let found = c.in_ok-place in
    let es = c.args.kept.now.entries in
    let s = c.args.slot.now in
    let line : Line = found.field-0-2.now in
    let key : found.field-0-1.now ≡ s = slot_found s es found.field-0-1.now (sym found.ensures.key) in
    let is : line_of es s ≡ line = ap (λ o. unwrap_or o blank_line) (sym found.ensures.value) in
    found.ensures.entry ∙ ap (λ k. Some (k, line)) key ∙ ap (λ l. Some (s, l)) (sym is)
