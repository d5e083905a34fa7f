use Rattle.std.proofs.Common.{◌≡◌, Some, None, ◌∙◌, ap, sym, rules}
use Rattle.std.specs.Option.{option_copied, unwrap_or}
use Rattle.mirror.proofs.LinesLemmas.{kept_same}
use Rattle.mirror.specs.Line.{blank_line}
use Rattle.mirror.proofs.lines.Lines.line_of.Goals as goal

pub returns-in-Some : goal.returns-in-Some
returns-in-Some c =
    let some : option_copied c.get.result ≡ Some c.in-Some.line.now = search rules in
    rw (← c.self.view_is) (ap (λ o. unwrap_or o blank_line) (sym some ∙ c.get.ensures.value ∙ sym (kept_same c.self.inside.order.keys c.self.inside.kept.entries c.self.invariant c.args.slot.now)))

pub returns-in-None : goal.returns-in-None
returns-in-None c =
    let none : option_copied c.get.result ≡ None = search rules in
    rw (← c.self.view_is) (c.blank.ensures ∙ ap (λ o. unwrap_or o blank_line) (sym none ∙ c.get.ensures.value ∙ sym (kept_same c.self.inside.order.keys c.self.inside.kept.entries c.self.invariant c.args.slot.now)))
