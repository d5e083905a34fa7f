use Rattle.std.proofs.Common.{◌≡◌, length, replicate, sym, ◌∙◌, ap, rules}
use Rattle.std.specs.Cmp.Lexicographic.{pointwise}
use Rattle.common.specs.Equality.{answered}
use Rattle.mirror.proofs.LineLemmas.{blank_each}
use Rattle.mirror.specs.Blank.{is_blank, state_eq}
use Rattle.mirror.specs.BlankLaws.{blank_decides}
use Rattle.mirror.specs.Line.{blank}
use Rattle.mirror.proofs.line.Line.is_blank.Goals as goal

pub returns-clause-test : goal.returns-clause-test
returns-clause-test c =
    let states = c.args.self.now.states in
    let long : length states ≡ 16 = search rules in
    c.are_blank.ensures ∙ sym (blank_each states) ∙ ap (λ n. pointwise state_eq states (replicate n blank)) long

pub returns-clause-blank : goal.returns-clause-blank
returns-clause-blank c =
    let states = c.args.self.now.states in
    let long : length states ≡ 16 = search rules in
    let test : c.are_blank.result ≡ is_blank c.args.self.now = c.are_blank.ensures ∙ sym (blank_each states) ∙ ap (λ n. pointwise state_eq states (replicate n blank)) long in
    answered test (blank_decides c.args.self.now)
