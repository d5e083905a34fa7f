use Rattle.std.proofs.Common.{◌≡◌, ◌∙◌, ◌<◌, rules, arith, sym}
use Rattle.console_text.specs.CommandLine.{most_entries}
use Rattle.console_text.proofs.CommandLineLemmas.{limit_of_number, limit_of_none, met_limit}
use Rattle.console_text.proofs.asked.asked_journal.Goals as goal

pub returns-in-Some-1-to-4000000-clause-asked : goal.returns-in-Some-1-to-4000000-clause-asked
returns-in-Some-1-to-4000000-clause-asked c =
    limit_of_number _ c.get_one.result _ c.get_one.ensures.none c.get_one.ensures.value c.in-Some-1-to-4000000.is (search rules) (search rules)
    ∙ met_limit c.args.matches.now c.in_ok-replay.replay.now (search rules) c.in_ok-replay.ensures.rows

-- 0 is no number that the option takes
pub returns-in_default-clause-asked : goal.returns-in_default-clause-asked
returns-in_default-clause-asked c =
    let small : c.in_default.field-0 < 1 = search rules in
    limit_of_none _ c.get_one.result c.get_one.ensures.value
    (λ n is least most. let same : c.in_default.field-0 ≡ n = cc (sym c.in_default.is ∙ is) in absurd (omega (arith, same, small, least)))
    ∙ met_limit c.args.matches.now c.in_ok-replay.replay.now (search rules) c.in_ok-replay.ensures.rows

-- nor is one that is too great
pub returns-in_default-2-clause-asked : goal.returns-in_default-2-clause-asked
returns-in_default-2-clause-asked c =
    let large : most_entries < c.in_default.field-0 = search rules in
    limit_of_none _ c.get_one.result c.get_one.ensures.value
    (λ n is least most. let same : c.in_default.field-0 ≡ n = cc (sym c.in_default.is ∙ is) in absurd (omega (arith, same, large, most)))
    ∙ met_limit c.args.matches.now c.in_ok-replay.replay.now (search rules) c.in_ok-replay.ensures.rows

-- and here none is read
pub returns-in_default-3-clause-asked : goal.returns-in_default-3-clause-asked
returns-in_default-3-clause-asked c =
    limit_of_none _ c.get_one.result c.get_one.ensures.value (λ n is least most. cc (sym c.in_default.is ∙ is))
    ∙ met_limit c.args.matches.now c.in_ok-replay.replay.now (search rules) c.in_ok-replay.ensures.rows
