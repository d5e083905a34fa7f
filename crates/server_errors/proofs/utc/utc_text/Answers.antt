use Rattle.std.proofs.Common.{rules, ◌∙◌, ap, ◌++◌, ℕ, Bool, Option}
use Rattle.jiff_fmt.specs.Text.{datetime_text, zulu_text}
use Rattle.server_errors.proofs.utc.utc_text.Goals as goal

pub returns-in-Ok-clause-text : goal.returns-in-Ok-clause-text
returns-in-Ok-clause-text c =
    let made = c.timestamp_text.ensures in
    let plain = ap (λ (o : Bool × ℕ × Option ℕ). datetime_text o.0 o.1 o.2 made.0 ++ zulu_text o.0) c.new.ensures in
    (made.0, made.1 ∙ search rules, made.2 ∙ plain)
