use Rattle.std.proofs.Common.{◌∙◌, sym}
use Rattle.centre_events.specs.Warnings.{has_key}
use Rattle.centre_events.proofs.effects.is_of_warning.Goals as goal

pub returns-then-has_key : goal.returns-then-has_key
returns-then-has_key c = sym (c.in-Some.ensures.there (λ w. has_key c.args.message_id c.args.serial w) (sym c.has_key.ensures ∙ c.if-has_key.true))
