use Rattle.std.proofs.Common.{◌∙◌, nat_eq, sym}
use Rattle.centre_events.proofs.effects.is_numbered.Goals as goal

pub returns-then-has_message_id : goal.returns-then-has_message_id
returns-then-has_message_id c = sym (c.in-Some.ensures.there (λ w. nat_eq w.message_id c.args.message_id) (sym c.has_message_id.ensures ∙ c.if-has_message_id.true))
