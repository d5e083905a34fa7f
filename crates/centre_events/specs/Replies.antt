-- When two replies are the same, and their order.
use Rattle.std.specs.Prelude.{Bool, true, false, ◌&&◌, nat_eq}
use Rattle.std.specs.Option.{option_eq}
use Rattle.common.specs.Cell.{cell_eq, cell_lt}
use Rattle.centre_events.specs.declared.outcome.Outcome.{Outcome}
use Rattle.centre_events.specs.declared.outcome.Outcome.TheVariants.{Done, Refused, Silent}
use Rattle.centre_events.specs.declared.reply.Reply.{Reply}

-- the two are one outcome
abbrev pub outcome_eq : Outcome → Outcome → Bool
outcome_eq Done Done = true
outcome_eq (Refused c) (Refused d) = nat_eq c.0 d.0
outcome_eq Silent Silent = true
outcome_eq x y = false

-- the two are one reply
abbrev pub reply_eq : Reply → Reply → Bool
reply_eq x y = cell_eq x.cell y.cell && (outcome_eq x.outcome y.outcome && option_eq nat_eq x.count y.count)

-- the first is of a cell that comes before the other's
abbrev pub reply_lt : Reply → Reply → Bool
reply_lt x y = cell_lt x.cell y.cell
