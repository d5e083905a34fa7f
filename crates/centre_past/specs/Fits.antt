-- Whether the message of an answer can be written, and carries its order.
use Rattle.std.specs.Prelude.{◌≡◌, if◌then◌else◌}
use Rattle.cbsp_messages.specs.Message.{type_of}
use Rattle.cbsp_messages.specs.Written.{Fits}
use Rattle.cbsp_messages.specs.declared.message_type.MessageType.TheVariants.{WriteReplace, Kill, StatusQuery}
use Rattle.centre_events.specs.InFlight.{is_kill}
use Rattle.centre_events.specs.declared.answer.Answer.{Answer}
use Rattle.centre_events.specs.declared.answer.Answer.TheVariants.{Sent, Asked}

-- the message of an answer, if it has one, fits
abbrev pub AnswerFits : Answer → Type 0
AnswerFits (Sent order message) = Fits message
AnswerFits (Asked m s cells message) = Fits message
AnswerFits other = Unit {0}

-- the message of an answer, if it has one, is a KILL where its order is a kill, and else a WRITE-REPLACE; that of an Ask
-- is a MESSAGE STATUS QUERY
abbrev pub IsCarried : Answer → Type 0
IsCarried (Sent order message) = type_of message ≡ (if is_kill order.kind then Kill else WriteReplace)
IsCarried (Asked m s cells message) = type_of message ≡ StatusQuery
IsCarried other = Unit {0}
