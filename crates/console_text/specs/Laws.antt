-- That what is written of a message is one frame.
use Rattle.std.specs.Prelude.{◌≤◌, [], ◌∷◌, length}
use Rattle.cbsp_ie.specs.Frame.{longest_body}
use Rattle.cbsp_messages.specs.Message.{type_of}
use Rattle.cbsp_messages.specs.MessageType.{code_of}
use Rattle.cbsp_messages.specs.Written.{frame_of, written}
use Rattle.cbsp_messages.specs.declared.message.Message.{Message}
use Rattle.framing.specs.Streams.{Cuts}
use Rattle.framing.specs.declared.frame.Frame.{Frame}

-- the frame of a message: the octet of its type, and its body
abbrev pub frame_with : Message → Frame
frame_with m = record { kind = code_of (type_of m); body = written m }

-- where the body is short enough to be read, what is written of a message is cut as its frame, and nothing is left
abbrev pub WrittenIsCut : Type 0
WrittenIsCut = (m : Message) → length (written m) ≤ longest_body → Cuts (frame_of m) (frame_with m ∷ []) []
