-- A message and its parts (TS 48.049, 8.1.3).
use Rattle.cbsp_messages.specs.declared.layout.Layout.{Layout}
use Rattle.cbsp_messages.specs.declared.layout.Layout.TheVariants as layout
use Rattle.cbsp_messages.specs.declared.message.Message.{Message}
use Rattle.cbsp_messages.specs.declared.message.Message.TheVariants as message
use Rattle.cbsp_messages.specs.declared.message_type.MessageType.{MessageType}
use Rattle.cbsp_messages.specs.declared.message_type.MessageType.TheVariants as type

-- the type of a message
abbrev pub type_of : Message → MessageType
type_of (message.WriteReplace m) = type.WriteReplace
type_of (message.WriteEmergency m) = type.WriteReplace
type_of (message.WriteComplete m) = type.WriteComplete
type_of (message.WriteFailure m) = type.WriteFailure
type_of (message.Kill m) = type.Kill
type_of (message.KillComplete m) = type.KillComplete
type_of (message.KillFailure m) = type.KillFailure
type_of (message.StatusQuery m) = type.StatusQuery
type_of (message.StatusComplete m) = type.StatusComplete
type_of (message.StatusFailure m) = type.StatusFailure
type_of (message.Restart m) = type.Restart
type_of (message.Failure m) = type.Failure
type_of (message.ErrorIndication m) = type.ErrorIndication

-- the layout of a message
abbrev pub layout_of : Message → Layout
layout_of (message.WriteReplace m) = layout.WriteReplace
layout_of (message.WriteEmergency m) = layout.WriteEmergency
layout_of (message.WriteComplete m) = layout.WriteComplete
layout_of (message.WriteFailure m) = layout.WriteFailure
layout_of (message.Kill m) = layout.Kill
layout_of (message.KillComplete m) = layout.KillComplete
layout_of (message.KillFailure m) = layout.KillFailure
layout_of (message.StatusQuery m) = layout.StatusQuery
layout_of (message.StatusComplete m) = layout.StatusComplete
layout_of (message.StatusFailure m) = layout.StatusFailure
layout_of (message.Restart m) = layout.Restart
layout_of (message.Failure m) = layout.Failure
layout_of (message.ErrorIndication m) = layout.ErrorIndication
