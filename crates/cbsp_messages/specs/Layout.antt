-- The layouts of messages: which elements each demands, may have and writes (TS 48.049, 8.1.3).
use Rattle.std.specs.Prelude.{◌==◌, ◌&&◌, Bool, List, [], ◌∷◌, ◌++◌, length, if◌then◌else◌}
use Rattle.std.specs.List.{count_by, list_all, list_any}
use Rattle.cbsp_ie.specs.declared.element.Element.{Element}
use Rattle.cbsp_ie.specs.declared.element_id.ElementId.{ElementId}
use Rattle.cbsp_ie.specs.declared.element_id.ElementId.TheVariants as id
use Rattle.cbsp_ie.specs.ElementId.{code_of as element_code}
use Rattle.cbsp_messages.specs.declared.layout.Layout.{Layout}
use Rattle.cbsp_messages.specs.declared.layout.Layout.TheVariants as layout
use Rattle.cbsp_messages.specs.declared.message_type.MessageType.{MessageType}
use Rattle.cbsp_messages.specs.declared.message_type.MessageType.TheVariants as type

-- every layout
abbrev pub layouts : List Layout
layouts = layout.WriteReplace ∷ layout.WriteEmergency ∷ layout.WriteComplete ∷ layout.WriteFailure ∷ layout.Kill ∷ layout.KillComplete ∷ layout.KillFailure ∷ layout.StatusQuery ∷ layout.StatusComplete ∷ layout.StatusFailure ∷ layout.Restart ∷ layout.Failure ∷ layout.ErrorIndication ∷ []

-- the type of a message that is laid out so
abbrev pub type_in : Layout → MessageType
type_in layout.WriteReplace = type.WriteReplace
type_in layout.WriteEmergency = type.WriteReplace
type_in layout.WriteComplete = type.WriteComplete
type_in layout.WriteFailure = type.WriteFailure
type_in layout.Kill = type.Kill
type_in layout.KillComplete = type.KillComplete
type_in layout.KillFailure = type.KillFailure
type_in layout.StatusQuery = type.StatusQuery
type_in layout.StatusComplete = type.StatusComplete
type_in layout.StatusFailure = type.StatusFailure
type_in layout.Restart = type.Restart
type_in layout.Failure = type.Failure
type_in layout.ErrorIndication = type.ErrorIndication

-- the layout of a body of the type with these elements: a WRITE-REPLACE with an Emergency Indicator is an
-- emergency warning's, and every other type has one layout
abbrev pub layout_at : MessageType → (ElementId → List Element) → Layout
layout_at type.WriteReplace at = if length (at id.EmergencyIndicator) == 0 then layout.WriteReplace else layout.WriteEmergency
layout_at type.WriteComplete at = layout.WriteComplete
layout_at type.WriteFailure at = layout.WriteFailure
layout_at type.Kill at = layout.Kill
layout_at type.KillComplete at = layout.KillComplete
layout_at type.KillFailure at = layout.KillFailure
layout_at type.StatusQuery at = layout.StatusQuery
layout_at type.StatusComplete at = layout.StatusComplete
layout_at type.StatusFailure at = layout.StatusFailure
layout_at type.Restart at = layout.Restart
layout_at type.Failure at = layout.Failure
layout_at type.ErrorIndication at = layout.ErrorIndication

-- the elements of a layout: those that have to be there, in the order in which one that is missing is named, those
-- that may be there, and both in the order in which they are written
pub record Table : Type 0 where
  pub demanded : List ElementId
  pub optional : List ElementId
  pub written : List ElementId

-- the elements of each layout
abbrev pub table_of : Layout → Table
table_of layout.WriteReplace = record {
  demanded = id.MessageIdentifier ∷ id.NewSerialNumber ∷ id.CellList ∷ id.Category ∷ id.RepetitionPeriod ∷ id.BroadcastsRequested ∷ id.NumberOfPages ∷ id.DataCodingScheme ∷ id.MessageContent ∷ [];
  optional = id.OldSerialNumber ∷ id.ChannelIndicator ∷ [];
  written = id.MessageIdentifier ∷ id.NewSerialNumber ∷ id.OldSerialNumber ∷ id.CellList ∷ id.ChannelIndicator ∷ id.Category ∷ id.RepetitionPeriod ∷ id.BroadcastsRequested ∷ id.NumberOfPages ∷ id.DataCodingScheme ∷ id.MessageContent ∷ [];
}
table_of layout.WriteEmergency = record {
  demanded = id.MessageIdentifier ∷ id.NewSerialNumber ∷ id.CellList ∷ id.EmergencyIndicator ∷ id.WarningType ∷ id.WarningPeriod ∷ id.WarningSecurity ∷ [];
  optional = id.OldSerialNumber ∷ [];
  written = id.MessageIdentifier ∷ id.NewSerialNumber ∷ id.OldSerialNumber ∷ id.CellList ∷ id.EmergencyIndicator ∷ id.WarningType ∷ id.WarningPeriod ∷ id.WarningSecurity ∷ [];
}
table_of layout.WriteComplete = record {
  demanded = id.MessageIdentifier ∷ id.NewSerialNumber ∷ [];
  optional = id.OldSerialNumber ∷ id.BroadcastsCompleted ∷ id.CellList ∷ id.ChannelIndicator ∷ [];
  written = id.MessageIdentifier ∷ id.NewSerialNumber ∷ id.OldSerialNumber ∷ id.BroadcastsCompleted ∷ id.CellList ∷ id.ChannelIndicator ∷ [];
}
table_of layout.WriteFailure = record {
  demanded = id.MessageIdentifier ∷ id.NewSerialNumber ∷ id.FailureList ∷ [];
  optional = id.OldSerialNumber ∷ id.BroadcastsCompleted ∷ id.CellList ∷ id.ChannelIndicator ∷ [];
  written = id.MessageIdentifier ∷ id.NewSerialNumber ∷ id.OldSerialNumber ∷ id.FailureList ∷ id.BroadcastsCompleted ∷ id.CellList ∷ id.ChannelIndicator ∷ [];
}
table_of layout.Kill = record {
  demanded = id.MessageIdentifier ∷ id.OldSerialNumber ∷ id.CellList ∷ [];
  optional = id.ChannelIndicator ∷ [];
  written = id.MessageIdentifier ∷ id.OldSerialNumber ∷ id.CellList ∷ id.ChannelIndicator ∷ [];
}
table_of layout.KillComplete = record {
  demanded = id.MessageIdentifier ∷ id.OldSerialNumber ∷ [];
  optional = id.BroadcastsCompleted ∷ id.CellList ∷ id.ChannelIndicator ∷ [];
  written = id.MessageIdentifier ∷ id.OldSerialNumber ∷ id.BroadcastsCompleted ∷ id.CellList ∷ id.ChannelIndicator ∷ [];
}
table_of layout.KillFailure = record {
  demanded = id.MessageIdentifier ∷ id.OldSerialNumber ∷ id.FailureList ∷ [];
  optional = id.BroadcastsCompleted ∷ id.CellList ∷ id.ChannelIndicator ∷ [];
  written = id.MessageIdentifier ∷ id.OldSerialNumber ∷ id.FailureList ∷ id.BroadcastsCompleted ∷ id.CellList ∷ id.ChannelIndicator ∷ [];
}
table_of layout.StatusQuery = record {
  demanded = id.MessageIdentifier ∷ id.OldSerialNumber ∷ id.CellList ∷ [];
  optional = id.ChannelIndicator ∷ [];
  written = id.MessageIdentifier ∷ id.OldSerialNumber ∷ id.CellList ∷ id.ChannelIndicator ∷ [];
}
table_of layout.StatusComplete = record {
  demanded = id.MessageIdentifier ∷ id.OldSerialNumber ∷ id.BroadcastsCompleted ∷ [];
  optional = id.ChannelIndicator ∷ [];
  written = id.MessageIdentifier ∷ id.OldSerialNumber ∷ id.BroadcastsCompleted ∷ id.ChannelIndicator ∷ [];
}
table_of layout.StatusFailure = record {
  demanded = id.MessageIdentifier ∷ id.OldSerialNumber ∷ id.FailureList ∷ [];
  optional = id.BroadcastsCompleted ∷ id.ChannelIndicator ∷ [];
  written = id.MessageIdentifier ∷ id.OldSerialNumber ∷ id.FailureList ∷ id.BroadcastsCompleted ∷ id.ChannelIndicator ∷ [];
}
table_of layout.Restart = record {
  demanded = id.CellList ∷ id.BroadcastMessageType ∷ id.RecoveryIndication ∷ [];
  optional = [];
  written = id.CellList ∷ id.BroadcastMessageType ∷ id.RecoveryIndication ∷ [];
}
table_of layout.Failure = record {
  demanded = id.FailureList ∷ id.BroadcastMessageType ∷ [];
  optional = [];
  written = id.FailureList ∷ id.BroadcastMessageType ∷ [];
}
table_of layout.ErrorIndication = record {
  demanded = id.Cause ∷ [];
  optional = id.MessageIdentifier ∷ id.NewSerialNumber ∷ id.OldSerialNumber ∷ id.ChannelIndicator ∷ [];
  written = id.Cause ∷ id.MessageIdentifier ∷ id.NewSerialNumber ∷ id.OldSerialNumber ∷ id.ChannelIndicator ∷ [];
}

-- the elements that have to be there
abbrev pub demanded_of : Layout → List ElementId
demanded_of l = (table_of l).demanded

-- the elements that may be there
abbrev pub optional_of : Layout → List ElementId
optional_of l = (table_of l).optional

-- the elements in the order in which they are written
abbrev pub written_of : Layout → List ElementId
written_of l = (table_of l).written

-- each of the identifiers stands among the others
abbrev pub stand_among : List ElementId → List ElementId → Bool
stand_among ids others = list_all (λ id. list_any (λ other. element_code id == element_code other) others) ids

-- the table is whole: for each layout the written elements are just the demanded and the optional ones, and none
-- stands twice
abbrev pub is_whole_table : Bool
is_whole_table =
    list_all (λ l. stand_among (written_of l) (demanded_of l ++ optional_of l) && stand_among (demanded_of l ++ optional_of l) (written_of l) && (length (written_of l) == length (demanded_of l ++ optional_of l)) && list_all (λ id. count_by (λ other. element_code id == element_code other) (written_of l) == 1) (written_of l)) layouts
