-- The types of messages (TS 48.049, 8.2.2).
use Rattle.std.specs.Prelude.{ℕ, ◌==◌, Bool, true, false, List, [], ◌∷◌, Option, Some, None, option_and_then, if◌then◌else◌}
use Rattle.std.specs.List.{find}
use Rattle.cbsp_messages.specs.declared.message_type.MessageType.{MessageType}
use Rattle.cbsp_messages.specs.declared.message_type.MessageType.TheVariants as type

-- the octet of the type
abbrev pub code_of : MessageType → ℕ
code_of type.WriteReplace = 0x01
code_of type.WriteComplete = 0x02
code_of type.WriteFailure = 0x03
code_of type.Kill = 0x04
code_of type.KillComplete = 0x05
code_of type.KillFailure = 0x06
code_of type.StatusQuery = 0x0a
code_of type.StatusComplete = 0x0b
code_of type.StatusFailure = 0x0c
code_of type.Restart = 0x13
code_of type.Failure = 0x14
code_of type.ErrorIndication = 0x15

-- every type
abbrev pub message_types : List MessageType
message_types = type.WriteReplace ∷ type.WriteComplete ∷ type.WriteFailure ∷ type.Kill ∷ type.KillComplete ∷ type.KillFailure ∷ type.StatusQuery ∷ type.StatusComplete ∷ type.StatusFailure ∷ type.Restart ∷ type.Failure ∷ type.ErrorIndication ∷ []

-- the type of the octet, if the centre speaks it
abbrev pub type_with : ℕ → Option MessageType
type_with code = find (λ t. code_of t == code) message_types

-- whether the centre takes it from a BSC
abbrev pub is_report : MessageType → Bool
is_report type.WriteReplace = false
is_report type.Kill = false
is_report type.StatusQuery = false
is_report other = true

-- the type of a report, by its octet; none for every other type, and where the octet names no type
abbrev pub report_type : ℕ → Option MessageType
report_type octet = option_and_then (λ t. if is_report t then Some t else None) (type_with octet)
