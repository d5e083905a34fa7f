-- What is written to a BSC that is to forget what it broadcasts.
use Rattle.std.specs.Prelude.{ℕ, Bool, false, ◌&&◌, nat_eq, List, [], ◌∷◌, Option, Some, None}
use Rattle.std.specs.List.{list_any}
use Rattle.cbsp_ie.specs.declared.cell_id.CellId.TheVariants as id
use Rattle.cbsp_ie.specs.declared.form.Form.TheVariants as form
use Rattle.cbsp_messages.specs.Written.{frame_of}
use Rattle.cbsp_messages.specs.declared.message.Message.{Message}
use Rattle.cbsp_messages.specs.declared.message.Message.TheVariants as message
use Rattle.centre_past.specs.declared.lists.warning_row.WarningRow.{WarningRow}
use Rattle.centre_past.specs.declared.reported.reported_key.ReportedKey.{ReportedKey}
use Rattle.link_resets.specs.declared.emergency_key.EmergencyKey.{EmergencyKey}
use Rattle.serials.specs.Serials.{code_of, scope_part}
use Rattle.warning_book.specs.Content.{is_same_kind}
use Rattle.warning_book.specs.declared.kind.Kind.TheVariants as kind

-- the serial number differs at most in its update number from that of a current version, if there is one
abbrev pub is_version : ℕ → Option ℕ → Bool
is_version s None = false
is_version s (Some t) = nat_eq (scope_part s) (scope_part t) && nat_eq (code_of s) (code_of t)

-- the reported key is that of a version of the warning, and this is an emergency warning
abbrev pub is_of_emergency : WarningRow → ReportedKey → Bool
is_of_emergency w r = is_same_kind w.kind kind.Emergency && (nat_eq w.message_id r.message_id && is_version r.serial w.serial)

-- it is that of one of the warnings so
abbrev pub is_emergency : List WarningRow → ReportedKey → Bool
is_emergency warnings r = list_any (λ w. is_of_emergency w r) warnings

-- the reported key is that of the emergency message
abbrev pub is_key_of : List WarningRow → EmergencyKey → ReportedKey → Bool
is_key_of warnings k r = is_emergency warnings r && (nat_eq k.message_id r.message_id && nat_eq k.serial r.serial)

-- the two are the same emergency message
abbrev pub same_key : EmergencyKey → EmergencyKey → Bool
same_key k l = nat_eq k.message_id l.message_id && nat_eq k.serial l.serial

-- the frame of a RESET of all cells (TS 48.049, 8.1.3): type 10, a body of four octets, a Cell List of form All
abbrev pub reset_frame : List ℕ
reset_frame = 16 ∷ 0 ∷ 0 ∷ 4 ∷ 4 ∷ 0 ∷ 1 ∷ 6 ∷ []

-- the KILL of the emergency message in all cells, without a channel
abbrev pub kill_of : EmergencyKey → Message
kill_of k = message.Kill (record { message_id = k.message_id; serial = k.serial; cells = record { form = form.All; ids = id.All ∷ [] }; channel = None })

-- its frame
abbrev pub kill_frame : EmergencyKey → List ℕ
kill_frame k = frame_of (kill_of k)
