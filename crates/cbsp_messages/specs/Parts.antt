-- The values of elements by their identifiers, and those of a message (TS 48.049, 8.1.3).
use Rattle.std.specs.Prelude.{ℕ, ◌==◌, Bool, not, List, [], ◌∷◌, ◌++◌, map, length, Option, Some, None, is_some}
use Rattle.cbsp_ie.specs.declared.cause.Cause.{Cause}
use Rattle.cbsp_ie.specs.declared.element.Element.{Element}
use Rattle.cbsp_ie.specs.declared.element.Element.TheVariants as element
use Rattle.cbsp_ie.specs.declared.element_id.ElementId.{ElementId}
use Rattle.cbsp_ie.specs.declared.element_id.ElementId.TheVariants as id
use Rattle.cbsp_ie.specs.declared.fail_entry.FailEntry.{FailEntry}
use Rattle.cbsp_ie.specs.Counts.{Numbers}
use Rattle.cbsp_ie.specs.Identifications.{Identifications}
use Rattle.cbsp_ie.specs.Page.{PageContent}
use Rattle.cbsp_messages.specs.declared.message.Message.{Message}
use Rattle.cbsp_messages.specs.declared.message.Message.TheVariants as message
use Rattle.cbsp_messages.specs.declared.messages.write_replace.WriteReplace.{WriteReplace}
use Rattle.cbsp_messages.specs.declared.messages.write_emergency.WriteEmergency.{WriteEmergency}
use Rattle.cbsp_messages.specs.declared.messages.write_complete.WriteComplete.{WriteComplete}
use Rattle.cbsp_messages.specs.declared.messages.write_failure.WriteFailure.{WriteFailure}
use Rattle.cbsp_messages.specs.declared.messages.kill.Kill.{Kill}
use Rattle.cbsp_messages.specs.declared.messages.kill_complete.KillComplete.{KillComplete}
use Rattle.cbsp_messages.specs.declared.messages.kill_failure.KillFailure.{KillFailure}
use Rattle.cbsp_messages.specs.declared.messages.status_query.StatusQuery.{StatusQuery}
use Rattle.cbsp_messages.specs.declared.messages.status_complete.StatusComplete.{StatusComplete}
use Rattle.cbsp_messages.specs.declared.messages.status_failure.StatusFailure.{StatusFailure}
use Rattle.cbsp_messages.specs.declared.messages.restart.Restart.{Restart}
use Rattle.cbsp_messages.specs.declared.messages.failure.Failure.{Failure}
use Rattle.cbsp_messages.specs.declared.messages.error_indication.ErrorIndication.{ErrorIndication}

-- what each element says, where it is there; the pages in their order
pub record Parts : Type 0 where
  pub pages : List PageContent
  pub old_serial : Option ℕ
  pub new_serial : Option ℕ
  pub cells : Option Identifications
  pub category : Option ℕ
  pub period : Option ℕ
  pub requested : Option ℕ
  pub counts : Option Numbers
  pub failures : Option (List FailEntry)
  pub cause : Option Cause
  pub dcs : Option ℕ
  pub recovery : Option ℕ
  pub message_id : Option ℕ
  pub emergency : Option ℕ
  pub warning_type : Option ℕ
  pub security : Option (List ℕ)
  pub channel : Option ℕ
  pub page_count : Option ℕ
  pub kind : Option ℕ
  pub warning_period : Option ℕ

-- no element at all
abbrev pub no_parts : Parts
no_parts = record { pages = []; old_serial = None; new_serial = None; cells = None; category = None; period = None; requested = None; counts = None; failures = None; cause = None; dcs = None; recovery = None; message_id = None; emergency = None; warning_type = None; security = None; channel = None; page_count = None; kind = None; warning_period = None }

-- an element that may be there
abbrev pub one_of : {A : Type 0} → (A → Element) → Option A → List Element
one_of make None = []
one_of make (Some value) = make value ∷ []

-- a page as an element
abbrev pub page_element : PageContent → Element
page_element page = element.MessageContent page

-- the elements with the identifier
abbrev pub values_at : Parts → ElementId → List Element
values_at parts id.MessageContent = map page_element parts.pages
values_at parts id.OldSerialNumber = one_of (λ n. element.OldSerialNumber n) parts.old_serial
values_at parts id.NewSerialNumber = one_of (λ n. element.NewSerialNumber n) parts.new_serial
values_at parts id.CellList = one_of (λ cells. element.CellList cells) parts.cells
values_at parts id.Category = one_of (λ n. element.Category n) parts.category
values_at parts id.RepetitionPeriod = one_of (λ n. element.RepetitionPeriod n) parts.period
values_at parts id.BroadcastsRequested = one_of (λ n. element.BroadcastsRequested n) parts.requested
values_at parts id.BroadcastsCompleted = one_of (λ counts. element.BroadcastsCompleted counts) parts.counts
values_at parts id.FailureList = one_of (λ failures. element.FailureList failures) parts.failures
values_at parts id.Cause = one_of (λ cause. element.Cause cause) parts.cause
values_at parts id.DataCodingScheme = one_of (λ n. element.DataCodingScheme n) parts.dcs
values_at parts id.RecoveryIndication = one_of (λ n. element.RecoveryIndication n) parts.recovery
values_at parts id.MessageIdentifier = one_of (λ n. element.MessageIdentifier n) parts.message_id
values_at parts id.EmergencyIndicator = one_of (λ n. element.EmergencyIndicator n) parts.emergency
values_at parts id.WarningType = one_of (λ n. element.WarningType n) parts.warning_type
values_at parts id.WarningSecurity = one_of (λ octets. element.WarningSecurity octets) parts.security
values_at parts id.ChannelIndicator = one_of (λ n. element.ChannelIndicator n) parts.channel
values_at parts id.NumberOfPages = one_of (λ n. element.NumberOfPages n) parts.page_count
values_at parts id.BroadcastMessageType = one_of (λ n. element.BroadcastMessageType n) parts.kind
values_at parts id.WarningPeriod = one_of (λ n. element.WarningPeriod n) parts.warning_period

-- whether there is an element with the identifier
abbrev pub is_there : Parts → ElementId → Bool
is_there parts id.MessageContent = not (length parts.pages == 0)
is_there parts id.OldSerialNumber = is_some parts.old_serial
is_there parts id.NewSerialNumber = is_some parts.new_serial
is_there parts id.CellList = is_some parts.cells
is_there parts id.Category = is_some parts.category
is_there parts id.RepetitionPeriod = is_some parts.period
is_there parts id.BroadcastsRequested = is_some parts.requested
is_there parts id.BroadcastsCompleted = is_some parts.counts
is_there parts id.FailureList = is_some parts.failures
is_there parts id.Cause = is_some parts.cause
is_there parts id.DataCodingScheme = is_some parts.dcs
is_there parts id.RecoveryIndication = is_some parts.recovery
is_there parts id.MessageIdentifier = is_some parts.message_id
is_there parts id.EmergencyIndicator = is_some parts.emergency
is_there parts id.WarningType = is_some parts.warning_type
is_there parts id.WarningSecurity = is_some parts.security
is_there parts id.ChannelIndicator = is_some parts.channel
is_there parts id.NumberOfPages = is_some parts.page_count
is_there parts id.BroadcastMessageType = is_some parts.kind
is_there parts id.WarningPeriod = is_some parts.warning_period

-- the parts with one element more, which stands in place of another with its identifier
abbrev pub with_element : Parts → Element → Parts
with_element parts (element.MessageContent page) = record parts { pages = parts.pages ++ page ∷ [] }
with_element parts (element.OldSerialNumber n) = record parts { old_serial = Some n }
with_element parts (element.NewSerialNumber n) = record parts { new_serial = Some n }
with_element parts (element.CellList cells) = record parts { cells = Some cells }
with_element parts (element.Category n) = record parts { category = Some n }
with_element parts (element.RepetitionPeriod n) = record parts { period = Some n }
with_element parts (element.BroadcastsRequested n) = record parts { requested = Some n }
with_element parts (element.BroadcastsCompleted counts) = record parts { counts = Some counts }
with_element parts (element.FailureList failures) = record parts { failures = Some failures }
with_element parts (element.Cause cause) = record parts { cause = Some cause }
with_element parts (element.DataCodingScheme n) = record parts { dcs = Some n }
with_element parts (element.RecoveryIndication n) = record parts { recovery = Some n }
with_element parts (element.MessageIdentifier n) = record parts { message_id = Some n }
with_element parts (element.EmergencyIndicator n) = record parts { emergency = Some n }
with_element parts (element.WarningType n) = record parts { warning_type = Some n }
with_element parts (element.WarningSecurity octets) = record parts { security = Some octets }
with_element parts (element.ChannelIndicator n) = record parts { channel = Some n }
with_element parts (element.NumberOfPages n) = record parts { page_count = Some n }
with_element parts (element.BroadcastMessageType n) = record parts { kind = Some n }
with_element parts (element.WarningPeriod n) = record parts { warning_period = Some n }

-- the parts of a WRITE-REPLACE; the Number of Pages is how many there are
abbrev pub write_replace_parts : WriteReplace → Parts
write_replace_parts m = record no_parts { message_id = Some m.message_id; new_serial = Some m.serial; old_serial = m.old; cells = Some m.cells; channel = m.channel; category = Some m.category; period = Some m.period; requested = Some m.requested; page_count = Some (length m.pages); pages = m.pages; dcs = Some m.dcs }

-- the parts of a WRITE-REPLACE of an emergency warning
abbrev pub write_emergency_parts : WriteEmergency → Parts
write_emergency_parts m = record no_parts { message_id = Some m.message_id; new_serial = Some m.serial; old_serial = m.old; cells = Some m.cells; emergency = Some m.indicator; warning_type = Some m.warning_type; warning_period = Some m.warning_period; security = Some m.security }

-- the parts of a WRITE-REPLACE COMPLETE
abbrev pub write_complete_parts : WriteComplete → Parts
write_complete_parts m = record no_parts { message_id = Some m.message_id; new_serial = Some m.serial; old_serial = m.old; counts = m.counts; cells = m.cells; channel = m.channel }

-- the parts of a WRITE-REPLACE FAILURE
abbrev pub write_failure_parts : WriteFailure → Parts
write_failure_parts m = record no_parts { message_id = Some m.message_id; new_serial = Some m.serial; old_serial = m.old; failures = Some m.failures; counts = m.counts; cells = m.cells; channel = m.channel }

-- the parts of a KILL
abbrev pub kill_parts : Kill → Parts
kill_parts m = record no_parts { message_id = Some m.message_id; old_serial = Some m.serial; cells = Some m.cells; channel = m.channel }

-- the parts of a KILL COMPLETE
abbrev pub kill_complete_parts : KillComplete → Parts
kill_complete_parts m = record no_parts { message_id = Some m.message_id; old_serial = Some m.serial; counts = m.counts; cells = m.cells; channel = m.channel }

-- the parts of a KILL FAILURE
abbrev pub kill_failure_parts : KillFailure → Parts
kill_failure_parts m = record no_parts { message_id = Some m.message_id; old_serial = Some m.serial; failures = Some m.failures; counts = m.counts; cells = m.cells; channel = m.channel }

-- the parts of a MESSAGE STATUS QUERY
abbrev pub status_query_parts : StatusQuery → Parts
status_query_parts m = record no_parts { message_id = Some m.message_id; old_serial = Some m.serial; cells = Some m.cells; channel = m.channel }

-- the parts of a MESSAGE STATUS QUERY COMPLETE
abbrev pub status_complete_parts : StatusComplete → Parts
status_complete_parts m = record no_parts { message_id = Some m.message_id; old_serial = Some m.serial; counts = Some m.counts; channel = m.channel }

-- the parts of a MESSAGE STATUS QUERY FAILURE
abbrev pub status_failure_parts : StatusFailure → Parts
status_failure_parts m = record no_parts { message_id = Some m.message_id; old_serial = Some m.serial; failures = Some m.failures; counts = m.counts; channel = m.channel }

-- the parts of a RESTART
abbrev pub restart_parts : Restart → Parts
restart_parts m = record no_parts { cells = Some m.cells; kind = Some m.kind; recovery = Some m.recovery }

-- the parts of a FAILURE
abbrev pub failure_parts : Failure → Parts
failure_parts m = record no_parts { failures = Some m.failures; kind = Some m.kind }

-- the parts of an ERROR INDICATION
abbrev pub error_indication_parts : ErrorIndication → Parts
error_indication_parts m = record no_parts { cause = Some m.cause; message_id = m.message_id; new_serial = m.serial; old_serial = m.old; channel = m.channel }

-- the parts of a message
abbrev pub parts_of : Message → Parts
parts_of (message.WriteReplace m) = write_replace_parts m
parts_of (message.WriteEmergency m) = write_emergency_parts m
parts_of (message.WriteComplete m) = write_complete_parts m
parts_of (message.WriteFailure m) = write_failure_parts m
parts_of (message.Kill m) = kill_parts m
parts_of (message.KillComplete m) = kill_complete_parts m
parts_of (message.KillFailure m) = kill_failure_parts m
parts_of (message.StatusQuery m) = status_query_parts m
parts_of (message.StatusComplete m) = status_complete_parts m
parts_of (message.StatusFailure m) = status_failure_parts m
parts_of (message.Restart m) = restart_parts m
parts_of (message.Failure m) = failure_parts m
parts_of (message.ErrorIndication m) = error_indication_parts m
