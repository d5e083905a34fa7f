-- What an operator is answered, line by line.
use Rattle.std.specs.Prelude.{ℕ, List, [], ◌∷◌, ◌++◌, length, Option, Some, None, codes, decimal}
use Rattle.std.specs.Int.{bytes_high_first}
use Rattle.std.specs.List.{flat_map}
use Rattle.cbsp_ie.specs.ElementId.{code_of}
use Rattle.cbsp_ie.specs.declared.ie_fault.IeFault.TheVariants as element_fault
use Rattle.cbsp_messages.specs.Faults.{number_of}
use Rattle.cbsp_messages.specs.Written.{frame_of}
use Rattle.cbsp_messages.specs.declared.message.Message.{Message}
use Rattle.cbsp_messages.specs.declared.fault.MessageFault.{MessageFault}
use Rattle.cbsp_messages.specs.declared.fault.MessageFault.TheVariants as fault
use Rattle.centre_past.specs.Fits.{AnswerFits}
use Rattle.centre_events.specs.Refusals.{refusal_number}
use Rattle.centre_events.specs.declared.answer.Answer.{Answer}
use Rattle.centre_events.specs.declared.answer.Answer.TheVariants as answer
use Rattle.centre_past.specs.declared.reported.reported_key.ReportedKey.{ReportedKey}
use Rattle.centre_events.specs.declared.refusal.Limit.{Limit}
use Rattle.centre_events.specs.declared.refusal.Limit.TheVariants as limit
use Rattle.centre_events.specs.declared.refusal.Refusal.{Refusal}
use Rattle.centre_events.specs.declared.refusal.Refusal.TheVariants as refusal
use Rattle.coverage_board.specs.declared.numbers.Numbers.{Numbers}
use Rattle.hex.specs.Hex.{encode_lower, encode_upper}
use Rattle.mirror.specs.declared.presence.Presence.{Presence}
use Rattle.mirror.specs.declared.presence.Presence.TheVariants.{Absent, OnAir, Unknown}
use Rattle.order_maker.specs.declared.order.Order.{Order}
use Rattle.order_maker.specs.declared.order_kind.OrderKind.{OrderKind}
use Rattle.order_maker.specs.declared.order_kind.OrderKind.TheVariants.{Write, Replace, Kill}
use Rattle.console_text.specs.declared.response.Response.{Response}
use Rattle.console_text.specs.declared.response.Response.TheVariants.{Silence, BadLine, BadHex, BadFrame, Skipped, BadMessage, Accepted, Refused, Board, Set, Pending, Table, Rebuilt, Folded}

-- the end of a line
abbrev pub newline : List ℕ
newline = 10 ∷ []

-- the name of a limit
abbrev pub limit_name : Limit → List ℕ
limit_name limit.Bscs = codes "Bscs"
limit_name limit.Cells = codes "Cells"
limit_name limit.Areas = codes "Areas"
limit_name limit.Selectors = codes "Selectors"
limit_name limit.Warnings = codes "Warnings"
limit_name limit.WarningAreas = codes "WarningAreas"
limit_name limit.Ids = codes "Ids"
limit_name limit.Desks = codes "Desks"

-- the name of a refusal
abbrev pub refusal_name : Refusal → List ℕ
refusal_name refusal.Stale = codes "Stale"
refusal_name refusal.JournalFull = codes "JournalFull"
refusal_name refusal.NoSuchBsc = codes "NoSuchBsc"
refusal_name refusal.BscExists = codes "BscExists"
refusal_name refusal.BscHasCells = codes "BscHasCells"
refusal_name refusal.LinkIsUp = codes "LinkIsUp"
refusal_name refusal.CellExists = codes "CellExists"
refusal_name refusal.NoSuchCell = codes "NoSuchCell"
refusal_name refusal.SameBsc = codes "SameBsc"
refusal_name refusal.BadName = codes "BadName"
refusal_name refusal.AreaExists = codes "AreaExists"
refusal_name refusal.NoSuchArea = codes "NoSuchArea"
refusal_name refusal.AreaInUse = codes "AreaInUse"
refusal_name refusal.SelectorThere = codes "SelectorThere"
refusal_name refusal.SelectorNotThere = codes "SelectorNotThere"
refusal_name refusal.NoSuchWarning = codes "NoSuchWarning"
refusal_name refusal.NotActive = codes "NotActive"
refusal_name refusal.StillActive = codes "StillActive"
refusal_name refusal.StillReported = codes "StillReported"
refusal_name refusal.StillInFlight = codes "StillInFlight"
refusal_name refusal.NoAreas = codes "NoAreas"
refusal_name refusal.AreaThere = codes "AreaThere"
refusal_name refusal.AreaNotThere = codes "AreaNotThere"
refusal_name refusal.LastArea = codes "LastArea"
refusal_name refusal.BadPages = codes "BadPages"
refusal_name refusal.BadPeriod = codes "BadPeriod"
refusal_name refusal.WrongKind = codes "WrongKind"
refusal_name (refusal.StaleLink now) = codes "StaleLink"
refusal_name refusal.LinkNotUp = codes "LinkNotUp"
refusal_name refusal.InFlight = codes "InFlight"
refusal_name refusal.NothingPending = codes "NothingPending"
refusal_name refusal.NothingToAsk = codes "NothingToAsk"
refusal_name refusal.NoOrder = codes "NoOrder"
refusal_name (refusal.Limit which) = codes "Limit"
refusal_name refusal.Memory = codes "Memory"
refusal_name (refusal.WrongDesk position) = codes "WrongDesk"

-- what follows the name: the latest link's generation, the limit that would be passed, or the number of entries
abbrev pub refusal_detail : Refusal → List ℕ
refusal_detail (refusal.StaleLink now) = codes " " ++ (decimal now ++ newline)
refusal_detail (refusal.Limit which) = codes " " ++ (limit_name which ++ newline)
refusal_detail (refusal.WrongDesk position) = codes " " ++ (decimal position ++ newline)
refusal_detail other = newline

-- a refusal: its number, its name, and what follows it
abbrev pub refused_text : Refusal → List ℕ
refused_text r = codes "no " ++ (decimal (refusal_number r) ++ (codes " " ++ (refusal_name r ++ refusal_detail r)))

-- the four digits of a serial number
abbrev pub serial_text : ℕ → List ℕ
serial_text s = encode_upper (bytes_high_first 2 s)

-- the frame of a message that is sent
abbrev pub sent_frame : Message → List ℕ
sent_frame message = codes " tx " ++ (encode_lower (frame_of message) ++ newline)

-- what follows the entry's number
abbrev pub answer_text : Answer → List ℕ
answer_text answer.Done = newline
answer_text (answer.Issued n s) = codes " warning " ++ (decimal n ++ (codes " serial " ++ (serial_text s ++ newline)))
answer_text (answer.Updated s) = codes " serial " ++ (serial_text s ++ newline)
answer_text (answer.Link generation) = codes " link " ++ (decimal generation ++ newline)
answer_text (answer.Sent order message) = sent_frame message
answer_text (answer.Asked message_id serial cells message) = sent_frame message
answer_text (answer.Replied replies) = codes " cells " ++ (decimal (length replies) ++ newline)
answer_text (answer.Listed cells) = codes " cells " ++ (decimal (length cells) ++ newline)

-- an event with which a message is sent
abbrev pub sent_text : ℕ → Message → List ℕ
sent_text number message = codes "ok " ++ (decimal number ++ sent_frame message)

-- an event that is accepted: the number of its entry, and its answer
abbrev pub accepted_text : ℕ → Answer → List ℕ
accepted_text number a = codes "ok " ++ (decimal number ++ answer_text a)

-- the name of what is wrong with a message
abbrev pub fault_name : MessageFault → List ℕ
fault_name (fault.Element element_fault.Cut) = codes "Cut"
fault_name (fault.Element (element_fault.UnknownElement id)) = codes "UnknownElement"
fault_name (fault.Element (element_fault.BadDiscriminator discriminator)) = codes "BadDiscriminator"
fault_name (fault.Element element_fault.PartialEntry) = codes "PartialEntry"
fault_name (fault.Element element_fault.LongPage) = codes "LongPage"
fault_name (fault.Repeated id) = codes "Repeated"
fault_name (fault.Missing id) = codes "Missing"
fault_name fault.BadPages = codes "BadPages"
fault_name fault.NotInProfile = codes "NotInProfile"
fault_name fault.Memory = codes "Memory"

-- the octet that the fault speaks of
abbrev pub fault_value : MessageFault → Option ℕ
fault_value (fault.Element (element_fault.UnknownElement id)) = Some id
fault_value (fault.Element (element_fault.BadDiscriminator discriminator)) = Some discriminator
fault_value (fault.Repeated id) = Some (code_of id)
fault_value (fault.Missing id) = Some (code_of id)
fault_value other = None

-- a number after a space, if there is one
abbrev pub number_text : Option ℕ → List ℕ
number_text None = []
number_text (Some n) = codes " " ++ decimal n

-- an octet in two digits after a space, if there is one
abbrev pub value_text : Option ℕ → List ℕ
value_text None = []
value_text (Some v) = codes " " ++ encode_upper (v ∷ [])

-- a message that can't be read: the number of its fault, its name, and the octet that it speaks of
abbrev pub fault_text : MessageFault → List ℕ
fault_text f = codes "bad message" ++ (number_text (number_of f) ++ (codes " " ++ (fault_name f ++ (value_text (fault_value f) ++ newline))))

-- the numbers of a warning
abbrev pub board_text : Numbers → List ℕ
board_text n = codes "awaited " ++ (decimal n.awaited ++ (codes " onair " ++ (decimal n.on_air ++ (codes " failed " ++ (decimal n.failed ++ (codes " left " ++ (decimal n.left ++ (codes " broadcasts " ++ (decimal n.broadcasts ++ newline)))))))))

-- the name of what an order does
abbrev pub kind_name : OrderKind → List ℕ
kind_name Write = codes "write"
kind_name (Replace old) = codes "replace"
kind_name Kill = codes "kill"

-- the serial number of the message that a replace takes off the air
abbrev pub old_text : OrderKind → List ℕ
old_text Write = []
old_text (Replace old) = codes " old " ++ serial_text old
old_text Kill = []

-- the line of one group: a pending order, with the number of its cells
abbrev pub group_text : Order → List ℕ
group_text o =
    kind_name o.kind ++ (codes " " ++ (decimal o.message_id ++ (codes " " ++ (serial_text o.serial ++ (old_text o.kind ++ (codes " cells " ++ (decimal (length o.cells) ++ newline)))))))

-- a line for each group, and their number
abbrev pub pending_text : List Order → List ℕ
pending_text orders = flat_map group_text orders ++ (codes "groups " ++ (decimal (length orders) ++ newline))

-- no key of a table is absent
abbrev pub presence_name : Presence → List ℕ
presence_name Absent = codes "absent"
presence_name OnAir = codes "onair"
presence_name Unknown = codes "unknown"

-- the line of one key
abbrev pub key_text : ReportedKey → List ℕ
key_text k = decimal k.cell.lac ++ (codes " " ++ (decimal k.cell.ci ++ (codes " " ++ (decimal k.message_id ++ (codes " " ++ (serial_text k.serial ++ (codes " " ++ (presence_name k.presence ++ newline))))))))

-- a line for each key, and their number
abbrev pub table_text : List ReportedKey → List ℕ
table_text keys = flat_map key_text keys ++ (codes "keys " ++ (decimal (length keys) ++ newline))

-- how many entries were folded
abbrev pub folded_text : ℕ → List ℕ
folded_text count = codes "folded " ++ (decimal count ++ newline)

-- the answer's lines
abbrev pub response_text : Response → List ℕ
response_text Silence = []
response_text BadLine = codes "bad line" ++ newline
response_text BadHex = codes "bad hex" ++ newline
response_text BadFrame = codes "bad frame" ++ newline
response_text Skipped = codes "skipped" ++ newline
response_text (BadMessage f) = fault_text f
response_text (Accepted number a) = accepted_text number a
response_text (Refused r) = refused_text r
response_text (Board numbers) = board_text numbers
response_text Set = codes "set" ++ newline
response_text (Pending orders) = pending_text orders
response_text (Table keys) = table_text keys
response_text Rebuilt = codes "rebuilt" ++ newline
response_text (Folded count) = folded_text count

-- the message of an order that is answered can be written
abbrev pub ResponseFits : Response → Type 0
ResponseFits (Accepted number a) = AnswerFits a
ResponseFits other = Unit {0}
