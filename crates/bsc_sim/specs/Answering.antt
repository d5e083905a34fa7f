-- How a simulated BSC answers an order or a query (3GPP TS 48.049, 8.1.3).
use Rattle.std.specs.Prelude.{ℕ, nat_le, Bool, true, false, ◌&&◌, List, [], ◌∷◌, ◌++◌, length, map, Option, Some, None, if◌then◌else◌}
use Rattle.std.specs.List.{flat_map, list_any}
use Rattle.std.specs.Option.{is_some}
use Rattle.common.specs.Cell.{cell_eq}
use Rattle.common.specs.declared.cell.Cell.{Cell}
use Rattle.cbsp_ie.specs.declared.cause.Cause.{Cause}
use Rattle.cbsp_ie.specs.declared.cell_id.CellId.{CellId}
use Rattle.cbsp_ie.specs.declared.cell_id.CellId.TheVariants as id
use Rattle.cbsp_ie.specs.declared.count_entry.CountEntry.{CountEntry}
use Rattle.cbsp_ie.specs.declared.fail_entry.FailEntry.{FailEntry}
use Rattle.cbsp_ie.specs.declared.form.Form.TheVariants as form
use Rattle.cbsp_ie.specs.CellId.{form_eq}
use Rattle.cbsp_ie.specs.Counts.{Numbers}
use Rattle.cbsp_ie.specs.Identifications.{Identifications, id_of_cell}
use Rattle.cbsp_messages.specs.declared.message.Message.{Message}
use Rattle.cbsp_messages.specs.declared.message.Message.TheVariants as message
use Rattle.bsc_sim.specs.declared.key.Key.{Key}
use Rattle.bsc_sim.specs.declared.request.Request.{Request}
use Rattle.bsc_sim.specs.declared.request.Task.{Task}
use Rattle.bsc_sim.specs.declared.request.Task.TheVariants.{Write, Kill, Query}
use Rattle.bsc_sim.specs.declared.tally.Tally.{Tally}
use Rattle.bsc_sim.specs.Bsc.{BscState}
use Rattle.bsc_sim.specs.Choices.{Chosen, cause_of, count_of}
use Rattle.bsc_sim.specs.Indications.{failure_in}
use Rattle.bsc_sim.specs.Keys.{has, with_key, without_key}

-- the cause with this number
abbrev pub cause : ℕ → Cause
cause n = record { 0 = n }

-- the request's message in the cell, with a serial number
abbrev pub key_in : Request → ℕ → Cell → Key
key_in r serial c = record { cell = c; message_id = r.message_id; serial = serial }

-- ---- one cell

-- why the message that is to be replaced, if there is one, can't be: 2 where it isn't on air
abbrev pub old_refusal : Option ℕ → Request → List Key → Cell → Option Cause
old_refusal None r keys c = None
old_refusal (Some old) r keys c = if has keys (key_in r old c) then None else Some (cause 2)

-- why a task can't be done by what is on air: a write with 13 where the message is there already; the others with 2
-- where it isn't
abbrev pub task_refusal : Task → Request → List Key → Cell → Option Cause
task_refusal (Write old) r keys c = if has keys (key_in r r.serial c) then Some (cause 13) else old_refusal old r keys c
task_refusal Kill r keys c = if has keys (key_in r r.serial c) then None else Some (cause 2)
task_refusal Query r keys c = if has keys (key_in r r.serial c) then None else Some (cause 2)

abbrev pub refusal : Request → List Key → Cell → Option Cause
refusal r keys c = task_refusal r.task r keys c

-- whether the cell is one of these; None stands for every cell
abbrev pub is_own : Option (List Cell) → Cell → Bool
is_own None c = true
is_own (Some cells) c = list_any (cell_eq c) cells

-- the first of two causes
abbrev pub or_else : Option Cause → Option Cause → Option Cause
or_else (Some x) other = Some x
or_else None other = other

-- why the request fails in the cell: the cause that is chosen, else 3 where it isn't the BSC's own, else by what is on air
abbrev pub cause_in : Option (List Cell) → Chosen → Request → List Key → Cell → Option Cause
cause_in own chosen r keys c = or_else (cause_of chosen c) (if is_own own c then refusal r keys c else Some (cause 3))

-- the keys on air once the task is done in the cell: a write takes the older message off, if one is named, and puts the
-- new one on
abbrev pub task_done : Task → Request → List Key → Cell → List Key
task_done (Write None) r keys c = with_key keys (key_in r r.serial c)
task_done (Write (Some old)) r keys c = with_key (without_key keys (key_in r old c)) (key_in r r.serial c)
task_done Kill r keys c = without_key keys (key_in r r.serial c)
task_done Query r keys c = keys

abbrev pub keys_done : Request → List Key → Cell → List Key
keys_done r keys c = task_done r.task r keys c

-- ---- the cells in turn

-- the keys on air then, the cells in which it was done, and those in which it failed
pub record TallyState : Type 0 where
  pub keys : List Key
  pub done : List Cell
  pub failed : List FailEntry

abbrev pub tallied : Tally → TallyState
tallied t = record { keys = t.keys; done = t.done.items; failed = t.failures }

-- one cell more: it failed with a cause, or is done
abbrev pub stepped : Request → TallyState → Cell → Option Cause → TallyState
stepped r t c (Some x) = record t { failed = t.failed ++ failure_in c x ∷ [] }
stepped r t c None = record t { keys = keys_done r t.keys c; done = t.done ++ c ∷ [] }

-- what comes of the cells after those of a tally, each over the keys as the one before it left them
abbrev pub tally_from : Option (List Cell) → Chosen → Request → TallyState → List Cell → TallyState
tally_from own chosen r t [] = t
tally_from own chosen r t (c ∷ cells) = tally_from own chosen r (stepped r t c (cause_in own chosen r t.keys c)) cells

-- what comes of the cells in turn
abbrev pub tally_of : Option (List Cell) → Chosen → Request → List Key → List Cell → TallyState
tally_of own chosen r keys cells = tally_from own chosen r (record { keys = keys; done = []; failed = [] }) cells

-- the cell of an identification by LAC and CI
abbrev pub cell_named : CellId → List Cell
cell_named (id.LacCi lac ci) = record { lac = lac; ci = ci } ∷ []
cell_named other = []

-- the cells of identifications by LAC and CI
abbrev pub cells_named : List CellId → List Cell
cells_named ids = flat_map cell_named ids

-- ---- the answer

-- the list of the cells, if there are any
abbrev pub done_part : List Cell → Option Identifications
done_part [] = None
done_part (c ∷ cells) = Some (record { form = form.LacCi; ids = map id_of_cell (c ∷ cells) })

-- a number of broadcasts in the cell, if there is one
abbrev pub count_in : Cell → Option ℕ → List CountEntry
count_in c None = []
count_in c (Some n) = record { id = id_of_cell c; number = n; info = 0 } ∷ []

-- the numbers of broadcasts that are chosen for the cells, in the order of these
abbrev pub counts_of : Chosen → List Cell → Numbers
counts_of chosen cells = record { form = form.LacCi; entries = flat_map (λ c. count_in c (count_of chosen c)) cells }

-- the same list, if it has an entry
abbrev pub part_of : Numbers → List CountEntry → Option Numbers
part_of counts [] = None
part_of counts (e ∷ entries) = Some counts

abbrev pub counts_part : Numbers → Option Numbers
counts_part counts = part_of counts counts.entries

-- the basic channel, if the request names a channel
abbrev pub channel_of : Request → Option ℕ
channel_of r = if r.has_channel then Some 0 else None

-- the COMPLETE of a task: the identifiers of the request, the numbers of broadcasts, and the cells but for a query
abbrev pub task_complete : Task → Request → List Cell → Numbers → Message
task_complete (Write old) r done counts = message.WriteComplete (record { message_id = r.message_id; serial = r.serial; old = old; counts = counts_part counts; cells = done_part done; channel = channel_of r })
task_complete Kill r done counts = message.KillComplete (record { message_id = r.message_id; serial = r.serial; counts = counts_part counts; cells = done_part done; channel = channel_of r })
task_complete Query r done counts = message.StatusComplete (record { message_id = r.message_id; serial = r.serial; counts = counts; channel = channel_of r })

abbrev pub complete_of : Request → List Cell → Numbers → Message
complete_of r done counts = task_complete r.task r done counts

-- the FAILURE of a task: the same, with the cells that failed
abbrev pub task_failure : Task → Request → List Cell → Numbers → List FailEntry → Message
task_failure (Write old) r done counts failed = message.WriteFailure (record { message_id = r.message_id; serial = r.serial; old = old; failures = failed; counts = counts_part counts; cells = done_part done; channel = channel_of r })
task_failure Kill r done counts failed = message.KillFailure (record { message_id = r.message_id; serial = r.serial; failures = failed; counts = counts_part counts; cells = done_part done; channel = channel_of r })
task_failure Query r done counts failed = message.StatusFailure (record { message_id = r.message_id; serial = r.serial; failures = failed; counts = counts_part counts; channel = channel_of r })

abbrev pub failure_of : Request → List Cell → Numbers → List FailEntry → Message
failure_of r done counts failed = task_failure r.task r done counts failed

-- a COMPLETE where no cell failed, else a FAILURE
abbrev pub reply_of : Chosen → Request → List Cell → List FailEntry → Message
reply_of chosen r done [] = complete_of r done (counts_of chosen done)
reply_of chosen r done (f ∷ failed) = failure_of r done (counts_of chosen done) (f ∷ failed)

-- the answer to everything else: an ERROR INDICATION that says that the message isn't recognised, on this channel, if one is
-- given
abbrev pub not_understood : Option ℕ → Message
not_understood channel = message.ErrorIndication (record { cause = cause 4; message_id = None; serial = None; old = None; channel = channel })

-- ---- a message

-- the answer, and the BSC after it
pub record Answered : Type 0 where
  pub reply : Message
  pub after : BscState

-- an order in these cells is carried out: they are named by LAC and CI, and are not too many
abbrev pub is_taken : Identifications → Bool
is_taken cells = form_eq cells.form form.LacCi && nat_le (length cells.ids) 9000

-- what a tally of the request comes to
abbrev pub settled : BscState → Chosen → Request → TallyState → Answered
settled b chosen r t = record { reply = reply_of chosen r t.done t.failed; after = record b { keys = t.keys } }

abbrev pub carried : BscState → Chosen → Request → Identifications → Answered
carried b chosen r cells =
    if is_taken cells then settled b chosen r (tally_of b.own chosen r b.keys (cells_named cells.ids)) else record { reply = not_understood (channel_of r); after = b }

-- what the message asks is carried out, cell by cell
abbrev pub is_understood : Message → Bool
is_understood (message.WriteReplace m) = is_taken m.cells
is_understood (message.WriteEmergency m) = is_taken m.cells
is_understood (message.Kill m) = is_taken m.cells
is_understood (message.StatusQuery m) = is_taken m.cells
is_understood other = false

abbrev pub answered : BscState → Chosen → Message → Answered
answered b chosen (message.WriteReplace m) = carried b chosen (record { message_id = m.message_id; serial = m.serial; task = Write m.old; has_channel = is_some m.channel }) m.cells
answered b chosen (message.WriteEmergency m) = carried b chosen (record { message_id = m.message_id; serial = m.serial; task = Write m.old; has_channel = false }) m.cells
answered b chosen (message.Kill m) = carried b chosen (record { message_id = m.message_id; serial = m.serial; task = Kill; has_channel = is_some m.channel }) m.cells
answered b chosen (message.StatusQuery m) = carried b chosen (record { message_id = m.message_id; serial = m.serial; task = Query; has_channel = is_some m.channel }) m.cells
answered b chosen other = record { reply = not_understood None; after = b }
