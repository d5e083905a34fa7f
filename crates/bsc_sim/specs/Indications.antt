-- What a BSC says unasked (3GPP TS 48.049, 8.1.3).
use Rattle.std.specs.Prelude.{ℕ, Bool, List, [], ◌∷◌, map, if◌then◌else◌}
use Rattle.common.specs.declared.cell.Cell.{Cell}
use Rattle.cbsp_ie.specs.declared.cause.Cause.{Cause}
use Rattle.cbsp_ie.specs.declared.cell_id.CellId.TheVariants as id
use Rattle.cbsp_ie.specs.declared.fail_entry.FailEntry.{FailEntry}
use Rattle.cbsp_ie.specs.declared.form.Form.TheVariants as form
use Rattle.cbsp_ie.specs.Identifications.{id_of_cell}
use Rattle.cbsp_messages.specs.declared.message.Message.{Message}
use Rattle.cbsp_messages.specs.declared.message.Message.TheVariants as message

-- the cell failed with the cause
abbrev pub failure_in : Cell → Cause → FailEntry
failure_in c cause = record { id = id_of_cell c; cause = cause }

-- all cells can broadcast messages of the type again; 1 says that their data are lost
abbrev pub restart_message : ℕ → Bool → Message
restart_message kind lost = message.Restart (record {
  cells = record { form = form.All; ids = id.All ∷ [] };
  kind = kind;
  recovery = if lost then 1 else 0;
})

-- these cells can't broadcast messages of type 0
abbrev pub fail_message : List Cell → Cause → Message
fail_message cells cause = message.Failure (record { failures = map (λ c. failure_in c cause) cells; kind = 0 })
