-- What a report asks of the centre: its octets, and of how many cells it says that they failed or restarted (TS 48.049, 8.1.3).
use Rattle.std.specs.Prelude.{ℕ, Bool, true, false, List, length, Option, Some, None, if◌then◌else◌}
use Rattle.std.specs.List.{list_all}
use Rattle.cbsp_ie.specs.declared.cell_id.CellId.{CellId}
use Rattle.cbsp_ie.specs.declared.cell_id.CellId.TheVariants as id
use Rattle.cbsp_ie.specs.declared.fail_entry.FailEntry.{FailEntry}
use Rattle.cbsp_messages.specs.declared.message.Message.{Message}
use Rattle.cbsp_messages.specs.declared.message.Message.TheVariants as message
use Rattle.link_worker.specs.declared.load.Load.{Load}

-- the identification is by a cell identity; one by a location area names any number of cells
abbrev pub is_of_one : CellId → Bool
is_of_one (id.Global plmn lac ci) = true
is_of_one (id.LacCi lac ci) = true
is_of_one (id.Ci ci) = true
is_of_one (id.Lai plmn lac) = false
is_of_one (id.Lac lac) = false
is_of_one id.All = false

-- how many cells the entries of a list name, each by its identification; none where one of them names any number
abbrev pub named_by : {E : Type 0} → (E → CellId) → List E → Option ℕ
named_by id_of entries = if list_all (λ e. is_of_one (id_of e)) entries then Some (length entries) else None

-- how many those of a RESTART and of a FAILURE name
abbrev pub named_by_ids : List CellId → Option ℕ
named_by_ids ids = named_by (λ i. i) ids

abbrev pub named_by_failures : List FailEntry → Option ℕ
named_by_failures failures = named_by (λ (f : FailEntry). f.id) failures

-- how many cells a message says that they failed or restarted
abbrev pub named_in : Message → Option ℕ
named_in (message.Restart m) = named_by_ids m.cells.ids
named_in (message.Failure m) = named_by_failures m.failures
named_in other = Some 0

-- what a message asks whose body has so many octets
abbrev pub load_of : ℕ → Message → Load
load_of octets m = record { octets = octets; cells = named_in m }
