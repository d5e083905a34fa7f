-- What an event that was accepted calls for besides its answer.
use Rattle.centre_events.specs.declared.event.Event.{Event}
use Rattle.centre_events.specs.declared.event.Event.TheVariants as event
use Rattle.coverage_plan.specs.declared.edit.Edit.{Edit as EditOf}
use Rattle.coverage_plan.specs.declared.edit.Edit.TheVariants as edit
use Rattle.server_operator.specs.declared.sequel.Sequel.{Sequel}
use Rattle.server_operator.specs.declared.sequel.Sequel.TheVariants as sequel

-- a BSC is registered, a warning updated or stopped; no other edit calls for anything
abbrev pub edit_sequel : EditOf → Sequel
edit_sequel (edit.AddBsc b) = sequel.Added b
edit_sequel (edit.Update warning content) = sequel.Changed warning
edit_sequel (edit.Stop warning) = sequel.Changed warning
edit_sequel other = sequel.Nothing

-- no other event calls for anything
abbrev pub sequel_of : Event → Sequel
sequel_of (event.Edit change) = edit_sequel change
sequel_of other = sequel.Nothing
