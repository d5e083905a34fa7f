-- The kinds of events, their numbers and their names.
use Rattle.std.specs.Prelude.{ℕ, List, codes}
use Rattle.centre_events.specs.declared.event.Event.{Event}
use Rattle.centre_events.specs.declared.event.Event.TheVariants as event
use Rattle.coverage_plan.specs.declared.edit.Edit.{Edit}
use Rattle.coverage_plan.specs.declared.edit.Edit.TheVariants as edit
use Rattle.office.specs.declared.event_kind.EventKind.{EventKind}
use Rattle.office.specs.declared.event_kind.EventKind.TheVariants as kind

-- the kind of an edit
abbrev pub kind_of_edit : Edit → EventKind
kind_of_edit (edit.AddBsc b) = kind.AddBsc
kind_of_edit (edit.RemoveBsc b) = kind.RemoveBsc
kind_of_edit (edit.AddCell c b) = kind.AddCell
kind_of_edit (edit.MoveCell c b) = kind.MoveCell
kind_of_edit (edit.RemoveCell c) = kind.RemoveCell
kind_of_edit (edit.AddArea a) = kind.AddArea
kind_of_edit (edit.DropArea a) = kind.DropArea
kind_of_edit (edit.Put a s) = kind.Put
kind_of_edit (edit.Cut a s) = kind.Cut
kind_of_edit (edit.Issue n a) = kind.Issue
kind_of_edit (edit.Update w c) = kind.Update
kind_of_edit (edit.Widen w a) = kind.Widen
kind_of_edit (edit.Narrow w a) = kind.Narrow
kind_of_edit (edit.Stop w) = kind.Stop
kind_of_edit (edit.Forget w) = kind.Forget

-- the kind of an event
abbrev pub kind_of : Event → EventKind
kind_of (event.Edit e) = kind_of_edit e
kind_of (event.Retry b) = kind.Retry
kind_of (event.LinkUp b) = kind.LinkUp
kind_of (event.LinkDown b g) = kind.LinkDown
kind_of (event.Send b g) = kind.Send
kind_of (event.Ask b g w c) = kind.Ask
kind_of (event.Report b g m) = kind.Report

-- a number for each kind
abbrev pub kind_number : EventKind → ℕ
kind_number kind.AddBsc = 0
kind_number kind.RemoveBsc = 1
kind_number kind.AddCell = 2
kind_number kind.MoveCell = 3
kind_number kind.RemoveCell = 4
kind_number kind.AddArea = 5
kind_number kind.DropArea = 6
kind_number kind.Put = 7
kind_number kind.Cut = 8
kind_number kind.Issue = 9
kind_number kind.Update = 10
kind_number kind.Widen = 11
kind_number kind.Narrow = 12
kind_number kind.Stop = 13
kind_number kind.Forget = 14
kind_number kind.Retry = 15
kind_number kind.LinkUp = 16
kind_number kind.LinkDown = 17
kind_number kind.Send = 18
kind_number kind.Ask = 19
kind_number kind.Report = 20

-- its name
abbrev pub kind_name : EventKind → List ℕ
kind_name kind.AddBsc = codes "add_bsc"
kind_name kind.RemoveBsc = codes "remove_bsc"
kind_name kind.AddCell = codes "add_cell"
kind_name kind.MoveCell = codes "move_cell"
kind_name kind.RemoveCell = codes "remove_cell"
kind_name kind.AddArea = codes "add_area"
kind_name kind.DropArea = codes "drop_area"
kind_name kind.Put = codes "put"
kind_name kind.Cut = codes "cut"
kind_name kind.Issue = codes "issue"
kind_name kind.Update = codes "update"
kind_name kind.Widen = codes "widen"
kind_name kind.Narrow = codes "narrow"
kind_name kind.Stop = codes "stop"
kind_name kind.Forget = codes "forget"
kind_name kind.Retry = codes "retry"
kind_name kind.LinkUp = codes "link_up"
kind_name kind.LinkDown = codes "link_down"
kind_name kind.Send = codes "send"
kind_name kind.Ask = codes "ask"
kind_name kind.Report = codes "report"
