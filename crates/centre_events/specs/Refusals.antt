-- The numbers of the refusals.
use Rattle.std.specs.Prelude.{ℕ}
use Rattle.coverage_plan.specs.declared.refusal.Limit.TheVariants as plan_limit
use Rattle.coverage_plan.specs.declared.refusal.Refusal as plan
use Rattle.coverage_plan.specs.declared.refusal.Refusal.TheVariants as plan_refusal
use Rattle.warning_book.specs.declared.refusal.Limit.TheVariants as book_limit
use Rattle.warning_book.specs.declared.refusal.Refusal as book
use Rattle.warning_book.specs.declared.refusal.Refusal.TheVariants as book_refusal
use Rattle.centre_events.specs.declared.refusal.Limit.TheVariants as limit
use Rattle.centre_events.specs.declared.refusal.Refusal.{Refusal}
use Rattle.centre_events.specs.declared.refusal.Refusal.TheVariants.{Stale, JournalFull, NoSuchBsc, BscExists, BscHasCells, LinkIsUp, CellExists, NoSuchCell, SameBsc, BadName, AreaExists, NoSuchArea, AreaInUse, SelectorThere, SelectorNotThere, NoSuchWarning, NotActive, StillActive, StillReported, StillInFlight, NoAreas, AreaThere, AreaNotThere, LastArea, BadPages, BadPeriod, WrongKind, StaleLink, LinkNotUp, InFlight, NothingPending, NothingToAsk, NoOrder, Limit, Memory, WrongDesk}

-- the number that a refusal is answered with
abbrev pub refusal_number : Refusal → ℕ
refusal_number Stale = 1
refusal_number JournalFull = 2
refusal_number NoSuchBsc = 3
refusal_number BscExists = 4
refusal_number BscHasCells = 5
refusal_number LinkIsUp = 6
refusal_number CellExists = 7
refusal_number NoSuchCell = 8
refusal_number SameBsc = 9
refusal_number BadName = 10
refusal_number AreaExists = 11
refusal_number NoSuchArea = 12
refusal_number AreaInUse = 13
refusal_number SelectorThere = 14
refusal_number SelectorNotThere = 15
refusal_number NoSuchWarning = 16
refusal_number NotActive = 17
refusal_number StillActive = 18
refusal_number StillReported = 19
refusal_number StillInFlight = 20
refusal_number NoAreas = 21
refusal_number AreaThere = 22
refusal_number AreaNotThere = 23
refusal_number LastArea = 24
refusal_number BadPages = 25
refusal_number BadPeriod = 26
refusal_number WrongKind = 27
refusal_number (StaleLink now) = 29
refusal_number LinkNotUp = 30
refusal_number InFlight = 31
refusal_number NothingPending = 32
refusal_number NothingToAsk = 33
refusal_number NoOrder = 34
refusal_number (Limit which) = 35
refusal_number Memory = 36
refusal_number (WrongDesk position) = 37

-- the refusal that one of the plan is
abbrev pub of_plan : plan.Refusal → Refusal
of_plan plan_refusal.NoSuchBsc = NoSuchBsc
of_plan plan_refusal.BscExists = BscExists
of_plan plan_refusal.BscHasCells = BscHasCells
of_plan plan_refusal.CellExists = CellExists
of_plan plan_refusal.NoSuchCell = NoSuchCell
of_plan plan_refusal.SameBsc = SameBsc
of_plan plan_refusal.BadName = BadName
of_plan plan_refusal.AreaExists = AreaExists
of_plan plan_refusal.NoSuchArea = NoSuchArea
of_plan plan_refusal.AreaInUse = AreaInUse
of_plan plan_refusal.SelectorThere = SelectorThere
of_plan plan_refusal.SelectorNotThere = SelectorNotThere
of_plan plan_refusal.NoSuchWarning = NoSuchWarning
of_plan plan_refusal.NotActive = NotActive
of_plan plan_refusal.StillActive = StillActive
of_plan plan_refusal.NoAreas = NoAreas
of_plan plan_refusal.AreaThere = AreaThere
of_plan plan_refusal.AreaNotThere = AreaNotThere
of_plan plan_refusal.LastArea = LastArea
of_plan plan_refusal.BadPages = BadPages
of_plan plan_refusal.BadPeriod = BadPeriod
of_plan plan_refusal.WrongKind = WrongKind
of_plan (plan_refusal.Limit plan_limit.Bscs) = Limit limit.Bscs
of_plan (plan_refusal.Limit plan_limit.Cells) = Limit limit.Cells
of_plan (plan_refusal.Limit plan_limit.Areas) = Limit limit.Areas
of_plan (plan_refusal.Limit plan_limit.Selectors) = Limit limit.Selectors
of_plan (plan_refusal.Limit plan_limit.Warnings) = Limit limit.Warnings
of_plan (plan_refusal.Limit plan_limit.WarningAreas) = Limit limit.WarningAreas
of_plan (plan_refusal.Limit plan_limit.Ids) = Limit limit.Ids
of_plan plan_refusal.Memory = Memory

-- the refusal that one of the book is
abbrev pub of_book : book.Refusal → Refusal
of_book book_refusal.NoSuchWarning = NoSuchWarning
of_book book_refusal.NotActive = NotActive
of_book book_refusal.StillActive = StillActive
of_book book_refusal.NoAreas = NoAreas
of_book book_refusal.AreaThere = AreaThere
of_book book_refusal.AreaNotThere = AreaNotThere
of_book book_refusal.LastArea = LastArea
of_book book_refusal.BadPages = BadPages
of_book book_refusal.BadPeriod = BadPeriod
of_book book_refusal.WrongKind = WrongKind
of_book (book_refusal.Limit book_limit.Warnings) = Limit limit.Warnings
of_book (book_refusal.Limit book_limit.WarningAreas) = Limit limit.WarningAreas
of_book (book_refusal.Limit book_limit.Ids) = Limit limit.Ids
of_book book_refusal.Memory = Memory
