-- The refusal of an edit that each refusal of the register, of the areas and of the book is.
use Rattle.areas.specs.declared.refusal.Limit.TheVariants as areas_limit
use Rattle.areas.specs.declared.refusal.Refusal as areas
use Rattle.areas.specs.declared.refusal.Refusal.TheVariants as areas_refusal
use Rattle.cell_register.specs.declared.refusal.Limit.TheVariants as register_limit
use Rattle.cell_register.specs.declared.refusal.Refusal as register
use Rattle.cell_register.specs.declared.refusal.Refusal.TheVariants as register_refusal
use Rattle.warning_book.specs.declared.refusal.Limit.TheVariants as book_limit
use Rattle.warning_book.specs.declared.refusal.Refusal as book
use Rattle.warning_book.specs.declared.refusal.Refusal.TheVariants as book_refusal
use Rattle.coverage_plan.specs.declared.refusal.Limit.TheVariants as limit
use Rattle.coverage_plan.specs.declared.refusal.Refusal.{Refusal}
use Rattle.coverage_plan.specs.declared.refusal.Refusal.TheVariants.{NoSuchBsc, BscExists, BscHasCells, CellExists, NoSuchCell, SameBsc, BadName, AreaExists, NoSuchArea, SelectorThere, SelectorNotThere, NoSuchWarning, NotActive, StillActive, NoAreas, AreaThere, AreaNotThere, LastArea, BadPages, BadPeriod, WrongKind, Limit, Memory}

-- the refusal that one of the register is
abbrev pub of_register : register.Refusal → Refusal
of_register register_refusal.NoSuchBsc = NoSuchBsc
of_register register_refusal.BscExists = BscExists
of_register register_refusal.BscHasCells = BscHasCells
of_register register_refusal.CellExists = CellExists
of_register register_refusal.NoSuchCell = NoSuchCell
of_register register_refusal.SameBsc = SameBsc
of_register (register_refusal.Limit register_limit.Bscs) = Limit limit.Bscs
of_register (register_refusal.Limit register_limit.Cells) = Limit limit.Cells
of_register register_refusal.Memory = Memory

-- the refusal that one of the areas is
abbrev pub of_areas : areas.Refusal → Refusal
of_areas areas_refusal.BadName = BadName
of_areas areas_refusal.AreaExists = AreaExists
of_areas areas_refusal.NoSuchArea = NoSuchArea
of_areas areas_refusal.SelectorThere = SelectorThere
of_areas areas_refusal.SelectorNotThere = SelectorNotThere
of_areas (areas_refusal.Limit areas_limit.Areas) = Limit limit.Areas
of_areas (areas_refusal.Limit areas_limit.Selectors) = Limit limit.Selectors
of_areas areas_refusal.Memory = Memory

-- the refusal that one of the book is
abbrev pub of_book : book.Refusal → Refusal
of_book book_refusal.NoSuchWarning = NoSuchWarning
of_book book_refusal.NotActive = NotActive
of_book book_refusal.StillActive = StillActive
of_book book_refusal.NoAreas = NoAreas
of_book book_refusal.AreaThere = AreaThere
of_book book_refusal.AreaNotThere = AreaNotThere
of_book book_refusal.LastArea = LastArea
of_book book_refusal.BadPages = BadPages
of_book book_refusal.BadPeriod = BadPeriod
of_book book_refusal.WrongKind = WrongKind
of_book (book_refusal.Limit book_limit.Warnings) = Limit limit.Warnings
of_book (book_refusal.Limit book_limit.WarningAreas) = Limit limit.WarningAreas
of_book (book_refusal.Limit book_limit.Ids) = Limit limit.Ids
of_book book_refusal.Memory = Memory
