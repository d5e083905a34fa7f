-- The cells in which an order failed, and why (3GPP TS 48.049, 8.2.11).
use Rattle.std.specs.Prelude.{◌<◌, Bool, ◌&&◌, nat_eq}
use Rattle.cbsp_ie.specs.declared.fail_entry.FailEntry.{FailEntry}
use Rattle.cbsp_ie.specs.CellId.{IsCellId, id_eq}

-- the numbers of the entry are in their ranges
abbrev pub IsFailEntry : FailEntry → Type 0
IsFailEntry e = IsCellId e.id × (e.cause.0 < 256)

-- the two are one entry
abbrev pub failure_eq : FailEntry → FailEntry → Bool
failure_eq a b = id_eq a.id b.id && nat_eq a.cause.0 b.cause.0
