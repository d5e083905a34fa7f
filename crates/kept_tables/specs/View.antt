-- A view: what is read of every line.
use Rattle.std.specs.Prelude.{ℕ, Bool, ◌&&◌, List, nat_eq, if◌then◌else◌}
use Rattle.std.specs.List.{list_any}
use Rattle.common.specs.Cell.{cell_eq}
use Rattle.common.specs.declared.cell.Cell.{Cell}
use Rattle.kept_tables.specs.declared.line_facts.LineFacts.{LineFacts}
use Rattle.kept_tables.specs.declared.spot.Spot.{Spot}
use Rattle.mirror.specs.declared.line_key.LineKey.{LineKey}

-- what is read of the line of each BSC, cell and warning
abbrev pub View : Type 0
View = LineKey → LineFacts

-- the two are one line
abbrev pub key_eq : LineKey → LineKey → Bool
key_eq k q = nat_eq k.bsc q.bsc && (cell_eq k.cell q.cell && nat_eq k.warning q.warning)

-- the line of the BSC, the cell and the warning
abbrev pub key_of : ℕ → Cell → ℕ → LineKey
key_of b c w = record { bsc = b; cell = c; warning = w }

-- the line of the warning in the cell at its BSC
abbrev pub key_at : Spot → ℕ → LineKey
key_at s w = key_of s.bsc s.cell w

-- the line's cell at its BSC
abbrev pub spot_of : LineKey → Spot
spot_of k = record { bsc = k.bsc; cell = k.cell }

-- the two are one cell at one BSC
abbrev pub spot_eq : Spot → Spot → Bool
spot_eq x y = nat_eq x.bsc y.bsc && cell_eq x.cell y.cell

-- the cell at its BSC is one of these
abbrev pub is_spot : Spot → List Spot → Bool
is_spot s spots = list_any (spot_eq s) spots

-- the view with something else read of one line
abbrev pub updated : View → LineKey → LineFacts → View
updated v k f q = if key_eq k q then f else v q
