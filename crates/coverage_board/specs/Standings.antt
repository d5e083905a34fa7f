-- How a line, which is a BSC, a cell and a warning, is counted on a board.
use Rattle.std.specs.Prelude.{ℕ, Bool, true, false, ◌&&◌, not, List, Option, Some, None, if◌then◌else◌}
use Rattle.std.specs.List.{list_any}
use Rattle.mirror.specs.Seen.{Seen, is_absent, is_on_air, is_the}
use Rattle.coverage_board.specs.declared.way.Way.{Way}
use Rattle.coverage_board.specs.declared.way.Way.TheVariants.{Awaited, OnAir, Failed, Left}

-- what is read of a line for a board: also, by the serial number of a version, how often it was broadcast there; the
-- warning's areas that cover the cell; whether the cell is registered at this BSC; and whether the warning is active
pub record Stand : Type 0 where
  pub seen : Seen
  pub counts : ℕ → ℕ
  pub areas : List (List ℕ)
  pub here : Bool
  pub active : Bool

-- how a line stands whose wanted version has this serial number: failed where the cell is down, on air where its BSC
-- said so, failed where its key is held, and else awaited
abbrev pub standing_of : Seen → ℕ → Way
standing_of v s = if v.down then Failed else (if is_on_air (v.presence s) then OnAir else (if v.is_held s then Failed else Awaited))

-- a version is wanted on the line of a registered cell at its BSC that an area of an active warning covers; other lines
-- stand in no way
abbrev pub standing : Seen → Option ℕ → Option Way
standing v None = None
standing v (Some s) = Some (standing_of v s)

-- the two are one way
abbrev pub way_eq : Way → Way → Bool
way_eq Awaited Awaited = true
way_eq OnAir OnAir = true
way_eq Failed Failed = true
way_eq Left Left = true
way_eq x y = false

-- the line stands in that way
abbrev pub is_way : Way → Option Way → Bool
is_way way None = false
is_way way (Some other) = way_eq way other

-- the version is on air there, or may be, and not wanted
abbrev pub is_unwanted : Seen → ℕ → Bool
is_unwanted v s = not (is_the v.wanted s) && not (is_absent (v.presence s))

-- a version is left there
abbrev pub is_left : Seen → Bool
is_left v = list_any (is_unwanted v) v.versions

-- the line is counted in that way: as it stands, and as left where a version is left
abbrev pub stands : Way → Stand → Bool
stands Left t = is_left t.seen
stands way t = is_way way (standing t.seen t.seen.wanted)
