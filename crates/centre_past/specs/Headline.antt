-- The headline: the pending orders of each BSC, applied to what it has reported, leave its cells that are up
-- broadcasting exactly what the plan wants there, but for keys that are held back.
use Rattle.std.specs.Prelude.{◌≡◌, ℕ, Bool, true, false, ◌&&◌, not, List, [], ◌∷◌, nat_eq, if◌then◌else◌}
use Rattle.common.specs.declared.cell.Cell.{Cell}
use Rattle.centre_events.specs.Down.{is_down}
use Rattle.centre_events.specs.Effects.{is_among}
use Rattle.centre_events.specs.InFlight.{is_kill}
use Rattle.centre_events.specs.Past.{Past}
use Rattle.centre_events.specs.Pending.{pending}
use Rattle.centre_events.specs.Plan.{planned}
use Rattle.centre_events.specs.Presence.{presence, is_held}
use Rattle.centre_events.specs.Warnings.{is_key, key_kind}
use Rattle.mirror.specs.declared.presence.Presence.{Presence}
use Rattle.mirror.specs.declared.presence.Presence.TheVariants.{Absent, OnAir}
use Rattle.order_maker.specs.declared.order.Order.{Order}
use Rattle.order_maker.specs.declared.order_kind.OrderKind.{OrderKind}
use Rattle.order_maker.specs.declared.order_kind.OrderKind.TheVariants.{Write, Replace, Kill}

-- the order is of that message identifier and names the cell
abbrev pub names_cell : Order → Cell → ℕ → Bool
names_cell order c m = nat_eq order.message_id m && is_among c order.cells

-- the order puts the key on air
abbrev pub airs : Cell → ℕ → ℕ → Order → Bool
airs c m s order = names_cell order c m && (not (is_kill order.kind) && nat_eq order.serial s)

-- an order of the kind takes the version of serial number s off the air: a kill its own, a replace the one it names
abbrev pub clears_serial : OrderKind → ℕ → ℕ → Bool
clears_serial Write own s = false
clears_serial (Replace old) own s = nat_eq old s
clears_serial Kill own s = nat_eq own s

-- the order takes the key off the air
abbrev pub clears : Cell → ℕ → ℕ → Order → Bool
clears c m s order = names_cell order c m && clears_serial order.kind order.serial s

-- the presence of a key after the order
abbrev pub applied_one : Cell → ℕ → ℕ → Order → Presence → Presence
applied_one c m s order p = if airs c m s order then OnAir else (if clears c m s order then Absent else p)

-- the presence of a key after the orders, one after another
abbrev pub applied : List Order → Cell → ℕ → ℕ → Presence → Presence
applied [] c m s p = p
applied (order ∷ orders) c m s p = applied orders c m s (applied_one c m s order p)

-- a presence agrees with the plan: on air where planned, absent where not
abbrev pub Agrees : Presence → Bool → Type 0
Agrees p true = p ≡ OnAir
Agrees p false = p ≡ Absent

-- the pending orders of each BSC, applied to what it has reported, give its part of the plan at each key of the book whose
-- cell is up there for the kind of the key's warning, and that nothing holds back
pub record PendingGivesPlan (past : Past) : Type 0 where
  pub each : (b : ℕ) (c : Cell) (m s : ℕ) → is_key past m s ≡ true → is_down past (key_kind past m s) b c ≡ false → is_held past b c m s ≡ false → Agrees (applied (pending past b) c m s (presence past b c m s)) (planned past b c m s)
