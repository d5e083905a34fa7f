-- That pending orders order no more and no less than is needed: no order names a cell to spare, no key stands in two
-- actions, and the cells that await a warning are those in which it is to be written.
use Rattle.std.specs.Prelude.{◌≡◌, ◌≤◌, ℕ, Bool, true, false, ◌&&◌, ◌||◌, not, List, ◌∷◌, ◌++◌, Some, nat_eq, length, if◌then◌else◌}
use Rattle.std.specs.List.{filter, list_any}
use Rattle.common.specs.Cell.{cell_eq}
use Rattle.common.specs.Sums.{sum_of, count_of}
use Rattle.common.specs.declared.cell.Cell.{Cell}
use Rattle.coverage_board.specs.Standings.{stands}
use Rattle.coverage_board.specs.declared.way.Way.TheVariants.{Awaited}
use Rattle.mirror.specs.Seen.{is_the}
use Rattle.order_maker.specs.declared.action.Action.{Action}
use Rattle.order_maker.specs.declared.order.Order.{Order}
use Rattle.warning_book.specs.Book.{current_of, warning_of}
use Rattle.warning_book.specs.declared.warning.Warning.{Warning}
use Rattle.centre_events.specs.Down.{is_down}
use Rattle.centre_events.specs.Effects.{is_among, replaces}
use Rattle.centre_past.specs.Headline.{applied, Agrees}
use Rattle.centre_events.specs.InFlight.{is_kill}
use Rattle.centre_events.specs.Lines.{stand}
use Rattle.centre_events.specs.Links.{bscs}
use Rattle.centre_past.specs.Numbers.{number}
use Rattle.centre_events.specs.Past.{Past}
use Rattle.centre_events.specs.Pending.{all_actions, pending}
use Rattle.centre_events.specs.Plan.{planned}
use Rattle.centre_events.specs.Presence.{presence, is_held}
use Rattle.centre_events.specs.Warnings.{book_of, is_key, key_kind}

-- the order without the cell
abbrev pub without_cell : Cell → Order → Order
without_cell c order = record order { cells = filter (λ d. not (cell_eq c d)) order.cells }

-- the orders leave the key otherwise than the plan has it, though it is one of the book, its cell is up at the BSC for the kind of its
-- warning, and
-- nothing holds it back
pub record Misses (past : Past) (b : ℕ) (c : Cell) (m s : ℕ) (orders : List Order) : Type 0 where
  pub key : is_key past m s ≡ true
  pub up : is_down past (key_kind past m s) b c ≡ false
  pub free : is_held past b c m s ≡ false
  pub differs : Agrees (applied orders c m s (presence past b c m s)) (planned past b c m s) → ⊥

-- where one of the pending orders of a BSC is without one of its cells, they leave that order's own key otherwise than
-- planned in that cell
pub record NoneToSpare (past : Past) : Type 0 where
  pub each : (b : ℕ) (front : List Order) (order : Order) (back : List Order) (c : Cell) → pending past b ≡ front ++ order ∷ back → is_among c order.cells ≡ true → Misses past b c order.message_id order.serial (front ++ without_cell c order ∷ back)

-- the action is of the key: it brings it on air, or takes it off
abbrev pub acts_on : Cell → ℕ → ℕ → Action → Bool
acts_on c m s a = cell_eq c a.cell && (nat_eq a.message_id m && (nat_eq a.serial s || replaces a.kind s))

-- at most one of the actions that are to be ordered of a BSC is of a key
pub record ActsOnce (past : Past) : Type 0 where
  pub each : (b : ℕ) (c : Cell) (m s : ℕ) → count_of (acts_on c m s) (all_actions past b) ≤ 1

-- the order brings the warning's current version on air
abbrev pub brings : Warning → Order → Bool
brings w order = not (is_kill order.kind) && (nat_eq order.message_id w.message_id && is_the (current_of w) order.serial)

-- in how many cells the pending orders of the BSC bring it on air
abbrev pub brought : Past → Warning → ℕ → ℕ
brought past w b = sum_of (λ (order : Order). if brings w order then length order.cells else 0) (pending past b)

-- the pending orders of the BSC bring it on air in the cell
abbrev pub is_brought : Past → Warning → ℕ → Cell → Bool
is_brought past w b c = list_any (λ (order : Order). brings w order && is_among c order.cells) (pending past b)

-- a warning in the book is awaited in a cell at a BSC just where the pending orders of the BSC bring its current
-- version on air in the cell; and over all BSCs it is awaited in as many cells as these orders name
pub record AwaitedIsPending (past : Past) : Type 0 where
  pub same : (n : ℕ) (w : Warning) → warning_of (book_of past) n ≡ Some w → (b : ℕ) (c : Cell) → stands Awaited (stand past b w c) ≡ is_brought past w b c
  pub each : (n : ℕ) (w : Warning) → warning_of (book_of past) n ≡ Some w → number past w Awaited ≡ sum_of (brought past w) (bscs past)
