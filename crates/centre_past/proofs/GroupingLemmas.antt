-- What pending orders touch is what their actions touch, and what is so of each action is so of each order.
use Rattle.std.proofs.Common.{◌≡◌, ℕ, Bool, true}
use Rattle.std.specs.List.{list_any, list_all}
use Rattle.common.specs.declared.cell.Cell.{Cell}
use Rattle.order_maker.specs.GroupingLaws.{tests, touches, any_ordered, all_ordered}
use Rattle.order_maker.specs.declared.action.Action.{Action}
use Rattle.order_maker.specs.declared.order.Order.{Order}
use Rattle.order_maker.specs.declared.order_kind.OrderKind.{OrderKind}
use Rattle.centre_events.specs.Past.{Past}
use Rattle.centre_events.specs.Pending.{all_actions, pending}

-- what the pending orders touch is what the actions touch
pub any_pending : (g : OrderKind → ℕ → Bool) (c : Cell) (m : ℕ) (past : Past) (b : ℕ) → list_any (tests g c m) (pending past b) ≡ list_any (touches g c m) (all_actions past b)
any_pending g c m past b = any_ordered g c m (all_actions past b)

-- what is so of the kind, the message identifier and the serial number of each action is so of each pending order's
pub all_pending : (p : OrderKind → ℕ → ℕ → Bool) (past : Past) (b : ℕ) → list_all (λ (a : Action). p a.kind a.message_id a.serial) (all_actions past b) ≡ true → list_all (λ (o : Order). p o.kind o.message_id o.serial) (pending past b) ≡ true
all_pending p past b h = all_ordered p (all_actions past b) h
