use Rattle.std.proofs.Common.{◌≡◌, ◌++◌, drop, string_bytes}
use Rattle.std.specs.List.{flat_map}
use Rattle.console_text.specs.Texts.{group_text}
use Rattle.console_text.proofs.list_text.pending_text.Given as goal

-- the lines so far, and those of the orders ahead, are all of them
abbrev pub invariant-loop-order : goal.invariant-loop-order
invariant-loop-order l = string_bytes l.text ++ flat_map group_text (drop l.order-index l.orders) ≡ flat_map group_text l.orders
