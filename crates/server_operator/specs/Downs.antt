-- What stays on air at a BSC whose link is down, by the orders that are pending for it.
use Rattle.std.specs.Prelude.{ℕ, Bool, false, ◌&&◌, List, Option, Some, None, nat_eq}
use Rattle.std.specs.List.{list_any}
use Rattle.centre_past.specs.declared.lists.warning_row.WarningRow.{WarningRow}
use Rattle.order_maker.specs.declared.order.Order.{Order}
use Rattle.order_maker.specs.declared.order_kind.OrderKind.{OrderKind}
use Rattle.order_maker.specs.declared.order_kind.OrderKind.TheVariants.{Write, Replace, Kill}
use Rattle.serials.specs.Serials.{code_of, scope_part}

-- the serial number of the message that an order takes off the air: of a WRITE-REPLACE its Old Serial Number, if it has one, of a KILL
-- the one that it names
abbrev pub ended_in : OrderKind → ℕ → Option ℕ
ended_in Write serial = None
ended_in (Replace old) serial = Some old
ended_in Kill serial = Some serial

-- two serial numbers have one geographical scope and one message code, and differ at most in their update number: they are of versions
-- of one warning, where their messages have one identifier
abbrev pub are_versions : ℕ → ℕ → Bool
are_versions s t = nat_eq (scope_part s) (scope_part t) && nat_eq (code_of s) (code_of t)

-- both are there, and are so
abbrev pub are_both_versions : Option ℕ → Option ℕ → Bool
are_both_versions None t = false
are_both_versions (Some s) None = false
are_both_versions (Some s) (Some t) = are_versions s t

-- the order is to take a version of the warning off the air
abbrev pub is_taken_off : WarningRow → Order → Bool
is_taken_off w o = nat_eq o.message_id w.message_id && are_both_versions (ended_in o.kind o.serial) w.serial

-- one of the orders is
abbrev pub takes_off : WarningRow → List Order → Bool
takes_off w orders = list_any (is_taken_off w) orders
