-- A number of broadcasts is reported of keys alone that what is in flight names.
use Rattle.std.proofs.Common.{◌≡◌, ℕ, Bool, true, false, ◌&&◌, ◌||◌, nat_eq, List, Option, Some, None, refl}
use Rattle.std.specs.Prelude.{if◌then◌else◌}
use Rattle.std.specs.Option.{is_some}
use Rattle.std.proofs.lemmas.Bool.{and_parts, and_from, or_left, or_right}
use Rattle.common.specs.declared.cell.Cell.{Cell}
use Rattle.mirror.specs.Seen.{is_the}
use Rattle.order_maker.specs.declared.order_kind.OrderKind.{OrderKind}
use Rattle.order_maker.specs.declared.order_kind.OrderKind.TheVariants.{Write, Replace, Kill}
use Rattle.centre_events.specs.Counts.{reported_in, is_counted_key, replied_count}
use Rattle.centre_events.specs.Effects.{is_among, replaces}
use Rattle.centre_events.specs.InFlight.{cleared_by, id_of, old_of, cells_of}
use Rattle.centre_events.specs.Reported.{names_serial}
use Rattle.centre_events.specs.declared.in_flight.InFlight.{InFlight}
use Rattle.centre_events.specs.declared.in_flight.InFlight.TheVariants as flight
use Rattle.centre_events.specs.declared.reply.Reply.{Reply}

-- what is in flight names the cell and the key
abbrev pub names_it : Option InFlight → Cell → ℕ → ℕ → Bool
names_it None c m s = false
names_it (Some f) c m s = (nat_eq (id_of f) m && is_among c (cells_of f)) && names_serial f s

-- a number is reported of a key that what is in flight names alone
old_named : (f : InFlight) (c : Cell) (m s : ℕ) → is_counted_key f c m s ≡ true → names_it (Some f) c m s ≡ true
old_named f c m s h =
    let parts = and_parts (nat_eq (id_of f) m && is_among c (cells_of f)) (is_the (old_of f) s) h in
    and_from (nat_eq (id_of f) m && is_among c (cells_of f)) (names_serial f s) parts.0 (named f parts.1)
  where
    order_named : (kind : OrderKind) (t : ℕ) → is_the (cleared_by kind t) s ≡ true → (nat_eq t s || replaces kind s) ≡ true
    order_named Write t g = cc
    order_named (Replace old) t g = or_right (nat_eq t s) (nat_eq old s) g
    order_named Kill t g = or_left (nat_eq t s) false g

    named : (x : InFlight) → is_the (old_of x) s ≡ true → names_serial x s ≡ true
    named (flight.Order order) g = order_named order.kind order.serial g
    named (flight.Query i t cs) g = g

pub replied_named : (f : Option InFlight) (replies : List Reply) (c : Cell) (m s : ℕ) → is_some (replied_count f replies c m s) ≡ true → names_it f c m s ≡ true
replied_named None replies c m s h = cc
replied_named (Some f) replies c m s h = step (is_counted_key f c m s) refl h
  where
    step : (t : Bool) → is_counted_key f c m s ≡ t → is_some (if t then reported_in c replies else None) ≡ true → names_it (Some f) c m s ≡ true
    step true e k = old_named f c m s e
    step false e k = cc
