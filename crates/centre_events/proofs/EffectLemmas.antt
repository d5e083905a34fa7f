-- What is in flight does nothing at a key of another message or in another cell, and reports nothing of it.
use Rattle.std.proofs.Common.{◌≡◌, ℕ, false, ◌&&◌, nat_eq, List, Option, Some, None, refl, ap}
use Rattle.std.specs.Prelude.{if◌then◌else◌}
use Rattle.common.specs.declared.cell.Cell.{Cell}
use Rattle.mirror.specs.Seen.{is_the}
use Rattle.centre_events.specs.Counts.{replied_count, reported_in}
use Rattle.centre_events.specs.Effects.{flight_effect, is_among, key_effect, query_effect, said_effect}
use Rattle.centre_events.specs.InFlight.{cells_of, id_of, old_of}
use Rattle.centre_events.specs.declared.effect.Effect.TheVariants.{Leaves}
use Rattle.centre_events.specs.declared.in_flight.InFlight.{InFlight}
use Rattle.centre_events.specs.declared.in_flight.InFlight.TheVariants as flight
use Rattle.centre_events.specs.declared.outcome.Outcome.{Outcome}
use Rattle.centre_events.specs.declared.reply.Reply.{Reply}

pub elsewhere : (f : InFlight) (o : Outcome) (c : Cell) (m s : ℕ) → (nat_eq (id_of f) m && is_among c (cells_of f)) ≡ false → flight_effect (Some f) o c m s ≡ Leaves
elsewhere (flight.Order order) o c m s h = ap (λ t. if t then key_effect order o s else Leaves) h
elsewhere (flight.Query message_id serial cells) o c m s h = ap (λ t. if t && nat_eq serial s then query_effect o else Leaves) h

pub said_elsewhere : (said : Option Outcome) (f : InFlight) (c : Cell) (m s : ℕ) → (nat_eq (id_of f) m && is_among c (cells_of f)) ≡ false → said_effect said (Some f) c m s ≡ Leaves
said_elsewhere None f c m s h = refl
said_elsewhere (Some o) f c m s h = elsewhere f o c m s h

pub counted_elsewhere : (f : InFlight) (replies : List Reply) (c : Cell) (m s : ℕ) → (nat_eq (id_of f) m && is_among c (cells_of f)) ≡ false → replied_count (Some f) replies c m s ≡ None
counted_elsewhere f replies c m s h = ap (λ t. if t && is_the (old_of f) s then reported_in c replies else None) h
