-- What the answer to a write or a replace says of when its version came on air.
use Rattle.std.specs.Prelude.{ℕ, Bool, List, if◌then◌else◌}
use Rattle.std.specs.List.{list_any}
use Rattle.broadcast_watch.specs.Airings.{aired}
use Rattle.broadcast_watch.specs.declared.airing.Airing.{Airing}
use Rattle.centre_events.specs.Replies.{outcome_eq}
use Rattle.centre_events.specs.declared.outcome.Outcome.TheVariants.{Done}
use Rattle.centre_events.specs.declared.reply.Reply.{Reply}
use Rattle.link_rules.specs.declared.version.Version.{Version}

-- the order was carried out in the cell
abbrev pub is_done : Reply → Bool
is_done r = outcome_eq r.outcome Done

-- the order was carried out in one of its cells
abbrev pub is_done_somewhere : List Reply → Bool
is_done_somewhere replies = list_any is_done replies

-- the version came on air then where the order was carried out in some cell, and else nothing is new
abbrev pub airings_after : Version → ℕ → List Reply → List Airing → List Airing
airings_after v second replies all = if is_done_somewhere replies then aired v second all else all
