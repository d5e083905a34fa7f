-- What is told of the link of a BSC.
use Rattle.std.specs.Prelude.{ℕ, Bool}
use Rattle.std.specs.Option.{is_some}
use Rattle.order_maker.specs.Grouping.{first}
use Rattle.centre_past.specs.declared.link_state.LinkState.{LinkState}
use Rattle.centre_events.specs.Links.{is_up, last_link}
use Rattle.centre_events.specs.Past.{Past}
use Rattle.centre_events.specs.Pending.{pending}

-- an order is pending for the BSC
abbrev pub has_pending : Past → ℕ → Bool
has_pending past b = is_some (first (pending past b))

-- the generation of its latest link, whether that is up, and whether an order is pending
abbrev pub link_state : Past → ℕ → LinkState
link_state past b = record { last = last_link past b; is_up = is_up past b; has_pending = is_some (first (pending past b)) }
