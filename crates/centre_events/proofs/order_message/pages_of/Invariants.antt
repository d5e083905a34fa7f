use Rattle.std.proofs.Common.{◌≡◌, map, take}
use Rattle.cbsp_messages.specs.PageText.{page_with}
use Rattle.centre_events.proofs.order_message.pages_of.Given as goal

-- the pages of the contents passed
abbrev pub invariant-loop-content : goal.invariant-loop-content
invariant-loop-content l = l.pages ≡ map page_with (take l.content-index l.contents)
