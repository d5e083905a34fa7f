-- The parts of a message that are lent from it.
use Rattle.std.specs.Prelude.{◌<◌, IfSome, List, length, [], Option, Some, None, option_map}
use Rattle.std.specs.Borrow.{Bor}
use Rattle.cbsp_ie.specs.Page.{PageContent}
use Rattle.cbsp_ie.specs.Written.{cells_octets, counts_octets, failures_octets}
use Rattle.cbsp_messages.specs.declared.message_parts.MessageParts.{MessageParts}
use Rattle.cbsp_messages.specs.Parts.{Parts, no_parts}

-- the pages, as values
abbrev pub pages_lent : Option (Bor (List PageContent)) → List PageContent
pages_lent None = []
pages_lent (Some pages) = pages.now

-- the parts, as values
abbrev pub parts_lent : MessageParts → Parts
parts_lent p = record no_parts { message_id = p.message_id; new_serial = p.new_serial; old_serial = p.old_serial; failures = option_map (λ lent. lent.now) p.failures; counts = option_map (λ lent. lent.now) p.counts; cells = option_map (λ lent. lent.now) p.cells; channel = p.channel; category = p.category; period = p.period; requested = p.requested; page_count = p.page_count; dcs = p.dcs; pages = pages_lent p.pages; kind = p.kind; recovery = p.recovery; cause = p.cause; emergency = p.emergency; warning_type = p.warning_type; security = option_map (λ lent. lent.now) p.security; warning_period = p.warning_period }

-- the lists and the number of pages have room in their elements
pub record PartsFit (parts : Parts) : Type 0 where
  pub cells : IfSome parts.cells (λ cells. length (cells_octets cells) < 65536)
  pub counts : IfSome parts.counts (λ counts. length (counts_octets counts) < 65536)
  pub failures : IfSome parts.failures (λ failures. length (failures_octets failures) < 65536)
  pub page_count : IfSome parts.page_count (λ count. count < 256)
