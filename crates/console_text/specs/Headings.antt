-- The warning, or the version of one, that an operator writes.
use Rattle.std.specs.Prelude.{ℕ, List}
use Rattle.warning_book.specs.declared.content.Content.{Content}
use Rattle.warning_book.specs.declared.content.Content.TheVariants as content
use Rattle.warning_book.specs.declared.notice.Notice.{Notice}
use Rattle.console_text.specs.declared.alert_heading.AlertHeading.{AlertHeading}
use Rattle.console_text.specs.declared.content_heading.ContentHeading.{ContentHeading}
use Rattle.console_text.specs.declared.emergency_heading.EmergencyHeading.{EmergencyHeading}
use Rattle.console_text.specs.declared.heading.Heading.{Heading}

-- what an operator writes of a version
abbrev pub content_of : ContentHeading → List (List ℕ) → Content
content_of h pages = content.Cbs (record { dcs = h.dcs; category = h.category; period = h.period; pages = pages })

-- what an operator writes of a warning that is issued
abbrev pub notice_of : Heading → List (List ℕ) → Notice
notice_of h pages = record { message_id = h.message_id; scope = h.scope; content = content_of h.content pages }

-- what an operator writes of a version of an emergency warning
abbrev pub emergency_content_of : EmergencyHeading → List ℕ → Content
emergency_content_of h security = content.Emergency (record { indicator = h.indicator; warning_type = h.warning_type; warning_period = h.warning_period; security = security })

-- what an operator writes of an emergency warning that is issued
abbrev pub alert_of : AlertHeading → List ℕ → Notice
alert_of h security = record { message_id = h.message_id; scope = h.scope; content = emergency_content_of h.content security }
