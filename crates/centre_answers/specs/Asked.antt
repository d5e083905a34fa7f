-- What a centre answers from what it keeps.
use Rattle.kept_tables.specs.Consistent.{Consistent}
use Rattle.kept_tables.specs.Tables.{Tables}
use Rattle.centre_past.specs.Facts.{facts}
use Rattle.centre_past.specs.Legal.{Legal}
use Rattle.centre_events.specs.Past.{Past}
use Rattle.centre_events.specs.declared.settings.Settings.{Settings}

-- the past is legal, and the tables are consistent with what it says of every line
pub record Tells (past : Past) (t : Tables) : Type 0 where
  pub settings : Settings
  pub legal : Legal settings past
  pub is : Consistent t (facts past)
