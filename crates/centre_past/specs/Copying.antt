-- A copy of what a centre keeps beside its journal.
use Rattle.std.specs.Prelude.{◌≡◌}
use Rattle.centre_past.specs.declared.kept.Kept.{Kept}

-- The copy is the same in memory of its own, with the same meter.
pub record IsCopy (kept copy : Kept) : Type 0 where
  pub plan : copy.plan ≡ kept.plan
  pub links : copy.links ≡ kept.links
  pub tables : copy.tables ≡ kept.tables
