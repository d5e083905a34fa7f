-- What is kept of a centre without entries.
use Rattle.std.proofs.Common.{◌≡◌, false, [], refl}
use Rattle.coverage_plan.specs.Plan.{empty}
use Rattle.kept_tables.specs.ConsistentLaws.{empty_consistent}
use Rattle.kept_tables.specs.Tables.{IsEmpty}
use Rattle.centre_events.specs.Base.{empty_base}
use Rattle.centre_past.specs.Facts.{facts}
use Rattle.centre_past.specs.IsKept.{IsKept}
use Rattle.centre_events.specs.Past.{From}
use Rattle.centre_past.specs.declared.kept.Kept.{Kept}

pub empty_kept : (s : Kept) → s.plan ≡ empty → s.links ≡ [] → IsEmpty s.tables → IsKept (From empty_base) s
empty_kept s plan linked tables = record {
  registered = rw plan (record { unfolded = refl; bscs = λ b. refl; places = λ c. refl });
  selected = rw plan (record { unfolded = refl; names = λ a. refl; selectors = λ a x. refl });
  booked = rw plan refl;
  linked = rw linked (record { ups = λ b. refl; generations = λ b. refl; flights = λ b. refl });
  downs = λ k b c. tables.downs k b c;
  tables = empty_consistent s.tables (facts (From empty_base)) (λ k. false) (λ k. false) (λ k. refl) tables;
}
