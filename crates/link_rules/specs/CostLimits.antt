-- How much the reports of a link may cost.
use Rattle.std.specs.Prelude.{ℕ, Bool, false, ◌&&◌, if◌then◌else◌}
use Rattle.link_rules.specs.Buckets.{filled_at, full, holds, is_full_at, without}
use Rattle.link_rules.specs.declared.bucket.Bucket.{Bucket}
use Rattle.link_rules.specs.declared.cost.Cost.{Cost}
use Rattle.link_rules.specs.declared.cost_limit.CostLimit.{CostLimit}
use Rattle.link_rules.specs.declared.pace.Pace.TheVariants as pace

-- 64,000,000 octets and 72,000,000 lines at once, and 20,000 of each a second
abbrev pub costs : CostLimit
costs = record { octets = full 64000000 pace.TwentyThousandASecond; lines = full 72000000 pace.TwentyThousandASecond; was_told = false }

-- both buckets have so much at that time
abbrev pub allows : ℕ → Cost → CostLimit → Bool
allows now cost l = holds cost.octets (filled_at now l.octets) && holds cost.lines (filled_at now l.lines)

-- what is left of a bucket then: where it isn't allowed, nothing is taken
abbrev pub left_of : Bool → ℕ → ℕ → Bucket → Bucket
left_of is_allowed now count b = if is_allowed then without count (filled_at now b) else filled_at now b

-- what is left then; where both are as at the beginning, it is to be said anew that one is held back
abbrev pub charged : ℕ → Cost → CostLimit → CostLimit
charged now cost l = record {
  octets = left_of (allows now cost l) now cost.octets l.octets;
  lines = left_of (allows now cost l) now cost.lines l.lines;
  was_told = if is_full_at now l.octets && is_full_at now l.lines then false else l.was_told;
}
