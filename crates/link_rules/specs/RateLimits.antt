-- How fast reports and connections are let in.
use Rattle.std.specs.Prelude.{ℕ, Bool, false, if◌then◌else◌}
use Rattle.link_rules.specs.Buckets.{filled_at, full, has_at, is_full_at, one_less}
use Rattle.link_rules.specs.declared.pace.Pace.TheVariants as pace
use Rattle.link_rules.specs.declared.rate_limit.RateLimit.{RateLimit}

-- 140,000 reports at once, and 20 a second
abbrev pub reports : RateLimit
reports = record { bucket = full 140000 pace.TwentyASecond; was_told = false }

-- 100 connections at once, and one a second
abbrev pub connections : RateLimit
connections = record { bucket = full 100 pace.OneASecond; was_told = false }

-- one may come in at that time
abbrev pub has_one : ℕ → RateLimit → Bool
has_one now l = has_at now l.bucket

-- what is left then; where as many may come in as at the beginning, it is to be said anew that one is held back
abbrev pub limit_after : ℕ → RateLimit → RateLimit
limit_after now l = record {
  bucket = one_less (filled_at now l.bucket);
  was_told = if is_full_at now l.bucket then false else l.was_told;
}
