-- How fast a bucket is refilled.
use Rattle.std.specs.Prelude.{ℕ}
use Rattle.link_rules.specs.declared.pace.Pace.{Pace}
use Rattle.link_rules.specs.declared.pace.Pace.TheVariants as pace

-- after how many milliseconds there are more
abbrev pub time_of : Pace → ℕ
time_of pace.TwentyASecond = 50
time_of pace.OneASecond = 1000
time_of pace.TwentyThousandASecond = 1

-- how many more there are then
abbrev pub count_of : Pace → ℕ
count_of pace.TwentyASecond = 1
count_of pace.OneASecond = 1
count_of pace.TwentyThousandASecond = 20
