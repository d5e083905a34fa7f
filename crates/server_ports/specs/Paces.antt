-- How fast the links of a port go on.
use Rattle.std.specs.Prelude.{Bool, true, false}
use Rattle.link_rules.specs.declared.repeat.Repeat.{Repeat}
use Rattle.link_rules.specs.declared.repeat.Repeat.TheVariants as repeat

-- the order has to wait
abbrev pub is_waiting : Repeat → Bool
is_waiting (repeat.Wait until) = true
is_waiting other = false
