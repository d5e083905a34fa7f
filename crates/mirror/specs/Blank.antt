-- Whether a line says no more than one of which nothing was ever reported.
use Rattle.std.specs.Prelude.{Bool, true, false, ◌&&◌, nat_eq}
use Rattle.std.specs.Option.{option_eq}
use Rattle.std.specs.Cmp.Lexicographic.{pointwise}
use Rattle.cbsp_ie.specs.declared.cause.Cause.{Cause}
use Rattle.mirror.specs.Line.{blank_line}
use Rattle.mirror.specs.declared.key_state.KeyState.{KeyState}
use Rattle.mirror.specs.declared.line.Line.{Line}
use Rattle.mirror.specs.declared.presence.Presence.{Presence}
use Rattle.mirror.specs.declared.presence.Presence.TheVariants.{Absent, OnAir, Unknown}

-- the two are one presence
abbrev pub presence_eq : Presence → Presence → Bool
presence_eq Absent Absent = true
presence_eq OnAir OnAir = true
presence_eq Unknown Unknown = true
presence_eq x y = false

-- the two are one cause
abbrev pub cause_eq : Cause → Cause → Bool
cause_eq a b = nat_eq a.0 b.0

-- the same is kept of two versions
abbrev pub state_eq : KeyState → KeyState → Bool
state_eq x y = presence_eq x.presence y.presence && (option_eq cause_eq x.hold y.hold && nat_eq x.count y.count)

-- the same is kept in two lines
abbrev pub line_eq : Line → Line → Bool
line_eq x y = pointwise state_eq x.states y.states

-- every key is as it begins
abbrev pub is_blank : Line → Bool
is_blank line = line_eq line blank_line
