-- When another picture is taken.
use Rattle.std.specs.Prelude.{ℕ, ◌-◌, Bool, true, Option, Some, None, nat_le, if◌then◌else◌}

-- half a second has passed since one was taken or tried to be, by a clock of milliseconds
abbrev pub is_due : Option ℕ → ℕ → Bool
is_due None now = true
is_due (Some tried) now = nat_le 500 (now - tried)

-- when one was taken or tried to be last, once that moment has come
abbrev pub tried_at : Option ℕ → ℕ → Option ℕ
tried_at tried now = if is_due tried now then Some now else tried
