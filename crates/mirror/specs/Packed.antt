-- How what is kept of a version stands in one number.
use Rattle.std.specs.Prelude.{◌≡◌, ℕ, ◌+◌, ◌*◌, ◌/◌, ◌%◌, ◌^◌, Option, Some, None, nat_eq, ltb, if◌then◌else◌}
use Rattle.cbsp_ie.specs.declared.cause.Cause.{Cause}
use Rattle.mirror.specs.declared.key_state.KeyState.{KeyState}
use Rattle.mirror.specs.declared.presence.Presence.{Presence}
use Rattle.mirror.specs.declared.presence.Presence.TheVariants.{Absent, OnAir, Unknown}

-- the presence with that number
abbrev pub presence_in : ℕ → Presence
presence_in n = if nat_eq n 0 then Absent else (if nat_eq n 1 then OnAir else Unknown)

-- the hold that stands in the number
abbrev pub hold_in : ℕ → Option Cause
hold_in n = if ltb n (2 ^ 26) then None else Some (record { 0 = n % 2 ^ 24 / 2 ^ 16 })

-- what stands in the number: whether there is a hold highest, then the presence, the cause of the hold, and the count
abbrev pub state_in : ℕ → KeyState
state_in n = record { presence = presence_in (n % 2 ^ 26 / 2 ^ 24); hold = hold_in n; count = n % 2 ^ 16 }

-- the number of a presence
abbrev pub presence_number : Presence → ℕ
presence_number Absent = 0
presence_number OnAir = 1
presence_number Unknown = 2

-- what a hold adds to the number
abbrev pub hold_number : Option Cause → ℕ
hold_number None = 0
hold_number (Some cause) = 2 ^ 26 + cause.0 * 2 ^ 16

-- the number in which it stands
abbrev pub number_of : KeyState → ℕ
number_of k = hold_number k.hold + (presence_number k.presence * 2 ^ 24 + k.count)

-- the number is the one in which its state stands
abbrev pub IsOwn : ℕ → Type 0
IsOwn n = number_of (state_in n) ≡ n
