-- How a key stands in two numbers. In the first is the BSC highest, then whether it is a KILL, the message identifier and
-- the serial number. The second is the rank of the replaced serial number: 0 where there is none, else one more than it.
use Rattle.std.specs.Prelude.{ℕ, ◌-◌, ◌/◌, ◌%◌, ◌^◌, ◌≤◌, Option, Some, None, nat_eq, if◌then◌else◌}
use Rattle.order_maker.specs.Pending.{OrderKey}

-- the replaced serial number of that rank
abbrev pub old_in : ℕ → Option ℕ
old_in n = if nat_eq n 0 then None else Some (n - 1)

-- the key that stands in the numbers
abbrev pub key_in : ℕ → ℕ → OrderKey
key_in n old = record {
  bsc = n / 2 ^ 33;
  is_kill = nat_eq (n % 2 ^ 33 / 2 ^ 32) 1;
  message_id = n % 2 ^ 32 / 2 ^ 16;
  serial = n % 2 ^ 16;
  old = old_in old;
}

-- it is the rank of a serial number, which has 16 bits, or of none
abbrev pub IsRank : ℕ → Type 0
IsRank n = n ≤ 2 ^ 16
