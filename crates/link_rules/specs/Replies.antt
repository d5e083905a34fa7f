-- When a reply is overdue.
use Rattle.std.specs.Prelude.{ℕ, ◌+◌, ◌-◌, ◌*◌, ◌/◌, ◌^◌, Bool, true, false, ◌&&◌, ◌||◌, Option, min, nat_eq, nat_le, nat_lt, not, Some, None, if◌then◌else◌}
use Rattle.link_rules.specs.Alives.{patience_of}
use Rattle.link_rules.specs.declared.overdue.Overdue.{Overdue}
use Rattle.link_rules.specs.declared.overdue.Overdue.TheVariants.{No, Tell, Cut}
use Rattle.link_rules.specs.declared.reply_pace.ReplyPace.{ReplyPace}

-- nothing is out, and nothing was
abbrev pub never_sent : ℕ → ℕ → ReplyPace
never_sent reply cut = record { reply_seconds = reply; cut_seconds = cut; orders = 0; replies = 0; sent = 0; told = 0; is_own = false }

-- one more, up to the greatest number that is counted
abbrev pub one_more : ℕ → ℕ
one_more n = min (n + 1) (2 ^ 64 - 1)

-- an order or a query goes out at that time
abbrev pub with_order : ℕ → ReplyPace → ReplyPace
with_order now p = record p { orders = one_more p.orders; sent = now; told = 0; is_own = false }

-- the last that went out is a query that no operator wished for
abbrev pub with_own : ReplyPace → ReplyPace
with_own p = record p { is_own = true }

-- one more is answered
abbrev pub with_reply : ReplyPace → ReplyPace
with_reply p = record p { replies = one_more p.replies }

-- the link has ended
abbrev pub with_end : ReplyPace → ReplyPace
with_end p = record p { orders = 0; replies = 0 }

-- since when something is out: the last that went out, where fewer were answered than went out
abbrev pub out_since : ReplyPace → Option ℕ
out_since p = if nat_lt p.replies p.orders then Some p.sent else None

-- how often it was due to be said after so many milliseconds: after so many seconds, and every 600 seconds after that
abbrev pub times_due : ℕ → ℕ → ℕ
times_due reply passed = if nat_eq reply 0 then 0 else (if nat_lt passed (reply * 1000) then 0 else (passed - reply * 1000) / 600000 + 1)

-- so many seconds are over, where that is ever
abbrev pub is_over : ℕ → ℕ → Bool
is_over cut passed = not (nat_eq cut 0) && nat_le (cut * 1000) passed

-- the last that went out is an own query, and so many milliseconds are too long for its reply
abbrev pub is_late : ReplyPace → ℕ → Bool
is_late p passed = p.is_own && nat_le (patience_of p.reply_seconds * 1000) passed

-- the link is to be cut after so many milliseconds
abbrev pub is_cut_after : ReplyPace → ℕ → Bool
is_cut_after p passed = is_over p.cut_seconds passed || is_late p passed

-- it is due to be said once more than when that was last looked at
abbrev pub is_told : ReplyPace → ℕ → Bool
is_told p passed = nat_lt p.told (times_due p.reply_seconds passed)

-- what is to be done after so many milliseconds
abbrev pub overdue_after : ReplyPace → ℕ → Overdue
overdue_after p passed = if is_cut_after p passed then Cut (passed / 1000) else (if is_told p passed then Tell (passed / 1000) else No)

-- what is to be done at that time
abbrev pub overdue_at : ℕ → ReplyPace → Overdue
overdue_at now p = elim (out_since p) [ None ↦ No | Some sent ↦ overdue_after p (now - sent) ]

-- and what was told then
abbrev pub told_after : ReplyPace → ℕ → ℕ
told_after p passed = if is_cut_after p passed then p.told else (if is_told p passed then times_due p.reply_seconds passed else p.told)

abbrev pub looked : ℕ → ReplyPace → ReplyPace
looked now p = record p { told = elim (out_since p) [ None ↦ p.told | Some sent ↦ told_after p (now - sent) ] }
