-- A BSC that says nothing: when it is sent a KEEP ALIVE (3GPP TS 48.049, 8.1.3), and when its link is cut.
use Rattle.std.specs.Prelude.{ℕ, ◌-◌, ◌*◌, ◌/◌, Bool, true, false, ◌&&◌, not, nat_eq, nat_le, Some, None, if◌then◌else◌}
use Rattle.link_rules.specs.declared.alive_pace.AlivePace.{AlivePace}
use Rattle.link_rules.specs.declared.alive_step.AliveStep.{AliveStep}
use Rattle.link_rules.specs.declared.alive_step.AliveStep.TheVariants.{Wait, Ask, Tell, Cut}

-- after how many seconds without a word after a KEEP ALIVE a BSC counts as dead: as for replies, and 30 where that is never
abbrev pub patience_of : ℕ → ℕ
patience_of reply = if nat_eq reply 0 then 30 else reply

-- nobody was asked
abbrev pub unasked : ℕ → ℕ → AlivePace
unasked period reply = record { period_seconds = period; reply_seconds = patience_of reply; heard = 0; asked = None; knows = false; told = false }

-- a link came up at that time
abbrev pub begun : ℕ → AlivePace → AlivePace
begun now p = record p { heard = now; asked = None; knows = false; told = false }

-- something was read at that time
abbrev pub with_word : ℕ → AlivePace → AlivePace
with_word now p = record p { heard = now; asked = None }

-- the answer to a KEEP ALIVE was read
abbrev pub with_answer : AlivePace → AlivePace
with_answer p = record p { knows = true }

-- a KEEP ALIVE went out at that time
abbrev pub with_ask : ℕ → AlivePace → AlivePace
with_ask now p = record p { asked = Some now }

-- a KEEP ALIVE is due: nothing was read for so many seconds, and nothing else is out
abbrev pub is_due : ℕ → Bool → AlivePace → Bool
is_due now out p = not (nat_eq p.period_seconds 0) && (not out && nat_le (p.period_seconds * 1000) (now - p.heard))

-- nothing was read for too long after the KEEP ALIVE that went out then
abbrev pub is_late : ℕ → ℕ → AlivePace → Bool
is_late now asked p = nat_le (p.reply_seconds * 1000) (now - asked)

-- what is to be done then: the link is cut where the BSC answered a KEEP ALIVE on it before; else it is told once
abbrev pub late_step : ℕ → ℕ → AlivePace → AliveStep
late_step now asked p = if p.knows then Cut ((now - asked) / 1000) else (if p.told then Wait else Tell ((now - asked) / 1000))

-- what is to be done of a BSC that was asked then, and said nothing since
abbrev pub asked_step : ℕ → ℕ → AlivePace → AliveStep
asked_step now asked p = if is_late now asked p then late_step now asked p else Wait

-- what is to be done at that time, where something else is out or nothing is
abbrev pub step_at : ℕ → Bool → AlivePace → AliveStep
step_at now out p = elim p.asked [ None ↦ if is_due now out p then Ask else Wait | Some asked ↦ asked_step now asked p ]

-- and what was told then
abbrev pub looked : ℕ → AlivePace → AlivePace
looked now p = elim p.asked [ None ↦ p | Some asked ↦ if is_late now asked p then record p { told = true } else p ]
