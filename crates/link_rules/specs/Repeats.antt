-- Which order is out again.
use Rattle.std.specs.Prelude.{◌≡◌, ℕ, ◌+◌, ◌-◌, ◌^◌, ◌<◌, Bool, ◌&&◌, ◌⊎◌, List, [], ◌∷◌, length, bytes_eq, min, nat_eq, nat_le, nat_lt, if◌then◌else◌}
use Rattle.std.specs.List.{prefix_len}
use Rattle.std.specs.Vec.{vec_capacity}
use Rattle.link_rules.specs.declared.repeat.Repeat.{Repeat}
use Rattle.link_rules.specs.declared.repeat.Repeat.TheVariants.{Go, Tell, Wait}
use Rattle.link_rules.specs.declared.repeats.Repeats.{Repeats}

-- a frame that went out, and when, in milliseconds
pub record Sent : Type 0 where
  pub frame : List ℕ
  pub time : ℕ

-- how many times running the frame stands at the end of what went out since a table last changed, the newest first
abbrev pub running : List ℕ → List Sent → ℕ
running frame past = prefix_len (λ s. bytes_eq s.frame frame) past

-- a second after the last one went out; the greatest number of 64 bits stays
abbrev pub pause_end : List Sent → ℕ
pause_end [] = 0
pause_end (s ∷ past) = min (s.time + 1000) (2 ^ 64 - 1)

-- the tenth time running, and each later one, waits until then
abbrev pub has_to_wait : ℕ → List ℕ → List Sent → Bool
has_to_wait now frame past = nat_le 9 (running frame past) && nat_lt now (pause_end past)

-- whether the frame may go out; the third time running is told
abbrev pub answer_to : ℕ → List ℕ → List Sent → Repeat
answer_to now frame past = if has_to_wait now frame past then Wait (pause_end past) else (if nat_eq (running frame past) 2 then Tell else Go)

-- what went out then
abbrev pub sent_after : ℕ → List ℕ → List Sent → List Sent
sent_after now frame past = if has_to_wait now frame past then past else record { frame = frame; time = now } ∷ past

-- how many times running the frame went out, as it is kept: ten stands for more
abbrev pub times_in : Repeats → List ℕ → ℕ
times_in r frame = if bytes_eq r.frame.items frame then r.times else 0

-- what is kept is what went out
pub record IsKept (past : List Sent) (r : Repeats) : Type 0 where
  pub times : (frame : List ℕ) → times_in r frame ≡ min (running frame past) 10
  pub pause : 0 < r.times → min (r.sent + 1000) (2 ^ 64 - 1) ≡ pause_end past

-- nothing went out: for a copy of another frame than the last one memory was needed, and there was none
pub record IsForgotten (frame : List ℕ) (past : List Sent) (old new : Repeats) : Type 0 where
  pub other : running frame past ≡ 0
  pub full : vec_capacity old.frame < length frame
  pub nothing : IsKept [] new

-- what goes out is kept or forgotten
abbrev pub IsSent : ℕ → List ℕ → List Sent → Repeats → Repeats → Type 0
IsSent now frame past old new = IsKept (sent_after now frame past) new ⊎ IsForgotten frame past old new
