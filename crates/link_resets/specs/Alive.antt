-- KEEP ALIVE, and what is seen of it and of its answer (3GPP TS 48.049, 8.1.3).
use Rattle.std.specs.Prelude.{◌≡◌, ℕ, ◌+◌, ◌-◌, ◌/◌, List, [], ◌∷◌, ◌++◌, nat_eq, nat_le, if◌then◌else◌}
use Rattle.std.specs.List.{list_any}
use Rattle.framing.specs.Streams.{Cuts}
use Rattle.framing.specs.declared.frame.Frame.{Frame}
use Rattle.link_resets.specs.declared.alive_seen.AliveSeen.{AliveSeen}

-- the code of a Keep Alive Repetition Period, which is coded as a Warning Period is (8.2.25): 1 to 10 s in steps of a second, up to 30 s
-- in steps of two, up to 120 s in steps of five. A time between two steps has the code of the longer one, and a longer time that of 120 s
abbrev pub period_code : ℕ → ℕ
period_code s =
    if nat_le s 10 then s
    else (if nat_le s 30 then 10 + (s - 9) / 2
    else (if nat_le s 120 then 20 + (s - 26) / 5 else 38))

-- the frame of a KEEP ALIVE: type 16, and element 18, the period
abbrev pub alive_frame : ℕ → List ℕ
alive_frame s = 22 ∷ 0 ∷ 0 ∷ 2 ∷ 24 ∷ period_code s ∷ []

-- whether a frame of type 16, or one of type 17, stands among the frames
abbrev pub seen_in : List Frame → AliveSeen
seen_in frames = record { asks = list_any (λ (f : Frame). nat_eq f.kind 22) frames; answers = list_any (λ (f : Frame). nat_eq f.kind 23) frames }

-- the octets came behind those of a frame that had begun: they make frames, of which this is seen, and begin another
pub record SeesAlive (begun octets : List ℕ) (seen : AliveSeen) (rest : List ℕ) : Type 0 where
  pub frames : List Frame
  pub cuts : Cuts (begun ++ octets) frames rest
  pub is : seen ≡ seen_in frames
