-- Octets that are exactly one frame.
use Rattle.std.specs.Prelude.{◌≡◌, ℕ, ◌≤◌, List, length}
use Rattle.cbsp_ie.specs.Frame.{longest_body}
use Rattle.framing.specs.Streams.{frame_octets}
use Rattle.framing.specs.declared.frame.Frame.{Frame}

-- the octets are the frame, and its body is no longer than is read
pub record IsFrame (octets : List ℕ) (frame : Frame) : Type 0 where
  pub whole : octets ≡ frame_octets frame
  pub readable : length frame.body ≤ longest_body

-- the octets are no such frame
abbrev pub IsNoFrame : List ℕ → Type 0
IsNoFrame octets = (frame : Frame) → IsFrame octets frame → ⊥
