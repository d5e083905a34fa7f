-- A stream of CBSP messages (3GPP TS 48.049, clause 8): frames, one after another.
use Rattle.std.specs.Prelude.{◌≡◌, ◌≢◌, ℕ, ◌<◌, ◌≤◌, List, [], ◌∷◌, ◌++◌, length, drop}
use Rattle.std.specs.List.{AllByRecursion, flat_map}
use Rattle.byteorder.specs.Endian.{big_number}
use Rattle.cbsp_ie.specs.Frame.{framed, longest_body}
use Rattle.framing.specs.declared.frame.Frame.{Frame}

-- the octets of a frame
abbrev pub frame_octets : Frame → List ℕ
frame_octets f = framed f.kind f.body

-- its body is read
abbrev pub IsReadable : Frame → Type 0
IsReadable f = length f.body ≤ longest_body

-- the octets begin with no whole frame that is read
abbrev pub BeginsWithNoFrame : List ℕ → Type 0
BeginsWithNoFrame octets = (f : Frame) (tail : List ℕ) → IsReadable f → octets ≢ frame_octets f ++ tail

-- the stream is the frames, each of them read, and then a rest that begins with no such frame
pub record Cuts (stream : List ℕ) (frames : List Frame) (rest : List ℕ) : Type 0 where
  pub whole : stream ≡ flat_map frame_octets frames ++ rest
  pub each : AllByRecursion IsReadable frames
  pub partial : BeginsWithNoFrame rest

-- the length of the body that the octets announce, in the three after the first
abbrev pub announced : List ℕ → ℕ
announced octets = big_number 3 (drop 1 octets)

-- they announce a body that is not read
abbrev pub IsTooLong : List ℕ → Type 0
IsTooLong octets = (4 ≤ length octets) × (longest_body < announced octets)

-- a stream has one cutting
abbrev pub OneCut : Type 0
OneCut = (stream : List ℕ) (xs ys : List Frame) (r t : List ℕ) → Cuts stream xs r → Cuts stream ys t → (xs ≡ ys) × (r ≡ t)

-- the cutting of a stream, and of its rest with what follows, make the cutting of both joined
abbrev pub PiecesJoin : Type 0
PiecesJoin = (a b : List ℕ) (xs ys : List Frame) (r t : List ℕ) → Cuts a xs r → Cuts (r ++ b) ys t → Cuts (a ++ b) (xs ++ ys) t

-- frames, one after another, are cut into these frames
abbrev pub FramesAreCut : Type 0
FramesAreCut = (frames : List Frame) → AllByRecursion IsReadable frames → Cuts (flat_map frame_octets frames) frames []
