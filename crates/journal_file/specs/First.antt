-- The first line of a journal's file.
use Rattle.std.specs.Prelude.{◌≡◌, ◌≢◌, ℕ, ◌<◌, ◌≤◌, ◌==◌, List, [], ◌∷◌, ◌++◌, length, codes, decimal, replicate, if◌then◌else◌}
use Rattle.hex.specs.Hex.{encode_lower, IsBytes}
use Rattle.journal_file.specs.Lines.{longest_line}
use Rattle.journal_file.specs.declared.heading.Heading.{Heading}

-- three octets, as a network code
abbrev pub IsNetwork : List ℕ → Type 0
IsNetwork plmn = (length plmn ≡ 3) × IsBytes plmn

-- a network code, and a number of 16 bits
abbrev pub IsHeading : Heading → Type 0
IsHeading heading = IsNetwork heading.plmn × (heading.broadcasts < 65536)

-- what stands behind the network: the number of broadcasts requested, and nothing where it is 0
abbrev pub broadcasts_text : ℕ → List ℕ
broadcasts_text n = if n == 0 then [] else codes ", broadcasts " ++ decimal n

-- the first line of the journal of a heading
abbrev pub header_line : Heading → List ℕ
header_line heading = (codes "# cbc journal, network " ++ encode_lower heading.plmn) ++ broadcasts_text heading.broadcasts

-- the line is the first of some journal
abbrev pub IsHeader : List ℕ → Type 0
IsHeader line = (heading : Heading) × IsHeading heading × (line ≡ header_line heading)

-- the line is the first of the journal of another network, whatever number of broadcasts it names
abbrev pub IsOfOtherNetwork : Heading → List ℕ → Type 0
IsOfOtherNetwork heading line = (found : Heading) × IsHeading found × (line ≡ header_line found) × (found.plmn ≢ heading.plmn)

-- the heading with that number of broadcasts
abbrev pub with_broadcasts : ℕ → Heading → Heading
with_broadcasts n heading = record { plmn = heading.plmn; broadcasts = n }

-- the line is the first of a journal of the same network with that number of broadcasts, which is another
abbrev pub IsOfOtherBroadcasts : Heading → List ℕ → ℕ → Type 0
IsOfOtherBroadcasts heading line n = IsHeading (with_broadcasts n heading) × (line ≡ header_line (with_broadcasts n heading)) × (n ≢ heading.broadcasts)

-- the first line of this journal was begun to be written, and octets 00 may stand behind what was; it may be nothing
pub record IsTornHeader (heading : Heading) (octets : List ℕ) : Type 0 where
  pub shown : List ℕ
  pub zeros : ℕ
  pub more : List ℕ
  pub octets_are : octets ≡ shown ++ replicate zeros 0
  pub header_is : header_line heading ≡ shown ++ more
