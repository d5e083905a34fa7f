-- A page of a message (3GPP TS 48.049, 8.2.3).
use Rattle.std.specs.Prelude.{◌≡◌, ℕ, ◌≤◌, List, ◌∷◌, length}

-- how many octets are used, and all 82 of them
pub record PageContent : Type 0 where
  pub used : ℕ
  pub octets : List ℕ

-- the octets are read as the page
abbrev pub IsPage : List ℕ → PageContent → Type 0
IsPage octets page = (page.used ≤ 82) × (length page.octets ≡ 82) × (octets ≡ page.used ∷ page.octets)
