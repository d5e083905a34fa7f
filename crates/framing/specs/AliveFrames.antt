-- How either end of a link answers a KEEP ALIVE (3GPP TS 48.049, 8.1.3).
use Rattle.std.specs.Prelude.{ℕ, List, [], ◌∷◌}

-- the frame of a KEEP ALIVE COMPLETE: type 17, and no element
abbrev pub alive_complete : List ℕ
alive_complete = 23 ∷ 0 ∷ 0 ∷ 0 ∷ []
