-- What a desk lets go of.
use Rattle.std.specs.Prelude.{◌≡◌, ◌⊎◌, ℕ}
use Rattle.office.specs.Desks.{DeskState, IsReleased}

-- the desk let go of its receipts up to that place and of no other, or it is as it was, where there was no memory for that
abbrev pub LetsGo : ℕ → DeskState → DeskState → Type 0
LetsGo place old new = IsReleased place old new ⊎ (new ≡ old)
