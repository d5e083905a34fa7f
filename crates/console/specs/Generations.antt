-- The generation kept for each BSC: that of its last link in this run or the one that was set, whichever is later; 0 if
-- none. That the BSC is taken out, or registered anew, changes nothing in it.
use Rattle.std.specs.Prelude.{ℕ, ◌==◌, List, [], ◌∷◌, Option, Some, None, if◌then◌else◌}
use Rattle.console.specs.declared.kept.Kept.{Kept}

-- a generation kept for a BSC
abbrev pub kept : ℕ → ℕ → Kept
kept b generation = record { bsc = b; generation = generation }

-- the generation kept for the BSC
abbrev pub generation_of : List Kept → ℕ → ℕ
generation_of [] b = 0
generation_of (k ∷ ks) b = if k.bsc == b then k.generation else generation_of ks b

-- the generation kept for a BSC, if there is one; else 0
abbrev pub kept_for : List Kept → Option ℕ → ℕ
kept_for kept None = 0
kept_for kept (Some b) = generation_of kept b

-- another generation for the BSC, in place of the one that was kept
abbrev pub with_generation : ℕ → ℕ → List Kept → List Kept
with_generation b generation [] = kept b generation ∷ []
with_generation b generation (k ∷ ks) = if k.bsc == b then kept b generation ∷ ks else k ∷ with_generation b generation ks
