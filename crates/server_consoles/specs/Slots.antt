-- Slots for connections, each with the connection that holds it, or none.
use Rattle.std.specs.Prelude.{ℕ, Bool, List, Option, None, is_none, position, slice_index_or}
use Rattle.std.specs.List.{list_all}

-- the first slot that no connection holds
abbrev pub first_free : {T : Type 0} → List (Option T) → Option ℕ
first_free slots = position is_none slots

-- the connection that holds the slot; none where there is no such slot
abbrev pub holder_of : {T : Type 0} → List (Option T) → ℕ → Option T
holder_of slots slot = slice_index_or slots slot None

-- no connection holds a slot
abbrev pub is_all_free : {T : Type 0} → List (Option T) → Bool
is_all_free slots = list_all is_none slots
