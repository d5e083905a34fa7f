-- Slots that are found free, and slots that aren't there.
use Rattle.std.proofs.Common.{◌≡◌, ℕ, ◌<◌, ◌≤◌, List, Option, Some, None, length, set, is_none}
use Rattle.std.proofs.lemmas.List.{set_past}
use Rattle.std.proofs.lemmas.List.Quantifiers.{position-Some}
use Rattle.server_consoles.specs.Slots.{first_free}

-- a slot that is found free is one of the slots
pub free_is_there : {T : Type 0} (slots : List (Option T)) (slot : ℕ) → first_free slots ≡ Some slot → slot < length slots
free_is_there slots slot found = (position-Some is_none slots slot None found).0

-- a slot that isn't there can't be given back
pub not_given_back : {T : Type 0} (slots : List (Option T)) (slot : ℕ) → length slots ≤ slot → set slots slot None ≡ slots
not_given_back slots slot past = set_past slots slot None past
