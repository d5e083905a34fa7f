-- What stands behind the words of a line. A word is a longest run of octets other than the space, which is 32.
use Rattle.std.specs.Prelude.{ℕ, zero, suc, ◌==◌, List, [], ◌∷◌, if◌then◌else◌}

-- the line without the spaces in front
abbrev pub behind_spaces : List ℕ → List ℕ
behind_spaces [] = []
behind_spaces (x ∷ xs) = if x == 32 then behind_spaces xs else x ∷ xs

-- what stands behind the word with which the line begins
abbrev pub behind_word : List ℕ → List ℕ
behind_word [] = []
behind_word (x ∷ xs) = if x == 32 then x ∷ xs else behind_word xs

-- what stands behind so many words, from the first octet on that is no space
abbrev pub behind_words : ℕ → List ℕ → List ℕ
behind_words zero line = behind_spaces line
behind_words (suc n) line = behind_spaces (behind_word (behind_words n line))
