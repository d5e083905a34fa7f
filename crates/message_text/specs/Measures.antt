-- What a text takes, and which letter it is that the default alphabet doesn't have.
use Rattle.std.specs.Prelude.{◌≡◌, ℕ, ◌<◌, true, false, List, length, take, get_or, MatchOption}
use Rattle.std.specs.List.{list_all}
use Rattle.std.specs.Str.{chars}
use Rattle.message_text.specs.Alphabet.{has_code}
use Rattle.message_text.specs.Texts.{AreCut, Needs, coding_for}
use Rattle.message_text.specs.declared.coding.Coding.{Coding}
use Rattle.message_text.specs.declared.measure.Measure.{Measure}

-- the letters are cut into so many pieces, each of which has room in a page
pub record IsCutInto (coding : Coding) (letters : List ℕ) (count : ℕ) : Type 0 where
  pub pieces : List (List ℕ)
  pub cut : AreCut coding letters pieces
  pub many : length pieces ≡ count

-- the letter stands at the place, counted from 0, has no code, and all before it have one
pub record IsFirstUncoded (letters : List ℕ) (place letter : ℕ) : Type 0 where
  pub there : place < length letters
  pub is : letter ≡ get_or letters place 0
  pub uncoded : has_code letter ≡ false
  pub before : list_all has_code (take place letters) ≡ true

-- how many letters and pages a text has, in which coding, and which letter is the first that the default alphabet doesn't have
pub record IsMeasure (text : List ℕ) (m : Measure) : Type 0 where
  pub letters : m.letters ≡ length (chars text)
  pub coding : m.coding ≡ coding_for (chars text)
  pub uncoded : MatchOption m.uncoded (list_all has_code (chars text) ≡ true) (λ found. IsFirstUncoded (chars text) found.0 found.1)
  pub cut : IsCutInto (coding_for (chars text)) (chars text) m.pages
  pub fewest : Needs (coding_for (chars text)) (chars text) m.pages
