-- Why a line is bad.
use Rattle.std.specs.Prelude.{◌≡◌, ◌⊎◌, ℕ, ◌+◌, ◌-◌, ◌<◌, ◌≤◌, nat_le, Bool, true, false, ◌&&◌, ◌||◌, List, [], ◌∷◌, length, get_or, take, drop, Option, MatchOption, bytes_eq, if◌then◌else◌}
use Rattle.std.specs.List.{flat_map, list_all}
use Rattle.console_text.specs.Numbers.{is_digit}
use Rattle.console_text.specs.Words.{words_of}
use Rattle.line_faults.specs.Forms.{fits, forms, has_text, is_name}
use Rattle.line_faults.specs.Nearest.{distance}
use Rattle.line_faults.specs.Strays.{letters, octets_of}
use Rattle.line_faults.specs.declared.stray.Stray.{Stray}
use Rattle.line_faults.specs.declared.line_fault.LineFault.{LineFault}
use Rattle.line_faults.specs.declared.line_fault.LineFault.TheVariants as fault

-- the second word of a form is a name, or that of the line
abbrev pub has_second : List (List ℕ) → List (List ℕ) → Bool
has_second [] words = true
has_second (part ∷ parts) [] = is_name part
has_second (part ∷ parts) (word ∷ words) = is_name part || bytes_eq part word

-- the line begins as the form does
abbrev pub begins : List (List ℕ) → List (List ℕ) → Bool
begins [] words = false
begins (part ∷ parts) [] = false
begins (part ∷ parts) (word ∷ words) = bytes_eq part word && has_second parts words

-- the form has a place for each word
abbrev pub has_room : List (List ℕ) → List (List ℕ) → Bool
has_room form words = has_text form || nat_le (length words) (length form)

-- the words of a row of the table
abbrev pub form_at : List (List ℕ) → ℕ → List (List ℕ)
form_at rows k = words_of (get_or rows k [])

-- the line begins as no form does
abbrev pub NoneBegins : List (List ℕ) → List (List ℕ) → Type 0
NoneBegins rows words = (k : ℕ) → k < length rows → begins (form_at rows k) words ≡ false

-- as it begins, there is no form that has a place for each word
abbrev pub NoneHasRoom : List (List ℕ) → List (List ℕ) → Type 0
NoneHasRoom rows words = (k : ℕ) → k < length rows → (begins (form_at rows k) words && has_room (form_at rows k) words) ≡ false

-- the line is compared with this form: it begins so, and where a form that begins so has a place for each word, this one has
pub record IsChosen (rows words : List (List ℕ)) (place : ℕ) : Type 0 where
  pub there : place < length rows
  pub begun : begins (form_at rows place) words ≡ true
  pub room : (has_room (form_at rows place) words ≡ true) ⊎ NoneHasRoom rows words

pub record IsOf (words form : List (List ℕ)) : Type 0 where
  pub place : ℕ
  pub chosen : IsChosen forms words place
  pub is : form ≡ form_at forms place

-- the words below n may stand where they do
abbrev pub FitBelow : ℕ → List (List ℕ) → List (List ℕ) → Type 0
FitBelow n form words = (k : ℕ) → k < n → k < length form → k < length words → fits (get_or form k []) (get_or words k []) ≡ true

-- the first word that may not stand where it does
pub record IsFirstWrong (form words : List (List ℕ)) (place : ℕ) : Type 0 where
  pub in_form : place < length form
  pub in_line : place < length words
  pub wrong : fits (get_or form place []) (get_or words place []) ≡ false
  pub before : FitBelow place form words

-- that word, by its position from 1, and the name of what may stand there
pub record IsWrongWord (words : List (List ℕ)) (position : ℕ) (name word : List ℕ) : Type 0 where
  pub form : List (List ℕ)
  pub of : IsOf words form
  pub place : ℕ
  pub first : IsFirstWrong form words place
  pub counted : position ≡ place + 1
  pub named : name ≡ get_or form place []
  pub quoted : word ≡ get_or words place []

-- each word may stand where it does, but others are missing: these
pub record IsShort (words names : List (List ℕ)) : Type 0 where
  pub form : List (List ℕ)
  pub of : IsOf words form
  pub fit : FitBelow (length form) form words
  pub short : length words < length form
  pub missing : names ≡ drop (length words) form

-- there are so many words more than the form has, which has no text
pub record IsLong (words : List (List ℕ)) (count : ℕ) : Type 0 where
  pub form : List (List ℕ)
  pub of : IsOf words form
  pub fit : FitBelow (length form) form words
  pub textless : has_text form ≡ false
  pub long : length words ≡ length form + count
  pub some : 0 < count

-- each word may stand where it does, and none is missing or too many
pub record IsWhole (words : List (List ℕ)) : Type 0 where
  pub form : List (List ℕ)
  pub of : IsOf words form
  pub fit : FitBelow (length form) form words
  pub room : has_room form words ≡ true
  pub enough : length form ≤ length words

-- the second words of the forms that begin with that word
abbrev pub second_if : List ℕ → List (List ℕ) → List (List ℕ)
second_if first [] = []
second_if first (part ∷ []) = []
second_if first (part ∷ next ∷ more) = if bytes_eq part first then next ∷ [] else []

abbrev pub seconds : List ℕ → List (List ℕ) → List (List ℕ)
seconds first rows = flat_map (λ row. second_if first (words_of row)) rows

-- the first word of a row
abbrev pub first_at : List (List ℕ) → ℕ → List ℕ
first_at rows k = get_or (form_at rows k) 0 []

-- the word is one with which a form begins, at most two letters away and half of them, and no other one is nearer
pub record IsNearest (rows : List (List ℕ)) (word nearest : List ℕ) : Type 0 where
  pub place : ℕ
  pub there : place < length rows
  pub is : nearest ≡ first_at rows place
  pub near : distance word nearest < 3
  pub least : (k : ℕ) → k < length rows → distance word nearest ≤ distance word (first_at rows k)

-- or each is further away
abbrev pub NoneIsNear : List (List ℕ) → List ℕ → Type 0
NoneIsNear rows word = (k : ℕ) → k < length rows → 3 ≤ distance word (first_at rows k)

-- no form begins with the first word
pub record IsUnknown (words : List (List ℕ)) (word : List ℕ) (nearest : Option (List ℕ)) : Type 0 where
  pub behind : List (List ℕ)
  pub are : words ≡ word ∷ behind
  pub none : NoneBegins forms words
  pub no_second : seconds word forms ≡ []
  pub near : MatchOption nearest (NoneIsNear forms word) (IsNearest forms word)

-- forms begin with the first word, and none of them has the second one, which may be missing
pub record IsUnknownSecond (words : List (List ℕ)) (word : List ℕ) (choices : List (List ℕ)) : Type 0 where
  pub first : List ℕ
  pub behind : List (List ℕ)
  pub are : words ≡ first ∷ behind
  pub none : NoneBegins forms words
  pub word_is : word ≡ get_or behind 0 []
  pub choices_are : choices ≡ seconds first forms

-- how many words of a line stand before its text
abbrev pub front_of : List (List ℕ) → List (List ℕ) → ℕ
front_of form words = if has_text form then length form - 1 else length words

-- the words in which a letter is looked for that parts none: all but those of a text, and of a line that begins as no form does the first
-- two at most
abbrev pub IsFront : List (List ℕ) → ℕ → Type 0
IsFront words count = ((form : List (List ℕ)) × IsOf words form × (count ≡ front_of form words)) ⊎ (NoneBegins forms words × (count ≤ 2))

-- the letter stands in that column, from 1, and in one of so many words
pub record StandsAt (line : List ℕ) (stray : Stray) (column count : ℕ) : Type 0 where
  pub place : ℕ
  pub there : take (length (octets_of stray)) (drop place line) ≡ octets_of stray
  pub counted : column ≡ letters (take place line) + 1
  pub early : length (words_of (take (place + 1) line)) ≤ count

pub record IsStray (line : List ℕ) (words : List (List ℕ)) (stray : Stray) (column : ℕ) : Type 0 where
  pub count : ℕ
  pub front : IsFront words count
  pub stands : StandsAt line stray column count

-- a word of digits alone
abbrev pub is_digits : List ℕ → Bool
is_digits word = list_all is_digit word

-- the fault is one of a line of these octets and words
abbrev pub IsFaultOf : List ℕ → List (List ℕ) → LineFault → Type 0
IsFaultOf line words (fault.Stray stray column) = IsStray line words stray column
IsFaultOf line words (fault.NoSuchWord word nearest) = IsUnknown words word nearest
IsFaultOf line words (fault.NoSuchSecond word choices) = IsUnknownSecond words word choices
IsFaultOf line words (fault.NotNumber position name word) = IsWrongWord words position name word × (is_digits word ≡ false)
IsFaultOf line words (fault.OutOfRange position name word) = IsWrongWord words position name word × (is_digits word ≡ true)
IsFaultOf line words (fault.Missing names) = IsShort words names
IsFaultOf line words (fault.TooMany count) = IsLong words count
IsFaultOf line words fault.NotHere = IsWhole words ⊎ (words ≡ [])

-- the fault is one of the line
abbrev pub IsFault : List ℕ → LineFault → Type 0
IsFault line f = IsFaultOf line (words_of line) f
