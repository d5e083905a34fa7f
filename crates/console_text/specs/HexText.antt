-- Octets as pairs of hexadecimal digits of either case.
use Rattle.std.specs.Prelude.{ℕ, List, [], ◌∷◌, Option, Some, None, bytes_eq, codes, length, nat_eq, replicate, if◌then◌else◌}
use Rattle.std.specs.Option.{option_and_then}
use Rattle.std.specs.Result.{result_ok}
use Rattle.hex.specs.Hex.{decode_of}
use Rattle.console_text.specs.Parts.{parts_of}

-- the octets that the text spells
abbrev pub octets_of : List ℕ → Option (List ℕ)
octets_of text = result_ok (decode_of text)

-- one page in front of the others
abbrev pub and_page : Option (List ℕ) → Option (List (List ℕ)) → Option (List (List ℕ))
and_page None pages = None
and_page (Some page) None = None
and_page (Some page) (Some pages) = Some (page ∷ pages)

-- the octets that each of the texts spells
abbrev pub all_octets_of : List (List ℕ) → Option (List (List ℕ))
all_octets_of [] = Some []
all_octets_of (text ∷ texts) = and_page (octets_of text) (all_octets_of texts)

-- pages are joined by `/`, which is 47; `-` alone is no pages
abbrev pub pages_of : List ℕ → Option (List (List ℕ))
pages_of word = if bytes_eq word (codes "-") then Some [] else all_octets_of (parts_of 47 word)

-- the octets, if there are fifty
abbrev pub fifty : List ℕ → Option (List ℕ)
fifty octets = if nat_eq (length octets) 50 then Some octets else None

-- the fifty octets of security information that the text spells; `-` alone is zeros
abbrev pub security_of : List ℕ → Option (List ℕ)
security_of word = if bytes_eq word (codes "-") then Some (replicate 50 0) else option_and_then fifty (octets_of word)
