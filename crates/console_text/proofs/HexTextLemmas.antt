-- Pages that are read one after another.
use Rattle.std.proofs.Common.{◌≡◌, ℕ, List, [], ◌∷◌, ◌++◌, Option, Some, None, refl, sym, ap, append_assoc}
use Rattle.console_text.specs.HexText.{and_page}

-- some pages in front of those that are still to be read
abbrev pub after_pages : List (List ℕ) → Option (List (List ℕ)) → Option (List (List ℕ))
after_pages front None = None
after_pages front (Some pages) = Some (front ++ pages)

-- one more page
pub after_pages_more : (front : List (List ℕ)) (page : List ℕ) (rest : Option (List (List ℕ))) → after_pages front (and_page (Some page) rest) ≡ after_pages (front ++ page ∷ []) rest
after_pages_more front page None = refl
after_pages_more front page (Some pages) = ap Some (sym (append_assoc front (page ∷ []) pages))
