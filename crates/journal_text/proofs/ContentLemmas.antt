-- The words of contents and of areas, and what the console reads of them.
use Rattle.std.proofs.Common.{◌≡◌, ◌∙◌, ℕ, ◌*◌, ◌<◌, ◌≤◌, eqb, leb, Bool, true, false, ◌&&◌, ◌||◌, not, List, [], ◌∷◌, length, map, Option, Some, codes, refl, sym, ap, arith, eq-eqb}
use Rattle.std.specs.Prelude.{bytes_eq, decimal, option_and_then}
use Rattle.std.specs.List.{AllByRecursion, find, list_any}
use Rattle.std.specs.Option.{option_map}
use Rattle.std.proofs.lemmas.Bool.{and_parts, false_from_ne_true, le-leb, leb-true}
use Rattle.std.proofs.lemmas.Slice.Eq.{bytes_eq-Decides}
use Rattle.common.specs.declared.cell.Cell.{Cell}
use Rattle.areas.specs.Name.{is_name}
use Rattle.hex.specs.Hex.{IsBytes, encode_lower}
use Rattle.serials.specs.Serials.{scope_number}
use Rattle.serials.specs.declared.scope.Scope.{Scope}
use Rattle.serials.specs.declared.scope.Scope.TheVariants as scope
use Rattle.warning_book.specs.Content.{are_pages, category_number, is_page}
use Rattle.warning_book.specs.declared.category.Category.{Category}
use Rattle.warning_book.specs.declared.category.Category.TheVariants as category
use Rattle.console_text.specs.Grammar.{bsc_of, category_of, cell_of, if_some, names_of, scope_of, scope_with, two_octets_of, warning_of}
use Rattle.console_text.specs.HexText.{fifty, pages_of, security_of}
use Rattle.console_text.specs.Numbers.{number_in}
use Rattle.console_text.specs.Parts.{HasNone, parts_of}
use Rattle.journal_text.specs.Sayable.{IsBsc, IsCell, IsWarning, are_named, is_only_hyphen}
use Rattle.journal_text.specs.Texts.{areas_word, pages_word}
use Rattle.journal_text.proofs.HexLemmas.{hex_above, length_hex, octets_back, pages_back}
use Rattle.journal_text.proofs.NameLemmas.{all_names, name_short, name_word, names_above, names_part}
use Rattle.journal_text.proofs.NumberLemmas.{number_in_back}
use Rattle.journal_text.proofs.TextLemmas.{parts_joined}
use Rattle.journal_text.proofs.WordLemmas.{above, above-joined, above-weaker, both, has_none, is_word, length-joined, size}

pub bsc_back : (b : ℕ) → IsBsc b → bsc_of (decimal b) ≡ Some b
bsc_back b h = number_in_back 1 65535 b h.0 (omega (arith, h.1)) (omega arith)

pub warning_back : (n : ℕ) → IsWarning n → warning_of (decimal n) ≡ Some n
warning_back n h = number_in_back 0 4294967295 n (omega arith) (omega (arith, h)) (omega arith)

pub two_back : (n : ℕ) → n < 65536 → two_octets_of (decimal n) ≡ Some n
two_back n h = number_in_back 0 65535 n (omega arith) (omega (arith, h)) (omega arith)

pub octet_back : (n : ℕ) → n < 256 → number_in 0 255 (decimal n) ≡ Some n
octet_back n h = number_in_back 0 255 n (omega arith) (omega (arith, h)) (omega arith)

pub cell_back : (c : Cell) → IsCell c → cell_of (decimal c.lac) (decimal c.ci) ≡ Some c
cell_back c h =
    ap (λ (o : Option ℕ). if_some o (λ l. if_some (two_octets_of (decimal c.ci)) (λ ci. Some (record { lac = l; ci = ci })))) (two_back c.lac h.0)
    ∙ ap (λ (o : Option ℕ). if_some o (λ ci. let cell : Cell = record { lac = c.lac; ci = ci } in Some cell)) (two_back c.ci h.1)

pub scope_back : (s : Scope) → scope_of (decimal (scope_number s)) ≡ Some s
scope_back scope.CellImmediate = ap (option_map scope_with) (number_in_back 0 3 0 (omega arith) (omega arith) (omega arith))
scope_back scope.Plmn = ap (option_map scope_with) (number_in_back 0 3 1 (omega arith) (omega arith) (omega arith))
scope_back scope.LocationArea = ap (option_map scope_with) (number_in_back 0 3 2 (omega arith) (omega arith) (omega arith))
scope_back scope.Cell = ap (option_map scope_with) (number_in_back 0 3 3 (omega arith) (omega arith) (omega arith))

abbrev found_category : Option ℕ → Option Category
found_category o = if_some o (λ n. find (λ c. eqb (category_number c) n) (category.HighPriority ∷ category.Background ∷ category.Normal ∷ []))

pub category_back : (c : Category) → category_of (decimal (category_number c)) ≡ Some c
category_back category.HighPriority = ap found_category (octet_back 0 (omega arith))
category_back category.Background = ap found_category (octet_back 1 (omega arith))
category_back category.Normal = ap found_category (octet_back 2 (omega arith))

pub scope_low : (s : Scope) → scope_number s < 10000000000
scope_low scope.CellImmediate = omega arith
scope_low scope.Plmn = omega arith
scope_low scope.LocationArea = omega arith
scope_low scope.Cell = omega arith

pub category_low : (c : Category) → category_number c < 10000000000
category_low category.HighPriority = omega arith
category_low category.Background = omega arith
category_low category.Normal = omega arith

-- a text is not a hyphen alone
abbrev IsNoHyphen : List ℕ → Type 0
IsNoHyphen text = bytes_eq text (codes "-") ≡ false

no_hyphen : (text : List ℕ) → (text ≡ codes "-" → ⊥) → IsNoHyphen text
no_hyphen text other = false_from_ne_true (bytes_eq text (codes "-")) (λ same. other ((bytes_eq-Decides text (codes "-")).0 same))

-- the parts of AREAS
names_of_joined : (first : List ℕ) (more : List (List ℕ)) → AllByRecursion (λ a. is_name a ≡ true) (first ∷ more) → not (is_only_hyphen (first ∷ more)) ≡ true
    → names_of (areas_word (first ∷ more)) ≡ first ∷ more
names_of_joined first more all other =
    let parts = names_part (first ∷ more) all in
    let whole = parts_joined 44 first more parts.0 parts.1 in
    let differs : areas_word (first ∷ more) ≡ codes "-" → ⊥ =
    λ (same : areas_word (first ∷ more) ≡ codes "-").
    let alone : first ∷ more ≡ codes "-" ∷ [] = sym whole ∙ ap (parts_of 44) same in
    let hyphen : not (is_only_hyphen (first ∷ more)) ≡ false = ap (λ (areas : List (List ℕ)). not (is_only_hyphen areas)) alone in
    let broken : true ≡ false = sym other ∙ hyphen in cc broken in
    rw (no_hyphen (areas_word (first ∷ more)) differs) whole

names_size : (areas : List (List ℕ)) → AllByRecursion (λ a. is_name a ≡ true) areas → size areas ≤ 33 * length areas
names_size [] all = omega arith
names_size (a ∷ areas) all = let short = name_short a all.0 in let rest = names_size areas all.1 in omega (arith, short, rest)

-- 1 to 16 names are a word, short enough, and read again
pub record AreasRead (areas : List (List ℕ)) : Type 0 where
  pub word : is_word (areas_word areas) ≡ true
  pub short : length (areas_word areas) ≤ 600
  pub back : names_of (areas_word areas) ≡ areas

pub areas_read : (areas : List (List ℕ)) → are_named areas ≡ true → AreasRead areas
areas_read [] h = cc h
areas_read (first ∷ more) h =
    let parts = and_parts (leb 1 (length (first ∷ more)) && leb (length (first ∷ more)) 16) (not (list_any (λ a. not (is_name a)) (first ∷ more)) && not (is_only_hyphen (first ∷ more))) h in
    let counts = and_parts (leb 1 (length (first ∷ more))) (leb (length (first ∷ more)) 16) parts.0 in
    let names = and_parts (not (list_any (λ a. not (is_name a)) (first ∷ more))) (not (is_only_hyphen (first ∷ more))) parts.1 in
    let all = all_names (first ∷ more) names.0 in
    let high = names_above (first ∷ more) all in
    let long = length-joined 44 first more in
    let one = leb-true 1 (length first) (and_parts (leb 1 (length first)) (above 32 first) (name_word first all.0)).0 in
    let most = leb-true (length (first ∷ more)) 16 counts.1 in
    let sum = names_size (first ∷ more) all in
    record {
      word = both (leb 1 (length (areas_word (first ∷ more)))) (above 32 (areas_word (first ∷ more))) (le-leb 1 (length (areas_word (first ∷ more))) (omega (arith, long, one)))
          (above-joined 32 44 first more refl high.0 high.1);
      short = omega (arith, long, most, sum);
      back = names_of_joined first more all names.1;
    }

none_bad : (b c : Bool) → not (not b || c) ≡ true → (b ≡ true) × (not c ≡ true)
none_bad true c h = (refl, h)
none_bad false c h = cc h

all_pages : (pages : List (List ℕ)) → not (list_any (λ page. not (is_page page)) pages) ≡ true → AllByRecursion (λ page. is_page page ≡ true) pages
all_pages [] h = tt
all_pages (page ∷ pages) h =
    let parts = none_bad (is_page page) (list_any (λ page. not (is_page page)) pages) h in
    (parts.0, all_pages pages parts.1)

page_size : (page : List ℕ) → is_page page ≡ true → (1 ≤ length page) × (length page ≤ 82)
page_size page h =
    let parts = and_parts (leb 1 (length page)) (leb (length page) 82) h in
    (leb-true 1 (length page) parts.0, leb-true (length page) 82 parts.1)

pages_size : (pages : List (List ℕ)) → AllByRecursion (λ page. is_page page ≡ true) pages → size (map encode_lower pages) ≤ 165 * length pages
pages_size [] all = omega arith
pages_size (page ∷ pages) all =
    let short = (page_size page all.0).1 in let long = length_hex page in let rest = pages_size pages all.1 in omega (arith, short, long, rest)

pages_part : (pages : List (List ℕ)) → AllByRecursion IsBytes pages → AllByRecursion (HasNone 47) (map encode_lower pages)
pages_part [] all = tt
pages_part (page ∷ pages) all = (has_none 47 47 (encode_lower page) (omega arith) (hex_above page all.0), pages_part pages all.1)

pages_above : (pages : List (List ℕ)) → AllByRecursion IsBytes pages → AllByRecursion (λ w. above 32 w ≡ true) (map encode_lower pages)
pages_above [] all = tt
pages_above (page ∷ pages) all = (above-weaker 32 47 (encode_lower page) (omega arith) (hex_above page all.0), pages_above pages all.1)

pages_of_joined : (first : List ℕ) (more : List (List ℕ)) → AllByRecursion IsBytes (first ∷ more) → pages_of (pages_word (first ∷ more)) ≡ Some (first ∷ more)
pages_of_joined first more all =
    let parts = pages_part (first ∷ more) all in
    let whole = parts_joined 47 (encode_lower first) (map encode_lower more) parts.0 parts.1 in
    let differs : pages_word (first ∷ more) ≡ codes "-" → ⊥ =
    λ (same : pages_word (first ∷ more) ≡ codes "-").
    let alone : encode_lower first ∷ map encode_lower more ≡ codes "-" ∷ [] = sym whole ∙ ap (parts_of 47) same in
    let hyphen : encode_lower first ≡ codes "-" = cc alone in
    let long = length_hex first in
    let one : length (encode_lower first) ≡ 1 = ap length hyphen in
    omega (arith, long, one) in
    rw (no_hyphen (pages_word (first ∷ more)) differs) (rw whole (pages_back (first ∷ more) all))

-- 1 to 15 pages are a word, short enough, and read again
pub record PagesRead (pages : List (List ℕ)) : Type 0 where
  pub word : is_word (pages_word pages) ≡ true
  pub short : length (pages_word pages) ≤ 2500
  pub back : pages_of (pages_word pages) ≡ Some pages

pub pages_read : (pages : List (List ℕ)) → are_pages pages ≡ true → AllByRecursion IsBytes pages → PagesRead pages
pages_read [] h bytes = cc h
pages_read (first ∷ more) h bytes =
    let parts = and_parts (leb 1 (length (first ∷ more)) && leb (length (first ∷ more)) 15) (not (list_any (λ page. not (is_page page)) (first ∷ more))) h in
    let counts = and_parts (leb 1 (length (first ∷ more))) (leb (length (first ∷ more)) 15) parts.0 in
    let all = all_pages (first ∷ more) parts.1 in
    let high = pages_above (first ∷ more) bytes in
    let long = length-joined 47 (encode_lower first) (map encode_lower more) in
    let one = (page_size first all.0).0 in
    let digits = length_hex first in
    let most = leb-true (length (first ∷ more)) 15 counts.1 in
    let sum = pages_size (first ∷ more) all in
    record {
      word = both (leb 1 (length (pages_word (first ∷ more)))) (above 32 (pages_word (first ∷ more))) (le-leb 1 (length (pages_word (first ∷ more))) (omega (arith, long, one, digits)))
          (above-joined 32 47 (encode_lower first) (map encode_lower more) refl high.0 high.1);
      short = omega (arith, long, most, sum);
      back = pages_of_joined first more bytes;
    }

-- fifty octets are read again
pub security_back : (octets : List ℕ) → length octets ≡ 50 → IsBytes octets → security_of (encode_lower octets) ≡ Some octets
security_back octets fifty_long bytes =
    let long = length_hex octets in
    let differs : encode_lower octets ≡ codes "-" → ⊥ =
    λ (same : encode_lower octets ≡ codes "-"). let one : length (encode_lower octets) ≡ 1 = ap length same in omega (arith, long, one, fifty_long) in
    rw (no_hyphen (encode_lower octets) differs)
    (ap (option_and_then fifty) (octets_back octets bytes) ∙ rw (eq-eqb (length octets) 50 fifty_long) refl)
