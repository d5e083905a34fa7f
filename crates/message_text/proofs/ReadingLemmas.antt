-- Letters that are read, one after another.
use Rattle.std.proofs.Common.{◌≡◌, ℕ, ◌+◌, ◌-◌, ◌*◌, ◌/◌, ◌%◌, ◌<◌, ◌≤◌, Bool, true, false, cond, ◌&&◌, ltb, leb, List, [], ◌∷◌, ◌++◌, length, drop, take, get_or, refl, ap, sym, ◌∙◌, arith, Option, Some, None, append_assoc, inl, inr, ◌⊎◌, MatchOption}
use Rattle.std.proofs.lemmas.List.{append-nil, take_rest}
use Rattle.std.proofs.lemmas.Str.{encodes-append}
use Rattle.std.proofs.lemmas.Bool.Decides.{nat_tests}
use Rattle.std.specs.Char.{encode_utf8, IsScalar}
use Rattle.std.specs.Str.{encode_utf8_all}
use Rattle.std.specs.Option.{option_map}
use Rattle.std.specs.Int.{is_in_range}
use Rattle.std.specs.List.{AllByRecursion, flat_map}
use lib.Utf8.{scalar_cases}
use Rattle.message_text.specs.Reading.{coding_of, followed_by, read_by, read_page, read_pages, read_text, ucs2_letters}
use Rattle.message_text.specs.Texts.{IsInUcs2}
use Rattle.message_text.specs.Writing.{letter_octets}
use Rattle.message_text.specs.declared.coding.Coding.{Coding}
use Rattle.message_text.proofs.ListLemmas.{rest_begins}

-- the text that has these octets, and behind them those of the letters that are left
abbrev pub text_with : List ℕ → Option (List ℕ) → Option (List ℕ)
text_with octets letters = option_map (λ rest. octets ++ encode_utf8_all rest) letters

with_more : (octets letters : List ℕ) (rest : Option (List ℕ)) → text_with octets (followed_by (Some letters) rest) ≡ text_with (octets ++ encode_utf8_all letters) rest
with_more octets letters None = refl
with_more octets letters (Some others) =
    ap Some (ap (λ o. octets ++ o) (encodes-append letters others) ∙ sym (append_assoc octets (encode_utf8_all letters) (encode_utf8_all others)))

-- one more page, at the loop's place
pub page_read : (coding : Coding) (pages : List (List ℕ)) (d page octets more letters : List ℕ) (i : ℕ) → i < length pages → page ≡ get_or pages i d
    → read_page coding page ≡ Some letters → more ≡ octets ++ encode_utf8_all letters
    → text_with more (read_pages coding (drop (i + 1) pages)) ≡ text_with octets (read_pages coding (drop i pages))
page_read coding pages d page octets more letters i h e r m =
    ap (λ o. text_with o (read_pages coding (drop (i + 1) pages))) m
    ∙ sym (with_more octets letters (read_pages coding (drop (i + 1) pages)))
    ∙ ap (λ p. text_with octets (followed_by p (read_pages coding (drop (i + 1) pages)))) (sym r)
    ∙ ap (λ ps. text_with octets (read_pages coding ps)) (sym (rest_begins pages i d page h e))

pub page_unread : (coding : Coding) (pages : List (List ℕ)) (d page octets : List ℕ) (i : ℕ) → i < length pages → page ≡ get_or pages i d
    → read_page coding page ≡ None → text_with octets (read_pages coding (drop i pages)) ≡ None
page_unread coding pages d page octets i h e r =
    ap (λ ps. text_with octets (read_pages coding ps)) (rest_begins pages i d page h e)
    ∙ ap (λ p. text_with octets (followed_by p (read_pages coding (drop (i + 1) pages)))) r

pub text_under : (dcs : ℕ) (pages : List (List ℕ)) (coding : Coding) → coding_of dcs ≡ Some coding → read_text dcs pages ≡ read_pages coding pages
text_under dcs pages coding e = ap (λ c. read_by c pages) e

pub text_unread : (dcs : ℕ) (pages : List (List ℕ)) → coding_of dcs ≡ None → read_text dcs pages ≡ None
text_unread dcs pages e = ap (λ c. read_by c pages) e

no_surrogate_by : (c : ℕ) → (c < 55296) ⊎ ((57344 ≤ c) × (c < 1114112)) → is_in_range 0xD800 0xDFFF c ≡ false
no_surrogate_by c (inl low) = grind (arith, nat_tests)
no_surrogate_by c (inr high) = grind (arith, nat_tests)

no_surrogate : (c : ℕ) → IsScalar c → is_in_range 0xD800 0xDFFF c ≡ false
no_surrogate c h = no_surrogate_by c (scalar_cases c h)

scalar_by : (c : ℕ) (low high small : Bool) → ltb c 55296 ≡ low → leb 57344 c ≡ high → ltb c 1114112 ≡ small → c < 65536
    → (leb 55296 c && leb c 57343) ≡ false → cond low true (high && small) ≡ true
scalar_by c true high small e f g b r = refl
scalar_by c false true true e f g b r = refl
scalar_by c false true false e f g b r = grind (arith, nat_tests)
scalar_by c false false small e f g b r =
    let x : leb 55296 c ≡ true = grind (arith, nat_tests) in
    let y : leb c 57343 ≡ true = grind (arith, nat_tests) in
    let z : (leb 55296 c && leb c 57343) ≡ true = ap (λ t. t && leb c 57343) x ∙ y in
    cc

scalar_or : (c : ℕ) (t : Bool) → is_in_range 0xD800 0xDFFF c ≡ t → (IsScalar c → ⊥) → c < 65536 → t ≡ true
scalar_or c true e h b = refl
scalar_or c false e h b = absurd (h (scalar_by c (ltb c 55296) (leb 57344 c) (ltb c 1114112) refl refl refl b e))

surrogate : (c : ℕ) → (IsScalar c → ⊥) → c < 65536 → is_in_range 0xD800 0xDFFF c ≡ true
surrogate c h b = scalar_or c (is_in_range 0xD800 0xDFFF c) refl h b

one_more : (octets : List ℕ) (letter : ℕ) (rest : Option (List ℕ)) → text_with octets (option_map (λ letters. letter ∷ letters) rest) ≡ text_with (octets ++ encode_utf8 letter) rest
one_more octets letter None = refl
one_more octets letter (Some others) = ap Some (sym (append_assoc octets (encode_utf8 letter) (encode_utf8_all others)))

-- two octets of UCS2
pub ucs2_read : (high low : ℕ) (others octets : List ℕ) → IsScalar (high * 256 + low)
    → text_with octets (ucs2_letters (high ∷ low ∷ others)) ≡ text_with (octets ++ encode_utf8 (high * 256 + low)) (ucs2_letters others)
ucs2_read high low others octets h =
    let e : is_in_range 0xD800 0xDFFF (high * 256 + low) ≡ false = no_surrogate (high * 256 + low) h in
    ap (λ b. text_with octets (cond b None (option_map (λ letters. (high * 256 + low) ∷ letters) (ucs2_letters others)))) e
    ∙ one_more octets (high * 256 + low) (ucs2_letters others)

pub ucs2_unread : (high low : ℕ) (others octets : List ℕ) → (IsScalar (high * 256 + low) → ⊥) → high < 256 → low < 256 → text_with octets (ucs2_letters (high ∷ low ∷ others)) ≡ None
ucs2_unread high low others octets h a b =
    let e : is_in_range 0xD800 0xDFFF (high * 256 + low) ≡ true = surrogate (high * 256 + low) h (omega arith) in
    ap (λ b. text_with octets (cond b None (option_map (λ letters. (high * 256 + low) ∷ letters) (ucs2_letters others)))) e

-- at the end: what is read is all
pub read_whole : (old octets : List ℕ) (all : Option (List ℕ)) → text_with octets (Some []) ≡ text_with old all
    → MatchOption all (true ≡ false) (λ letters. (true ≡ true) × (octets ≡ old ++ encode_utf8_all letters))
read_whole old octets None e = cc
read_whole old octets (Some letters) e =
    let f : octets ++ [] ≡ old ++ encode_utf8_all letters = cc in
    (refl, sym (append-nil octets) ∙ f)

pub read_none : (new old : List ℕ) (all : Option (List ℕ)) → None ≡ text_with old all
    → MatchOption all (false ≡ false) (λ letters. (false ≡ true) × (new ≡ old ++ encode_utf8_all letters))
read_none new old None e = refl
read_none new old (Some letters) e = cc

-- the octets of letters are read as the letters
pub ucs2_written : (letters : List ℕ) → AllByRecursion IsInUcs2 letters → ucs2_letters (flat_map letter_octets letters) ≡ Some letters
ucs2_written [] h = refl
ucs2_written (c ∷ cs) h =
    let back : c / 256 * 256 + c % 256 ≡ c = omega arith in
    ap (λ n. cond (is_in_range 0xD800 0xDFFF n) None (option_map (λ letters. n ∷ letters) (ucs2_letters (flat_map letter_octets cs)))) back
    ∙ ap (λ b. cond b None (option_map (λ letters. c ∷ letters) (ucs2_letters (flat_map letter_octets cs)))) (no_surrogate c h.0.1)
    ∙ ap (option_map (λ letters. c ∷ letters)) (ucs2_written cs h.1)

pub ucs2_length : (letters : List ℕ) → length (flat_map letter_octets letters) ≡ 2 * length letters
ucs2_length [] = refl
ucs2_length (c ∷ cs) = let e = ucs2_length cs in omega arith

-- what was said of a page that was read, and of one that was not
pub was_unread : (read_letters : Option (List ℕ)) (read : Bool) (Says : List ℕ → Type 0)
    → MatchOption read_letters (read ≡ false) (λ letters. (read ≡ true) × Says letters) → read ≡ false → read_letters ≡ None
was_unread None read Says h e = refl
was_unread (Some letters) read Says h e = let t : read ≡ true = h.0 in cc

pub was_read : (read_letters : Option (List ℕ)) (read : Bool) (Says : List ℕ → Type 0)
    → MatchOption read_letters (read ≡ false) (λ letters. (read ≡ true) × Says letters) → read ≡ true → (letters : List ℕ) × (read_letters ≡ Some letters) × Says letters
was_read None read Says h e = let f : read ≡ false = h in cc
was_read (Some letters) read Says h e = (letters, refl, h.1)

-- two octets at the front of the rest
pub ucs2_step : (rest octets : List ℕ) (high low : ℕ) → 2 ≤ length rest → high ≡ get_or rest 0 0 → low ≡ get_or rest 1 0 → IsScalar (high * 256 + low)
    → text_with (octets ++ encode_utf8 (high * 256 + low)) (ucs2_letters (take (length rest - 2) (drop 2 rest))) ≡ text_with octets (ucs2_letters rest)
ucs2_step [] octets high low h e f s = absurd (omega arith)
ucs2_step (x ∷ []) octets high low h e f s = absurd (omega arith)
ucs2_step (x ∷ y ∷ others) octets high low h e f s =
    ap (λ r. text_with (octets ++ encode_utf8 (high * 256 + low)) (ucs2_letters r)) (take_rest (x ∷ y ∷ others) 2)
    ∙ sym (ucs2_read high low others octets s)
    ∙ ap (λ b. text_with octets (ucs2_letters (b ∷ low ∷ others))) e
    ∙ ap (λ b. text_with octets (ucs2_letters (x ∷ b ∷ others))) f
