-- The first line of a journal's file.
use Rattle.std.proofs.Common.{◌≡◌, ℕ, zero, suc, ◌+◌, ◌-◌, ◌*◌, ◌<◌, ◌≤◌, Bool, true, false, List, [], ◌∷◌, ◌++◌, length, take, drop, get_or, replicate, ◌≢◌, append_assoc, codes, cond, Result, Ok, Err, refl, sym, ap, subst, ◌∙◌, arith, inl, inr, length-append}
use Rattle.std.proofs.lemmas.Bool.{cases_lt, eqb-true, ne_eqb}
use Rattle.std.proofs.lemmas.List.{drop-append-le, drop_all, get_or_append_left, get_or-take, length-take-le, take-append-le, take_all}
use Rattle.std.proofs.Math.Seq.{take-suc}
use Rattle.std.specs.Prelude.{◌==◌, IsUtf8, decimal}
use Rattle.std.specs.Str.Parse.{ParsesUnsigned}
use Rattle.std.proofs.lemmas.Fmt.{length-decimal-le, parse-decimal, IsAscii-decimal}
use Rattle.std.proofs.lemmas.Str.{IsUtf8-from_ascii}
use Rattle.hex.specs.Hex.{encode_lower, decode_sized, IsBytes, lower_digits}
use Rattle.hex.specs.declared.error.FromHexError.{FromHexError}
use Rattle.hex.proofs.HexLemmas.{decode_sized-twice, decode_sized-ok, decode_of-ok, decode_of-encode_lower, length-encode_with}
use Rattle.journal_file.specs.First.{IsNetwork, IsHeading, broadcasts_text, header_line}
use Rattle.journal_file.specs.FirstFault.{IsWithoutZeros}
use Rattle.journal_file.specs.declared.heading.Heading.{Heading}

-- how long what it says of the broadcasts is
broadcasts_short : (n : ℕ) → n < 65536 → length (broadcasts_text n) ≤ 18
broadcasts_short n small = step (n == 0)
  where
    step : (b : Bool) → length (cond b [] (codes ", broadcasts " ++ decimal n)) ≤ 18
    step true = omega arith
    step false = omega (arith, length-append (codes ", broadcasts ") (decimal n), length-decimal-le 5 n (omega arith) (omega arith) (omega arith))

-- and how long it is
pub length-header_line : (heading : Heading) → IsHeading heading → length (header_line heading) ≤ 47
length-header_line heading is =
    omega (
      arith,
      length-append (codes "# cbc journal, network " ++ encode_lower heading.plmn) (broadcasts_text heading.broadcasts),
      length-encode_with lower_digits heading.plmn,
      is.0.0,
      broadcasts_short heading.broadcasts is.1,
    )

-- the digits of a network code are six
pub length-network : (plmn : List ℕ) → IsNetwork plmn → length (encode_lower plmn) ≡ 6
length-network plmn network = omega (arith, length-encode_with lower_digits plmn, network.0)

-- the network is read from its digits
pub network_reads : (digits plmn : List ℕ) → IsNetwork plmn → digits ≡ encode_lower plmn → decode_sized digits 3 ≡ Ok plmn
network_reads digits plmn network shown =
    let long : length (encode_lower plmn) ≡ 2 * 3 = omega (arith, length-network plmn network) in
    ap (λ s. decode_sized s 3) shown ∙ decode_sized-twice (encode_lower plmn) 3 long ∙ decode_of-encode_lower plmn network.1

-- the front of a line in which the network's digits stand, and what is behind it
pub parts_read : (line digits end : List ℕ) → length digits ≡ 6 → line ≡ (codes "# cbc journal, network " ++ digits) ++ end
    → (take 23 line ≡ codes "# cbc journal, network ") × (take 6 (drop 23 line) ≡ digits) × (drop 6 (drop 23 line) ≡ end)
parts_read line digits end six is = (
  ap (take 23) is,
  ap (λ s. take 6 (drop 23 s)) is ∙ take-append-le 6 digits end (omega (arith, six)) ∙ take_all 6 digits (omega (arith, six)),
  ap (λ s. drop 6 (drop 23 s)) is ∙ drop-append-le 6 digits end (omega (arith, six)) ∙ ap (λ s. s ++ end) (drop_all 6 digits (omega (arith, six))),
)

-- a number that isn't 0 is said
pub said : (n : ℕ) (digits : List ℕ) → n ≢ 0 → digits ≡ decimal n → codes ", broadcasts " ++ digits ≡ broadcasts_text n
said n digits some is = ap (λ s. codes ", broadcasts " ++ s) is ∙ ap (λ b. cond b [] (codes ", broadcasts " ++ decimal n)) (sym (ne_eqb n 0 some))

-- where nothing stands behind the network the number is 0
pub none_read : (n : ℕ) (end : List ℕ) → end ≡ [] → end ≡ broadcasts_text n → n ≡ 0
none_read n end none is = step (n == 0) refl (sym none ∙ is)
  where
    step : (b : Bool) → (n == 0) ≡ b → [] ≡ cond b [] (codes ", broadcasts " ++ decimal n) → n ≡ 0
    step true same e = eqb-true n 0 same
    step false some e = cc e

-- and where something does, the number is behind the word
pub some_read : (n : ℕ) (end : List ℕ) → end ≢ [] → end ≡ broadcasts_text n → end ≡ codes ", broadcasts " ++ decimal n
some_read n end some is = step (n == 0) is
  where
    step : (b : Bool) → end ≡ cond b [] (codes ", broadcasts " ++ decimal n) → end ≡ codes ", broadcasts " ++ decimal n
    step true e = absurd (some e)
    step false e = e

-- the digits of a number are letters, and are read as it
pub decimal_utf8 : (n : ℕ) (digits : List ℕ) → n < 65536 → digits ≡ decimal n → IsUtf8 digits
decimal_utf8 n digits small is = subst IsUtf8 (sym is) (IsUtf8-from_ascii (decimal n) (IsAscii-decimal n (omega arith)))

pub number_reads : {E : Type 0} (n : ℕ) (digits : List ℕ) (r : Result ℕ E) → n < 65536 → digits ≡ decimal n → ParsesUnsigned 16 10 digits r → r ≡ Ok n
number_reads n digits r small is parses = parse-decimal 16 n digits r (omega arith) (omega arith) is parses

-- digits that are read as three octets name a network
pub IsNetwork-read : (digits plmn : List ℕ) → decode_sized digits 3 ≡ Ok plmn → IsNetwork plmn
IsNetwork-read digits plmn is =
    let long : length digits ≡ 2 * 3 = decode_sized-ok digits 3 plmn is in
    let read = decode_of-ok digits plmn (sym (decode_sized-twice digits 3 long) ∙ is) in
    (omega (arith, read.2, long), read.3)

-- octets and octets 00 behind them: none of these is another octet
pub zero_behind : (xs : List ℕ) (n k : ℕ) → length xs ≤ k → get_or (xs ++ replicate n 0) k 0 ≡ 0
zero_behind [] n k past = zero_of n k
  where
    zero_of : (n k : ℕ) → get_or {A = ℕ} (replicate n 0) k 0 ≡ 0
    zero_of zero k = refl
    zero_of (suc n) zero = refl
    zero_of (suc n) (suc k) = zero_of n k
zero_behind (x ∷ xs) n zero past = absurd (omega arith)
zero_behind (x ∷ xs) n (suc k) past = zero_behind xs n k (omega arith)

-- the octets without the octets 00 at their end are no more than what stands before some octets 00
pub shorter_front : (octets front shown : List ℕ) (n : ℕ) → IsWithoutZeros octets front → octets ≡ shown ++ replicate n 0 → length front ≤ length shown
shorter_front octets front shown n without same =
    elim (cases_lt (length shown) (length front)) [
      | inr fits ↦ fits
      | inl long ↦ absurd (without.last (omega arith) (
          sym (get_or_append_left front (replicate without.zeros 0) 0 (length front - 1) (omega arith))
          ∙ ap (λ s. get_or s (length front - 1) 0) (sym without.whole ∙ same) ∙ zero_behind shown n (length front - 1) (omega arith)))
    ]

-- one octet 00 more is cut off
pub zeros_more : (octets : List ℕ) (count zeros : ℕ) → 0 < count → count ≤ length octets → get_or octets (count - 1) 0 ≡ 0 → octets ≡ take count octets ++ replicate zeros 0
    → octets ≡ take (count - 1) octets ++ replicate (suc zeros) 0
zeros_more octets count zeros some fits zero_there whole =
    let one_less : count ≡ suc (count - 1) = omega arith in
    let next : take count octets ≡ take (count - 1) octets ++ 0 ∷ [] =
    ap (λ n. take n octets) one_less ∙ take-suc octets (count - 1) 0 (omega arith) ∙ ap (λ x. take (count - 1) octets ++ x ∷ []) zero_there in
    whole ∙ ap (λ s. s ++ replicate zeros 0) next ∙ append_assoc (take (count - 1) octets) (0 ∷ []) (replicate zeros 0)

-- none is left
pub zeros_end : (octets : List ℕ) (count zeros : ℕ) → count ≤ length octets → octets ≡ take count octets ++ replicate zeros 0 → (0 < count → get_or octets (count - 1) 0 ≢ 0)
    → IsWithoutZeros octets (take count octets)
zeros_end octets count zeros fits whole last = record {
  zeros = zeros;
  whole = whole;
  last = λ some.
      let long : length (take count octets) ≡ count = length-take-le count octets fits in
      let there : get_or (take count octets) (length (take count octets) - 1) 0 ≡ get_or octets (count - 1) 0 =
      ap (λ n. get_or (take count octets) (n - 1) 0) long ∙ get_or-take count octets (count - 1) 0 (omega (arith, long, some)) in
      λ none. last (omega (arith, long, some)) (sym there ∙ none);
}
