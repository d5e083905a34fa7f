-- Names in order: where a name stands, and what they are with one more.
use Rattle.std.proofs.Common.{◌≡◌, ℕ, zero, suc, ◌<◌, ◌≤◌, Bool, true, false, ◌||◌, List, [], ◌∷◌, ◌++◌, length, take, drop, get_or, refl, sym, ap, ◌∙◌, arith}
use Rattle.std.specs.Prelude.{bytes_eq}
use Rattle.std.specs.List.{list_all}
use Rattle.std.specs.List.Sorted.{IsPartitionPoint, IsPartitionedBy}
use Rattle.std.proofs.lemmas.Bool.{and_parts, or_from, false_from_ne_true}
use Rattle.std.proofs.lemmas.List.Folds.{list_any_at}
use Rattle.std.proofs.lemmas.Slice.Eq.{bytes_eq-Decides}
use Rattle.common.specs.Order.{inserted, is_ascending}
use Rattle.common.specs.OrderLaws.{all_from_none, any_inserted, ascending_inserted}
use Rattle.common.specs.RisingLaws as rising
use Rattle.areas.specs.Holders.{has_name}
use Rattle.areas.specs.Name.{octets_lt}
use Rattle.areas.specs.Order.{octets_lt-irreflexive, octets_lt-total, octets_lt-transitive}

-- the name comes before a
abbrev pub comes_before : List ℕ → List ℕ → Bool
comes_before a b = octets_lt b a

-- up to this place the names come before a, and from it on they do not
abbrev pub IsStart : List ℕ → List (List ℕ) → ℕ → Type 0
IsStart a names n = IsPartitionPoint (λ b. comes_before a b ≡ true) (λ b. comes_before a b ≡ false) names n

-- a name before one that comes before a does so too
pub parted : (a : List ℕ) (names : List (List ℕ)) → is_ascending octets_lt names ≡ true → IsPartitionedBy (comes_before a) names
parted a names o = rising.parted octets_lt (comes_before a) (λ x y h g. octets_lt-transitive x y a h g) names o

-- the same of the names after the first
start_behind : (a x : List ℕ) (names : List (List ℕ)) (n : ℕ) → IsStart a (x ∷ names) (suc n) → IsStart a names n
start_behind a x names n start = (λ k d low high. start.0 (suc k) d (omega arith) (omega arith), λ k d low high. start.1 (suc k) d (omega arith) (omega arith))

-- there a name stands before the first that does not come before it
inserted_at : (a : List ℕ) (names : List (List ℕ)) (n : ℕ) → n ≤ length names → IsStart a names n → take n names ++ a ∷ drop n names ≡ inserted octets_lt a names
inserted_at a [] zero h start = refl
inserted_at a [] (suc n) h start = absurd (omega arith)
inserted_at a (x ∷ names) zero h start = rw (start.1 0 x (omega arith) (omega arith)) refl
inserted_at a (x ∷ names) (suc n) h start =
    rw (start.0 0 x (omega arith) (omega arith)) (ap (λ ns. x ∷ ns) (inserted_at a names n (omega arith) (start_behind a x names n start)))

-- a name that comes before another is not that one
apart_before : (a b : List ℕ) → octets_lt b a ≡ true → bytes_eq b a ≡ false
apart_before a b h =
    false_from_ne_true (bytes_eq b a) (λ e. let no : true ≡ false = sym h ∙ ap (λ n. octets_lt n a) ((bytes_eq-Decides b a).0 e) ∙ octets_lt-irreflexive a in cc)

apart_after : (a b : List ℕ) → octets_lt a b ≡ true → bytes_eq b a ≡ false
apart_after a b h =
    false_from_ne_true (bytes_eq b a) (λ e. let no : true ≡ false = sym h ∙ ap (octets_lt a) ((bytes_eq-Decides b a).0 e) ∙ octets_lt-irreflexive a in cc)

-- none of the names after one that comes after a is a
none_behind : (a x : List ℕ) (names : List (List ℕ)) → octets_lt a x ≡ true → list_all (octets_lt x) names ≡ true → has_name a names ≡ false
none_behind a x [] h all = refl
none_behind a x (y ∷ names) h all =
    let parts = and_parts (octets_lt x y) (list_all (octets_lt x) names) all in
    or_from (bytes_eq y a) (has_name a names) (apart_after a y (octets_lt-transitive a x y h parts.0)) (none_behind a x names h parts.1)

-- where another name stands there, a is none of them
none_at : (a : List ℕ) (names : List (List ℕ)) (n : ℕ) (d : List ℕ) → is_ascending octets_lt names ≡ true → n ≤ length names → IsStart a names n → (n < length names → bytes_eq (get_or names n d) a ≡ false) → has_name a names ≡ false
none_at a [] n d o h start other = refl
none_at a (x ∷ names) zero d o h start other =
    let differs : bytes_eq x a ≡ false = other (omega arith) in
    let after : octets_lt a x ≡ true = octets_lt-total x a (start.1 0 x (omega arith) (omega arith)) differs in
    or_from (bytes_eq x a) (has_name a names) differs (none_behind a x names after (and_parts (list_all (octets_lt x) names) (is_ascending octets_lt names) o).0)
none_at a (x ∷ names) (suc n) d o h start other =
    or_from (bytes_eq x a) (has_name a names) (apart_before a x (start.0 0 x (omega arith) (omega arith))) (none_at a names n d (and_parts (list_all (octets_lt x) names) (is_ascending octets_lt names) o).1 (omega arith) (start_behind a x names n start) (λ g. other (omega arith)))

-- of two names that differ one comes before the other
apart : (a b : List ℕ) → bytes_eq b a ≡ false → (octets_lt b a || octets_lt a b) ≡ true
apart a b h = step (octets_lt b a) refl
  where
    step : (t : Bool) → octets_lt b a ≡ t → (t || octets_lt a b) ≡ true
    step true e = refl
    step false e = octets_lt-total b a e h

-- with the name at its place they are in order
pub ascending_at : (a : List ℕ) (names : List (List ℕ)) (n : ℕ) (d : List ℕ) → is_ascending octets_lt names ≡ true → n ≤ length names → IsStart a names n → (n < length names → bytes_eq (get_or names n d) a ≡ false) → is_ascending octets_lt (take n names ++ a ∷ drop n names) ≡ true
ascending_at a names n d o h start other =
    ap (is_ascending octets_lt) (inserted_at a names n h start)
    ∙ ascending_inserted octets_lt octets_lt-transitive a names (all_from_none (λ b. bytes_eq b a) (λ b. octets_lt b a || octets_lt a b) (apart a) names (none_at a names n d o h start other)) o

-- and have one more
pub has_at : (a : List ℕ) (names : List (List ℕ)) (n : ℕ) (b : List ℕ) → n ≤ length names → IsStart a names n → has_name b (take n names ++ a ∷ drop n names) ≡ (bytes_eq a b || has_name b names)
has_at a names n b h start = ap (has_name b) (inserted_at a names n h start) ∙ any_inserted octets_lt (λ c. bytes_eq c b) a names

-- a name that is there is no more than they have
pub has_already : (a b : List ℕ) (names : List (List ℕ)) → has_name a names ≡ true → has_name b names ≡ (bytes_eq a b || has_name b names)
has_already a b names h = step (bytes_eq a b) refl
  where
    step : (t : Bool) → bytes_eq a b ≡ t → has_name b names ≡ (t || has_name b names)
    step true e = ap (λ c. has_name c names) (sym ((bytes_eq-Decides a b).0 e)) ∙ h
    step false e = refl

-- the name at a place is one of them
pub has_there : (a : List ℕ) (names : List (List ℕ)) (n : ℕ) (d : List ℕ) → n < length names → bytes_eq (get_or names n d) a ≡ true → has_name a names ≡ true
has_there a names n d h e = list_any_at (λ c. bytes_eq c a) names n d h e
