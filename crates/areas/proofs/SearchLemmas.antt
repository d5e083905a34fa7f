-- In a list in order the area of a name stands where the names before that name end.
use Rattle.std.proofs.Common.{◌≡◌, ℕ, suc, ◌<◌, ◌≤◌, Bool, true, false, ◌||◌, cond, List, [], ◌∷◌, length, get_or, ltb, ltb-true, ltb-false, le-ltb, lt-ltb, refl, sym, ap, ◌∙◌, arith}
use Rattle.std.specs.List.{position_or_len}
use Rattle.std.specs.List.Sorted.{IsPartitionPoint, IsPartitionedBy}
use Rattle.std.proofs.lemmas.Bool.{false_from_ne_true}
use Rattle.std.proofs.lemmas.Bool.Decides.{nat_tests}
use Rattle.std.proofs.lemmas.List.Sums.{position_or_len_is}
use Rattle.std.proofs.lemmas.Slice.Eq.{bytes_eq-Decides}
use Rattle.common.specs.Order.{is_ascending}
use Rattle.areas.proofs.PlaceLemmas.{place_in, place_in-position}
use Rattle.common.specs.RisingLaws as rising
use Rattle.areas.specs.Areas.{is_named, has_area, selectors_of, named_lt}
use Rattle.areas.specs.Laws.{selectors_of_absent}
use Rattle.areas.specs.Name.{octets_lt}
use Rattle.areas.specs.Order.{octets_lt-irreflexive, octets_lt-transitive}
use Rattle.areas.specs.declared.area.Area.{Area}

-- the area comes before the name
abbrev pub comes_before : List ℕ → Area → Bool
comes_before a x = octets_lt x.name a

-- an area before one that comes before the name does so too
pub parted : (a : List ℕ) (l : List Area) → is_ascending named_lt l ≡ true → IsPartitionedBy (comes_before a) l
parted a l o = rising.parted named_lt (comes_before a) (λ x y h g. octets_lt-transitive x.name y.name a h g) l o

-- an area that comes before the name has another
other_before : (a : List ℕ) (x : Area) → comes_before a x ≡ true → is_named a x ≡ false
other_before a x h =
    false_from_ne_true (is_named a x) (λ e. let no : true ≡ false = sym h ∙ ap (λ n. octets_lt n a) ((bytes_eq-Decides x.name a).0 e) ∙ octets_lt-irreflexive a in cc)

-- an area after one that doesn't come before the name has another
other_after : (a : List ℕ) (x y : Area) → named_lt x y ≡ true → comes_before a x ≡ false → is_named a y ≡ false
other_after a x y h g =
    false_from_ne_true (is_named a y) (λ e. let no : true ≡ false = sym h ∙ ap (octets_lt x.name) ((bytes_eq-Decides y.name a).0 e) ∙ g in cc)

-- the area at the point has the name
pub found_at_point : (a : List ℕ) (l : List Area) (n : ℕ) (d : Area) → n < length l → IsPartitionPoint (λ x. comes_before a x ≡ true) (λ x. comes_before a x ≡ false) l n → is_named a (get_or l n d) ≡ true → n ≡ position_or_len (is_named a) l
found_at_point a l n d h point e =
    sym (position_or_len_is (is_named a) l n d (omega arith) (λ k g. other_before a (get_or l k d) (point.0 k d (omega arith) g)) (λ g. e))

-- no area has the name
pub none_at_point : (a : List ℕ) (l : List Area) (n : ℕ) (d : Area) → is_ascending named_lt l ≡ true → n ≤ length l → IsPartitionPoint (λ x. comes_before a x ≡ true) (λ x. comes_before a x ≡ false) l n → (n < length l → is_named a (get_or l n d) ≡ false) → length l ≡ position_or_len (is_named a) l
none_at_point a l n d o h point e =
    sym (position_or_len_is (is_named a) l (length l) d (omega arith) other (λ g. absurd (omega arith)))
  where
    other : (k : ℕ) → k < length l → is_named a (get_or l k d) ≡ false
    other k g = before (ltb k n) refl
      where
        after : (t : Bool) → ltb n k ≡ t → n ≤ k → is_named a (get_or l k d) ≡ false
        after true f b = other_after a (get_or l n d) (get_or l k d) (rising.rises named_lt l n k d o (ltb-true n k f) g) (point.1 n d (omega arith) (omega arith))
        after false f b = let same : k ≡ n = omega (arith, ltb-false n k f) in ap (λ m. is_named a (get_or l m d)) same ∙ e (omega arith)

        before : (t : Bool) → ltb k n ≡ t → is_named a (get_or l k d) ≡ false
        before true f = other_before a (get_or l k d) (point.0 k d (omega arith) (ltb-true k n f))
        before false f = after (ltb n k) refl (ltb-false k n f)

-- an area in order that has the name is the first that has it
pub found_at : (a : List ℕ) (l : List Area) (n : ℕ) (d : Area) → is_ascending named_lt l ≡ true → n < length l → is_named a (get_or l n d) ≡ true → n ≡ position_or_len (is_named a) l
found_at a l n d o h e =
    sym (position_or_len_is (is_named a) l n d (omega arith) (λ k g. other_before a (get_or l k d) (earlier k g)) (λ g. e))
  where
    earlier : (k : ℕ) → k < n → comes_before a (get_or l k d) ≡ true
    earlier k g = ap (octets_lt (get_or l k d).name) (sym ((bytes_eq-Decides (get_or l n d).name a).0 e)) ∙ rising.rises named_lt l k n d o g h

next : (m n : ℕ) → ltb (suc m) (suc n) ≡ ltb m n
next m n = grind (arith, nat_tests)

-- there is an area of the name just where its place is one of the list's
there : (a : List ℕ) (l : List Area) → ltb (place_in a l) (length l) ≡ has_area l a
there a [] = refl
there a (y ∷ l) = step (is_named a y) (there a l)
  where
    step : (t : Bool) → ltb (place_in a l) (length l) ≡ has_area l a → ltb (cond t 0 (suc (place_in a l))) (length (y ∷ l)) ≡ (t || has_area l a)
    step true rest = lt-ltb 0 (suc (length l)) (omega arith)
    step false rest = next (place_in a l) (length l) ∙ rest

pub has_area-place : (a : List ℕ) (l : List Area) (n : ℕ) → n ≡ position_or_len (is_named a) l → ltb n (length l) ≡ has_area l a
has_area-place a l n e = ap (λ m. ltb m (length l)) (e ∙ sym (place_in-position a l)) ∙ there a l

-- the selectors of the area of the name are those of the area at its place
selected : (a : List ℕ) (l : List Area) (d : Area) → place_in a l < length l → (get_or l (place_in a l) d).selectors ≡ selectors_of l a
selected a [] d h = absurd (omega arith)
selected a (y ∷ l) d h = step (is_named a y) (selected a l d) h
  where
    step : (t : Bool) → (place_in a l < length l → (get_or l (place_in a l) d).selectors ≡ selectors_of l a) → cond t 0 (suc (place_in a l)) < length (y ∷ l) → (get_or (y ∷ l) (cond t 0 (suc (place_in a l))) d).selectors ≡ cond t y.selectors (selectors_of l a)
    step true rest g = refl
    step false rest g = rest (omega arith)

pub selectors_of-place : (a : List ℕ) (l : List Area) (n : ℕ) (x : Area) → n ≡ position_or_len (is_named a) l → n < length l → (get_or l n x).selectors ≡ selectors_of l a
selectors_of-place a l n x e h =
    let place : n ≡ place_in a l = e ∙ sym (place_in-position a l) in
    ap (λ m. (get_or l m x).selectors) place ∙ selected a l x (omega arith)

-- and none where the place is past the last
pub selectors_of-none : (a : List ℕ) (l : List Area) (n : ℕ) → n ≡ position_or_len (is_named a) l → length l ≤ n → [] ≡ selectors_of l a
selectors_of-none a l n e h =
    let place : n ≡ place_in a l = e ∙ sym (place_in-position a l) in
    sym (selectors_of_absent l a (sym (there a l) ∙ le-ltb (place_in a l) (length l) (omega arith)))
