-- How the numbers of one area change, and those of no other.
use Rattle.std.proofs.Common.{eq-eqb, ◌≡◌, ℕ, ◌+◌, ◌/◌, ◌%◌, ◌<◌, Bool, true, false, ◌==◌, ◌||◌, ◌&&◌, not, cond, List, [], ◌∷◌, Option, Some, None, slice_get, bytes_eq, if◌then◌else◌, refl, sym, ap, subst, ◌∙◌, unwrap_or, length, drop, get_or, arith}
use Rattle.std.proofs.lemmas.Bool.{and_parts, not-true, or_parts, or_right}
use Rattle.std.proofs.lemmas.List.{drop_more}
use Rattle.std.specs.Bool.{Decides}
use Rattle.std.specs.Cmp.{unsigned_Decides}
use Rattle.std.specs.Cmp.Lexicographic.{pointwise_decides}
use Rattle.std.specs.List.{list_any, AllZip}
use Rattle.std.specs.Map.{lookup, lookup_key}
use Rattle.common.specs.Order.{each_once}
use Rattle.coverage_board.specs.AreaSets.{names_at}
use Rattle.coverage_board.specs.Board.{area_in, KeepsNoZeroArea}
use Rattle.coverage_board.specs.Numbers.{moved, zero_numbers}
use Rattle.coverage_board.specs.Parts.{has_area, part_where}
use Rattle.coverage_board.specs.declared.numbers.Numbers.{Numbers}
use Rattle.coverage_board.proofs.NumbersLemmas.{moved_none, moved_to}

-- the test of two names is true where they are one name, and nowhere else
pub names_decide : (a b : List ℕ) → Decides (bytes_eq a b) (a ≡ b)
names_decide = pointwise_decides unsigned_Decides

-- the numbers of an area that is there
pub area_found : (k : List ℕ) (old : List (List ℕ × Numbers)) (n : Numbers) → lookup (bytes_eq k) old ≡ Some n → area_in old k ≡ n
area_found k old n h = ap (λ o. unwrap_or o zero_numbers) h

-- and of one that isn't
pub area_not_found : (k : List ℕ) (old : List (List ℕ × Numbers)) → lookup (bytes_eq k) old ≡ None → area_in old k ≡ zero_numbers
area_not_found k old h = ap (λ o. unwrap_or o zero_numbers) h

-- where one entry has what f makes of the area's numbers, the area has that, and the others have what they had
pub area_changed : (f : Numbers → Numbers) (k : List ℕ) (w : Numbers) (old new : List (List ℕ × Numbers)) → w ≡ f (area_in old k) → ((q : List ℕ) → lookup (bytes_eq q) new ≡ cond (bytes_eq k q) (Some w) (lookup (bytes_eq q) old)) → (a : List ℕ) → area_in new a ≡ (if bytes_eq k a then f (area_in old a) else area_in old a)
area_changed f k w old new is h a = step (bytes_eq k a) refl (h a)
  where
    step : (t : Bool) → bytes_eq k a ≡ t → lookup (bytes_eq a) new ≡ cond t (Some w) (lookup (bytes_eq a) old) → area_in new a ≡ (if t then f (area_in old a) else area_in old a)
    step true e g = ap (λ o. unwrap_or o zero_numbers) g ∙ is ∙ ap (λ b. f (area_in old b)) ((names_decide k a).0 e)
    step false e g = ap (λ o. unwrap_or o zero_numbers) g

-- from old to new the area k has the entry w, or none, and no other changes
abbrev pub IsSet : List ℕ → Option Numbers → List (List ℕ × Numbers) → List (List ℕ × Numbers) → Type 0
IsSet k w old new = (q : List ℕ) → lookup (bytes_eq q) new ≡ cond (bytes_eq k q) w (lookup (bytes_eq q) old)

-- where the entry that was written has 0 everywhere and is taken out, each area has the numbers that it had with it
pub area_without : (k : List ℕ) (w : Numbers) (old mid new : List (List ℕ × Numbers)) → IsSet k (Some w) old mid → IsSet k None mid new → w ≡ zero_numbers → (a : List ℕ) → area_in new a ≡ area_in mid a
area_without k w old mid new change taken zero a = step (bytes_eq k a) (change a) (taken a)
  where
    step : (t : Bool) → lookup (bytes_eq a) mid ≡ cond t (Some w) (lookup (bytes_eq a) old) → lookup (bytes_eq a) new ≡ cond t None (lookup (bytes_eq a) mid) → area_in new a ≡ area_in mid a
    step true e g = ap (λ o. unwrap_or o zero_numbers) g ∙ sym zero ∙ sym (ap (λ o. unwrap_or o zero_numbers) e)
    step false e g = ap (λ o. unwrap_or o zero_numbers) g

-- where an entry with a number above 0 is written, no area that has 0 everywhere has an entry, as before
pub areas_with : (k : List ℕ) (w : Numbers) (old new : List (List ℕ × Numbers)) → IsSet k (Some w) old new → (w ≡ zero_numbers → ⊥) → KeepsNoZeroArea old → (a : List ℕ) → area_in new a ≡ zero_numbers → lookup (bytes_eq a) new ≡ None
areas_with k w old new change some kept a zero = step (bytes_eq k a) (change a)
  where
    step : (t : Bool) → lookup (bytes_eq a) new ≡ cond t (Some w) (lookup (bytes_eq a) old) → lookup (bytes_eq a) new ≡ None
    step true g = absurd (some (sym (ap (λ o. unwrap_or o zero_numbers) g) ∙ zero))
    step false g = g ∙ kept a (sym (ap (λ o. unwrap_or o zero_numbers) g) ∙ zero)

-- nor where the entry that was written is taken out
pub areas_without : (k : List ℕ) (w : Numbers) (old mid new : List (List ℕ × Numbers)) → IsSet k (Some w) old mid → IsSet k None mid new → KeepsNoZeroArea old → (a : List ℕ) → area_in new a ≡ zero_numbers → lookup (bytes_eq a) new ≡ None
areas_without k w old mid new change taken kept a zero = step (bytes_eq k a) (change a) (taken a)
  where
    step : (t : Bool) → lookup (bytes_eq a) mid ≡ cond t (Some w) (lookup (bytes_eq a) old) → lookup (bytes_eq a) new ≡ cond t None (lookup (bytes_eq a) mid) → lookup (bytes_eq a) new ≡ None
    step true e g = g
    step false e g = g ∙ e ∙ kept a (sym (ap (λ o. unwrap_or o zero_numbers) (g ∙ e)) ∙ zero)

-- where nothing comes to an area that has no entry, its numbers have moved as they stand, and no others have
pub area_kept : (k : List ℕ) (part : Numbers) (areas : List (List ℕ × Numbers)) → lookup (bytes_eq k) areas ≡ None → part ≡ zero_numbers → (a : List ℕ) (out : Numbers) → area_in areas a ≡ (if bytes_eq k a then moved (area_in areas a) out part else area_in areas a)
area_kept k part areas absent none a out = step (bytes_eq k a) refl
  where
    step : (t : Bool) → bytes_eq k a ≡ t → area_in areas a ≡ (if t then moved (area_in areas a) out part else area_in areas a)
    step true e =
        let zero : area_in areas a ≡ zero_numbers = ap (λ b. area_in areas b) (sym ((names_decide k a).0 e)) ∙ area_not_found k areas absent in
        zero ∙ sym none ∙ sym (moved_to out part) ∙ ap (λ n. moved n out part) (sym zero)
    step false e = refl

-- where there is no entry each area has 0 everywhere
pub no_numbers : (areas : List (List ℕ × Numbers)) → length areas ≡ 0 → (a : List ℕ) → area_in areas a ≡ zero_numbers
no_numbers [] h a = refl
no_numbers (e ∷ es) h a = absurd (omega arith)

-- where each area has 0 everywhere there is no entry
pub no_entries : (areas : List (List ℕ × Numbers)) → KeepsNoZeroArea areas → ((a : List ℕ) → area_in areas a ≡ zero_numbers) → areas ≡ []
no_entries [] kept zero = refl
no_entries (e ∷ es) kept zero = step (bytes_eq e.0 e.0) ((names_decide e.0 e.0).1 refl) (kept e.0 (zero e.0))
  where
    step : (t : Bool) → t ≡ true → cond t (Some e.1) (lookup (bytes_eq e.0) es) ≡ None → ◌≡◌ {A = List (List ℕ × Numbers)} (e ∷ es) []
    step true h g = cc
    step false h g = cc

-- where each entry of a copy is like that of the list, the copy is the list
pub same_entries : {K X : Type 0} (xs ys : List (K × X)) → AllZip (λ (p q : K × X). (q.0 ≡ p.0) × (q.1 ≡ p.1)) xs ys → ys ≡ xs
same_entries [] [] h = refl
same_entries [] (y ∷ ys) h = absurd h
same_entries (x ∷ xs) [] h = absurd h
same_entries (x ∷ xs) (y ∷ ys) h = λ i. (h.0.0 i, h.0.1 i) ∷ same_entries xs ys h.1 i

-- a key that is found is the one that was sought
pub key_found : {K X : Type 0} (same : K → K → Bool) → ((a b : K) → Decides (same a b) (a ≡ b)) → (k : K) (entries : List (K × X)) (x : K) → lookup_key (same k) entries ≡ Some x → x ≡ k
key_found same d k [] x h = cc
key_found {K} {X} same d k (e ∷ es) x h = step (key_found same d k es x) (same k e.0) refl h
  where
    step : (lookup_key (same k) es ≡ Some x → x ≡ k) → (t : Bool) → same k e.0 ≡ t → cond t (Some e.0) (lookup_key (same k) es) ≡ Some x → x ≡ k
    step rest true f g = let is : e.0 ≡ x = cc in sym is ∙ sym ((d k e.0).0 f)
    step rest false f g = rest g

-- the entry at the place of an area is the area and its numbers
pub entry_is : (k : List ℕ) (entries : List (List ℕ × Numbers)) (i : ℕ) (x : List ℕ) (n : Numbers) → slice_get entries i ≡ Some (x, n) → slice_get entries i ≡ Some (k, area_in entries k) → (x ≡ k) × (n ≡ area_in entries k)
entry_is k entries i x n h g =
    let both : ◌≡◌ {A = List ℕ × Numbers} (x, n) (k, area_in entries k) = cc in
    (λ j. (both j).0, λ j. (both j).1)

-- where the entry of an area is written, it is that of the area, and no other changes
pub entry_written : (k : List ℕ) (old new : List (List ℕ × Numbers)) (i : ℕ) (x : List ℕ) (n w : Numbers) → slice_get old i ≡ Some (x, n) → slice_get old i ≡ Some (k, area_in old k) → IsSet x (Some w) old new → IsSet k (Some w) old new × (n ≡ area_in old k)
entry_written k old new i x n w h g change =
    let is = entry_is k old i x n h g in
    (subst (λ y. IsSet y (Some w) old new) is.0 change, is.1)

-- the names from one place on
pub has_next : (bits : ℕ) (names : List (List ℕ)) (i : ℕ) (d a : List ℕ) → i < length names → has_area (names_at bits (drop i names)) a ≡ (((bits % 2 == 1) && bytes_eq (get_or names i d) a) || has_area (names_at (bits / 2) (drop (i + 1) names)) a)
has_next bits names i d a h = ap (λ s. has_area (names_at bits s) a) (drop_more names i d h) ∙ step (bits % 2 == 1)
  where
    rest : List (List ℕ)
    rest = names_at (bits / 2) (drop (i + 1) names)

    step : (t : Bool) → has_area (if t then get_or names i d ∷ rest else rest) a ≡ ((t && bytes_eq (get_or names i d) a) || has_area rest a)
    step true = refl
    step false = refl

turned : (a b : List ℕ) → bytes_eq a b ≡ false → bytes_eq b a ≡ false
turned a b e = step (bytes_eq b a) refl
  where
    step : (t : Bool) → bytes_eq b a ≡ t → t ≡ false
    step true f = let yes = (names_decide a b).1 (sym ((names_decide b a).0 f)) in let no : true ≡ false = sym yes ∙ e in cc
    step false f = refl

-- a name that isn't among these isn't among those with digits
absent_at : (bits : ℕ) (x : List ℕ) (names : List (List ℕ)) → list_any (bytes_eq x) names ≡ false → has_area (names_at bits names) x ≡ false
absent_at bits x [] h = refl
absent_at bits x (y ∷ rest) h =
    let parts = or_parts (bytes_eq x y) (list_any (bytes_eq x) rest) h in
    step (bits % 2 == 1) (turned x y parts.0) (absent_at (bits / 2) x rest parts.1)
  where
    step : (t : Bool) → bytes_eq y x ≡ false → has_area (names_at (bits / 2) rest) x ≡ false → has_area (if t then y ∷ names_at (bits / 2) rest else names_at (bits / 2) rest) x ≡ false
    step true e none = rw e none
    step false e none = none

-- of names that stand once each, the one at a place isn't among those behind it, and those stand once each
pub once_next : (names : List (List ℕ)) (i : ℕ) (d : List ℕ) → i < length names → each_once bytes_eq (drop i names) ≡ true → ((bits : ℕ) → has_area (names_at bits (drop (i + 1) names)) (get_or names i d) ≡ false) × (each_once bytes_eq (drop (i + 1) names) ≡ true)
once_next names i d h once =
    let parts = and_parts (not (list_any (bytes_eq (get_or names i d)) (drop (i + 1) names))) (each_once bytes_eq (drop (i + 1) names)) (ap (each_once bytes_eq) (sym (drop_more names i d h)) ∙ once) in
    (λ bits. absent_at bits (get_or names i d) (drop (i + 1) names) (not-true (list_any (bytes_eq (get_or names i d)) (drop (i + 1) names)) parts.0), parts.1)

-- the name at a place whose digit is 1 is there
pub has_here : (bits : ℕ) (names : List (List ℕ)) (i : ℕ) (x : List ℕ) → x ≡ get_or names i x → i < length names → bits % 2 ≡ 1 → has_area (names_at bits (drop i names)) x ≡ true
has_here bits names i x is h odd =
    let one : (bits % 2 == 1) ≡ true = eq-eqb (bits % 2) 1 odd in
    let here : bytes_eq (get_or names i x) x ≡ true = (names_decide (get_or names i x) x).1 (sym is) in
    has_next bits names i x x h ∙ (λ j. (one j && here j) || has_area (names_at (bits / 2) (drop (i + 1) names)) x)

-- one that is there from the next place on is there from this one on
pub has_later : (bits : ℕ) (names : List (List ℕ)) (i : ℕ) (a : List ℕ) → i < length names → has_area (names_at (bits / 2) (drop (i + 1) names)) a ≡ true → has_area (names_at bits (drop i names)) a ≡ true
has_later bits names i a h later =
    has_next bits names i a a h ∙ or_right ((bits % 2 == 1) && bytes_eq (get_or names i a) a) (has_area (names_at (bits / 2) (drop (i + 1) names)) a) later

-- the numbers of an area whose part is still to be moved
abbrev pub moved_where : Numbers → Numbers → Bool → Numbers → Numbers
moved_where p q t n = moved n (part_where t p) (part_where t q)

-- where the part of one name is moved, if its digit is 1, what the others come to is what all come to
pub digit_moved : (p q : Numbers) (d : Bool) (x : List ℕ) (hs rs : List ℕ → Bool) (cur new : List ℕ → Numbers) → ((a : List ℕ) → hs a ≡ ((d && bytes_eq x a) || rs a)) → rs x ≡ false → ((a : List ℕ) → new a ≡ (if d && bytes_eq x a then moved (cur a) p q else cur a)) → (a : List ℕ) → moved_where p q (rs a) (new a) ≡ moved_where p q (hs a) (cur a)
digit_moved p q d x hs rs cur new next absent change a = step d (bytes_eq x a) refl (next a) (change a)
  where
    off : bytes_eq x a ≡ true → rs a ≡ false
    off e = ap rs (sym ((names_decide x a).0 e)) ∙ absent

    stays : hs a ≡ rs a → new a ≡ cur a → moved_where p q (rs a) (new a) ≡ moved_where p q (hs a) (cur a)
    stays h n = rw (h, n) refl

    step : (d t : Bool) → bytes_eq x a ≡ t → hs a ≡ ((d && t) || rs a) → new a ≡ (if d && t then moved (cur a) p q else cur a) → moved_where p q (rs a) (new a) ≡ moved_where p q (hs a) (cur a)
    step true true e h n = rw (h, off e, n) (moved_none (moved (cur a) p q))
    step true false e h n = stays h n
    step false true e h n = stays h n
    step false false e h n = stays h n

-- where no digit is left there is no name
names_none : (names : List (List ℕ)) → names_at 0 names ≡ []
names_none [] = refl
names_none (a ∷ rest) = names_none rest

-- where no digit is left nothing is to be moved
pub none_left : (p q : Numbers) (left : ℕ) (names : List (List ℕ)) (a : List ℕ) (n : Numbers) → left ≡ 0 → n ≡ moved_where p q (has_area (names_at left names) a) n
none_left p q left names a n none =
    let has : has_area (names_at left names) a ≡ false = (λ j. has_area (names_at (none j) names) a) ∙ ap (λ ns. has_area ns a) (names_none names) in
    sym (moved_none n) ∙ sym (ap (λ h. moved_where p q h n) has)

-- the numbers of each of the others stay
pub digit_kept : (p q : Numbers) (d : Bool) (x : List ℕ) (rs : List ℕ → Bool) (cur new : List ℕ → Numbers) → rs x ≡ false → ((a : List ℕ) → new a ≡ (if d && bytes_eq x a then moved (cur a) p q else cur a)) → (a : List ℕ) → rs a ≡ true → new a ≡ cur a
digit_kept p q d x rs cur new absent change a h = step d (bytes_eq x a) refl (change a)
  where
    step : (d t : Bool) → bytes_eq x a ≡ t → new a ≡ (if d && t then moved (cur a) p q else cur a) → new a ≡ cur a
    step true true e n = let no : true ≡ false = sym h ∙ ap rs (sym ((names_decide x a).0 e)) ∙ absent in cc
    step true false e n = n
    step false true e n = n
    step false false e n = n

-- where the part of the name at one place is moved, if its digit is 1, moving the parts of those behind it comes to what
-- moving all from there on comes to, and the numbers of those behind it stay
pub record Moves (p q : Numbers) (bits : ℕ) (names : List (List ℕ)) (i : ℕ) (cur new : List (List ℕ × Numbers)) : Type 0 where
  pub once : each_once bytes_eq (drop (i + 1) names) ≡ true
  pub kept : (a : List ℕ) → has_area (names_at (bits / 2) (drop (i + 1) names)) a ≡ true → area_in new a ≡ area_in cur a
  pub numbers : (a : List ℕ) → moved_where p q (has_area (names_at (bits / 2) (drop (i + 1) names)) a) (area_in new a) ≡ moved_where p q (has_area (names_at bits (drop i names)) a) (area_in cur a)

pub moves : (p q : Numbers) (bits : ℕ) (names : List (List ℕ)) (i : ℕ) (x : List ℕ) (t : Bool) (cur new : List (List ℕ × Numbers)) → x ≡ get_or names i x → i < length names → each_once bytes_eq (drop i names) ≡ true → (bits % 2 == 1) ≡ t → ((a : List ℕ) → area_in new a ≡ (if t && bytes_eq x a then moved (area_in cur a) p q else area_in cur a)) → Moves p q bits names i cur new
moves p q bits names i x t cur new is h once odd change = record {
  once = (once_next names i x h once).1;
  kept = digit_kept p q t x rs (λ a. area_in cur a) (λ a. area_in new a) absent change;
  numbers = digit_moved p q t x hs rs (λ a. area_in cur a) (λ a. area_in new a) next absent change;
}
  where
    hs : List ℕ → Bool
    hs = λ a. has_area (names_at bits (drop i names)) a

    rs : List ℕ → Bool
    rs = λ a. has_area (names_at (bits / 2) (drop (i + 1) names)) a

    absent : rs x ≡ false
    absent = ap rs is ∙ (once_next names i x h once).0 (bits / 2)

    next : (a : List ℕ) → hs a ≡ ((t && bytes_eq x a) || rs a)
    next a = has_next bits names i x a h ∙ (λ j. (odd j && bytes_eq (sym is j) a) || rs a)
