-- What a walk over the warnings has found, one warning further.
use Rattle.std.proofs.Common.{◌≡◌, ℕ, ◌+◌, ◌<◌, Bool, true, false, ◌&&◌, ◌||◌, cond, List, [], ◌∷◌, ◌++◌, Option, Some, None, length, get_or, take, drop, refl, sym, ap, ◌∙◌}
use Rattle.std.specs.Cmp.{unsigned_Decides}
use Rattle.std.specs.Prelude.{nat_eq, ltb, find}
use Rattle.std.specs.Option.{option_map, option_or}
use Rattle.std.proofs.lemmas.List.Folds.{find-append}
use Rattle.std.specs.List.{filter, list_any}
use Rattle.std.proofs.lemmas.List.{append_assoc, append-nil, take_more, drop_more}
use Rattle.common.specs.OnceLaws.{turned}
use Rattle.common.specs.Order.{is_ascending}
use Rattle.common.specs.OrderLaws.{ascending_filter, ascending_map}
use Rattle.warning_book.specs.Book.{number_lt, names, names_one_of, numbers, naming, naming_one_of, is_so, versions_if, versions_with, content_of, codes_if, codes_of}
use Rattle.warning_book.specs.ClassedNames.{names_of}
use Rattle.warning_book.specs.declared.content.Content.{Content}
use Rattle.warning_book.specs.declared.classed_name.ClassedName.{ClassedName}
use Rattle.warning_book.specs.declared.version.Version.{Version}
use Rattle.warning_book.specs.declared.warning.Warning.{Warning}

passing-append : (p : Warning → Bool) (xs ys : List Warning) → numbers (filter p (xs ++ ys)) ≡ numbers (filter p xs) ++ numbers (filter p ys)
passing-append p [] ys = refl
passing-append p (x ∷ xs) ys = step (passing-append p xs ys) (p x)
  where
    step : numbers (filter p (xs ++ ys)) ≡ numbers (filter p xs) ++ numbers (filter p ys) → (t : Bool) → numbers (cond t (x ∷ filter p (xs ++ ys)) (filter p (xs ++ ys))) ≡ numbers (cond t (x ∷ filter p xs) (filter p xs)) ++ numbers (filter p ys)
    step rest true = ap (λ ns. x.number ∷ ns) rest
    step rest false = rest

passing-alone : (p : Warning → Bool) (w : Warning) → numbers (filter p (w ∷ [])) ≡ cond (p w) (w.number ∷ []) []
passing-alone p w = step (p w)
  where
    step : (t : Bool) → numbers (cond t (w ∷ []) []) ≡ cond t (w.number ∷ []) []
    step true = refl
    step false = refl

passing_more : (p : Warning → Bool) (ws : List Warning) (i : ℕ) (d : Warning) → i < length ws → numbers (filter p (take (i + 1) ws)) ≡ numbers (filter p (take i ws)) ++ cond (p (get_or ws i d)) ((get_or ws i d).number ∷ []) []
passing_more p ws i d h =
    ap (λ vs. numbers (filter p vs)) (take_more ws i d h) ∙ passing-append p (take i ws) (get_or ws i d ∷ []) ∙ ap (λ ns. numbers (filter p (take i ws)) ++ ns) (passing-alone p (get_or ws i d))

pub naming_more : (a : List ℕ) (ws : List Warning) (i : ℕ) (d : Warning) → i < length ws → naming a (take (i + 1) ws) ≡ naming a (take i ws) ++ cond (names a (get_or ws i d)) ((get_or ws i d).number ∷ []) []
naming_more a ws i d h = passing_more (names a) ws i d h

pub naming_one_of_more : (areas : List (List ℕ)) (ws : List Warning) (i : ℕ) (d : Warning) → i < length ws → naming_one_of areas (take (i + 1) ws) ≡ naming_one_of areas (take i ws) ++ cond (names_one_of areas (get_or ws i d)) ((get_or ws i d).number ∷ []) []
naming_one_of_more areas ws i d h = passing_more (names_one_of areas) ws i d h

-- a number is among those of the warnings that pass where one that has it passes
pub numbers_passing : (p : Warning → Bool) (n : ℕ) (ws : List Warning) → list_any (nat_eq n) (numbers (filter p ws)) ≡ is_so n p ws
numbers_passing p n [] = refl
numbers_passing p n (w ∷ ws) = step (numbers_passing p n ws) (p w)
  where
    fails : (t u : Bool) → u ≡ ((t && false) || u)
    fails true u = refl
    fails false u = refl

    passes : (t u v : Bool) → t ≡ u → (t || v) ≡ ((u && true) || v)
    passes true true v e = refl
    passes false false v e = refl
    passes true false v e = cc
    passes false true v e = cc

    step : list_any (nat_eq n) (numbers (filter p ws)) ≡ is_so n p ws → (t : Bool) → list_any (nat_eq n) (numbers (cond t (w ∷ filter p ws) (filter p ws))) ≡ ((nat_eq w.number n && t) || is_so n p ws)
    step rest true = ap (λ t. nat_eq n w.number || t) rest ∙ passes (nat_eq n w.number) (nat_eq w.number n) (is_so n p ws) (turned nat_eq unsigned_Decides n w.number)
    step rest false = rest ∙ fails (nat_eq w.number n) (is_so n p ws)

-- and they ascend
pub numbers_ascend : (p : Warning → Bool) (ws : List Warning) → is_ascending number_lt ws ≡ true → is_ascending ltb (numbers (filter p ws)) ≡ true
numbers_ascend p ws o = ascending_map number_lt ltb (λ (w : Warning). w.number) (λ v w h. h) (filter p ws) (ascending_filter number_lt p ws o)

codes-append : (m : ℕ) (xs ys : List Warning) → codes_of m (xs ++ ys) ≡ codes_of m xs ++ codes_of m ys
codes-append m [] ys = refl
codes-append m (x ∷ xs) ys = ap (λ ns. codes_if m x ++ ns) (codes-append m xs ys) ∙ sym (append_assoc (codes_if m x) (codes_of m xs) (codes_of m ys))

codes-alone : (m : ℕ) (w : Warning) → codes_of m (w ∷ []) ≡ codes_if m w
codes-alone m w = append-nil (codes_if m w)

pub codes_more : (m : ℕ) (ws : List Warning) (i : ℕ) (d : Warning) → i < length ws → codes_of m (take (i + 1) ws) ≡ codes_of m (take i ws) ++ codes_if m (get_or ws i d)
codes_more m ws i d h =
    ap (codes_of m) (take_more ws i d h) ∙ codes-append m (take i ws) (get_or ws i d ∷ []) ∙ ap (λ ns. codes_of m (take i ws) ++ ns) (codes-alone m (get_or ws i d))

-- the content of the version with the serial number
abbrev pub content_with : ℕ → List Version → Option Content
content_with s vs = option_map (λ v. v.content) (find (λ v. nat_eq v.serial s) vs)

content_with-append : (s : ℕ) (xs ys : List Version) → content_with s (xs ++ ys) ≡ option_or (content_with s xs) (content_with s ys)
content_with-append s xs ys = ap (option_map (λ (v : Version). v.content)) (find-append (λ (v : Version). nat_eq v.serial s) xs ys) ∙ step (find (λ (v : Version). nat_eq v.serial s) xs)
  where
    step : (o : Option Version) → option_map (λ (v : Version). v.content) (option_or o (find (λ (v : Version). nat_eq v.serial s) ys)) ≡ option_or (option_map (λ (v : Version). v.content) o) (content_with s ys)
    step None = refl
    step (Some v) = refl

-- what the first warning has is found there, and what it lacks behind it
content_first : (m s : ℕ) (w : Warning) (l : List Warning) (o : Option Content) → o ≡ content_with s (versions_if m w) → content_of m s (w ∷ l) ≡ option_or o (content_of m s l)
content_first m s w l o e = content_with-append s (versions_if m w) (versions_with m l) ∙ ap (λ (p : Option Content). option_or p (content_of m s l)) (sym e)

content_at : (m s : ℕ) (l : List Warning) (i : ℕ) (w : Warning) (o : Option Content) → i < length l → w ≡ get_or l i w → o ≡ content_with s (versions_if m w) → content_of m s (drop i l) ≡ option_or o (content_of m s (drop (i + 1) l))
content_at m s l i w o h g e =
    ap (content_of m s) (drop_more l i w h) ∙ ap (λ (v : Warning). content_of m s (v ∷ drop (i + 1) l)) (sym g) ∙ content_first m s w (drop (i + 1) l) o e

-- the content is found at this warning
pub content_found : (m s : ℕ) (l : List Warning) (i : ℕ) (w : Warning) (x : Content) → content_of m s (drop i l) ≡ content_of m s l → i < length l → w ≡ get_or l i w → Some x ≡ content_with s (versions_if m w) → Some x ≡ content_of m s l
content_found m s l i w x o h g e = sym (content_at m s l i w (Some x) h g e) ∙ o

-- this warning lacks it
pub content_passed : (m s : ℕ) (l : List Warning) (i : ℕ) (w : Warning) → content_of m s (drop i l) ≡ content_of m s l → i < length l → w ≡ get_or l i w → None ≡ content_with s (versions_if m w) → content_of m s (drop (i + 1) l) ≡ content_of m s l
content_passed m s l i w o h g e = sym (content_at m s l i w None h g e) ∙ o

-- the classes beside the names do not matter
pub names_classed : (areas : List ClassedName) (w : Warning) → names_one_of (names_of areas) w ≡ list_any (λ n. names n.name.now w) areas
names_classed [] w = refl
names_classed (n ∷ areas) w = ap (λ t. names n.name.now w || t) (names_classed areas w)
