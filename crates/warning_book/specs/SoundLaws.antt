-- Each edit that nothing forbids leaves the book sound. Crates that recompute the book from their own record of edits
-- cite the last section.
use Rattle.std.proofs.Common.{◌≡◌, ℕ, suc, ◌+◌, ◌<◌, ◌≤◌, Bool, true, false, ◌&&◌, ◌||◌, not, cond, List, [], ◌∷◌, ◌++◌, Option, Some, None, map, nat_eq, nat_le, ltb, length, refl, sym, ap, ◌∙◌, arith, length-append, eq-eqb}
use Rattle.std.specs.Prelude.{bytes_eq}
use Rattle.std.specs.List.{list_any, list_all, filter}
use Rattle.std.specs.Option.{option_to_list}
use Rattle.std.proofs.lemmas.Bool.{and_parts, and_from, or_parts, or_from, not-false}
use Rattle.std.proofs.lemmas.Bool.Decides.{nat_tests}
use Rattle.std.proofs.lemmas.Grind.{common_steps}
use Rattle.std.proofs.lemmas.List.{length-map, map-append}
use Rattle.std.proofs.lemmas.Slice.Eq.{bytes_eq-Decides}
use Rattle.common.specs.OnceLaws.{once_last, once_filter, once_key, kept_whole, length_without_same}
use Rattle.common.specs.Order.{each_once}
use Rattle.common.specs.OrderLaws.{all_same, all_filter, ascending_filter, ascending_last, ascending_map, length_filter}
use Rattle.serials.specs.Serials.{scope_part, code_of}
use Rattle.warning_book.specs.Book.{State, has_number, number_lt, names, is_full, has_one_area, is_of_other_kind, is_so, code_in, kind_of, codes_of, new_serial, new_warning, updated, widened, narrowed, stopped, changed_if, edited, without, after_issue, after_update, after_widen, after_narrow, after_stop, after_forget}
use Rattle.common.specs.CheckLaws.{none_holds}
use Rattle.common.specs.Checks.{first_refusal}
use Rattle.warning_book.specs.Checks.{is_empty, issue_checks, update_checks, widen_checks, narrow_checks}
use Rattle.warning_book.specs.Content.{kind_number, content_kind, is_same_kind, have_pages, has_period}
use Rattle.warning_book.specs.SerialLaws.{new_code_free}
use Rattle.warning_book.specs.Laws.{KeepsNumber, number-edited}
use Rattle.warning_book.specs.Sound.{was_issued, has_areas, is_good, has_contents, has_versions, has_serials, has_one_code, has_one_kind, key_of, is_same_code, is_same_key, IsSound}
use Rattle.warning_book.specs.VersionLaws.{all-last, has_own_code, few_next, once_next, code_next, kind_next, all_next, code_kept}
use Rattle.warning_book.specs.declared.content.Content.{Content}
use Rattle.warning_book.specs.declared.notice.Notice.{Notice}
use Rattle.warning_book.specs.declared.warning.Warning.{Warning}

-- lists

-- names that are each there once: a name takes one with it at most
length-without : (a : List ℕ) (xs : List (List ℕ)) → each_once bytes_eq xs ≡ true → length xs ≤ length (filter (λ b. not (bytes_eq b a)) xs) + 1
length-without a xs o = step (list_any (λ b. bytes_eq b a) xs) refl
  where
    step : (t : Bool) → list_any (λ b. bytes_eq b a) xs ≡ t → length xs ≤ length (filter (λ b. not (bytes_eq b a)) xs) + 1
    step true e = omega (arith, length_without_same bytes_eq bytes_eq-Decides a xs o e)
    step false e = omega (arith, ap length (kept_whole (λ b. bytes_eq b a) xs e))

-- edits of one warning

-- no warning is what none can be
never_so : (n : ℕ) (l : List Warning) → is_so n (λ w. false) l ≡ false
never_so n [] = refl
never_so n (w ∷ l) = step (never_so n l) (has_number n w)
  where
    step : is_so n (λ v. false) l ≡ false → (t : Bool) → ((t && false) || is_so n (λ v. false) l) ≡ false
    step rest true = rest
    step rest false = rest

so_either : (n : ℕ) (f g : Warning → Bool) (l : List Warning) → is_so n f l ≡ false → is_so n g l ≡ false → is_so n (λ w. f w || g w) l ≡ false
so_either n f g [] h k = refl
so_either n f g (w ∷ l) h k = step (so_either n f g l) (has_number n w) h k
  where
    step : (is_so n f l ≡ false → is_so n g l ≡ false → is_so n (λ v. f v || g v) l ≡ false) → (t : Bool) → ((t && f w) || is_so n f l) ≡ false → ((t && g w) || is_so n g l) ≡ false → ((t && (f w || g w)) || is_so n (λ v. f v || g v) l) ≡ false
    step rest true h k =
        let first = or_parts (f w) (is_so n f l) h in
        let second = or_parts (g w) (is_so n g l) k in
        or_from (f w || g w) (is_so n (λ v. f v || g v) l) (or_from (f w) (g w) first.0 second.0) (rest first.1 second.1)
    step rest false h k = rest h k

-- where the warnings pass r and none is as g, an edit that then keeps p keeps it in the list
all-edited : (n : ℕ) (f : Warning → Warning) (g r p : Warning → Bool) → ((w : Warning) → g w ≡ false → r w ≡ true → p w ≡ true → p (f w) ≡ true) → (l : List Warning) → is_so n g l ≡ false → list_all r l ≡ true → list_all p l ≡ true → list_all p (edited n f l) ≡ true
all-edited n f g r p keeps [] so c h = refl
all-edited n f g r p keeps (w ∷ l) so c h = step (all-edited n f g r p keeps l) (has_number n w) so (and_parts (r w) (list_all r l) c) (and_parts (p w) (list_all p l) h)
  where
    step : (is_so n g l ≡ false → list_all r l ≡ true → list_all p l ≡ true → list_all p (edited n f l) ≡ true) → (t : Bool) → ((t && g w) || is_so n g l) ≡ false → (r w ≡ true) × (list_all r l ≡ true) → (p w ≡ true) × (list_all p l ≡ true) → list_all p (cond t (f w) w ∷ edited n f l) ≡ true
    step rest true so beside parts =
        let none = or_parts (g w) (is_so n g l) so in
        and_from (p (f w)) (list_all p (edited n f l)) (keeps w none.0 beside.0 parts.0) (rest none.1 beside.1 parts.1)
    step rest false so beside parts = and_from (p w) (list_all p (edited n f l)) parts.0 (rest so beside.1 parts.1)

map-edited : {K : Type 0} (key : Warning → K) (n : ℕ) (f : Warning → Warning) (g : Warning → Bool) → ((w : Warning) → g w ≡ false → key (f w) ≡ key w) → (l : List Warning) → is_so n g l ≡ false → map key (edited n f l) ≡ map key l
map-edited key n f g keeps [] so = refl
map-edited {K} key n f g keeps (w ∷ l) so = step (map-edited key n f g keeps l) (has_number n w) so
  where
    step : (is_so n g l ≡ false → map key (edited n f l) ≡ map key l) → (t : Bool) → ((t && g w) || is_so n g l) ≡ false → key (cond t (f w) w) ∷ map key (edited n f l) ≡ key w ∷ map key l
    step rest true so =
        let none = or_parts (g w) (is_so n g l) so in
        ap (λ k. k ∷ map key (edited n f l)) (keeps w none.0) ∙ ap (λ ks. key w ∷ ks) (rest none.1)
    step rest false so = ap (λ ks. key w ∷ ks) (rest so)

-- an edit that leaves the numbers leaves the order
order-edited : (n : ℕ) (f : Warning → Warning) → KeepsNumber f → (v w : Warning) → number_lt v w ≡ true → number_lt (changed_if n f v) (changed_if n f w) ≡ true
order-edited n f keeps v w h =
    ap (λ k. ltb k (changed_if n f w).number) (number-edited n f keeps v) ∙ ap (ltb v.number) (number-edited n f keeps w) ∙ h

-- f leaves sound what g does not forbid
pub record Keeps (f : Warning → Warning) (g : Warning → Bool) : Type 0 where
  pub number : KeepsNumber f
  pub areas : (w : Warning) → g w ≡ false → has_areas w ≡ true → has_areas (f w) ≡ true
  pub contents : (w : Warning) → g w ≡ false → has_contents w ≡ true → has_contents (f w) ≡ true
  pub versions : (w : Warning) → g w ≡ false → (has_serials w && has_one_code w) ≡ true → has_versions w ≡ true → has_versions (f w) ≡ true
  pub serials : (w : Warning) → g w ≡ false → has_serials w ≡ true → has_serials (f w) ≡ true
  pub codes : (w : Warning) → g w ≡ false → has_one_code w ≡ true → has_one_code (f w) ≡ true
  pub kinds : (w : Warning) → g w ≡ false → has_one_kind w ≡ true → has_one_kind (f w) ≡ true
  pub key : (w : Warning) → g w ≡ false → key_of (f w) ≡ key_of w

-- the serial numbers stand once, and have one code
abbrev pub has_own_serials : Warning → Bool
has_own_serials w = has_serials w && has_one_code w

both_all : {X : Type 0} (p q : X → Bool) (xs : List X) → list_all p xs ≡ true → list_all q xs ≡ true → list_all (λ x. p x && q x) xs ≡ true
both_all p q [] h g = refl
both_all p q (x ∷ xs) h g =
    let first = and_parts (p x) (list_all p xs) h in
    let second = and_parts (q x) (list_all q xs) g in
    and_from (p x && q x) (list_all (λ y. p y && q y) xs) (and_from (p x) (q x) first.0 second.0) (both_all p q xs first.1 second.1)

sound-edited : (n : ℕ) (f : Warning → Warning) (g : Warning → Bool) (i : ℕ) (l : List Warning) → Keeps f g → is_so n g l ≡ false → IsSound (record { issued = i; warnings = l }) → IsSound (record { issued = i; warnings = edited n f l })
sound-edited n f g i l k so s =
    record {
      ordered = ascending_map number_lt number_lt (changed_if n f) (order-edited n f k.number) l s.ordered;
      given = all-edited n f g has_areas (was_issued i) (λ w h c e. rw (k.number w) e) l so s.areas s.given;
      few = rw (length-map l (changed_if n f)) s.few;
      areas = all-edited n f g has_areas has_areas (λ w h c e. k.areas w h e) l so s.areas s.areas;
      contents = all-edited n f g has_areas has_contents (λ w h c e. k.contents w h e) l so s.areas s.contents;
      versions = all-edited n f g has_own_serials has_versions k.versions l so (both_all has_serials has_one_code l s.serials s.codes) s.versions;
      serials = all-edited n f g has_areas has_serials (λ w h c e. k.serials w h e) l so s.areas s.serials;
      codes = all-edited n f g has_areas has_one_code (λ w h c e. k.codes w h e) l so s.areas s.codes;
      kinds = all-edited n f g has_areas has_one_kind (λ w h c e. k.kinds w h e) l so s.areas s.kinds;
      own_codes = ap (each_once is_same_key) (map-edited key_of n f g k.key l so) ∙ s.own_codes;
    }

-- stop

keeps-stopped : Keeps stopped (λ w. false)
keeps-stopped =
    record {
      number = λ w. refl;
      areas = λ w h e. e;
      contents = λ w h e. e;
      versions = λ w h c e. e;
      serials = λ w h e. e;
      codes = λ w h e. e;
      kinds = λ w h e. e;
      key = λ w h. refl;
    }

pub sound-stopped : (n i : ℕ) (l : List Warning) → IsSound (record { issued = i; warnings = l }) → IsSound (record { issued = i; warnings = edited n stopped l })
sound-stopped n i l s = sound-edited n stopped (λ w. false) i l keeps-stopped (never_so n l) s

-- narrow

areas-narrowed : (a : List ℕ) (w : Warning) → has_one_area w ≡ false → has_areas w ≡ true → has_areas (narrowed a w) ≡ true
areas-narrowed a w h e =
    let parts = and_parts (nat_le 1 (length w.areas) && nat_le (length w.areas) 16) (each_once bytes_eq w.areas) e in
    let rest : each_once bytes_eq (filter (λ b. not (bytes_eq b a)) w.areas) ≡ true = once_filter bytes_eq (λ b. not (bytes_eq b a)) w.areas parts.1 in
    bounds (length w.areas) (length (filter (λ b. not (bytes_eq b a)) w.areas)) (each_once bytes_eq (filter (λ b. not (bytes_eq b a)) w.areas)) h parts.0 rest (length-without a w.areas parts.1) (length_filter (λ b. not (bytes_eq b a)) w.areas)
  where
    bounds : (n k : ℕ) (t : Bool) → nat_le n 1 ≡ false → (nat_le 1 n && nat_le n 16) ≡ true → t ≡ true → n ≤ k + 1 → k ≤ n → ((nat_le 1 k && nat_le k 16) && t) ≡ true
    bounds n k t h e o f g = grind (arith, nat_tests, common_steps)

keeps-narrowed : (a : List ℕ) → Keeps (narrowed a) has_one_area
keeps-narrowed a =
    record {
      number = λ w. refl;
      areas = areas-narrowed a;
      contents = λ w h e. e;
      versions = λ w h c e. e;
      serials = λ w h e. e;
      codes = λ w h e. e;
      kinds = λ w h e. e;
      key = λ w h. refl;
    }

pub sound-narrowed : (n : ℕ) (a : List ℕ) (i : ℕ) (l : List Warning) → is_so n has_one_area l ≡ false → IsSound (record { issued = i; warnings = l }) → IsSound (record { issued = i; warnings = edited n (narrowed a) l })
sound-narrowed n a i l so s = sound-edited n (narrowed a) has_one_area i l (keeps-narrowed a) so s

-- widen

areas-widened : (a : List ℕ) (w : Warning) → (names a w || is_full w) ≡ false → has_areas w ≡ true → has_areas (widened a w) ≡ true
areas-widened a w h e =
    let none = or_parts (names a w) (is_full w) h in
    let parts = and_parts (nat_le 1 (length w.areas) && nat_le (length w.areas) 16) (each_once bytes_eq w.areas) e in
    let once : each_once bytes_eq (w.areas ++ a ∷ []) ≡ true = once_last bytes_eq a w.areas none.0 parts.1 in
    bounds (length w.areas) (length (w.areas ++ a ∷ [])) (each_once bytes_eq (w.areas ++ a ∷ [])) none.1 once (length-append w.areas (a ∷ []))
  where
    bounds : (n k : ℕ) (t : Bool) → nat_le 16 n ≡ false → t ≡ true → k ≡ n + 1 → ((nat_le 1 k && nat_le k 16) && t) ≡ true
    bounds n k t h o f = grind (arith, nat_tests, common_steps)

keeps-widened : (a : List ℕ) → Keeps (widened a) (λ w. names a w || is_full w)
keeps-widened a =
    record {
      number = λ w. refl;
      areas = areas-widened a;
      contents = λ w h e. e;
      versions = λ w h c e. e;
      serials = λ w h e. e;
      codes = λ w h e. e;
      kinds = λ w h e. e;
      key = λ w h. refl;
    }

pub sound-widened : (n : ℕ) (a : List ℕ) (i : ℕ) (l : List Warning) → is_so n (names a) l ≡ false → is_so n is_full l ≡ false → IsSound (record { issued = i; warnings = l }) → IsSound (record { issued = i; warnings = edited n (widened a) l })
sound-widened n a i l so full s =
    sound-edited n (widened a) (λ w. names a w || is_full w) i l (keeps-widened a) (so_either n (names a) is_full l so full) s

-- update

keeps-updated : (c : Content) → have_pages c ≡ true → has_period c ≡ true → Keeps (updated c) (is_of_other_kind c)
keeps-updated c good period =
    record {
      number = λ w. refl;
      areas = λ w h e. e;
      contents = λ w h e. all_next is_good c w.versions (λ s. and_from (have_pages c) (has_period c) good period) e;
      versions = λ w h own e. let parts = and_parts (has_serials w) (has_one_code w) own in few_next c w.versions parts.1 parts.0 e;
      serials = λ w h e. once_next c w.versions e;
      codes = λ w h e. code_next c w.versions e;
      kinds = λ w h e. kind_next c w.versions (not-false (is_same_kind (content_kind c) (kind_of w)) h) e;
      key = λ w h. ap (λ (k : Option ℕ). (w.message_id, k)) (code_kept c w.versions);
    }

pub sound-updated : (n : ℕ) (c : Content) (i : ℕ) (l : List Warning) → have_pages c ≡ true → has_period c ≡ true → is_so n (is_of_other_kind c) l ≡ false → IsSound (record { issued = i; warnings = l }) → IsSound (record { issued = i; warnings = edited n (updated c) l })
sound-updated n c i l good period same s = sound-edited n (updated c) (is_of_other_kind c) i l (keeps-updated c good period) same s

-- forget

pub sound-without : (n i : ℕ) (l : List Warning) → IsSound (record { issued = i; warnings = l }) → IsSound (record { issued = i; warnings = without n l })
sound-without n i l s =
    record {
      ordered = ascending_filter number_lt (λ w. not (has_number n w)) l s.ordered;
      given = all_filter (was_issued i) (λ w. not (has_number n w)) l s.given;
      few = let fewer = length_filter (λ (w : Warning). not (has_number n w)) l in let all = s.few in omega arith;
      areas = all_filter has_areas (λ w. not (has_number n w)) l s.areas;
      contents = all_filter has_contents (λ w. not (has_number n w)) l s.contents;
      versions = all_filter has_versions (λ w. not (has_number n w)) l s.versions;
      serials = all_filter has_serials (λ w. not (has_number n w)) l s.serials;
      codes = all_filter has_one_code (λ w. not (has_number n w)) l s.codes;
      kinds = all_filter has_one_kind (λ w. not (has_number n w)) l s.kinds;
      own_codes = once_key is_same_key key_of (without n l) ∙ once_filter (λ v w. is_same_key (key_of v) (key_of w)) (λ w. not (has_number n w)) l (sym (once_key is_same_key key_of l) ∙ s.own_codes);
    }

-- issue

-- each number that was given is less than the next
all_earlier : (i : ℕ) (w : Warning) (l : List Warning) → w.number ≡ i + 1 → list_all (was_issued i) l ≡ true → list_all (λ v. number_lt v w) l ≡ true
all_earlier i w l e h = all_same (was_issued i) (λ v. number_lt v w) (λ v g. below v.number w.number i e g) l h
  where
    below : (k m n : ℕ) → m ≡ n + 1 → (nat_le 1 k && nat_le k n) ≡ true → ltb k m ≡ true
    below k m n e h = grind (arith, nat_tests, common_steps)

-- a code that is free is no other warning's
no_same_key : (m code : ℕ) (l : List Warning) → list_any (nat_eq code) (codes_of m l) ≡ false → list_any (λ k. is_same_key k (m, Some code)) (map key_of l) ≡ false
no_same_key m code [] h = refl
no_same_key m code (w ∷ l) h = step (no_same_key m code l) (nat_eq w.message_id m) (code_in w) h
  where
    turned : (j k : ℕ) → nat_eq j k ≡ false → nat_eq k j ≡ false
    turned j k h = grind (arith, nat_tests, common_steps)

    step : (list_any (nat_eq code) (codes_of m l) ≡ false → list_any (λ k. is_same_key k (m, Some code)) (map key_of l) ≡ false) → (t : Bool) (o : Option ℕ) → list_any (nat_eq code) (cond t (option_to_list o) [] ++ codes_of m l) ≡ false → ((t && is_same_code o (Some code)) || list_any (λ k. is_same_key k (m, Some code)) (map key_of l)) ≡ false
    step rest true (Some c) e =
        let parts = or_parts (nat_eq code c) (list_any (nat_eq code) (codes_of m l)) e in
        or_from (nat_eq c code) (list_any (λ k. is_same_key k (m, Some code)) (map key_of l)) (turned code c parts.0) (rest parts.1)
    step rest true None e = rest e
    step rest false o e = rest e

new_areas : (areas : List (List ℕ)) → is_empty areas ≡ false → each_once bytes_eq areas ≡ true → length areas ≤ 16 → ((nat_le 1 (length areas) && nat_le (length areas) 16) && each_once bytes_eq areas) ≡ true
new_areas [] e h g = cc
new_areas (a ∷ areas) e h g = bounds (length areas) (each_once bytes_eq (a ∷ areas)) h g
  where
    bounds : (n : ℕ) (t : Bool) → t ≡ true → suc n ≤ 16 → ((nat_le 1 (suc n) && nat_le (suc n) 16) && t) ≡ true
    bounds n t h g = grind (arith, nat_tests, common_steps)

was_issued-more : (i : ℕ) (w : Warning) → was_issued i w ≡ true → was_issued (i + 1) w ≡ true
was_issued-more i w h = more w.number i h
  where
    more : (k n : ℕ) → (nat_le 1 k && nat_le k n) ≡ true → (nat_le 1 k && nat_le k (n + 1)) ≡ true
    more k n h = grind (arith, nat_tests, common_steps)

was_issued-new : (i : ℕ) → (nat_le 1 (i + 1) && nat_le (i + 1) (i + 1)) ≡ true
was_issued-new i = grind (arith, nat_tests, common_steps)

-- what is asked of a new warning
pub record IsNew (l : List Warning) (notice : Notice) (areas : List (List ℕ)) (serial : ℕ) : Type 0 where
  pub some : is_empty areas ≡ false
  pub once : each_once bytes_eq areas ≡ true
  pub few : length areas ≤ 16
  pub pages : have_pages notice.content ≡ true
  pub period : has_period notice.content ≡ true
  pub room : length l < 256
  pub free : list_any (nat_eq (code_of serial)) (codes_of notice.message_id l) ≡ false

-- a content has its own kind
own_kind : (c : Content) → is_same_kind (content_kind c) (content_kind c) ≡ true
own_kind c = eq-eqb (kind_number (content_kind c)) (kind_number (content_kind c)) refl

pub sound-issue : (i : ℕ) (l : List Warning) (notice : Notice) (areas : List (List ℕ)) (serial : ℕ) → IsNew l notice areas serial → IsSound (record { issued = i; warnings = l }) → IsSound (record { issued = i + 1; warnings = l ++ new_warning (i + 1) notice areas serial ∷ [] })
sound-issue i l notice areas serial new s =
    let w : Warning = new_warning (i + 1) notice areas serial in
    record {
      ordered = ascending_last number_lt w l (all_earlier i w l refl s.given) s.ordered;
      given = all-last (was_issued (i + 1)) w l (all_same (was_issued i) (was_issued (i + 1)) (was_issued-more i) l s.given) (was_issued-new i);
      few = let room = new.room in omega (arith, length-append l (w ∷ []));
      areas = all-last has_areas w l s.areas (new_areas areas new.some new.once new.few);
      contents = all-last has_contents w l s.contents (and_from (have_pages notice.content && has_period notice.content) true (and_from (have_pages notice.content) (has_period notice.content) new.pages new.period) refl);
      versions = all-last has_versions w l s.versions refl;
      serials = all-last has_serials w l s.serials refl;
      codes = all-last has_one_code w l s.codes (and_from (nat_eq (scope_part serial) (scope_part serial) && nat_eq (code_of serial) (code_of serial)) true (has_own_code serial) refl);
      kinds = all-last has_one_kind w l s.kinds (and_from (is_same_kind (content_kind notice.content) (content_kind notice.content)) true (own_kind notice.content) refl);
      own_codes = ap (each_once is_same_key) (map-append key_of l (w ∷ [])) ∙ once_last is_same_key (notice.message_id, Some (code_of serial)) (map key_of l) (no_same_key notice.message_id (code_of serial) l new.free) s.own_codes;
    }

-- an edit none of whose checks holds

pub sound_after_issue : (st : State) (notice : Notice) (areas : List (List ℕ)) (serial : ℕ) → first_refusal (issue_checks st notice areas) ≡ None → new_serial st notice ≡ Some serial → IsSound st → IsSound (after_issue notice areas serial st)
sound_after_issue st notice areas serial checked given sound =
    let none = none_holds (issue_checks st notice areas) checked in
    sound-issue st.issued st.warnings notice areas serial
    (record {
      some = none.0;
      once = not-false (each_once bytes_eq areas) none.1.0;
      few = few (length areas) none.1.1.1.1.1.0;
      pages = not-false (have_pages notice.content) none.1.1.0;
      period = not-false (has_period notice.content) none.1.1.1.0;
      room = room (length st.warnings) none.1.1.1.1.0;
      free = new_code_free st.issued st.warnings notice serial given;
    })
    sound
  where
    few : (n : ℕ) → ltb 16 n ≡ false → n ≤ 16
    few n h = grind (arith, nat_tests, common_steps)

    room : (n : ℕ) → nat_le 256 n ≡ false → n < 256
    room n h = grind (arith, nat_tests, common_steps)

pub sound_after_update : (st : State) (n : ℕ) (content : Content) → first_refusal (update_checks st n content) ≡ None → IsSound st → IsSound (after_update n content st)
sound_after_update st n content checked sound =
    let none = none_holds (update_checks st n content) checked in
    sound-updated n content st.issued st.warnings (not-false (have_pages content) none.1.1.0) (not-false (has_period content) none.1.1.1.0) none.1.1.1.1.0 sound

pub sound_after_widen : (st : State) (n : ℕ) (a : List ℕ) → first_refusal (widen_checks st n a) ≡ None → IsSound st → IsSound (after_widen n a st)
sound_after_widen st n a checked sound =
    let none = none_holds (widen_checks st n a) checked in
    sound-widened n a st.issued st.warnings none.1.1.0 none.1.1.1.0 sound

pub sound_after_narrow : (st : State) (n : ℕ) (a : List ℕ) → first_refusal (narrow_checks st n a) ≡ None → IsSound st → IsSound (after_narrow n a st)
sound_after_narrow st n a checked sound =
    let none = none_holds (narrow_checks st n a) checked in
    sound-narrowed n a st.issued st.warnings none.1.1.1.0 sound

pub sound_after_stop : (st : State) (n : ℕ) → IsSound st → IsSound (after_stop n st)
sound_after_stop st n sound = sound-stopped n st.issued st.warnings sound

pub sound_after_forget : (st : State) (n : ℕ) → IsSound st → IsSound (after_forget n st)
sound_after_forget st n sound = sound-without n st.issued st.warnings sound
