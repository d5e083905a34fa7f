-- The versions of a warning: the current one is among them, one more leaves what holds of them, and the last two
-- sections are for crates above.
use Rattle.std.proofs.Common.{◌≡◌, ℕ, zero, suc, ◌+◌, ◌<◌, ◌≤◌, Bool, true, false, ◌&&◌, ◌||◌, not, cond, List, [], ◌∷◌, ◌++◌, Option, Some, None, map, nat_eq, nat_le, ltb, length, refl, sym, ap, ◌∙◌, arith, length-append, eqb-true, eq-eqb}
use Rattle.std.specs.List.{list_any, list_all, filter, last_or}
use Rattle.std.specs.Option.{is_some, option_map}
use Rattle.std.proofs.lemmas.Bool.{and_parts, and_from, or_parts, or_from, or_left, not-true}
use Rattle.std.proofs.lemmas.Bool.Decides.{nat_tests}
use Rattle.std.proofs.lemmas.Grind.{common_steps}
use Rattle.std.proofs.lemmas.List.Folds.{list_all-append}
use Rattle.common.specs.OnceLaws.{once_last, once_filter, once_key, length_without_once}
use Rattle.common.specs.Order.{each_once}
use Rattle.common.specs.OrderLaws.{all_same, all_filter, all_besides}
use Rattle.common.specs.Sums.{one, count_of}
use Rattle.serials.specs.Laws.{next_scope, next_code, same_serial}
use Rattle.serials.specs.Serials.{scope_part, code_of, update_of, next_of}
use Rattle.warning_book.specs.Book.{last_serial, current_of, code_in, has_number, has_none, is_so, has_serial, but_serial, followed, first_kind, version_after, with_next}
use Rattle.warning_book.specs.Content.{kind_number, content_kind, is_same_kind}
use Rattle.warning_book.specs.Sound.{are_few, stand_once, shares_code, share_code, has_versions, has_one_code, has_kind, share_kind, key_of, is_same_code, is_same_key}
use Rattle.warning_book.specs.declared.content.Content.{Content}
use Rattle.warning_book.specs.declared.kind.Kind.{Kind}
use Rattle.warning_book.specs.declared.version.Version.{Version}
use Rattle.warning_book.specs.declared.warning.Warning.{Warning}

-- lists

pub all-last : {X : Type 0} (p : X → Bool) (x : X) (xs : List X) → list_all p xs ≡ true → p x ≡ true → list_all p (xs ++ x ∷ []) ≡ true
all-last p x xs h e = list_all-append p xs (x ∷ []) ∙ and_from (list_all p xs) (p x && true) h (and_from (p x) true e refl)

pub last_more : {X : Type 0} (o : Option X) (xs : List X) (x : X) → last_or o (xs ++ x ∷ []) ≡ Some x
last_more o [] x = refl
last_more o (y ∷ xs) x = last_more (Some y) xs x

or_second : (a b : Bool) → b ≡ true → (a || b) ≡ true
or_second true b h = refl
or_second false b h = h

-- the current version

among_from : (u : Version) (vs : List Version) (s : ℕ) → option_map (λ v. v.serial) (last_or (Some u) vs) ≡ Some s → list_any (λ v. nat_eq v.serial s) (u ∷ vs) ≡ true
among_from u [] s h = let same : u.serial ≡ s = cc in or_left (nat_eq u.serial s) false (eq-eqb u.serial s same)
among_from u (v ∷ vs) s h = or_second (nat_eq u.serial s) (list_any (λ x. nat_eq x.serial s) (v ∷ vs)) (among_from v vs s h)

among : (vs : List Version) (s : ℕ) → last_serial vs ≡ Some s → list_any (λ v. nat_eq v.serial s) vs ≡ true
among [] s h = cc
among (v ∷ vs) s h = among_from v vs s h

-- the current version of a warning is one of its versions
pub current_among : (w : Warning) (s : ℕ) → current_of w ≡ Some s → list_any (λ v. nat_eq v.serial s) w.versions ≡ true
current_among w s h = among w.versions s h

-- where there is a version, there is a current one

last_there : (u : Version) (vs : List Version) → is_some (option_map (λ (v : Version). v.serial) (last_or (Some u) vs)) ≡ true
last_there u [] = refl
last_there u (v ∷ vs) = last_there v vs

some_current : (vs : List Version) → are_few vs ≡ true → not (is_some (last_serial vs)) ≡ false
some_current [] h = cc
some_current (v ∷ vs) h = ap not (last_there v vs)

-- no warning in a sound book is without a version
pub none_empty : (n : ℕ) (l : List Warning) → list_all has_versions l ≡ true → is_so n has_none l ≡ false
none_empty n [] h = refl
none_empty n (w ∷ l) h =
    let parts = and_parts (has_versions w) (list_all has_versions l) h in
    or_from (has_number n w && has_none w) (is_so n has_none l) (neither (has_number n w) (has_none w) (some_current w.versions parts.0)) (none_empty n l parts.1)
  where
    neither : (a b : Bool) → b ≡ false → (a && b) ≡ false
    neither true b h = h
    neither false b h = refl

-- versions of one code

-- a test that is finer than another on these elements finds no more of them the same
once_under : {X : Type 0} (p : X → Bool) (fine coarse : X → X → Bool) → ((x y : X) → p x ≡ true → p y ≡ true → coarse x y ≡ true → fine x y ≡ true) → (xs : List X) → list_all p xs ≡ true → each_once fine xs ≡ true → each_once coarse xs ≡ true
once_under p fine coarse finer [] good once = refl
once_under {X} p fine coarse finer (x ∷ xs) good once =
    let goods = and_parts (p x) (list_all p xs) good in
    let parts = and_parts (not (list_any (fine x) xs)) (each_once fine xs) once in
    and_from (not (list_any (coarse x) xs)) (each_once coarse xs) (ap not (none xs goods.1 (not-true (list_any (fine x) xs) parts.0) goods.0)) (once_under p fine coarse finer xs goods.1 parts.1)
  where
    apart : (y : X) → p x ≡ true → p y ≡ true → fine x y ≡ false → (t : Bool) → coarse x y ≡ t → t ≡ false
    apart y g h e true f = let no : true ≡ false = sym (finer x y g h f) ∙ e in cc
    apart y g h e false f = refl

    none : (ys : List X) → list_all p ys ≡ true → list_any (fine x) ys ≡ false → p x ≡ true → list_any (coarse x) ys ≡ false
    none [] h e g = refl
    none (y ∷ ys) h e g =
        let goods = and_parts (p y) (list_all p ys) h in
        let parts = or_parts (fine x y) (list_any (fine x) ys) e in
        or_from (coarse x y) (list_any (coarse x) ys) (apart y g goods.0 parts.0 (coarse x y) refl) (none ys goods.1 parts.1 g)

-- both have one update number
abbrev pub same_update : Version → Version → Bool
same_update v w = nat_eq (update_of w.serial) (update_of v.serial)

one_serial : (a : ℕ) (v w : Version) → shares_code (Some a) v ≡ true → shares_code (Some a) w ≡ true → same_update v w ≡ true → nat_eq v.serial w.serial ≡ true
one_serial a v w h g e =
    let first = and_parts (nat_eq (scope_part v.serial) (scope_part a)) (nat_eq (code_of v.serial) (code_of a)) h in
    let second = and_parts (nat_eq (scope_part w.serial) (scope_part a)) (nat_eq (code_of w.serial) (code_of a)) g in
    eq-eqb v.serial w.serial (same_serial v.serial w.serial
    (eqb-true (scope_part v.serial) (scope_part a) first.0 ∙ sym (eqb-true (scope_part w.serial) (scope_part a) second.0))
    (eqb-true (code_of v.serial) (code_of a) first.1 ∙ sym (eqb-true (code_of w.serial) (code_of a) second.1))
    (sym (eqb-true (update_of w.serial) (update_of v.serial) e)))

-- versions of one code whose serial numbers stand once have each another update number
pub updates_apart : (vs : List Version) → share_code vs ≡ true → stand_once vs ≡ true → each_once same_update vs ≡ true
updates_apart vs shared once = step (last_serial vs) shared
  where
    by_serial : each_once (λ (v w : Version). nat_eq v.serial w.serial) vs ≡ true
    by_serial = sym (once_key nat_eq (λ (v : Version). v.serial) vs) ∙ once

    unshared : (xs : List Version) → list_all (shares_code None) xs ≡ true → each_once same_update xs ≡ true
    unshared [] h = refl
    unshared (x ∷ xs) h = cc

    step : (o : Option ℕ) → list_all (shares_code o) vs ≡ true → each_once same_update vs ≡ true
    step None h = unshared vs h
    step (Some a) h = once_under (shares_code (Some a)) (λ v w. nat_eq v.serial w.serial) same_update (one_serial a) vs h by_serial

-- the version's update number is less
abbrev is_below : ℕ → Version → Bool
is_below n v = ltb (update_of v.serial) n

each_below : (vs : List Version) → list_all (is_below 16) vs ≡ true
each_below [] = refl
each_below (v ∷ vs) = and_from (is_below 16 v) (list_all (is_below 16) vs) (below (update_of v.serial) (omega arith)) (each_below vs)
  where
    below : (u : ℕ) → u < 16 → ltb u 16 ≡ true
    below u h = grind (arith, nat_tests, common_steps)

-- of each update number below n one stands there at most
at_most : (n : ℕ) (vs : List Version) → each_once same_update vs ≡ true → list_all (is_below n) vs ≡ true → length vs ≤ n
at_most zero [] once low = omega arith
at_most zero (v ∷ vs) once low = let no : false ≡ true = sym (none (update_of v.serial)) ∙ (and_parts (is_below zero v) (list_all (is_below zero) vs) low).0 in cc
  where
    none : (u : ℕ) → ltb u 0 ≡ false
    none u = grind (arith, nat_tests, common_steps)
at_most (suc n) vs once low = step (at_most n) (list_any last vs) refl
  where
    last : Version → Bool
    last v = nat_eq (update_of v.serial) n

    both : (v w : Version) → last v ≡ true → last w ≡ true → same_update v w ≡ true
    both v w h g = eq-eqb (update_of w.serial) (update_of v.serial) (eqb-true (update_of w.serial) n g ∙ sym (eqb-true (update_of v.serial) n h))

    lower : (u : ℕ) → ltb u (suc n) ≡ true → nat_eq u n ≡ false → ltb u n ≡ true
    lower u h g = grind (arith, nat_tests, common_steps)

    step : ((ws : List Version) → each_once same_update ws ≡ true → list_all (is_below n) ws ≡ true → length ws ≤ n) → (t : Bool) → list_any last vs ≡ t → length vs ≤ suc n
    step smaller true e =
        let rest : List Version = filter (λ v. not (last v)) vs in
        let fewer : length rest ≤ n = smaller rest (once_filter same_update (λ v. not (last v)) vs once) (all_kept vs low) in
        let one_less : length vs ≡ length rest + 1 = length_without_once same_update last both vs once e in
        omega arith
      where
        all_kept : (xs : List Version) → list_all (is_below (suc n)) xs ≡ true → list_all (is_below n) (filter (λ v. not (last v)) xs) ≡ true
        all_kept [] h = refl
        all_kept (x ∷ xs) h =
            let parts = and_parts (is_below (suc n) x) (list_all (is_below (suc n)) xs) h in
            one (all_kept xs parts.1) (last x) refl parts.0
          where
            one : list_all (is_below n) (filter (λ v. not (last v)) xs) ≡ true → (t : Bool) → last x ≡ t → is_below (suc n) x ≡ true → list_all (is_below n) (cond (not t) (x ∷ filter (λ v. not (last v)) xs) (filter (λ v. not (last v)) xs)) ≡ true
            one rest true f g = rest
            one rest false f g = and_from (is_below n x) (list_all (is_below n) (filter (λ v. not (last v)) xs)) (lower (update_of x.serial) g f) rest
    step smaller false e = let fewer : length vs ≤ n = smaller vs once (all_besides (is_below (suc n)) last (is_below n) (λ v h g. lower (update_of v.serial) h g) vs low e) in omega arith

-- so they are sixteen at most
pub sixteen : (vs : List Version) → share_code vs ≡ true → stand_once vs ≡ true → length vs ≤ 16
sixteen vs shared once = at_most 16 vs (updates_apart vs shared once) (each_below vs)

-- one more version, and without the one that has its serial number

-- what each next version keeps is kept
next_keeps : (p : List Version → Bool) (content : Content) (vs : List Version) → ((s : ℕ) → last_serial vs ≡ Some s → p vs ≡ true → p (but_serial (next_of s) vs ++ version_after content s ∷ []) ≡ true) → p vs ≡ true → p (with_next content vs) ≡ true
next_keeps p content vs keeps h = step (last_serial vs) refl
  where
    step : (o : Option ℕ) → last_serial vs ≡ o → p (followed content o vs) ≡ true
    step None e = h
    step (Some s) e = keeps s e h

none_left : (s : ℕ) (vs : List Version) → list_any (λ (v : Version). nat_eq v.serial s) (but_serial s vs) ≡ false
none_left s [] = refl
none_left s (v ∷ vs) = step (none_left s vs) (nat_eq v.serial s) refl
  where
    step : list_any (λ (u : Version). nat_eq u.serial s) (but_serial s vs) ≡ false → (t : Bool) → nat_eq v.serial s ≡ t → list_any (λ (u : Version). nat_eq u.serial s) (cond (not t) (v ∷ but_serial s vs) (but_serial s vs)) ≡ false
    step rest true e = rest
    step rest false e = or_from (nat_eq v.serial s) (list_any (λ (u : Version). nat_eq u.serial s) (but_serial s vs)) e rest

pub once_next : (content : Content) (vs : List Version) → stand_once vs ≡ true → stand_once (with_next content vs) ≡ true
once_next content vs once =
    next_keeps stand_once content vs
    (λ s e h. once_key nat_eq (λ (v : Version). v.serial) (but_serial (next_of s) vs ++ version_after content s ∷ []) ∙ once_last (λ (v w : Version). nat_eq v.serial w.serial) (version_after content s) (but_serial (next_of s) vs) (none_left (next_of s) vs) (once_filter (λ (v w : Version). nat_eq v.serial w.serial) (λ v. not (has_serial (next_of s) v)) vs (sym (once_key nat_eq (λ (v : Version). v.serial) vs) ∙ h)))
    once

-- a serial number has its own scope and code
pub has_own_code : (n : ℕ) → (nat_eq (scope_part n) (scope_part n) && nat_eq (code_of n) (code_of n)) ≡ true
has_own_code n = and_from (nat_eq (scope_part n) (scope_part n)) (nat_eq (code_of n) (code_of n)) (eq-eqb (scope_part n) (scope_part n) refl) (eq-eqb (code_of n) (code_of n) refl)

pub code_next : (content : Content) (vs : List Version) → share_code vs ≡ true → share_code (with_next content vs) ≡ true
code_next content vs shared =
    next_keeps share_code content vs
    (λ s e h. ap (λ o. list_all (shares_code o) (but_serial (next_of s) vs ++ version_after content s ∷ [])) (ap (option_map (λ (v : Version). v.serial)) (last_more None (but_serial (next_of s) vs) (version_after content s))) ∙ all-last (shares_code (Some (next_of s))) (version_after content s) (but_serial (next_of s) vs) (all_filter (shares_code (Some (next_of s))) (λ v. not (has_serial (next_of s) v)) vs (all_same (shares_code (Some s)) (shares_code (Some (next_of s))) (λ v k. still s v k) vs (sym (ap (λ o. list_all (shares_code o) vs) e) ∙ h))) (has_own_code (next_of s)))
    shared
  where
    still : (s : ℕ) (v : Version) → shares_code (Some s) v ≡ true → shares_code (Some (next_of s)) v ≡ true
    still s v k =
        ap (λ (n : ℕ). nat_eq (scope_part v.serial) n && nat_eq (code_of v.serial) (code_of (next_of s))) (next_scope s)
        ∙ ap (λ (n : ℕ). nat_eq (scope_part v.serial) (scope_part s) && nat_eq (code_of v.serial) n) (next_code s)
        ∙ k

pub few_next : (content : Content) (vs : List Version) → share_code vs ≡ true → stand_once vs ≡ true → are_few vs ≡ true → are_few (with_next content vs) ≡ true
few_next content vs shared once few =
    bounds (length (with_next content vs)) (some_left (last_serial vs) refl) (sixteen (with_next content vs) (code_next content vs shared) (once_next content vs once))
  where
    bounds : (k : ℕ) → 1 ≤ k → k ≤ 16 → (nat_le 1 k && nat_le k 16) ≡ true
    bounds k h g = grind (arith, nat_tests, common_steps)

    first : (k : ℕ) → (nat_le 1 k && nat_le k 16) ≡ true → 1 ≤ k
    first k h = grind (arith, nat_tests, common_steps)

    some_left : (o : Option ℕ) → last_serial vs ≡ o → 1 ≤ length (followed content o vs)
    some_left None e = first (length vs) few
    some_left (Some s) e = omega (arith, length-append (but_serial (next_of s) vs) (version_after content s ∷ []))

pub all_next : (p : Version → Bool) (content : Content) (vs : List Version) → ((s : ℕ) → p (version_after content s) ≡ true) → list_all p vs ≡ true → list_all p (with_next content vs) ≡ true
all_next p content vs good h =
    next_keeps (list_all p) content vs (λ s e k. all-last p (version_after content s) (but_serial (next_of s) vs) (all_filter p (λ v. not (has_serial (next_of s) v)) vs k) (good s)) h

-- versions of one kind have the kind of their first
kind_shared : (k : Kind) (vs : List Version) → list_all (has_kind k) vs ≡ true → share_kind vs ≡ true
kind_shared k [] h = refl
kind_shared k (v ∷ vs) h =
    let first = and_parts (has_kind k v) (list_all (has_kind k) vs) h in
    all_same (has_kind k) (has_kind (content_kind v.content)) (λ u g. eq-eqb (kind_number (content_kind u.content)) (kind_number (content_kind v.content)) (eqb-true (kind_number (content_kind u.content)) (kind_number k) g ∙ sym (eqb-true (kind_number (content_kind v.content)) (kind_number k) first.0))) (v ∷ vs) h

-- a next version of the first one's kind is of the kind that the others have
pub kind_next : (content : Content) (vs : List Version) → is_same_kind (content_kind content) (first_kind vs) ≡ true → share_kind vs ≡ true → share_kind (with_next content vs) ≡ true
kind_next content vs same h =
    kind_shared (first_kind vs) (with_next content vs) (all_next (has_kind (first_kind vs)) content vs (λ s. same) h)

-- the current version keeps the code
pub code_kept : (content : Content) (vs : List Version) → option_map code_of (last_serial (with_next content vs)) ≡ option_map code_of (last_serial vs)
code_kept content vs = step (last_serial vs) refl
  where
    step : (o : Option ℕ) → last_serial vs ≡ o → option_map code_of (last_serial (followed content o vs)) ≡ option_map code_of o
    step None e = ap (option_map code_of) e
    step (Some s) e =
        ap (λ (o : Option Version). option_map code_of (option_map (λ (v : Version). v.serial) o)) (last_more None (but_serial (next_of s) vs) (version_after content s)) ∙ ap (λ (k : ℕ). Some k) (next_code s)

-- the versions of a serial number

-- no version has the serial number where it isn't among the serial numbers
none_counted : (vs : List Version) (s : ℕ) → list_any (nat_eq s) (map (λ (v : Version). v.serial) vs) ≡ false → count_of (λ v. nat_eq v.serial s) vs ≡ 0
none_counted [] s h = refl
none_counted (v ∷ vs) s h =
    let parts = or_parts (nat_eq s v.serial) (list_any (nat_eq s) (map (λ (u : Version). u.serial) vs)) h in
    let here : nat_eq v.serial s ≡ false = turned s v.serial parts.0 in
    let rest : count_of (λ u. nat_eq u.serial s) vs ≡ 0 = none_counted vs s parts.1 in
    added (one (nat_eq v.serial s)) (count_of (λ u. nat_eq u.serial s) vs) (ap one here) rest
  where
    turned : (j k : ℕ) → nat_eq j k ≡ false → nat_eq k j ≡ false
    turned j k h = grind (arith, nat_tests, common_steps)

    added : (a b : ℕ) → a ≡ 0 → b ≡ 0 → a + b ≡ 0
    added a b e f = omega arith

-- where each serial number stands once, one version has it at most
pub one_version : (vs : List Version) (s : ℕ) → stand_once vs ≡ true → count_of (λ v. nat_eq v.serial s) vs ≤ 1
one_version [] s h = omega arith
one_version (v ∷ vs) s h =
    step (one_version vs s parts.1) (nat_eq v.serial s) refl
  where
    parts : (not (list_any (nat_eq v.serial) (map (λ (u : Version). u.serial) vs)) ≡ true) × (stand_once vs ≡ true)
    parts = and_parts (not (list_any (nat_eq v.serial) (map (λ (u : Version). u.serial) vs))) (stand_once vs) h

    last : (n : ℕ) → n ≡ 0 → 1 + n ≤ 1
    last n h = omega arith

    rest_of : (n : ℕ) → n ≤ 1 → 0 + n ≤ 1
    rest_of n h = omega arith

    step : count_of (λ u. nat_eq u.serial s) vs ≤ 1 → (t : Bool) → nat_eq v.serial s ≡ t → one t + count_of (λ u. nat_eq u.serial s) vs ≤ 1
    step rest true e =
        let same : v.serial ≡ s = eqb-true v.serial s e in
        let none : list_any (nat_eq s) (map (λ (u : Version). u.serial) vs) ≡ false = ap (λ (k : ℕ). list_any (nat_eq k) (map (λ (u : Version). u.serial) vs)) (sym same) ∙ not-true (list_any (nat_eq v.serial) (map (λ (u : Version). u.serial) vs)) parts.0 in
        let rest_none : count_of (λ u. nat_eq u.serial s) vs ≡ 0 = none_counted vs s none in
        last (count_of (λ u. nat_eq u.serial s) vs) rest_none
    step rest false e = rest_of (count_of (λ u. nat_eq u.serial s) vs) rest

-- the code of a serial number that one of a warning's versions has

code_in_list : (vs : List Version) (o : Option ℕ) (s : ℕ) → list_all (shares_code o) vs ≡ true → list_any (λ v. nat_eq v.serial s) vs ≡ true → is_same_code (option_map code_of o) (Some (code_of s)) ≡ true
code_in_list [] o s h g = cc
code_in_list (v ∷ vs) o s h g = step (code_in_list vs o s) (and_parts (shares_code o v) (list_all (shares_code o) vs) h) (nat_eq v.serial s) refl g
  where
    here : (p : Option ℕ) → shares_code p v ≡ true → v.serial ≡ s → is_same_code (option_map code_of p) (Some (code_of s)) ≡ true
    here None e same = cc
    here (Some k) e same =
        let parts = and_parts (nat_eq (scope_part v.serial) (scope_part k)) (nat_eq (code_of v.serial) (code_of k)) e in
        eq-eqb (code_of k) (code_of s) (sym (eqb-true (code_of v.serial) (code_of k) parts.1) ∙ ap code_of same)

    step : (list_all (shares_code o) vs ≡ true → list_any (λ u. nat_eq u.serial s) vs ≡ true → is_same_code (option_map code_of o) (Some (code_of s)) ≡ true) → (shares_code o v ≡ true) × (list_all (shares_code o) vs ≡ true) → (t : Bool) → nat_eq v.serial s ≡ t → (t || list_any (λ u. nat_eq u.serial s) vs) ≡ true → is_same_code (option_map code_of o) (Some (code_of s)) ≡ true
    step rest parts true e f = here o parts.0 (eqb-true v.serial s e)
    step rest parts false e f = rest parts.1 f

-- a warning with the message identifier and a version of the serial number has their key
pub key_among : (m s : ℕ) (w : Warning) → has_one_code w ≡ true → nat_eq w.message_id m ≡ true → list_any (λ v. nat_eq v.serial s) w.versions ≡ true → is_same_key (key_of w) (m, Some (code_of s)) ≡ true
key_among m s w codes same there =
    and_from (nat_eq w.message_id m) (is_same_code (code_in w) (Some (code_of s))) same (code_in_list w.versions (current_of w) s codes there)

-- two that are the same as a third are the same
codes_meet : (o p : Option ℕ) (c : ℕ) → is_same_code o (Some c) ≡ true → is_same_code p (Some c) ≡ true → is_same_code o p ≡ true
codes_meet None p c h g = cc
codes_meet (Some a) None c h g = cc
codes_meet (Some a) (Some b) c h g = eq-eqb a b (eqb-true a c h ∙ sym (eqb-true b c g))

pub keys_meet : (j k : ℕ × Option ℕ) (m c : ℕ) → is_same_key j (m, Some c) ≡ true → is_same_key k (m, Some c) ≡ true → is_same_key j k ≡ true
keys_meet j k m c h g =
    let first = and_parts (nat_eq j.0 m) (is_same_code j.1 (Some c)) h in
    let second = and_parts (nat_eq k.0 m) (is_same_code k.1 (Some c)) g in
    and_from (nat_eq j.0 k.0) (is_same_code j.1 k.1) (eq-eqb j.0 k.0 (eqb-true j.0 m first.0 ∙ sym (eqb-true k.0 m second.0))) (codes_meet j.1 k.1 c first.1 second.1)
