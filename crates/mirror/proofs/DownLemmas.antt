-- The counts of the cells that are down, as cells go down and come up.
use Rattle.std.proofs.Common.{◌≡◌, inl, inr, ℕ, zero, suc, ◌+◌, ◌*◌, ◌%◌, ◌<◌, Bool, true, false, cond, ◌||◌, nat_eq, replicate, List, [], ◌∷◌, length, filter, set, get_or, refl, sym, subst, ◌∙◌, ap, arith, Less, Equal, Greater}
use Rattle.std.proofs.lemmas.Bool.{or_from, or_parts, true≢false}
use Rattle.std.proofs.lemmas.Bool.Decides.{nat_tests}
use Rattle.std.proofs.lemmas.Grind.{common_steps}
use Rattle.std.proofs.lemmas.List.{get_or-set_same, get_or-set_other, length-set}
use Rattle.std.specs.BTreeMap.{is_at}
use Rattle.std.specs.BTreeSet.{insert_key}
use Rattle.std.specs.List.{list_any}
use Rattle.std.specs.Ordering.{is_eq, match_ordering}
use Rattle.std.specs.Set.{remove_key}
use Rattle.std.specs.declared.cmp.Ordering.{Ordering}
use Rattle.common.specs.declared.cell.Cell.{Cell}
use Rattle.mirror.specs.Downs.{class_of, has_class, count_at, IsCount, AreCounts, AreNoneOrAll}
use Rattle.mirror.specs.Order.{Place, place_cmp, place_of}
use Rattle.mirror.specs.Table.{is_that_place}

one_more : {A : Type 0} (t : Bool) (x : A) (xs : List A) → length (cond t (x ∷ xs) xs) ≡ cond t 1 0 + length xs
one_more true x xs = omega arith
one_more false x xs = omega arith

-- of what is put in one more passes, if it passes itself
pub count_inserted : {A : Type 0} (cmp : A → A → Ordering) (test : A → Bool) (k : A) (xs : List A) → list_any (is_at (cmp k)) xs ≡ false → length (filter test (insert_key cmp xs k)) ≡ cond (test k) 1 0 + length (filter test xs)
count_inserted cmp test k [] h = one_more (test k) k []
count_inserted {A} cmp test k (x ∷ xs) h = step (cmp k x) (or_parts (is_at (cmp k) x) (list_any (is_at (cmp k)) xs) h).0 (count_inserted cmp test k xs (or_parts (is_at (cmp k) x) (list_any (is_at (cmp k)) xs) h).1)
  where
    behind : (t : Bool) (n m v : ℕ) → n ≡ v + m → cond t 1 0 + n ≡ v + (cond t 1 0 + m)
    behind t n m v e = omega (arith, e)

    step : (o : Ordering) → is_eq o ≡ false → length (filter test (insert_key cmp xs k)) ≡ cond (test k) 1 0 + length (filter test xs) → length (filter test (match_ordering o (k ∷ x ∷ xs) (x ∷ xs) (x ∷ insert_key cmp xs k))) ≡ cond (test k) 1 0 + length (filter test (x ∷ xs))
    step Less e rest = one_more (test k) k (filter test (x ∷ xs))
    step Equal e rest = absurd cc
    step Greater e rest =
        one_more (test x) x (filter test (insert_key cmp xs k)) ∙ behind (test x) (length (filter test (insert_key cmp xs k))) (length (filter test xs)) (cond (test k) 1 0) rest ∙ ap (λ n. cond (test k) 1 0 + n) (sym (one_more (test x) x (filter test xs)))

-- and of what is left when it is taken out one less
pub count_removed : {A : Type 0} (at test : A → Bool) (v : Bool) → ((x : A) → at x ≡ true → test x ≡ v) → (xs : List A) → list_any at xs ≡ true → length (filter test (remove_key at xs)) + cond v 1 0 ≡ length (filter test xs)
count_removed at test v like [] h = cc
count_removed {A} at test v like (x ∷ xs) h = step (at x) refl h (λ g. count_removed at test v like xs g)
  where
    gone : (t u : Bool) (n : ℕ) → u ≡ t → n + cond t 1 0 ≡ cond u 1 0 + n
    gone true true n e = omega arith
    gone true false n e = cc
    gone false true n e = cc
    gone false false n e = omega arith

    behind : (m n p q : ℕ) → m + p ≡ n → (q + m) + p ≡ q + n
    behind m n p q e = omega (arith, e)

    step : (t : Bool) → at x ≡ t → (t || list_any at xs) ≡ true → (list_any at xs ≡ true → length (filter test (remove_key at xs)) + cond v 1 0 ≡ length (filter test xs)) → length (filter test (cond t xs (x ∷ remove_key at xs))) + cond v 1 0 ≡ length (filter test (x ∷ xs))
    step true e g rest = gone v (test x) (length (filter test xs)) (like x e) ∙ sym (one_more (test x) x (filter test xs))
    step false e g rest =
        ap (λ n. n + cond v 1 0) (one_more (test x) x (filter test (remove_key at xs))) ∙ behind (length (filter test (remove_key at xs))) (length (filter test xs)) (cond v 1 0) (cond (test x) 1 0) (rest g) ∙ sym (one_more (test x) x (filter test xs))

-- counts of which one is set are those of other places, where these differ in the number of that one alone
pub counts_set : (counts : List ℕ) (ps qs : List Place) (o v : ℕ) → o < length counts → AreCounts counts ps → IsCount v (count_at o qs) → ((n : ℕ) → nat_eq o n ≡ false → count_at n qs ≡ count_at n ps) → AreCounts (set counts o v) qs
counts_set counts ps qs o v inside are new others n h = step (nat_eq o n) refl
  where
    step : (t : Bool) → nat_eq o n ≡ t → IsCount (get_or (set counts o v) n 0) (count_at n qs)
    step true e =
        let same : o ≡ n = grind (arith, nat_tests, e) in
        subst (λ m. IsCount (get_or (set counts o v) m 0) (count_at m qs)) same (subst (λ x. IsCount x (count_at o qs)) (sym (get_or-set_same counts o v 0 inside)) new)
    step false e =
        let stays : get_or (set counts o v) n 0 ≡ get_or counts n 0 = get_or-set_other counts o n v 0 (λ same. absurd (grind (arith, nat_tests, e, same))) in
        subst (λ x. IsCount x (count_at n qs)) (sym stays) (subst (λ x. IsCount (get_or counts n 0) x) (sym (others n e)) (are n h))

-- a cell of another class is another one
other_class : (b : ℕ) (c : Cell) (p : Place) → has_class (class_of c) p ≡ false → is_that_place b c p ≡ false
other_class b c p h = grind (arith, nat_tests, common_steps)

-- a cell is not down where no cell of its class is
pub none_counted : (b : ℕ) (c : Cell) (ps : List Place) → count_at (class_of c) ps ≡ 0 → list_any (is_that_place b c) ps ≡ false
none_counted b c [] h = refl
none_counted b c (p ∷ ps) h = step (has_class (class_of c) p) refl (sym (one_more (has_class (class_of c) p) p (filter (has_class (class_of c)) ps)) ∙ h) (λ g. none_counted b c ps g)
  where
    step : (t : Bool) → has_class (class_of c) p ≡ t → cond t 1 0 + count_at (class_of c) ps ≡ 0 → (count_at (class_of c) ps ≡ 0 → list_any (is_that_place b c) ps ≡ false) → list_any (is_that_place b c) (p ∷ ps) ≡ false
    step true e g rest = absurd (omega (arith, g))
    step false e g rest = or_from (is_that_place b c p) (list_any (is_that_place b c) ps) (other_class b c p e) (rest (omega (arith, g)))

-- the place of a cell is of the cell's class
own_class : (c : Cell) → nat_eq (class_of c) (class_of c) ≡ true
own_class c = grind (arith, nat_tests)

pub count_more : (b : ℕ) (c : Cell) (ps qs : List Place) → qs ≡ insert_key place_cmp ps (place_of b c) → list_any (is_at (place_cmp (place_of b c))) ps ≡ false → count_at (class_of c) qs ≡ 1 + count_at (class_of c) ps
count_more b c ps qs put absent =
    ap (count_at (class_of c)) put ∙ count_inserted place_cmp (has_class (class_of c)) (place_of b c) ps absent ∙ ap (λ t. cond t 1 0 + count_at (class_of c) ps) (own_class c)

-- with a place more, the count of its class is that of one more
pub counts_more : (b : ℕ) (c : Cell) (counts : List ℕ) (ps qs : List Place) (o v : ℕ) → o ≡ class_of c → o < length counts → o < 8192 → AreCounts counts ps → ((n : ℕ) → IsCount (get_or counts o 0) n → IsCount v (n + 1)) → qs ≡ insert_key place_cmp ps (place_of b c) → list_any (is_at (place_cmp (place_of b c))) ps ≡ false → AreCounts (set counts o v) qs
counts_more b c counts ps qs o v own inside small are grows put absent =
    counts_set counts ps qs o v inside are new (λ n other. stays n (ap (λ m. nat_eq m n) (sym own) ∙ other))
  where
    stays : (n : ℕ) → nat_eq (class_of c) n ≡ false → count_at n qs ≡ count_at n ps
    stays n other =
        let more : count_at n qs ≡ 0 + count_at n ps = ap (count_at n) put ∙ count_inserted place_cmp (has_class n) (place_of b c) ps absent ∙ ap (λ t. cond t 1 0 + count_at n ps) other in
        omega (arith, more)

    new : IsCount v (count_at o qs)
    new =
        let more : count_at o qs ≡ 1 + count_at o ps = rw own (count_more b c ps qs put absent) in
        let one : count_at o ps + 1 ≡ count_at o qs = omega (arith, more) in
        subst (λ n. IsCount v n) one (grows (count_at o ps) (are o small))

at_class : (b : ℕ) (c : Cell) (n : ℕ) (p : Place) → is_at (place_cmp (place_of b c)) p ≡ true → has_class n p ≡ nat_eq (class_of c) n
at_class b c n p h =
    let identity : p.cell.ci ≡ c.ci = grind (arith, nat_tests, common_steps, h) in
    let area : p.cell.lac ≡ c.lac = grind (arith, nat_tests, common_steps, h) in
    λ i. nat_eq ((identity i + area i * 61) % 8192) n

count_less : (b : ℕ) (c : Cell) (ps qs : List Place) → qs ≡ remove_key (is_at (place_cmp (place_of b c))) ps → list_any (is_at (place_cmp (place_of b c))) ps ≡ true → (n : ℕ) → count_at n qs + cond (nat_eq (class_of c) n) 1 0 ≡ count_at n ps
count_less b c ps qs taken there n =
    ap (λ rs. count_at n rs + cond (nat_eq (class_of c) n) 1 0) taken ∙ count_removed (is_at (place_cmp (place_of b c))) (has_class n) (nat_eq (class_of c) n) (λ p h. at_class b c n p h) ps there

-- where a place is taken out, the count of its class is that of one less
pub counts_less : (b : ℕ) (c : Cell) (counts : List ℕ) (ps qs : List Place) (o v : ℕ) → o ≡ class_of c → o < length counts → o < 8192 → AreCounts counts ps → ((n : ℕ) → IsCount (get_or counts o 0) (n + 1) → IsCount v n) → qs ≡ remove_key (is_at (place_cmp (place_of b c))) ps → list_any (is_at (place_cmp (place_of b c))) ps ≡ true → AreCounts (set counts o v) qs
counts_less b c counts ps qs o v own inside small are falls taken there =
    counts_set counts ps qs o v inside are new (λ n other. left n (count_less b c ps qs taken there n) (ap (λ m. nat_eq m n) (sym own) ∙ other))
  where
    left : (n : ℕ) → count_at n qs + cond (nat_eq (class_of c) n) 1 0 ≡ count_at n ps → nat_eq (class_of c) n ≡ false → count_at n qs ≡ count_at n ps
    left n e other =
        let less : count_at n qs + 0 ≡ count_at n ps = sym (ap (λ t. count_at n qs + cond t 1 0) other) ∙ e in
        omega (arith, less)

    new : IsCount v (count_at o qs)
    new =
        let less : count_at (class_of c) qs + 1 ≡ count_at (class_of c) ps = sym (ap (λ t. count_at (class_of c) qs + cond t 1 0) (own_class c)) ∙ count_less b c ps qs taken there (class_of c) in
        falls (count_at o qs) (subst (λ n. IsCount (get_or counts o 0) n) (sym (rw own less)) (are o small))

-- counts of 0 each say the same as none
pub zeros : (m n : ℕ) → ◌≡◌ {A = ℕ} (get_or (replicate m 0) n 0) 0
zeros zero n = refl
zeros (suc m) zero = refl
zeros (suc m) (suc n) = zeros m n

pub zeros_as_none : (n : ℕ) → ◌≡◌ {A = ℕ} (get_or (replicate 8192 0) n 0) (get_or {A = ℕ} [] n 0)
zeros_as_none n = zeros 8192 n

-- counts that say the same are those of the same places
pub counts_same : (counts others : List ℕ) (ps : List Place) → ((n : ℕ) → get_or others n 0 ≡ get_or counts n 0) → AreCounts counts ps → AreCounts others ps
counts_same counts others ps same are n h = subst (λ x. IsCount x (count_at n ps)) (sym (same n)) (are n h)

-- of no places there are no counts
pub counts_none : AreCounts [] []
counts_none n h few = refl

-- where no class has a count no cell is down
pub none_there : (b : ℕ) (c : Cell) (ps : List Place) → AreCounts [] ps → list_any (is_that_place b c) ps ≡ false
none_there b c ps are = none_counted b c ps (sym (are (class_of c) (omega arith) (omega arith)))

-- counts stay none or all when one is set
pub all_stay : (counts : List ℕ) (o v : ℕ) → AreNoneOrAll counts → AreNoneOrAll (set counts o v)
all_stay counts o v (inl none) = inl (subst (λ xs. set xs o v ≡ []) (sym none) refl)
all_stay counts o v (inr all) = inr (length-set counts o v ∙ all)

-- there are counts where one is taken out
pub counts_there : (b : ℕ) (c : Cell) (counts : List ℕ) (ps : List Place) (o : ℕ) → o ≡ class_of c → o < 8192 → AreCounts counts ps → AreNoneOrAll counts → list_any (is_that_place b c) ps ≡ true → o < length counts
counts_there b c counts ps o own small are (inl none) there =
    absurd (true≢false (sym there ∙ none_there b c ps (subst (λ xs. AreCounts xs ps) none are)))
counts_there b c counts ps o own small are (inr all) there = omega (arith, small, all)
