-- Which pairs an edit of the book changes.
use Rattle.std.proofs.Common.{◌≡◌, ℕ, ◌+◌, ◌≤◌, Bool, true, false, ◌&&◌, ◌||◌, not, cond, List, [], ◌∷◌, ◌++◌, Option, Some, None, filter, length, nat_eq, nat_le, if◌then◌else◌, refl, sym, ◌∙◌, ap, arith, eqb-true}
use Rattle.std.proofs.lemmas.Bool.{and_parts, and_right, or_from, leb-true, ne_eqb, false_from_ne_true}
use Rattle.std.proofs.lemmas.List.Elements.{filter-append}
use Rattle.std.proofs.lemmas.Slice.Eq.{bytes_eq-Decides}
use Rattle.std.specs.Cmp.{unsigned_Decides}
use Rattle.std.specs.List.{list_any, list_all, find, last_or}
use Rattle.std.specs.Option.{is_some, option_map, option_or}
use Rattle.std.specs.Prelude.{bytes_eq}
use Rattle.areas.specs.Areas.{covers}
use Rattle.areas.specs.declared.area.Area.{Area}
use Rattle.common.specs.Order.{is_ascending}
use Rattle.common.specs.OrderLaws.{find_passes}
use Rattle.common.specs.declared.cell.Cell.{Cell}
use Rattle.serials.specs.Serials.{next_of}
use Rattle.warning_book.specs.Book.{has_number, number_lt, names, is_so, is_there, is_active, warning_is, warning_of, areas_of, current_of, last_serial, new_warning, version_after, followed, but_serial, with_next, updated, widened, narrowed, stopped, changed_if, edited, without, after_issue}
use Rattle.warning_book.specs.Book as book
use Rattle.warning_book.specs.Laws.{KeepsNumber, found_so, found_edited, found_without, found_issued}
use Rattle.warning_book.specs.Sound.{was_issued, has_versions}
use Rattle.warning_book.specs.VersionLaws.{last_more}
use Rattle.warning_book.specs.declared.content.Content.{Content}
use Rattle.warning_book.specs.declared.notice.Notice.{Notice}
use Rattle.warning_book.specs.declared.version.Version.{Version}
use Rattle.warning_book.specs.declared.warning.Warning.{Warning}
use Rattle.coverage_plan.proofs.ChangeLemmas.{covering_in, changed, changed_with, differ_itself, by_names, by_serial, still}
use Rattle.coverage_plan.proofs.FilterLemmas.{names_turned, differ_from_none, differ_from_longer, any_full, filter_both, any_same, any_and, filters_differ}
use Rattle.coverage_plan.specs.ChangeLaws.{there_found, areas_in, areas_found}
use Rattle.coverage_plan.specs.Changes.{differ, names_differ, is_changed}
use Rattle.coverage_plan.specs.Plan.{State, place, is_covered}
use Rattle.coverage_plan.specs.Reach.{is_registered, is_of_areas}

-- the plan with another book
abbrev pub with_book : State → book.State → State
with_book st b = record st { book = b }

-- the warning of a number

-- a warning that is in the book
found : (n : ℕ) (ws : List Warning) → list_any (has_number n) ws ≡ true → (w : Warning) × (find (has_number n) ws ≡ Some w)
found n ws h = at (find (has_number n) ws) (sym (there_found n ws) ∙ h)
  where
    at : (o : Option Warning) → is_some o ≡ true → (w : Warning) × (o ≡ Some w)
    at None g = cc
    at (Some w) g = (w, refl)

-- a warning in the book is as each of the book's warnings
found_all : (p : Warning → Bool) (n : ℕ) (ws : List Warning) (w : Warning) → list_all p ws ≡ true → find (has_number n) ws ≡ Some w → p w ≡ true
found_all p n [] w h e = cc
found_all p n (v ∷ ws) w h e = step (has_number n v) (and_parts (p v) (list_all p ws) h).0 (found_all p n ws w (and_parts (p v) (list_all p ws) h).1) e
  where
    step : (t : Bool) → p v ≡ true → (find (has_number n) ws ≡ Some w → p w ≡ true) → (if t then Some v else find (has_number n) ws) ≡ Some w → p w ≡ true
    step true here rest g = let same : v ≡ w = cc in ap p (sym same) ∙ here
    step false here rest g = rest g

-- the warning that is edited
edited_here : (n : ℕ) (f : Warning → Warning) → KeepsNumber f → (ws : List Warning) (w : Warning) → find (has_number n) ws ≡ Some w → find (has_number n) (edited n f ws) ≡ Some (f w)
edited_here n f keeps ws w e =
    found_edited n n f keeps ws ∙ ap (λ o. option_map (changed_if n f) o) e ∙ ap (λ t. Some (if t then f w else w)) (find_passes (has_number n) ws w e)

-- another warning
edited_elsewhere : (n m : ℕ) (f : Warning → Warning) → KeepsNumber f → (ws : List Warning) → nat_eq n m ≡ false → find (has_number m) (edited n f ws) ≡ find (has_number m) ws
edited_elsewhere n m f keeps ws other = found_edited n m f keeps ws ∙ at (find (has_number m) ws) refl
  where
    apart : (k : ℕ) → nat_eq k m ≡ true → nat_eq k n ≡ false
    apart k e = false_from_ne_true (nat_eq k n) (λ g. let clash : true ≡ false = sym e ∙ ap (λ j. nat_eq j m) (eqb-true k n g) ∙ other in cc)

    at : (o : Option Warning) → find (has_number m) ws ≡ o → option_map (changed_if n f) o ≡ o
    at None e = refl
    at (Some w) e = ap (λ t. Some (if t then f w else w)) (apart w.number (find_passes (has_number m) ws w e))

-- one warning is another, and the rest are as they were: the cells of that warning change that pass the test
one_warning : (st : State) (b : book.State) (n : ℕ) (v w : Option Warning) (test : Cell → Bool) → warning_of st.book n ≡ v → warning_of b n ≡ w → ((m : ℕ) → nat_eq n m ≡ false → warning_of b m ≡ warning_of st.book m) → ((c : Cell) → test c ≡ changed (place st c) (place st c) st.areas st.areas c v w) → (c : Cell) (m : ℕ) → (test c && nat_eq n m) ≡ is_changed st (with_book st b) c m
one_warning st b n v w test before after rest changes c m = step (nat_eq n m) refl
  where
    and_true : (t : Bool) → (t && true) ≡ t
    and_true true = refl
    and_true false = refl

    step : (t : Bool) → nat_eq n m ≡ t → (test c && t) ≡ is_changed st (with_book st b) c m
    step true e =
        let same : n ≡ m = eqb-true n m e in
        and_true (test c) ∙ changes c ∙ sym (changed_with st (with_book st b) c m (place st c) (place st c) v w refl refl (ap (warning_of st.book) (sym same) ∙ before) (ap (warning_of b) (sym same) ∙ after))
    step false e =
        and_right (test c) false refl ∙ sym (changed_with st (with_book st b) c m (place st c) (place st c) (warning_of st.book m) (warning_of st.book m) refl refl refl (rest m e) ∙ still (place st c) st.areas st.areas c (warning_of st.book m) refl)

-- the same where one warning is edited
one_edited : (st : State) (n : ℕ) (f : Warning → Warning) → KeepsNumber f → (w : Warning) → warning_of st.book n ≡ Some w → (test : Cell → Bool) → ((c : Cell) → test c ≡ changed (place st c) (place st c) st.areas st.areas c (Some w) (Some (f w))) → (c : Cell) (m : ℕ) → (test c && nat_eq n m) ≡ is_changed st (with_book st (record st.book { warnings = edited n f st.book.warnings })) c m
one_edited st n f keeps w e test changes =
    one_warning st (record st.book { warnings = edited n f st.book.warnings }) n (Some w) (Some (f w)) test e (edited_here n f keeps st.book.warnings w e) (λ m other. edited_elsewhere n m f keeps st.book.warnings other) changes

-- the warning is as the book says of it
active_is : (b : book.State) (n : ℕ) (w : Warning) → is_ascending number_lt b.warnings ≡ true → warning_of b n ≡ Some w → is_active b n ≡ w.active
active_is b n w ordered e = found_so n (λ v. v.active) b.warnings w ordered e

-- the cells in one of the areas of a warning
covered_in : (st : State) (n : ℕ) (w : Warning) (c : Cell) → warning_of st.book n ≡ Some w → (is_registered st.register c && is_covered st.areas (areas_of n st.book.warnings) c) ≡ (is_some (place st c) && is_covered st.areas w.areas c)
covered_in st n w c e =
    ap (λ xs. is_some (place st c) && is_covered st.areas xs c) (areas_found n st.book.warnings ∙ ap (λ o. areas_in o) e)

-- serial numbers

last_there : (o : Option Version) (vs : List Version) → is_some o ≡ true → is_some (option_map (λ (v : Version). v.serial) (last_or o vs)) ≡ true
last_there None [] h = h
last_there (Some v) [] h = refl
last_there o (v ∷ vs) h = last_there (Some v) vs refl

-- a warning with versions has a current one
has_current : (w : Warning) → has_versions w ≡ true → is_some (current_of w) ≡ true
has_current w h = at w.versions (and_parts (nat_le 1 (length w.versions)) (nat_le (length w.versions) 16) h).0
  where
    at : (vs : List Version) → nat_le 1 (length vs) ≡ true → is_some (last_serial vs) ≡ true
    at [] g = absurd (let few : 1 ≤ 0 = leb-true 1 0 g in omega arith)
    at (v ∷ vs) g = last_there (Some v) vs refl

gone : (o : Option ℕ) → is_some o ≡ true → differ o None ≡ true
gone None h = cc
gone (Some s) h = refl

-- a warning is stopped

pub stopped_warning : (st : State) (n : ℕ) → is_ascending number_lt st.book.warnings ≡ true → list_all has_versions st.book.warnings ≡ true → is_there st.book n ≡ true → is_active st.book n ≡ true → (c : Cell) (m : ℕ) → is_of_areas st.register st.areas (areas_of n st.book.warnings) n c m ≡ is_changed st (with_book st (record st.book { warnings = edited n stopped st.book.warnings })) c m
stopped_warning st n ordered versions there active =
    one_edited st n stopped (λ w. refl) w e (λ c. is_registered st.register c && is_covered st.areas (areas_of n st.book.warnings) c)
    (λ c. covered_in st n w c e ∙ sym (by_serial (place st c) st.areas c w (stopped w) refl other))
  where
    is : (v : Warning) × (warning_of st.book n ≡ Some v)
    is = found n st.book.warnings there

    w : Warning
    w = is.0

    e : warning_of st.book n ≡ Some w
    e = is.1

    other : differ (if w.active then current_of w else None) None ≡ true
    other =
        ap (λ t. differ (if t then current_of w else None) None) (sym (active_is st.book n w ordered e) ∙ active) ∙ gone (current_of w) (has_current w (found_all has_versions n st.book.warnings w versions e))

-- a warning has a new version

next_differs : (content : Content) (vs : List Version) → is_some (last_serial vs) ≡ true → differ (last_serial vs) (last_serial (with_next content vs)) ≡ true
next_differs content vs h = at (last_serial vs) h
  where
    at : (o : Option ℕ) → is_some o ≡ true → differ o (last_serial (followed content o vs)) ≡ true
    at None g = cc
    at (Some s) g =
        ap (λ (o : Option Version). differ (Some s) (option_map (λ (v : Version). v.serial) o)) (last_more None (but_serial (next_of s) vs) (version_after content s)) ∙ ap not (ne_eqb s (next_of s) (λ same. omega arith))

pub updated_warning : (st : State) (n : ℕ) (content : Content) → is_ascending number_lt st.book.warnings ≡ true → list_all has_versions st.book.warnings ≡ true → is_there st.book n ≡ true → is_active st.book n ≡ true → (c : Cell) (m : ℕ) → is_of_areas st.register st.areas (areas_of n st.book.warnings) n c m ≡ is_changed st (with_book st (record st.book { warnings = edited n (updated content) st.book.warnings })) c m
updated_warning st n content ordered versions there active =
    one_edited st n (updated content) (λ w. refl) w e (λ c. is_registered st.register c && is_covered st.areas (areas_of n st.book.warnings) c)
    (λ c. covered_in st n w c e ∙ sym (by_serial (place st c) st.areas c w (updated content w) refl other))
  where
    is : (v : Warning) × (warning_of st.book n ≡ Some v)
    is = found n st.book.warnings there

    w : Warning
    w = is.0

    e : warning_of st.book n ≡ Some w
    e = is.1

    is_active_now : w.active ≡ true
    is_active_now = sym (active_is st.book n w ordered e) ∙ active

    other : differ (if w.active then current_of w else None) (if w.active then current_of (updated content w) else None) ≡ true
    other =
        ap (λ t. differ (if t then current_of w else None) (if t then current_of (updated content w) else None)) is_active_now ∙ next_differs content w.versions (has_current w (found_all has_versions n st.book.warnings w versions e))

-- a warning is widened

pub widened_warning : (st : State) (n : ℕ) (a : List ℕ) → is_there st.book n ≡ true → (c : Cell) (m : ℕ) → is_of_areas st.register st.areas (a ∷ []) n c m ≡ is_changed st (with_book st (record st.book { warnings = edited n (widened a) st.book.warnings })) c m
widened_warning st n a there =
    one_edited st n (widened a) (λ w. refl) w e (λ c. is_registered st.register c && is_covered st.areas (a ∷ []) c)
    (λ c. sym (by_names (place st c) st.areas st.areas c w (widened a w) refl refl ∙ ap (λ t. is_some (place st c) && t) (longer c)))
  where
    is : (v : Warning) × (warning_of st.book n ≡ Some v)
    is = found n st.book.warnings there

    w : Warning
    w = is.0

    e : warning_of st.book n ≡ Some w
    e = is.1

    longer : (c : Cell) → names_differ (filter (λ b. covers st.areas b c) w.areas) (filter (λ b. covers st.areas b c) (w.areas ++ a ∷ [])) ≡ is_covered st.areas (a ∷ []) c
    longer c =
        ap (names_differ (filter (λ b. covers st.areas b c) w.areas)) (filter-append (λ b. covers st.areas b c) w.areas (a ∷ []))
        ∙ differ_from_longer (filter (λ b. covers st.areas b c) w.areas) (filter (λ b. covers st.areas b c) (a ∷ []))
        ∙ sym (any_full (λ b. covers st.areas b c) (a ∷ []))

-- a warning is narrowed

left_out : (p : List ℕ → Bool) (a b : List ℕ) → (p b && not (not (bytes_eq b a) && p b)) ≡ (bytes_eq b a && p a)
left_out p a b = at (bytes_eq b a) refl
  where
    opposed : (t : Bool) → (t && not t) ≡ false
    opposed true = refl
    opposed false = refl

    and_true : (t : Bool) → (t && true) ≡ t
    and_true true = refl
    and_true false = refl

    at : (t : Bool) → bytes_eq b a ≡ t → (p b && not (not t && p b)) ≡ (t && p a)
    at true e = and_true (p b) ∙ ap p ((bytes_eq-Decides b a).0 e)
    at false e = opposed (p b)

-- the lists differ where the area was among them and passes
narrowed_differ : (p : List ℕ → Bool) (a : List ℕ) (xs : List (List ℕ)) → list_any (λ b. bytes_eq b a) xs ≡ true → names_differ (filter p xs) (filter p (filter (λ b. not (bytes_eq b a)) xs)) ≡ list_any p (a ∷ [])
narrowed_differ p a xs there =
    ap (names_differ (filter p xs)) (filter_both p (λ b. not (bytes_eq b a)) xs)
    ∙ names_turned (filter p xs) (filter (λ b. not (bytes_eq b a) && p b) xs)
    ∙ filters_differ (λ b. not (bytes_eq b a) && p b) p (λ b h. (and_parts (not (bytes_eq b a)) (p b) h).1) xs
    ∙ any_same (λ b. p b && not (not (bytes_eq b a) && p b)) (λ b. bytes_eq b a && p a) (left_out p a) xs
    ∙ any_and (λ b. bytes_eq b a) (p a) xs
    ∙ ap (λ t. t && p a) there
    ∙ alone (p a)
  where
    alone : (t : Bool) → t ≡ (t || false)
    alone true = refl
    alone false = refl

pub narrowed_warning : (st : State) (n : ℕ) (a : List ℕ) → is_ascending number_lt st.book.warnings ≡ true → is_there st.book n ≡ true → warning_is st.book n (names a) ≡ true → (c : Cell) (m : ℕ) → is_of_areas st.register st.areas (a ∷ []) n c m ≡ is_changed st (with_book st (record st.book { warnings = edited n (narrowed a) st.book.warnings })) c m
narrowed_warning st n a ordered there named =
    one_edited st n (narrowed a) (λ w. refl) w e (λ c. is_registered st.register c && is_covered st.areas (a ∷ []) c)
    (λ c. sym (by_names (place st c) st.areas st.areas c w (narrowed a w) refl refl ∙ ap (λ t. is_some (place st c) && t) (narrowed_differ (λ b. covers st.areas b c) a w.areas (sym (found_so n (names a) st.book.warnings w ordered e) ∙ named))))
  where
    is : (v : Warning) × (warning_of st.book n ≡ Some v)
    is = found n st.book.warnings there

    w : Warning
    w = is.0

    e : warning_of st.book n ≡ Some w
    e = is.1

-- a warning is forgotten

-- a stopped warning is wanted nowhere, and leaves the cells in its areas
forgotten : (p : Option ℕ) (l : List Area) (c : Cell) (w : Warning) → w.active ≡ false → changed p p l l c (Some w) None ≡ (is_some p && is_covered l w.areas c)
forgotten p l c w stopped =
    ap (λ t. (is_some p || is_some p) && (true && (differ p p || (differ (if t && (is_some p && is_covered l w.areas c) then current_of w else None) None || names_differ (covering_in l c (Some w)) [])))) stopped
    ∙ ap (λ t. (is_some p || is_some p) && (t || names_differ (covering_in l c (Some w)) [])) (differ_itself p)
    ∙ ap (λ t. (is_some p || is_some p) && t) (differ_from_none (covering_in l c (Some w)) ∙ sym (any_full (λ b. covers l b c) w.areas))
    ∙ ap (λ t. t && is_covered l w.areas c) (twice (is_some p))
  where
    twice : (t : Bool) → (t || t) ≡ t
    twice true = refl
    twice false = refl

pub forgotten_warning : (st : State) (n : ℕ) → is_ascending number_lt st.book.warnings ≡ true → is_there st.book n ≡ true → is_active st.book n ≡ false → (c : Cell) (m : ℕ) → is_of_areas st.register st.areas (areas_of n st.book.warnings) n c m ≡ is_changed st (with_book st (record st.book { warnings = without n st.book.warnings })) c m
forgotten_warning st n ordered there stopped =
    one_warning st (record st.book { warnings = without n st.book.warnings }) n (Some w) None (λ c. is_registered st.register c && is_covered st.areas (areas_of n st.book.warnings) c) e
    (found_without n n st.book.warnings ∙ ap (λ t. cond t None (find (has_number n) st.book.warnings)) ((unsigned_Decides n n).1 refl))
    (λ m other. found_without n m st.book.warnings ∙ ap (λ t. cond t None (find (has_number m) st.book.warnings)) other)
    (λ c. covered_in st n w c e ∙ sym (forgotten (place st c) st.areas c w (sym (active_is st.book n w ordered e) ∙ stopped)))
  where
    is : (v : Warning) × (warning_of st.book n ≡ Some v)
    is = found n st.book.warnings there

    w : Warning
    w = is.0

    e : warning_of st.book n ≡ Some w
    e = is.1

-- a warning is issued

-- no warning has a number that was not given yet
none_yet : (i : ℕ) (ws : List Warning) → list_all (was_issued i) ws ≡ true → list_any (has_number (i + 1)) ws ≡ false
none_yet i [] h = refl
none_yet i (w ∷ ws) h =
    let parts = and_parts (was_issued i w) (list_all (was_issued i) ws) h in
    let bound : w.number ≤ i = leb-true w.number i (and_parts (nat_le 1 w.number) (nat_le w.number i) parts.0).1 in
    or_from (nat_eq w.number (i + 1)) (list_any (has_number (i + 1)) ws) (ne_eqb w.number (i + 1) (λ same. omega arith)) (none_yet i ws parts.1)

not_found : (n : ℕ) (ws : List Warning) → list_any (has_number n) ws ≡ false → find (has_number n) ws ≡ None
not_found n ws h = at (find (has_number n) ws) (sym (there_found n ws) ∙ h)
  where
    at : (o : Option Warning) → is_some o ≡ false → o ≡ None
    at None g = refl
    at (Some w) g = cc

or_none : (o : Option Warning) → option_or o None ≡ o
or_none None = refl
or_none (Some w) = refl

-- an active warning with a version, where there was none, brings the registered cells in its areas
issued_there : (p : Option ℕ) (l : List Area) (c : Cell) (w : Warning) (s : ℕ) → w.active ≡ true → current_of w ≡ Some s → changed p p l l c None (Some w) ≡ (is_some p && is_covered l w.areas c)
issued_there p l c w s active serial =
    ap (λ t. (is_some p || is_some p) && (true && (differ p p || (differ None (if t && (is_some p && is_covered l w.areas c) then current_of w else None) || names_differ [] (covering_in l c (Some w)))))) active
    ∙ ap (λ o. (is_some p || is_some p) && (differ p p || (differ None (if is_some p && is_covered l w.areas c then o else None) || names_differ [] (covering_in l c (Some w))))) serial
    ∙ ap (λ t. (is_some p || is_some p) && (t || (differ None (if is_some p && is_covered l w.areas c then Some s else None) || names_differ [] (covering_in l c (Some w))))) (differ_itself p)
    ∙ ap (λ t. (is_some p || is_some p) && (differ None (if is_some p && is_covered l w.areas c then Some s else None) || t)) (names_turned [] (covering_in l c (Some w)) ∙ differ_from_none (covering_in l c (Some w)) ∙ sym (any_full (λ b. covers l b c) w.areas))
    ∙ last (is_some p) (is_covered l w.areas c)
  where
    last : (t k : Bool) → ((t || t) && (differ None (if t && k then Some s else None) || k)) ≡ (t && k)
    last true true = refl
    last true false = refl
    last false k = refl

pub issued_warning : (st : State) (notice : Notice) (areas : List (List ℕ)) (s : ℕ) → list_all (was_issued st.book.issued) st.book.warnings ≡ true → (c : Cell) (m : ℕ) → is_of_areas st.register st.areas areas (st.book.issued + 1) c m ≡ is_changed st (with_book st (after_issue notice areas s st.book)) c m
issued_warning st notice areas s given =
    one_warning st (after_issue notice areas s st.book) n None (Some w) (λ c. is_registered st.register c && is_covered st.areas areas c) none
    (found_issued n st.book.warnings w ∙ ap (λ o. option_or o (cond (has_number n w) (Some w) None)) none ∙ ap (λ t. cond t (Some w) None) ((unsigned_Decides n n).1 refl))
    (λ m other. found_issued m st.book.warnings w ∙ ap (λ t. option_or (find (has_number m) st.book.warnings) (cond t (Some w) None)) other ∙ or_none (find (has_number m) st.book.warnings))
    (λ c. sym (issued_there (place st c) st.areas c w s refl refl))
  where
    n : ℕ
    n = st.book.issued + 1

    w : Warning
    w = new_warning n notice areas s

    none : find (has_number n) st.book.warnings ≡ None
    none = not_found n st.book.warnings (none_yet st.book.issued st.book.warnings given)
