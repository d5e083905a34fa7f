-- The book of a past, one entry further: which warnings have which keys, and who owns a key.
use Rattle.std.proofs.Common.{◌≡◌, ℕ, ◌+◌, ◌≤◌, Bool, true, false, ◌&&◌, ◌||◌, nat_eq, List, [], ◌∷◌, Option, Some, None, cond, refl, sym, ◌∙◌, ap, arith, eqb-true}
use Rattle.std.specs.Prelude.{find, if◌then◌else◌}
use Rattle.std.specs.List.{list_any}
use Rattle.std.specs.Option.{option_map}
use Rattle.std.proofs.lemmas.Bool.{and_parts, and_from, or_left, or_right}
use Rattle.common.specs.Order.{is_ascending}
use Rattle.common.specs.Sums.{one, count_of}
use Rattle.warning_book.specs.Book.{State, has_number, number_lt, is_so, warning_of, updated, widened, narrowed, stopped, changed_if, edited, with_next, new_serial}
use Rattle.warning_book.specs.Laws.{KeepsNumber, found_so, so_edited, so_without, so_issued}
use Rattle.warning_book.specs.declared.content.Content.{Content}
use Rattle.warning_book.specs.declared.notice.Notice.{Notice}
use Rattle.warning_book.specs.declared.warning.Warning.{Warning}
use Rattle.centre_past.specs.Reaching.{forgets}
use Rattle.centre_events.specs.Past.{Past, After}
use Rattle.centre_events.specs.Warnings.{book_then, book_of, warnings_of, is_version, has_key}
use Rattle.coverage_plan.specs.Edited.{with_issue, book_after}
use Rattle.coverage_plan.specs.declared.edit.Edit.{Edit}
use Rattle.coverage_plan.specs.declared.edit.Edit.TheVariants as edit
use Rattle.centre_events.specs.declared.entry.Entry.{Entry}
use Rattle.centre_events.specs.declared.event.Event.{Event}
use Rattle.centre_events.specs.declared.event.Event.TheVariants as event
use Rattle.centre_past.proofs.NextLemmas.{next_keeps}
use Rattle.centre_past.proofs.UniqueLemmas.{any_none}

-- the warning of that number has the key
abbrev pub keyed : ℕ → ℕ → ℕ → List Warning → Bool
keyed n m s ws = is_so n (has_key m s) ws

-- what a test allows at more warnings
so_more : (n : ℕ) (p q : Warning → Bool) → ((w : Warning) → p w ≡ true → q w ≡ true) → (ws : List Warning) → is_so n p ws ≡ true → is_so n q ws ≡ true
so_more n p q more [] h = h
so_more n p q more (w ∷ ws) h = step (so_more n p q more ws) (has_number n w) (p w) refl h
  where
    step : (is_so n p ws ≡ true → is_so n q ws ≡ true) → (t u : Bool) → p w ≡ u → ((t && u) || is_so n p ws) ≡ true → ((t && q w) || is_so n q ws) ≡ true
    step rest true true e g = ap (λ x. x || is_so n q ws) (more w e)
    step rest true false e g = or_right (q w) (is_so n q ws) (rest g)
    step rest false u e g = rest g

-- an edit of the warnings keeps their keys
edited_keeps : (n k m s : ℕ) (f : Warning → Warning) → KeepsNumber f → ((w : Warning) → has_key m s w ≡ true → has_key m s (f w) ≡ true) → (ws : List Warning) → keyed k m s ws ≡ true → keyed k m s (edited n f ws) ≡ true
edited_keeps n k m s f number keeps ws h =
    so_edited n k f (has_key m s) number ws ∙ so_more k (has_key m s) (λ w. has_key m s (changed_if n f w)) each ws h
  where
    each : (w : Warning) → has_key m s w ≡ true → has_key m s (changed_if n f w) ≡ true
    each w g = step (has_number n w)
      where
        step : (t : Bool) → has_key m s (if t then f w else w) ≡ true
        step true = keeps w g
        step false = g

updated_keeps : (content : Content) (m s : ℕ) (w : Warning) → has_key m s w ≡ true → has_key m s (updated content w) ≡ true
updated_keeps content m s w h =
    let parts = and_parts (nat_eq w.message_id m) (list_any (is_version s) w.versions) h in
    and_from (nat_eq w.message_id m) (list_any (is_version s) (with_next content w.versions)) parts.0 (next_keeps content s w.versions parts.1)

issue_keeps : (notice : Notice) (areas : List (List ℕ)) (o : Option ℕ) (st : State) (k m s : ℕ) → keyed k m s st.warnings ≡ true → keyed k m s (with_issue notice areas o st).warnings ≡ true
issue_keeps notice areas None st k m s h = h
issue_keeps notice areas (Some serial) st k m s h = so_issued k (has_key m s) st.warnings _ ∙ or_left (keyed k m s st.warnings) _ h

edit_keeps : (e : Edit) (st : State) (k m s : ℕ) → forgets (event.Edit e) ≡ false → keyed k m s st.warnings ≡ true → keyed k m s (book_after e st).warnings ≡ true
edit_keeps (edit.Issue notice areas) st k m s f h = issue_keeps notice areas (new_serial st notice) st k m s h
edit_keeps (edit.Update n content) st k m s f h = edited_keeps n k m s (updated content) (λ w. refl) (updated_keeps content m s) st.warnings h
edit_keeps (edit.Widen n a) st k m s f h = edited_keeps n k m s (widened a) (λ w. refl) (λ w g. g) st.warnings h
edit_keeps (edit.Narrow n a) st k m s f h = edited_keeps n k m s (narrowed a) (λ w. refl) (λ w g. g) st.warnings h
edit_keeps (edit.Stop n) st k m s f h = edited_keeps n k m s stopped (λ w. refl) (λ w g. g) st.warnings h
edit_keeps (edit.Forget n) st k m s f h = cc
edit_keeps other st k m s f h = h

-- an event that forgets none keeps the keys of each warning
pub keys_stay : (e : Entry) (past : Past) (k m s : ℕ) → forgets e.event ≡ false → keyed k m s (warnings_of past) ≡ true → keyed k m s (warnings_of (After e past)) ≡ true
keys_stay e past k m s f h = step e.event f
  where
    step : (x : Event) → forgets x ≡ false → keyed k m s (book_then x (book_of past)).warnings ≡ true
    step (event.Edit y) g = edit_keeps y (book_of past) k m s g h
    step other g = h

-- one that forgets one gives no warning a key
pub keys_were : (e : Entry) (past : Past) (k m s : ℕ) → forgets e.event ≡ true → keyed k m s (warnings_of (After e past)) ≡ true → keyed k m s (warnings_of past) ≡ true
keys_were e past k m s f h = step e.event f h
  where
    left : (t u : Bool) → cond t false u ≡ true → u ≡ true
    left true u g = cc
    left false u g = g

    step : (x : Event) → forgets x ≡ true → keyed k m s (book_then x (book_of past)).warnings ≡ true → keyed k m s (warnings_of past) ≡ true
    step (event.Edit (edit.Forget n)) g i = left (nat_eq n k) (keyed k m s (warnings_of past)) (sym (so_without n k (has_key m s) (warnings_of past)) ∙ i)
    step (event.Edit y) g i = cc
    step other g i = cc

-- the number of the warning that has the key
abbrev pub owner_of : List Warning → ℕ → ℕ → Option ℕ
owner_of ws m s = option_map (λ (w : Warning). w.number) (find (has_key m s) ws)

-- at most one has it: it is the one of that number
pub owned_by : (n m s : ℕ) (ws : List Warning) → count_of (has_key m s) ws ≤ 1 → keyed n m s ws ≡ true → owner_of ws m s ≡ Some n
owned_by n m s [] few h = cc
owned_by n m s (w ∷ ws) few h = step (owned_by n m s ws) (has_key m s w) refl (has_number n w) refl h
  where
    step : (count_of (has_key m s) ws ≤ 1 → keyed n m s ws ≡ true → owner_of ws m s ≡ Some n) → (t : Bool) → has_key m s w ≡ t → (u : Bool) → has_number n w ≡ u → ((u && t) || keyed n m s ws) ≡ true → option_map (λ (x : Warning). x.number) (cond t (Some w) (find (has_key m s) ws)) ≡ Some n
    step rest true e true i g = ap (λ k. Some k) (eqb-true w.number n i)
    step rest true e false i g = absurd (let no : true ≡ false = sym (any_of ws g) ∙ any_none (has_key m s) ws (let c : one (has_key m s w) + count_of (has_key m s) ws ≤ 1 = few in let here : one (has_key m s w) ≡ 1 = ap one e in omega arith) in cc)
      where
        any_of : (xs : List Warning) → keyed n m s xs ≡ true → list_any (has_key m s) xs ≡ true
        any_of [] j = j
        any_of (x ∷ xs) j = more (any_of xs) (has_number n x) (has_key m s x) j
          where
            more : (keyed n m s xs ≡ true → list_any (has_key m s) xs ≡ true) → (a b : Bool) → ((a && b) || keyed n m s xs) ≡ true → (b || list_any (has_key m s) xs) ≡ true
            more r true true l = refl
            more r true false l = r l
            more r false b l = or_right b (list_any (has_key m s) xs) (r l)
    step rest false e u i g = rest (let c : one (has_key m s w) + count_of (has_key m s) ws ≤ 1 = few in omega arith) (drop u g)
      where
        drop : (v : Bool) → ((v && false) || keyed n m s ws) ≡ true → keyed n m s ws ≡ true
        drop true l = l
        drop false l = l

-- the wider of the two books
abbrev pub wider : Event → List Warning → List Warning → List Warning
wider e before after = if forgets e then before else after

-- a key of a warning in either book is one of the same warning in the wider
pub wide_before : (e : Entry) (past : Past) (k m s : ℕ) → keyed k m s (warnings_of past) ≡ true → keyed k m s (wider e.event (warnings_of past) (warnings_of (After e past))) ≡ true
wide_before e past k m s h = step (forgets e.event) refl
  where
    step : (t : Bool) → forgets e.event ≡ t → keyed k m s (if t then warnings_of past else warnings_of (After e past)) ≡ true
    step true f = h
    step false f = keys_stay e past k m s f h

pub wide_after : (e : Entry) (past : Past) (k m s : ℕ) → keyed k m s (warnings_of (After e past)) ≡ true → keyed k m s (wider e.event (warnings_of past) (warnings_of (After e past))) ≡ true
wide_after e past k m s h = step (forgets e.event) refl
  where
    step : (t : Bool) → forgets e.event ≡ t → keyed k m s (if t then warnings_of past else warnings_of (After e past)) ≡ true
    step true f = keys_were e past k m s f h
    step false f = h

-- the warning that a number finds has its keys
pub found_keyed : (st : State) (n : ℕ) (w : Warning) (m s : ℕ) → is_ascending number_lt st.warnings ≡ true → warning_of st n ≡ Some w → has_key m s w ≡ true → keyed n m s st.warnings ≡ true
found_keyed st n w m s ordered found h = found_so n (has_key m s) st.warnings w ordered found ∙ h

pub owner_is : (e : Event) (before after : List Warning) (n m s : ℕ) → count_of (has_key m s) before ≤ 1 → count_of (has_key m s) after ≤ 1 → keyed n m s (wider e before after) ≡ true → owner_of (wider e before after) m s ≡ Some n
owner_is e before after n m s few most h = step (forgets e) h
  where
    step : (t : Bool) → keyed n m s (if t then before else after) ≡ true → owner_of (if t then before else after) m s ≡ Some n
    step true g = owned_by n m s before few g
    step false g = owned_by n m s after most g
