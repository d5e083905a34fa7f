-- Lines on which an edit of an area does not bear have the same part after it.
use Rattle.std.proofs.Common.{◌≡◌, ℕ, Bool, true, false, ◌&&◌, ◌||◌, List, [], ◌∷◌, Option, Some, None, Ok, unwrap_or, filter, cond, refl, sym, ◌∙◌, ap}
use Rattle.std.specs.Prelude.{bytes_eq, if◌then◌else◌}
use Rattle.std.specs.List.{list_any}
use Rattle.std.proofs.lemmas.Bool.{or_parts, not-false}
use Rattle.std.proofs.lemmas.Slice.Eq.{bytes_eq-Decides}
use Rattle.areas.specs.Selector.{selector_eq}
use Rattle.areas.specs.declared.selector.Selector.{Selector}
use Rattle.areas.specs.declared.selector.Selector.TheVariants as selector
use Rattle.cell_register.specs.Register.{is_place}
use Rattle.common.specs.OnceLaws.{turned}
use Rattle.common.specs.declared.cell.Cell.{Cell}
use Rattle.kept_tables.specs.Same.{SamePart}
use Rattle.kept_tables.specs.View.{spot_eq}
use Rattle.mirror.specs.declared.line_key.LineKey.{LineKey}
use Rattle.warning_book.specs.Book.{kind_of, has_number, names, warning_of}
use Rattle.warning_book.specs.declared.warning.Warning.{Warning}
use Rattle.centre_events.specs.Base.{Base, empty_base}
use Rattle.centre_events.specs.Cover.{is_area, area_mark, has_selector, selector_mark, covers}
use Rattle.centre_events.specs.Down.{is_down}
use Rattle.centre_events.specs.Facts.{key_state}
use Rattle.centre_past.specs.Facts.{facts_of}
use Rattle.centre_past.specs.Legal.{Legal}
use Rattle.centre_events.specs.Past.{Past, From, After, by_edit}
use Rattle.centre_events.specs.Places.{place}
use Rattle.centre_past.specs.Reach.{Reach, bears, spot, placed_where, numbers_where}
use Rattle.coverage_plan.specs.Reach.{is_named_by}
use Rattle.centre_events.specs.Verdict.{answered, edit_answered, add_area_checks, drop_area_checks, put_checks}
use Rattle.centre_events.specs.Warnings.{book_of, warnings_of}
use Rattle.centre_events.specs.declared.answer.Answer.{Answer}
use Rattle.centre_events.specs.declared.answer.Answer.TheVariants as answer
use Rattle.coverage_plan.specs.declared.edit.Edit.{Edit}
use Rattle.coverage_plan.specs.declared.edit.Edit.TheVariants as edit
use Rattle.centre_events.specs.declared.event.Event.{Event}
use Rattle.centre_events.specs.declared.event.Event.TheVariants as event
use Rattle.centre_events.specs.declared.network.Network.{Network}
use Rattle.centre_events.specs.declared.settings.Settings.{Settings}
use Rattle.centre_past.proofs.AnyLemmas.{contrary}
use Rattle.centre_past.proofs.CheckLemmas.{no_check}
use Rattle.centre_past.proofs.FactsLemmas.{filter_pointwise}
use Rattle.centre_past.proofs.LineLemmas.{same_line, same_kept, same_idle, same_none, apart_away, found_passes, entry_of, Outside}
use Rattle.centre_lines.proofs.ReachLemmas.{not_there, number_there, placed_there}
use Rattle.centre_past.proofs.UniqueLemmas.{verdict_answered}
use Rattle.warning_book.specs.declared.kind.Kind.{Kind}

-- An area that has a selector is there.

no_selector : (base : Base) (a : List ℕ) (s : Selector) → base ≡ empty_base → base.has_selector a s ≡ true → base.is_area a ≡ true
no_selector base a s e h = let never : empty_base.has_selector a s ≡ true = ap (λ (k : Base). k.has_selector a s) (sym e) ∙ h in cc

selector_edit : (before : Past) (e : Edit) (given : Answer) (a : List ℕ) (s : Selector) → edit_answered before e ≡ Ok given → (has_selector before a s ≡ true → is_area before a ≡ true) → unwrap_or (selector_mark a s e) (has_selector before a s) ≡ true → unwrap_or (area_mark a e) (is_area before a) ≡ true
selector_edit before (edit.AddArea x) given a s v known h = step (bytes_eq x a) h
  where
    step : (t : Bool) → unwrap_or (if t then Some false else None) (has_selector before a s) ≡ true → unwrap_or (if t then Some true else None) (is_area before a) ≡ true
    step true g = refl
    step false g = known g
selector_edit before (edit.DropArea x) given a s v known h = step (bytes_eq x a) h
  where
    step : (t : Bool) → unwrap_or (if t then Some false else None) (has_selector before a s) ≡ true → unwrap_or (if t then Some false else None) (is_area before a) ≡ true
    step true g = cc
    step false g = known g
selector_edit before (edit.Put x t) given a s v known h = step (bytes_eq x a) refl (selector_eq t s) h
  where
    step : (u : Bool) → bytes_eq x a ≡ u → (w : Bool) → unwrap_or (if u && w then Some true else None) (has_selector before a s) ≡ true → is_area before a ≡ true
    step true e true g = ap (is_area before) (sym ((bytes_eq-Decides x a).0 e)) ∙ not-false (is_area before x) (no_check (put_checks before x t) (Ok answer.Done) given v).0
    step true e false g = known g
    step false e w g = known g
selector_edit before (edit.Cut x t) given a s v known h = step (bytes_eq x a && selector_eq t s) h
  where
    step : (u : Bool) → unwrap_or (if u then Some false else None) (has_selector before a s) ≡ true → is_area before a ≡ true
    step true g = cc
    step false g = known g
selector_edit before other given a s v known h = known h

selector_then : (network : Network) (before : Past) (e : Event) (given : Answer) (a : List ℕ) (s : Selector) → answered network before e ≡ Ok given → (has_selector before a s ≡ true → is_area before a ≡ true) → unwrap_or (by_edit (selector_mark a s) e) (has_selector before a s) ≡ true → unwrap_or (by_edit (area_mark a) e) (is_area before a) ≡ true
selector_then network before (event.Edit e) given a s v known h = selector_edit before e given a s v known h
selector_then network before other given a s v known h = known h

selector_area : (settings : Settings) (past : Past) → Legal settings past → (a : List ℕ) (s : Selector) → has_selector past a s ≡ true → is_area past a ≡ true
selector_area settings (From base) legal a s h = no_selector base a s legal h
selector_area settings (After e before) legal a s h =
    selector_then settings.network before e.event e.answer a s (verdict_answered settings before e.event e.answer legal.0) (selector_area settings before legal.1 a s) h

-- AddArea: a new area has no selector. DropArea: no warning in the book names the area.

pub outside_add_area : (settings : Settings) (past : Past) → Legal settings past → (desk : ℕ) (x : List ℕ) (a : Answer) → edit_answered past (edit.AddArea x) ≡ Ok a → Outside past desk (event.Edit (edit.AddArea x)) a
outside_add_area settings past legal desk x a v k h = step (warning_of (book_of past) k.warning)
  where
    new : Past
    new = After (entry_of desk (event.Edit (edit.AddArea x)) a) past

    bare : (y : List ℕ) (s : Selector) → bytes_eq x y ≡ true → has_selector past y s ≡ false
    bare y s e =
        contrary (has_selector past y s) (is_area past y) (selector_area settings past legal y s)
        (ap (is_area past) (sym ((bytes_eq-Decides x y).0 e)) ∙ (no_check (add_area_checks past x) (Ok answer.Done) a v).1.0)

    same : (y : List ℕ) (s : Selector) (t : Bool) → bytes_eq x y ≡ t → has_selector past y s ≡ unwrap_or (if t then Some false else None) (has_selector past y s)
    same y s true e = bare y s e
    same y s false e = refl

    covering : (y : List ℕ) → covers past y k.cell ≡ covers new y k.cell
    covering y = λ i. same y (selector.Cell k.cell) (bytes_eq x y) refl i || same y (selector.Lac k.cell.lac) (bytes_eq x y) refl i

    step : (o : Option Warning) → SamePart (facts_of past k.bsc k.cell o) (facts_of new k.bsc k.cell o)
    step None = same_none past new k.bsc k.cell
    step (Some w) = same_kept past new k.bsc k.cell w refl (filter_pointwise (λ y. covers past y k.cell) (λ y. covers new y k.cell) covering w.areas) refl (λ s there. refl)

-- two tests that agree on what fails a third one agree on a list of which nothing passes that
filter_besides : {X : Type 0} (p q r : X → Bool) → ((x : X) → r x ≡ false → p x ≡ q x) → (xs : List X) → list_any r xs ≡ false → filter p xs ≡ filter q xs
filter_besides p q r h [] g = refl
filter_besides p q r h (x ∷ xs) g =
    let parts = or_parts (r x) (list_any r xs) g in
    λ i. cond (h x parts.0 i) (x ∷ filter_besides p q r h xs parts.1 i) (filter_besides p q r h xs parts.1 i)

-- the areas of a warning in the book are others than one that none of them names
not_named : (past : Past) (x : List ℕ) (n : ℕ) (w : Warning) → list_any (names x) (warnings_of past) ≡ false → warning_of (book_of past) n ≡ Some w → names x w ≡ false
not_named past x n w h e = contrary (names x w) (list_any (names x) (warnings_of past)) (found_passes (has_number n) (names x) (warnings_of past) w e) h

pub outside_drop_area : (past : Past) (desk : ℕ) (x : List ℕ) (a : Answer) → edit_answered past (edit.DropArea x) ≡ Ok a → Outside past desk (event.Edit (edit.DropArea x)) a
outside_drop_area past desk x a v k h = step (warning_of (book_of past) k.warning) refl
  where
    new : Past
    new = After (entry_of desk (event.Edit (edit.DropArea x)) a) past

    same : (y : List ℕ) (s : Selector) (t : Bool) → bytes_eq x y ≡ t → t ≡ false → has_selector past y s ≡ unwrap_or (if t then Some false else None) (has_selector past y s)
    same y s true e g = cc
    same y s false e g = refl

    other : (y : List ℕ) → bytes_eq y x ≡ false → bytes_eq x y ≡ false
    other y e = turned bytes_eq bytes_eq-Decides x y ∙ e

    covering : (y : List ℕ) → bytes_eq y x ≡ false → covers past y k.cell ≡ covers new y k.cell
    covering y e = λ i. same y (selector.Cell k.cell) (bytes_eq x y) refl (other y e) i || same y (selector.Lac k.cell.lac) (bytes_eq x y) refl (other y e) i

    step : (o : Option Warning) → warning_of (book_of past) k.warning ≡ o → SamePart (facts_of past k.bsc k.cell o) (facts_of new k.bsc k.cell o)
    step None e = same_none past new k.bsc k.cell
    step (Some w) e =
        same_kept past new k.bsc k.cell w refl
        (filter_besides (λ y. covers past y k.cell) (λ y. covers new y k.cell) (λ y. bytes_eq y x) covering w.areas (not_named past x k.warning w (no_check (drop_area_checks past x) (Ok answer.Done) a v).1.0 e))
        refl (λ s there. refl)

-- Put and Cut: they change what covers the cells that the selector names, for the warnings that name the area.

-- a selector that doesn't name the cell is none of those by which an area covers it
unnamed : (t : Selector) (c : Cell) → is_named_by t c ≡ false → (selector_eq t (selector.Cell c) ≡ false) × (selector_eq t (selector.Lac c.lac) ≡ false)
unnamed (selector.Cell d) c h = (h, refl)
unnamed (selector.Lac lac) c h = (refl, h)

-- where one selector of one area is put in, or taken out, and nothing else changes
selector_kept : (settings : Settings) (past new : Past) → Legal settings past → (x : List ℕ) (t : Selector) (v : Bool) → ((y : List ℕ) (s : Selector) → has_selector new y s ≡ unwrap_or (if bytes_eq x y && selector_eq t s then Some v else None) (has_selector past y s)) → (k : LineKey) → place new k.cell ≡ place past k.cell → ((kind : Kind) → is_down past kind k.bsc k.cell ≡ is_down new kind k.bsc k.cell) → ((m s : ℕ) → key_state new k.bsc k.cell m s ≡ key_state past k.bsc k.cell m s) → bears (let r : Reach = record { spots = placed_where past (is_named_by t); warnings = numbers_where past (names x) } in r) k ≡ false → SamePart (facts_of past k.bsc k.cell (warning_of (book_of past) k.warning)) (facts_of new k.bsc k.cell (warning_of (book_of past) k.warning))
selector_kept settings past new legal x t v has k placed down keys h = step (warning_of (book_of past) k.warning) refl
  where
    reached : Reach
    reached = record { spots = placed_where past (is_named_by t); warnings = numbers_where past (names x) }

    same : (y : List ℕ) (s : Selector) → (bytes_eq x y && selector_eq t s) ≡ false → has_selector past y s ≡ has_selector new y s
    same y s e = ap (λ u. unwrap_or (if u then Some v else None) (has_selector past y s)) (sym e) ∙ sym (has y s)

    off : (u w : Bool) → w ≡ false → (u && w) ≡ false
    off true w e = e
    off false w e = refl

    elsewhere : is_named_by t k.cell ≡ false → (y : List ℕ) → covers past y k.cell ≡ covers new y k.cell
    elsewhere e y = λ i. same y (selector.Cell k.cell) (off (bytes_eq x y) (selector_eq t (selector.Cell k.cell)) (unnamed t k.cell e).0) i || same y (selector.Lac k.cell.lac) (off (bytes_eq x y) (selector_eq t (selector.Lac k.cell.lac)) (unnamed t k.cell e).1) i

    other : (y : List ℕ) (s : Selector) → bytes_eq y x ≡ false → (bytes_eq x y && selector_eq t s) ≡ false
    other y s e = ap (λ u. u && selector_eq t s) (turned bytes_eq bytes_eq-Decides x y ∙ e)

    otherwise : (y : List ℕ) → bytes_eq y x ≡ false → covers past y k.cell ≡ covers new y k.cell
    otherwise y e = λ i. same y (selector.Cell k.cell) (other y (selector.Cell k.cell) e) i || same y (selector.Lac k.cell.lac) (other y (selector.Lac k.cell.lac) e) i

    here : is_place (place past k.cell) k.bsc ≡ is_place (place new k.cell) k.bsc
    here = ap (λ o. is_place o k.bsc) (sym placed)

    away : (w : Warning) → warning_of (book_of past) k.warning ≡ Some w → is_named_by t k.cell ≡ true → names x w ≡ true → is_place (place past k.cell) k.bsc ≡ false
    away w e named there =
        contrary (is_place (place past k.cell) k.bsc) (list_any (spot_eq (spot k.bsc k.cell)) (placed_where past (is_named_by t)))
        (placed_there settings past legal (is_named_by t) k.bsc k.cell named)
        (not_there reached k h (number_there past (names x) k.warning w e there))

    step : (o : Option Warning) → warning_of (book_of past) k.warning ≡ o → SamePart (facts_of past k.bsc k.cell o) (facts_of new k.bsc k.cell o)
    step None e = same_none past new k.bsc k.cell
    step (Some w) e = at (is_named_by t k.cell) refl (names x w) refl
      where
        at : (u : Bool) → is_named_by t k.cell ≡ u → (n : Bool) → names x w ≡ n → SamePart (facts_of past k.bsc k.cell (Some w)) (facts_of new k.bsc k.cell (Some w))
        at true named true there =
            let gone = away w e named there in
            same_idle past new k.bsc k.cell w w (apart_away past k.bsc k.cell w gone) (apart_away new k.bsc k.cell w (sym here ∙ gone))
            (same_line past new k.bsc k.cell w (λ s known. keys w.message_id s)) refl refl (down (kind_of w))
        at true named false there =
            same_kept past new k.bsc k.cell w here (filter_besides (λ y. covers past y k.cell) (λ y. covers new y k.cell) (λ y. bytes_eq y x) otherwise w.areas there) (down (kind_of w)) (λ s known. keys w.message_id s)
        at false named n there =
            same_kept past new k.bsc k.cell w here (filter_pointwise (λ y. covers past y k.cell) (λ y. covers new y k.cell) (elsewhere named) w.areas) (down (kind_of w)) (λ s known. keys w.message_id s)

pub outside_put : (settings : Settings) (past : Past) → Legal settings past → (desk : ℕ) (x : List ℕ) (t : Selector) (a : Answer) → Outside past desk (event.Edit (edit.Put x t)) a
outside_put settings past legal desk x t a k h =
    selector_kept settings past (After (entry_of desk (event.Edit (edit.Put x t)) a) past) legal x t true (λ y s. refl) k refl (λ kind. refl) (λ m s. refl) h

pub outside_cut : (settings : Settings) (past : Past) → Legal settings past → (desk : ℕ) (x : List ℕ) (t : Selector) (a : Answer) → Outside past desk (event.Edit (edit.Cut x t)) a
outside_cut settings past legal desk x t a k h =
    selector_kept settings past (After (entry_of desk (event.Edit (edit.Cut x t)) a) past) legal x t false (λ y s. refl) k refl (λ kind. refl) (λ m s. refl) h
