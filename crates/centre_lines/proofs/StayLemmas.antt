-- A line that what happens leaves as it is, or that stays idle, has the same part after it.
use Rattle.std.proofs.Common.{◌≡◌, ℕ, Bool, true, false, ◌&&◌, ◌||◌, not, nat_eq, List, Option, Some, None, Ok, unwrap_or, refl, sym, ◌∙◌, ap, subst}
use Rattle.std.specs.Prelude.{if◌then◌else◌}
use Rattle.std.specs.List.{list_any}
use Rattle.std.proofs.lemmas.Bool.{and_parts, not-true}
use Rattle.areas.specs.Areas as areas
use Rattle.areas.specs.declared.area.Area.{Area}
use Rattle.cell_register.specs.Register as register
use Rattle.cell_register.specs.Register.{is_place}
use Rattle.common.specs.declared.cell.Cell.{Cell}
use Rattle.coverage_plan.specs.Plan.{State}
use Rattle.kept_tables.specs.Same.{SamePart}
use Rattle.kept_tables.specs.Tables.{Tables}
use Rattle.kept_tables.specs.declared.line_facts.LineFacts.{LineFacts}
use Rattle.mirror.specs.Blank.{is_blank, line_eq}
use Rattle.mirror.specs.BlankLaws.{blank_decides, line_decides}
use Rattle.mirror.specs.Line.{blank_line}
use Rattle.mirror.specs.Table.{line_at}
use Rattle.mirror.specs.declared.line.Line.{Line}
use Rattle.mirror.specs.declared.line_key.LineKey.{LineKey}
use Rattle.mirror.specs.declared.presence.Presence.TheVariants.{Absent}
use Rattle.warning_book.specs.Book as book
use Rattle.warning_book.specs.Book.{warning_of}
use Rattle.warning_book.specs.declared.warning.Warning.{Warning}
use Rattle.centre_events.specs.Cover.{covers, is_covered}
use Rattle.centre_events.specs.Down.{down_mark, is_down}
use Rattle.centre_events.specs.Effects.{state_after}
use Rattle.centre_events.specs.Facts.{key_state, line_of, IsLineOf}
use Rattle.centre_past.specs.Facts.{facts_of, facts}
use Rattle.centre_lines.specs.Following.{Happens, entry_of, is_idle, keeps_down, leaves_cover, line_now, stays_so}
use Rattle.centre_lines.specs.Walking.{Walks}
use Rattle.centre_past.specs.IsKept.{IsKept}
use Rattle.centre_events.specs.Kept.{IsRegisterOf, AreAreasOf, is_edit}
use Rattle.centre_events.specs.Past.{Past, After}
use Rattle.centre_events.specs.Places.{place}
use Rattle.centre_past.specs.State.{facts_from}
use Rattle.centre_events.specs.Verdict.{verdict}
use Rattle.centre_events.specs.Warnings.{book_of, kind_in}
use Rattle.centre_events.specs.declared.answer.Answer.{Answer}
use Rattle.centre_events.specs.declared.effect.Effect.TheVariants.{Sets, Leaves}
use Rattle.centre_events.specs.declared.event.Event.{Event}
use Rattle.centre_events.specs.declared.event.Event.TheVariants as event
use Rattle.centre_events.specs.declared.settings.Settings.{Settings}
use Rattle.centre_past.specs.declared.kept.Kept.{Kept}
use Rattle.coverage_plan.specs.declared.edit.Edit.{Edit}
use Rattle.coverage_plan.specs.declared.edit.Edit.TheVariants as edit
use Rattle.centre_past.proofs.AnyLemmas.{and_none}
use Rattle.centre_past.proofs.AreaLemmas.{areas_with}
use Rattle.centre_past.proofs.FactsLemmas.{any_pointwise, covers_same, facts_same}
use Rattle.centre_past.proofs.LineLemmas.{idle_apart, line_blank, not_wanted, same_line, same_none}
use Rattle.centre_past.proofs.PartLemmas.{same_blank}
use Rattle.centre_past.proofs.RegisterLemmas.{register_with}
use Rattle.centre_lines.proofs.ThenLemmas.{line_then}
use Rattle.centre_past.proofs.UniqueLemmas.{verdict_answered}
use Rattle.warning_book.specs.declared.kind.Kind.{Kind}

-- an event that is no edit leaves the register, the areas and the book

pub book_stays : (desk : ℕ) (e : Event) (a : Answer) (past : Past) → is_edit e ≡ false → book_of (After (record { desk = desk; event = e; answer = a }) past) ≡ book_of past
book_stays desk (event.Edit x) a past h = cc
book_stays desk other a past h = refl

register_stays : (settings : Settings) (past : Past) (desk : ℕ) (e : Event) (a : Answer) → verdict settings past e ≡ Ok a → is_edit e ≡ false → (r : register.State) → IsRegisterOf past r → IsRegisterOf (After (record { desk = desk; event = e; answer = a }) past) r
register_stays settings past desk (event.Edit x) a v h r is = cc
register_stays settings past desk other a v h r is = register_with settings.network (record { desk = desk; event = other; answer = a }) past r (verdict_answered settings past other a v) is

areas_stay : (settings : Settings) (past : Past) (desk : ℕ) (e : Event) (a : Answer) → verdict settings past e ≡ Ok a → is_edit e ≡ false → (l : List Area) → AreAreasOf past l → AreAreasOf (After (record { desk = desk; event = e; answer = a }) past) l
areas_stay settings past desk (event.Edit x) a v h l are = cc
areas_stay settings past desk other a v h l are = areas_with settings.network (record { desk = desk; event = other; answer = a }) past l (verdict_answered settings past other a v) are

-- what brings a cell down, or up, leaves it so
down_kept : (o : Option Bool) (was : Bool) → keeps_down o was ≡ true → unwrap_or o was ≡ was
down_kept None was h = refl
down_kept (Some true) was h = sym h
down_kept (Some false) true h = cc
down_kept (Some false) false h = refl

-- a line on which nothing is kept before and after, and which no area covers
idle_then : (past new : Past) (b : ℕ) (c : Cell) (w : Warning) → line_of past b c w ≡ blank_line → line_of new b c w ≡ blank_line → is_covered past w.areas c ≡ false → is_covered new w.areas c ≡ false → SamePart (facts_of past b c (Some w)) (facts_of new b c (Some w))
idle_then past new b c w before after bare still =
    same_blank (facts_of past b c (Some w)) (facts_of new b c (Some w)) before after
    (not_wanted past b c w (idle_apart past b c w (ap (λ t. is_place (place past c) b && t) bare ∙ and_none (is_place (place past c) b))))
    (not_wanted new b c w (idle_apart new b c w (ap (λ t. is_place (place new c) b && t) still ∙ and_none (is_place (place new c) b))))

-- no area covers the cell, by those that are kept
uncovered : (past : Past) (l : List Area) → AreAreasOf past l → (c : Cell) (w : Warning) → not (list_any (λ a. areas.covers l a c) w.areas) ≡ true → is_covered past w.areas c ≡ false
uncovered past l selected c w h =
    sym (any_pointwise (λ a. areas.covers l a c) (λ a. covers past a c) (covers_same past l selected c) w.areas) ∙ not-true (list_any (λ a. areas.covers l a c) w.areas) h

-- what the past with the entry says of a line, from the line as it was
pub facts_new : {p : State} {h : Happens} {t : Tables} {keys : List LineKey} (x : Walks p h t keys) (k : LineKey) (down : Bool) → down ≡ is_down (After (entry_of x.desk h) x.past) (kind_in (warning_of p.book k.warning)) k.bsc k.cell → facts_from p.register p.areas down k.bsc k.cell (line_now h p.book.warnings k.bsc k.cell (warning_of p.book k.warning) (facts x.past k).line) (warning_of p.book k.warning) ≡ facts (After (entry_of x.desk h) x.past) k
facts_new {p = p} {h = h} x k down fallen =
    subst (λ (st : book.State). down ≡ is_down new (kind_in (warning_of st k.warning)) k.bsc k.cell → facts_from p.register p.areas down k.bsc k.cell (line_now h st.warnings k.bsc k.cell (warning_of st k.warning) (facts x.past k).line) (warning_of st k.warning) ≡ facts new k)
    (sym (x.booked ∙ sym (book_stays x.desk h.event h.answer x.past x.other)))
    (λ is. facts_same new p.register p.areas down k.bsc k.cell (line_now h (book_of new).warnings k.bsc k.cell (warning_of (book_of new) k.warning) (facts x.past k).line) (warning_of (book_of new) k.warning) (register_stays x.settings x.past x.desk h.event h.answer x.accepted x.other p.register x.registered) (areas_stay x.settings x.past x.desk h.event h.answer x.accepted x.other p.areas x.selected) is
    (line_then x.settings x.past x.legal x.desk h x.accepted x.up x.flight k (warning_of (book_of new) k.warning) refl))
    fallen
  where
    new : Past
    new = After (entry_of x.desk h) x.past

-- what the past says of a line, from the line
pub facts_old : {p : State} {h : Happens} {t : Tables} {keys : List LineKey} (x : Walks p h t keys) (k : LineKey) (line : Line) (down : Bool) → line ≡ (facts x.past k).line → down ≡ is_down x.past (kind_in (warning_of p.book k.warning)) k.bsc k.cell → facts_from p.register p.areas down k.bsc k.cell line (warning_of p.book k.warning) ≡ facts x.past k
facts_old {p = p} x k line down at is =
    subst (λ (st : book.State). down ≡ is_down x.past (kind_in (warning_of st k.warning)) k.bsc k.cell → facts_from p.register p.areas down k.bsc k.cell line (warning_of st k.warning) ≡ facts x.past k) (sym x.booked)
    (λ same. facts_same x.past p.register p.areas down k.bsc k.cell line (warning_of (book_of x.past) k.warning) x.registered x.selected same (of (warning_of (book_of x.past) k.warning) at))
    is
  where
    of : (o : Option Warning) → line ≡ (facts_of x.past k.bsc k.cell o).line → IsLineOf x.past k.bsc k.cell line o
    of None e = tt
    of (Some w) e = e

-- the line as it is kept, from what is read of it
pub line_kept : (past : Past) (s : Kept) → IsKept past s → (k : LineKey) (w : Warning) → warning_of (book_of past) k.warning ≡ Some w → line_at s.tables.lines k.bsc k.cell k.warning ≡ line_of past k.bsc k.cell w
line_kept past s kept k w found = kept.tables.lines k ∙ ap (λ o. (facts_of past k.bsc k.cell o).line) found

-- what happens leaves the line as it is that stands so, in a cell that is down or not
pub stays_same : {p : State} {h : Happens} {t : Tables} {keys : List LineKey} (x : Walks p h t keys) (k : LineKey) (line : Line) (was : Bool) → line ≡ (facts x.past k).line → was ≡ is_down x.past (kind_in (warning_of p.book k.warning)) k.bsc k.cell → stays_so h p.areas k (warning_of p.book k.warning) line (line_now h p.book.warnings k.bsc k.cell (warning_of p.book k.warning) line) was ≡ true → SamePart (facts x.past k) (facts (After (entry_of x.desk h) x.past) k)
stays_same {p = p} {h = h} x k line was at is g = step (keeps_down mark was) refl parts.1
  where
    new : Past
    new = After (entry_of x.desk h) x.past

    books : book_of new ≡ book_of x.past
    books = book_stays x.desk h.event h.answer x.past x.other

    kind : Kind
    kind = kind_in (warning_of p.book k.warning)

    mark : Option Bool
    mark = down_mark kind k.bsc k.cell h.event h.answer

    later : Line
    later = line_now h p.book.warnings k.bsc k.cell (warning_of p.book k.warning) line

    parts : (line_eq later line ≡ true) × ((keeps_down mark was || is_idle p.areas (warning_of p.book k.warning) k.cell line) ≡ true)
    parts = and_parts (line_eq later line) (keeps_down mark was || is_idle p.areas (warning_of p.book k.warning) k.cell line) g

    same : later ≡ line
    same = (line_decides later line).0 parts.0

    -- what is read after it, with what is down then
    after : (down : Bool) → down ≡ is_down new kind k.bsc k.cell → facts_from p.register p.areas down k.bsc k.cell line (warning_of p.book k.warning) ≡ facts new k
    after down fallen =
        ap (λ l. facts_from p.register p.areas down k.bsc k.cell l (warning_of p.book k.warning)) (sym same ∙ ap (λ l. line_now h p.book.warnings k.bsc k.cell (warning_of p.book k.warning) l) at)
        ∙ facts_new x k down fallen

    -- and before it
    before : facts_from p.register p.areas was k.bsc k.cell line (warning_of p.book k.warning) ≡ facts x.past k
    before = facts_old x k line was at is

    fallen : keeps_down mark was ≡ true → was ≡ is_down new kind k.bsc k.cell
    fallen e = sym (down_kept mark was e) ∙ ap (unwrap_or mark) is

    -- an idle line
    idle : (o : Option Warning) → warning_of p.book k.warning ≡ o → is_idle p.areas o k.cell line ≡ true → SamePart (facts_of x.past k.bsc k.cell o) (facts_of new k.bsc k.cell o)
    idle None found e = same_none x.past new k.bsc k.cell
    idle (Some w) found e =
        idle_then x.past new k.bsc k.cell w (sym early ∙ blank) (sym late ∙ blank)
        (uncovered x.past p.areas x.selected k.cell w two.1)
        (uncovered new p.areas (areas_stay x.settings x.past x.desk h.event h.answer x.accepted x.other p.areas x.selected) k.cell w two.1)
      where
        two : (is_blank line ≡ true) × (not (list_any (λ a. areas.covers p.areas a k.cell) w.areas) ≡ true)
        two = and_parts (is_blank line) (not (list_any (λ a. areas.covers p.areas a k.cell) w.areas)) e

        blank : line ≡ blank_line
        blank = (blank_decides line).0 two.0

        early : line ≡ line_of x.past k.bsc k.cell w
        early = at ∙ ap (λ o. (facts_of x.past k.bsc k.cell o).line) (ap (λ (st : book.State). warning_of st k.warning) (sym x.booked) ∙ found)

        late : line ≡ line_of new k.bsc k.cell w
        late =
            ap (λ o. (facts_from p.register p.areas (is_down new kind k.bsc k.cell) k.bsc k.cell line o).line) (sym found)
            ∙ ap (λ (f : LineFacts). f.line) (after (is_down new kind k.bsc k.cell) refl)
            ∙ ap (λ o. (facts_of new k.bsc k.cell o).line) (ap (λ (st : book.State). warning_of st k.warning) (books ∙ sym x.booked) ∙ found)

    whole : SamePart (facts_of x.past k.bsc k.cell (warning_of p.book k.warning)) (facts_of new k.bsc k.cell (warning_of p.book k.warning)) → SamePart (facts x.past k) (facts new k)
    whole y =
        subst (λ (st : book.State). SamePart (facts x.past k) (facts_of new k.bsc k.cell (warning_of st k.warning))) (x.booked ∙ sym books)
        (subst (λ (st : book.State). SamePart (facts_of x.past k.bsc k.cell (warning_of st k.warning)) (facts_of new k.bsc k.cell (warning_of p.book k.warning))) x.booked y)

    step : (t : Bool) → keeps_down mark was ≡ t → (t || is_idle p.areas (warning_of p.book k.warning) k.cell line) ≡ true → SamePart (facts x.past k) (facts new k)
    step true e i = subst (λ f. SamePart f (facts new k)) (sym (after was (fallen e)) ∙ before) (record { line = refl; deeds = refl; total = refl; area = λ a. refl })
    step false e i = whole (idle (warning_of p.book k.warning) refl i)

-- an edit that leaves what each area covers leaves an idle line idle
pub idle_same : (past : Past) (desk : ℕ) (e : Edit) (a : Answer) → leaves_cover e ≡ true → (s : Kept) → IsKept past s → (k : LineKey) → is_idle s.plan.areas (warning_of s.plan.book k.warning) k.cell (line_at s.tables.lines k.bsc k.cell k.warning) ≡ true → SamePart (facts past k) (facts (After (record { desk = desk; event = event.Edit e; answer = a }) past) k)
idle_same past desk e a h s kept k idle =
    of e h (warning_of (book_of past) k.warning) refl (ap (λ (st : book.State). is_idle s.plan.areas (warning_of st k.warning) k.cell line) (sym kept.booked) ∙ idle)
  where
    line : Line
    line = line_at s.tables.lines k.bsc k.cell k.warning

    new : Edit → Past
    new x = After (record { desk = desk; event = event.Edit x; answer = a }) past

    bare : (w : Warning) → is_idle s.plan.areas (Some w) k.cell line ≡ true → is_covered past w.areas k.cell ≡ false
    bare w i = uncovered past s.plan.areas kept.selected k.cell w (and_parts (is_blank line) (not (list_any (λ a. areas.covers s.plan.areas a k.cell) w.areas)) i).1

    blank : (w : Warning) → warning_of (book_of past) k.warning ≡ Some w → is_idle s.plan.areas (Some w) k.cell line ≡ true → line_of past k.bsc k.cell w ≡ blank_line
    blank w found i =
        sym (line_kept past s kept k w found) ∙ (blank_decides line).0 (and_parts (is_blank line) (not (list_any (λ a. areas.covers s.plan.areas a k.cell) w.areas)) i).0

    of : (x : Edit) → leaves_cover x ≡ true → (o : Option Warning) → warning_of (book_of past) k.warning ≡ o → is_idle s.plan.areas o k.cell line ≡ true → SamePart (facts_of past k.bsc k.cell o) (facts (new x) k)
    of (edit.AddCell d b) g None found i = subst (λ o. SamePart (facts_of past k.bsc k.cell None) (facts_of (new (edit.AddCell d b)) k.bsc k.cell o)) (sym found) (same_none past (new (edit.AddCell d b)) k.bsc k.cell)
    of (edit.AddCell d b) g (Some w) found i =
        subst (λ o. SamePart (facts_of past k.bsc k.cell (Some w)) (facts_of (new (edit.AddCell d b)) k.bsc k.cell o)) (sym found)
        (idle_then past (new (edit.AddCell d b)) k.bsc k.cell w (blank w found i) (sym (same_line past (new (edit.AddCell d b)) k.bsc k.cell w (λ s there. refl)) ∙ blank w found i) (bare w i) (bare w i))
    of (edit.MoveCell d b) g None found i = subst (λ o. SamePart (facts_of past k.bsc k.cell None) (facts_of (new (edit.MoveCell d b)) k.bsc k.cell o)) (sym found) (same_none past (new (edit.MoveCell d b)) k.bsc k.cell)
    of (edit.MoveCell d b) g (Some w) found i =
        subst (λ o. SamePart (facts_of past k.bsc k.cell (Some w)) (facts_of (new (edit.MoveCell d b)) k.bsc k.cell o)) (sym found)
        (idle_then past (new (edit.MoveCell d b)) k.bsc k.cell w (blank w found i) (sym (same_line past (new (edit.MoveCell d b)) k.bsc k.cell w (λ s there. refl)) ∙ blank w found i) (bare w i) (bare w i))
    of (edit.RemoveCell d) g None found i = subst (λ o. SamePart (facts_of past k.bsc k.cell None) (facts_of (new (edit.RemoveCell d)) k.bsc k.cell o)) (sym found) (same_none past (new (edit.RemoveCell d)) k.bsc k.cell)
    of (edit.RemoveCell d) g (Some w) found i =
        subst (λ o. SamePart (facts_of past k.bsc k.cell (Some w)) (facts_of (new (edit.RemoveCell d)) k.bsc k.cell o)) (sym found)
        (idle_then past (new (edit.RemoveCell d)) k.bsc k.cell w (blank w found i) (sym (same_line past (new (edit.RemoveCell d)) k.bsc k.cell w (λ s there. refl)) ∙ blank w found i) (bare w i) (bare w i))
    of (edit.RemoveBsc b) g None found i = subst (λ o. SamePart (facts_of past k.bsc k.cell None) (facts_of (new (edit.RemoveBsc b)) k.bsc k.cell o)) (sym found) (same_none past (new (edit.RemoveBsc b)) k.bsc k.cell)
    of (edit.RemoveBsc b) g (Some w) found i =
        subst (λ o. SamePart (facts_of past k.bsc k.cell (Some w)) (facts_of (new (edit.RemoveBsc b)) k.bsc k.cell o)) (sym found)
        (idle_then past (new (edit.RemoveBsc b)) k.bsc k.cell w (blank w found i) (late (nat_eq b k.bsc) refl) (bare w i) (bare w i))
      where
        late : (t : Bool) → nat_eq b k.bsc ≡ t → line_of (new (edit.RemoveBsc b)) k.bsc k.cell w ≡ blank_line
        late true e = line_blank (new (edit.RemoveBsc b)) k.bsc k.cell w (λ s there. ap (λ t. state_after (if t then Sets Absent else Leaves) (if t then Some 0 else None) (key_state past k.bsc k.cell w.message_id s)) e)
        late false e = sym (same_line past (new (edit.RemoveBsc b)) k.bsc k.cell w (λ s there. ap (λ t. state_after (if t then Sets Absent else Leaves) (if t then Some 0 else None) (key_state past k.bsc k.cell w.message_id s)) e)) ∙ blank w found i
    of other g o found i = cc
