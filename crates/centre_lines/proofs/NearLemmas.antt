-- The lines of the warnings that are not near a cell are passed over where an edit leaves what each area covers, and stay
-- where what happens leaves blank lines blank.
use Rattle.std.proofs.Common.{◌≡◌, ℕ, Bool, true, false, ◌&&◌, ◌||◌, not, List, [], ◌∷◌, ◌++◌, Option, Some, None, cond, filter, refl, sym, ◌∙◌, ap}
use Rattle.std.specs.Prelude.{find, if◌then◌else◌}
use Rattle.std.specs.List.{list_any}
use Rattle.std.specs.Map.{lookup}
use Rattle.std.specs.Option.{unwrap_or}
use Rattle.areas.specs.Areas.{areas_of, covers}
use Rattle.areas.specs.declared.area.Area.{Area}
use Rattle.common.specs.declared.cell.Cell.{Cell}
use Rattle.coverage_plan.specs.Plan.{State}
use Rattle.kept_tables.specs.Tables.{Tables}
use Rattle.kept_tables.specs.View.{key_at}
use Rattle.kept_tables.specs.declared.spot.Spot.{Spot}
use Rattle.mirror.specs.Blank.{is_blank, line_eq}
use Rattle.mirror.specs.Line.{blank_line}
use Rattle.mirror.specs.Table.{is_slot, line_at}
use Rattle.mirror.specs.declared.line.Line.{Line}
use Rattle.warning_book.specs.Book as book
use Rattle.warning_book.specs.Book.{has_number, is_so, names_one_of, warning_of}
use Rattle.warning_book.specs.declared.warning.Warning.{Warning}
use Rattle.coverage_plan.specs.declared.edit.Edit.{Edit}
use Rattle.coverage_plan.specs.declared.edit.Edit.TheVariants as edit
use Rattle.centre_past.specs.Idle.{AsBefore}
use Rattle.centre_lines.specs.Following.{Happens, before_at, line_before, before_unless, is_idle, is_near, leaves_blank, leaves_cover, line_now, passed_over, stays}
use Rattle.centre_lines.proofs.BlankLineLemmas.{blank_left}
use Rattle.centre_lines.proofs.CoverageLemmas.{names_covering}

-- neither of two is so

neither : (p q : Bool) → (p || q) ≡ false → (p ≡ false) × (q ≡ false)
neither true q h = cc
neither false true h = cc
neither false false h = (refl, refl)

found_so : (n : ℕ) (f : Warning → Bool) (ws : List Warning) (w : Warning) → find (has_number n) ws ≡ Some w → is_so n f ws ≡ false → f w ≡ false
found_so n f [] w found so = cc
found_so n f (v ∷ ws) w found so = step (has_number n v) (λ g later. found_so n f ws w g later) found (neither (has_number n v && f v) (is_so n f ws) so)
  where
    step : (t : Bool) → (find (has_number n) ws ≡ Some w → is_so n f ws ≡ false → f w ≡ false) → cond t (Some v) (find (has_number n) ws) ≡ Some w → ((t && f v) ≡ false) × (is_so n f ws ≡ false) → f w ≡ false
    step true rest g parts = let same : v ≡ w = cc in ap f (sym same) ∙ parts.0
    step false rest g parts = rest g parts.1

-- the line is idle

idle_there : (l : List Area) (st : book.State) (c : Cell) (n : ℕ) (line : Line) → is_blank line ≡ true → is_so n (names_one_of (areas_of l c)) st.warnings ≡ false → (o : Option Warning) → warning_of st n ≡ o → is_idle l o c line ≡ true
idle_there l st c n line blank so None e = refl
idle_there l st c n line blank so (Some w) e =
    let none : list_any (λ a. covers l a c) w.areas ≡ false = sym (names_covering l c w) ∙ found_so n (names_one_of (areas_of l c)) st.warnings w e so in
    ap (λ t. t && not (list_any (λ a. covers l a c) w.areas)) blank ∙ ap not none

-- so it is passed over

over : (e : Edit) (l : List Area) (o : Option Warning) (c : Cell) (line : Line) → leaves_cover e ≡ true → is_idle l o c line ≡ true → passed_over e l o c line ≡ true
over (edit.RemoveBsc b) l o c line leaves idle = idle
over (edit.AddCell d b) l o c line leaves idle = idle
over (edit.MoveCell d b) l o c line leaves idle = idle
over (edit.RemoveCell d) l o c line leaves idle = idle
over other l o c line leaves idle = cc

blank_of : (t : Bool) → not t ≡ false → t ≡ true
blank_of true h = refl
blank_of false h = cc

far_passed : (e : Edit) (p : State) (t u : Tables) (q : Spot) (n : ℕ) → AsBefore t u → leaves_cover e ≡ true → is_near p.areas p.book u.lines q.bsc q.cell n ≡ false → before_unless e p t (key_at q n) ≡ []
far_passed e p t u q n same leaves far =
    let parts = neither (not (is_blank (line_at u.lines q.bsc q.cell n))) (is_so n (names_one_of (areas_of p.areas q.cell)) p.book.warnings) far in
    let blank : is_blank (line_at t.lines q.bsc q.cell n) ≡ true = ap (λ ls. is_blank (unwrap_or (lookup (is_slot q.bsc q.cell n) ls) blank_line)) (sym same.lines) ∙ blank_of (is_blank (line_at u.lines q.bsc q.cell n)) parts.0 in
    let idle = idle_there p.areas p.book q.cell n (line_at t.lines q.bsc q.cell n) blank parts.1 (warning_of p.book n) refl in
    ap (λ x. if x then [] else line_before p t (key_at q n) ∷ []) (over e p.areas (warning_of p.book n) q.cell (line_at t.lines q.bsc q.cell n) leaves idle)

-- and the lines that are held are those of the warnings that are near
pub near_before : (e : Edit) (p : State) (t u : Tables) (q : Spot) (ns : List ℕ) → AsBefore t u → leaves_cover e ≡ true → before_at e p t (filter (is_near p.areas p.book u.lines q.bsc q.cell) ns) q ≡ before_at e p t ns q
near_before e p t u q [] same leaves = refl
near_before e p t u q (n ∷ ns) same leaves = step (near_before e p t u q ns same leaves) (is_near p.areas p.book u.lines q.bsc q.cell n) refl
  where
    step : before_at e p t (filter (is_near p.areas p.book u.lines q.bsc q.cell) ns) q ≡ before_at e p t ns q → (x : Bool) → is_near p.areas p.book u.lines q.bsc q.cell n ≡ x → before_at e p t (cond x (n ∷ filter (is_near p.areas p.book u.lines q.bsc q.cell) ns) (filter (is_near p.areas p.book u.lines q.bsc q.cell) ns)) q ≡ before_unless e p t (key_at q n) ++ before_at e p t ns q
    step rest true h = ap (λ xs. before_unless e p t (key_at q n) ++ xs) rest
    step rest false h = rest ∙ ap (λ xs. xs ++ before_at e p t ns q) (sym (far_passed e p t u q n same leaves h))

-- an idle line stays where what happens leaves blank lines blank
pub far_stays : (h : Happens) (l : List Area) (st : book.State) (t u : Tables) (p : Spot) (n : ℕ) → AsBefore t u → leaves_blank h.event h.answer ≡ true → is_near l st u.lines p.bsc p.cell n ≡ false → stays h l st t (key_at p n) ≡ true
far_stays h l st t u p n same blanks far =
    let parts = neither (not (is_blank (line_at u.lines p.bsc p.cell n))) (is_so n (names_one_of (areas_of l p.cell)) st.warnings) far in
    let blank : is_blank line ≡ true = ap (λ ls. is_blank (unwrap_or (lookup (is_slot p.bsc p.cell n) ls) blank_line)) (sym same.lines) ∙ blank_of (is_blank (line_at u.lines p.bsc p.cell n)) parts.0 in
    let left : line_eq (line_now h st.warnings p.bsc p.cell (warning_of st n) line) line ≡ true = sym (blank_left h st.warnings p.bsc p.cell (warning_of st n) line blanks blank) in
    both _ _ _ left (idle_there l st p.cell n line blank parts.1 (warning_of st n) refl)
  where
    line : Line
    line = line_at t.lines p.bsc p.cell n

    both : (x y z : Bool) → x ≡ true → z ≡ true → (x && (y || z)) ≡ true
    both true true z f g = refl
    both true false z f g = g
    both false y z f g = cc
