-- A BSC with a link that is up, with something in flight or with a registered cell is registered, and a registered BSC is
-- one of those that ever were.
use Rattle.std.proofs.Common.{◌≡◌, ℕ, ◌+◌, Bool, true, false, ◌&&◌, not, nat_eq, List, Some, None, Ok, unwrap_or, cond, refl, sym, ◌∙◌, ap, eqb-true}
use Rattle.std.specs.Prelude.{if◌then◌else◌}
use Rattle.std.specs.Cmp.{unsigned_Decides}
use Rattle.std.specs.List.{list_any}
use Rattle.std.specs.Option.{is_some}
use Rattle.std.proofs.lemmas.Bool.{not-false}
use Rattle.cell_register.specs.Register.{is_place}
use Rattle.common.specs.Cell.{cell_eq}
use Rattle.common.specs.Equality.{cell_decides}
use Rattle.common.specs.declared.cell.Cell.{Cell}
use Rattle.warning_book.specs.Book.{warning_of}
use Rattle.centre_events.specs.Asking.{warning_query}
use Rattle.centre_events.specs.Base.{Base, empty_base}
use Rattle.order_maker.specs.Grouping.{first}
use Rattle.centre_events.specs.InFlight.{in_flight, flight_mark, sent_flight, asked_flight, is_replied}
use Rattle.centre_past.specs.Legal.{Legal}
use Rattle.centre_events.specs.Links.{is_bsc, bsc_mark, added_bsc, bscs, is_up, first_down, up_mark}
use Rattle.centre_events.specs.Past.{Past, From, After, IsUnfolded, by_edit, with_new, position}
use Rattle.centre_events.specs.Pending.{pending}
use Rattle.centre_events.specs.Places.{place, place_mark, cells}
use Rattle.centre_events.specs.Verdict.{answered, edit_answered, has_cells, add_bsc_checks, remove_bsc_checks, add_cell_checks, move_cell_checks, link_up_checks, send_checks, send_answer, ask_checks}
use Rattle.centre_events.specs.Warnings.{book_of}
use Rattle.centre_events.specs.declared.answer.Answer.{Answer}
use Rattle.centre_events.specs.declared.answer.Answer.TheVariants as answer
use Rattle.coverage_plan.specs.declared.edit.Edit.{Edit}
use Rattle.coverage_plan.specs.declared.edit.Edit.TheVariants as edit
use Rattle.centre_events.specs.declared.event.Event.{Event}
use Rattle.centre_events.specs.declared.event.Event.TheVariants as event
use Rattle.centre_events.specs.declared.network.Network.{Network}
use Rattle.centre_events.specs.declared.settings.Settings.{Settings}
use Rattle.centre_past.proofs.AnyLemmas.{any_at}
use Rattle.centre_past.proofs.CheckLemmas.{no_check}
use Rattle.centre_past.proofs.CountLemmas.{among_more, among_new}
use Rattle.centre_past.proofs.KnownLemmas.{legal_unfolded, known_place, flight_none}
use Rattle.centre_past.proofs.UniqueLemmas.{verdict_answered}

-- A BSC that is registered is one of those that ever were.

bsc_edit : (e : Edit) (before : Past) (b : ℕ) → (is_bsc before b ≡ true → list_any (nat_eq b) (bscs before) ≡ true) → unwrap_or (bsc_mark b e) (is_bsc before b) ≡ true → list_any (nat_eq b) (with_new nat_eq (added_bsc e) (bscs before)) ≡ true
bsc_edit (edit.AddBsc other) before b known h = step (nat_eq other b) refl
  where
    step : (t : Bool) → nat_eq other b ≡ t → list_any (nat_eq b) (with_new nat_eq (Some other) (bscs before)) ≡ true
    step true e = among_new nat_eq unsigned_Decides b other (bscs before) e
    step false e = let there : is_bsc before b ≡ true = rw e at h in among_more nat_eq b (Some other) (bscs before) (known there)
bsc_edit (edit.RemoveBsc other) before b known h = step (nat_eq other b) h
  where
    step : (t : Bool) → unwrap_or (cond t (Some false) None) (is_bsc before b) ≡ true → list_any (nat_eq b) (bscs before) ≡ true
    step true g = cc
    step false g = known g
bsc_edit other before b known h = known h

bsc_event : (e : Event) (before : Past) (b : ℕ) → (is_bsc before b ≡ true → list_any (nat_eq b) (bscs before) ≡ true) → unwrap_or (by_edit (bsc_mark b) e) (is_bsc before b) ≡ true → list_any (nat_eq b) (with_new nat_eq (by_edit added_bsc e) (bscs before)) ≡ true
bsc_event (event.Edit e) before b known h = bsc_edit e before b known h
bsc_event other before b known h = known h

no_bsc : (base : Base) (b : ℕ) → base ≡ empty_base → base.is_bsc b ≡ true → list_any (nat_eq b) base.bscs ≡ true
no_bsc base b e h = let no : empty_base.is_bsc b ≡ true = ap (λ (k : Base). k.is_bsc b) (sym e) ∙ h in cc

pub bsc_named : (past : Past) → IsUnfolded past → (b : ℕ) → is_bsc past b ≡ true → list_any (nat_eq b) (bscs past) ≡ true
bsc_named (From base) unfolded b h = no_bsc base b unfolded h
bsc_named (After e before) unfolded b h = bsc_event e.event before b (bsc_named before unfolded b) h

-- A link that is up is that of a registered BSC.

-- the BSC of an event that was not refused for want of it
pub asked : (before : Past) (other b : ℕ) → not (is_bsc before other) ≡ false → nat_eq other b ≡ true → is_bsc before b ≡ true
asked before other b h e = ap (is_bsc before) (sym (eqb-true other b e)) ∙ not-false (is_bsc before other) h

-- what is so of one BSC is not so of another that is the same
pub clash : (f : ℕ → Bool) (other b : ℕ) → nat_eq other b ≡ true → f b ≡ true → f other ≡ false → ⊥
clash f other b e h g = let no : true ≡ false = sym h ∙ ap f (sym (eqb-true other b e)) ∙ g in cc

up_edit : (e : Edit) (before : Past) (a : Answer) (b : ℕ) → edit_answered before e ≡ Ok a → (is_up before b ≡ true → is_bsc before b ≡ true) → unwrap_or (first_down b e) (is_up before b) ≡ true → unwrap_or (bsc_mark b e) (is_bsc before b) ≡ true
up_edit (edit.AddBsc other) before a b v known h = step (nat_eq other b) h
  where
    step : (t : Bool) → unwrap_or (cond t (Some false) None) (is_up before b) ≡ true → unwrap_or (cond t (Some true) None) (is_bsc before b) ≡ true
    step true g = refl
    step false g = known g
up_edit (edit.RemoveBsc other) before a b v known h = step (nat_eq other b) refl
  where
    step : (t : Bool) → nat_eq other b ≡ t → unwrap_or (cond t (Some false) None) (is_bsc before b) ≡ true
    step true e = absurd (clash (is_up before) other b e h (no_check (remove_bsc_checks before other) (Ok answer.Done) a v).1.1.0)
    step false e = known h
up_edit other before a b v known h = known h

up_event : (network : Network) (e : Event) (before : Past) (a : Answer) (b : ℕ) → answered network before e ≡ Ok a → (is_up before b ≡ true → is_bsc before b ≡ true) → unwrap_or (up_mark b e) (is_up before b) ≡ true → unwrap_or (by_edit (bsc_mark b) e) (is_bsc before b) ≡ true
up_event network (event.Edit e) before a b v known h = up_edit e before a b v known h
up_event network (event.LinkUp other) before a b v known h = step (nat_eq other b) refl h
  where
    step : (t : Bool) → nat_eq other b ≡ t → unwrap_or (cond t (Some true) None) (is_up before b) ≡ true → is_bsc before b ≡ true
    step true e g = asked before other b (no_check (link_up_checks before other) (Ok (answer.Link (position before + 1))) a v).0 e
    step false e g = known g
up_event network (event.LinkDown other generation) before a b v known h = step (nat_eq other b) h
  where
    step : (t : Bool) → unwrap_or (cond t (Some false) None) (is_up before b) ≡ true → is_bsc before b ≡ true
    step true g = cc
    step false g = known g
up_event network other before a b v known h = known h

no_link : (base : Base) (b : ℕ) → base ≡ empty_base → base.is_up b ≡ true → base.is_bsc b ≡ true
no_link base b e h = let no : empty_base.is_up b ≡ true = ap (λ (k : Base). k.is_up b) (sym e) ∙ h in cc

pub up_bsc : (settings : Settings) (past : Past) → Legal settings past → (b : ℕ) → is_up past b ≡ true → is_bsc past b ≡ true
up_bsc settings (From base) legal b h = no_link base b legal h
up_bsc settings (After e before) legal b h =
    up_event settings.network e.event before e.answer b (verdict_answered settings before e.event e.answer legal.0) (up_bsc settings before legal.1 b) h

-- What is in flight is so over a link that is up.

flight_edit : (e : Edit) (before : Past) (a : Answer) (b : ℕ) → edit_answered before e ≡ Ok a → (is_up before b ≡ true → is_bsc before b ≡ true) → is_up before b ≡ true → unwrap_or (first_down b e) (is_up before b) ≡ true
flight_edit (edit.AddBsc other) before a b v known up = step (nat_eq other b) refl
  where
    step : (t : Bool) → nat_eq other b ≡ t → unwrap_or (cond t (Some false) None) (is_up before b) ≡ true
    step true e = absurd (clash (is_bsc before) other b e (known up) (no_check (add_bsc_checks before other) (Ok answer.Done) a v).0)
    step false e = up
flight_edit other before a b v known up = up

flight_event : (network : Network) (e : Event) (before : Past) (a : Answer) (b : ℕ) → answered network before e ≡ Ok a → (is_up before b ≡ true → is_bsc before b ≡ true) → (is_some (in_flight before b) ≡ true → is_up before b ≡ true) → is_some (unwrap_or (flight_mark b e a (is_up before b)) (in_flight before b)) ≡ true → unwrap_or (up_mark b e) (is_up before b) ≡ true
flight_event network (event.Edit e) before a b v known up h = flight_edit e before a b v known (up h)
flight_event network (event.Send other generation) before a b v known up h = step (nat_eq other b) refl h
  where
    step : (t : Bool) → nat_eq other b ≡ t → is_some (unwrap_or (cond t (Some (sent_flight a)) None) (in_flight before b)) ≡ true → is_up before b ≡ true
    step true e g =
        ap (is_up before) (sym (eqb-true other b e))
        ∙ not-false (is_up before other) (no_check (send_checks before other generation) (send_answer network.broadcasts before (first (pending before other))) a v).1.1.0
    step false e g = up g
flight_event network (event.Ask other generation n after) before a b v known up h = step (nat_eq other b) refl h
  where
    step : (t : Bool) → nat_eq other b ≡ t → is_some (unwrap_or (cond t (Some (asked_flight a)) None) (in_flight before b)) ≡ true → is_up before b ≡ true
    step true e g =
        ap (is_up before) (sym (eqb-true other b e))
        ∙ not-false (is_up before other) (no_check (ask_checks before other generation n) (warning_query before other (warning_of (book_of before) n) after) a v).1.1.1.0
    step false e g = up g
flight_event network (event.Report other generation message) before a b v known up h = step (nat_eq other b && is_replied a) h
  where
    step : (t : Bool) → is_some (unwrap_or (cond t (Some None) None) (in_flight before b)) ≡ true → is_up before b ≡ true
    step true g = cc
    step false g = up g
flight_event network (event.LinkUp other) before a b v known up h = step (nat_eq other b) h
  where
    step : (t : Bool) → is_some (unwrap_or (if t && is_up before b then Some None else None) (in_flight before b)) ≡ true → unwrap_or (cond t (Some true) None) (is_up before b) ≡ true
    step true g = refl
    step false g = up g
flight_event network (event.LinkDown other generation) before a b v known up h = step (nat_eq other b) h
  where
    step : (t : Bool) → is_some (unwrap_or (cond t (Some None) None) (in_flight before b)) ≡ true → unwrap_or (cond t (Some false) None) (is_up before b) ≡ true
    step true g = cc
    step false g = up g
flight_event network (event.Retry other) before a b v known up h = up h

pub flight_up : (settings : Settings) (past : Past) → Legal settings past → (b : ℕ) → is_some (in_flight past b) ≡ true → is_up past b ≡ true
flight_up settings (From base) legal b h = flight_none base b is_some (base.is_up b) legal refl h
flight_up settings (After e before) legal b h =
    flight_event settings.network e.event before e.answer b (verdict_answered settings before e.event e.answer legal.0) (up_bsc settings before legal.1 b) (flight_up settings before legal.1 b) h

-- a BSC with something in flight is registered
pub flight_bsc : (settings : Settings) (past : Past) → Legal settings past → (b : ℕ) → is_some (in_flight past b) ≡ true → is_bsc past b ≡ true
flight_bsc settings past legal b h = up_bsc settings past legal b (flight_up settings past legal b h)

-- The BSC of a registered cell is registered.

place_edit : (e : Edit) (before : Past) (a : Answer) (b : ℕ) (c : Cell) → edit_answered before e ≡ Ok a → IsUnfolded before → (is_place (place before c) b ≡ true → is_bsc before b ≡ true) → is_place (unwrap_or (place_mark c e) (place before c)) b ≡ true → unwrap_or (bsc_mark b e) (is_bsc before b) ≡ true
place_edit (edit.AddBsc other) before a b c v unfolded placed h = step (nat_eq other b)
  where
    step : (t : Bool) → unwrap_or (cond t (Some true) None) (is_bsc before b) ≡ true
    step true = refl
    step false = placed h
place_edit (edit.RemoveBsc other) before a b c v unfolded placed h = step (nat_eq other b) refl
  where
    has : has_cells before b ≡ true
    has = any_at cell_eq cell_decides (λ d. is_place (place before d) b) c (cells before) h (known_place before unfolded b c h)

    step : (t : Bool) → nat_eq other b ≡ t → unwrap_or (cond t (Some false) None) (is_bsc before b) ≡ true
    step true e = absurd (clash (has_cells before) other b e has (no_check (remove_bsc_checks before other) (Ok answer.Done) a v).1.0)
    step false e = placed h
place_edit (edit.AddCell d other) before a b c v unfolded placed h = step (cell_eq d c) h
  where
    step : (t : Bool) → is_place (unwrap_or (cond t (Some (Some other)) None) (place before c)) b ≡ true → is_bsc before b ≡ true
    step true g = asked before other b (no_check (add_cell_checks before d other) (Ok answer.Done) a v).0 g
    step false g = placed g
place_edit (edit.MoveCell d other) before a b c v unfolded placed h = step (cell_eq d c) h
  where
    step : (t : Bool) → is_place (unwrap_or (cond t (Some (Some other)) None) (place before c)) b ≡ true → is_bsc before b ≡ true
    step true g = asked before other b (no_check (move_cell_checks before d other) (Ok answer.Done) a v).0 g
    step false g = placed g
place_edit (edit.RemoveCell d) before a b c v unfolded placed h = step (cell_eq d c) h
  where
    step : (t : Bool) → is_place (unwrap_or (cond t (Some None) None) (place before c)) b ≡ true → is_bsc before b ≡ true
    step true g = cc
    step false g = placed g
place_edit other before a b c v unfolded placed h = placed h

place_event : (network : Network) (e : Event) (before : Past) (a : Answer) (b : ℕ) (c : Cell) → answered network before e ≡ Ok a → IsUnfolded before → (is_place (place before c) b ≡ true → is_bsc before b ≡ true) → is_place (unwrap_or (by_edit (place_mark c) e) (place before c)) b ≡ true → unwrap_or (by_edit (bsc_mark b) e) (is_bsc before b) ≡ true
place_event network (event.Edit e) before a b c v unfolded placed h = place_edit e before a b c v unfolded placed h
place_event network other before a b c v unfolded placed h = placed h

no_place : (base : Base) (b : ℕ) (c : Cell) → base ≡ empty_base → is_place (base.place c) b ≡ true → base.is_bsc b ≡ true
no_place base b c e h = let no : is_place (empty_base.place c) b ≡ true = ap (λ (k : Base). is_place (k.place c) b) (sym e) ∙ h in cc

pub place_bsc : (settings : Settings) (past : Past) → Legal settings past → (b : ℕ) (c : Cell) → is_place (place past c) b ≡ true → is_bsc past b ≡ true
place_bsc settings (From base) legal b c h = no_place base b c legal h
place_bsc settings (After e before) legal b c h =
    place_event settings.network e.event before e.answer b c (verdict_answered settings before e.event e.answer legal.0) (legal_unfolded settings before legal.1) (place_bsc settings before legal.1 b c) h
