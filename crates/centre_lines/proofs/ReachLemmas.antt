-- Which lines are among those on which an event bears.
use Rattle.std.proofs.Common.{◌≡◌, ℕ, Bool, true, false, ◌&&◌, nat_eq, List, [], ◌∷◌, Option, Some, None, filter, map, cond, refl, sym, ◌∙◌, ap, eqb-true}
use Rattle.std.specs.Prelude.{find, if◌then◌else◌}
use Rattle.std.specs.Cmp.{unsigned_Decides}
use Rattle.std.specs.List.{list_any}
use Rattle.std.proofs.lemmas.Bool.{and_from, or_left, or_right}
use Rattle.cell_register.specs.Register.{is_place}
use Rattle.common.specs.Cell.{cell_eq}
use Rattle.common.specs.Equality.{cell_decides}
use Rattle.common.specs.OnceLaws.{turned, any_turned, any_filter_same}
use Rattle.common.specs.declared.cell.Cell.{Cell}
use Rattle.kept_tables.specs.View.{spot_eq}
use Rattle.mirror.specs.declared.line_key.LineKey.{LineKey}
use Rattle.warning_book.specs.Book.{has_number, warning_of}
use Rattle.warning_book.specs.declared.warning.Warning.{Warning}
use Rattle.centre_events.specs.Effects.{is_among}
use Rattle.centre_events.specs.Known.{is_known}
use Rattle.centre_past.specs.Legal.{Legal}
use Rattle.centre_events.specs.Past.{Past}
use Rattle.centre_events.specs.Places.{place, cells}
use Rattle.centre_past.specs.Reach.{Reach, bears, spot, at_bsc, placed_where, known_at, numbers_where, all_numbers}
use Rattle.centre_events.specs.Warnings.{book_of}
use Rattle.centre_events.specs.declared.settings.Settings.{Settings}
use Rattle.centre_past.proofs.AnyLemmas.{contrary, any_at, any_pulled, any_flat}
use Rattle.centre_past.proofs.KnownLemmas.{known_place, legal_unfolded}
use Rattle.centre_past.proofs.MarkLemmas.{known_cell}
use Rattle.centre_events.proofs.PastLemmas.{any_image}

-- The line's cell at its BSC is none of the spots where its warning is one of the warnings, and the other way round.

not_first : (x y : Bool) → (x && y) ≡ false → y ≡ true → x ≡ false
not_first true y h g = sym g ∙ h
not_first false y h g = refl

pub not_there : (r : Reach) (k : LineKey) → bears r k ≡ false → list_any (nat_eq k.warning) r.warnings ≡ true → list_any (spot_eq (spot k.bsc k.cell)) r.spots ≡ false
not_there r k h = not_first (list_any (spot_eq (spot k.bsc k.cell)) r.spots) (list_any (nat_eq k.warning) r.warnings) h

-- Warnings.

numbered : (p : Warning → Bool) (n : ℕ) (ws : List Warning) (w : Warning) → find (has_number n) ws ≡ Some w → p w ≡ true → list_any (λ (v : Warning). nat_eq n v.number) (filter p ws) ≡ true
numbered p n [] w h passes = cc
numbered p n (v ∷ ws) w h passes = step (numbered p n ws w) (has_number n v) refl h
  where
    is_it : Warning → Bool
    is_it x = nat_eq n x.number

    more : (t : Bool) → list_any is_it (filter p ws) ≡ true → list_any is_it (if t then v ∷ filter p ws else filter p ws) ≡ true
    more true g = or_right (nat_eq n v.number) (list_any is_it (filter p ws)) g
    more false g = g

    step : (find (has_number n) ws ≡ Some w → p w ≡ true → list_any is_it (filter p ws) ≡ true) → (t : Bool) → has_number n v ≡ t → cond t (Some v) (find (has_number n) ws) ≡ Some w → list_any is_it (if p v then v ∷ filter p ws else filter p ws) ≡ true
    step rest true e g =
        let same : v ≡ w = cc in
        ap (λ t. list_any is_it (if t then v ∷ filter p ws else filter p ws)) (ap p same ∙ passes)
        ∙ or_left (nat_eq n v.number) (list_any is_it (filter p ws)) (turned nat_eq unsigned_Decides n v.number ∙ e)
    step rest false e g = more (p v) (rest g passes)

-- the warning of the number is one of those that pass
pub number_there : (past : Past) (p : Warning → Bool) (n : ℕ) (w : Warning) → warning_of (book_of past) n ≡ Some w → p w ≡ true → list_any (nat_eq n) (numbers_where past p) ≡ true
number_there past p n w h passes =
    any_image (nat_eq n) (λ (v : Warning). v.number) (filter p (book_of past).warnings) ∙ numbered p n (book_of past).warnings w h passes

-- Cells at BSCs.

-- a cell of a list at the BSC
pub spot_among : (a b : ℕ) (c : Cell) (cs : List Cell) → list_any (spot_eq (spot b c)) (map (spot a) cs) ≡ (nat_eq b a && is_among c cs)
spot_among a b c cs = any_image (spot_eq (spot b c)) (spot a) cs ∙ any_pulled (nat_eq b a) (cell_eq c) cs

among_known : (past : Past) (a : ℕ) (c : Cell) → is_among c (filter (is_known past a) (cells past)) ≡ (is_known past a c && is_among c (cells past))
among_known past a c =
    any_turned cell_eq cell_decides c (filter (is_known past a) (cells past))
    ∙ any_filter_same cell_eq cell_decides (is_known past a) c (cells past)
    ∙ ap (λ t. is_known past a c && t) (sym (any_turned cell_eq cell_decides c (cells past)))

-- a cell that is known at the BSC is one of those
pub known_there : (settings : Settings) (past : Past) → Legal settings past → (a b : ℕ) (c : Cell) → nat_eq a b ≡ true → is_known past a c ≡ true → list_any (spot_eq (spot b c)) (known_at past a) ≡ true
known_there settings past legal a b c e h =
    spot_among a b c (filter (is_known past a) (cells past))
    ∙ and_from (nat_eq b a) (is_among c (filter (is_known past a) (cells past))) (turned nat_eq unsigned_Decides b a ∙ e)
    (among_known past a c ∙ and_from (is_known past a c) (is_among c (cells past)) h (known_cell settings past legal a c h))

-- off the cells that are known at a BSC, no cell is known there
pub not_known : (settings : Settings) (past : Past) → Legal settings past → (a : ℕ) (k : LineKey) → bears (let r : Reach = record { spots = known_at past a; warnings = all_numbers past } in r) k ≡ false → (w : Warning) → warning_of (book_of past) k.warning ≡ Some w → nat_eq a k.bsc ≡ true → is_known past k.bsc k.cell ≡ false
not_known settings past legal a k h w e same =
    contrary (is_known past k.bsc k.cell) (list_any (spot_eq (spot k.bsc k.cell)) (known_at past a))
    (λ known. known_there settings past legal a k.bsc k.cell same (ap (λ b. is_known past b k.cell) (eqb-true a k.bsc same) ∙ known))
    (not_there (let r : Reach = record { spots = known_at past a; warnings = all_numbers past } in r) k h (number_there past (λ v. true) k.warning w e refl))

-- a registered cell that passes is, at its BSC
pub placed_there : (settings : Settings) (past : Past) → Legal settings past → (p : Cell → Bool) (b : ℕ) (c : Cell) → p c ≡ true → is_place (place past c) b ≡ true → list_any (spot_eq (spot b c)) (placed_where past p) ≡ true
placed_there settings past legal p b c passes here =
    any_flat (spot_eq (spot b c)) (λ d. if p d then at_bsc d (place past d) else []) (cells past)
    ∙ any_at cell_eq cell_decides (λ d. list_any (spot_eq (spot b c)) (if p d then at_bsc d (place past d) else [])) c (cells past)
    (ap (λ t. list_any (spot_eq (spot b c)) (if t then at_bsc c (place past c) else [])) passes ∙ at_place (place past c) here)
    (known_place past (legal_unfolded settings past legal) b c here)
  where
    at_place : (o : Option ℕ) → is_place o b ≡ true → list_any (spot_eq (spot b c)) (at_bsc c o) ≡ true
    at_place None g = cc
    at_place (Some d) g =
        or_left (nat_eq b d && cell_eq c c) false (and_from (nat_eq b d) (cell_eq c c) (turned nat_eq unsigned_Decides b d ∙ g) ((cell_decides c c).1 refl))

-- one spot
pub spot_there : (a b : ℕ) (d c : Cell) → nat_eq a b ≡ true → cell_eq d c ≡ true → spot_eq (spot b c) (spot a d) ≡ true
spot_there a b d c e f = and_from (nat_eq b a) (cell_eq c d) (turned nat_eq unsigned_Decides b a ∙ e) (turned cell_eq cell_decides c d ∙ f)

-- a cell at its BSC, if it has one
pub bsc_there : (b : ℕ) (d c : Cell) (o : Option ℕ) → cell_eq d c ≡ true → is_place o b ≡ true → list_any (spot_eq (spot b c)) (at_bsc d o) ≡ true
bsc_there b d c None e g = cc
bsc_there b d c (Some a) e g = or_left (spot_eq (spot b c) (spot a d)) false (spot_there a b d c g e)
