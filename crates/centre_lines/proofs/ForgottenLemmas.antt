-- Before a Forget the lines of its warning that aren't blank are read, and no others.
use Rattle.std.proofs.Common.{◌≡◌, ℕ, ◌+◌, ◌*◌, ◌≤◌, Bool, true, false, ◌&&◌, ◌||◌, not, nat_eq, List, [], ◌∷◌, ◌++◌, Ok, cond, length, map, refl, sym, ◌∙◌, ap, subst, arith}
use Rattle.std.specs.Prelude.{if◌then◌else◌}
use Rattle.std.specs.List.{flat_map, list_any}
use Rattle.std.specs.Cmp.{unsigned_Decides}
use Rattle.std.proofs.Math.Bool.{not-not}
use Rattle.std.proofs.lemmas.Bool.{and_from, or_left, or_right}
use Rattle.std.proofs.lemmas.Bool.Decides.{nat_tests}
use Rattle.std.proofs.lemmas.List.Filters.{length-filter_both}
use Rattle.common.specs.OnceLaws.{turned, any_turned, ascending_once, once_filter}
use Rattle.common.specs.Order.{is_ascending}
use Rattle.common.specs.declared.cell.Cell.{Cell}
use Rattle.cell_register.specs.Register.{is_place, place_in}
use Rattle.kept_tables.specs.SpotLaws.{key_decides}
use Rattle.kept_tables.specs.View.{key_of, key_eq, spot_eq}
use Rattle.kept_tables.specs.Same.{SamePart}
use Rattle.kept_tables.specs.declared.spot.Spot.{Spot}
use Rattle.mirror.specs.Blank.{is_blank}
use Rattle.mirror.specs.Index.{key_before}
use Rattle.mirror.specs.Table.{down_for_some, has_line, is_key, line_at}
use Rattle.mirror.specs.declared.line_key.LineKey.{LineKey}
use Rattle.warning_book.specs.Book.{warning_of}
use Rattle.centre_past.specs.Facts.{facts}
use Rattle.centre_events.specs.Known.{is_known}
use Rattle.centre_events.specs.Past.{Past, After}
use Rattle.centre_events.specs.Links.{bscs}
use Rattle.centre_events.specs.Verdict.{verdict}
use Rattle.centre_events.specs.declared.answer.Answer.{Answer}
use Rattle.centre_events.specs.declared.event.Event.TheVariants as event
use Rattle.centre_events.specs.declared.settings.Settings.{Settings}
use Rattle.coverage_plan.specs.declared.edit.Edit.TheVariants as edit
use Rattle.centre_lines.specs.Following.{line_before, before_past, before_unless, keys_of, passed_over, WasRead}
use Rattle.centre_past.specs.IsKept.{IsKept}
use Rattle.centre_past.specs.Legal.{Legal}
use Rattle.centre_past.specs.Reach.{edit_reach, known_at, size, spot}
use Rattle.centre_past.specs.Reaching.{TellsLines}
use Rattle.centre_lines.specs.declared.line_before.LineBefore.{LineBefore}
use Rattle.centre_past.specs.declared.kept.Kept.{Kept}
use Rattle.centre_past.proofs.AnyLemmas.{and_none}
use Rattle.centre_lines.proofs.BeforeLemmas.{failing, before_as, passed, told_kept, unless}
use Rattle.centre_past.proofs.MarkedLineLemmas.{known_same}
use Rattle.centre_lines.proofs.OutsideLemmas.{outside}
use Rattle.centre_lines.proofs.PassedLemmas.{passed_same}
use Rattle.centre_past.proofs.SpotLemmas.{known_anywhere}
use Rattle.centre_lines.proofs.TellLemmas.{any_keys, keys_counted}

-- a cell of which a line isn't blank is known at its BSC
kept_known : (settings : Settings) (past : Past) (s : Kept) → Legal settings past → IsKept past s → TellsLines s.tables.lines → (b : ℕ) (c : Cell) (n : ℕ) → is_blank (line_at s.tables.lines b c n) ≡ false → is_known past b c ≡ true
kept_known settings past s legal kept tells b c n h =
    sym (known_same settings past s.plan.register s.plan.book s.tables.lines (told_kept settings past s legal kept) tells b c)
    ∙ or_right (is_place (place_in s.plan.register c) b) (down_for_some s.tables.lines b c || has_line s.tables.lines b c)
    (or_right (down_for_some s.tables.lines b c) (has_line s.tables.lines b c) (there (has_line s.tables.lines b c) refl))
  where
    there : (t : Bool) → has_line s.tables.lines b c ≡ t → t ≡ true
    there true e = refl
    there false e = let none : is_blank (line_at s.tables.lines b c n) ≡ true = ap is_blank (tells.none b c e n) in sym h ∙ none

-- no more of its lines are kept than a Forget bears on
pub forgotten_few : (settings : Settings) (past : Past) (s : Kept) (n : ℕ) → Legal settings past → IsKept past s → TellsLines s.tables.lines → (keys : List LineKey) → ((ks : List LineKey) → ((b : ℕ) (c : Cell) → is_blank (line_at s.tables.lines b c n) ≡ false → list_any (λ k. is_key k b c n) ks ≡ true) → length keys ≤ length ks) → length keys ≤ size (edit_reach past (edit.Forget n))
forgotten_few settings past s n legal kept tells keys few =
    subst (λ m. length keys ≤ m) (keys_counted known (n ∷ [])) (few (keys_of known (n ∷ [])) there)
  where
    known : List Spot
    known = flat_map (known_at past) (bscs past)

    there : (b : ℕ) (c : Cell) → is_blank (line_at s.tables.lines b c n) ≡ false → list_any (λ k. is_key k b c n) (keys_of known (n ∷ [])) ≡ true
    there b c h =
        sym (any_turned key_eq key_decides (key_of b c n) (keys_of known (n ∷ [])))
        ∙ any_keys (key_of b c n) known (n ∷ [])
        ∙ and_from (list_any (spot_eq (spot b c)) known) (list_any (nat_eq n) (n ∷ []))
        ((known_anywhere settings past legal).each (spot b c) ∙ kept_known settings past s legal kept tells b c n h)
        (or_left (nat_eq n n) false ((unsigned_Decides n n).1 refl))

-- so no more are read
pub forgotten_read : (settings : Settings) (past : Past) (s : Kept) (n told new : ℕ) → Legal settings past → IsKept past s → TellsLines s.tables.lines → (keys slice : List LineKey) → slice ≡ keys → ((ks : List LineKey) → ((b : ℕ) (c : Cell) → is_blank (line_at s.tables.lines b c n) ≡ false → list_any (λ k. is_key k b c n) ks ≡ true) → length keys ≤ length ks) → told ≤ s.tables.lines.meter + length keys → new ≤ told + length slice → new ≤ s.tables.lines.meter + 2 * size (edit_reach past (edit.Forget n))
forgotten_read settings past s n told new legal kept tells keys slice same few most read =
    omega (arith, read, most, ap (λ (xs : List LineKey). length xs) same, forgotten_few settings past s n legal kept tells keys few)

-- the lines of the keys that do not pass a test
failing_keys : (passes : LineKey → Bool) (line was : LineKey → LineBefore) → ((k : LineKey) → line k ≡ was k) → (ks : List LineKey) → flat_map (unless passes line) ks ≡ map was (failing passes ks)
failing_keys passes line was same [] = refl
failing_keys passes line was same (k ∷ ks) = step (passes k) (failing_keys passes line was same ks)
  where
    step : (t : Bool) → flat_map (unless passes line) ks ≡ map was (failing passes ks) → (if t then [] else line k ∷ []) ++ flat_map (unless passes line) ks ≡ map was (cond (not t) (k ∷ failing passes ks) (failing passes ks))
    step true rest = rest
    step false rest = λ i. same k i ∷ rest i

before_apart : (j k : LineKey) → key_before j k ≡ true → key_eq j k ≡ false
before_apart j k h = grind (arith, nat_tests)

-- these lines were read before it
pub forgotten_was_reached : (past : Past) (s : Kept) (n : ℕ) (a : Answer) (keys : List LineKey) (earlier : List LineBefore) → IsKept past s → ((b : ℕ) (c : Cell) (v : ℕ) → list_any (λ k. is_key k b c v) keys ≡ (nat_eq n v && not (is_blank (line_at s.tables.lines b c v)))) → is_ascending key_before keys ≡ true → length keys ≤ size (edit_reach past (edit.Forget n)) → earlier ≡ flat_map (before_unless (edit.Forget n) s.plan s.tables) keys → WasRead past (event.Edit (edit.Forget n)) a [] earlier
forgotten_was_reached past s n a keys earlier kept which order few are = record {
  away = λ settings legal kind b c out. refl;
  keys = failing passes keys;
  lines = are ∙ failing_keys passes (line_before s.plan s.tables) (before_past past) (before_as past s kept) keys;
  once = once_filter key_eq (λ k. not (passes k)) keys (ascending_once key_eq key_before before_apart keys order);
  few = omega (arith, few, length-filter_both (λ k. not (passes k)) passes (λ k. sym (not-not (passes k))) keys);
  rest = λ settings desk legal accepted k out. step settings desk legal accepted k out (list_any (key_eq k) keys) refl;
}
  where
    passes : LineKey → Bool
    passes k = passed_over (edit.Forget n) s.plan.areas (warning_of s.plan.book k.warning) k.cell (line_at s.tables.lines k.bsc k.cell k.warning)

    Same : ℕ → LineKey → Type 0
    Same desk k = SamePart (facts past k) (facts (After (record { desk = desk; event = event.Edit (edit.Forget n); answer = a }) past) k)

    unkept : (k : LineKey) → list_any (key_eq k) keys ≡ false → (nat_eq n k.warning && not (is_blank (line_at s.tables.lines k.bsc k.cell k.warning))) ≡ false
    unkept k e = sym (which k.bsc k.cell k.warning) ∙ sym (any_turned key_eq key_decides k keys) ∙ e

    other : (settings : Settings) (desk : ℕ) → Legal settings past → verdict settings past (event.Edit (edit.Forget n)) ≡ Ok a → (k : LineKey) → (t : Bool) → nat_eq n k.warning ≡ t → (u : Bool) → is_blank (line_at s.tables.lines k.bsc k.cell k.warning) ≡ u → (t && not u) ≡ false → Same desk k
    other settings desk legal accepted k true e true blank h = passed_same settings past legal desk (edit.Forget n) a accepted s kept k blank
    other settings desk legal accepted k true e false blank h = cc
    other settings desk legal accepted k false e u blank h =
        outside settings past legal (record { desk = desk; event = event.Edit (edit.Forget n); answer = a }) accepted k
        (ap (λ x. list_any (spot_eq (spot k.bsc k.cell)) (flat_map (known_at past) (bscs past)) && (x || false)) (turned nat_eq unsigned_Decides k.warning n ∙ e)
        ∙ and_none (list_any (spot_eq (spot k.bsc k.cell)) (flat_map (known_at past) (bscs past))))

    step : (settings : Settings) (desk : ℕ) → Legal settings past → verdict settings past (event.Edit (edit.Forget n)) ≡ Ok a → (k : LineKey) → list_any (key_eq k) (failing passes keys) ≡ false → (t : Bool) → list_any (key_eq k) keys ≡ t → Same desk k
    step settings desk legal accepted k out true e = passed_same settings past legal desk (edit.Forget n) a accepted s kept k (passed passes k keys out e)
    step settings desk legal accepted k out false e = other settings desk legal accepted k (nat_eq n k.warning) refl (is_blank (line_at s.tables.lines k.bsc k.cell k.warning)) refl (unkept k e)
