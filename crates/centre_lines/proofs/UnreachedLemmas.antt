-- An edit of an area that no warning names, or of a cell while there is no warning, bears on no line.
use Rattle.std.proofs.Common.{◌≡◌, ℕ, Bool, true, false, ◌&&◌, List, [], ◌∷◌, None, cond, filter, length, map, nat_eq, refl, sym, ◌∙◌, subst, arith}
use Rattle.std.specs.List.{list_any}
use Rattle.std.proofs.lemmas.Bool.{not-true, or_parts}
use Rattle.std.proofs.lemmas.Bool.Decides.{nat_tests}
use Rattle.kept_tables.specs.View.{spot_eq}
use Rattle.warning_book.specs.Book as book
use Rattle.warning_book.specs.Book.{names}
use Rattle.warning_book.specs.declared.warning.Warning.{Warning}
use Rattle.centre_events.specs.Down.{edit_down}
use Rattle.centre_events.specs.Past.{Past}
use Rattle.centre_events.specs.Warnings.{book_of, warnings_of}
use Rattle.centre_events.specs.declared.answer.Answer.{Answer}
use Rattle.centre_events.specs.declared.event.Event.TheVariants as event
use Rattle.centre_past.specs.IsKept.{IsKept}
use Rattle.centre_past.specs.Reach.{edit_reach, spot}
use Rattle.centre_past.specs.declared.kept.Kept.{Kept}
use Rattle.coverage_plan.specs.declared.edit.Edit.{Edit}
use Rattle.coverage_plan.specs.declared.edit.Edit.TheVariants as edit
use Rattle.centre_lines.specs.Following.{WasRead, bears_on_none}
use Rattle.centre_lines.proofs.OutsideLemmas.{outside}

-- the number is none of those of warnings that pass a test, where none passes
none_passes : (p : Warning → Bool) (n : ℕ) (ws : List Warning) → list_any p ws ≡ false → list_any (nat_eq n) (map (λ (w : Warning). w.number) (filter p ws)) ≡ false
none_passes p n [] h = refl
none_passes p n (w ∷ ws) h =
    let parts = or_parts (p w) (list_any p ws) h in
    subst (λ t. list_any (nat_eq n) (map (λ (x : Warning). x.number) (cond t (w ∷ filter p ws) (filter p ws))) ≡ false) (sym parts.0) (none_passes p n ws parts.1)

-- nor of those of no warnings
none_there : (n : ℕ) (ws : List Warning) → nat_eq (length ws) 0 ≡ true → list_any (nat_eq n) (map (λ (w : Warning). w.number) (filter (λ w. true) ws)) ≡ false
none_there n [] h = refl
none_there n (w ∷ ws) h = let no : nat_eq (length (w ∷ ws)) 0 ≡ false = grind (arith, nat_tests) in let wrong : false ≡ true = sym no ∙ h in cc

-- so of none of the warnings on whose lines it bears
none_borne : (past : Past) (e : Edit) → bears_on_none (book_of past) e ≡ true → (n : ℕ) → list_any (nat_eq n) (edit_reach past e).warnings ≡ false
none_borne past (edit.Put a s) h n = none_passes (names a) n (warnings_of past) (not-true (list_any (names a) (warnings_of past)) h)
none_borne past (edit.Cut a s) h n = none_passes (names a) n (warnings_of past) (not-true (list_any (names a) (warnings_of past)) h)
none_borne past (edit.AddCell c b) h n = none_there n (warnings_of past) h
none_borne past (edit.MoveCell c b) h n = none_there n (warnings_of past) h
none_borne past (edit.RemoveCell c) h n = none_there n (warnings_of past) h
none_borne past other h n = cc

-- and each cell stays down, or up
leaves_down : (st : book.State) (e : Edit) → bears_on_none st e ≡ true → (b : ℕ) → edit_down b e ≡ None
leaves_down st (edit.Put a s) h b = refl
leaves_down st (edit.Cut a s) h b = refl
leaves_down st (edit.AddCell c d) h b = refl
leaves_down st (edit.MoveCell c d) h b = refl
leaves_down st (edit.RemoveCell c) h b = refl
leaves_down st other h b = cc

and_none : (a b : Bool) → b ≡ false → (a && b) ≡ false
and_none true b h = h
and_none false b h = refl

-- no line needs to be read before it
pub none_was_reached : (past : Past) (s : Kept) (e : Edit) (a : Answer) → IsKept past s → bears_on_none s.plan.book e ≡ true → WasRead past (event.Edit e) a [] []
none_was_reached past s e a kept none = record {
  away = λ settings legal kind b c out. rw (leaves_down s.plan.book e none b) refl;
  keys = [];
  lines = refl;
  once = refl;
  few = omega arith;
  rest = λ settings desk legal accepted k out.
      outside settings past legal (record { desk = desk; event = event.Edit e; answer = a }) accepted k
      (and_none (list_any (spot_eq (spot k.bsc k.cell)) (edit_reach past e).spots) (list_any (nat_eq k.warning) (edit_reach past e).warnings) (none_borne past e (subst (λ st. bears_on_none st e ≡ true) kept.booked none) k.warning));
}
