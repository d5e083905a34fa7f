-- Away from the cells on which an event bears, each cell stays down, or up.
use Rattle.std.proofs.Common.{◌≡◌, ℕ, Bool, true, false, ◌&&◌, nat_eq, List, Some, None, unwrap_or, map, refl, sym, ◌∙◌, ap, eqb-true}
use Rattle.std.specs.Prelude.{if◌then◌else◌}
use Rattle.std.specs.List.{list_any}
use Rattle.std.specs.Cmp.{unsigned_Decides}
use Rattle.common.specs.OnceLaws.{turned}
use Rattle.common.specs.declared.cell.Cell.{Cell}
use Rattle.kept_tables.specs.View.{spot_eq}
use Rattle.centre_events.specs.Down.{down_mark, listed_down, is_down}
use Rattle.centre_events.specs.Effects.{is_among}
use Rattle.centre_events.specs.Known.{is_known}
use Rattle.centre_events.specs.Past.{Past}
use Rattle.centre_events.specs.declared.answer.Answer.{Answer}
use Rattle.centre_events.specs.declared.answer.Answer.TheVariants.{Listed}
use Rattle.centre_events.specs.declared.event.Event.{Event}
use Rattle.centre_events.specs.declared.event.Event.TheVariants as event
use Rattle.centre_events.specs.declared.settings.Settings.{Settings}
use Rattle.coverage_plan.specs.declared.edit.Edit.TheVariants as edit
use Rattle.centre_past.specs.Legal.{Legal}
use Rattle.centre_past.specs.Reach.{reach_of, spot}
use Rattle.centre_past.proofs.LineLemmas.{not_down}
use Rattle.centre_lines.proofs.ReachLemmas.{spot_among, known_there}
use Rattle.warning_book.specs.declared.kind.Kind.{Kind}

unlisted : (past : Past) (other b : ℕ) (c : Cell) (cells : List Cell) → nat_eq other b ≡ true → list_any (spot_eq (spot b c)) (map (spot other) cells) ≡ false → is_among c cells ≡ false
unlisted past other b c cells e out =
    ap (λ t. t && is_among c cells) (sym (turned nat_eq unsigned_Decides b other ∙ e)) ∙ sym (spot_among other b c cells) ∙ out

pub down_outside : (settings : Settings) (past : Past) → Legal settings past → (e : Event) (a : Answer) (kind : Kind) (b : ℕ) (c : Cell) → list_any (spot_eq (spot b c)) (reach_of past e a).spots ≡ false → is_down past kind b c ≡ unwrap_or (down_mark kind b c e a) (is_down past kind b c)
down_outside settings past legal (event.Edit (edit.RemoveBsc other)) a kind b c out = step (nat_eq other b) refl
  where
    unknown : nat_eq other b ≡ true → (t : Bool) → is_known past other c ≡ t → is_known past b c ≡ false
    unknown e true h = absurd (let no : true ≡ false = sym (known_there settings past legal other b c e h) ∙ out in cc)
    unknown e false h = ap (λ k. is_known past k c) (sym (eqb-true other b e)) ∙ h

    step : (t : Bool) → nat_eq other b ≡ t → is_down past kind b c ≡ unwrap_or (if t then Some false else None) (is_down past kind b c)
    step true e = not_down past kind b c (unknown e (is_known past other c) refl)
    step false e = refl
down_outside settings past legal (event.Edit other) a kind b c out = refl
down_outside settings past legal (event.Report other generation message) (Listed cells) kind b c out = step (nat_eq other b) refl
  where
    step : (t : Bool) → nat_eq other b ≡ t → is_down past kind b c ≡ unwrap_or (if t then listed_down kind c message (Listed cells) else None) (is_down past kind b c)
    step true e = rw (unlisted past other b c cells e out) refl
    step false e = refl
down_outside settings past legal (event.Report other generation message) a kind b c out = step (nat_eq other b)
  where
    step : (t : Bool) → is_down past kind b c ≡ unwrap_or (if t then listed_down kind c message a else None) (is_down past kind b c)
    step true = refl
    step false = refl
down_outside settings past legal other a kind b c out = refl
