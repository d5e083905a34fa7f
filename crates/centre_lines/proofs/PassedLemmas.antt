-- A line that an edit passes over has the same part after it.
use Rattle.std.proofs.Common.{◌≡◌, ℕ, Bool, true, false, ◌&&◌, nat_eq, Option, Some, None, Ok, cond, refl, sym, ◌∙◌, ap, subst, eqb-true, eq-eqb}
use Rattle.std.specs.Prelude.{if◌then◌else◌}
use Rattle.std.specs.List.{list_any}
use Rattle.std.proofs.lemmas.Bool.{and_parts, and_from}
use Rattle.common.specs.OrderLaws.{find_passes}
use Rattle.kept_tables.specs.Same.{SamePart}
use Rattle.mirror.specs.Blank.{is_blank}
use Rattle.mirror.specs.BlankLaws.{blank_decides}
use Rattle.mirror.specs.Table.{line_at}
use Rattle.mirror.specs.declared.line_key.LineKey.{LineKey}
use Rattle.warning_book.specs.Book.{has_number, warning_of}
use Rattle.warning_book.specs.Laws.{found_without}
use Rattle.warning_book.specs.declared.warning.Warning.{Warning}
use Rattle.centre_events.specs.Effects.{state_after}
use Rattle.centre_events.specs.Facts.{key_state}
use Rattle.centre_past.specs.Facts.{facts_of, facts}
use Rattle.centre_events.specs.Cover.{is_covered}
use Rattle.centre_lines.specs.Following.{is_idle, leaves_cover, passed_over}
use Rattle.centre_past.specs.IsKept.{IsKept}
use Rattle.centre_past.specs.Legal.{Legal}
use Rattle.centre_events.specs.Past.{Past, After}
use Rattle.centre_events.specs.Places.{place}
use Rattle.cell_register.specs.Register.{is_place}
use Rattle.centre_events.specs.Verdict.{forget, forget_checks, verdict}
use Rattle.centre_events.specs.Warnings.{book_of, warnings_of, is_version}
use Rattle.centre_events.specs.declared.answer.Answer.{Answer}
use Rattle.centre_events.specs.declared.answer.Answer.TheVariants as answer
use Rattle.centre_events.specs.declared.effect.Effect.TheVariants.{Frees, Leaves}
use Rattle.centre_events.specs.declared.event.Event.TheVariants as event
use Rattle.centre_events.specs.declared.settings.Settings.{Settings}
use Rattle.coverage_plan.specs.declared.edit.Edit.{Edit}
use Rattle.coverage_plan.specs.declared.edit.Edit.TheVariants as edit
use Rattle.centre_past.specs.declared.kept.Kept.{Kept}
use Rattle.centre_past.proofs.CheckLemmas.{no_check}
use Rattle.centre_past.proofs.LineLemmas.{same_kept, same_none, same_gone}
use Rattle.centre_lines.proofs.OutsideWarningLemmas.{kept_key}
use Rattle.centre_lines.proofs.StayLemmas.{idle_same, line_kept}
use Rattle.centre_past.proofs.UniqueLemmas.{verdict_answered}
use Rattle.centre_past.proofs.WarningLemmas.{forget_inactive}

-- a warning that is forgotten isn't active
inactive : (past : Past) (n : ℕ) (a : Answer) (w : Warning) → warning_of (book_of past) n ≡ Some w → forget past n ≡ Ok a → w.active ≡ false
inactive past n a w found taken =
    let none = no_check (forget_checks past n) (Ok answer.Done) a taken in
    forget_inactive (book_of past) n w found (rw (none.0, none.1.0) refl)

-- a blank line of a warning that is forgotten has no part before it or after it, and other warnings keep theirs
forgotten_same : (settings : Settings) (past : Past) → Legal settings past → (desk n : ℕ) (a : Answer) → forget past n ≡ Ok a → (s : Kept) → IsKept past s → (k : LineKey) → is_blank (line_at s.tables.lines k.bsc k.cell k.warning) ≡ true → SamePart (facts past k) (facts (After (record { desk = desk; event = event.Edit (edit.Forget n); answer = a }) past) k)
forgotten_same settings past legal desk n a taken s kept k blank =
    subst (λ o. SamePart (facts past k) (facts_of new k.bsc k.cell o)) (sym (found_without n k.warning (warnings_of past)))
    (at (warning_of (book_of past) k.warning) refl (nat_eq n k.warning) refl)
  where
    new : Past
    new = After (record { desk = desk; event = event.Edit (edit.Forget n); answer = a }) past

    stays : (w : Warning) → warning_of (book_of past) k.warning ≡ Some w → nat_eq n k.warning ≡ false → (t : ℕ) → list_any (is_version t) w.versions ≡ true → key_state new k.bsc k.cell w.message_id t ≡ key_state past k.bsc k.cell w.message_id t
    stays w e other t there =
        ap (λ x. state_after (if x then Frees else Leaves) (if x then Some 0 else None) (key_state past k.bsc k.cell w.message_id t))
        (kept_key settings past legal n k.warning w e (ap (nat_eq n) (eqb-true w.number k.warning (find_passes (has_number k.warning) (warnings_of past) w e)) ∙ other) w.message_id t
        (and_from (nat_eq w.message_id w.message_id) (list_any (is_version t) w.versions) (eq-eqb w.message_id w.message_id refl) there))

    at : (o : Option Warning) → warning_of (book_of past) k.warning ≡ o → (t : Bool) → nat_eq n k.warning ≡ t → SamePart (facts_of past k.bsc k.cell o) (facts_of new k.bsc k.cell (cond t None o))
    at None e true same = same_none past new k.bsc k.cell
    at None e false other = same_none past new k.bsc k.cell
    at (Some w) e true same =
        same_gone past new k.bsc k.cell w
        (ap (λ t. t && (is_place (place past k.cell) k.bsc && is_covered past w.areas k.cell)) (inactive past n a w (ap (warning_of (book_of past)) (eqb-true n k.warning same) ∙ e) taken))
        (sym (line_kept past s kept k w e) ∙ (blank_decides (line_at s.tables.lines k.bsc k.cell k.warning)).0 blank)
    at (Some w) e false other = same_kept past new k.bsc k.cell w refl refl refl (stays w e other)

-- an idle line, where the edit leaves what each area covers
left_same : (past : Past) (desk : ℕ) (e : Edit) (a : Answer) (s : Kept) → IsKept past s → (k : LineKey) → (leaves_cover e && is_idle s.plan.areas (warning_of s.plan.book k.warning) k.cell (line_at s.tables.lines k.bsc k.cell k.warning)) ≡ true → SamePart (facts past k) (facts (After (record { desk = desk; event = event.Edit e; answer = a }) past) k)
left_same past desk e a s kept k h =
    let parts = and_parts (leaves_cover e) (is_idle s.plan.areas (warning_of s.plan.book k.warning) k.cell (line_at s.tables.lines k.bsc k.cell k.warning)) h in
    idle_same past desk e a parts.0 s kept k parts.1

pub passed_same : (settings : Settings) (past : Past) → Legal settings past → (desk : ℕ) (e : Edit) (a : Answer) → verdict settings past (event.Edit e) ≡ Ok a → (s : Kept) → IsKept past s → (k : LineKey) → passed_over e s.plan.areas (warning_of s.plan.book k.warning) k.cell (line_at s.tables.lines k.bsc k.cell k.warning) ≡ true → SamePart (facts past k) (facts (After (record { desk = desk; event = event.Edit e; answer = a }) past) k)
passed_same settings past legal desk (edit.Forget n) a accepted s kept k h = forgotten_same settings past legal desk n a (verdict_answered settings past (event.Edit (edit.Forget n)) a accepted) s kept k h
passed_same settings past legal desk e a accepted s kept k h = left_same past desk e a s kept k h
