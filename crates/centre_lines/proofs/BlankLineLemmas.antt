-- An indication and a Retry leave a blank line blank, a Retry leaves a line that isn't held, and most edits leave every line.
use Rattle.std.proofs.Common.{◌≡◌, ℕ, zero, suc, Bool, true, false, not, nat_eq, List, [], ◌∷◌, Option, Some, None, length, replicate, refl, sym, ◌∙◌, ap}
use Rattle.std.proofs.lemmas.Bool.{not-false}
use Rattle.std.specs.Prelude.{slice_set, if◌then◌else◌}
use Rattle.std.specs.List.{slice_index_or}
use Rattle.cbsp_messages.specs.declared.message.Message.{Message}
use Rattle.cbsp_messages.specs.declared.message.Message.TheVariants.{Restart}
use Rattle.common.specs.declared.cell.Cell.{Cell}
use Rattle.coverage_plan.specs.declared.edit.Edit.TheVariants as edit
use Rattle.coverage_plan.specs.Plan.{State}
use Rattle.kept_tables.specs.Tables.{Tables}
use Rattle.kept_tables.specs.declared.line_facts.LineFacts.{LineFacts}
use Rattle.mirror.specs.Blank.{is_blank, line_eq}
use Rattle.mirror.specs.BlankLaws.{blank_decides, line_decides}
use Rattle.mirror.specs.Held.{is_held_line}
use Rattle.mirror.specs.HeldLaws.{unheld_state}
use Rattle.mirror.specs.Line.{blank, blank_line, state_of, with_state}
use Rattle.mirror.specs.Table.{down_at}
use Rattle.mirror.specs.declared.key_state.KeyState.{KeyState}
use Rattle.mirror.specs.declared.line.Line.{Line}
use Rattle.mirror.specs.declared.presence.Presence.TheVariants.{Absent}
use Rattle.serials.specs.Serials.{update_of}
use Rattle.warning_book.specs.Book.{kind_of, warning_of}
use Rattle.warning_book.specs.declared.warning.Warning.{Warning}
use Rattle.centre_events.specs.Counts.{count_mark}
use Rattle.centre_events.specs.Effects.{indicated_effect, is_about, is_among, state_after}
use Rattle.centre_lines.specs.Following.{Happens, change_of, leaves_blank, leaves_lines, line_now, may_change}
use Rattle.centre_past.specs.State.{facts_from}
use Rattle.centre_lines.specs.declared.line_before.LineBefore.{LineBefore}
use Rattle.centre_events.specs.Presence.{effect}
use Rattle.centre_events.specs.Stepping.{stepped}
use Rattle.centre_events.specs.Warnings.{kind_in, serials}
use Rattle.centre_events.specs.declared.answer.Answer.{Answer}
use Rattle.centre_events.specs.declared.answer.Answer.TheVariants.{Listed}
use Rattle.centre_events.specs.declared.effect.Effect.{Effect}
use Rattle.centre_events.specs.declared.effect.Effect.TheVariants.{Sets, Frees, Leaves}
use Rattle.centre_events.specs.declared.event.Event.{Event}
use Rattle.centre_events.specs.declared.event.Event.TheVariants as event
use Rattle.centre_events.specs.declared.in_flight.InFlight.{InFlight}
use Rattle.centre_past.proofs.PartLemmas.{blank_state}
use Rattle.warning_book.specs.declared.kind.Kind.{Kind}

set_same : (n i : ℕ) → slice_set (replicate n blank) i blank ≡ replicate n blank
set_same zero i = refl
set_same (suc n) zero = refl
set_same (suc n) (suc i) = ap (λ ks. blank ∷ ks) (set_same n i)

with_blank : (s : ℕ) → with_state blank_line s blank ≡ blank_line
with_blank s = ap (λ (ks : List KeyState). let line : Line = record { states = ks } in line) (set_same 16 (update_of s))

stepped_blank : (f : ℕ → Effect) (n : ℕ → Option ℕ) → ((s : ℕ) → state_after (f s) (n s) blank ≡ blank) → (ss : List ℕ) → stepped f n blank_line ss ≡ blank_line
stepped_blank f n stays [] = refl
stepped_blank f n stays (s ∷ ss) =
    ap (λ line. stepped f n line ss) (ap (λ k. with_state blank_line s (state_after (f s) (n s) k)) (blank_state s) ∙ ap (with_state blank_line s) (stays s) ∙ with_blank s)
    ∙ stepped_blank f n stays ss

indicated : (kind : Kind) (m : Message) → state_after (indicated_effect kind m) None blank ≡ blank
indicated kind (Restart r) = step (is_about r.kind kind) (nat_eq r.recovery 0)
  where
    step : (u t : Bool) → state_after (if u then (if t then Frees else Sets Absent) else Leaves) None blank ≡ blank
    step true true = refl
    step true false = refl
    step false t = refl
indicated kind other = refl

-- a blank key stays blank
key_blank : (kind : Kind) (b : ℕ) (c : Cell) (m s : ℕ) (e : Event) (a : Answer) (up : Bool) (f : Option InFlight) (ws : List Warning) → leaves_blank e a ≡ true → state_after (effect kind b c m s e a up f ws) (count_mark b c m s e a f ws) blank ≡ blank
key_blank kind b c m s (event.Retry other) a up f ws h = step (nat_eq other b)
  where
    step : (t : Bool) → state_after (if t then Frees else Leaves) None blank ≡ blank
    step true = refl
    step false = refl
key_blank kind b c m s (event.Report other g message) (Listed cells) up f ws h = step (nat_eq other b) (is_among c cells)
  where
    step : (t u : Bool) → state_after (if t then (if u then indicated_effect kind message else Leaves) else Leaves) (if t then None else None) blank ≡ blank
    step true true = indicated kind message
    step true false = refl
    step false u = refl
key_blank kind b c m s (event.Report other g message) a up f ws h = cc
key_blank kind b c m s (event.Edit e) a up f ws h = cc
key_blank kind b c m s (event.LinkUp other) a up f ws h = cc
key_blank kind b c m s (event.LinkDown other g) a up f ws h = cc
key_blank kind b c m s (event.Send other g) a up f ws h = cc
key_blank kind b c m s (event.Ask other g n after) a up f ws h = cc

-- and so does the line
now_blank : (h : Happens) (ws : List Warning) (b : ℕ) (c : Cell) (o : Option Warning) → leaves_blank h.event h.answer ≡ true → line_now h ws b c o blank_line ≡ blank_line
now_blank h ws b c None e = refl
now_blank h ws b c (Some w) e =
    stepped_blank (λ s. effect (kind_of w) b c w.message_id s h.event h.answer h.up h.flight ws) (λ s. count_mark b c w.message_id s h.event h.answer h.flight ws) (λ s. key_blank (kind_of w) b c w.message_id s h.event h.answer h.up h.flight ws e) (serials w)

pub blank_stays : (h : Happens) (ws : List Warning) (b : ℕ) (c : Cell) (o : Option Warning) (line : Line) → leaves_blank h.event h.answer ≡ true → is_blank line ≡ true → line ≡ line_now h ws b c o line
blank_stays h ws b c o line e blanks =
    let same : line ≡ blank_line = (blank_decides line).0 blanks in
    sym (ap (line_now h ws b c o) same ∙ now_blank h ws b c o e ∙ sym same)

pub blank_left : (h : Happens) (ws : List Warning) (b : ℕ) (c : Cell) (o : Option Warning) (line : Line) → leaves_blank h.event h.answer ≡ true → is_blank line ≡ true → true ≡ line_eq (line_now h ws b c o line) line
blank_left h ws b c o line e blanks =
    sym ((line_decides (line_now h ws b c o line) line).1 (sym (blank_stays h ws b c o line e blanks)))

-- An edit that is neither the end of a BSC nor an Update nor a Forget leaves every line as it is.

set_itself : (ks : List KeyState) (i : ℕ) → slice_set ks i (slice_index_or ks i blank) ≡ ks
set_itself [] i = refl
set_itself (k ∷ ks) zero = refl
set_itself (k ∷ ks) (suc i) = ap (λ xs. k ∷ xs) (set_itself ks i)

with_itself : (line : Line) (s : ℕ) → with_state line s (state_of line s) ≡ line
with_itself line s = ap (λ (ks : List KeyState). let l : Line = record { states = ks } in l) (set_itself line.states (update_of s))

stepped_itself : (f : ℕ → Effect) (n : ℕ → Option ℕ) → ((s : ℕ) → f s ≡ Leaves) → ((s : ℕ) → n s ≡ None) → (line : Line) (ss : List ℕ) → stepped f n line ss ≡ line
stepped_itself f n leaves silent line [] = refl
stepped_itself f n leaves silent line (s ∷ ss) =
    ap (λ l. stepped f n l ss) (rw (leaves s, silent s) (with_itself line s)) ∙ stepped_itself f n leaves silent line ss

leaves_effect : (kind : Kind) (b : ℕ) (c : Cell) (m s : ℕ) (e : Event) (a : Answer) (up : Bool) (f : Option InFlight) (ws : List Warning) → leaves_lines e ≡ true → effect kind b c m s e a up f ws ≡ Leaves
leaves_effect kind b c m s (event.Edit (edit.RemoveBsc other)) a up f ws h = cc
leaves_effect kind b c m s (event.Edit (edit.Update n content)) a up f ws h = cc
leaves_effect kind b c m s (event.Edit (edit.Forget n)) a up f ws h = cc
leaves_effect kind b c m s (event.Edit e) a up f ws h = refl
leaves_effect kind b c m s other a up f ws h = cc

leaves_count : (b : ℕ) (c : Cell) (m s : ℕ) (e : Event) (a : Answer) (f : Option InFlight) (ws : List Warning) → leaves_lines e ≡ true → count_mark b c m s e a f ws ≡ None
leaves_count b c m s (event.Edit (edit.RemoveBsc other)) a f ws h = cc
leaves_count b c m s (event.Edit (edit.Update n content)) a f ws h = cc
leaves_count b c m s (event.Edit (edit.Forget n)) a f ws h = cc
leaves_count b c m s (event.Edit e) a f ws h = refl
leaves_count b c m s other a f ws h = cc

pub edit_leaves : (h : Happens) (ws : List Warning) (b : ℕ) (c : Cell) (o : Option Warning) (line : Line) → leaves_lines h.event ≡ true → line ≡ line_now h ws b c o line
edit_leaves h ws b c None line e = refl
edit_leaves h ws b c (Some w) line e =
    sym (stepped_itself (λ s. effect (kind_of w) b c w.message_id s h.event h.answer h.up h.flight ws) (λ s. count_mark b c w.message_id s h.event h.answer h.flight ws) (λ s. leaves_effect (kind_of w) b c w.message_id s h.event h.answer h.up h.flight ws e) (λ s. leaves_count b c w.message_id s h.event h.answer h.flight ws e) line (serials w))

-- so the line is itself in what is read of it then, if the line has versions then
pub line_stays : (h : Happens) (p : State) (t : Tables) (x : LineBefore) → leaves_lines h.event ≡ true → nat_eq (length (change_of h p t x).after.versions) 0 ≡ false → x.before.line ≡ (change_of h p t x).after.line
line_stays h p t x e some = step (warning_of p.book x.key.warning) some
  where
    then_read : Option Warning → LineFacts
    then_read o = facts_from p.register p.areas (down_at t.lines (kind_in o) x.key.bsc x.key.cell) x.key.bsc x.key.cell (line_now h p.book.warnings x.key.bsc x.key.cell o x.before.line) o

    step : (o : Option Warning) → nat_eq (length (then_read o).versions) 0 ≡ false → x.before.line ≡ (then_read o).line
    step None none = cc
    step (Some w) there = edit_leaves h p.book.warnings x.key.bsc x.key.cell (Some w) x.before.line e

-- A Retry leaves a line as it is that isn't held.

stepped_same : (f : ℕ → Effect) (n : ℕ → Option ℕ) (line : Line) → ((s : ℕ) → state_after (f s) (n s) (state_of line s) ≡ state_of line s) → (ss : List ℕ) → stepped f n line ss ≡ line
stepped_same f n line stays [] = refl
stepped_same f n line stays (s ∷ ss) =
    ap (λ l. stepped f n l ss) (ap (with_state line s) (stays s) ∙ with_itself line s) ∙ stepped_same f n line stays ss

unheld_after : (t : Bool) (k : KeyState) → k.hold ≡ None → state_after (if t then Frees else Leaves) None k ≡ k
unheld_after true k none = λ i. record { presence = k.presence; hold = sym none i; count = k.count }
unheld_after false k none = refl

pub retry_leaves : (h : Happens) (ws : List Warning) (b : ℕ) (c : Cell) (o : Option Warning) (line : Line) (other : ℕ) → h.event ≡ event.Retry other → is_held_line line ≡ false → line_now h ws b c o line ≡ line
retry_leaves h ws b c None line other is free = refl
retry_leaves h ws b c (Some w) line other is free =
    stepped_same (λ s. effect (kind_of w) b c w.message_id s h.event h.answer h.up h.flight ws) (λ s. count_mark b c w.message_id s h.event h.answer h.flight ws) line
    (λ s. ap (λ (e : Event). state_after (effect (kind_of w) b c w.message_id s e h.answer h.up h.flight ws) (count_mark b c w.message_id s e h.answer h.flight ws) (state_of line s)) is ∙ unheld_after (nat_eq other b) (state_of line s) (unheld_state line free s))
    (serials w)

-- so an indication and a Retry leave each line as it is that they can't change
pub unchanged : (h : Happens) (ws : List Warning) (b : ℕ) (c : Cell) (o : Option Warning) (line : Line) → leaves_blank h.event h.answer ≡ true → may_change h.event line ≡ false → true ≡ line_eq (line_now h ws b c o line) line
unchanged h ws b c o line blanks stays = step h.event refl
  where
    kept : not (is_blank line) ≡ false → true ≡ line_eq (line_now h ws b c o line) line
    kept e = blank_left h ws b c o line blanks (not-false (is_blank line) e)

    step : (e : Event) → h.event ≡ e → true ≡ line_eq (line_now h ws b c o line) line
    step (event.Retry other) is =
        sym ((line_decides (line_now h ws b c o line) line).1 (retry_leaves h ws b c o line other is (sym (ap (λ (e : Event). may_change e line) is) ∙ stays)))
    step (event.Report other g message) is = kept (sym (ap (λ (e : Event). may_change e line) is) ∙ stays)
    step (event.Edit x) is = kept (sym (ap (λ (e : Event). may_change e line) is) ∙ stays)
    step (event.LinkUp other) is = kept (sym (ap (λ (e : Event). may_change e line) is) ∙ stays)
    step (event.LinkDown other g) is = kept (sym (ap (λ (e : Event). may_change e line) is) ∙ stays)
    step (event.Send other g) is = kept (sym (ap (λ (e : Event). may_change e line) is) ∙ stays)
    step (event.Ask other g n after) is = kept (sym (ap (λ (e : Event). may_change e line) is) ∙ stays)
