-- What leaves a line as it is, version after version.
use Rattle.std.proofs.Common.{◌≡◌, ℕ, zero, suc, Bool, true, false, ◌&&◌, not, nat_eq, List, [], ◌∷◌, Option, Some, None, refl, sym, ◌∙◌, ap}
use Rattle.std.specs.Prelude.{find, slice_set, if◌then◌else◌}
use Rattle.std.specs.List.{slice_index_or}
use Rattle.std.specs.Option.{option_map, option_and_then}
use Rattle.std.proofs.lemmas.Bool.{not-true}
use Rattle.cbsp_messages.specs.declared.message.Message.{Message}
use Rattle.common.specs.Cell.{cell_eq}
use Rattle.common.specs.declared.cell.Cell.{Cell}
use Rattle.mirror.specs.Blank.{state_eq}
use Rattle.mirror.specs.BlankLaws.{state_decides}
use Rattle.mirror.specs.Line.{blank, state_of, with_state}
use Rattle.mirror.specs.declared.key_state.KeyState.{KeyState}
use Rattle.mirror.specs.declared.line.Line.{Line}
use Rattle.serials.specs.Serials.{update_of}
use Rattle.warning_book.specs.declared.kind.Kind.{Kind}
use Rattle.warning_book.specs.declared.warning.Warning.{Warning}
use Rattle.centre_events.specs.Counts.{count_mark, is_counted_key, replied_count, report_count}
use Rattle.centre_events.specs.Effects.{flight_effect, indicated_effect, is_among, outcome_in, report_effect, said_effect, state_after}
use Rattle.centre_events.specs.InFlight.{cells_of, id_of}
use Rattle.centre_events.specs.Presence.{effect}
use Rattle.centre_events.specs.Stepping.{stepped}
use Rattle.centre_events.specs.declared.answer.Answer.{Answer}
use Rattle.centre_events.specs.declared.answer.Answer.TheVariants.{Replied, Listed}
use Rattle.centre_events.specs.declared.effect.Effect.{Effect}
use Rattle.centre_events.specs.declared.effect.Effect.TheVariants.{Frees, Leaves}
use Rattle.centre_events.specs.declared.event.Event.{Event}
use Rattle.centre_events.specs.declared.event.Event.TheVariants as event
use Rattle.centre_events.specs.declared.in_flight.InFlight.{InFlight}
use Rattle.centre_events.specs.declared.outcome.Outcome.{Outcome}
use Rattle.centre_events.specs.declared.outcome.Outcome.TheVariants.{Silent}
use Rattle.centre_events.specs.declared.reply.Reply.{Reply}
use Rattle.centre_events.proofs.EffectLemmas.{elsewhere, said_elsewhere, counted_elsewhere}

set_itself : (ks : List KeyState) (i : ℕ) → slice_set ks i (slice_index_or ks i blank) ≡ ks
set_itself [] i = refl
set_itself (k ∷ ks) zero = refl
set_itself (k ∷ ks) (suc i) = ap (λ xs. k ∷ xs) (set_itself ks i)

with_itself : (line : Line) (s : ℕ) → with_state line s (state_of line s) ≡ line
with_itself line s = ap (λ (ks : List KeyState). let l : Line = record { states = ks } in l) (set_itself line.states (update_of s))

-- a version to which nothing is done, and of which nothing is reported, stays as it is
pub left_at : (line : Line) (s : ℕ) (e : Effect) (n : Option ℕ) → e ≡ Leaves → n ≡ None → with_state line s (state_after e n (state_of line s)) ≡ line
left_at line s e n leaves silent = rw (leaves, silent) (with_itself line s)

-- and so does one that is given the value that it has
pub same_at : (line : Line) (s : ℕ) (k : KeyState) → state_eq k (state_of line s) ≡ true → with_state line s k ≡ line
same_at line s k same = ap (with_state line s) ((state_decides k (state_of line s)).0 same) ∙ with_itself line s

-- and so does the line of such versions
pub stepped_left : (f : ℕ → Effect) (n : ℕ → Option ℕ) → ((s : ℕ) → f s ≡ Leaves) → ((s : ℕ) → n s ≡ None) → (line : Line) (ss : List ℕ) → stepped f n line ss ≡ line
stepped_left f n leaves silent line [] = refl
stepped_left f n leaves silent line (s ∷ ss) =
    ap (λ l. stepped f n l ss) (left_at line s (f s) (n s) (leaves s) (silent s)) ∙ stepped_left f n leaves silent line ss

-- An event of another kind or of another BSC leaves the line, and so does what is said of another message or another cell.

-- the event does nothing to a line at the BSC
abbrev is_quiet : ℕ → Bool → Event → Bool
is_quiet b up (event.Edit e) = false
is_quiet b up (event.Report other generation message) = not (nat_eq other b)
is_quiet b up (event.LinkUp other) = not (nat_eq other b && up)
is_quiet b up (event.LinkDown other generation) = not (nat_eq other b)
is_quiet b up (event.Retry other) = not (nat_eq other b)
is_quiet b up other = true

quiet_effect : (kind : Kind) (b : ℕ) (c : Cell) (m s : ℕ) (e : Event) (a : Answer) (up : Bool) (f : Option InFlight) (ws : List Warning) → is_quiet b up e ≡ true → effect kind b c m s e a up f ws ≡ Leaves
quiet_effect kind b c m s (event.Edit e) a up f ws h = cc
quiet_effect kind b c m s (event.Report other g message) a up f ws h = ap (λ t. if t then report_effect kind message a f c m s else Leaves) (not-true (nat_eq other b) h)
quiet_effect kind b c m s (event.LinkUp other) a up f ws h = ap (λ t. if t then flight_effect f Silent c m s else Leaves) (not-true (nat_eq other b && up) h)
quiet_effect kind b c m s (event.LinkDown other g) a up f ws h = ap (λ t. if t then flight_effect f Silent c m s else Leaves) (not-true (nat_eq other b) h)
quiet_effect kind b c m s (event.Retry other) a up f ws h = ap (λ t. if t then Frees else Leaves) (not-true (nat_eq other b) h)
quiet_effect kind b c m s (event.Send other g) a up f ws h = refl
quiet_effect kind b c m s (event.Ask other g n after) a up f ws h = refl

quiet_count : (b : ℕ) (c : Cell) (m s : ℕ) (e : Event) (a : Answer) (up : Bool) (f : Option InFlight) (ws : List Warning) → is_quiet b up e ≡ true → count_mark b c m s e a f ws ≡ None
quiet_count b c m s (event.Edit e) a up f ws h = cc
quiet_count b c m s (event.Report other g message) a up f ws h = ap (λ t. if t then report_count a f c m s else None) (not-true (nat_eq other b) h)
quiet_count b c m s other a up f ws h = refl

pub quiet_left : (kind : Kind) (b : ℕ) (c : Cell) (m : ℕ) (e : Event) (a : Answer) (up : Bool) (f : Option InFlight) (ws : List Warning) (line : Line) (ss : List ℕ) → is_quiet b up e ≡ true → line ≡ stepped (λ s. effect kind b c m s e a up f ws) (λ s. count_mark b c m s e a f ws) line ss
quiet_left kind b c m e a up f ws line ss h =
    sym (stepped_left (λ s. effect kind b c m s e a up f ws) (λ s. count_mark b c m s e a f ws) (λ s. quiet_effect kind b c m s e a up f ws h) (λ s. quiet_count b c m s e a up f ws h) line ss)

-- what is in flight is of the message, and the cell is one of its cells
abbrev bears_on : Option InFlight → Cell → ℕ → Bool
bears_on None c m = false
bears_on (Some f) c m = nat_eq (id_of f) m && is_among c (cells_of f)

lost_effect : (f : Option InFlight) (c : Cell) (m s : ℕ) → bears_on f c m ≡ false → flight_effect f Silent c m s ≡ Leaves
lost_effect None c m s h = refl
lost_effect (Some f) c m s h = elsewhere f Silent c m s h

pub lost_left : (f : Option InFlight) (c : Cell) (m : ℕ) (line : Line) (ss : List ℕ) → bears_on f c m ≡ false → line ≡ stepped (λ s. flight_effect f Silent c m s) (λ s. None) line ss
lost_left f c m line ss h = sym (stepped_left (λ s. flight_effect f Silent c m s) (λ s. None) (λ s. lost_effect f c m s h) (λ s. refl) line ss)

pub replied_left : (f : InFlight) (replies : List Reply) (c : Cell) (m : ℕ) (line : Line) (ss : List ℕ) → bears_on (Some f) c m ≡ false → line ≡ stepped (λ s. said_effect (outcome_in c replies) (Some f) c m s) (λ s. replied_count (Some f) replies c m s) line ss
replied_left f replies c m line ss h =
    sym (stepped_left (λ s. said_effect (outcome_in c replies) (Some f) c m s) (λ s. replied_count (Some f) replies c m s) (λ s. said_elsewhere (outcome_in c replies) f c m s h) (λ s. counted_elsewhere f replies c m s h) line ss)

-- the replies say nothing of the cell
pub unsaid_left : (f : InFlight) (replies : List Reply) (c : Cell) (m : ℕ) (line : Line) (ss : List ℕ) → find (λ r. cell_eq c r.cell) replies ≡ None → line ≡ stepped (λ s. said_effect (outcome_in c replies) (Some f) c m s) (λ s. replied_count (Some f) replies c m s) line ss
unsaid_left f replies c m line ss h =
    sym (stepped_left (λ s. said_effect (outcome_in c replies) (Some f) c m s) (λ s. replied_count (Some f) replies c m s) (λ s. ap (λ (o : Option Reply). said_effect (option_map (λ r. r.outcome) o) (Some f) c m s) h) (λ s. ap (λ (o : Option Reply). if is_counted_key f c m s then option_and_then (λ r. r.count) o else None) h ∙ neither (is_counted_key f c m s) None) line ss)
  where
    neither : (t : Bool) (o : Option ℕ) → (if t then o else o) ≡ o
    neither true o = refl
    neither false o = refl

-- the answer says nothing of a cell
abbrev is_silent : Answer → Option InFlight → Cell → Bool
is_silent (Replied replies) None c = true
is_silent (Replied replies) (Some f) c = false
is_silent (Listed cells) f c = not (is_among c cells)
is_silent other f c = true

silent_effect : (kind : Kind) (message : Message) (a : Answer) (f : Option InFlight) (c : Cell) (m s : ℕ) → is_silent a f c ≡ true → report_effect kind message a f c m s ≡ Leaves
silent_effect kind message (Replied replies) None c m s h = step (outcome_in c replies)
  where
    step : (said : Option Outcome) → said_effect said None c m s ≡ Leaves
    step None = refl
    step (Some o) = refl
silent_effect kind message (Replied replies) (Some f) c m s h = cc
silent_effect kind message (Listed cells) f c m s h = ap (λ t. if t then indicated_effect kind message else Leaves) (not-true (is_among c cells) h)
silent_effect kind message other f c m s h = refl

silent_count : (a : Answer) (f : Option InFlight) (c : Cell) (m s : ℕ) → is_silent a f c ≡ true → report_count a f c m s ≡ None
silent_count (Replied replies) None c m s h = refl
silent_count (Replied replies) (Some f) c m s h = cc
silent_count other f c m s h = refl

pub silent_left : (kind : Kind) (message : Message) (a : Answer) (f : Option InFlight) (c : Cell) (m : ℕ) (line : Line) (ss : List ℕ) → is_silent a f c ≡ true → line ≡ stepped (λ s. report_effect kind message a f c m s) (λ s. report_count a f c m s) line ss
silent_left kind message a f c m line ss h =
    sym (stepped_left (λ s. report_effect kind message a f c m s) (λ s. report_count a f c m s) (λ s. silent_effect kind message a f c m s h) (λ s. silent_count a f c m s h) line ss)
