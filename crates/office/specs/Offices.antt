-- What a call of an office promises, whatever other desks do meanwhile.
use Rattle.std.specs.Prelude.{◌≡◌, ◌≤◌, ◌<◌, ◌⊎◌, ◌+◌, ◌++◌, ℕ, false, [], ◌∷◌, Result, Ok, Err, Some, length, slice_get}
use Rattle.std.specs.Borrow.{Bor}
use Rattle.centre_core.specs.Centre.{Refuses}
use Rattle.centre_past.specs.Fits.{AnswerFits}
use Rattle.centre_past.specs.Headline.{PendingGivesPlan}
use Rattle.centre_past.specs.Legal.{Known, Lawful, all_entries, checkpointed, past}
use Rattle.centre_events.specs.Folding.{base_of}
use Rattle.centre_events.specs.Verdict.{verdict}
use Rattle.centre_events.specs.declared.answer.Answer.{Answer}
use Rattle.centre_events.specs.declared.event.Event.{Event}
use Rattle.centre_events.specs.declared.refusal.Refusal.{Refusal}
use Rattle.centre_events.specs.declared.refusal.Refusal.TheVariants as refusal
use Rattle.office.specs.Desks.{DeskState, IsReleased}
use Rattle.office.specs.Helds.{receipt_at}
use Rattle.centre_questions.specs.Questions.{RefusesQuestion, Shows}
use Rattle.office.specs.Receipts.{receipts_of, last_place}
use Rattle.centre_questions.specs.declared.question.Question.{Question}
use Rattle.office.specs.declared.receipt.Receipt.{Receipt}
use Rattle.office.specs.declared.seen.Seen.{Seen}

-- a centre whose entries are lawful, after which the pending orders give the plan, and which has as many entries of the desk as that
-- has receipts, the last at the last one's place; those that were folded are counted
pub record Meets (centre : Known) (d : DeskState) : Type 0 where
  pub lawful : Lawful centre.settings (past centre)
  pub headline : PendingGivesPlan (past centre)
  pub entries : length (receipts_of d.number (all_entries centre)) ≡ length d.receipts
  pub place : last_place (receipts_of d.number (all_entries centre)) ≡ last_place d.receipts
  pub later : last_place d.receipts ≤ length (all_entries centre)

-- in some such centre the event has that answer, and the desk has one more receipt, whose place is above all others of the desk, and
-- lets go of none
pub record IsSubmitted (before : DeskState) (event : Event) (after : DeskState) : Type 0 where
  pub centre : Known
  pub meets : Meets centre before
  pub answer : Answer
  pub is_verdict : verdict centre.settings (past centre) event ≡ Ok answer
  pub message_fits : AnswerFits answer
  pub receipts : after.receipts ≡ before.receipts ++ receipt_at (length (all_entries centre) + 1) event answer ∷ []
  pub number : after.number ≡ before.number
  pub released : after.released ≡ before.released
  pub held : after.released < length after.receipts

-- in some such centre the event is refused for that cause
pub record IsRefusedIn (d : DeskState) (event : Event) (r : Refusal) : Type 0 where
  pub centre : Known
  pub meets : Meets centre d
  pub refuses : Refuses centre event r

-- why an event is refused: out of memory before the centre looked at it, a desk that isn't as the office knows it, or a
-- refusal in some such centre
abbrev pub IsRefusedSomewhere : DeskState → Event → Refusal → Type 0
IsRefusedSomewhere d event r = (r ≡ refusal.Memory) ⊎ (((position : ℕ) × (r ≡ refusal.WrongDesk position)) ⊎ IsRefusedIn d event r)

-- in some such centre the question has that answer, after as many entries as the position says, those counted that were folded
pub record IsSeenSomewhere (d : DeskState) (q : Question) (s : Seen) : Type 0 where
  pub centre : Known
  pub meets : Meets centre d
  pub position : s.position ≡ length (all_entries centre)
  pub shows : Shows centre q s.value

-- in some such centre the question is refused for that cause
pub record IsUnseenIn (d : DeskState) (q : Question) (r : Refusal) : Type 0 where
  pub centre : Known
  pub meets : Meets centre d
  pub refuses : RefusesQuestion centre q r

-- why a question is refused: a desk that isn't as the office knows it, or a refusal in some such centre
abbrev pub IsUnseenSomewhere : DeskState → Question → Refusal → Type 0
IsUnseenSomewhere d q r = ((position : ℕ) × (r ≡ refusal.WrongDesk position)) ⊎ IsUnseenIn d q r

-- the desk isn't as the office knows it
abbrev pub IsWrongDesk : Refusal → Type 0
IsWrongDesk r = (position : ℕ) × (r ≡ refusal.WrongDesk position)

-- in some such centre what is kept was made anew, so that it is whole
pub record IsRebuiltSomewhere (d : DeskState) : Type 0 where
  pub centre : Known
  pub meets : Meets centre d
  pub whole : centre.stale ≡ false

-- In some such centre, which was whole, the journal had so many entries, and they were folded. What a past says is what its parts say
-- that a base has; these are as before.
pub record IsFoldedSomewhere (count : ℕ) : Type 0 where
  pub centre : Known
  pub lawful : Lawful centre.settings (past centre)
  pub headline : PendingGivesPlan (past centre)
  pub whole : centre.stale ≡ false
  pub counted : count ≡ length centre.journal
  pub same : base_of (past (checkpointed centre)) ≡ base_of (past centre)

-- the desk is as it was, but for how many of its receipts it let go of, and for its room
abbrev pub IsSameDesk : DeskState → DeskState → Type 0
IsSameDesk old new = new ≡ record old { released = new.released; spare = new.spare }

-- so many entries were folded in some such centre, and the desk let go of its receipts of these and of no other, or it is as it was,
-- where there was no memory for that
pub record IsReleasedSomewhere (old new : DeskState) (folded : ℕ) : Type 0 where
  pub centre : Known
  pub lawful : Lawful centre.settings (past centre)
  pub counted : folded ≡ length centre.folded
  pub same : IsSameDesk old new
  pub released : IsReleased folded old new ⊎ (new ≡ old)

-- where the event was accepted the desk has one more receipt, and the one that is lent is the last; where it was refused the desk is
-- as it was, but for its room
abbrev pub IsLent : DeskState → Event → DeskState → Result (Bor Receipt) Refusal → Type 0
IsLent before event after (Ok r) = IsSubmitted before event after × (slice_get after.receipts (length before.receipts) ≡ Some r.now)
IsLent before event after (Err r) = after ≡ record before { spare = after.spare }
