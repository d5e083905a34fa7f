-- Worked instances: a journal of at most two entries, a checkpoint, and what is answered then.
use Rattle.std.specs.Prelude.{◌≡◌, ℕ, [], ◌∷◌, Ok, Err}
use Rattle.std.proofs.Common.{refl}
use Rattle.centre_events.specs.Base.{empty_base}
use Rattle.centre_events.specs.Folding.{folded}
use Rattle.centre_events.specs.Past.{Past, From, entry_count, past_of, position}
use Rattle.centre_events.specs.Verdict.{verdict}
use Rattle.centre_events.specs.declared.answer.Answer.TheVariants as answer
use Rattle.centre_events.specs.declared.entry.Entry.{Entry}
use Rattle.centre_events.specs.declared.event.Event.TheVariants as event
use Rattle.centre_events.specs.declared.refusal.Refusal.TheVariants as refusal
use Rattle.centre_events.specs.declared.settings.Settings.{Settings}
use Rattle.centre_past.specs.Legal.{Checkpoint, Submit, after_calls}
use Rattle.coverage_plan.specs.declared.edit.Edit.TheVariants as edit

abbrev settings : Settings
settings = record { network = record { plmn = []; broadcasts = 0 }; limit = 2 }

abbrev entry : ℕ → Entry
entry b = record { desk = 0; event = event.Edit (edit.AddBsc b); answer = answer.Done }

-- two BSCs were registered
abbrev before : Past
before = past_of (entry 1 ∷ entry 2 ∷ [])

-- and then their entries were folded
abbrev after : Past
after = folded before

a_journal_of_two_is_full : verdict settings before (event.Edit (edit.AddBsc 3)) ≡ Err refusal.JournalFull
a_journal_of_two_is_full = refl

no_entry_stands_after_a_checkpoint : entry_count after ≡ 0
no_entry_stands_after_a_checkpoint = refl

positions_go_on : position after ≡ 2
positions_go_on = refl

a_folded_entry_counts : verdict settings after (event.Edit (edit.AddBsc 2)) ≡ Err refusal.BscExists
a_folded_entry_counts = refl

the_journal_has_room_again : verdict settings after (event.Edit (edit.AddBsc 3)) ≡ Ok answer.Done
the_journal_has_room_again = refl

links_are_numbered_on : verdict settings after (event.LinkUp 1) ≡ Ok (answer.Link 3)
links_are_numbered_on = refl

calls_come_to_that : after_calls settings (Submit 0 (event.Edit (edit.AddBsc 1)) ∷ Submit 0 (event.Edit (edit.AddBsc 2)) ∷ Submit 0 (event.Edit (edit.AddBsc 3)) ∷ Checkpoint ∷ []) (From empty_base) ≡ after
calls_come_to_that = refl

-- one entry may have the last position, and none after it
abbrev at : ℕ → Past
at n = From (record empty_base { folded = n })

the_last_position_is_given : verdict settings (at 18446744073709551614) (event.LinkUp 1) ≡ Err refusal.NoSuchBsc
the_last_position_is_given = refl

and_none_after_it : verdict settings (at 18446744073709551615) (event.LinkUp 1) ≡ Err refusal.JournalFull
and_none_after_it = refl
