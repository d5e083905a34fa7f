-- What a start makes of the lines of a kept file, and that `replay` of these lines makes the same.
use Rattle.std.specs.Prelude.{◌≡◌, ◌≢◌, ◌⊎◌, ℕ, ◌≤◌, true, false, List, [], ◌∷◌, Option, Some, None, Err, codes, length}
use Rattle.std.specs.List.{AllByRecursion}
use Rattle.centre_events.specs.Links.{is_bsc, last_link}
use Rattle.centre_events.specs.Past.{Past}
use Rattle.centre_events.specs.Verdict.{verdict}
use Rattle.centre_events.specs.declared.entry.Entry.{Entry}
use Rattle.centre_events.specs.declared.event.Event.{Event}
use Rattle.centre_events.specs.declared.refusal.Refusal.{Refusal}
use Rattle.centre_past.specs.Legal.{Known, checkpointed, new_centre, past}
use Rattle.console.specs.Replays.{new_session}
use Rattle.console.specs.Sessions.{SessionState}
use Rattle.console.specs.Text.{IsText}
use Rattle.console_text.specs.Events.{IsLineEvent, link_of}
use Rattle.console_text.specs.Lines.{lines_of, longest_line}
use Rattle.console_text.specs.Parts.{HasNone}
use Rattle.console_text.specs.declared.line.Line.{Line}
use Rattle.console_text.specs.declared.line.Line.TheVariants as line
use Rattle.console_text.specs.declared.line_event.LineEvent.{LineEvent}
use Rattle.console_text.specs.declared.line_event.LineEvent.TheVariants as came
use Rattle.journal_laws.specs.Files.{Checkpoint, Entered, IsLegalItem, Item, after_item, after_items, file_of, with_entry}
use Rattle.journal_laws.specs.Replayed.{all_by_desk_1, answers_text}
use Rattle.journal_text.specs.Reading.{request_of}

-- the generation of the latest link of the BSC; 0 where a line speaks of no link
abbrev pub generation_for : Past → Option ℕ → ℕ
generation_for past None = 0
generation_for past (Some b) = last_link past b

-- what a request comes to after that past, over the latest link of its BSC
abbrev pub ComesTo : Past → Line → LineEvent → Type 0
ComesTo past request came = IsLineEvent (generation_for past (link_of request)) request came

-- the event is the one new entry, with the answer that the past before it gives
pub record EntersEvent (old : Known) (event : Event) (new : Known) : Type 0 where
  pub entry : Entry
  pub same : entry.event ≡ event
  pub legal : IsLegalItem old (Entered entry)
  pub centre : new ≡ with_entry entry old

-- and so is the event that the request comes to
abbrev pub EntersRequest : Known → Line → Known → Type 0
EntersRequest old request new = (e : Event) × ComesTo (past old) request (came.Event e) × EntersEvent old e new

-- no event
abbrev pub IsNoEvent : LineEvent → Type 0
IsNoEvent (came.Event e) = ⊥
IsNoEvent other = Unit {0}

-- why no entry is made of a request, which is no fault of the memory: it comes to no event, its BSC isn't there, or the past gives its
-- event a refusal
abbrev pub IsRefused : Known → Line → Type 0
IsRefused centre request =
    ((x : LineEvent) × IsNoEvent x × ComesTo (past centre) request x)
    ⊎ (((b : ℕ) × (link_of request ≡ Some b) × (is_bsc (past centre) b ≡ false))
    ⊎ ((e : Event) × (r : Refusal) × ComesTo (past centre) request (came.Event e) × (verdict centre.settings (past centre) e ≡ Err r)))

-- nothing was entered: the centre is as before, or it is stale since memory ran out
abbrev pub IsStarved : Known → Known → Type 0
IsStarved old new = (new ≡ old) ⊎ (new ≡ record old { stale = true })

-- the centre is as before, or a fold came between
abbrev pub MayFold : Known → Known → Type 0
MayFold old new = (new ≡ old) ⊎ (new ≡ checkpointed old)

-- what a request makes of a centre: a checkpoint folds the entries, and any other is entered, perhaps behind a fold
abbrev pub TakesRequest : Known → Line → Known → Type 0
TakesRequest old request new = ((request ≡ line.Checkpoint) × (new ≡ checkpointed old)) ⊎ ((mid : Known) × MayFold old mid × EntersRequest mid request new)

-- why a request isn't taken: it is no checkpoint, and it is refused, perhaps behind a fold
abbrev pub RefusesRequest : Known → Line → Type 0
RefusesRequest old request = (request ≢ line.Checkpoint) × ((mid : Known) × MayFold old mid × IsRefused mid request)

-- a line is taken
abbrev pub TakesLine : Known → List ℕ → Known → Type 0
TakesLine old octets new = (request : Line) × (request_of octets ≡ Some request) × TakesRequest old request new

-- why a line isn't taken: it asks for nothing, or what it asks for is refused
abbrev pub IsNotTaken : Known → List ℕ → Type 0
IsNotTaken old octets = (request_of octets ≡ None) ⊎ ((request : Line) × (request_of octets ≡ Some request) × RefusesRequest old request)

-- what a line that isn't taken leaves: nothing more is entered, but a fold may have come before, and the centre may be stale where
-- memory ran out
abbrev pub IsLeft : Known → Known → Type 0
IsLeft old new = (mid : Known) × MayFold old mid × IsStarved mid new

-- the lines, with the line `checkpoint` anywhere between them
abbrev pub WithFolds : List (List ℕ) → List (List ℕ) → Type 0
WithFolds lines [] = lines ≡ []
WithFolds lines (octets ∷ more) =
    ((octets ≡ codes "checkpoint") × WithFolds lines more)
    ⊎ ((rest : List (List ℕ)) × (lines ≡ octets ∷ rest) × WithFolds rest more)

-- the line asks for the item in that centre
abbrev pub AsksFor : Known → Item → List ℕ → Type 0
AsksFor centre (Entered e) octets = (request : Line) × (request_of octets ≡ Some request) × ComesTo (past centre) request (came.Event e.event) × IsLegalItem centre (Entered e)
AsksFor centre Checkpoint octets = request_of octets ≡ Some line.Checkpoint

-- each line asks for its item, one after another
abbrev pub AreAsked : Known → List Item → List (List ℕ) → Type 0
AreAsked centre [] [] = Unit {0}
AreAsked centre [] (octets ∷ lines) = ⊥
AreAsked centre (item ∷ items) [] = ⊥
AreAsked centre (item ∷ items) (octets ∷ lines) = AsksFor centre item octets × AreAsked (after_item item centre) items lines

-- a centre without entries of the same settings
abbrev pub fresh : Known → Known
fresh centre = new_centre centre.settings.network centre.settings.limit

-- The centre is what the lines make of one without entries: each is a checkpoint, or the event that it asks for is accepted, over the
-- link that the centre knows. Its entries were perhaps folded anywhere between, as by further checkpoints. It may be stale.
pub record IsStart (lines : List (List ℕ)) (centre : Known) : Type 0 where
  pub items : List Item
  pub read : List (List ℕ)
  pub folds : WithFolds lines read
  pub asked : AreAsked (fresh centre) items read
  pub made : record centre { stale = false } ≡ after_items items (fresh centre)

-- a line of a file, which is short enough to be read
abbrev pub IsShortLine : List ℕ → Type 0
IsShortLine octets = HasNone 10 octets × (length octets ≤ longest_line)

-- `replay` of the lines, with a checkpoint where the start folded, accepts each, and leaves a centre of the same events with the same
-- answers in the same order, as desk 1
pub record IsReplayOf (lines : List (List ℕ)) (centre : Known) : Type 0 where
  pub items : List Item
  pub read : List (List ℕ)
  pub folds : WithFolds lines read
  pub session : SessionState
  pub told : IsText (new_session centre.settings.network centre.settings.limit) (lines_of (file_of read)) session (answers_text centre.settings.network centre.settings.limit items)
  pub same : session.centre ≡ all_by_desk_1 (record centre { stale = false })

-- what a start makes of lines is what `replay` makes of them
abbrev pub StartIsReplayed : Type 0
StartIsReplayed = (lines : List (List ℕ)) (centre : Known) → AllByRecursion IsShortLine lines → IsStart lines centre → IsReplayOf lines centre
