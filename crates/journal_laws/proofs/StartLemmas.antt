-- What a start makes of lines, line by line, and that `replay` makes the same of them.
use Rattle.std.proofs.Common.{◌≡◌, ◌∙◌, inl, inr, ℕ, ◌≤◌, Bool, true, false, if◌then◌else◌, List, [], ◌∷◌, ◌++◌, Option, Some, None, codes, length, refl, sym, ap, subst, append-nil, arith}
use Rattle.std.specs.Prelude.{IsSomeAnd, MatchOption}
use Rattle.std.specs.List.{AllByRecursion}
use Rattle.cbsp_messages.specs.MessageType.{report_type}
use Rattle.cbsp_messages.specs.declared.message_type.MessageType.{MessageType}
use Rattle.centre_events.specs.declared.entry.Entry.{Entry}
use Rattle.centre_events.specs.declared.event.Event.{Event}
use Rattle.centre_events.specs.declared.event.Event.TheVariants as event
use Rattle.centre_past.specs.Legal.{Known, checkpointed, past}
use Rattle.console.specs.Generations.{generation_of}
use Rattle.console.specs.Replays.{new_session}
use Rattle.console.specs.Sessions.{Answers, SessionState}
use Rattle.console.specs.Text.{IsText}
use Rattle.console.proofs.TextLemmas.{text_append}
use Rattle.console_text.specs.Events.{IsLineEvent, IsReportEvent, event_or, event_with, has_digits, link_of}
use Rattle.console_text.specs.Frames.{IsFrame}
use Rattle.console_text.specs.HexText.{octets_of}
use Rattle.console_text.specs.Lines.{longest_line, without_return}
use Rattle.console_text.specs.Parts.{HasNone}
use Rattle.console_text.specs.Reports.{BodyComesTo, OctetsCarry, OctetsComeTo}
use Rattle.console_text.specs.declared.line.Line.{Line}
use Rattle.console_text.specs.declared.line.Line.TheVariants as line
use Rattle.console_text.specs.declared.line_event.LineEvent.TheVariants as came
use Rattle.console_text.specs.declared.text_fault.TextFault.TheVariants as fault
use Rattle.framing.specs.declared.frame.Frame.{Frame}
use Rattle.journal_text.specs.Reading.{NamesKept, StandsFor}
use Rattle.journal_text.proofs.WordLemmas.{has_none}
use Rattle.journal_laws.specs.Files.{AreLegal, Checkpoint, Entered, IsLegalItem, Item, after_item, after_items, item_answer, with_entry}
use Rattle.journal_laws.specs.Replayed.{all_by_desk_1, answers_text}
use Rattle.journal_laws.specs.Starts.{AreAsked, AsksFor, ComesTo, IsLeft, IsShortLine, IsStart, IsStarved, MayFold, StartIsReplayed, TakesLine, TakesRequest, WithFolds, fresh, generation_for}
use Rattle.journal_laws.proofs.CommentLemmas.{return_shorter}
use Rattle.journal_laws.proofs.FileLemmas.{lines_of_file}
use Rattle.journal_laws.proofs.ReplayedLemmas.{mirrors_items, mirrors_new, session_of, text_of, told_nothing}
use Rattle.journal_laws.proofs.StepLemmas.{Mirrors, answered_checkpoint, answered_entry, mirrors_then, session_then}

-- ---- the event that a line comes to, over any link that it names

-- an event that comes is there
event_there : (l : Line) (o : Option Event) (e : Event) → came.Event e ≡ event_or l o → o ≡ Some e
event_there l (Some x) e is = let same : e ≡ x = cc is in ap Some (sym same)
event_there l None e is = none (has_digits l) is
  where
    none : (t : Bool) → came.Event e ≡ (if t then came.Bad fault.Hex else came.Other l) → None ≡ Some e
    none true is = absurd (cc is)
    none false is = absurd (cc is)

-- a message that comes in a report is sent in it
body_sent : (g b : ℕ) (text octets : List ℕ) (frame : Frame) (kept : ℕ → ℕ) (t : MessageType) (e : Event) → octets_of text ≡ Some octets → IsFrame octets frame → report_type frame.kind ≡ Some t
    → BodyComesTo (λ m. came.Event e ≡ came.Event (event.Report b g m)) (λ f. came.Event e ≡ came.Bad f) t frame.body → NamesKept kept e → StandsFor kept (line.Report b text) e
body_sent g b text octets frame kept t e spelled whole kind (inl h) names =
    let same : e ≡ event.Report b g h.0 = cc (h.2) in
    let generation : kept b ≡ g = subst (NamesKept kept) same names in
    (h.0, record { octets = octets; frame = frame; kind = t; spelled = spelled; whole = whole; report = kind; encoded = h.1 }, same ∙ ap (λ n. event.Report b n h.0) (sym generation))
body_sent g b text octets frame kept t e spelled whole kind (inr h) names = absurd (cc (h.2))

kind_sent : (g b : ℕ) (text octets : List ℕ) (frame : Frame) (kept : ℕ → ℕ) (o : Option MessageType) (e : Event) → octets_of text ≡ Some octets → IsFrame octets frame → report_type frame.kind ≡ o
    → MatchOption o (came.Event e ≡ came.Bad fault.Skipped) (λ t. BodyComesTo (λ m. came.Event e ≡ came.Event (event.Report b g m)) (λ f. came.Event e ≡ came.Bad f) t frame.body)
    → NamesKept kept e → StandsFor kept (line.Report b text) e
kind_sent g b text octets frame kept None e spelled whole kind h names = absurd (cc h)
kind_sent g b text octets frame kept (Some t) e spelled whole kind h names = body_sent g b text octets frame kept t e spelled whole kind h names

octets_sent : (g b : ℕ) (text octets : List ℕ) (kept : ℕ → ℕ) (e : Event) → octets_of text ≡ Some octets
    → OctetsComeTo (λ m. came.Event e ≡ came.Event (event.Report b g m)) (λ f. came.Event e ≡ came.Bad f) octets → NamesKept kept e → StandsFor kept (line.Report b text) e
octets_sent g b text octets kept e spelled (inl h) names = kind_sent g b text octets h.0 kept (report_type h.0.kind) e spelled h.1 refl h.2 names
octets_sent g b text octets kept e spelled (inr h) names = absurd (cc (h.1))

digits_sent : (g b : ℕ) (text : List ℕ) (kept : ℕ → ℕ) (o : Option (List ℕ)) (e : Event) → octets_of text ≡ o
    → MatchOption o (came.Event e ≡ came.Bad fault.Hex) (λ xs. OctetsComeTo (λ m. came.Event e ≡ came.Event (event.Report b g m)) (λ f. came.Event e ≡ came.Bad f) xs)
    → NamesKept kept e → StandsFor kept (line.Report b text) e
digits_sent g b text kept None e spelled h names = absurd (cc h)
digits_sent g b text kept (Some octets) e spelled h names = octets_sent g b text octets kept e spelled h names

kind_none : (o : Option MessageType) (e : Event) → IsSomeAnd o (λ t. came.Event e ≡ came.Bad fault.Memory) → ⊥
kind_none None e h = absurd h
kind_none (Some t) e h = cc h

digits_none : (o : Option (List ℕ)) (e : Event) → IsSomeAnd o (λ xs. OctetsCarry (λ t body. came.Event e ≡ came.Bad fault.Memory) xs) → ⊥
digits_none None e h = absurd h
digits_none (Some octets) e h = kind_none (report_type h.0.kind) e h.2

report_sent : (g b : ℕ) (text : List ℕ) (kept : ℕ → ℕ) (e : Event) → IsReportEvent g b text (came.Event e) → NamesKept kept e → StandsFor kept (line.Report b text) e
report_sent g b text kept e (inl h) names = digits_sent g b text kept (octets_of text) e refl h names
report_sent g b text kept e (inr h) names = absurd (digits_none (octets_of text) e h)

-- it is the event for which the line stands, where the generation that it names is kept
comes_stands : (g : ℕ) (kept : ℕ → ℕ) (l : Line) (e : Event) → IsLineEvent g l (came.Event e) → NamesKept kept e → StandsFor kept l e
comes_stands g kept (line.Report b text) e is names = report_sent g b text kept e is names
comes_stands g kept (line.Down b) e is names =
    let there = event_there (line.Down b) (Some (event.LinkDown b g)) e is in
    let same : e ≡ event.LinkDown b g = cc there in
    let generation : kept b ≡ g = subst (NamesKept kept) same names in
    subst (λ n. Some (event.LinkDown b n) ≡ Some e) (sym generation) there
comes_stands g kept (line.Send b) e is names =
    let there = event_there (line.Send b) (Some (event.Send b g)) e is in
    let same : e ≡ event.Send b g = cc there in
    let generation : kept b ≡ g = subst (NamesKept kept) same names in
    subst (λ n. Some (event.Send b n) ≡ Some e) (sym generation) there
comes_stands g kept (line.Ask b warning after) e is names =
    let there = event_there (line.Ask b warning after) (Some (event.Ask b g warning after)) e is in
    let same : e ≡ event.Ask b g warning after = cc there in
    let generation : kept b ≡ g = subst (NamesKept kept) same names in
    subst (λ n. Some (event.Ask b n warning after) ≡ Some e) (sym generation) there
comes_stands g kept l e is names = event_there l (event_with (λ b. g) l) e is

-- ---- a start, line by line

after_more : (items : List Item) (item : Item) (centre : Known) → after_items (items ++ item ∷ []) centre ≡ after_item item (after_items items centre)
after_more [] item centre = refl
after_more (first ∷ items) item centre = after_more items item (after_item first centre)

asked_more : (centre : Known) (items : List Item) (read : List (List ℕ)) (item : Item) (octets : List ℕ) → AreAsked centre items read → AsksFor (after_items items centre) item octets
    → AreAsked centre (items ++ item ∷ []) (read ++ octets ∷ [])
asked_more centre [] [] item octets are is = (is, tt)
asked_more centre [] (other ∷ read) item octets are is = absurd are
asked_more centre (first ∷ items) [] item octets are is = absurd are
asked_more centre (first ∷ items) (other ∷ read) item octets are is = (are.0, asked_more (after_item first centre) items read item octets are.1 is)

-- a line behind the others
folds_line : (lines read : List (List ℕ)) (octets : List ℕ) → WithFolds lines read → WithFolds (lines ++ octets ∷ []) (read ++ octets ∷ [])
folds_line lines [] octets is = inr ([], ap (λ ls. ls ++ octets ∷ []) is, refl)
folds_line lines (first ∷ read) octets (inl is) = inl (is.0, folds_line lines read octets is.1)
folds_line lines (first ∷ read) octets (inr is) = inr (is.0 ++ octets ∷ [], ap (λ ls. ls ++ octets ∷ []) is.1, folds_line is.0 read octets is.2)

-- a fold behind them
folds_own : (lines read : List (List ℕ)) → WithFolds lines read → WithFolds lines (read ++ codes "checkpoint" ∷ [])
folds_own lines [] is = inl (refl, is)
folds_own lines (first ∷ read) (inl is) = inl (is.0, folds_own lines read is.1)
folds_own lines (first ∷ read) (inr is) = inr (is.0, is.1, folds_own is.0 read is.2)

-- whether the centre is stale bears on none of this
abbrev whole_of : Known → Known
whole_of centre = record centre { stale = false }

asks_whole : (centre : Known) (item : Item) (octets : List ℕ) → AsksFor centre item octets → AsksFor (whole_of centre) item octets
asks_whole centre (Entered e) octets is = is
asks_whole centre Checkpoint octets is = is

same_fresh : (item : Item) (centre : Known) → fresh (after_item item centre) ≡ fresh centre
same_fresh (Entered e) centre = refl
same_fresh Checkpoint centre = refl

more : (lines longer : List (List ℕ)) (octets : List ℕ) (item : Item) (old new : Known) → IsStart lines old
    → ((read : List (List ℕ)) → WithFolds lines read → WithFolds longer (read ++ octets ∷ [])) → AsksFor old item octets → whole_of new ≡ after_item item (whole_of old) → IsStart longer new
more lines longer octets item old new start folds asks after =
    let same : fresh old ≡ fresh new = sym (same_fresh item (whole_of old)) ∙ sym (ap fresh after) in
    let asked : AreAsked (fresh old) (start.items ++ item ∷ []) (start.read ++ octets ∷ []) =
    asked_more (fresh old) start.items start.read item octets start.asked (subst (λ c. AsksFor c item octets) start.made (asks_whole old item octets asks)) in
    record {
      items = start.items ++ item ∷ [];
      read = start.read ++ octets ∷ [];
      folds = folds start.read start.folds;
      asked = subst (λ c. AreAsked c (start.items ++ item ∷ []) (start.read ++ octets ∷ [])) same asked;
      made = after ∙ ap (after_item item) start.made ∙ sym (after_more start.items item (fresh old)) ∙ ap (after_items (start.items ++ item ∷ [])) same;
    }

-- no line was taken of a centre without entries
pub start_new : (centre : Known) → centre.folded ++ centre.journal ≡ [] → IsStart [] centre
start_new centre none = record { items = []; read = []; folds = refl; asked = tt; made = made centre.folded centre.journal none }
  where
    made : (folded journal : List Entry) → folded ++ journal ≡ [] → (let c : Known = record { settings = centre.settings; folded = folded; journal = journal; stale = false } in c) ≡ fresh centre
    made [] [] is = refl
    made [] (e ∷ journal) is = absurd (cc is)
    made (e ∷ folded) journal is = absurd (cc is)

-- a fold between
start_folds : (lines : List (List ℕ)) (old new : Known) → MayFold old new → IsStart lines old → IsStart lines new
start_folds lines old new (inl is) start = subst (IsStart lines) (sym is) start
start_folds lines old new (inr is) start = subst (IsStart lines) (sym is) (more lines lines (codes "checkpoint") Checkpoint old (checkpointed old) start (folds_own lines) refl refl)

-- a line is taken
pub start_takes : (lines : List (List ℕ)) (octets : List ℕ) (old new : Known) → TakesLine old octets new → IsStart lines old → IsStart (lines ++ octets ∷ []) new
start_takes lines octets old new is start = taken is.2
  where
    taken : TakesRequest old is.0 new → IsStart (lines ++ octets ∷ []) new
    taken (inl folded) =
        subst (IsStart (lines ++ octets ∷ [])) (sym folded.1)
        (more lines (lines ++ octets ∷ []) octets Checkpoint old (checkpointed old) start (λ read. folds_line lines read octets) (is.1 ∙ ap Some folded.0) refl)
    taken (inr h) =
        let mid = h.0 in
        let enters = h.2.2 in
        let comes : ComesTo (past mid) is.0 (came.Event enters.entry.event) = subst (λ e. ComesTo (past mid) is.0 (came.Event e)) (sym enters.same) h.2.1 in
        subst (IsStart (lines ++ octets ∷ [])) (sym enters.centre)
        (more lines (lines ++ octets ∷ []) octets (Entered enters.entry) mid (with_entry enters.entry mid) (start_folds lines old mid h.1 start) (λ read. folds_line lines read octets)
        (is.0, is.1, comes, enters.legal) refl)

stale_start : (lines : List (List ℕ)) (centre : Known) → IsStart lines centre → IsStart lines (record centre { stale = true })
stale_start lines centre start = record { items = start.items; read = start.read; folds = start.folds; asked = start.asked; made = start.made }

-- a line isn't taken
pub start_left : (lines : List (List ℕ)) (old new : Known) → IsLeft old new → IsStart lines old → IsStart lines new
start_left lines old new is start = left (start_folds lines old is.0 is.1 start) is.2
  where
    left : IsStart lines is.0 → IsStarved is.0 new → IsStart lines new
    left before (inl same) = subst (IsStart lines) (sym same) before
    left before (inr stale) = subst (IsStart lines) (sym stale) (stale_start lines is.0 before)

-- ---- the lines of a start, as `replay` answers them

all_legal : (centre : Known) (items : List Item) (read : List (List ℕ)) → AreAsked centre items read → AreLegal centre items
all_legal centre [] read are = tt
all_legal centre (item ∷ items) [] are = absurd are
all_legal centre (Entered e ∷ items) (octets ∷ read) are = (are.0.3, all_legal (with_entry e centre) items read are.1)
all_legal centre (Checkpoint ∷ items) (octets ∷ read) are = (tt, all_legal (checkpointed centre) items read are.1)

answered_asked : (centre : Known) (s : SessionState) → Mirrors centre s → (item : Item) (octets : List ℕ) → AsksFor centre item octets → Answers s (without_return octets) (item_answer centre item) (session_then s item)
answered_asked centre s m (Entered e) octets is =
    answered_entry centre s m e octets is.0 is.3 is.1 (comes_stands (generation_for (past centre) (link_of is.0)) (generation_of s.kept) is.0 e.event is.2)
answered_asked centre s m Checkpoint octets is = answered_checkpoint centre s m octets is

legal_of : (centre : Known) (item : Item) (octets : List ℕ) → AsksFor centre item octets → IsLegalItem centre item
legal_of centre (Entered e) octets is = is.3
legal_of centre Checkpoint octets is = tt

short_line : (octets : List ℕ) → IsShortLine octets → length (without_return octets) ≤ longest_line
short_line octets is = omega (arith, return_shorter octets, is.1)

told_asked : (centre : Known) (s : SessionState) → Mirrors centre s → (items : List Item) (read : List (List ℕ)) → AreAsked centre items read → AllByRecursion IsShortLine read
    → IsText s read (session_of s items) (text_of centre items)
told_asked centre s m [] [] are short = (refl, refl)
told_asked centre s m [] (octets ∷ read) are short = absurd are
told_asked centre s m (item ∷ items) [] are short = absurd are
told_asked centre s m (item ∷ items) (octets ∷ read) are short = (
  item_answer centre item,
  session_then s item,
  text_of (after_item item centre) items,
  short_line octets short.0,
  answered_asked centre s m item octets are.0,
  told_asked (after_item item centre) (session_then s item) (mirrors_then centre s m item (legal_of centre item octets are.0)) items read are.1 short.1,
  refl,
)

-- the lines with folds between are short too
short_read : (lines read : List (List ℕ)) → WithFolds lines read → AllByRecursion IsShortLine lines → AllByRecursion IsShortLine read
short_read lines [] is short = tt
short_read lines (octets ∷ read) (inl is) short =
    (subst IsShortLine (sym is.0) (has_none 10 31 (codes "checkpoint") (omega arith) refl, omega arith), short_read lines read is.1 short)
short_read lines (octets ∷ read) (inr is) short =
    let both = subst (AllByRecursion IsShortLine) is.1 short in (both.0, short_read is.0 read is.2 both.1)

singles : (read : List (List ℕ)) → AllByRecursion IsShortLine read → AllByRecursion (HasNone 10) read
singles [] short = tt
singles (octets ∷ read) short = (short.0.0, singles read short.1)

pub start_is_replayed : StartIsReplayed
start_is_replayed lines centre short start =
    let network = centre.settings.network in
    let limit = centre.settings.limit in
    let begin = new_session network limit in
    let mirrors = mirrors_new network limit in
    let session = session_of begin start.items in
    let text = answers_text network limit start.items in
    let each = short_read lines start.read start.folds short in
    let whole : IsText begin (start.read ++ [] ∷ []) session (text ++ []) =
    text_append Answers begin session session start.read ([] ∷ []) text [] (told_asked (fresh centre) begin mirrors start.items start.read start.asked each) (told_nothing session) in
    record {
      items = start.items;
      read = start.read;
      folds = start.folds;
      session = session;
      told = subst (λ ls. IsText begin ls session text) (sym (lines_of_file start.read (singles start.read each))) (subst (λ t. IsText begin (start.read ++ [] ∷ []) session t) (append-nil text) whole);
      same = (mirrors_items (fresh centre) begin mirrors start.items (all_legal (fresh centre) start.items start.read start.asked)).same ∙ ap all_by_desk_1 (sym start.made);
    }
