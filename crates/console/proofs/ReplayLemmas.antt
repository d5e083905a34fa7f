-- A whole run.
use Rattle.std.proofs.Common.{◌≡◌, ◌⊎◌, inl, inr, ℕ, ◌+◌, true, false, Option, Some, None, List, [], ◌∷◌, ◌++◌, refl, sym, ap, ◌∙◌, subst, append_assoc, append-nil, take, arith}
use Rattle.std.specs.Bool.{MatchBool}
use Rattle.std.specs.Prelude.{IsSomeAnd}
use Rattle.std.proofs.KnownBytes.{Appends-trans, Consumes-nil, Consumes-trans}
use Rattle.std.specs.Io.KnownBytes.{Appends, Consumes, IsAtEnd}
use Rattle.framing.specs.Source.{counted}
use Rattle.cbsp_messages.specs.declared.message_type.MessageType.{MessageType}
use Rattle.centre_events.specs.declared.event.Event.{Event}
use Rattle.centre_events.specs.declared.event.Event.TheVariants as event
use Rattle.centre_events.specs.declared.refusal.Refusal.TheVariants as refusal
use Rattle.console.specs.Consoles.{ConsoleState, EndsLine, BreaksInLine, BreaksLine, Stops, Reads, ReadsAndStops, IsWritten}
use Rattle.console.specs.Generations.{generation_of}
use Rattle.console_text.specs.Grammar.{line_of}
use Rattle.console_text.specs.HexText.{octets_of}
use Rattle.console.specs.Replays.{IsLeft, MeetsWant, Replays, BreaksOff}
use Rattle.console.specs.Sessions.{SessionState, Says, event_of, Responds, RespondsOrStarves, StarvesAt, BodyStarves, OctetsStarve, Starves, AnswersLine, AnswersWords, AnswersOrStarves, LineStarves}
use Rattle.console_text.specs.Words.{is_comment}
use Rattle.cbsp_messages.specs.MessageType.{report_type}
use Rattle.console.specs.Text.{IsText, IsTextOrStarves}
use Rattle.console_text.specs.Lines.{lines_from, lines_of, without_return}
use Rattle.console_text.specs.Texts.{response_text, refused_text}
use Rattle.console_text.specs.Words.{words_of}
use Rattle.console_text.specs.declared.fault.ReplayFault.{ReplayFault}
use Rattle.console_text.specs.declared.fault.ReplayFault.TheVariants.{ReadFault, WriteFault, Memory, LongLine}
use Rattle.console_text.specs.declared.line.Line.{Line}
use Rattle.console_text.specs.declared.line.Line.TheVariants as request
use Rattle.console_text.specs.declared.response.Response.{Response}
use Rattle.console_text.specs.declared.response.Response.TheVariants as response
use Rattle.console_text.proofs.PartLemmas.{lines_from_start}
use Rattle.console.proofs.StopLemmas.{goes_stops, written_after}
use Rattle.console.proofs.TextLemmas.{text_append, goes_goes, goes_nowhere}

-- that memory ran out is the answer to an event
event_starved : (old : SessionState) (e : Event) (r : Response) (new : SessionState) → StarvesAt old e r new → r ≡ response.Refused refusal.Memory
event_starved old e r new (may, inl same) = same.0
event_starved old e r new (may, inr left) = left.0

some_starved : (old : SessionState) (e : Option Event) (r : Response) (new : SessionState) → IsSomeAnd e (λ e. StarvesAt old e r new) → r ≡ response.Refused refusal.Memory
some_starved old None r new h = absurd h
some_starved old (Some e) r new h = event_starved old e r new h

-- and to a report
body_starved : (old : SessionState) (b : ℕ) (body : List ℕ) (t : Option MessageType) (r : Response) (new : SessionState)
    → IsSomeAnd t (λ t. BodyStarves old b t body r new) → r ≡ response.Refused refusal.Memory
body_starved old b body None r new h = absurd h
body_starved old b body (Some t) r new (inl same) = same.0
body_starved old b body (Some t) r new (inr at) = event_starved old (event.Report b (generation_of old.kept b) at.0) r new at.2

octets_starved : (old : SessionState) (b : ℕ) (octets : Option (List ℕ)) (r : Response) (new : SessionState)
    → IsSomeAnd octets (λ xs. OctetsStarve old b xs r new) → r ≡ response.Refused refusal.Memory
octets_starved old b None r new h = absurd h
octets_starved old b (Some xs) r new h = body_starved old b h.0.body (report_type h.0.kind) r new h.2

-- and so to every line
line_starved : (old : SessionState) (l : Line) (r : Response) (new : SessionState) → Starves old l r new → r ≡ response.Refused refusal.Memory
line_starved old (request.Report b text) r new h = octets_starved old b (octets_of text) r new h
line_starved old (request.Pending b) r new h = h.2.0
line_starved old (request.Table b) r new h = h.2.0
line_starved old request.Rebuild r new h = h.0
line_starved old request.Checkpoint r new h = h.1.0
line_starved old l r new h = some_starved old (event_of old l) r new h

-- a line has its answer, or memory ran out where it may be
line_or_want : (old : SessionState) (l : Option Line) (r : Response) (new : SessionState) → AnswersLine RespondsOrStarves old l r new
    → AnswersLine Responds old l r new ⊎ (AnswersLine Starves old l r new × (r ≡ response.Refused refusal.Memory))
line_or_want old None r new h = inl h
line_or_want old (Some l) r new h = elim h [ inl answered ↦ inl answered | inr want ↦ inr (want, line_starved old l r new want) ]

words_or_want : (old : SessionState) (words : List (List ℕ)) (r : Response) (new : SessionState) → AnswersWords RespondsOrStarves old words r new
    → AnswersWords Responds old words r new ⊎ (AnswersWords Starves old words r new × (r ≡ response.Refused refusal.Memory))
words_or_want old [] r new h = inl h
words_or_want old (first ∷ words) r new h =
    elim (is_comment first) as (λ b. MatchBool b (Says old response.Silence r new) (AnswersLine RespondsOrStarves old (line_of (first ∷ words)) r new)
    → MatchBool b (Says old response.Silence r new) (AnswersLine Responds old (line_of (first ∷ words)) r new)
    ⊎ (MatchBool b (Says old response.Silence r new) (AnswersLine Starves old (line_of (first ∷ words)) r new) × (r ≡ response.Refused refusal.Memory))) [
      | true ↦ λ same. inl same
      | false ↦ λ answered. line_or_want old (line_of (first ∷ words)) r new answered
    ] h

-- the lines have their text, or memory ran out for one of them
pub text_or_want : (old : SessionState) (lines : List (List ℕ)) (new : SessionState) (text : List ℕ) → IsTextOrStarves old lines new text
    → IsText old lines new text ⊎ MeetsWant old lines new text
text_or_want old [] new text told = inl told
text_or_want old (line ∷ lines) new text told =
    elim (words_or_want old (words_of (without_return line)) told.0 told.1 told.4) [
      | inl answered ↦
          elim (text_or_want told.1 lines new told.2 told.5) [
            | inl exact ↦ inl (told.0, told.1, told.2, told.3, answered, exact, told.6)
            | inr want ↦ inr (record {
              front = line ∷ want.front;
              line = want.line;
              back = want.back;
              session = want.session;
              after = want.after;
              answered = response_text told.0 ++ want.answered;
              rest = want.rest;
              cut = ap (λ ls. line ∷ ls) want.cut;
              told = (told.0, told.1, want.answered, told.3, answered, want.told, refl);
              short = want.short;
              starved = want.starved;
              more = want.more;
              text_is = told.6 ∙ ap (λ t. response_text told.0 ++ t) want.text_is ∙ sym (append_assoc (response_text told.0) want.answered (refused_text refusal.Memory ++ want.rest));
            })
          ]
      | inr starved ↦ inr (record {
        front = [];
        line = line;
        back = lines;
        session = old;
        after = told.1;
        answered = [];
        rest = told.2;
        cut = refl;
        told = (refl, refl);
        short = told.3;
        starved = subst (λ r. LineStarves old (without_return line) r told.1) starved.1 starved.0;
        more = told.5;
        text_is = told.6 ∙ ap (λ r. response_text r ++ told.2) starved.1;
      })
    ]

-- nothing is read yet
pub reads_nothing : (a : ConsoleState) (g p : Option (List ℕ)) → Reads a a g g p p
reads_nothing a g p = record { octets = []; consumed = Consumes-nil g; goes = goes_nowhere a p }

-- one more piece
pub reads_more : (a b c : ConsoleState) (g h k p q r : Option (List ℕ)) → Reads a b g h p q → Reads b c h k q r → Reads a c g k p r
reads_more a b c g h k p q r one two = record {
  octets = one.octets ++ two.octets;
  consumed = Consumes-trans g h k one.octets two.octets one.consumed two.consumed;
  goes = goes_goes a b c one.octets two.octets p q r one.goes two.goes;
}

module _ (a b : ConsoleState) (g h p q : Option (List ℕ)) (fresh : a.begun ≡ []) (reads : Reads a b g h p q) where
  -- the lines that have ended, and the one that has begun
  lines_end : lines_of reads.octets ≡ reads.goes.lines ++ b.begun ∷ []
  lines_end =
      sym (lines_from_start reads.octets) ∙ ap (λ begun. lines_from begun reads.octets) (sym fresh) ∙ ap (λ octets. lines_from a.begun octets) (sym (append-nil reads.octets)) ∙ reads.goes.cut []
      ∙ ap (λ begun. reads.goes.lines ++ begun ∷ []) (append-nil b.begun)

  -- the input ends, and its last line is answered
  pub replays : (c : ConsoleState) (r : Option (List ℕ)) → IsAtEnd h → EndsLine b c q r → Replays a.session g h p r
  replays c r ended ends =
      let last : IsTextOrStarves b.session (b.begun ∷ []) c.session (response_text ends.response) =
      (ends.response, c.session, [], ends.short, ends.answered, (refl, refl), sym (append-nil (response_text ends.response))) in
      let whole : IsTextOrStarves a.session (reads.goes.lines ++ b.begun ∷ []) c.session (reads.goes.text ++ response_text ends.response) =
      text_append AnswersOrStarves a.session b.session c.session reads.goes.lines (b.begun ∷ []) reads.goes.text (response_text ends.response) reads.goes.told last in
      record {
        octets = reads.octets;
        session = c.session;
        text = reads.goes.text ++ response_text ends.response;
        consumed = reads.consumed;
        ended = ended;
        told = text_or_want a.session (lines_of reads.octets) c.session (reads.goes.text ++ response_text ends.response)
            (subst (λ lines. IsTextOrStarves a.session lines c.session (reads.goes.text ++ response_text ends.response)) (sym lines_end) whole);
        written = Appends-trans p q r reads.goes.text (response_text ends.response) reads.goes.written ends.written;
      }

  -- a fault before the line that has begun is answered; no octets are read before it
  breaks_before : (k r : Option (List ℕ)) (fault : ReplayFault) → Consumes h k [] → r ≡ q → IsLeft fault (b.begun ∷ []) → IsWritten fault reads.goes.text reads.goes.text
      → BreaksOff a.session g k p r fault
  breaks_before k r fault none same left written = record {
    octets = reads.octets;
    lines = reads.goes.lines;
    back = b.begun ∷ [];
    session = b.session;
    text = reads.goes.text;
    part = reads.goes.text;
    consumed = subst (λ octets. Consumes g k octets) (append-nil reads.octets) (Consumes-trans g h k reads.octets [] reads.consumed none);
    cut = lines_end;
    behind = left;
    told = text_or_want a.session reads.goes.lines b.session reads.goes.text reads.goes.told;
    written = written;
    appended = subst (λ after. Appends p after reads.goes.text) (sym same) reads.goes.written;
  }

  -- so many reads came to no end
  pub breaks_unended : BreaksOff a.session g h p q ReadFault
  breaks_unended = breaks_before h q ReadFault (Consumes-nil h) refl refl refl

  -- a fault at the octets that are read next
  pub breaks_reading : (k r : Option (List ℕ)) (fault : ReplayFault) → ReadsAndStops b h k q r fault → BreaksOff a.session g k p r fault
  breaks_reading k r ReadFault next = let none = next.unread refl in breaks_before k r ReadFault none.0 none.1 refl refl
  breaks_reading k r fault next =
      let stops : Stops a (reads.octets ++ next.octets) p r fault = goes_stops a b reads.octets next.octets p q r fault reads.goes next.stops in
      let back = stops.cut [] in
      record {
        octets = reads.octets ++ next.octets;
        lines = stops.lines;
        back = back.0;
        session = stops.session;
        text = stops.text;
        part = stops.part;
        consumed = Consumes-trans g h k reads.octets next.octets reads.consumed next.consumed;
        cut =
            sym (lines_from_start (reads.octets ++ next.octets)) ∙ ap (λ begun. lines_from begun (reads.octets ++ next.octets)) (sym fresh)
            ∙ ap (λ octets. lines_from a.begun octets) (sym (append-nil (reads.octets ++ next.octets))) ∙ back.1;
        behind = back.2;
        told = text_or_want a.session stops.lines stops.session stops.text stops.told;
        written = stops.written;
        appended = stops.appended;
      }

  -- the last line is answered in part
  breaks_in_last : (r : Option (List ℕ)) → BreaksInLine b q r → BreaksOff a.session g h p r WriteFault
  breaks_in_last r breaks =
      let text = response_text breaks.response in
      let last : IsTextOrStarves b.session (b.begun ∷ []) breaks.session text =
      (breaks.response, breaks.session, [], breaks.short, breaks.answered, (refl, refl), sym (append-nil text)) in
      let whole : IsTextOrStarves a.session (reads.goes.lines ++ b.begun ∷ []) breaks.session (reads.goes.text ++ text) =
      text_append AnswersOrStarves a.session b.session breaks.session reads.goes.lines (b.begun ∷ []) reads.goes.text text reads.goes.told last in
      record {
        octets = reads.octets;
        lines = reads.goes.lines ++ b.begun ∷ [];
        back = [];
        session = breaks.session;
        text = reads.goes.text ++ text;
        part = reads.goes.text ++ take breaks.written.count text;
        consumed = reads.consumed;
        cut = lines_end ∙ sym (append-nil (reads.goes.lines ++ b.begun ∷ []));
        behind = tt;
        told = text_or_want a.session (reads.goes.lines ++ b.begun ∷ []) breaks.session (reads.goes.text ++ text) whole;
        written = written_after WriteFault reads.goes.text text (take breaks.written.count text) (breaks.written.count, refl);
        appended = Appends-trans p q r reads.goes.text (take breaks.written.count text) reads.goes.written breaks.written.appended;
      }

  -- the last line is not answered, or not in full
  pub breaks_at_end : (r : Option (List ℕ)) (fault : ReplayFault) → BreaksLine b q r fault → BreaksOff a.session g h p r fault
  breaks_at_end r ReadFault breaks = absurd breaks
  breaks_at_end r WriteFault breaks = breaks_in_last r breaks
  breaks_at_end r Memory breaks = breaks_before h r Memory (Consumes-nil h) breaks tt refl
  breaks_at_end r LongLine breaks = breaks_before h r LongLine (Consumes-nil h) breaks.1 breaks.0 refl

-- one call more
pub counted_more : (n k : ℕ) → counted (counted n k) 1 ≡ counted n (k + 1)
counted_more n k = omega arith
