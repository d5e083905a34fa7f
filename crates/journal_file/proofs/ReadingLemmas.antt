-- A journal's file that is read line by line.
use Rattle.std.proofs.Common.{◌≡◌, ◌⊎◌, inl, inr, ℕ, ◌+◌, ◌*◌, ◌<◌, ◌≤◌, false, not, List, [], ◌∷◌, ◌++◌, length, drop, Option, Some, None, refl, sym, ap, ◌∙◌, subst, arith, append_assoc, append-nil, length-append}
use Rattle.std.proofs.KnownBytes.{Consumes-kept, Consumes-nil, Consumes-trans}
use Rattle.std.specs.Io.KnownBytes.{Consumes, IsAtEnd, Keeps}
use Rattle.std.specs.List.{AllByRecursion}
use Rattle.std.proofs.lemmas.List.Elements.{filter-append}
use Rattle.journal_file.specs.Lines.{HasNoEnd, IsLine, is_comment, longest_line, line_octets, lines_octets, kept_of, without_comments}
use Rattle.journal_file.specs.First.{header_line, with_broadcasts, IsHeader, IsOfOtherNetwork, IsOfOtherBroadcasts, IsTornHeader}
use Rattle.journal_file.specs.Loading.{LoadingState, nothing_yet, TakesLine, TakesNone}
use Rattle.journal_file.specs.Loads.{TakesLines, Passes, BeginsWithHeader, BeginsWithLine, MayBegin, Loads, Stops, BreaksOff}
use Rattle.journal_file.specs.Reading.{PassesOne, IsFault, StopsAt, Passing, Breaking, ReadsOn, Finds, FindsNone}
use Rattle.journal_file.specs.declared.heading.Heading.{Heading}
use Rattle.journal_file.specs.declared.loaded.Loaded.{Loaded}
use Rattle.journal_file.specs.declared.load_fault.LoadFault.{LoadFault}
use Rattle.journal_file.specs.declared.load_fault.LoadFault.TheVariants.{ReadFault, Memory, NotJournal, OtherNetwork, OtherBroadcasts, LongLine, BadLine}
use Rattle.journal_file.proofs.FirstLemmas.{length-header_line}
use Rattle.journal_file.proofs.LineLemmas.{HasNoEnd-nil, HasNoEnd-append, one_line_more, behind_line, AllByRecursion-append, kept_of-append, kept_of-nil, kept_short, length-kept_of}

-- no line is taken
pub TakesLines-nothing : (a : Option (List (List ℕ))) → TakesLines a a []
TakesLines-nothing None = tt
TakesLines-nothing (Some old) = sym (append-nil old)

pub TakesLines-trans : (a b c : Option (List (List ℕ))) (xs ys : List (List ℕ)) → TakesLines a b xs → TakesLines b c ys → TakesLines a c (xs ++ ys)
TakesLines-trans None b c xs ys p q = tt
TakesLines-trans (Some a) None c xs ys p q = absurd p
TakesLines-trans (Some a) (Some b) None xs ys p q = absurd q
TakesLines-trans (Some a) (Some b) (Some c) xs ys p q = q ∙ ap (λ s. s ++ ys) p ∙ append_assoc a xs ys

-- and none after some
TakesLines-kept : (a b c : Option (List (List ℕ))) (xs : List (List ℕ)) → TakesLines a b xs → TakesLines b c [] → TakesLines a c xs
TakesLines-kept a b c xs p q = subst (TakesLines a c) (append-nil xs) (TakesLines-trans a b c xs [] p q)

-- what is kept of a line that is short enough is all of it
pub whole_line : (line : List ℕ) → length (kept_of line) ≤ longest_line → line ≡ kept_of line
whole_line line fits = sym (kept_short line (omega (arith, length-kept_of line)))

-- a line of which too much is kept is too long
long_line : (line : List ℕ) → longest_line < length (kept_of line) → longest_line < length line
long_line line long = omega (arith, length-kept_of line)

-- a header is short enough
header_fits : (line : List ℕ) → IsHeader line → length line ≤ 600001
header_fits line h = omega (arith, ap length h.2, length-header_line h.0 h.1)

kept_header : (line : List ℕ) → IsHeader line → IsHeader (kept_of line)
kept_header line h = subst IsHeader (sym (kept_short line (header_fits line h))) h

whole_header : (line : List ℕ) → IsHeader (kept_of line) → line ≡ kept_of line
whole_header line h = whole_line line (omega (arith, ap length h.2, length-header_line h.0 h.1))

-- nothing came yet
pub Passing-start : (heading : Heading) (a : Option (List (List ℕ))) → Passing heading [] nothing_yet a a
Passing-start heading a = record {
  lines = [];
  rest = [];
  passed = record { whole = refl; each = tt; first = tt; taken = TakesLines-nothing a };
  open_end = HasNoEnd-nil;
  held = sym kept_of-nil;
  begun = refl;
  ended = refl;
  octets_are = refl;
}

-- more octets behind lines that passed
Passes-more : (heading : Heading) (octets more : List ℕ) (lines : List (List ℕ)) (behind : List ℕ) (a b c : Option (List (List ℕ))) → Passes heading octets lines behind a b → TakesLines b c []
    → Passes heading (octets ++ more) lines (behind ++ more) a c
Passes-more heading octets more lines behind a b c passed none = record {
  whole = ap (λ s. s ++ more) passed.whole ∙ append_assoc (lines_octets lines) behind more;
  each = passed.each;
  first = passed.first;
  taken = TakesLines-kept a b c (without_comments (drop 1 lines)) passed.taken none;
}

-- a line ends and passes
module _ (heading : Heading) (octets rest run : List ℕ) (a b c : Option (List (List ℕ))) (number : ℕ) (kept : List ℕ) (none : HasNoEnd (rest ++ run)) (kept_is : kept ≡ kept_of (rest ++ run)) where
  whole_of : length kept ≤ longest_line → (rest ++ run ≡ kept) × IsLine (rest ++ run)
  whole_of fits =
      let same : rest ++ run ≡ kept_of (rest ++ run) = whole_line (rest ++ run) (omega (arith, ap length kept_is)) in
      (same ∙ sym kept_is, (none, omega (arith, ap length same, ap length kept_is)))

  whole_text : (lines : List (List ℕ)) → octets ≡ lines_octets lines ++ rest → octets ++ (run ++ 10 ∷ []) ≡ lines_octets (lines ++ (rest ++ run) ∷ []) ++ []
  whole_text lines whole =
      ap (λ s. s ++ (run ++ 10 ∷ [])) whole ∙ append_assoc (lines_octets lines) rest (run ++ 10 ∷ [])
      ∙ ap (λ s. lines_octets lines ++ s) (sym (append_assoc rest run (10 ∷ []))) ∙ one_line_more lines (rest ++ run) []

  Passes-line : (lines : List (List ℕ)) → Passes heading octets lines rest a b → number ≡ length lines + 1 → PassesOne heading number kept b c
      → Passes heading (octets ++ (run ++ 10 ∷ [])) (lines ++ (rest ++ run) ∷ []) [] a c
  Passes-line [] passed is one =
      let first = one.first (omega (arith, is)) in
      let line = whole_of first.1 in
      record {
        whole = whole_text [] passed.whole;
        each = (line.1, tt);
        first = line.0 ∙ first.0;
        taken = TakesLines-kept a b c [] passed.taken first.2;
      }
  Passes-line (first ∷ lines) passed is one =
      let other = one.other (omega (arith, is)) in
      let line = whole_of other.0 in
      record {
        whole = whole_text (first ∷ lines) passed.whole;
        each = AllByRecursion-append IsLine (first ∷ lines) ((rest ++ run) ∷ []) passed.each (line.1, tt);
        first = passed.first;
        taken =
            subst (TakesLines a c) (sym (filter-append (λ ln. not (is_comment ln)) lines ((rest ++ run) ∷ [])))
            (TakesLines-trans a b c (without_comments lines) (without_comments ((rest ++ run) ∷ [])) passed.taken
            (subst (λ s. TakesLines b c (without_comments (s ∷ []))) (sym line.0) other.1));
      }

  -- it doesn't
  no_lines : (lines : List (List ℕ)) → number ≡ length lines + 1 → number ≤ 1 → lines ≡ []
  no_lines [] is first = refl
  no_lines (line ∷ lines) is first = absurd (omega (arith, is))

  Stops-line : (behind : List ℕ) (lines : List (List ℕ)) (fault : LoadFault) → number ≡ length lines + 1 → IsFault heading number kept fault → Stops heading lines (rest ++ (run ++ 10 ∷ behind)) fault
  Stops-line behind lines fault is at =
      let begins : BeginsWithLine (rest ++ (run ++ 10 ∷ behind)) (rest ++ run) =
      record { behind = behind; whole = sym (append_assoc rest run (10 ∷ behind)) ∙ sym (behind_line (rest ++ run) behind); none = none } in
      go fault at begins
    where
      go : (fault : LoadFault) → IsFault heading number kept fault → BeginsWithLine (rest ++ (run ++ 10 ∷ behind)) (rest ++ run) → Stops heading lines (rest ++ (run ++ 10 ∷ behind)) fault
      go ReadFault at begins = absurd at
      go Memory at begins = tt
      go NotJournal at begins = (no_lines lines is at.0, inl (rest ++ run, begins, λ h. at.1 (subst IsHeader (sym kept_is) (kept_header (rest ++ run) h))))
      go OtherNetwork at begins =
          let header : IsHeader kept = (at.1.0, at.1.1, at.1.2) in
          let same : rest ++ run ≡ kept = whole_header (rest ++ run) (subst IsHeader kept_is header) ∙ sym kept_is in
          (no_lines lines is at.0, (rest ++ run, begins, subst (IsOfOtherNetwork heading) (sym same) at.1))
      go (OtherBroadcasts found asked) at begins =
          let header : IsHeader kept = (with_broadcasts found heading, at.2.0, at.2.1) in
          let same : rest ++ run ≡ kept = whole_header (rest ++ run) (subst IsHeader kept_is header) ∙ sym kept_is in
          (no_lines lines is at.0, at.1, (rest ++ run, begins, subst (λ line. IsOfOtherBroadcasts heading line found) (sym same) at.2))
      go (LongLine n) at begins = (at.0 ∙ is, (rest ++ run, begins, long_line (rest ++ run) (omega (arith, at.2, ap length kept_is))))
      go (BadLine n) at begins = let line = whole_of at.2 in (at.0 ∙ is, (rest ++ run, begins, line.1.1, ap is_comment line.0 ∙ at.3))

-- a line of a piece passes
pub Passing-line : (heading : Heading) (octets : List ℕ) (a b c : Option (List (List ℕ))) (old new : LoadingState) (piece line behind : List ℕ) (takes : TakesLine old piece new line behind)
    → Passing heading octets old a b → PassesOne heading new.ended line b c → Passing heading (octets ++ (takes.run ++ 10 ∷ [])) new a c
Passing-line heading octets a b c old new piece line behind takes passing one =
    let run = takes.run in
    let rest = passing.rest in
    let none : HasNoEnd (rest ++ run) = HasNoEnd-append rest run passing.open_end takes.none in
    let kept_is : line ≡ kept_of (rest ++ run) = takes.line_is ∙ ap (λ s. kept_of (s ++ run)) passing.held ∙ kept_of-append rest run in
    let number : new.ended ≡ length passing.lines + 1 = omega (arith, ap (λ (s : LoadingState). s.ended) takes.state, passing.ended) in
    let passed = Passes-line heading octets rest run a b c new.ended line none kept_is passing.lines passing.passed number one in
    subst (λ (s : LoadingState). Passing heading (octets ++ (run ++ 10 ∷ [])) s a c) (sym takes.state) (record {
      lines = passing.lines ++ (rest ++ run) ∷ [];
      rest = [];
      passed = passed;
      open_end = HasNoEnd-nil;
      held = sym kept_of-nil;
      begun = refl;
      ended = omega (arith, passing.ended, length-append passing.lines ((rest ++ run) ∷ []));
      octets_are = omega (arith, passing.octets_are, length-append octets (run ++ 10 ∷ []), length-append run (10 ∷ []));
    })

-- or doesn't
pub Breaking-line : (heading : Heading) (octets : List ℕ) (a b c : Option (List (List ℕ))) (old new : LoadingState) (piece line behind : List ℕ) (fault : LoadFault) (takes : TakesLine old piece new line behind)
    → Passing heading octets old a b → StopsAt heading new.ended line b c fault → Breaking heading (octets ++ piece) a c fault
Breaking-line heading octets a b c old new piece line behind fault takes passing stops =
    let run = takes.run in
    let rest = passing.rest in
    let none : HasNoEnd (rest ++ run) = HasNoEnd-append rest run passing.open_end takes.none in
    let kept_is : line ≡ kept_of (rest ++ run) = takes.line_is ∙ ap (λ s. kept_of (s ++ run)) passing.held ∙ kept_of-append rest run in
    let number : new.ended ≡ length passing.lines + 1 = omega (arith, ap (λ (s : LoadingState). s.ended) takes.state, passing.ended) in
    let at = Stops-line heading octets rest run a b c new.ended line none kept_is behind passing.lines fault number stops.fault_is in
    record {
      lines = passing.lines;
      behind = rest ++ piece;
      passed = Passes-more heading octets piece passing.lines rest a b c passing.passed stops.none;
      stops = subst (λ s. Stops heading passing.lines (rest ++ s) fault) (sym takes.cut) at;
    }

-- no line ends in a piece
pub Passing-run : (heading : Heading) (octets : List ℕ) (a b : Option (List (List ℕ))) (old new : LoadingState) (piece : List ℕ) → Passing heading octets old a b → TakesNone old piece new
    → Passing heading (octets ++ piece) new a b
Passing-run heading octets a b old new piece passing takes =
    subst (λ (s : LoadingState). Passing heading (octets ++ piece) s a b) (sym takes.1) (record {
      lines = passing.lines;
      rest = passing.rest ++ piece;
      passed = Passes-more heading octets piece passing.lines passing.rest a b b passing.passed (TakesLines-nothing b);
      open_end = HasNoEnd-append passing.rest piece passing.open_end takes.0;
      held = ap (λ s. kept_of (s ++ piece)) passing.held ∙ kept_of-append passing.rest piece;
      begun = omega (arith, passing.begun, length-append passing.rest piece);
      ended = passing.ended;
      octets_are = omega (arith, passing.octets_are, length-append octets piece);
    })

-- there is no memory for a piece
pub Breaking-memory : (heading : Heading) (octets more : List ℕ) (a b : Option (List (List ℕ))) (old : LoadingState) → Passing heading octets old a b → Breaking heading (octets ++ more) a b Memory
Breaking-memory heading octets more a b old passing = record {
  lines = passing.lines;
  behind = passing.rest ++ more;
  passed = Passes-more heading octets more passing.lines passing.rest a b b passing.passed (TakesLines-nothing b);
  stops = tt;
}

-- a source gives more octets, whose lines pass
pub ReadsOn-more : (heading : Heading) (given mid left : Option (List ℕ)) (a b c : Option (List (List ℕ))) (old new : LoadingState) (piece : List ℕ)
    → ReadsOn heading given mid old a b → Consumes mid left piece
    → ((octets : List ℕ) (before : Option (List (List ℕ))) → Passing heading octets old before b → Passing heading (octets ++ piece) new before c) → ReadsOn heading given left new a c
ReadsOn-more heading given mid left a b c old new piece reads consumed more = record {
  octets = reads.octets ++ piece;
  consumed = Consumes-trans given mid left reads.octets piece reads.consumed consumed;
  passing = more reads.octets a reads.passing;
}

-- or don't
pub BreaksOff-more : (heading : Heading) (given mid left : Option (List ℕ)) (a b c : Option (List (List ℕ))) (old : LoadingState) (piece : List ℕ) (fault : LoadFault)
    → ReadsOn heading given mid old a b → Consumes mid left piece
    → ((octets : List ℕ) (before : Option (List (List ℕ))) → Passing heading octets old before b → Breaking heading (octets ++ piece) before c fault) → BreaksOff heading given left a c fault
BreaksOff-more heading given mid left a b c old piece fault reads consumed more =
    let breaking = more reads.octets a reads.passing in
    record {
      octets = reads.octets ++ piece;
      lines = breaking.lines;
      behind = breaking.behind;
      consumed = Consumes-trans given mid left reads.octets piece reads.consumed consumed;
      passed = breaking.passed;
      stops = breaking.stops;
    }

-- a fault behind all octets that came
BreaksOff-here : (heading : Heading) (given left : Option (List ℕ)) (a b : Option (List (List ℕ))) (now : LoadingState) (fault : LoadFault) (reads : ReadsOn heading given left now a b)
    → Stops heading reads.passing.lines reads.passing.rest fault → BreaksOff heading given left a b fault
BreaksOff-here heading given left a b now fault reads stops = record {
  octets = reads.octets;
  lines = reads.passing.lines;
  behind = reads.passing.rest;
  consumed = reads.consumed;
  passed = reads.passing.passed;
  stops = stops;
}

-- so many reads came to no end
pub BreaksOff-unended : (heading : Heading) (given left : Option (List ℕ)) (a b : Option (List (List ℕ))) (now : LoadingState) → ReadsOn heading given left now a b → BreaksOff heading given left a b ReadFault
BreaksOff-unended heading given left a b now reads = BreaksOff-here heading given left a b now ReadFault reads tt

-- a read failed
pub BreaksOff-read : (heading : Heading) (given mid left : Option (List ℕ)) (a b : Option (List (List ℕ))) (now : LoadingState) → ReadsOn heading given mid now a b → Keeps mid left
    → BreaksOff heading given left a b ReadFault
BreaksOff-read heading given mid left a b now reads kept =
    BreaksOff-here heading given left a b now ReadFault (record { octets = reads.octets; consumed = Consumes-kept given mid left reads.octets reads.consumed kept; passing = reads.passing }) tt

-- nothing is read yet
pub ReadsOn-start : (heading : Heading) (given : Option (List ℕ)) (a : Option (List (List ℕ))) → ReadsOn heading given given nothing_yet a a
ReadsOn-start heading given a = record { octets = []; consumed = Consumes-nil given; passing = Passing-start heading a }

-- there was no memory to read with
pub BreaksOff-starved : (heading : Heading) (given : Option (List ℕ)) (a : Option (List (List ℕ))) → BreaksOff heading given given a a Memory
BreaksOff-starved heading given a = BreaksOff-here heading given given a a nothing_yet Memory (ReadsOn-start heading given a) tt

-- all was read
module _ (heading : Heading) (given left : Option (List ℕ)) (a b : Option (List (List ℕ))) (now : LoadingState) (reads : ReadsOn heading given left now a b) where
  may_begin : (lines : List (List ℕ)) → now.ended ≡ length lines → (now.ended ≡ 0 → IsTornHeader heading now.held × (length now.held ≤ longest_line)) → MayBegin heading lines reads.passing.rest
  may_begin [] is begins =
      let torn = begins is in
      let same : reads.passing.rest ≡ now.held = whole_line reads.passing.rest (omega (arith, torn.1, ap length reads.passing.held)) ∙ sym reads.passing.held in
      (subst (IsTornHeader heading) (sym same) torn.0, omega (arith, torn.1, ap length same))
  may_begin (first ∷ lines) is begins = tt

  pub Loads-end : (loaded : Loaded) → IsAtEnd left → Finds heading now loaded → Loads heading given left a b loaded
  Loads-end loaded ended finds = record {
    octets = reads.octets;
    lines = reads.passing.lines;
    rest = reads.passing.rest;
    consumed = reads.consumed;
    ended = ended;
    passed = reads.passing.passed;
    open_end = reads.passing.open_end;
    begun = may_begin reads.passing.lines reads.passing.ended finds.begins;
    lines_is = finds.lines_is ∙ reads.passing.ended;
    torn_is = finds.torn_is ∙ reads.passing.begun;
    whole_is = omega (arith, finds.whole_is, reads.passing.begun, reads.passing.octets_are);
  }

  none_ended : (lines : List (List ℕ)) → now.ended ≡ length lines → now.ended ≡ 0 → lines ≡ []
  none_ended [] is none = refl
  none_ended (line ∷ lines) is none = absurd (omega (arith, is, none))

  -- and it is no journal
  pub BreaksOff-end : (fault : LoadFault) → FindsNone heading now fault → BreaksOff heading given left a b fault
  BreaksOff-end fault finds =
      let stops : Stops heading reads.passing.lines reads.passing.rest NotJournal = (
        none_ended reads.passing.lines reads.passing.ended finds.none_ended,
        inr (
          reads.passing.open_end,
          λ torn.
              let same : now.held ≡ reads.passing.rest = reads.passing.held ∙ kept_short reads.passing.rest (omega (arith, torn.1)) in
              finds.no_header (subst (IsTornHeader heading) (sym same) torn.0, omega (arith, torn.1, ap length same)),
        ),
      ) in
      subst (BreaksOff heading given left a b) (sym finds.fault_is) (BreaksOff-here heading given left a b now NotJournal reads stops)
