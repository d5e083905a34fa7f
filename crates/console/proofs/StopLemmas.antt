-- A run that a fault ends.
use Rattle.std.proofs.Common.{◌≡◌, ℕ, ◌+◌, ◌-◌, ◌<◌, ◌≤◌, true, false, cond, eqb, Option, List, [], ◌∷◌, ◌++◌, length, take, get_or, refl, sym, ap, ◌∙◌, subst, arith, append_assoc, append-nil, length-append}
use Rattle.std.proofs.lemmas.List.{length-take}
use Rattle.std.proofs.Math.Seq.{take-append-add}
use Rattle.std.proofs.KnownBytes.{Appends-nil, Appends-trans, Consumes-kept, Consumes-nil}
use Rattle.std.specs.Io.KnownBytes.{Appends, Keeps}
use Rattle.console.specs.Consoles.{ConsoleState, BreaksInLine, BreaksLine, Goes, Stops, BeginsLong, Behind, IsWritten, ReadsAndStops}
use Rattle.console.specs.Sessions.{AnswersOrStarves}
use Rattle.console_text.specs.Lines.{longest_line, without_return, lines_from, lines_of}
use Rattle.console_text.specs.Texts.{response_text}
use Rattle.console_text.specs.Parts.{in_front, HasNone}
use Rattle.console_text.specs.declared.fault.ReplayFault.{ReplayFault}
use Rattle.console_text.specs.declared.fault.ReplayFault.TheVariants.{ReadFault, WriteFault, Memory, LongLine}
use Rattle.console_text.proofs.PartLemmas.{line_ends, line_goes_on}
use Rattle.console.proofs.TextLemmas.{text_append, cut_behind}

-- at most one octet is dropped
length-without_return : (line : List ℕ) → length line ≤ length (without_return line) + 1
length-without_return line =
    elim (eqb (get_or line (length line - 1) 0) 13) as (λ b. length line ≤ length (cond b (take (length line - 1) line) line) + 1) [
      | true ↦ omega (arith, length-take (length line - 1) line)
      | false ↦ omega arith
    ]

-- a line that is too long before it ends is the first
pub begins_long : (begun octets : List ℕ) → longest_line + 1 < length begun → BeginsLong (lines_from begun octets)
begins_long begun octets long = go (lines_of octets)
  where
    go : (lines : List (List ℕ)) → BeginsLong (in_front begun lines)
    go [] = omega (arith, length-without_return begun)
    go (line ∷ lines) = omega (arith, length-without_return (begun ++ line), length-append begun line)

-- nothing is answered before the fault
stops_at_once : (a : ConsoleState) (octets : List ℕ) (p q : Option (List ℕ)) (fault : ReplayFault)
    → ((rest : List ℕ) → Behind fault (lines_from a.begun (octets ++ rest))) → IsWritten fault [] [] → q ≡ p → Stops a octets p q fault
stops_at_once a octets p q fault behind written same = record {
  lines = [];
  session = a.session;
  text = [];
  part = [];
  cut = λ rest. (lines_from a.begun (octets ++ rest), refl, behind rest);
  told = (refl, refl);
  written = written;
  appended = subst (λ after. Appends p after []) (sym same) (Appends-nil p);
}

-- the line ends, and its answer is written in part
stops_in_line : (a : ConsoleState) (p q : Option (List ℕ)) → BreaksInLine a p q → Stops a (10 ∷ []) p q WriteFault
stops_in_line a p q breaks = record {
  lines = a.begun ∷ [];
  session = breaks.session;
  text = response_text breaks.response;
  part = take breaks.written.count (response_text breaks.response);
  cut = λ rest. (lines_from [] rest, line_ends a.begun rest, tt);
  told = (breaks.response, breaks.session, [], breaks.short, breaks.answered, (refl, refl), sym (append-nil (response_text breaks.response)));
  written = (breaks.written.count, refl);
  appended = breaks.written.appended;
}

-- the line ends, and is not answered, or not in full
stops_at_line : (a : ConsoleState) (p q : Option (List ℕ)) (fault : ReplayFault) → BreaksLine a p q fault → Stops a (10 ∷ []) p q fault
stops_at_line a p q ReadFault breaks = absurd breaks
stops_at_line a p q WriteFault breaks = stops_in_line a p q breaks
stops_at_line a p q Memory breaks = stops_at_once a (10 ∷ []) p q Memory (λ rest. tt) refl breaks
stops_at_line a p q LongLine breaks = stops_at_once a (10 ∷ []) p q LongLine (λ rest. subst BeginsLong (sym (line_ends a.begun rest)) breaks.0) refl breaks.1

-- more octets make the line too long
pub stops_at_long : (a : ConsoleState) (run : List ℕ) (p : Option (List ℕ)) → HasNone 10 run → longest_line + 1 < length a.begun + length run → Stops a run p p LongLine
stops_at_long a run p none long =
    let more : longest_line + 1 < length (a.begun ++ run) = omega (arith, length-append a.begun run) in
    stops_at_once a run p p LongLine (λ rest. subst BeginsLong (sym (line_goes_on a.begun run rest none)) (begins_long (a.begun ++ run) rest more)) refl refl

-- there is no memory for more octets
pub stops_starved : (a : ConsoleState) (octets : List ℕ) (p : Option (List ℕ)) → Stops a octets p p Memory
stops_starved a octets p = stops_at_once a octets p p Memory (λ rest. tt) refl refl

-- what was written before a fault, behind other answers
pub written_after : (fault : ReplayFault) (s text part : List ℕ) → IsWritten fault text part → IsWritten fault (s ++ text) (s ++ part)
written_after ReadFault s text part same = ap (λ t. s ++ t) same
written_after WriteFault s text part front =
    (length s + front.0, ap (λ t. s ++ t) front.1 ∙ sym (take-append-add s text front.0))
written_after Memory s text part same = ap (λ t. s ++ t) same
written_after LongLine s text part same = ap (λ t. s ++ t) same

-- some octets, and those at which a fault ends the run
pub goes_stops : (a b : ConsoleState) (xs ys : List ℕ) (p q r : Option (List ℕ)) (fault : ReplayFault) → Goes a xs b p q → Stops b ys q r fault → Stops a (xs ++ ys) p r fault
goes_stops a b xs ys p q r fault one two = record {
  lines = one.lines ++ two.lines;
  session = two.session;
  text = one.text ++ two.text;
  part = one.text ++ two.part;
  cut = λ rest.
      let back = two.cut rest in (
        back.0,
        ap (λ octets. lines_from a.begun octets) (append_assoc xs ys rest) ∙ one.cut (ys ++ rest) ∙ ap (λ lines. one.lines ++ lines) back.1
            ∙ sym (append_assoc one.lines two.lines back.0),
        back.2,
      );
  told = text_append AnswersOrStarves a.session b.session two.session one.lines two.lines one.text two.text one.told two.told;
  written = written_after fault one.text two.text two.part two.written;
  appended = Appends-trans p q r one.text two.part one.written two.appended;
}

-- what comes after a fault changes nothing
pub stops_more : (a : ConsoleState) (xs ys : List ℕ) (p q : Option (List ℕ)) (fault : ReplayFault) → Stops a xs p q fault → Stops a (xs ++ ys) p q fault
stops_more a xs ys p q fault stops = record {
  lines = stops.lines;
  session = stops.session;
  text = stops.text;
  part = stops.part;
  cut = λ rest.
      let back = stops.cut (ys ++ rest) in
      (back.0, ap (λ octets. lines_from a.begun octets) (append_assoc xs ys rest) ∙ back.1, back.2);
  told = stops.told;
  written = stops.written;
  appended = stops.appended;
}

-- a fault at the end of a line
pub stops_at_end : (a b : ConsoleState) (run : List ℕ) (p q : Option (List ℕ)) (fault : ReplayFault) → Goes a run b p p → BreaksLine b p q fault → Stops a (run ++ 10 ∷ []) p q fault
stops_at_end a b run p q fault one breaks = goes_stops a b run (10 ∷ []) p p q fault one (stops_at_line b p q fault breaks)

-- a fault at a line, before what comes behind it
pub stops_in_front : (a : ConsoleState) (rest run behind : List ℕ) (p q : Option (List ℕ)) (fault : ReplayFault) → rest ≡ run ++ 10 ∷ behind → Stops a (run ++ 10 ∷ []) p q fault → Stops a rest p q fault
stops_in_front a rest run behind p q fault is stops =
    subst (λ octets. Stops a octets p q fault) (cut_behind rest run behind is) (stops_more a (run ++ 10 ∷ []) behind p q fault stops)

-- a line, and a fault behind it
pub stops_behind : (a b : ConsoleState) (rest run behind : List ℕ) (p q r : Option (List ℕ)) (fault : ReplayFault) → rest ≡ run ++ 10 ∷ behind → Goes a (run ++ 10 ∷ []) b p q → Stops b behind q r fault
    → Stops a rest p r fault
stops_behind a b rest run behind p q r fault is one stops =
    subst (λ octets. Stops a octets p r fault) (cut_behind rest run behind is) (goes_stops a b (run ++ 10 ∷ []) behind p q r fault one stops)

-- a read fails: no octets come, and nothing is written
pub reads_none : (a : ConsoleState) (given left before : Option (List ℕ)) → Keeps given left → ReadsAndStops a given left before before ReadFault
reads_none a given left before same =
    let none = Consumes-kept given given left [] (Consumes-nil given) same in
    record { octets = []; consumed = none; stops = stops_at_once a [] before before ReadFault (λ rest. tt) refl refl; unread = λ fault. (none, refl) }
