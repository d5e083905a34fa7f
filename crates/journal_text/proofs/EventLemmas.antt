-- The line of each event.
use Rattle.std.proofs.Common.{◌≡◌, ◌∙◌, ℕ, true, false, List, [], ◌∷◌, Option, Some, None, codes, refl, sym, ap, ap₂, subst, arith}
use Rattle.std.specs.Prelude.{IfSome, decimal}
use Rattle.std.specs.Option.{option_map}
use Rattle.cbsp_messages.specs.Message.{type_of}
use Rattle.cbsp_messages.specs.MessageType.{code_of, is_report, report_type}
use Rattle.cbsp_messages.specs.Written.{frame_of}
use Rattle.cbsp_messages.specs.declared.message.Message.{Message}
use Rattle.cbsp_messages.specs.declared.message_type.MessageType.{MessageType}
use Rattle.cbsp_messages.specs.declared.message_type.MessageType.TheVariants as type
use Rattle.centre_events.specs.declared.event.Event.{Event}
use Rattle.centre_events.specs.declared.event.Event.TheVariants as event
use Rattle.common.specs.declared.cell.Cell.{Cell}
use Rattle.hex.specs.Hex.{encode_lower}
use Rattle.console_text.specs.Grammar.{bsc_of, if_some, warning_of}
use Rattle.console_text.specs.Laws.{frame_with}
use Rattle.console_text.specs.declared.line.Line.TheVariants as line
use Rattle.journal_text.specs.Reading.{IsLineFor, IsLineOf, IsSentIn, IsWritten}
use Rattle.journal_text.specs.Sayable.{HasFrame, HasLine, IsBsc, IsCell, IsWarning}
use Rattle.journal_text.specs.Texts.{line_text}
use Rattle.journal_text.proofs.ContentLemmas.{bsc_back, cell_back, warning_back}
use Rattle.journal_text.proofs.EditLemmas.{edit_line}
use Rattle.journal_text.proofs.HexLemmas.{hex_word, length_hex, octets_back}
use Rattle.journal_text.proofs.LineLemmas.{is_line}
use Rattle.journal_text.proofs.NumberLemmas.{decimal_short, decimal_word}

abbrev LineOfEvent : Event → Type 0
LineOfEvent e = IsLineOf (line_text e) e

retry : (b : ℕ) → IsBsc b → LineOfEvent (event.Retry b)
retry b h =
    let short = decimal_short b (omega (arith, h.1)) in
    is_line (event.Retry b) (codes "retry") (decimal b ∷ []) (line.Retry b) (refl, (decimal_word b (omega (arith, h.1)), tt)) (omega (arith, short))
    (ap (option_map (λ n. line.Retry n)) (bsc_back b h)) (λ kept names. refl)

link_up : (b : ℕ) → IsBsc b → LineOfEvent (event.LinkUp b)
link_up b h =
    let short = decimal_short b (omega (arith, h.1)) in
    is_line (event.LinkUp b) (codes "up") (decimal b ∷ []) (line.Up b) (refl, (decimal_word b (omega (arith, h.1)), tt)) (omega (arith, short))
    (ap (option_map (λ n. line.Up n)) (bsc_back b h)) (λ kept names. refl)

link_down : (b generation : ℕ) → IsBsc b → LineOfEvent (event.LinkDown b generation)
link_down b generation h =
    let short = decimal_short b (omega (arith, h.1)) in
    is_line (event.LinkDown b generation) (codes "down") (decimal b ∷ []) (line.Down b) (refl, (decimal_word b (omega (arith, h.1)), tt)) (omega (arith, short))
    (ap (option_map (λ n. line.Down n)) (bsc_back b h)) (λ kept names. ap (λ (g : ℕ). Some (event.LinkDown b g)) names)

send : (b generation : ℕ) → IsBsc b → LineOfEvent (event.Send b generation)
send b generation h =
    let short = decimal_short b (omega (arith, h.1)) in
    is_line (event.Send b generation) (codes "send") (decimal b ∷ []) (line.Send b) (refl, (decimal_word b (omega (arith, h.1)), tt)) (omega (arith, short))
    (ap (option_map (λ n. line.Send n)) (bsc_back b h)) (λ kept names. ap (λ (g : ℕ). Some (event.Send b g)) names)

ask : (b generation n : ℕ) (after : Option Cell) → IsBsc b → IsWarning n → IfSome after IsCell → LineOfEvent (event.Ask b generation n after)
ask b generation n None h k c =
    let short = decimal_short b (omega (arith, h.1)) in
    let number = decimal_short n (omega (arith, k)) in
    is_line (event.Ask b generation n None) (codes "ask") (decimal b ∷ decimal n ∷ []) (line.Ask b n None)
    (refl, (decimal_word b (omega (arith, h.1)), (decimal_word n (omega (arith, k)), tt))) (omega (arith, short, number))
    (ap₂ (λ (o p : Option ℕ). if_some o (λ bsc. if_some p (λ w. Some (line.Ask bsc w None)))) (bsc_back b h) (warning_back n k))
    (λ kept names. ap (λ (g : ℕ). Some (event.Ask b g n None)) names)
ask b generation n (Some cell) h k c =
    let short = decimal_short b (omega (arith, h.1)) in
    let number = decimal_short n (omega (arith, k)) in
    let lac = decimal_short cell.lac (omega (arith, c.0)) in
    let ci = decimal_short cell.ci (omega (arith, c.1)) in
    is_line (event.Ask b generation n (Some cell)) (codes "ask") (decimal b ∷ decimal n ∷ decimal cell.lac ∷ decimal cell.ci ∷ []) (line.Ask b n (Some cell))
    (refl, (decimal_word b (omega (arith, h.1)), (decimal_word n (omega (arith, k)), (decimal_word cell.lac (omega (arith, c.0)), (decimal_word cell.ci (omega (arith, c.1)), tt)))))
    (omega (arith, short, number, lac, ci))
    (ap (λ (o : Option Cell). if_some o (λ found. if_some (bsc_of (decimal b)) (λ bsc. if_some (warning_of (decimal n)) (λ w. Some (line.Ask bsc w (Some found)))))) (cell_back cell c)
    ∙ ap₂ (λ (o p : Option ℕ). if_some o (λ bsc. if_some p (λ w. Some (line.Ask bsc w (Some cell))))) (bsc_back b h) (warning_back n k))
    (λ kept names. ap (λ (g : ℕ). Some (event.Ask b g n (Some cell))) names)

-- the octet of a report's type names it
report_named : (t : MessageType) → is_report t ≡ true → report_type (code_of t) ≡ Some t
report_named type.WriteReplace h = cc h
report_named type.WriteComplete h = refl
report_named type.WriteFailure h = refl
report_named type.Kill h = cc h
report_named type.KillComplete h = refl
report_named type.KillFailure h = refl
report_named type.StatusQuery h = cc h
report_named type.StatusComplete h = refl
report_named type.StatusFailure h = refl
report_named type.Restart h = refl
report_named type.Failure h = refl
report_named type.ErrorIndication h = refl

sent_in : (m : Message) → HasFrame m → IsSentIn (encode_lower (frame_of m)) m
sent_in m h = record {
  octets = frame_of m;
  frame = frame_with m;
  kind = type_of m;
  spelled = octets_back (frame_of m) h.octets;
  whole = record { whole = refl; readable = h.short };
  report = report_named (type_of m) h.report;
  encoded = h.encoded;
}

report : (b generation : ℕ) (m : Message) → IsBsc b → HasFrame m → LineOfEvent (event.Report b generation m)
report b generation m h frame =
    let short = decimal_short b (omega (arith, h.1)) in
    let long = length_hex (frame_of m) in
    is_line (event.Report b generation m) (codes "rx") (decimal b ∷ encode_lower (frame_of m) ∷ []) (line.Report b (encode_lower (frame_of m)))
    (refl, (decimal_word b (omega (arith, h.1)), (hex_word (frame_of m) (omega arith) frame.octets, tt))) (omega (arith, short, long, frame.short))
    (ap (option_map (λ n. line.Report n (encode_lower (frame_of m)))) (bsc_back b h))
    (λ kept names. (m, sent_in m frame, ap (λ (g : ℕ). event.Report b g m) (sym names)))

-- each event that has a line is read as itself
pub event_line : (e : Event) → HasLine e → LineOfEvent e
event_line (event.Edit e) h = edit_line e h
event_line (event.Retry b) h = retry b h
event_line (event.LinkUp b) h = link_up b h
event_line (event.LinkDown b generation) h = link_down b generation h
event_line (event.Send b generation) h = send b generation h
event_line (event.Ask b generation n after) h = ask b generation n after h.0 h.1 h.2
event_line (event.Report b generation m) h = report b generation m h.0 h.1

-- so a text that is written of an event is its line
pub line_for : (e : Event) (text : List ℕ) → IsWritten e true text → IsLineFor e (Some text)
line_for e text written = (written.0, subst (λ octets. IsLineOf octets e) (sym written.1) (event_line e written.0))

pub no_line_for : (e : Event) (text : List ℕ) → IsWritten e false text → IsLineFor e None
no_line_for e text none = none
