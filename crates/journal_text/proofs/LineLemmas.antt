-- A line that joins words is the line of an event.
use Rattle.std.proofs.Common.{◌≡◌, ◌∙◌, ℕ, ◌≤◌, List, ◌∷◌, Some, ap, arith}
use Rattle.centre_events.specs.declared.event.Event.{Event}
use Rattle.console_text.specs.Lines.{longest_line}
use Rattle.console_text.specs.Words.{words_of}
use Rattle.console_text.specs.declared.line.Line.{Line}
use Rattle.journal_text.specs.Reading.{IsLineOf, NamesKept, StandsFor, asked}
use Rattle.journal_text.specs.Texts.{joined}
use Rattle.journal_text.proofs.WordLemmas.{AreWords, has_none, kept_whole, length-joined, line_above, size, words_joined}

pub is_line : (e : Event) (first : List ℕ) (more : List (List ℕ)) (l : Line) → AreWords (first ∷ more) → size (first ∷ more) ≤ longest_line
    → asked (first ∷ more) ≡ Some l → ((kept : ℕ → ℕ) → NamesKept kept e → StandsFor kept l e) → IsLineOf (joined 32 (first ∷ more)) e
is_line e first more l words short means stands =
    let text = joined 32 (first ∷ more) in
    let high = line_above first more words in
    let whole = kept_whole text high in
    let long = length-joined 32 first more in
    record {
      request = l;
      single = has_none 10 31 text (omega arith) high;
      whole = whole;
      short = omega (arith, long, short);
      asked = ap (λ (octets : List ℕ). asked (words_of octets)) whole ∙ ap asked (words_joined first more words) ∙ means;
      event = stands;
    }
