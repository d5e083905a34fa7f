-- Lines that are answered one after another, and octets that come one after another.
use Rattle.std.proofs.Common.{◌≡◌, ℕ, Option, List, [], ◌∷◌, ◌++◌, refl, sym, ap, ◌∙◌, subst, append_assoc, append-nil}
use Rattle.std.proofs.KnownBytes.{Appends-nil, Appends-trans}
use Rattle.console.specs.Consoles.{ConsoleState, EndsLine, Goes}
use Rattle.console_text.specs.Parts.{HasNone}
use Rattle.console.specs.Sessions.{SessionState, AnswersOrStarves}
use Rattle.console.specs.Text.{Answering, IsTextBy, IsTextOrStarves}
use Rattle.console_text.specs.Lines.{lines_from}
use Rattle.console_text.specs.Texts.{response_text}
use Rattle.console_text.proofs.PartLemmas.{line_ends, line_goes_on}

-- the answers to some lines, and those to the lines after them
pub text_append : (answers : Answering) (a b c : SessionState) (xs ys : List (List ℕ)) (s t : List ℕ) → IsTextBy answers a xs b s → IsTextBy answers b ys c t
    → IsTextBy answers a (xs ++ ys) c (s ++ t)
text_append answers a b c [] ys s t told more =
    subst (λ session. IsTextBy answers session ys c (s ++ t)) told.0 (subst (λ text. IsTextBy answers b ys c (text ++ t)) (sym told.1) more)
text_append answers a b c (line ∷ xs) ys s t told more =
    (told.0, told.1, told.2 ++ t, told.3, told.4, text_append answers told.1 b c xs ys told.2 t told.5 more, ap (λ text. text ++ t) told.6 ∙ append_assoc (response_text told.0) told.2 t)

-- one line that ends
pub one_line : (old new : ConsoleState) (p q : Option (List ℕ)) (ends : EndsLine old new p q) → IsTextOrStarves old.session (old.begun ∷ []) new.session (response_text ends.response)
one_line old new p q ends = (ends.response, new.session, [], ends.short, ends.answered, (refl, refl), sym (append-nil (response_text ends.response)))

pub goes_nowhere : (a : ConsoleState) (p : Option (List ℕ)) → Goes a [] a p p
goes_nowhere a p = record { lines = []; text = []; cut = λ rest. refl; told = (refl, refl); written = Appends-nil p }

-- a line ends
goes_line : (old new : ConsoleState) (p q : Option (List ℕ)) → EndsLine old new p q → Goes old (10 ∷ []) new p q
goes_line old new p q ends = record {
  lines = old.begun ∷ [];
  text = response_text ends.response;
  cut = λ rest. line_ends old.begun rest ∙ ap (λ begun. old.begun ∷ lines_from begun rest) (sym ends.begun);
  told = one_line old new p q ends;
  written = ends.written;
}

-- the line goes on
pub goes_run : (old new : ConsoleState) (run : List ℕ) (p : Option (List ℕ)) → HasNone 10 run → new.session ≡ old.session → new.begun ≡ old.begun ++ run → Goes old run new p p
goes_run old new run p none same more = record {
  lines = [];
  text = [];
  cut = λ rest. line_goes_on old.begun run rest none ∙ ap (λ begun. lines_from begun rest) (sym more);
  told = (same, refl);
  written = Appends-nil p;
}

-- some octets, and those after them
pub goes_goes : (a b c : ConsoleState) (xs ys : List ℕ) (p q r : Option (List ℕ)) → Goes a xs b p q → Goes b ys c q r → Goes a (xs ++ ys) c p r
goes_goes a b c xs ys p q r one two = record {
  lines = one.lines ++ two.lines;
  text = one.text ++ two.text;
  cut = λ rest.
      ap (λ octets. lines_from a.begun octets) (append_assoc xs ys rest) ∙ one.cut (ys ++ rest) ∙ ap (λ lines. one.lines ++ lines) (two.cut rest)
      ∙ sym (append_assoc one.lines two.lines (lines_from c.begun rest));
  told = text_append AnswersOrStarves a.session b.session c.session one.lines two.lines one.text two.text one.told two.told;
  written = Appends-trans p q r one.text two.text one.written two.written;
}

-- the last octets of a line, and its end
pub goes_end : (a b c : ConsoleState) (run : List ℕ) (p q : Option (List ℕ)) → Goes a run b p p → EndsLine b c p q → Goes a (run ++ 10 ∷ []) c p q
goes_end a b c run p q one ends = goes_goes a b c run (10 ∷ []) p p q one (goes_line b c p q ends)

-- octets that are cut behind the end of a line
pub cut_behind : (rest run behind : List ℕ) → rest ≡ run ++ 10 ∷ behind → (run ++ 10 ∷ []) ++ behind ≡ rest
cut_behind rest run behind is = append_assoc run (10 ∷ []) behind ∙ sym is

-- a line, and what comes behind it
pub goes_behind : (a b c : ConsoleState) (rest run behind : List ℕ) (p q r : Option (List ℕ)) → rest ≡ run ++ 10 ∷ behind → Goes a (run ++ 10 ∷ []) b p q → Goes b behind c q r → Goes a rest c p r
goes_behind a b c rest run behind p q r is one two =
    subst (λ octets. Goes a octets c p r) (cut_behind rest run behind is) (goes_goes a b c (run ++ 10 ∷ []) behind p q r one two)
