-- Octets that come in pieces.
use Rattle.std.proofs.Common.{◌≡◌, ℕ, ◌+◌, ◌<◌, ◌≤◌, List, [], ◌∷◌, ◌++◌, length, map, take, refl, sym, ap, ◌∙◌, subst, arith, append_assoc, append-nil, length-append}
use Rattle.std.proofs.lemmas.List.{map-append}
use Rattle.journal_file.specs.Lines.{HasNoEnd, IsCut, kept_of}
use Rattle.journal_file.specs.Loading.{LoadingState, nothing_yet, goes_on, ends_line, TakesLine, TakesNone, Holds, Step, Line, Run, Does, Runs, given_by, TakesAll, AnyPieces}
use Rattle.journal_file.proofs.LineLemmas.{IsCut-nil, IsCut-line, IsCut-run, kept_of-append, kept_of-nil}

pub Holds-nothing : Holds [] [] nothing_yet
Holds-nothing = record { lines = []; rest = []; cut = IsCut-nil; given_are = refl; held = sym kept_of-nil; begun = refl; ended = refl; octets_are = refl }

-- no line ends in the piece
pub Holds-run : (octets : List ℕ) (given : List (List ℕ)) (old new : LoadingState) (piece : List ℕ) → Holds octets given old → TakesNone old piece new → Holds (octets ++ piece) given new
Holds-run octets given old new piece holds takes =
    subst (Holds (octets ++ piece) given) (sym takes.1) (record {
      lines = holds.lines;
      rest = holds.rest ++ piece;
      cut = IsCut-run octets piece holds.lines holds.rest holds.cut takes.0;
      given_are = holds.given_are;
      held = ap (λ s. kept_of (s ++ piece)) holds.held ∙ kept_of-append holds.rest piece;
      begun = omega (arith, holds.begun, length-append holds.rest piece);
      ended = holds.ended;
      octets_are = omega (arith, holds.octets_are, length-append octets piece);
    })

-- a line does
pub Holds-line : (octets : List ℕ) (given : List (List ℕ)) (old new : LoadingState) (piece line behind : List ℕ) (holds : Holds octets given old) (takes : TakesLine old piece new line behind)
    → Holds (octets ++ (takes.run ++ 10 ∷ [])) (given ++ line ∷ []) new
Holds-line octets given old new piece line behind holds takes =
    let run = takes.run in
    subst (Holds (octets ++ (run ++ 10 ∷ [])) (given ++ line ∷ [])) (sym takes.state) (record {
      lines = holds.lines ++ (holds.rest ++ run) ∷ [];
      rest = [];
      cut = IsCut-line octets run behind holds.lines holds.rest holds.cut takes.none;
      given_are =
          ap (λ s. s ++ line ∷ []) holds.given_are
          ∙ ap (λ s. map kept_of holds.lines ++ s ∷ []) (takes.line_is ∙ ap (λ s. kept_of (s ++ run)) holds.held ∙ kept_of-append holds.rest run)
          ∙ sym (map-append kept_of holds.lines ((holds.rest ++ run) ∷ []));
      held = sym kept_of-nil;
      begun = refl;
      ended = omega (arith, holds.ended, length-append holds.lines ((holds.rest ++ run) ∷ []));
      octets_are = omega (arith, holds.octets_are, length-append octets (run ++ 10 ∷ []), length-append run (10 ∷ []));
    })

-- from some octets on
runs_hold : (steps : List Step) (octets more : List ℕ) (given : List (List ℕ)) (old now : LoadingState) → Holds octets given old → TakesAll more steps → Runs old steps now
    → Holds (octets ++ more) (given ++ given_by steps) now
runs_hold [] octets more given old now holds all run = rw (run, all, append-nil octets, append-nil given) holds
runs_hold (Line piece line behind ∷ steps) octets more given old now holds all run =
    let takes = run.1 in
    let one = Holds-line octets given old run.0 piece line behind holds takes in
    let rest = runs_hold steps (octets ++ (takes.run ++ 10 ∷ [])) (behind ++ all.0) (given ++ line ∷ []) run.0 now one all.2 run.2 in
    let parts : (octets ++ (takes.run ++ 10 ∷ [])) ++ (behind ++ all.0) ≡ octets ++ more =
    append_assoc octets (takes.run ++ 10 ∷ []) (behind ++ all.0) ∙ ap (λ s. octets ++ s) (append_assoc takes.run (10 ∷ []) (behind ++ all.0))
    ∙ ap (λ s. octets ++ s) (sym (append_assoc takes.run (10 ∷ behind) all.0) ∙ ap (λ s. s ++ all.0) (sym takes.cut) ∙ sym all.1) in
    let lines : (given ++ line ∷ []) ++ given_by steps ≡ given ++ (line ∷ given_by steps) = append_assoc given (line ∷ []) (given_by steps) in
    subst (λ s. Holds s (given ++ (line ∷ given_by steps)) now) parts (subst (λ ls. Holds ((octets ++ (takes.run ++ 10 ∷ [])) ++ (behind ++ all.0)) ls now) lines rest)
runs_hold (Run piece ∷ steps) octets more given old now holds all run =
    let one = Holds-run octets given old run.0 piece holds run.1 in
    let rest = runs_hold steps (octets ++ piece) all.0 given run.0 now one all.2 run.2 in
    subst (λ s. Holds s (given ++ given_by steps) now) (append_assoc octets piece all.0 ∙ ap (λ s. octets ++ s) (sym all.1)) rest

pub any_pieces : AnyPieces
any_pieces octets steps now all run = runs_hold steps [] octets [] nothing_yet now Holds-nothing all run
