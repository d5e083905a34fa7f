-- What a journal of lines puts.
use Rattle.std.proofs.Common.{◌≡◌, ℕ, List, [], ◌∷◌, ◌++◌, map, sym, subst}
use Rattle.std.proofs.lemmas.List.{map-append}
use Rattle.journal_file.specs.Lines.{IsEntryLine}
use Rattle.journal_file.specs.Writing.{Item, Entry, Fold, WritingState, with_item}
use Rattle.journal_keeper.specs.Following.{Portion, Next, Folded, Puts, PutsNext, PutsPortion}
use Rattle.journal_keeper.proofs.FollowingLemmas.{fold_line, puts_nothing, puts_one, puts_both}

-- any lines may be given
abbrev pub Any : ℕ → Portion → Type 0
Any place portion = Unit {0}

pub puts_none : (a : WritingState) → PutsNext Any a a
puts_none a = ([], (tt, puts_nothing a))

pub puts_line : (a b : WritingState) (line : List ℕ) → IsEntryLine line → b ≡ with_item a (Entry line) → PutsNext Any a b
puts_line a b line fits is = (line ∷ [], (tt, puts_one a b (Entry line) fits is))

pub puts_more : (a b c : WritingState) → PutsNext Any a b → PutsNext Any b c → PutsNext Any a c
puts_more a b c first second = (first.0 ++ second.0, (tt, subst (Puts a c) (sym (map-append Entry first.0 second.0)) (puts_both a b c (map Entry first.0) (map Entry second.0) first.1.1 second.1.1)))

-- and then the line of a fold
pub puts_fold : (a b c : WritingState) → PutsNext Any a b → c ≡ with_item b Fold → (lines : List (List ℕ)) × PutsPortion Any a c (Folded lines)
puts_fold a b c first fold = (first.0, (tt, puts_both a b c (map Entry first.0) (Fold ∷ []) first.1.1 (puts_one b c Fold (fold_line, tt) fold)))
