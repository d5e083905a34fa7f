-- What is named by the lines that are still to be read.
use Rattle.std.proofs.Common.{◌≡◌, ◌∙◌, ℕ, ◌+◌, ◌⊎◌, inl, inr, All, Any, Bool, true, false, MatchBool, List, [], ◌∷◌, refl, sym, ap, subst, arith}
use Rattle.std.proofs.lemmas.List.Elements.{All-cons, All-nil}
use Rattle.std.specs.List.{Contains}
use Rattle.link_rules.specs.declared.block.Block.{Block}
use Rattle.link_rules.specs.declared.peer.Peer.{Peer}
use Rattle.link_rules.specs.PeerLists.{Adds, AreNamedBy, IsFirstBad, IsListOfPeers, IsReadable, Names, peer_of}
use Rattle.link_rules.specs.Words.{lines_of, words_of}
use Rattle.link_rules.proofs.PeerLemmas.{Leads, any_cases, any_head, any_none, any_tail, leads_on, none_there}

-- a line of these names the block
abbrev IsNamedIn : List (List ℕ) → ℕ → Block → Type 0
IsNamedIn lines bsc block = Any (λ line. Names (words_of line) bsc block) lines

-- each of these lines can be read
abbrev AreReadable : List (List ℕ) → Type 0
AreReadable lines = All (λ line. IsReadable (words_of line)) lines

-- what a line names is there, and isn't left
line_to : (bsc : ℕ) (block : Block) (now new : List Peer) (line : List ℕ) (lines more : List (List ℕ)) → lines ≡ line ∷ more → Adds (Names (words_of line)) now new
    → Contains new (peer_of bsc block) ⊎ IsNamedIn more bsc block → Contains now (peer_of bsc block) ⊎ IsNamedIn lines bsc block
line_to bsc block now new line lines more split adds (inl there) =
    elim ((adds bsc block).0 there) [
      | inl before ↦ inl before
      | inr named ↦ inr (subst (λ (ls : List (List ℕ)). IsNamedIn ls bsc block) (sym split) (any_head (λ (l : List ℕ). Names (words_of l) bsc block) line more named))
    ]
line_to bsc block now new line lines more split adds (inr named) =
    inr (subst (λ (ls : List (List ℕ)). IsNamedIn ls bsc block) (sym split) (any_tail (λ (l : List ℕ). Names (words_of l) bsc block) line more named))

line_from : (bsc : ℕ) (block : Block) (now new : List Peer) (line : List ℕ) (lines more : List (List ℕ)) → lines ≡ line ∷ more → Adds (Names (words_of line)) now new
    → Contains now (peer_of bsc block) ⊎ IsNamedIn lines bsc block → Contains new (peer_of bsc block) ⊎ IsNamedIn more bsc block
line_from bsc block now new line lines more split adds (inl there) = inl ((adds bsc block).1 (inl there))
line_from bsc block now new line lines more split adds (inr named) =
    elim (any_cases (λ (l : List ℕ). Names (words_of l) bsc block) line more (subst (λ (ls : List (List ℕ)). IsNamedIn ls bsc block) split named)) [
      | inl here ↦ inl ((adds bsc block).1 (inr here))
      | inr rest ↦ inr rest
    ]

-- how far the lines are read: so many are passed
pub record AreLinesGoing (now : List Peer) (left all : List (List ℕ)) (passed : ℕ) : Type 0 where
  pub leads : Leads (IsNamedIn left) now (IsNamedIn all) []
  pub good : AreReadable left → AreReadable all
  pub bad : (number : ℕ) → IsFirstBad left number → IsFirstBad all (passed + number)

-- the first bad line of the rest, behind a good one
one_further : (line : List ℕ) (lines more : List (List ℕ)) (number : ℕ) → lines ≡ line ∷ more → IsReadable (words_of line) → IsFirstBad more number → IsFirstBad lines (number + 1)
one_further line lines more number split good first = record {
  before = line ∷ first.before;
  line = first.line;
  after = first.after;
  split = split ∙ ap (λ (ls : List (List ℕ)). line ∷ ls) first.split;
  place = omega (arith, first.place);
  good = All-cons (λ (l : List ℕ). IsReadable (words_of l)) line first.before good first.good;
  bad = first.bad;
}

pub lines_on : (now new : List Peer) (line : List ℕ) (left more all : List (List ℕ)) (passed : ℕ) → left ≡ line ∷ more → IsReadable (words_of line) → Adds (Names (words_of line)) now new
    → AreLinesGoing now left all passed → AreLinesGoing new more all (passed + 1)
lines_on now new line left more all passed split good adds going = record {
  leads = leads_on (IsNamedIn left) (IsNamedIn more) (IsNamedIn all) now new [] (λ bsc block. (line_to bsc block now new line left more split adds, line_from bsc block now new line left more split adds)) going.leads;
  good = λ rest. going.good (subst AreReadable (sym split) (All-cons (λ (l : List ℕ). IsReadable (words_of l)) line more good rest));
  bad = λ number first. subst (IsFirstBad all) (omega arith) (going.bad (number + 1) (one_further line left more number split good first));
}

-- a line that can't be read
pub lines_bad : (now : List Peer) (line : List ℕ) (left more all : List (List ℕ)) (passed : ℕ) → left ≡ line ∷ more → ¬ IsReadable (words_of line) → AreLinesGoing now left all passed → IsFirstBad all (passed + 1)
lines_bad now line left more all passed split bad going = going.bad 1 (record {
  before = [];
  line = line;
  after = more;
  split = split;
  place = refl;
  good = All-nil (λ (l : List ℕ). IsReadable (words_of l));
  bad = bad;
})

-- the end of the lines
pub lines_end : (now : List Peer) (text : List ℕ) (passed : ℕ) → AreLinesGoing now [] (lines_of text) passed → IsListOfPeers text × AreNamedBy text now
lines_end now text passed going = (
  going.good (All-nil (λ (l : List ℕ). IsReadable (words_of l))),
  λ bsc block. (
    λ there. elim ((going.leads bsc block).0 (inl there)) [
      | inl nothing ↦ absurd (none_there (peer_of bsc block) nothing)
      | inr named ↦ named
    ],
    λ named. elim ((going.leads bsc block).1 (inr named)) [
      | inl there ↦ there
      | inr nothing ↦ absurd (any_none (λ (l : List ℕ). Names (words_of l) bsc block) nothing)
    ],
  ),
)

-- what the reading of a line says
pub is_read : (good : Bool) (line : List ℕ) (old new : List Peer) → good ≡ true → MatchBool good (IsReadable (words_of line) × Adds (Names (words_of line)) old new) (¬ IsReadable (words_of line)) → IsReadable (words_of line) × Adds (Names (words_of line)) old new
is_read true line old new is read = read
is_read false line old new is read = cc

pub is_bad : (good : Bool) (line : List ℕ) (old new : List Peer) → good ≡ false → MatchBool good (IsReadable (words_of line) × Adds (Names (words_of line)) old new) (¬ IsReadable (words_of line)) → ¬ IsReadable (words_of line)
is_bad true line old new is read = cc
is_bad false line old new is read = read
