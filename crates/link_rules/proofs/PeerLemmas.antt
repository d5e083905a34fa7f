-- What is named by the words and lines that are still to be read.
use Rattle.std.proofs.Common.{◌≡◌, ◌∙◌, ℕ, zero, suc, ◌<◌, ◌⊎◌, inl, inr, ◌↔◌, All, Any, Bool, true, false, List, [], ◌∷◌, ◌++◌, length, get_or, MatchBool, Result, Ok, Err, IfOk, refl, sym, ap, ap₂, subst, arith}
use Rattle.link_rules.proofs.BlockLemmas.{one_block}
use Rattle.std.proofs.lemmas.List.Elements.{All-cons, All-nil, All-tail, Contains-append_cases, Contains-append_left, Contains-append_right}
use Rattle.std.specs.List.{Contains}
use Rattle.link_rules.specs.Blocks.{IsBlockText}
use Rattle.link_rules.specs.declared.block.Block.{Block}
use Rattle.link_rules.specs.declared.peer.Peer.{Peer}
use Rattle.link_rules.specs.PeerLists.{Adds, AreAddresses, IsAddressText, IsAmong, IsBscText, IsReadable, Names, NamesFor, is_comment, peer_of}

-- an element of a list is the first one or one of the others
any_at : {X : Type 0} (P : X → Type 0) (x : X) (xs : List X) (k : ℕ) (y : X) → k < length (x ∷ xs) → get_or (x ∷ xs) k y ≡ y → P y → P x ⊎ Any P xs
any_at P x xs zero y inside is holds = inl (subst P (sym is) holds)
any_at P x xs (suc k) y inside is holds = inr (k, y, omega arith, is, holds)

pub any_cases : {X : Type 0} (P : X → Type 0) (x : X) (xs : List X) → Any P (x ∷ xs) → P x ⊎ Any P xs
any_cases P x xs any = any_at P x xs any.0 any.1 any.2 any.3 any.4

pub any_head : {X : Type 0} (P : X → Type 0) (x : X) (xs : List X) → P x → Any P (x ∷ xs)
any_head P x xs holds = (0, x, omega arith, refl, holds)

pub any_tail : {X : Type 0} (P : X → Type 0) (x : X) (xs : List X) → Any P xs → Any P (x ∷ xs)
any_tail P x xs any = (suc any.0, any.1, omega (arith, any.2), any.3, any.4)

pub any_none : {X : Type 0} (P : X → Type 0) → ¬ Any P []
any_none P any = omega (arith, any.2)

only_at : {X : Type 0} (x y : X) (k : ℕ) → k < length (x ∷ []) → get_or (x ∷ []) k y ≡ y → x ≡ y
only_at x y zero inside same = same
only_at x y (suc k) inside same = absurd (omega arith)

only_one : {X : Type 0} (x y : X) → Contains (x ∷ []) y → x ≡ y
only_one x y is = only_at x y is.0 is.1 is.2

pub none_there : {X : Type 0} (x : X) → ¬ Contains [] x
none_there x is = omega (arith, is.1)

-- what is there, and what is still to be read, is what was there and what there was to read
abbrev pub Leads : (ℕ → Block → Type 0) → List Peer → (ℕ → Block → Type 0) → List Peer → Type 0
Leads IsLeft now IsAll old = (bsc : ℕ) (block : Block) → (Contains now (peer_of bsc block) ⊎ IsLeft bsc block) ↔ (Contains old (peer_of bsc block) ⊎ IsAll bsc block)

-- one step more
pub leads_on : (IsLeft IsLess IsAll : ℕ → Block → Type 0) (now new old : List Peer) → Leads IsLess new IsLeft now → Leads IsLeft now IsAll old → Leads IsLess new IsAll old
leads_on IsLeft IsLess IsAll now new old step leads bsc block =
    let of_step = step bsc block in
    let of_leads = leads bsc block in
    (λ it. of_leads.0 (of_step.0 it), λ it. of_step.1 (of_leads.1 it))

-- the word writes the block that is added, so this is named no more and is there
block_to : (of bsc : ℕ) (given block : Block) (now new : List Peer) (word : List ℕ) (words more : List (List ℕ)) → words ≡ word ∷ more → IsBlockText word given → new ≡ now ++ peer_of of given ∷ []
    → Contains new (peer_of bsc block) ⊎ NamesFor of more bsc block → Contains now (peer_of bsc block) ⊎ NamesFor of words bsc block
block_to of bsc given block now new word words more split writes grown (inl there) =
    elim (Contains-append_cases now (peer_of of given ∷ []) (peer_of bsc block) (subst (λ (all : List Peer). Contains all (peer_of bsc block)) grown there)) [
      | inl before ↦ inl before
      | inr last ↦ (
          let same = only_one (peer_of of given) (peer_of bsc block) last in
          let written : IsBlockText word block = subst (IsBlockText word) (ap (λ (p : Peer). p.block) same) writes in
          inr (sym (ap (λ (p : Peer). p.bsc) same), subst (IsAmong block) (sym split) (any_head (λ (w : List ℕ). IsBlockText w block) word more written)))
    ]
block_to of bsc given block now new word words more split writes grown (inr named) =
    inr (named.0, subst (IsAmong block) (sym split) (any_tail (λ (w : List ℕ). IsBlockText w block) word more named.1))

block_from : (of bsc : ℕ) (given block : Block) (now new : List Peer) (word : List ℕ) (words more : List (List ℕ)) → words ≡ word ∷ more → IsBlockText word given → new ≡ now ++ peer_of of given ∷ []
    → Contains now (peer_of bsc block) ⊎ NamesFor of words bsc block → Contains new (peer_of bsc block) ⊎ NamesFor of more bsc block
block_from of bsc given block now new word words more split writes grown (inl there) =
    inl (subst (λ (all : List Peer). Contains all (peer_of bsc block)) (sym grown) (Contains-append_left now (peer_of of given ∷ []) (peer_of bsc block) there))
block_from of bsc given block now new word words more split writes grown (inr named) =
    elim (any_cases (λ (w : List ℕ). IsBlockText w block) word more (subst (IsAmong block) split named.1)) [
      | inl written ↦ (
          let same : peer_of of given ≡ peer_of bsc block = ap₂ peer_of (sym named.0) (one_block word given block writes written) in
          let last : Contains (peer_of of given ∷ []) (peer_of bsc block) = (0, omega arith, same) in
          inl (subst (λ (all : List Peer). Contains all (peer_of bsc block)) (sym grown) (Contains-append_right now (peer_of of given ∷ []) (peer_of bsc block) last)))
      | inr rest ↦ inr (named.0, rest)
    ]

-- how far the words of a line are read
pub record AreGoing (of : ℕ) (now old : List Peer) (left all : List (List ℕ)) (is_named : Bool) : Type 0 where
  pub leads : Leads (NamesFor of left) now (NamesFor of all) old
  pub good : All IsAddressText left ↔ All IsAddressText all
  pub some : MatchBool is_named (0 < length all) (left ≡ all)

some_more : (is_named : Bool) (word : List ℕ) (left more all : List (List ℕ)) → left ≡ word ∷ more → MatchBool is_named (0 < length all) (left ≡ all) → 0 < length all
some_more true word left more all split some = some
some_more false word left more all split same = omega (arith, ap length (sym same ∙ split))

pub going_on : (of : ℕ) (given : Block) (now new old : List Peer) (word : List ℕ) (left more all : List (List ℕ)) (is_named : Bool) → left ≡ word ∷ more → IsBlockText word given → new ≡ now ++ peer_of of given ∷ []
    → AreGoing of now old left all is_named → AreGoing of new old more all true
going_on of given now new old word left more all is_named split writes grown going = record {
  leads = leads_on (NamesFor of left) (NamesFor of more) (NamesFor of all) now new old (λ bsc block. (block_to of bsc given block now new word left more split writes grown, block_from of bsc given block now new word left more split writes grown)) going.leads;
  good = (
    λ rest. going.good.0 (subst (All IsAddressText) (sym split) (All-cons IsAddressText word more (given, writes) rest)),
    λ are. All-tail IsAddressText word more (subst (All IsAddressText) split (going.good.1 are)),
  );
  some = some_more is_named word left more all split going.some;
}

-- the end of the words
pub going_ends : (of : ℕ) (now old : List Peer) (left all : List (List ℕ)) (is_named : Bool) → left ≡ [] → AreGoing of now old left all is_named → MatchBool is_named (AreAddresses all × Adds (NamesFor of all) old now) (¬ AreAddresses all)
going_ends of now old left all true none going = (
  (going.some, going.good.0 (subst (All IsAddressText) (sym none) (All-nil IsAddressText))),
  λ bsc block. (
    λ there. (going.leads bsc block).0 (inl there),
    λ it. elim ((going.leads bsc block).1 it) [
      | inl there ↦ there
      | inr named ↦ absurd (any_none (λ (w : List ℕ). IsBlockText w block) (subst (IsAmong block) none named.1))
    ],
  ),
)
going_ends of now old left all false none going = λ are. omega (arith, are.0, ap length (sym going.some ∙ none))

-- a word writes one number at most
one_number : (word : List ℕ) (a b : ℕ) → IsBscText word a → IsBscText word b → a ≡ b
one_number word a b of_a of_b = sym of_a.0.1 ∙ of_b.0.1

-- what the blocks behind a number say of the line
numbered : (bsc : ℕ) (word : List ℕ) (words : List (List ℕ)) (old new : List Peer) (good : Bool) → is_comment word ≡ false → IsBscText word bsc
    → MatchBool good (AreAddresses words × Adds (NamesFor bsc words) old new) (¬ AreAddresses words)
    → MatchBool good (IsReadable (word ∷ words) × Adds (Names (word ∷ words)) old new) (¬ IsReadable (word ∷ words))
numbered bsc word words old new true no_comment writes are = (
  inr (bsc, writes, are.0),
  λ of block. (
    λ there. elim ((are.1 of block).0 there) [
      | inl before ↦ inl before
      | inr named ↦ inr (subst (IsBscText word) (sym named.0) writes, named.1)
    ],
    λ it. (are.1 of block).1 (elim it [
      | inl before ↦ inl before
      | inr named ↦ inr (one_number word of bsc named.0 writes, named.1)
    ]),
  ),
)
numbered bsc word words old new false no_comment writes are_not = λ is. elim is [
  | inl comment ↦ cc
  | inr read ↦ are_not read.2
]

pub line_read : {E : Type 0} (bsc : ℕ) (word : List ℕ) (words all : List (List ℕ)) (old new : List Peer) (r : Result Bool E) → all ≡ word ∷ words → is_comment word ≡ false → IsBscText word bsc
    → IfOk r (λ good. MatchBool good (AreAddresses words × Adds (NamesFor bsc words) old new) (¬ AreAddresses words))
    → IfOk r (λ good. MatchBool good (IsReadable all × Adds (Names all) old new) (¬ IsReadable all))
line_read bsc word words all old new (Ok good) split no_comment writes are =
    subst (λ (ws : List (List ℕ)). MatchBool good (IsReadable ws × Adds (Names ws) old new) (¬ IsReadable ws)) (sym split) (numbered bsc word words old new good no_comment writes are)
line_read bsc word words all old new (Err e) split no_comment writes are = tt
