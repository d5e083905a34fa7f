-- What a list of peers says.
use Rattle.std.specs.Prelude.{◌≡◌, ℕ, ◌+◌, ◌<◌, ◌^◌, ◌==◌, Bool, true, false, ◌&&◌, nat_eq, not, ◌⊎◌, All, Any, Contains, List, [], ◌∷◌, ◌++◌, length, ◌↔◌, ⊤}
use Rattle.std.specs.List.{list_any}
use Rattle.std.specs.Net.Grammar.{IsNumber}
use Rattle.std.specs.declared.net.IpAddr.{IpAddr}
use Rattle.link_rules.specs.Blocks.{IsBlockText, is_in, is_same_block}
use Rattle.link_rules.specs.declared.block.Block.{Block}
use Rattle.link_rules.specs.declared.peer.Peer.{Peer}
use Rattle.link_rules.specs.declared.peers_fault.PeersFault.{PeersFault}
use Rattle.link_rules.specs.declared.peers_fault.PeersFault.TheVariants.{Line, Memory}
use Rattle.link_rules.specs.Words.{lines_of, words_of}

-- decimal digits that write the number of a BSC
abbrev pub IsBscText : List ℕ → ℕ → Type 0
IsBscText word bsc = IsNumber 10 word bsc × (0 < bsc) × (bsc < 2 ^ 16)

-- the word writes a block of addresses
abbrev pub IsAddressText : List ℕ → Type 0
IsAddressText word = (block : Block) × IsBlockText word block

-- a comment begins with `#`, which is 35
abbrev pub is_comment : List ℕ → Bool
is_comment [] = false
is_comment (x ∷ xs) = x == 35

-- words that name addresses, one at least
abbrev pub AreAddresses : List (List ℕ) → Type 0
AreAddresses words = (0 < length words) × All IsAddressText words

-- the words of a line that can be read: none, a comment, or a BSC's number and addresses
abbrev pub IsReadable : List (List ℕ) → Type 0
IsReadable [] = ⊤
IsReadable (word ∷ words) = (is_comment word ≡ true) ⊎ ((bsc : ℕ) × IsBscText word bsc × AreAddresses words)

-- one of the words is the block
abbrev pub IsAmong : Block → List (List ℕ) → Type 0
IsAmong block words = Any (λ word. IsBlockText word block) words

-- the words name the block for the BSC, if they stand behind its number
abbrev pub NamesFor : ℕ → List (List ℕ) → ℕ → Block → Type 0
NamesFor of words bsc block = (bsc ≡ of) × IsAmong block words

-- the words of a line name the block for the BSC
abbrev pub Names : List (List ℕ) → ℕ → Block → Type 0
Names [] bsc block = ⊥
Names (word ∷ words) bsc block = IsBscText word bsc × IsAmong block words

abbrev pub peer_of : ℕ → Block → Peer
peer_of bsc block = record { bsc = bsc; block = block }

-- the peer is the BSC, at that address
abbrev pub lets_in : ℕ → IpAddr → Peer → Bool
lets_in bsc address peer = nat_eq peer.bsc bsc && is_in peer.block address

-- a list has the peer
abbrev pub has_peer : List Peer → Peer → Bool
has_peer peers other = list_any (λ (p : Peer). nat_eq p.bsc other.bsc && is_same_block p.block other.block) peers

-- and doesn't
abbrev pub is_new : List Peer → Peer → Bool
is_new before p = not (has_peer before p)

-- what is named is added
abbrev pub Adds : (ℕ → Block → Type 0) → List Peer → List Peer → Type 0
Adds IsNew old new = (bsc : ℕ) (block : Block) → Contains new (peer_of bsc block) ↔ (Contains old (peer_of bsc block) ⊎ IsNew bsc block)

-- a line of the text names it
abbrev pub IsNamedBy : List ℕ → ℕ → Block → Type 0
IsNamedBy text bsc block = Any (λ line. Names (words_of line) bsc block) (lines_of text)

-- each line of the text can be read
abbrev pub IsListOfPeers : List ℕ → Type 0
IsListOfPeers text = All (λ line. IsReadable (words_of line)) (lines_of text)

-- the peers that the text names
abbrev pub AreNamedBy : List ℕ → List Peer → Type 0
AreNamedBy text peers = (bsc : ℕ) (block : Block) → Contains peers (peer_of bsc block) ↔ IsNamedBy text bsc block

-- the first line that can't be read is the one of that number, counted from 1
pub record IsFirstBad (lines : List (List ℕ)) (number : ℕ) : Type 0 where
  pub before : List (List ℕ)
  pub line : List ℕ
  pub after : List (List ℕ)
  pub split : lines ≡ before ++ line ∷ after
  pub place : number ≡ length before + 1
  pub good : All (λ other. IsReadable (words_of other)) before
  pub bad : ¬ IsReadable (words_of line)

-- why the text can't be read
abbrev pub IsFaultOf : List ℕ → PeersFault → Type 0
IsFaultOf text (Line number) = IsFirstBad (lines_of text) number
IsFaultOf text Memory = ⊤
