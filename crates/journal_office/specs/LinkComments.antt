-- The comment of a kept file that says where a link came from.
use Rattle.std.specs.Prelude.{◌≡◌, ℕ, List, [], ◌∷◌, ◌++◌, Some, codes, decimal}
use Rattle.std.specs.Net.Grammar.{IsSocketText}
use Rattle.std.specs.Net.Text.{socket_text}
use Rattle.std.specs.declared.net.socket_addr.SocketAddr.{SocketAddr}
use Rattle.console_text.specs.Grammar.{bsc_of}
use Rattle.console_text.specs.Words.{words_of}

-- the comment that is written: the number of the BSC, and the address and the port as the system writes them
abbrev pub comment_text : ℕ → SocketAddr → List ℕ
comment_text b peer = codes "# link " ++ decimal b ++ codes " " ++ socket_text peer

-- the words are the number of the BSC, and the address with the port
abbrev pub IsPeer : List ℕ → List ℕ → ℕ → SocketAddr → Type 0
IsPeer bsc text b peer = (bsc_of bsc ≡ Some b) × IsSocketText text peer

-- the words say that the BSC's last link came from there
abbrev pub SayPeer : List (List ℕ) → ℕ → SocketAddr → Type 0
SayPeer (mark ∷ kind ∷ bsc ∷ text ∷ []) b peer = (mark ≡ codes "#") × (kind ≡ codes "link") × IsPeer bsc text b peer
SayPeer other b peer = ⊥

-- the comment says so
abbrev pub SaysPeer : List ℕ → ℕ → SocketAddr → Type 0
SaysPeer line b peer = SayPeer (words_of line) b peer
