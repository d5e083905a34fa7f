use Rattle.std.proofs.Common.{◌∙◌, ◌≡◌, ℕ, List, MatchOption, subst}
use Rattle.std.specs.declared.net.socket_addr.SocketAddr.{SocketAddr as ASocketAddr}
use Rattle.journal_office.specs.LinkComments.{SayPeer}
use Rattle.journal_office.proofs.comments.read_link_comment.Goals as goal

pub returns : goal.returns
returns c = subst (λ (ws : List (List ℕ)). MatchOption c.said_in.result ((b : ℕ) (a : ASocketAddr) → ¬ SayPeer ws b a) (λ p. SayPeer ws p.0 p.1)) (c.as_slice.ensures.value ∙ c.in_ok-words.ensures) c.said_in.ensures
