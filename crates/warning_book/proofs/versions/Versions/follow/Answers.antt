use Rattle.std.proofs.Common.{rules}
use Rattle.warning_book.proofs.VersionLemmas.{serials_followed}
use Rattle.warning_book.proofs.versions.Versions.follow.Goals as goal

pub invariant_of-self-2 : goal.invariant_of-self-2
invariant_of-self-2 c = serials_followed c.args.version c.self.inside.versions.items _ c.self.inside.serials.items _ c.self.invariant (search rules) (search rules)
