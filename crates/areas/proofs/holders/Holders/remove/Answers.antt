use Rattle.std.proofs.Common.{◌≡◌, [], rules}
use Rattle.areas.proofs.HolderLemmas.{none_taken}
use Rattle.areas.specs.Holders.{names_at}
use Rattle.areas.proofs.holders.Holders.remove.Goals.{in-Some-1, in-None-1}
use Rattle.areas.proofs.holders.Holders.remove.Goals as goal

pub returns-then-take_out : goal.returns-then-take_out
returns-then-take_out c =
    let none : names_at c.take_out.new.self c.args.s ≡ [] = search rules in
    let taken = none_taken c.args.s c.args.a.now c.args.self.now c.take_out.new.self c.remove.new.self.entries c.take_out.ensures.without none (λ q. rw (c.of.ensures, c.self.view_is) at (c.remove.ensures.updates.0 q)) in
    elim c.match-remove.branch [
      | in-Some-1 w ↦ rw w.self-is taken
      | in-None-1 w ↦ rw w.self-is taken
    ]
