use Rattle.std.proofs.Common.{◌≡◌, ◌∙◌, ap, sym, not, rules}
use Rattle.std.specs.Prelude.{bytes_eq}
use Rattle.std.specs.List.{filter}
use Rattle.areas.proofs.HolderLemmas.{names_found, without_holder}
use Rattle.areas.specs.Holders.{names_at}
use Rattle.areas.proofs.holders.Holders.take_out.Goals as goal

pub returns-clause-without : goal.returns-clause-without
returns-clause-without c =
    let old = c.self.inside.names.entries in
    let found : names_at old c.args.s ≡ c.in-Some.names.now = names_found c.args.s c.in-Some.names.now old (rw c.of.ensures at (sym c.in-Some.ensures.value)) in
    let set = rw c.of.ensures at ((c.get_mut.follows.holds c.remove.new.self).3 (search rules)).0 in
    rw (← c.self.view_is) (without_holder c.args.s c.args.a.now c.remove.new.self old (c.get_mut.follows.lender c.remove.new.self).entries (c.remove.ensures ∙ ap (filter (λ b. not (bytes_eq b c.args.a.now))) (sym found)) set)
