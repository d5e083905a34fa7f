use Rattle.std.proofs.Common.{◌≡◌, nat_eq, length, take, sym, ◌∙◌, rules}
use Rattle.std.specs.Cmp.{unsigned_Decides}
use Rattle.std.specs.Cmp.Lexicographic.{pointwise, pointwise_decides}
use Rattle.order_maker.proofs.deeds.keeps_versions.Goals as goal

pub returns-then-before-after-clause-first : goal.returns-then-before-after-clause-first
returns-then-before-after-clause-first c =
    let first = c.args.before.now.versions.now in
    let begin = take (length first) c.args.after.now.versions.now in
    let test : c.starts_with.result ≡ pointwise nat_eq first begin = search rules in
    λ h. sym ((pointwise_decides unsigned_Decides first begin).0 (sym test ∙ h))
