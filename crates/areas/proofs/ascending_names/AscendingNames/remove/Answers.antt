use Rattle.std.proofs.Common.{◌∙◌, ap, not, rules}
use Rattle.std.specs.Prelude.{bytes_eq}
use Rattle.std.proofs.lemmas.Fn.{filter_same}
use Rattle.common.specs.Order.{is_ascending}
use Rattle.common.specs.OrderLaws.{ascending_filter}
use Rattle.areas.specs.Name.{octets_lt}
use Rattle.areas.proofs.ascending_names.AscendingNames.remove.Goals as goal

pub invariant_of-self : goal.invariant_of-self
invariant_of-self c =
    let kept = filter_same _ (λ b. not (bytes_eq b c.args.a.now)) _ (λ x b f' k. search rules) _ _ c.retain.ensures.filtered in
    ap (is_ascending octets_lt) kept ∙ ascending_filter octets_lt (λ b. not (bytes_eq b c.args.a.now)) c.self.inside.names.items c.self.invariant

pub returns : goal.returns
returns c =
    rw (← c.self.view_is) (filter_same _ (λ b. not (bytes_eq b c.args.a.now)) _ (λ x b f' k. search rules) _ _ c.retain.ensures.filtered)
