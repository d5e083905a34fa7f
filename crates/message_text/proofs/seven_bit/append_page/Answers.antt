use Rattle.std.proofs.Common.{◌<◌, ℕ, List, sym, ◌∙◌, subst}
use Rattle.std.specs.List.{AllByRecursion}
use Rattle.message_text.proofs.PageLemmas.{low_septets}
use Rattle.message_text.proofs.seven_bit.append_page.Goals as goal

pub append_letters-requires : goal.append_letters-requires
append_letters-requires c =
    subst (λ (s : List ℕ). AllByRecursion (λ septet. septet < 128) s) (sym (c.as_slice.ensures.value ∙ c.in_ok-septets.ensures)) (low_septets c.args.octets.now)
