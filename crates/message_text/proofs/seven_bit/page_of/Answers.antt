use Rattle.std.proofs.Common.{ℕ, List, ◌<◌, ◌≤◌, length, false, ap, sym, ◌∙◌, subst}
use Rattle.std.specs.List.{AllByRecursion}
use Rattle.message_text.specs.Reading.{spelled}
use Rattle.message_text.specs.Septets.{septets_of}
use Rattle.message_text.specs.Writing.{filled, packed}
use Rattle.message_text.proofs.PageLemmas.{page_read, page_low, page_length}
use Rattle.message_text.proofs.seven_bit.page_of.Goals as goal

pub packed-requires : goal.packed-requires
packed-requires c =
    let made = c.as_slice.ensures.value ∙ c.in_ok-fill.ensures ∙ ap filled c.in_ok-septets.ensures in
    subst (λ (s : List ℕ). AllByRecursion (λ septet. septet < 128) s) (sym made) (page_low c.args.letters.now c.requires.coded)

pub returns-clause-read : goal.returns-clause-read
returns-clause-read c =
    let made = c.from_vec.ensures ∙ c.in_ok-packed.ensures ∙ ap packed (c.as_slice.ensures.value ∙ c.in_ok-fill.ensures ∙ ap filled c.in_ok-septets.ensures) in
    ap (λ o. spelled false (septets_of o)) made ∙ page_read c.args.letters.now c.requires.coded c.requires.some

pub returns-clause-some : goal.returns-clause-some
returns-clause-some c =
    let made = c.from_vec.ensures ∙ c.in_ok-packed.ensures ∙ ap packed (c.as_slice.ensures.value ∙ c.in_ok-fill.ensures ∙ ap filled c.in_ok-septets.ensures) in
    subst (λ (o : List ℕ). 1 ≤ length o) (sym made) (page_length c.args.letters.now c.requires.coded c.requires.some c.requires.room).0

pub returns-clause-room : goal.returns-clause-room
returns-clause-room c =
    let made = c.from_vec.ensures ∙ c.in_ok-packed.ensures ∙ ap packed (c.as_slice.ensures.value ∙ c.in_ok-fill.ensures ∙ ap filled c.in_ok-septets.ensures) in
    subst (λ (o : List ℕ). length o ≤ 82) (sym made) (page_length c.args.letters.now c.requires.coded c.requires.some c.requires.room).1
