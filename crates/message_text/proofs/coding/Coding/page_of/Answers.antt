use Rattle.std.proofs.Common.{◌≡◌, ℕ, List, ◌*◌, ◌≤◌, length, arith, subst}
use Rattle.std.specs.List.{sum_by}
use Rattle.message_text.specs.Writing.{room, width}
use Rattle.message_text.specs.declared.coding.Coding.{Coding}
use Rattle.message_text.specs.declared.coding.Coding.TheVariants.{Ucs2}
use Rattle.message_text.proofs.CuttingLemmas.{if_ok_both, ucs2_room}
use Rattle.message_text.proofs.coding.Coding.page_of.Goals as goal

pub returns-in-Ucs2-clause-room : goal.returns-in-Ucs2-clause-room
returns-in-Ucs2-clause-room c =
    let fits : sum_by (width Ucs2) c.args.letters.now ≤ 41 =
    subst (λ (k : Coding). sum_by (width k) c.args.letters.now ≤ room k) c.in-Ucs2.is c.requires.room in
    let whole : length c.args.letters.now ≡ sum_by (width Ucs2) c.args.letters.now = ucs2_room c.args.letters.now in
    if_ok_both (λ (octets : List ℕ). length octets ≡ 2 * length c.args.letters.now) (λ (octets : List ℕ). length octets ≤ 82) c.page_of-in-Ucs2.result
    (λ octets e. omega arith) c.page_of-in-Ucs2.ensures.len
