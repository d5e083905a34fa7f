use Rattle.std.proofs.Common.{◌≡◌, ◌∙◌, true, false, sym, rules}
use Rattle.centre_lines.proofs.SpotReachLemmas.{spots_where, warning_reached, wrapped_reached, wraps_by}
use Rattle.centre_lines.proofs.reach.updated.Goals as goal

pub returns-then-wraps : goal.returns-then-wraps
returns-then-wraps c =
    let yes : c.wraps.result ≡ true = search rules in
    λ settings past told.
    spots_where past c.args.n true c.in_ok-spots.spots.items (sym (wraps_by past c.book.result.now c.args.n (c.book.ensures ∙ told.told.booked)) ∙ sym c.wraps.ensures ∙ yes)
    (wrapped_reached settings past c.args.plan.now.register c.args.plan.now.book c.args.tables.now c.in_ok-spots.spots.items told.told c.tell_lines.ensures (rw (c.register.ensures) at c.in_ok-spots.ensures))

pub returns : goal.returns
returns c =
    let no : c.wraps.result ≡ false = search rules in
    λ settings past told.
    spots_where past c.args.n false c.in_ok-spots-2.spots.items (sym (wraps_by past c.book.result.now c.args.n (c.book.ensures ∙ told.told.booked)) ∙ sym c.wraps.ensures ∙ no)
    (warning_reached settings past c.args.plan.now.register c.args.plan.now.areas c.args.plan.now.book c.args.tables.now c.args.edit.now c.args.n c.in_ok-spots-2.spots.items told (search rules))
