use Rattle.std.proofs.Common.{◌≡◌, true, false, sym, ap, ◌∙◌, rules}
use Rattle.centre_past.specs.Reaching.{is_forget}
use Rattle.centre_lines.proofs.SpotReachLemmas.{known_reached, added_reached, removed_reached, covered_reached, bare_edit, moving_edit, selector_edit, area_edit, stop_edit, update_edit}
use Rattle.centre_lines.proofs.reach.edit_spots.Goals as goal
use Rattle.centre_lines.proofs.reach.edit_spots.Goals.{in-RemoveBsc+in_ok-spots-in-RemoveBsc, in-AddCell+in_ok-spots-in-AddCell, in-MoveCell+in_ok-spots-in-MoveCell, in-RemoveCell+in_ok-spots-in-RemoveCell, in-Issue+in_ok-spots-in-Issue, in-Forget, in-AddBsc, in-Widen+in_ok-spots-in-Widen, in-Stop+in_ok-spots-in-Stop, in-Update+in_ok-spots-in-Update, in-Put+in_ok-spots-in-Put}

pub returns : goal.returns
returns c = λ settings past told. elim c.match-edit.branch [
  | in-RemoveBsc+in_ok-spots-in-RemoveBsc w ↦ rw (w.in-RemoveBsc.is) (known_reached settings past c.args.plan.now.register c.args.plan.now.book c.args.tables.now w.in-RemoveBsc.b c.match-edit.spots.items told.told c.tell_lines.ensures (search rules))
  | in-AddCell+in_ok-spots-in-AddCell w ↦ rw (w.in-AddCell.is) (added_reached w.in-AddCell.b w.in-AddCell.c c.match-edit.spots.items (search rules))
  | in-MoveCell+in_ok-spots-in-MoveCell w ↦ moving_edit settings past c.args.plan.now.register c.args.plan.now.areas c.args.plan.now.book c.args.tables.now c.args.edit.now w.in-MoveCell.c w.in-MoveCell.b c.match-edit.spots.items w.in-MoveCell.is told (search rules)
  | in-RemoveCell+in_ok-spots-in-RemoveCell w ↦ rw (w.in-RemoveCell.is) (removed_reached settings past c.args.plan.now.register c.args.plan.now.book c.args.tables.now w.in-RemoveCell.c c.match-edit.spots.items told.told (search rules))
  | in-Issue+in_ok-spots-in-Issue w ↦ rw (w.in-Issue.is) (covered_reached settings past c.args.plan.now.register c.args.plan.now.areas c.args.plan.now.book c.args.tables.now c.args.edit.now w.in-Issue.names c.match-edit.spots.items told (rw (sym c.register-register.ensures, sym c.areas-areas.ensures) (search rules)))
  | in-Forget w ↦ absurd (let no : true ≡ false = sym (ap is_forget w.in-Forget.is) ∙ c.requires in cc)
  | in-AddBsc w ↦ bare_edit past c.args.edit.now c.match-edit.spots.items w.in-AddBsc.is (search rules)
  | in-Widen+in_ok-spots-in-Widen w ↦ area_edit settings past c.args.plan.now.register c.args.plan.now.areas c.args.plan.now.book c.args.tables.now c.args.edit.now w.in-Widen.a c.match-edit.spots.items w.in-Widen.is told (rw (sym c.register-register.ensures, sym c.areas-areas.ensures) (search rules))
  | in-Stop+in_ok-spots-in-Stop w ↦ stop_edit settings past c.args.plan.now.register c.args.plan.now.areas c.args.plan.now.book c.args.tables.now c.args.edit.now w.in-Stop.n c.match-edit.spots.items w.in-Stop.is told (rw (sym c.register-register.ensures, sym c.areas-areas.ensures) (search rules))
  | in-Update+in_ok-spots-in-Update w ↦ update_edit past c.args.edit.now w.in-Update.n c.match-edit.spots.items (search rules) (rw (w.spots-is) (w.in_ok-spots-in-Update.ensures settings past told))
  | in-Put+in_ok-spots-in-Put w ↦ selector_edit settings past c.args.plan.now.register c.args.plan.now.book c.args.tables.now c.args.edit.now w.in-Put.s c.match-edit.spots.items w.in-Put.is told.told (rw (sym c.register-register.ensures) (search rules))
]
