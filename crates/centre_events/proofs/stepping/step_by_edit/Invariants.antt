use Rattle.std.proofs.Common.{◌≡◌, false, drop, map}
use Rattle.centre_events.specs.Counts.{edit_count}
use Rattle.centre_events.specs.Presence.{edit_effect}
use Rattle.centre_events.specs.Stepping.{stepped}
use Rattle.centre_events.proofs.stepping.step_by_edit.Given as goal

-- what is still done to the versions ahead, and that the line is as it was where no version was given another value
abbrev pub invariant-loop-version : goal.invariant-loop-version
invariant-loop-version l = record {
  line : stepped (λ s. edit_effect l.b l.message_id s l.edit l.answer l.warnings) (λ s. edit_count l.b l.message_id s l.edit l.answer l.warnings) l.line (map (λ v. v.serial) (drop l.version-index l.versions)) ≡ stepped (λ s. edit_effect l.b l.message_id s l.edit l.answer l.warnings) (λ s. edit_count l.b l.message_id s l.edit l.answer l.warnings) l.fn.line (map (λ v. v.serial) l.versions);
  same : l.is_changed ≡ false → l.line ≡ l.fn.line;
}
