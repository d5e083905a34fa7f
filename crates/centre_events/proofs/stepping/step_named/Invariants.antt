use Rattle.std.proofs.Common.{◌≡◌, true, false, Some, None, drop, map}
use Rattle.std.specs.Prelude.{if◌then◌else◌}
use Rattle.common.specs.declared.cell.Cell.{Cell}
use Rattle.centre_events.specs.Counts.{is_counted_key}
use Rattle.centre_events.specs.Effects.{flight_effect, is_among}
use Rattle.centre_events.specs.InFlight.{cells_of, id_of}
use Rattle.centre_events.specs.Stepping.{stepped}
use Rattle.centre_events.proofs.stepping.step_named.Given as goal

-- what is still done to the versions ahead, and that the line is as it was where no version was given another value
abbrev pub invariant-loop-version : goal.invariant-loop-version
invariant-loop-version l = record {
  line : (c : Cell) → is_among c (cells_of l.flight) ≡ true → stepped (λ s. flight_effect (Some l.flight) l.outcome c (id_of l.flight) s) (λ s. if is_counted_key l.flight c (id_of l.flight) s then l.count else None) l.line (map (λ v. v.serial) (drop l.version-index l.versions)) ≡ stepped (λ s. flight_effect (Some l.flight) l.outcome c (id_of l.flight) s) (λ s. if is_counted_key l.flight c (id_of l.flight) s then l.count else None) l.fn.line (map (λ v. v.serial) l.versions);
  same : l.is_changed ≡ false → l.line ≡ l.fn.line;
}
