use Rattle.std.proofs.Common.{◌≡◌, map}
use Rattle.office_picture.specs.Pictures.{warning_of}
use Rattle.office_picture.proofs.warnings.warnings.Given as goal

-- the warnings that are made are of those that were taken
abbrev pub invariant-loop-row : goal.invariant-loop-row
invariant-loop-row l = l.warnings.items ≡ map (warning_of l.airs) l.yielded
