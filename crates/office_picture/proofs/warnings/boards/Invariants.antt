use Rattle.std.proofs.Common.{◌≡◌, map}
use Rattle.office_picture.specs.Pictures.{board_of}
use Rattle.office_picture.proofs.warnings.boards.Given as goal

-- the areas that are made are of those that were taken
abbrev pub invariant-loop-area : goal.invariant-loop-area
invariant-loop-area l = l.boards.items ≡ map board_of l.yielded
