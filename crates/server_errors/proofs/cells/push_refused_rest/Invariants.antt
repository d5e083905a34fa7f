use Rattle.std.proofs.Common.{◌≡◌, ◌++◌, drop, string_bytes}
use Rattle.std.specs.List.{flat_map}
use Rattle.server_errors.specs.CellLines.{next_refused}
use Rattle.server_errors.proofs.cells.push_refused_rest.Given as goal

-- the text so far, and the cells ahead, are all of it
abbrev pub invariant-loop-one : goal.invariant-loop-one
invariant-loop-one l = string_bytes l.text ++ flat_map next_refused (drop l.one-index l.refused) ≡ string_bytes l.initial.text ++ flat_map next_refused l.refused
