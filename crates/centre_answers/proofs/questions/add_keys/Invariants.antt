use Rattle.std.proofs.Common.{◌≡◌, ◌++◌, take}
use Rattle.std.specs.List.{flat_map}
use Rattle.mirror.specs.Line.{state_of}
use Rattle.centre_past.specs.Table.{key_if}
use Rattle.centre_answers.proofs.questions.add_keys.Given as goal

-- what the line says of the versions passed is added
abbrev pub invariant-loop-version : goal.invariant-loop-version
invariant-loop-version l = l.out.items ≡ l.initial.out.items ++ flat_map (λ v. key_if l.c l.message_id v.serial (state_of l.line v.serial).presence) (take l.version-index l.versions)
