use Rattle.std.proofs.Common.{◌≡◌, ◌++◌, take}
use Rattle.std.specs.List.{flat_map}
use Rattle.cbsp_messages.specs.Parts.{parts_of}
use Rattle.cbsp_messages.specs.Written.{octets_at}
use Rattle.cbsp_messages.proofs.writing.write_body.Given as goal

-- the elements that come before the index are appended
abbrev pub invariant-loop-id : goal.invariant-loop-id
invariant-loop-id l =
    l.out.items ≡ l.fn.out.items ++ flat_map (octets_at (parts_of l.message)) (take l.id-index l.id-items)
