use Rattle.std.proofs.Common.{◌≡◌, take}
use Rattle.std.specs.List.{IsDistinct, list_any}
use Rattle.link_resets.specs.Frames.{is_key_of, same_key}
use Rattle.link_resets.specs.declared.emergency_key.EmergencyKey.{EmergencyKey}
use Rattle.link_resets.proofs.emergencies.emergency_keys.Given as goal

-- those of the keys so far, each once
abbrev pub invariant-loop-reported : goal.invariant-loop-reported
invariant-loop-reported l = record {
  found : (k : EmergencyKey) → list_any (same_key k) l.found.items ≡ list_any (is_key_of l.warnings k) (take l.reported-index l.keys);
  once : IsDistinct same_key l.found.items;
}
