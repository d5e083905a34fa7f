use Rattle.std.proofs.Common.{◌≡◌, ◌++◌, drop, string_bytes}
use Rattle.std.specs.List.{flat_map}
use Rattle.console_text.specs.Texts.{key_text}
use Rattle.console_text.proofs.list_text.table_text.Given as goal

-- the lines so far, and those of the keys ahead, are all of them
abbrev pub invariant-loop-key : goal.invariant-loop-key
invariant-loop-key l = string_bytes l.text ++ flat_map key_text (drop l.key-index l.keys) ≡ flat_map key_text l.keys
