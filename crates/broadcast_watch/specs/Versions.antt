-- Versions of warnings, as BSCs know them.
use Rattle.std.specs.Prelude.{Bool, ◌&&◌, List, nat_eq}
use Rattle.std.specs.List.{list_any}
use Rattle.std.specs.Ordering.{nat_cmp, ordering_then}
use Rattle.std.specs.declared.cmp.Ordering.{Ordering}
use Rattle.broadcast_watch.specs.declared.message_key.MessageKey.{MessageKey}
use Rattle.link_rules.specs.declared.version.Version.{Version}

-- the two have one message identifier and one serial number
abbrev pub is_version : Version → Version → Bool
is_version v w = nat_eq w.message_id v.message_id && nat_eq w.serial v.serial

-- the version is one of these
abbrev pub is_among : List Version → Version → Bool
is_among versions v = list_any (is_version v) versions

-- what a version is found by
abbrev pub key_of : Version → MessageKey
key_of v = record { message_id = v.message_id; serial = v.serial }

-- the version that is found by that
abbrev pub version_of : MessageKey → Version
version_of k = record { message_id = k.message_id; serial = k.serial }

-- the order of messages, by message identifier, then by serial number
abbrev pub key_cmp : MessageKey → MessageKey → Ordering
key_cmp a b = ordering_then (nat_cmp a.message_id b.message_id) (nat_cmp a.serial b.serial)
