-- In which cells of one BSC the numbers of broadcasts of its messages don't rise.
use Rattle.std.specs.Prelude.{◌≡◌, ℕ, List, [], count_by, map, if◌then◌else◌}
use Rattle.std.specs.List.{filter}
use Rattle.std.specs.BTreeMap.{is_at}
use Rattle.std.specs.Map.{lookup}
use Rattle.std.specs.Option.{unwrap_or}
use Rattle.common.specs.declared.cell.Cell.{Cell}
use Rattle.broadcast_watch.specs.Spells.{is_elsewhere, is_silent, spells_after}
use Rattle.broadcast_watch.specs.Versions.{is_among, is_version, key_cmp, key_of, version_of}
use Rattle.broadcast_watch.specs.declared.counted.Counted.{Counted}
use Rattle.broadcast_watch.specs.declared.message_key.MessageKey.{MessageKey}
use Rattle.broadcast_watch.specs.declared.spell.Spell.{Spell}
use Rattle.link_rules.specs.declared.version.Version.{Version}

-- what is known of each message, in the order of messages
abbrev pub Messages : Type 0
Messages = List (MessageKey × List Spell)

-- the spells of a version; none where nothing is known of it
abbrev pub spells_at : Version → Messages → List Spell
spells_at v messages = unwrap_or (lookup (is_at (key_cmp (key_of v))) messages) []

-- in how many cells it is silent
abbrev pub silent_count : Version → Messages → ℕ
silent_count v messages = count_by is_silent (spells_at v messages)

-- the version has these spells then, and each other one those that it had
abbrev pub Sets : Version → List Spell → Messages → Messages → Type 0
Sets v spells old new = (w : Version) → spells_at w new ≡ (if is_version v w then spells else spells_at w old)

-- a reply to a query for the version was heard
abbrev pub Hears : ℕ → ℕ → Version → Cell → Cell → List Counted → Messages → Messages → Type 0
Hears limit now v first last counted old new = Sets v (spells_after limit now first last counted (spells_at v old)) old new

-- those of these versions
abbrev pub kept : List Version → Messages → Messages
kept versions messages = filter (λ m. is_among versions (version_of m.0)) messages

-- a RESTART took what was on air in these cells off the air: nothing is known of them
abbrev pub restarted : List Cell → Messages → Messages
restarted cells messages = map (λ m. (m.0, filter (is_elsewhere cells) m.1)) messages
