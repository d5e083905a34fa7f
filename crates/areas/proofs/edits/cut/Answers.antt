use Rattle.std.proofs.Common.{◌≡◌, ◌<◌, ◌≤◌, length, rules}
use Rattle.std.specs.List.{position_or_len}
use Rattle.areas.proofs.PlaceLemmas.{changed_at_place, unchanged_past}
use Rattle.areas.specs.Areas.{is_named, without}
use Rattle.areas.proofs.edits.cut.Goals as goal

pub returns-then-place-len : goal.returns-then-place-len
returns-then-place-len c =
    let place : c.place_of-place.result ≡ position_or_len (is_named c.args.a.now) c.args.areas.now.items = search rules in
    let within : c.place_of-place.result < length c.args.areas.now.items = search rules in
    changed_at_place c.args.a.now (without c.args.s) c.args.areas.now.items c.place_of-place.result c.index_mut-area.result.now c.cut.new.self c.requires place within (search rules) c.cut.ensures

pub returns-else-place-len : goal.returns-else-place-len
returns-else-place-len c =
    let place : c.place_of-place.result ≡ position_or_len (is_named c.args.a.now) c.args.areas.now.items = search rules in
    let past : length c.args.areas.now.items ≤ c.place_of-place.result = search rules in
    unchanged_past c.args.a.now (without c.args.s) c.args.areas.now.items c.place_of-place.result place past
