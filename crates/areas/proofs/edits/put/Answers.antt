use Rattle.std.proofs.Common.{◌≡◌, ◌<◌, ◌≤◌, length, rules}
use Rattle.std.specs.List.{position_or_len}
use Rattle.areas.proofs.PlaceLemmas.{changed_at_place, unchanged_past}
use Rattle.areas.specs.Areas.{is_named, with_one}
use Rattle.areas.proofs.edits.put.Goals as goal

pub returns-in_ok-insert-clause-put : goal.returns-in_ok-insert-clause-put
returns-in_ok-insert-clause-put c =
    let place : c.place_of-place.result ≡ position_or_len (is_named c.args.a.now) c.args.areas.now.items = search rules in
    let within : c.place_of-place.result < length c.args.areas.now.items = search rules in
    changed_at_place c.args.a.now (with_one c.args.s) c.args.areas.now.items c.place_of-place.result c.index_mut-area.result.now c.insert.new.self c.requires place within (search rules) c.in_ok-insert.ensures.put

pub returns-else-place-len-clause-put : goal.returns-else-place-len-clause-put
returns-else-place-len-clause-put c =
    let place : c.place_of-place.result ≡ position_or_len (is_named c.args.a.now) c.args.areas.now.items = search rules in
    let past : length c.args.areas.now.items ≤ c.place_of-place.result = search rules in
    unchanged_past c.args.a.now (with_one c.args.s) c.args.areas.now.items c.place_of-place.result place past
