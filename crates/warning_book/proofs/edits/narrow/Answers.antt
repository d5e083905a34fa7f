use Rattle.std.proofs.Common.{◌≡◌, ◌<◌, ◌≤◌, length, rules}
use Rattle.std.specs.List.{position_or_len}
use Rattle.warning_book.proofs.PlaceLemmas.{changed_at_place, unchanged_past}
use Rattle.warning_book.specs.Book.{has_number, narrowed}
use Rattle.warning_book.proofs.edits.narrow.Goals as goal

pub returns-then-place-len : goal.returns-then-place-len
returns-then-place-len c =
    let place : c.place_of-place.result ≡ position_or_len (has_number c.args.number) c.args.warnings.now.items = search rules in
    let within : c.place_of-place.result < length c.args.warnings.now.items = search rules in
    changed_at_place c.args.number (narrowed c.args.a.now) c.args.warnings.now.items c.place_of-place.result c.index_mut-warning.result.now c.narrow_one.new.warning c.requires.ordered place within (search rules) c.narrow_one.ensures

pub returns-else-place-len : goal.returns-else-place-len
returns-else-place-len c =
    let place : c.place_of-place.result ≡ position_or_len (has_number c.args.number) c.args.warnings.now.items = search rules in
    let past : length c.args.warnings.now.items ≤ c.place_of-place.result = search rules in
    unchanged_past c.args.number (narrowed c.args.a.now) c.args.warnings.now.items c.place_of-place.result place past
