use Rattle.std.proofs.Common.{◌≡◌, ◌<◌, ◌≤◌, length, rules}
use Rattle.std.specs.List.{position_or_len}
use Rattle.warning_book.proofs.PlaceLemmas.{changed_at_place, unchanged_past, not_so_at_place}
use Rattle.warning_book.specs.Book.{has_number, names, widened}
use Rattle.warning_book.proofs.edits.widen.Goals as goal

pub widen_one-requires : goal.widen_one-requires
widen_one-requires c =
    let place : c.place_of-place.result ≡ position_or_len (has_number c.args.number) c.args.warnings.now.items = search rules in
    let within : c.place_of-place.result < length c.args.warnings.now.items = search rules in
    not_so_at_place c.args.number (names c.args.a.now) c.args.warnings.now.items c.place_of-place.result c.index_mut-warning.result.now place within (search rules) c.requires.new

pub returns-in_ok-widen_one-clause-widened : goal.returns-in_ok-widen_one-clause-widened
returns-in_ok-widen_one-clause-widened c =
    let place : c.place_of-place.result ≡ position_or_len (has_number c.args.number) c.args.warnings.now.items = search rules in
    let within : c.place_of-place.result < length c.args.warnings.now.items = search rules in
    changed_at_place c.args.number (widened c.args.a.now) c.args.warnings.now.items c.place_of-place.result c.index_mut-warning.result.now c.widen_one.new.warning c.requires.ordered place within (search rules) c.in_ok-widen_one.ensures.widened

pub returns-else-place-len-clause-widened : goal.returns-else-place-len-clause-widened
returns-else-place-len-clause-widened c =
    let place : c.place_of-place.result ≡ position_or_len (has_number c.args.number) c.args.warnings.now.items = search rules in
    let past : length c.args.warnings.now.items ≤ c.place_of-place.result = search rules in
    unchanged_past c.args.number (widened c.args.a.now) c.args.warnings.now.items c.place_of-place.result place past
