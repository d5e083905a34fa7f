use Rattle.std.proofs.Common.{◌≡◌, ◌<◌, ◌≤◌, Option, ap, length, rules}
use Rattle.std.specs.List.{position_or_len}
use Rattle.std.specs.Option.{option_map, option_and_then}
use Rattle.serials.specs.Serials.{next_of}
use Rattle.warning_book.proofs.PlaceLemmas.{changed_at_place, found_at_place, not_so_at_place, has_place}
use Rattle.warning_book.specs.Book.{has_number, current_of, has_none, updated}
use Rattle.warning_book.specs.declared.warning.Warning.{Warning}
use Rattle.warning_book.proofs.edits.update.Goals as goal

pub returns-then-place-len-clause-memory : goal.returns-then-place-len-clause-memory
returns-then-place-len-clause-memory c =
    let place : c.place_of-place.result ≡ position_or_len (has_number c.args.number) c.args.warnings.now.items = search rules in
    let past : length c.args.warnings.now.items ≤ c.place_of-place.result = search rules in
    has_place c.args.number c.args.warnings.now.items c.place_of-place.result place past c.requires.there

pub update_one-requires : goal.update_one-requires
update_one-requires c =
    let place : c.place_of-place.result ≡ position_or_len (has_number c.args.number) c.args.warnings.now.items = search rules in
    let within : c.place_of-place.result < length c.args.warnings.now.items = search rules in
    not_so_at_place c.args.number has_none c.args.warnings.now.items c.place_of-place.result c.index_mut-warning.result.now place within (search rules) c.requires.some

pub returns-clause-serial : goal.returns-clause-serial
returns-clause-serial c =
    let place : c.place_of-place.result ≡ position_or_len (has_number c.args.number) c.args.warnings.now.items = search rules in
    let within : c.place_of-place.result < length c.args.warnings.now.items = search rules in
    let found = found_at_place c.args.number c.args.warnings.now.items c.place_of-place.result c.index_mut-warning.result.now place within (search rules) in
    rw (ap (λ (o : Option Warning). option_map next_of (option_and_then current_of o)) found) c.in_ok-serial.ensures.serial

pub returns-clause-updated : goal.returns-clause-updated
returns-clause-updated c =
    let place : c.place_of-place.result ≡ position_or_len (has_number c.args.number) c.args.warnings.now.items = search rules in
    let within : c.place_of-place.result < length c.args.warnings.now.items = search rules in
    changed_at_place c.args.number (updated c.args.content.now) c.args.warnings.now.items c.place_of-place.result c.index_mut-warning.result.now c.update_one.new.warning c.requires.ordered place within (search rules) c.in_ok-serial.ensures.updated
