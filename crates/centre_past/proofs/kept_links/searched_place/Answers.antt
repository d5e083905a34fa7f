use Rattle.std.proofs.Common.{◌≡◌, ◌<◌, ◌≤◌, length, get_or, rules}
use Rattle.centre_past.proofs.LinkPlaceLemmas.{found_at_start, none_at_start, none_past_last}
use Rattle.centre_past.proofs.kept_links.searched_place.Goals as goal

pub returns-in-Some : goal.returns-in-Some
returns-in-Some c =
    let within : c.start_of-place.result < length c.args.links.now = search rules in
    let read : c.in-Some.link.now ≡ get_or c.args.links.now c.start_of-place.result c.in-Some.link.now = search rules in
    found_at_start c.args.b c.args.links.now c.start_of-place.result c.in-Some.link.now c.start_of-place.ensures within read (search rules)

pub returns-in_default : goal.returns-in_default
returns-in_default c =
    let within : c.start_of-place.result < length c.args.links.now = search rules in
    let read : c.in-Some.link.now ≡ get_or c.args.links.now c.start_of-place.result c.in-Some.link.now = search rules in
    none_at_start c.args.b c.args.links.now c.start_of-place.result c.in-Some.link.now c.requires c.start_of-place.ensures within read (search rules)

pub returns-in_default-2 : goal.returns-in_default-2
returns-in_default-2 c =
    let past : length c.args.links.now ≤ c.start_of-place.result = search rules in
    none_past_last c.args.b c.args.links.now c.start_of-place.result c.start_of-place.ensures past
