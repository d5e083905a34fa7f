use Rattle.std.proofs.Common.{◌≡◌, ◌<◌, ◌≤◌, ◌∙◌, None, true, false, length, sym, ap, rules}
use Rattle.std.specs.List.{position_or_len}
use Rattle.std.specs.Option.{is_some}
use Rattle.centre_past.specs.Links.{is_link_of, link_in}
use Rattle.centre_past.proofs.LinkPlaceLemmas.{none_there, put_new, put_there}
use Rattle.centre_past.proofs.kept_links.put_link.Goals as goal

pub returns-then-place-len-clause-put : goal.returns-then-place-len-clause-put
returns-then-place-len-clause-put c =
    let links = c.args.links.now.items in
    let place : c.place_of-place.result ≡ position_or_len (is_link_of c.args.link.bsc) links = search rules in
    let within : c.place_of-place.result < length links = search rules in
    put_there links c.place_of-place.result c.args.link c.requires place within

pub returns-in_err-insert_in_order-clause-memory : goal.returns-in_err-insert_in_order-clause-memory
returns-in_err-insert_in_order-clause-memory c = λ some.
    let links = c.args.links.now.items in
    let place : c.place_of-place.result ≡ position_or_len (is_link_of c.args.link.bsc) links = search rules in
    let past : length links ≤ c.place_of-place.result = search rules in
    let none : link_in links c.args.link.bsc ≡ None = none_there c.args.link.bsc links c.place_of-place.result place past in
    absurd (let no : false ≡ true = sym (ap is_some none) ∙ some in cc)

pub returns-clause-put : goal.returns-clause-put
returns-clause-put c =
    let links = c.args.links.now.items in
    let place : c.place_of-place.result ≡ position_or_len (is_link_of c.args.link.bsc) links = search rules in
    let past : length links ≤ c.place_of-place.result = search rules in
    c.in_ok-insert_in_order.ensures.inserted ∙ put_new links c.place_of-place.result c.args.link place past
