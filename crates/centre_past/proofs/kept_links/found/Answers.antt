use Rattle.std.proofs.Common.{◌≡◌, ◌∙◌, sym, ap, arith}
use Rattle.std.specs.Prelude.{slice_get}
use Rattle.std.specs.Option.{option_copied}
use Rattle.std.proofs.lemmas.Grind.{common_steps}
use Rattle.std.proofs.lemmas.List.Folds.{find_at}
use Rattle.std.proofs.lemmas.Option.{gets}
use Rattle.centre_past.specs.Links.{is_link_of}
use Rattle.centre_past.proofs.kept_links.found.Goals as goal

pub returns : goal.returns
returns c =
    let read : option_copied c.get.result ≡ slice_get c.args.links.now c.place_of.result = grind (arith, common_steps, gets) in
    read ∙ ap (slice_get c.args.links.now) c.place_of.ensures ∙ sym (find_at (is_link_of c.args.b) c.args.links.now)
