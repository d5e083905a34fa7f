use Rattle.std.proofs.Common.{◌∙◌, ap}
use Rattle.common.specs.Order.{is_ascending}
use Rattle.centre_past.specs.Links.{link_lt}
use Rattle.centre_past.specs.declared.link.Link.{Link}
use Rattle.centre_past.proofs.LinkPlaceLemmas.{put_ascends}
use Rattle.centre_past.proofs.kept_links.KeptLinks.put.Goals as goal

pub invariant_of-self-2 : goal.invariant_of-self-2
invariant_of-self-2 c =
    let link : Link = record { bsc = c.args.b; generation = c.args.generation; state = c.args.state } in
    ap (is_ascending link_lt) c.in_ok-put_link.ensures.put ∙ put_ascends link c.self.inside.links.items c.self.invariant
