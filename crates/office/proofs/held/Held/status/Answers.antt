use Rattle.std.proofs.Common.{◌∙◌, ap}
use Rattle.centre_past.specs.Lists.{status}
use Rattle.office.specs.Helds.{HeldState}
use Rattle.office.proofs.held.Held.status.Goals as goal

pub returns : goal.returns
returns g c = c.status.ensures ∙ ap (λ (held : HeldState). status held.centre) c.self.view_is
